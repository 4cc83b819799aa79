-- Properties of a relaxed timetable: the courses that the group concerns have their lectures in distinct periods of the week.
use Rattle.std.proofs.Common.{◌≡◌, ℕ, ◌≤◌, true, false, ◌&&◌, List, sym, subst, arith}
use Rattle.std.specs.Prelude.{Contains, sum_by, count_by}
use Rattle.std.specs.List.{list_any}
use Rattle.std.proofs.lemmas.Bool.{and_parts}
use Rattle.tt_list_laws.proofs.Sums.{one_if, one_if_true, sum_by-le, sum_by-swap, sum_by-tight, one_if_any, any_if_count, each, once_at_most}
use Rattle.tt_list_laws.proofs.Members.{at_member, member_from_any, none_passes, no_two}
use Rattle.tt_instance.specs.Problem.{Problem}
use Rattle.tt_instance.specs.Cells.{slot_of, all_slots, is_of, is_at}
use Rattle.tt_instance.specs.Courses.{lectures, unavailable}
use Rattle.tt_instance.specs.declared.cell.Cell.{Cell}
use Rattle.tt_instance.specs.declared.cell.Slot.{Slot}
use Rattle.tt_instance.proofs.Cells.{IsSlot, each_slot, is_at-slot}
use Rattle.tt_instance.proofs.Places.{count_slots}
use Rattle.tt_rules.specs.Hard.{entries_of, periods_of, collide}
use Rattle.tt_rules.proofs.Feasible.{periods-le_entries, collide-turn, collide-itself}
use Rattle.tt_groups.specs.Group.{Group, concerns, entries_for, IsRelaxedTimetable}
use Rattle.tt_groups.proofs.Lists.{passing_member}

module _ (p : Problem) (g : Group) (t : List Cell) (relaxed : IsRelaxedTimetable p g t) where
  module _ (c : ℕ) (own : concerns p g c ≡ true) where
    -- the course has all its lectures, each in a period of its own
    pub periods_met : periods_of p t c ≡ lectures p c
    periods_met = let e = relaxed.lectures c own in let k = periods-le_entries p t c in omega arith

    pub entries_met : entries_of t c ≤ periods_of p t c
    entries_met = let e = relaxed.lectures c own in omega arith

    -- each entry of the course has a period of the week
    pub in_week : (x : Cell) → Contains t x → is_of c x ≡ true → IsSlot p (slot_of x)
    in_week x m e =
        let w : Slot → Cell → ℕ = λ s y. one_if (is_of c y && is_at s y) in
        let places : Cell → ℕ = λ y. sum_by (λ s. w s y) (all_slots p) in
        let own_one : Cell → ℕ = λ y. one_if (is_of c y) in
        let below = each (λ y. places y ≤ own_one y) (λ y. once_at_most (is_of c y) (λ s. is_at s y) 1 (all_slots p) (count_slots p y)) t in
        let turned = sum_by-swap (λ y s. w s y) t (all_slots p) in
        let met = sum_by-le (λ s. one_if (list_any (λ y. is_of c y && is_at s y) t)) (λ s. count_by (λ y. is_of c y && is_at s y) t)
        (all_slots p)
        (each (λ s. one_if (list_any (λ y. is_of c y && is_at s y) t) ≤ count_by (λ y. is_of c y && is_at s y) t)
        (λ s. one_if_any (λ y. is_of c y && is_at s y) t) (all_slots p)) in
        let tight = sum_by-tight places own_one t below (omega (arith, turned, met, entries_met)) in
        let here = at_member (λ y. own_one y ≤ places y) t x tight m in
        let found = member_from_any (λ s. is_of c x && is_at s x) (all_slots p)
        (any_if_count (λ s. is_of c x && is_at s x) (all_slots p) (omega (arith, here, one_if_true (is_of c x) e))) in
        let at = (and_parts (is_of c x) (is_at found.0 x) found.2).1 in
        subst (IsSlot p) (sym (is_at-slot found.0 x at)) (at_member (IsSlot p) (all_slots p) found.0 (each_slot p) found.1)

  -- no two entries of courses that the group concerns conflict
  pub no_clash : (x y : Cell) → Contains t x → Contains t y → concerns p g x.course ≡ true → concerns p g y.course ≡ true
      → collide p x y ≡ true → ⊥
  no_clash x y hx hy ox oy =
      no_two (collide p) (collide-turn p) (collide-itself p) (entries_for p g t) relaxed.conflicts x y
      (passing_member (λ e. concerns p g e.course) t x hx ox) (passing_member (λ e. concerns p g e.course) t y hy oy)

  -- each course is available in the period of its entry
  pub open_there : (x : Cell) → Contains t x → concerns p g x.course ≡ true → unavailable p x.course x.day x.period ≡ false
  open_there x h o =
      none_passes (λ e. unavailable p e.course e.day e.period) (entries_for p g t) x relaxed.availability
      (passing_member (λ e. concerns p g e.course) t x h o)
