-- If a feasible timetable fits the path, each of its entries is a live cell.
use Rattle.std.proofs.Common.{◌≡◌, ℕ, true, not, ◌&&◌, ◌||◌, List, length, sym, ◌∙◌, inl, inr, eq-eqb}
use Rattle.std.specs.Prelude.{Contains, ◌==◌}
use Rattle.std.specs.List.{list_any}
use Rattle.std.proofs.lemmas.List.Elements.{All-contains}
use Rattle.std.proofs.lemmas.Bool.{and_parts, and_from, or_cases, false_from_ne_true, not-true, both_ways, not_from_false}
use Rattle.tt_instance.specs.Problem.{Problem}
use Rattle.tt_instance.specs.Cells.{slot, slot_of, cell, is_of, is_at, is_in}
use Rattle.tt_instance.specs.Courses.{unavailable}
use Rattle.tt_instance.specs.declared.cell.Slot.{Slot}
use Rattle.tt_rules.specs.Score.{IsFeasible}
use Rattle.tt_path.specs.Facts.{is_who, matches, Holds, Fits}
use Rattle.tt_path.specs.Live.{clash, is_barred, excludes, is_dead, is_live, live_period, live_day, gives, is_pinned_by, pinned, pinned_room}
use Rattle.tt_instance.specs.declared.cell.Cell.{Cell}
use Rattle.tt_path.specs.declared.facts.Who.{Who}
use Rattle.tt_path.specs.declared.facts.Who.TheVariants.{Course}
use Rattle.tt_path.specs.declared.facts.Fact.{Fact}
use Rattle.tt_list_laws.proofs.Numbers.{any_below}
use Rattle.tt_list_laws.proofs.Members.{any_member, member_from_any}
use Rattle.tt_instance.proofs.Places.{each_cell_at}
use Rattle.tt_rules.proofs.Feasible.{in_range, available}
use Rattle.tt_path.proofs.Matching.{gives-agrees, speaks-is_who, Matches-from}
use Rattle.tt_leaf_rules.proofs.Clash.{no_clash}

-- -- what a yes-fact says about the entry that matches it

module _ (p : Problem) (t : List Cell) (ok : IsFeasible p t) (path : List Fact) (fits : Fits p t path) where
  -- some entry matches a yes-fact
  pub matched : (f : Fact) → Contains path f → f.holds ≡ true → (x : Cell) × Contains t x × (matches p f.pattern x ≡ true)
  matched f h yes' = member_from_any (matches p f.pattern) t (All-contains (Holds p t) path f fits h ∙ yes')

  pub not_barred : (x : Cell) → Contains t x → is_barred p path x ≡ true → ⊥
  not_barred x h e = elim (or_cases (unavailable p x.course x.day x.period) (list_any (λ f. not f.holds && matches p f.pattern x) path) e) [
    | inl u ↦ both_ways (unavailable p x.course x.day x.period) (available p t ok x h) u
    | inr n ↦ by_fact (member_from_any (λ f. not f.holds && matches p f.pattern x) path n)
  ]
    where
      by_fact : (f : Fact) × Contains path f × ((not f.holds && matches p f.pattern x) ≡ true) → ⊥
      by_fact w =
          let a = and_parts (not w.0.holds) (matches p w.0.pattern x) w.2 in
          both_ways w.0.holds (not-true w.0.holds a.0)
          (sym (All-contains (Holds p t) path w.0 fits w.1) ∙ any_member (matches p w.0.pattern) t x h a.1)

  pub not_dead : (x : Cell) → Contains t x → is_dead p path x ≡ true → ⊥
  not_dead x h e = elim (or_cases (is_barred p path x) (list_any (λ f. f.holds && excludes p path f.pattern x) path) e) [
    | inl b ↦ not_barred x h b
    | inr n ↦ by_fact (member_from_any (λ f. f.holds && excludes p path f.pattern x) path n)
  ]
    where
      by_fact : (f : Fact) × Contains path f × ((f.holds && excludes p path f.pattern x) ≡ true) → ⊥
      by_fact w =
          let f = w.0 in
          let a = and_parts f.holds (excludes p path f.pattern x) w.2 in
          let m = matched f w.1 a.0 in
          let y = m.0 in
          let here = each_cell_at p (λ z. not (matches p f.pattern z) || is_barred p path z || clash p z x) y a.1 (in_range p t ok y m.1) in
          elim (or_cases (not (matches p f.pattern y) || is_barred p path y) (clash p y x) here) [
            | inl k ↦ elim (or_cases (not (matches p f.pattern y)) (is_barred p path y) k) [
              | inl n ↦ both_ways (matches p f.pattern y) (not-true (matches p f.pattern y) n) m.2
              | inr b ↦ not_barred y m.1 b
            ]
            | inr c ↦ no_clash p t ok y x m.1 h c
          ]

  pub live_entry : (x : Cell) → Contains t x → is_live p path x ≡ true
  live_entry x h = not_from_false (is_dead p path x) (false_from_ne_true (is_dead p path x) (not_dead x h))

  pub live_period_of : (x : Cell) → Contains t x → live_period p path x.course (slot_of x) ≡ true
  live_period_of x h = any_below (λ r. is_live p path (cell x.course r (slot_of x))) (length p.rooms) x.room (in_range p t ok x h).room
      (live_entry x h)

  pub live_day_of : (x : Cell) → Contains t x → live_day p path x.course x.day ≡ true
  live_day_of x h = any_below (λ s. live_period p path x.course (slot x.day s)) p.periods x.period (in_range p t ok x h).period
      (live_period_of x h)

  -- each pinned period has an entry
  pub pinned_entry : (who : Who) (s : Slot) → pinned p path who s ≡ true → (x : Cell) × Contains t x × (is_who p who x.course ≡ true)
      × (is_at s x ≡ true)
  pinned_entry who s e =
      let test = λ (f : Fact). f.holds && is_pinned_by p who f.pattern.who && gives f.pattern.day s.day
      && gives f.pattern.period s.period in
      let w = member_from_any test path e in
      let f = w.0 in
      let a = and_parts (f.holds && is_pinned_by p who f.pattern.who && gives f.pattern.day s.day) (gives f.pattern.period s.period) w.2 in
      let b = and_parts (f.holds && is_pinned_by p who f.pattern.who) (gives f.pattern.day s.day) a.0 in
      let c = and_parts f.holds (is_pinned_by p who f.pattern.who) b.0 in
      let m = matched f w.1 c.0 in
      let x = m.0 in
      let g = Matches-from p f.pattern x m.2 in (
        x,
        m.1,
        speaks-is_who p who f.pattern.who x.course c.1 g.who,
        and_from (x.day == s.day) (x.period == s.period)
            (eq-eqb x.day s.day (gives-agrees f.pattern.day s.day x.day b.1 g.day))
            (eq-eqb x.period s.period (gives-agrees f.pattern.period s.period x.period a.1 g.period)),
      )

  -- each pinned room has an entry
  pub pinned_room_entry : (c r : ℕ) → pinned_room p path c r ≡ true → (x : Cell) × Contains t x × (is_of c x ≡ true) × (is_in r x ≡ true)
  pinned_room_entry c r e =
      let test = λ (f : Fact). f.holds && is_pinned_by p (Course c) f.pattern.who && gives f.pattern.room r in
      let w = member_from_any test path e in
      let f = w.0 in
      let b = and_parts (f.holds && is_pinned_by p (Course c) f.pattern.who) (gives f.pattern.room r) w.2 in
      let a = and_parts f.holds (is_pinned_by p (Course c) f.pattern.who) b.0 in
      let m = matched f w.1 a.0 in
      let x = m.0 in
      let g = Matches-from p f.pattern x m.2 in (
        x,
        m.1,
        speaks-is_who p (Course c) f.pattern.who x.course a.1 g.who,
        eq-eqb x.room r (gives-agrees f.pattern.room r x.room b.1 g.room),
      )
