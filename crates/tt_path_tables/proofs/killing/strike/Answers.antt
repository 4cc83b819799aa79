use Rattle.std.proofs.Common.{◌≡◌, ℕ, Bool, true, false, not, ◌&&◌, ◌||◌, List, length, None, refl, sym, ap, ◌∙◌}
use Rattle.std.specs.List.{list_any, list_all}
use Rattle.std.proofs.lemmas.Bool.{and_parts, and_from, both_ways, false_from_ne_true}
use Rattle.tt_list_laws.proofs.Numbers.{any_below}
use Rattle.tt_instance.specs.Problem.{Problem}
use Rattle.tt_instance.specs.declared.cell.Cell.{Cell}
use Rattle.tt_path.specs.Facts.{agrees}
use Rattle.tt_instance.specs.Cells.{slot, cell, all_rooms, InRange}
use Rattle.tt_list_laws.specs.Words.{has_number}
use Rattle.tt_path_tables.specs.Inner.Rooms.{has_room}
use Rattle.tt_path_tables.specs.Inner.Tables.{has_cell, is_placed, is_open, IsTable, Loses}
use Rattle.tt_path_tables.specs.Inner.Struck.{loses_room, is_lost_to}
use Rattle.tt_path.proofs.Lost.{is_who-has}
use Rattle.tt_path_tables.proofs.Losing.{loses-same, placed_at, both_where}
use Rattle.tt_path_tables.proofs.killing.strike.Goals as goal

one_of : (h o l : Bool) → h ≡ true → not o ≡ ((h && not o) || (not h && l))
one_of true true l e = refl
one_of true false l e = refl
one_of false o l e = cc

none_of : (h o l : Bool) → h ≡ false → l ≡ ((h && o) || (not h && l))
none_of true o l e = cc
none_of false o l e = refl

-- if the cells that are gone aren't there anyway
loses-absent : (p : Problem) (old : List ℕ) (g : Cell → Bool) → IsTable p old
    → ((x : Cell) → InRange p x → g x ≡ true → has_cell p old x ≡ false) → Loses p old g old
loses-absent p old g t h = record { table = t; cells = λ x k. absent (has_cell p old x) (g x) (h x k) }
  where
    absent : (b m : Bool) → (m ≡ true → b ≡ false) → b ≡ (b && not m)
    absent b true f = f refl ∙ sym (ap (λ k. k && not true) (f refl))
    absent true false f = refl
    absent false false f = refl

-- a course that has no cell in the period
no_cell : (p : Problem) (live : List ℕ) (c d s : ℕ) → list_any (is_open p live None c d s) (all_rooms p) ≡ false → (x : Cell)
    → InRange p x → is_placed c d s x ≡ true → has_cell p live x ≡ false
no_cell p live c d s none x h e = false_from_ne_true (has_cell p live x) (λ k.
    let at = placed_at c d s x e in
    let here : has_cell p live (cell c x.room (slot d s)) ≡ true =
    sym (ap (λ i. has_cell p live (cell i x.room (slot x.day x.period))) at.0
    ∙ ap (λ i. has_cell p live (cell c x.room (slot i x.period))) at.1 ∙ ap (λ i. has_cell p live (cell c x.room (slot d i))) at.2)
    ∙ k in
    both_ways (list_any (is_open p live None c d s) (all_rooms p)) none
    (any_below (is_open p live None c d s) (length p.rooms) x.room h.room
    (and_from (has_cell p live (cell c x.room (slot d s))) true here refl)))

pub returns-then-not-has_period-clause-ok : goal.returns-then-not-has_period-clause-ok
returns-then-not-has_period-clause-ok c =
    let a = c.args in
    let basis = a.basis.now in
    let demand = a.demand.now in
    let p = basis.instance.now in
    let live = a.live.now.words in
    let lost = λ (x : Cell).
    loses_room p basis.free.now.words demand.pattern.now a.slot.day a.slot.period demand.courses.now x.course x.room in
    loses-absent p live (λ x. is_placed a.course a.slot.day a.slot.period x && lost x) c.requires.live
    (λ x h e. no_cell p live a.course a.slot.day a.slot.period (sym c.has_period.ensures ∙ c.if-not-has_period.true) x h
    (and_parts (is_placed a.course a.slot.day a.slot.period x) (lost x) e).0)

pub returns-then-has_course-clause-ok : goal.returns-then-has_course-clause-ok
returns-then-has_course-clause-ok c =
    let a = c.args in
    let basis = a.basis.now in
    let demand = a.demand.now in
    let p = basis.instance.now in
    let free = basis.free.now.words in
    let g = demand.pattern.now in
    let ks = demand.courses.now in
    let here : has_number ks a.course ≡ true = ap (λ l. has_number l a.course) c.requires.demand.courses
    ∙ sym (is_who-has p g.who a.course) ∙ sym c.has_course.ensures ∙ c.if-has_course.true in
    loses-same p a.live.now.words c.keep_rooms.new.table.words
    (λ x. is_placed a.course a.slot.day a.slot.period x && not (has_cell p free x && agrees g.room x.room))
    (λ x. is_placed a.course a.slot.day a.slot.period x && loses_room p free g a.slot.day a.slot.period ks x.course x.room)
    c.in_ok-keep_rooms.ensures.ok
    (λ x h. both_where (is_placed a.course a.slot.day a.slot.period x) (not (has_cell p free x && agrees g.room x.room))
    (loses_room p free g a.slot.day a.slot.period ks x.course x.room) (λ e.
    let at = placed_at a.course a.slot.day a.slot.period x e in
    ap (λ d. not (has_cell p free (cell x.course x.room (slot d x.period)) && agrees g.room x.room)) at.1
    ∙ ap (λ s. not (has_cell p free (cell x.course x.room (slot a.slot.day s)) && agrees g.room x.room)) at.2
    ∙ one_of (has_number ks x.course) (is_open p free g.room x.course a.slot.day a.slot.period x.room)
    (list_all (is_lost_to p free g a.slot.day a.slot.period x.course x.room) ks) (ap (has_number ks) at.0 ∙ here)))

pub returns-clause-ok : goal.returns-clause-ok
returns-clause-ok c =
    let a = c.args in
    let basis = a.basis.now in
    let demand = a.demand.now in
    let p = basis.instance.now in
    let free = basis.free.now.words in
    let g = demand.pattern.now in
    let ks = demand.courses.now in
    let none : has_number ks a.course ≡ false = ap (λ l. has_number l a.course) c.requires.demand.courses
    ∙ sym (is_who-has p g.who a.course) ∙ sym c.has_course.ensures ∙ c.if-has_course.false in
    loses-same p a.live.now.words c.remove_lost.new.live.words
    (λ x. is_placed a.course a.slot.day a.slot.period x && has_room c.lost_rooms-lost.result x.room)
    (λ x. is_placed a.course a.slot.day a.slot.period x && loses_room p free g a.slot.day a.slot.period ks x.course x.room)
    c.in_ok-remove_lost.ensures.ok
    (λ x h. both_where (is_placed a.course a.slot.day a.slot.period x) (has_room c.lost_rooms-lost.result x.room)
    (loses_room p free g a.slot.day a.slot.period ks x.course x.room) (λ e.
    let at = placed_at a.course a.slot.day a.slot.period x e in
    c.lost_rooms-lost.ensures x.room
    ∙ ap (λ i. list_all (is_lost_to p free g a.slot.day a.slot.period i x.room) ks) (sym at.0)
    ∙ none_of (has_number ks x.course) (not (is_open p free g.room x.course a.slot.day a.slot.period x.room))
    (list_all (is_lost_to p free g a.slot.day a.slot.period x.course x.room) ks) (ap (has_number ks) at.0 ∙ none)))
