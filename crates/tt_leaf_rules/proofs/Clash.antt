-- No two entries of a timetable that breaks no hard rule clash.
use Rattle.std.proofs.Common.{◌≡◌, true, not, ◌&&◌, ◌||◌, List, refl, inl, inr, eq-eqb}
use Rattle.std.specs.Prelude.{Contains, ◌==◌}
use Rattle.std.proofs.lemmas.Bool.{and_parts, and_from, or_cases, not-true}
use Rattle.tt_instance.specs.Problem.{Problem}
use Rattle.tt_instance.specs.Cells.{slot_of, is_of, is_at, is_in, same_cell}
use Rattle.tt_instance.specs.Courses.{conflict}
use Rattle.tt_instance.specs.declared.cell.Cell.{Cell}
use Rattle.tt_instance.proofs.Exclusion.{eqb-turn, same_cell-itself}
use Rattle.tt_list_laws.proofs.Members.{only_one}
use Rattle.tt_rules.specs.Score.{IsFeasible}
use Rattle.tt_rules.proofs.Feasible.{in_range, once_at, one_in, no_collision}
use Rattle.tt_path.specs.Live.{clash}

module _ (p : Problem) (t : List Cell) (ok : IsFeasible p t) where
  -- no two entries clash
  pub no_clash : (x y : Cell) → Contains t x → Contains t y → clash p x y ≡ true → ⊥
  no_clash x y hx hy e =
      let related = (x.room == y.room) || (x.course == y.course) || conflict p x.course y.course in
      let a = and_parts (not (same_cell x y) && (x.day == y.day) && (x.period == y.period)) related e in
      let b = and_parts (not (same_cell x y) && (x.day == y.day)) (x.period == y.period) a.0 in
      let c = and_parts (not (same_cell x y)) (x.day == y.day) b.0 in
      let differ = not-true (same_cell x y) c.0 in
      let r = in_range p t ok x hx in
      let itself : is_at (slot_of x) x ≡ true = and_from (x.day == x.day) (x.period == x.period) (eq-eqb x.day x.day refl)
      (eq-eqb x.period x.period refl) in
      let together : is_at (slot_of x) y ≡ true = and_from (y.day == x.day) (y.period == x.period) (eqb-turn x.day y.day c.1)
      (eqb-turn x.period y.period b.1) in
      elim (or_cases ((x.room == y.room) || (x.course == y.course)) (conflict p x.course y.course) a.1) [
        | inl k ↦ elim (or_cases (x.room == y.room) (x.course == y.course) k) [
          | inl m ↦ only_one same_cell (λ z. is_in x.room z && is_at (slot_of x) z) t x y (same_cell-itself x) (one_in p t ok x r) hx hy
              (and_from (is_in x.room x) (is_at (slot_of x) x) (eq-eqb x.room x.room refl) itself)
              (and_from (is_in x.room y) (is_at (slot_of x) y) (eqb-turn x.room y.room m) together) differ
          | inr m ↦ only_one same_cell (λ z. is_of x.course z && is_at (slot_of x) z) t x y (same_cell-itself x)
              (once_at p t ok x.course x r) hx hy
              (and_from (is_of x.course x) (is_at (slot_of x) x) (eq-eqb x.course x.course refl) itself)
              (and_from (is_of x.course y) (is_at (slot_of x) y) (eqb-turn x.course y.course m) together) differ
        ]
        | inr k ↦ no_collision p t ok x y hx hy (and_from ((x.day == y.day) && (x.period == y.period)) (conflict p x.course y.course)
            (and_from (x.day == y.day) (x.period == y.period) c.1 b.1) k)
      ]
