-- A chain of a timetable, member by member.
use Rattle.std.proofs.Common.{◌≡◌, ℕ, ◌<◌, true, false, ◌||◌, List, length, get_or, refl, sym, ap, ◌∙◌, subst, eq-eqb}
use Rattle.std.specs.Prelude.{◌==◌, All}
use Rattle.std.proofs.lemmas.List.{get_or_default}
use Rattle.std.proofs.lemmas.List.Folds.{list_any_at}
use Rattle.tt_list_laws.specs.Words.{has_number}
use Rattle.tt_instance.specs.Problem.{Problem}
use Rattle.tt_instance.specs.Cells.{is_at}
use Rattle.tt_instance.specs.Courses.{unavailable}
use Rattle.tt_instance.specs.declared.cell.Cell.{Cell}
use Rattle.tt_instance.specs.declared.cell.Slot.{Slot}
use Rattle.tt_occupancy.specs.Filled.{no_entry, entry_at}
use Rattle.tt_moves_chain.specs.Answers.{MayTurn}
use Rattle.tt_moves_chain.specs.Chains.{linked, other, IsClosed, IsOpen}
use Rattle.tt_moves_chain.proofs.Places.{member_at}

module _ (p : Problem) (t : List Cell) (a b : Slot) (members : List ℕ) where
  abbrev pub EachMayTurn : Type 0
  EachMayTurn = (k : ℕ) → k < length members → MayTurn p t a b members (get_or members k 0)

  module _ (each : EachMayTurn) where
    may : (i : ℕ) → has_number members i ≡ true → MayTurn p t a b members i
    may i e = let w = member_at members i e in subst (MayTurn p t a b members) w.2 (each w.0 w.1)

    pub closed_from : IsClosed p t a b (has_number members)
    closed_from = record {
      within = λ i d h e. subst (λ z. (is_at a z || is_at b z) ≡ true) (get_or_default t i no_entry d h) (may i e).within;
      links = λ i j d h k e l.
          let l1 = subst (λ z. linked p a b z (get_or t j d) ≡ true) (get_or_default t i d no_entry h) l in
          (may i e).links j k (subst (λ z. linked p a b (entry_at t i) z ≡ true) (get_or_default t j d no_entry k) l1);
    }

    pub free_from : IsOpen p t a b (has_number members)
    free_from = λ i d h e.
        subst (λ z. unavailable p z.course (other a b z).day (other a b z).period ≡ false) (get_or_default t i no_entry d h) (may i e).free

    pub inside_from : All (λ i. i < length t) members
    inside_from k d h = subst (λ i. i < length t) (get_or_default members k 0 d h) (each k h).inside

  pub each_from : All (λ i. i < length t) members → IsClosed p t a b (has_number members) → IsOpen p t a b (has_number members)
      → EachMayTurn
  each_from inside closed free k h =
      let i = get_or members k 0 in
      let l = inside k 0 h in
      let e = list_any_at (λ m. m == i) members k 0 h (eq-eqb i i refl) in
      record {
        inside = l;
        within = closed.within i no_entry l e;
        free = free i no_entry l e;
        links = λ j m link. closed.links i j no_entry l m e link;
      }
