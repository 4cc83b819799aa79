-- The timetables of a small instance that are constructed ones: two courses of one lecture each, and one room.
use Rattle.std.proofs.Common.{◌≡◌, ℕ, zero, suc, ◌<◌, List, [], ◌∷◌, refl, sym, arith, lit<}
use Rattle.std.proofs.lemmas.List.Elements.{All-cons, All-nil}
use Rattle.tt_instance.specs.Cells.{InRange}
use Rattle.tt_instance.specs.Courses.{lectures}
use Rattle.tt_instance.specs.declared.cell.Cell.{Cell}
use Rattle.tt_instance.proofs.Examples.{at, mini}
use Rattle.tt_rules.specs.Hard.{entries_of}
use Rattle.tt_construct.specs.Constructed.{IsConstructed}

abbrev both : List Cell
both = at 0 0 0 0 ∷ at 1 0 0 1 ∷ []

both_placed : IsConstructed mini both
both_placed = record {
  in_range = All-cons (InRange mini) (at 0 0 0 0) (at 1 0 0 1 ∷ []) (inside 0 0 (lit< tt) (lit< tt))
      (All-cons (InRange mini) (at 1 0 0 1) [] (inside 1 1 (lit< tt) (lit< tt)) (All-nil (InRange mini)));
  lectures_placed = λ some. placed;
  without_rooms = λ none. cc;
}
  where
    inside : (c s : ℕ) → c < 2 → s < 3 → InRange mini (at c 0 0 s)
    inside c s h k = record { course = h; room = lit< tt; day = lit< tt; period = k }

    placed : (c : ℕ) → c < 2 → entries_of both c ≡ lectures mini c
    placed zero h = refl
    placed (suc zero) h = refl
    placed (suc (suc c)) h = absurd (omega arith)

different : (m n : ℕ) → m < n → m ≡ n → ⊥
different m n h e = omega arith

one_too_few : IsConstructed mini (at 0 0 0 0 ∷ []) → ⊥
one_too_few t = different 0 1 (lit< tt) (t.lectures_placed (lit< tt) 1 (lit< tt))

one_too_many : IsConstructed mini (at 1 0 0 0 ∷ at 1 0 0 2 ∷ at 0 0 0 1 ∷ []) → ⊥
one_too_many t = different 1 2 (lit< tt) (sym (t.lectures_placed (lit< tt) 1 (lit< tt)))
