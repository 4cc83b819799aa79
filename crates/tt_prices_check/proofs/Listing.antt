-- Another entry of a day, and its move.
use Rattle.std.proofs.Common.{◌≡◌, List, [], ◌∷◌, ◌++◌, to_z, of_z, w64, refl, ap, ◌∙◌, subst, arith, inl, inr}
use Rattle.std.specs.Prelude.{Contains, ℤ, pos, negsuc, ◌+ℤ◌, ◌≤ℤ◌}
use Rattle.std.proofs.lemmas.Int.{ints}
use Rattle.std.proofs.lemmas.List.Elements.{Contains-append_left, Contains-append_right, Contains-append_cases}
use Rattle.tt_list_laws.proofs.Members.{member_cases}
use Rattle.tt_groups.specs.declared.day.PricedDay.{PricedDay}
use Rattle.tt_prices_check.specs.Moves.{IsMoveOf, AreMovesOf}
use Rattle.tt_prices_check.specs.declared.moves.PricedMove.{PricedMove}
use lib.IntN.{nat_abs}

-- the default entry, for indices outside a list
abbrev pub no_day : PricedDay
no_day = record { amounts = []; paid = pos 0 }

-- the element of a list of one
only : {X : Type 0} (x y : X) → Contains (x ∷ []) y → x ≡ y
only x y h = elim (member_cases x [] y h) [
  | inl same ↦ same
  | inr none ↦ absurd (omega (arith, none.1))
]

-- another entry
pub moves_more : (days : List PricedDay) (moves : List PricedMove) (x : PricedDay) (m : PricedMove) → AreMovesOf days moves → IsMoveOf x m
    → AreMovesOf (days ++ x ∷ []) (moves ++ m ∷ [])
moves_more days moves x m before here = record {
  all = λ y h. elim (Contains-append_cases days (x ∷ []) y h) [
    | inl old ↦
        let k = before.all y old in
        (k.0, Contains-append_left moves (m ∷ []) k.0 k.1, k.2)
    | inr new ↦
        (m, Contains-append_right moves (m ∷ []) m (0, omega arith, refl), subst (λ z. IsMoveOf z m) (only x y new) here)
  ];
  own = λ n h. elim (Contains-append_cases moves (m ∷ []) n h) [
    | inl old ↦
        let k = before.own n old in
        (k.0, Contains-append_left days (x ∷ []) k.0 k.1, k.2)
    | inr new ↦
        (x, Contains-append_right days (x ∷ []) x (0, omega arith, refl), subst (IsMoveOf x) (only m n new) here)
  ];
}

pub no_moves : AreMovesOf [] []
no_moves = record { all = λ y h. absurd (omega (arith, h.1)); own = λ n h. absurd (omega (arith, h.1)) }

-- ---- what a move pays

natural : (y : ℤ) → pos 0 ≤ℤ y → pos (nat_abs y) ≡ y
natural (pos n) h = refl
natural (negsuc n) h = absurd (omega (arith, ints, h))

-- the sum fits a machine word, and so does the raised number
pub raised_is : (z : ℤ) → negsuc 1099511627775 ≤ℤ z → z ≤ℤ pos 1099511627776
    → pos (nat_abs (to_z w64 (of_z w64 (to_z w64 (of_z w64 z) +ℤ pos 1099511627776)))) ≡ z +ℤ pos 1099511627776
raised_is z low high =
    let same : to_z w64 (of_z w64 z) ≡ z = omega (arith, ints) in
    let sum : to_z w64 (of_z w64 (z +ℤ pos 1099511627776)) ≡ z +ℤ pos 1099511627776 = omega (arith, ints) in
    ap (λ y. pos (nat_abs (to_z w64 (of_z w64 (y +ℤ pos 1099511627776))))) same
    ∙ ap (λ y. pos (nat_abs y)) sum ∙ natural (z +ℤ pos 1099511627776) (omega (arith, ints))
