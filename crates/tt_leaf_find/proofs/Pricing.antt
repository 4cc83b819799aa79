-- Lists of prices, one number at a time.
use Rattle.std.proofs.Common.{ℕ, ◌+◌, ◌<◌, List, [], ◌∷◌, ◌++◌, map, sym, subst, arith}
use Rattle.std.proofs.lemmas.List.{map-append}
use Rattle.std.proofs.lemmas.List.Elements.{All-push, recursion_from_All}
use Rattle.tt_list_laws.proofs.Members.{each_of_map}
use Rattle.tt_leaf.specs.Ranges.{ArePrices, AreBelow}
use Rattle.tt_shortage.proofs.Ascending.{once_more}

-- no price for the next number
pub prices_same : (prices : List (ℕ × ℕ)) (i : ℕ) → ArePrices i prices → ArePrices (i + 1) prices
prices_same prices i a = record { within = λ k d h. omega (arith, a.within k d h); once = a.once }

-- a price for the next number
pub prices_more : (prices : List (ℕ × ℕ)) (i u : ℕ) → ArePrices i prices → ArePrices (i + 1) (prices ++ (i, u) ∷ [])
prices_more prices i u a = record {
  within =
      subst (AreBelow (i + 1)) (sym (map-append (λ (k : ℕ × ℕ). k.0) prices ((i, u) ∷ [])))
      (All-push (λ n. n < i + 1) (map (λ (k : ℕ × ℕ). k.0) prices) i (λ k d h. omega (arith, a.within k d h)) (omega arith));
  once = once_more (λ (k : ℕ × ℕ). k.0) prices (i, u)
      (each_of_map (λ n. n < i) (λ (k : ℕ × ℕ). k.0) prices
      (recursion_from_All (λ n. n < i) (map (λ (k : ℕ × ℕ). k.0) prices) a.within)) a.once;
}
