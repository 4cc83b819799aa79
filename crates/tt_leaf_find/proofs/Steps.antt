-- The claims that loops make, with those of one number added at a time.
use Rattle.std.proofs.Common.{◌≡◌, ℕ, ◌+◌, List, [], ◌∷◌, ◌++◌, map, ap, ◌∙◌}
use Rattle.std.specs.Prelude.{Bool, nat_lt, filter}
use Rattle.std.proofs.lemmas.Grind.{flat_map-append}
use Rattle.tt_list_laws.specs.Words.{range_below}
use Rattle.tt_list_laws.proofs.Below.{range_below_more}
use Rattle.tt_list_laws.proofs.Growing.{kept_one_more}
use Rattle.tt_instance.specs.Problem.{Problem}
use Rattle.tt_path.specs.declared.facts.Fact.{Fact}
use Rattle.tt_leaf_rules.specs.Claims.{value_of}
use Rattle.tt_leaf.specs.declared.leaf.Claim.{Claim}
use Rattle.tt_leaf_find.specs.Best.{price_of, at_price, capacity_claims, worth}
use Rattle.std.proofs.lemmas.List.Elements.{filter-append}

module _ (p : Problem) (path : List Fact) where
  abbrev is_worth : Claim → Bool
  is_worth claim = nat_lt 0 (value_of p path claim)

  -- another claim of a kind
  pub worth_more : (claim : ℕ → Claim) (i : ℕ) → worth p path (map claim (range_below (i + 1))) ≡ worth p path
      (map claim (range_below i)) ++ worth p path (claim i ∷ [])
  worth_more claim i = kept_one_more is_worth claim i

  -- the claims on another course
  pub capacity_more : (i : ℕ) → worth p path (capacity_claims p path (range_below (i + 1))) ≡ worth p path
      (capacity_claims p path (range_below i)) ++ worth p path (capacity_claims p path (i ∷ []))
  capacity_more i =
      ap (λ l. filter is_worth (capacity_claims p path l)) (range_below_more i)
      ∙ ap (filter is_worth) (flat_map-append (λ c. at_price c (price_of p path c)) (range_below i) (i ∷ []))
      ∙ filter-append is_worth (capacity_claims p path (range_below i)) (capacity_claims p path (i ∷ []))
