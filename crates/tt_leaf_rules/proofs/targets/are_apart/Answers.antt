use Rattle.std.proofs.Common.{ℕ, not, sym, ap, ◌∙◌}
use Rattle.std.specs.List.{list_all}
use Rattle.std.proofs.lemmas.List.Folds.{list_all-map}
use Rattle.tt_leaf_rules.specs.Claims.{Target, RoomCapacity}
use Rattle.tt_leaf_rules.specs.Inner.Nested.{claims_target, are_apart}
use Rattle.tt_leaf.specs.declared.leaf.Claim.{Claim}
use Rattle.tt_leaf_rules.proofs.targets.are_apart.Goals as goal

pub returns-in-Prices : goal.returns-in-Prices
returns-in-Prices c =
    let other = c.args.other.now in
    c.has_no_capacity_target.ensures ∙ ap (list_all (λ (k : ℕ × ℕ). not (claims_target other (RoomCapacity k.0)))) c.as_slice.ensures
    ∙ sym (list_all-map (λ (t : Target). not (claims_target other t)) (λ (k : ℕ × ℕ). RoomCapacity k.0) c.in-Prices.courses)
    ∙ ap (λ (x : Claim). are_apart x other) (sym c.in-Prices.is)
