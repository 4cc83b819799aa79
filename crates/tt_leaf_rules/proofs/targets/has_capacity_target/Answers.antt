use Rattle.std.proofs.Common.{ℕ, sym, ap, ◌∙◌}
use Rattle.std.specs.Prelude.{◌==◌}
use Rattle.std.specs.List.{list_any}
use Rattle.tt_leaf_rules.specs.Claims.{RoomCapacity}
use Rattle.tt_leaf_rules.specs.Inner.Nested.{claims_target}
use Rattle.tt_leaf.specs.declared.leaf.Claim.{Claim}
use Rattle.tt_leaf_rules.proofs.Apart.{priced_capacity}
use Rattle.tt_leaf_rules.proofs.targets.has_capacity_target.Goals as goal

pub returns-in-Prices : goal.returns-in-Prices
returns-in-Prices c =
    let course = c.args.course in
    c.is_priced.ensures ∙ ap (list_any (λ (k : ℕ × ℕ). course == k.0)) c.as_slice.ensures
    ∙ priced_capacity c.in-Prices.courses c.in-Prices.rooms course ∙ ap (λ (x : Claim). claims_target x (RoomCapacity course))
    (sym c.in-Prices.is)
