-- The first fault of a leaf, or none if it is right.
use Rattle.std.specs.Prelude.{nat_lt, nat_le, Bool, true, List, Option, Some, None, if◌then◌else◌}
use Rattle.std.specs.List.{list_all}
use Rattle.tt_list_laws.specs.Words.{are_distinct}
use Rattle.tt_instance.specs.Problem.{Problem}
use Rattle.tt_instance.specs.Courses.{lectures}
use Rattle.tt_path.specs.Facts.{has_fact}
use Rattle.tt_path.specs.Live.{pinned_periods}
use Rattle.tt_path.specs.declared.facts.Who.TheVariants.{Course}
use Rattle.tt_path.specs.declared.facts.Fact.{Fact}
use Rattle.tt_leaf_rules.specs.Claims.{is_fair, total_of}
use Rattle.tt_leaf_rules.specs.Leaves.{all_dead, all_lectures, open_periods, open_rooms}
use Rattle.tt_leaf_rules.specs.Tests.{claims_once, is_clique}
use Rattle.tt_leaf.specs.declared.leaf.Bound.{Bound}
use Rattle.tt_leaf.specs.declared.leaf.Bound.TheVariants.{AtLeast, Nothing}
use Rattle.tt_leaf.specs.declared.leaf.Claim.{Claim}
use Rattle.tt_leaf.specs.declared.leaf.Leaf.{Leaf}
use Rattle.tt_leaf.specs.declared.leaf.Leaf.TheVariants.{Empty, Many, Clique, Slots, Cost}
use Rattle.tt_leaf_rules.specs.declared.fault.RuleFault.{RuleFault}
use Rattle.tt_leaf_rules.specs.declared.fault.RuleFault.TheVariants.{NotOnPath, StillAlive, NotTooMany, NotAClique, EnoughRoom, ClaimedTwice, TooCheap, NoBound, BadPrice}

-- The fault if the test fails, otherwise the result of the rest.
abbrev pub demand : Bool → RuleFault → Option RuleFault → Option RuleFault
demand holds f rest = if holds then rest else Some f

-- The first fault of a cost leaf with these claims, or none if it is right.
abbrev pub fault_of_cost : Problem → List Fact → Bound → List Claim → Option RuleFault
fault_of_cost p path Nothing claims = Some NoBound
fault_of_cost p path (AtLeast b) claims =
    demand (claims_once claims) ClaimedTwice
    (demand (list_all (is_fair p path) claims) BadPrice (demand (nat_le b (total_of p path claims)) TooCheap None))

-- The first fault of a leaf on its path, or none if it is right.
abbrev pub fault_of : Problem → List Fact → Bound → Leaf → Option RuleFault
fault_of p path b (Empty g) = demand (has_fact path g true) NotOnPath (demand (all_dead p path g) StillAlive None)
fault_of p path b (Many c) = demand (nat_lt (lectures p c) (pinned_periods p path (Course c))) NotTooMany None
fault_of p path b (Clique cs) =
    demand (is_clique p cs) NotAClique (demand (nat_lt (open_periods p path cs) (all_lectures p cs)) EnoughRoom None)
fault_of p path b (Slots cs) =
    demand (are_distinct cs) ClaimedTwice (demand (nat_lt (open_rooms p path cs) (all_lectures p cs)) EnoughRoom None)
fault_of p path b (Cost claims) = fault_of_cost p path b claims
