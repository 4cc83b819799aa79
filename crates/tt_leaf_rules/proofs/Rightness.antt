-- A leaf is right exactly if it has no fault.
use Rattle.std.proofs.Common.{◌≡◌, ℕ, ◌<◌, Bool, true, false, List, [], ◌∷◌, length, Option, Some, None, refl, sym, ap, ◌∙◌, subst, arith, eqb-true, eq-eqb, ltb-true, lt-ltb, leb-true, le-leb}
use Rattle.std.specs.Prelude.{nat_lt, nat_le, ◌==◌, ◌↔◌, IsTrue, is_ok, Contains}
use Rattle.std.specs.List.{list_all}
use Rattle.std.proofs.lemmas.Bool.{and_parts, and_from}
use Rattle.tt_list_laws.specs.Words.{each_two, are_distinct}
use Rattle.tt_instance.specs.Problem.{Problem}
use Rattle.tt_instance.specs.Courses.{lectures, conflict}
use Rattle.tt_path.specs.Facts.{has_fact}
use Rattle.tt_path.specs.Live.{pinned_periods}
use Rattle.tt_path.specs.declared.facts.Who.TheVariants.{Course}
use Rattle.tt_path.specs.declared.facts.Pattern.{Pattern}
use Rattle.tt_path.specs.declared.facts.Fact.{Fact}
use Rattle.tt_path.proofs.Same.{fact_there, yes_on_path}
use Rattle.tt_leaf_rules.specs.Claims.{claimed, is_fair, total_of}
use Rattle.tt_leaf_rules.specs.Faults.{demand, fault_of}
use Rattle.tt_leaf_rules.specs.Leaves.{all_dead, open_periods, all_lectures, open_rooms, IsRight}
use Rattle.tt_leaf_rules.specs.Outcomes.{outcome}
use Rattle.tt_leaf_rules.specs.Tests.{claims_once, has_member, is_clique, same_target}
use Rattle.tt_leaf.specs.declared.leaf.Bound.{Bound}
use Rattle.tt_leaf.specs.declared.leaf.Bound.TheVariants.{AtLeast, Nothing}
use Rattle.tt_leaf.specs.declared.leaf.Claim.{Claim}
use Rattle.tt_leaf.specs.declared.leaf.Leaf.{Leaf}
use Rattle.tt_leaf.specs.declared.leaf.Leaf.TheVariants.{Empty, Many, Clique, Slots, Cost}
use Rattle.tt_leaf_rules.specs.declared.fault.RuleFault.{RuleFault}
use Rattle.tt_leaf_rules.specs.declared.fault.RuleFault.TheVariants.{NotOnPath, StillAlive, NotTooMany, NotAClique, EnoughRoom, ClaimedTwice, TooCheap, BadPrice}
use Rattle.tt_leaf_rules.proofs.Different.{AreDifferent, different, each_two_differ}
use Rattle.tt_leaf_rules.proofs.Totals.{same_target-true, same_target-itself}

-- -- the meaning of the tests

abbrev yes_of : Pattern → Bool → Fact
yes_of g holds = record { pattern = g; holds = holds }

-- if the fact is found on the path, the path has it
yes_there : (path : List Fact) (g : Pattern) → has_fact path g true ≡ true → Contains path (record { pattern = g; holds = true })
yes_there path g e =
    let w = fact_there path g true e in
    subst (Contains path) (ap (yes_of w.0.pattern) w.2 ∙ ap (λ h. yes_of h true) w.3) w.1

some_member : (cs : List ℕ) → has_member cs ≡ true → 0 < length cs
some_member [] e = cc
some_member (c ∷ cs) e = omega arith

member_found : (cs : List ℕ) → 0 < length cs → has_member cs ≡ true
member_found [] h = absurd (omega (arith, h))
member_found (c ∷ cs) h = refl

pub courses_different : (cs : List ℕ) → are_distinct cs ≡ true → AreDifferent cs
courses_different = different (λ a b. a == b) eqb-true (λ a. eq-eqb a a refl)

pub courses_distinct : (cs : List ℕ) → AreDifferent cs → are_distinct cs ≡ true
courses_distinct = each_two_differ (λ a b. a == b) eqb-true (λ a. eq-eqb a a refl)

pub targets_different : (claims : List Claim) → claims_once claims ≡ true → AreDifferent (claimed claims)
targets_different claims = different same_target same_target-true same_target-itself (claimed claims)

pub targets_once : (claims : List Claim) → AreDifferent (claimed claims) → claims_once claims ≡ true
targets_once claims = each_two_differ same_target same_target-true same_target-itself (claimed claims)

-- ---- faults

-- if there is no fault, the test passes and the rest has no fault
demand_none : (b : Bool) (f : RuleFault) (rest : Option RuleFault) → demand b f rest ≡ None → (b ≡ true) × (rest ≡ None)
demand_none true f rest e = (refl, e)
demand_none false f rest e = cc

demand_from : (b : Bool) (f : RuleFault) (rest : Option RuleFault) → b ≡ true → rest ≡ None → demand b f rest ≡ None
demand_from true f rest e h = h
demand_from false f rest e h = cc

module _ (p : Problem) (path : List Fact) where
  pub right_of : (b : Bound) (leaf : Leaf) → fault_of p path b leaf ≡ None → IsRight p path b leaf
  right_of b (Empty g) e =
      let h = demand_none (has_fact path g true) NotOnPath (demand (all_dead p path g) StillAlive None) e in
      (yes_there path g h.0, (demand_none (all_dead p path g) StillAlive None h.1).0)
  right_of b (Many c) e =
      ltb-true (lectures p c) (pinned_periods p path (Course c))
      (demand_none (nat_lt (lectures p c) (pinned_periods p path (Course c))) NotTooMany None e).0
  right_of b (Clique cs) e =
      let more = nat_lt (open_periods p path cs) (all_lectures p cs) in
      let h = demand_none (is_clique p cs) NotAClique (demand more EnoughRoom None) e in
      let k = and_parts (has_member cs) (each_two (conflict p) cs) h.0 in
      (some_member cs k.0, k.1, ltb-true (open_periods p path cs) (all_lectures p cs) (demand_none more EnoughRoom None h.1).0)
  right_of b (Slots cs) e =
      let more = nat_lt (open_rooms p path cs) (all_lectures p cs) in
      let h = demand_none (are_distinct cs) ClaimedTwice (demand more EnoughRoom None) e in
      (courses_different cs h.0, ltb-true (open_rooms p path cs) (all_lectures p cs) (demand_none more EnoughRoom None h.1).0)
  right_of Nothing (Cost claims) e = cc
  right_of (AtLeast b) (Cost claims) e =
      let dear = nat_le b (total_of p path claims) in
      let fair = list_all (is_fair p path) claims in
      let h = demand_none (claims_once claims) ClaimedTwice (demand fair BadPrice (demand dear TooCheap None)) e in
      let i = demand_none fair BadPrice (demand dear TooCheap None) h.1 in
      (targets_different claims h.0, i.0, leb-true b (total_of p path claims) (demand_none dear TooCheap None i.1).0)

  pub faultless : (b : Bound) (leaf : Leaf) → IsRight p path b leaf → fault_of p path b leaf ≡ None
  faultless b (Empty g) h =
      demand_from (has_fact path g true) NotOnPath (demand (all_dead p path g) StillAlive None)
      (yes_on_path path (record { pattern = g; holds = true }) h.0 refl)
      (demand_from (all_dead p path g) StillAlive None h.1 refl)
  faultless b (Many c) h =
      demand_from (nat_lt (lectures p c) (pinned_periods p path (Course c))) NotTooMany None
      (lt-ltb (lectures p c) (pinned_periods p path (Course c)) h) refl
  faultless b (Clique cs) h =
      let more = nat_lt (open_periods p path cs) (all_lectures p cs) in
      demand_from (is_clique p cs) NotAClique (demand more EnoughRoom None)
      (and_from (has_member cs) (each_two (conflict p) cs) (member_found cs h.0) h.1)
      (demand_from more EnoughRoom None (lt-ltb (open_periods p path cs) (all_lectures p cs) h.2) refl)
  faultless b (Slots cs) h =
      let more = nat_lt (open_rooms p path cs) (all_lectures p cs) in
      demand_from (are_distinct cs) ClaimedTwice (demand more EnoughRoom None) (courses_distinct cs h.0)
      (demand_from more EnoughRoom None (lt-ltb (open_rooms p path cs) (all_lectures p cs) h.1) refl)
  faultless Nothing (Cost claims) h = absurd h
  faultless (AtLeast b) (Cost claims) h =
      let dear = nat_le b (total_of p path claims) in
      let fair = list_all (is_fair p path) claims in
      demand_from (claims_once claims) ClaimedTwice (demand fair BadPrice (demand dear TooCheap None)) (targets_once claims h.0)
      (demand_from fair BadPrice (demand dear TooCheap None) h.1
      (demand_from dear TooCheap None (le-leb b (total_of p path claims) h.2) refl))

  -- the result says whether the leaf is right
  pub answer_right : (b : Bound) (leaf : Leaf) (found : Option RuleFault) → found ≡ fault_of p path b leaf
      → IsTrue (is_ok (outcome found)) ↔ IsRight p path b leaf
  answer_right b leaf found e = (λ h. right_of b leaf (sym e ∙ none found h), λ right. rw (e ∙ faultless b leaf right) refl)
    where
      none : (o : Option RuleFault) → IsTrue (is_ok (outcome o)) → o ≡ None
      none None h = refl
      none (Some f) h = cc
