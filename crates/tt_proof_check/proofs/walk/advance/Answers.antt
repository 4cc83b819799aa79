use Rattle.std.proofs.Common.{◌≡◌, ◌≤◌, ◌+◌, ◌++◌, ◌∷◌, [], Ok, Err, List, OnOk, Result, length, sym, ap, ◌∙◌, arith, inl, inr, length-append}
use Rattle.tt_path.specs.declared.facts.Fact.{Fact}
use Rattle.tt_proof_check.proofs.Places.{root_stays, pending-none, pending-turned, pending-dropped}
use Rattle.tt_proof_check.proofs.walk.advance.Goals as goal

on_ok : {A E : Type 0} (r : Result A E) (P Q : Type 0) → (P → Q) → OnOk r P → OnOk r Q
on_ok (Ok x) P Q f h = f h
on_ok (Err e) P Q f h = h

shorter : (now before : List Fact) (f : Fact) → now ≡ before ++ f ∷ [] → length now ≡ length before + 1
shorter now before f e = ap length e ∙ length-append before (f ∷ [])

pub returns-then-fact-clause-next : goal.returns-then-fact-clause-next
returns-then-fact-clause-next g c =
    let now = g.P.Path.facts c.loop-path.path in
    let before = g.P.Path.facts c.pop-fact.new.self in
    let after = g.P.Path.facts c.push.new.self in
    let len = shorter now before c.pop-fact.result c.pop-fact.ensures.fact in
    let long : c.args.root ≤ length before = omega (arith, len) in
    on_ok c.push.result _ _ (λ turned. (
      root_stays c.args.root after before _ turned long
          ∙ sym (root_stays c.args.root now before c.pop-fact.result c.pop-fact.ensures.fact long)
          ∙ c.loop-path.invariant.same_root,
      inr (sym c.loop-path.invariant.same_pending
          ∙ pending-turned c.args.root now before after c.pop-fact.result long c.pop-fact.ensures.fact c.if-fact.true turned),
    )) c.push.ensures.ok

pub loop-path-preserved : goal.loop-path-preserved
loop-path-preserved g c =
    let now = g.P.Path.facts c.loop-path.path in
    let before = g.P.Path.facts c.pop-fact.new.self in
    let len = shorter now before c.pop-fact.result c.pop-fact.ensures.fact in
    let long : c.args.root ≤ length before = omega (arith, len) in
    record {
      same_pending =
          sym (pending-dropped c.args.root now before c.pop-fact.result long c.pop-fact.ensures.fact c.if-fact.false)
          ∙ c.loop-path.invariant.same_pending;
      same_root = sym (root_stays c.args.root now before c.pop-fact.result c.pop-fact.ensures.fact long) ∙ c.loop-path.invariant.same_root;
      below = long;
      same_problem = c.pop-fact.ensures.unchanged ∙ c.loop-path.invariant.same_problem;
      within = omega (arith, len, c.loop-path.invariant.within);
    }

pub returns-clause-next : goal.returns-clause-next
returns-clause-next g c =
    let none = pending-none c.args.root (g.P.Path.facts c.loop-path.path) (omega arith) in
    (c.loop-path.invariant.same_root, inl (sym c.loop-path.invariant.same_pending ∙ none))
