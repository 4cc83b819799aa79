use Rattle.std.proofs.Common.{◌≡◌, ℕ, ◌<◌, List, length, take, ap, arith, inl, inr}
use Rattle.std.proofs.lemmas.Bool.{cases_lt}
use Rattle.std.proofs.lemmas.List.{length-take}
use Rattle.std.proofs.lemmas.Result.{err_from_is_err_and}
use Rattle.tt_path.specs.declared.facts.Fact.{Fact}
use Rattle.tt_path.specs.declared.path.PathFault.{PathFault}
use Rattle.tt_path.specs.declared.path.PathFault.TheVariants.{TooDeep, OutOfMemory}
use Rattle.tt_proof_check.proofs.root.restart.Goals as goal

-- a path of the first facts of the root is full only if the root is too long
full : (facts root : List Fact) (i : ℕ) (f : PathFault) → facts ≡ take i root → i < length root
    → (length facts < 65536 → f ≡ OutOfMemory) → f ≡ TooDeep → 65536 < length root
full facts root i f e inside room deep =
    let len = length-take i root in
    let here = ap length e in
    elim (cases_lt (length facts) 65536) [
      | inl less ↦ let memory = room less in absurd cc
      | inr more ↦ omega (arith, len, here, inside, more)
    ]

pub returns-in_err-push-clause-deep : goal.returns-in_err-push-clause-deep
returns-in_err-push-clause-deep g c =
    λ deep.
    let e = err_from_is_err_and c.from_residual.result c.from_residual.ensures.1 in
    let is : c.in_err-push.field-0.0 ≡ TooDeep = cc in
    full (g.P.Path.facts c.loop-fact.path) c.args.root.now c.loop-fact.fact-index c.in_err-push.field-0.0
    c.loop-fact.invariant.facts (omega arith)
    c.in_err-push.ensures.room is
