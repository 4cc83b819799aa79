use Rattle.std.proofs.Common.{◌≡◌, Bool, take}
use Rattle.tt_proof_check.proofs.Walking.{Walked}
use Rattle.tt_proof_check.proofs.preorder.check_each.Given as goal

abbrev pub invariant-loop-i : goal.invariant-loop-i
invariant-loop-i g l = record {
  walked : (due : Bool) × Walked (g.P.Path.problem l.fn.path) (g.P.Path.facts l.fn.path) l.bound (take l.i l.nodes)
      (g.P.Path.facts l.path) due;
  same_problem : g.P.Path.problem l.path ≡ g.P.Path.problem l.fn.path;
}
