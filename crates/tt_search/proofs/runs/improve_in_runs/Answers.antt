use Rattle.std.proofs.Common.{◌+◌, ◌≡◌, ◌-◌, ◌/◌, suc, refl, subst, arith, rules, inl, inr}
use Rattle.tt_search.specs.Runs.{Runs}
use Rattle.tt_walk.proofs.Improvements.{IsNoWorse-refl, IsNoWorse-trans}
use Rattle.tt_search.proofs.runs.improve_in_runs.Goals as goal

pub loop-run-init : goal.loop-run-init
loop-run-init g c = record { kept = IsNoWorse-refl _ _ c.requires; in_runs = refl }

pub returns-then-is_over-clause-runs : goal.returns-then-is_over-clause-runs
returns-then-is_over-clause-runs g c = record {
  made = c.loop-run.run;
  at_most = omega arith;
  all = inr (c.is_over.ensures (search rules));
  in_runs = c.loop-run.invariant.in_runs;
}

pub loop-run-preserved : goal.loop-run-preserved
loop-run-preserved g c =
    let a = c.args in
    let steps = a.search.steps in
    let l = c.loop-run in
    let found = c.in_ok-table in
    let next : suc l.run ≡ l.run + 1 = omega arith in
    record {
      kept = IsNoWorse-trans l.invariant.kept found.ensures.no_worse;
      in_runs = subst (λ n. Runs a.instance.now a.table (steps / 2) (steps - steps / 2) n found.table) next
          (l.table, l.invariant.in_runs, found.ensures.descended);
    }

pub returns-clause-runs : goal.returns-clause-runs
returns-clause-runs g c = record {
  made = c.loop-run.run;
  at_most = omega arith;
  all = inl (omega arith);
  in_runs = c.loop-run.invariant.in_runs;
}
