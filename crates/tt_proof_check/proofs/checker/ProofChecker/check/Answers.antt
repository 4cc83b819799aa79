use Rattle.std.proofs.Common.{subst}
use Rattle.tt_instance.specs.Limits.{IsInstance}
use Rattle.tt_proof_check.specs.FailedReads.{IsCutOff}
use Rattle.tt_proof_check.specs.Visited.{Visited}
use Rattle.tt_proof_check.proofs.FailedReads.{of_given}
use Rattle.tt_proof_check.proofs.Texts.{proof_found, proof_visited, proof_holds, proof_only}
use Rattle.tt_proof_check.proofs.checker.ProofChecker.check.Goals as goal

pub returns-clause-visited : goal.returns-clause-visited
returns-clause-visited g c =
    let run = c.check_on_root-checked in
    let visited = Visited g.L.NodeVisitor.visits 0 c.args.visitor.now run.new.visitor in
    rw (← c.in-Ok.ensures.problem)
    (proof_visited c.in-Ok.path.problem c.args.root.now (g.R.Source.remaining c.args.source.now) visited run.result run.ensures.proved)

pub returns-clause-found : goal.returns-clause-found
returns-clause-found g c =
    let run = c.check_on_root-checked in
    let visited = Visited g.L.NodeVisitor.visits 0 c.args.visitor.now run.new.visitor in
    rw (← c.in-Ok.ensures.problem)
    (proof_found c.in-Ok.path.problem c.args.root.now (g.R.Source.remaining c.args.source.now) visited run.result run.ensures.proved)

pub returns-clause-only : goal.returns-clause-only
returns-clause-only g c =
    let run = c.check_on_root-checked in
    let visited = Visited g.L.NodeVisitor.visits 0 c.args.visitor.now run.new.visitor in
    rw (← c.in-Ok.ensures.problem)
    (proof_only c.in-Ok.path.problem c.args.root.now (g.R.Source.remaining c.args.source.now) visited
    (subst IsInstance c.instance.ensures c.days.ensures.instance) run.result run.ensures.proved run.ensures.fault)

pub returns-clause-holds : goal.returns-clause-holds
returns-clause-holds g c =
    let run = c.check_on_root-checked in
    let visited = Visited g.L.NodeVisitor.visits 0 c.args.visitor.now run.new.visitor in
    rw (← c.in-Ok.ensures.problem)
    (proof_holds c.in-Ok.path.problem c.args.root.now (g.R.Source.remaining c.args.source.now) visited run.result run.ensures.proved)

pub returns-clause-up_to_failed_read : goal.returns-clause-up_to_failed_read
returns-clause-up_to_failed_read g c =
    let run = c.check_on_root-checked in
    rw (← c.in-Ok.ensures.problem)
    (λ reported. of_given (IsCutOff c.in-Ok.path.problem c.args.root.now) (g.R.Source.remaining c.args.source.now)
    (g.R.Source.remaining run.new.source) run.ensures.known (run.ensures.up_to_failed_read reported))
