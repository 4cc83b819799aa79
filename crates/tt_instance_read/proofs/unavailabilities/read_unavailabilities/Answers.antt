use Rattle.std.proofs.lemmas.Result.{err_from_is_err_and}
use Rattle.tt_instance_read.proofs.Steps.{reads_on, reads_fail, reads_end}
use Rattle.tt_instance_read.proofs.Repeating.{unavailabilities_repeat}
use Rattle.tt_instance_read.proofs.unavailabilities.read_unavailabilities.Goals as goal

pub returns-in_err-read_unavailability-clause-read : goal.returns-in_err-read_unavailability-clause-read
returns-in_err-read_unavailability-clause-read c =
    let p = err_from_is_err_and c.from_residual-in_err-read_unavailability.result c.from_residual-in_err-read_unavailability.ensures.1 in
    rw (p.1, p.2)
    (reads_fail _ _ (unavailabilities_repeat c.args.end c.args.ids.now c.args.header.days c.args.header.periods)
    c.in_err-read_unavailability.field-0.0 c.args.header.unavailabilities c.loop.counter _ _ _ c.loop-test.true
    c.in_err-read_unavailability.ensures.read c.loop.invariant.read)

pub loop-preserved : goal.loop-preserved
loop-preserved c = record {
  read = reads_on _ _ (unavailabilities_repeat c.args.end c.args.ids.now c.args.header.days c.args.header.periods)
      c.args.header.unavailabilities c.loop.counter _ _ _ _ _ c.loop-test.true c.in_ok-read_unavailability.ensures.read
      c.loop.invariant.read;
  barred = c.in_ok-read_unavailability.ensures.barred;
}

pub returns-clause-read : goal.returns-clause-read
returns-clause-read c = reads_end _ _ (unavailabilities_repeat c.args.end c.args.ids.now c.args.header.days c.args.header.periods)
    c.args.header.unavailabilities c.loop.counter _ _ _ c.loop-test.false c.loop.invariant.read
