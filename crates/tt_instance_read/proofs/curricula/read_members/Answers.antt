use Rattle.std.proofs.lemmas.Result.{err_from_is_err_and}
use Rattle.tt_instance_read.proofs.Steps.{reads_on, reads_fail, reads_end}
use Rattle.tt_instance_read.proofs.Repeating.{members_repeat}
use Rattle.tt_instance_read.proofs.curricula.read_members.Goals as goal

pub returns-in_err-read_member-clause-read : goal.returns-in_err-read_member-clause-read
returns-in_err-read_member-clause-read c =
    let p = err_from_is_err_and c.from_residual-in_err-read_member.result c.from_residual-in_err-read_member.ensures.1 in
    rw (p.1, p.2)
    (reads_fail _ _ (members_repeat c.args.end c.args.ids.now) c.in_err-read_member.field-0.0 c.args.count c.loop.counter _ _ _
    c.loop-test.true c.in_err-read_member.ensures.read c.loop.invariant.read)

pub loop-preserved : goal.loop-preserved
loop-preserved c = record {
  read = reads_on _ _ (members_repeat c.args.end c.args.ids.now) c.args.count c.loop.counter _ _ _ _ _ c.loop-test.true
      c.in_ok-read_member.ensures.read c.loop.invariant.read;
  marked = c.in_ok-read_member.ensures.marked;
}

pub returns-clause-read : goal.returns-clause-read
returns-clause-read c = reads_end _ _ (members_repeat c.args.end c.args.ids.now) c.args.count c.loop.counter _ _ _ c.loop-test.false
    c.loop.invariant.read
