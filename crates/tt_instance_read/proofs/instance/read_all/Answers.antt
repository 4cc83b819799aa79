use Rattle.tt_instance.specs.Seen.{problem_seen}
use Rattle.tt_instance_read.proofs.Laws.{is_instance}
use Rattle.tt_instance_read.proofs.instance.read_all.Goals as goal

pub new-requires-clause-instance : goal.new-requires-clause-instance
new-requires-clause-instance c = is_instance c.args.bytes.now (problem_seen c.in_ok-parts.parts) c.in_ok-parts.ensures.read
