use Rattle.tt_wishes.proofs.Offsets.{line_in_text}
use Rattle.tt_wishes.proofs.words.Words.new.Goals as goal

pub invariant_of-result : goal.invariant_of-result
invariant_of-result c = rw c.new.ensures (line_in_text c.args.line.at c.args.line.text.now c.requires)
