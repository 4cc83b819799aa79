use Rattle.tt_wishes.proofs.Offsets.{more_in_text}
use Rattle.tt_wishes.proofs.words.Words.next.Goals as goal

pub invariant_of-self-2 : goal.invariant_of-self-2
invariant_of-self-2 c = more_in_text c.self.inside.at c.self.inside.tokens _ c.next.new.self c.in-Some.ensures.gives c.self.invariant
