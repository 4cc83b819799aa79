use Rattle.std.proofs.Common.{arith}
use Rattle.tt_wishes.specs.Facts.{facts_of}
use Rattle.tt_wishes.specs.declared.format.TheConstants.{MAX_ROOT}
use Rattle.tt_wishes.proofs.Roots.{alike_added, alike_full}
use Rattle.tt_wishes.proofs.facts.add_if_few.Goals as goal

pub returns-then-len-ge-MAX_ROOT : goal.returns-then-len-ge-MAX_ROOT
returns-then-len-ge-MAX_ROOT c = λ all alike.
    alike_full MAX_ROOT c.args.facts.now.items all (facts_of c.args.instance.now c.args.wish.now)
    (omega (arith, c.if-len-ge-MAX_ROOT.true, c.len.ensures)) alike

pub returns : goal.returns
returns c = λ all alike.
    alike_added MAX_ROOT c.args.facts.now.items all (facts_of c.args.instance.now c.args.wish.now) _
    (omega (arith, c.if-len-ge-MAX_ROOT.false, c.len.ensures)) c.in_ok-add_facts.ensures alike
