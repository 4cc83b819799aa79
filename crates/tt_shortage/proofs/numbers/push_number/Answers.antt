use Rattle.std.proofs.Common.{◌+◌, sym, subst}
use Rattle.tt_shortage.specs.Numbers.{AreNumbers}
use Rattle.tt_shortage.proofs.Ascending.{numbers_same, numbers_more}
use Rattle.tt_shortage.proofs.numbers.push_number.Goals as goal

pub returns-then-not-belongs : goal.returns-then-not-belongs
returns-then-not-belongs c = numbers_same c.args.list.now.items c.args.number c.requires

pub returns : goal.returns
returns c = subst (AreNumbers (c.args.number + 1)) (sym c.in_ok-push.ensures.items)
    (numbers_more c.args.list.now.items c.args.number c.requires)
