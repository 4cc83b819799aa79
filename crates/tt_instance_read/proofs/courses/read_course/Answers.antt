use Rattle.std.proofs.Common.{◌∙◌, sym, refl, arith}
use Rattle.tt_instance_read.proofs.Indexing.{one_more}
use Rattle.tt_instance_read.proofs.courses.read_course.Goals as goal

pub returns-clause-indexed : goal.returns-clause-indexed
returns-clause-indexed c = one_more c.args.list.now _ _ c.requires.indexed c.in_ok-push.ensures.items
    (sym c.in_ok-put.ensures.added ∙ c.if-not-branch.false) c.in_ok-put.ensures.names c.in_ok-number.ensures.names
    c.in_ok-number.ensures.index refl (omega (arith, c.requires.indexed.within, c.in_ok-lectures.ensures.within))
