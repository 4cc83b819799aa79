use Rattle.std.proofs.Common.{Bool, List, false, get_or, sym, ap, ◌∙◌, le-ltb}
use Rattle.tt_instance.proofs.Flagging.{flag_read, flag_past}
use Rattle.tt_instance.proofs.marks.Marks.has.Goals as goal

pub returns-then-number-self : goal.returns-then-number-self
returns-then-number-self c =
    c.has_bit.ensures ∙ flag_read c.self.inside.words.items c.self.inside.len c.args.number c.index.result.now c.self.invariant
    c.if-number-self.true c.index.ensures
    ∙ ap (λ (flags : List Bool). get_or flags c.args.number false) c.self.view_is

pub returns-else-number-self : goal.returns-else-number-self
returns-else-number-self c =
    le-ltb c.args.number c.self.inside.len c.if-number-self.false
    ∙ sym (flag_past c.self.inside.words.items c.self.inside.len c.args.number c.if-number-self.false)
    ∙ ap (λ (flags : List Bool). get_or flags c.args.number false) c.self.view_is
