use Rattle.std.proofs.Common.{◌≡◌, ℕ, List, Bool, false, ◌||◌, get_or, sym, ap, ◌∙◌}
use Rattle.tt_instance.specs.Inner.Flags.{flags_in}
use Rattle.tt_instance.proofs.Flagging.{added, same_length}
use Rattle.tt_instance.proofs.marks.Marks.mark_all.Goals as goal

pub returns-clause-marked : goal.returns-clause-marked
returns-clause-marked c = λ k.
    let words = c.self.inside.words.items in
    let others = c.other.inside.words.items in
    let n = c.self.inside.len in
    let long : c.other.inside.len ≡ n = same_length words others n c.other.inside.len c.args.self.now c.args.other.now c.self.view_is
    c.other.view_is c.requires in
    let those : flags_in c.deref.result.now n ≡ c.args.other.now =
    ap (λ (ws : List ℕ). flags_in ws n) c.deref.ensures.value ∙ ap (flags_in others) (sym long) ∙ c.other.view_is in
    added words c.deref.result.now c.add_words.new.words.items n k c.self.invariant c.add_words.ensures.bits
    ∙ ap (λ (flags : List Bool). get_or flags k false || get_or (flags_in c.deref.result.now n) k false) c.self.view_is
    ∙ ap (λ (flags : List Bool). get_or c.args.self.now k false || get_or flags k false) those
