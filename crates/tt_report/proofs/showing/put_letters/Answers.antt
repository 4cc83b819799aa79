use Rattle.std.proofs.Common.{List, ℕ, flat_map, sym, ◌∙◌, map-id, subst}
use Rattle.std.proofs.lemmas.Iterator.{YieldsList-from_chars}
use Rattle.std.proofs.lemmas.Iterator.Consumers.{YieldsList-end}
use Rattle.tt_report.specs.Puts.{Puts}
use Rattle.tt_report.proofs.Putting.{puts_nothing}
use Rattle.tt_report.specs.Names.{letter_text}
use Rattle.tt_report.proofs.Shown.{letter_put}
use Rattle.tt_report.proofs.showing.put_letters.Goals as goal

pub loop-letter-init : goal.loop-letter-init
loop-letter-init g c = puts_nothing g.W.Sink.contents g.W.Sink.has_failed c.args.out.now

pub loop-letter-preserved : goal.loop-letter-preserved
loop-letter-preserved g c =
    letter_put g.W.Sink.contents g.W.Sink.has_failed c.args.out.now c.loop-letter.out c.put_letter.new.out c.loop-letter.yielded
    c.in-Some.letter c.loop-letter.invariant c.put_letter.ensures

pub returns : goal.returns
returns g c =
    let end = YieldsList-end (YieldsList-from_chars c.args.text.now c.utf8.text cc) c.loop-letter.yielded _ c.loop-letter.yielded_by _ _
    c.in-None.is c.next.ensures.steps in
    subst (λ (cs : List ℕ). Puts g.W.Sink.contents g.W.Sink.has_failed c.args.out.now c.loop-letter.out (flat_map letter_text cs))
    (sym (map-id c.loop-letter.yielded) ∙ end.0) c.loop-letter.invariant
