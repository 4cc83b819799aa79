use Rattle.std.proofs.Common.{List, ℕ, flat_map, sym, ap, ◌∙◌, map-id}
use Rattle.std.proofs.lemmas.Iterator.{YieldsList-from_chars}
use Rattle.std.proofs.lemmas.Iterator.Consumers.{YieldsList-end}
use Rattle.tt_page_text.specs.Puts.{put_text}
use Rattle.tt_page_text.specs.Quoted.{quoted_letter}
use Rattle.tt_page_text.proofs.quoted.put_quoted_letters.Goals as goal

pub returns : goal.returns
returns c =
    let end = YieldsList-end (YieldsList-from_chars c.args.text.now c.utf8.text cc) c.loop-letter.yielded _ c.loop-letter.yielded_by _ _
    c.in-None.is c.next.ensures.steps in
    c.loop-letter.invariant ∙ ap (λ (cs : List ℕ). put_text c.args.out.now (flat_map quoted_letter cs))
    (sym (map-id c.loop-letter.yielded) ∙ end.0)
