use Rattle.std.proofs.Common.{◌≡◌, ap, subst, sym, ◌∙◌}
use Rattle.tt_rules.specs.Score.{IsScore}
use Rattle.tt_page_text.specs.Planned.{Planned}
use Rattle.tt_page_text.specs.Puts.{put_text, too_many, window}
use Rattle.tt_page_text.specs.Windowed.{PageState}
use Rattle.tt_page_text.specs.declared.page_text.TheConstants.{PAGE_PIECE_BYTES}
use Rattle.tt_page.specs.Pages.{shown_text}
use Rattle.tt_page.specs.Proofs.{IsShownOf}
use Rattle.tt_page.proofs.Pieces.{page_counted, page_too_large, size_of_write}
use Rattle.tt_page.proofs.pages.page.Goals as goal

pub returns-in_default-clause-size : goal.returns-in_default-clause-size
returns-in_default-clause-size g c =
    let text = shown_text c.args.instance.now c.args.table.now c.args.look.now.labels.now c.args.shown c.args.look.now.style.now in
    let put : c.put_all.new.out ≡ put_text (window 0 PAGE_PIECE_BYTES too_many) text =
    c.put_all.ensures
    ∙ (λ i. put_text (c.in_ok-out.ensures i)
    (shown_text (c.in_ok-plan.ensures i).problem (c.in_ok-plan.ensures i).table c.args.look.now.labels.now c.args.shown
    c.args.look.now.style.now)) in
    page_too_large PAGE_PIECE_BYTES text c.put_all.new.out c.total.result put c.total.ensures c.in_default.is

pub put_all-requires : goal.put_all-requires
put_all-requires g c = record {
  score = subst (λ (p : Planned). IsScore p.problem p.table c.score-score.result) (sym c.in_ok-plan.ensures) c.score-score.ensures;
  shown = subst (λ (p : Planned). IsShownOf p.problem c.args.shown) (sym c.in_ok-plan.ensures) c.requires.shown;
}

pub write_pieces-requires-clause-content : goal.write_pieces-requires-clause-content
write_pieces-requires-clause-content g c = record {
  score = subst (λ (p : Planned). IsScore p.problem p.table c.score-score.result) (sym c.in_ok-plan.ensures) c.score-score.ensures;
  shown = subst (λ (p : Planned). IsShownOf p.problem c.args.shown) (sym c.in_ok-plan.ensures) c.requires.shown;
}

pub write_pieces-requires-clause-total : goal.write_pieces-requires-clause-total
write_pieces-requires-clause-total g c =
    let text = shown_text c.in_ok-plan.plan.problem c.in_ok-plan.plan.table c.args.look.now.labels.now c.args.shown
    c.args.look.now.style.now in
    let put = c.put_all.ensures ∙ ap (λ (s : PageState). put_text s text) c.in_ok-out.ensures in
    (page_counted PAGE_PIECE_BYTES c.in-Some.total text c.put_all.new.out c.total.result put c.total.ensures c.in-Some.is).0

pub returns-in_err-write_pieces-clause-size : goal.returns-in_err-write_pieces-clause-size
returns-in_err-write_pieces-clause-size g c =
    let text = shown_text c.args.instance.now c.args.table.now c.args.look.now.labels.now c.args.shown c.args.look.now.style.now in
    let put : c.put_all.new.out ≡ put_text (window 0 PAGE_PIECE_BYTES too_many) text =
    c.put_all.ensures
    ∙ (λ i. put_text (c.in_ok-out.ensures i)
    (shown_text (c.in_ok-plan.ensures i).problem (c.in_ok-plan.ensures i).table c.args.look.now.labels.now c.args.shown
    c.args.look.now.style.now)) in
    size_of_write _ text c.from_residual-in_err-write_pieces.ensures.1
    (page_counted PAGE_PIECE_BYTES c.in-Some.total text c.put_all.new.out c.total.result put c.total.ensures c.in-Some.is).1

pub returns-clause-size : goal.returns-clause-size
returns-clause-size g c =
    let text = shown_text c.args.instance.now c.args.table.now c.args.look.now.labels.now c.args.shown c.args.look.now.style.now in
    let put : c.put_all.new.out ≡ put_text (window 0 PAGE_PIECE_BYTES too_many) text =
    c.put_all.ensures
    ∙ (λ i. put_text (c.in_ok-out.ensures i)
    (shown_text (c.in_ok-plan.ensures i).problem (c.in_ok-plan.ensures i).table c.args.look.now.labels.now c.args.shown
    c.args.look.now.style.now)) in
    (page_counted PAGE_PIECE_BYTES c.in-Some.total text c.put_all.new.out c.total.result put c.total.ensures c.in-Some.is).1
