use Rattle.std.proofs.Common.{◌≡◌, ◌∙◌, arith}
use Rattle.tt_page_text.specs.Puts.{put_text, too_many, window}
use Rattle.tt_page_text.specs.declared.page_text.TheConstants.{PAGE_PIECE_BYTES}
use Rattle.tt_page.specs.Pages.{page_text}
use Rattle.tt_page.proofs.Pieces.{page_counted, page_too_large, whole_text}
use Rattle.tt_page.proofs.pages.text_of.Goals as goal

pub returns-in_default-clause-size : goal.returns-in_default-clause-size
returns-in_default-clause-size c =
    let text = page_text c.args.instance.now c.args.table.now c.args.look.now.labels.now c.args.proved.now c.args.look.now.style.now in
    let put : c.put_page.new.out ≡ put_text (window 0 PAGE_PIECE_BYTES too_many) text =
    c.put_page.ensures
    ∙ (λ i. put_text (c.in_ok-first.ensures i)
    (page_text (c.in_ok-plan.ensures i).problem (c.in_ok-plan.ensures i).table c.args.look.now.labels.now c.args.proved.now
    c.args.look.now.style.now)) in
    λ _. page_too_large PAGE_PIECE_BYTES text c.put_page.new.out c.total.result put c.total.ensures c.in_default.is

pub returns-then-total-le-PAGE_PIECE_BYTES-clause-text : goal.returns-then-total-le-PAGE_PIECE_BYTES-clause-text
returns-then-total-le-PAGE_PIECE_BYTES-clause-text c =
    let text = page_text c.args.instance.now c.args.table.now c.args.look.now.labels.now c.args.proved.now c.args.look.now.style.now in
    let put : c.put_page.new.out ≡ put_text (window 0 PAGE_PIECE_BYTES too_many) text =
    c.put_page.ensures
    ∙ (λ i. put_text (c.in_ok-first.ensures i)
    (page_text (c.in_ok-plan.ensures i).problem (c.in_ok-plan.ensures i).table c.args.look.now.labels.now c.args.proved.now
    c.args.look.now.style.now)) in
    let count = page_counted PAGE_PIECE_BYTES c.in-Some.total text c.put_page.new.out c.total.result put c.total.ensures c.in-Some.is in
    let short = c.if-total-le-PAGE_PIECE_BYTES.true in
    c.into_bytes.ensures ∙ whole_text PAGE_PIECE_BYTES text c.put_page.new.out put (omega (arith, count.0, short)) count.1

pub returns-then-total-le-PAGE_PIECE_BYTES-clause-size : goal.returns-then-total-le-PAGE_PIECE_BYTES-clause-size
returns-then-total-le-PAGE_PIECE_BYTES-clause-size c =
    let text = page_text c.args.instance.now c.args.table.now c.args.look.now.labels.now c.args.proved.now c.args.look.now.style.now in
    let put : c.put_page.new.out ≡ put_text (window 0 PAGE_PIECE_BYTES too_many) text =
    c.put_page.ensures
    ∙ (λ i. put_text (c.in_ok-first.ensures i)
    (page_text (c.in_ok-plan.ensures i).problem (c.in_ok-plan.ensures i).table c.args.look.now.labels.now c.args.proved.now
    c.args.look.now.style.now)) in
    (page_counted PAGE_PIECE_BYTES c.in-Some.total text c.put_page.new.out c.total.result put c.total.ensures c.in-Some.is).1

pub returns-clause-text : goal.returns-clause-text
returns-clause-text c =
    let text = page_text c.args.instance.now c.args.table.now c.args.look.now.labels.now c.args.proved.now c.args.look.now.style.now in
    let put : c.put_page.new.out ≡ put_text (window 0 PAGE_PIECE_BYTES too_many) text =
    c.put_page.ensures
    ∙ (λ i. put_text (c.in_ok-first.ensures i)
    (page_text (c.in_ok-plan.ensures i).problem (c.in_ok-plan.ensures i).table c.args.look.now.labels.now c.args.proved.now
    c.args.look.now.style.now)) in
    let count = page_counted PAGE_PIECE_BYTES c.in-Some.total text c.put_page.new.out c.total.result put c.total.ensures c.in-Some.is in
    let again : c.put_page-2.new.out ≡ put_text (window 0 c.in-Some.total too_many) text =
    c.put_page-2.ensures
    ∙ (λ i. put_text (c.in_ok-whole.ensures i)
    (page_text (c.in_ok-plan.ensures i).problem (c.in_ok-plan.ensures i).table c.args.look.now.labels.now c.args.proved.now
    c.args.look.now.style.now)) in
    c.into_bytes-2.ensures ∙ whole_text c.in-Some.total text c.put_page-2.new.out again (omega (arith, count.0)) count.1

pub returns-clause-size : goal.returns-clause-size
returns-clause-size c =
    let text = page_text c.args.instance.now c.args.table.now c.args.look.now.labels.now c.args.proved.now c.args.look.now.style.now in
    let put : c.put_page.new.out ≡ put_text (window 0 PAGE_PIECE_BYTES too_many) text =
    c.put_page.ensures
    ∙ (λ i. put_text (c.in_ok-first.ensures i)
    (page_text (c.in_ok-plan.ensures i).problem (c.in_ok-plan.ensures i).table c.args.look.now.labels.now c.args.proved.now
    c.args.look.now.style.now)) in
    (page_counted PAGE_PIECE_BYTES c.in-Some.total text c.put_page.new.out c.total.result put c.total.ensures c.in-Some.is).1
