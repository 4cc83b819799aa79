use Rattle.std.proofs.Common.{◌≡◌, ◌-◌, length, refl, ap, ◌∙◌, arith}
use Rattle.tt_page_text.specs.Puts.{put_text}
use Rattle.tt_page_text.specs.Windowed.{PageState}
use Rattle.tt_page_text.proofs.Windows.{token_put}
use Rattle.tt_page_text.proofs.page_text.put_token.Goals as goal

pub returns : goal.returns
returns c =
    let s = c.out.inside in
    let state : PageState = record { before = s.before; size = s.size; left = s.left; bytes = s.bytes.items } in
    let token = c.args.token.now in
    let taken = c.split_at.result.0.now in
    let put = token_put state token taken c.split_at-2.result.1.now c.split_at-3.result.0.now c.append.new.bytes.items
    c.saturating_sub-out-inside.result (s.left - length taken) (rw c.min.ensures at c.split_at.ensures.front)
    (rw c.min-2.ensures at c.split_at-2.ensures.back) (grind arith) c.append.ensures.items c.saturating_sub-out-inside.ensures
    refl in
    put ∙ ap (λ (v : PageState). put_text v token) c.out.view_is
