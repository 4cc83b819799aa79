use Rattle.std.proofs.Common.{◌≡◌, ◌+◌, drop, subst, ap, ◌∙◌}
use Rattle.std.specs.Prelude.{count_by, filter, find, IfSome}
use Rattle.tt_instance.specs.Problem.{Problem}
use Rattle.tt_instance.specs.Cells.{InRange, is_at, slot_of}
use Rattle.tt_page_text.specs.Puts.{put_text}
use Rattle.tt_page_lists.specs.Items.{is_odd}
use Rattle.tt_page_lists.proofs.Pairs.{first_in, odds_first, odds_many, pairs_text}
use Rattle.tt_page_lists.proofs.items.put_pairs.Goals as goal

pub put_odds-requires-clause-first : goal.put_odds-requires-clause-first
put_odds-requires-clause-first c =
    let p = c.args.plan.now.problem in
    rw (c.first_odd-first.ensures, c.instance-instance.ensures)
    (first_in (InRange p) (is_odd p c.args.rule c.args.entry.now) c.later.result c.later.ensures.in_range)

pub returns : goal.returns
returns c =
    let p = c.args.plan.now.problem in
    let r = c.args.rule in
    let e = c.args.entry.now in
    let later = drop (c.args.index + 1) c.args.plan.now.table in
    let group : c.later.result ≡ filter (is_at (slot_of e)) later =
    subst (λ o. IfSome o (λ x. c.later.result ≡ filter (is_at (slot_of x)) later)) c.requires.there c.later.ensures.group in
    let again : c.later-2.result ≡ filter (is_at (slot_of e)) later =
    subst (λ o. IfSome o (λ x. c.later-2.result ≡ filter (is_at (slot_of x)) later)) c.requires.there c.later-2.ensures.group in
    let first = c.first_odd-first.ensures ∙ ap (λ (q : Problem). find (is_odd q r e) c.later.result) c.instance-instance.ensures
    ∙ odds_first p r e c.later.result later group in
    let odds = c.count_odd-count.ensures.value
    ∙ ap (λ (q : Problem). count_by (is_odd q r e) c.later-2.result) c.instance-instance.ensures
    ∙ odds_many p r e c.later-2.result later again in
    (rw c.instance-instance.ensures at c.put_odds.ensures)
    ∙ ap (put_text c.args.out.now)
    (pairs_text p c.args.labels.now r e later c.first_odd-first.result c.count_odd-count.result first odds)
