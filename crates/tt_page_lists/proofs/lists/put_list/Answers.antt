use Rattle.std.proofs.Common.{◌≡◌, false, ◌∙◌}
use Rattle.std.specs.Prelude.{◌==◌}
use Rattle.std.proofs.lemmas.Bool.{ne_eqb}
use Rattle.tt_page_text.proofs.Growing.{then_put}
use Rattle.tt_page_lists.specs.Lists.{list_text}
use Rattle.tt_page_lists.specs.Rules.{rule_count}
use Rattle.tt_page_lists.proofs.lists.put_list.Goals as goal

pub returns : goal.returns
unfolding list_text
returns c =
    let p = c.args.plan.now.problem in
    let t = c.args.plan.now.table in
    let some : (rule_count p t c.args.rule == 0) ≡ false = ne_eqb (rule_count p t c.args.rule) 0
    (λ none. c.if-count-eq0.false (c.count-count.ensures ∙ none)) in
    let head = rw c.count-count.ensures at c.put_list_head.ensures in
    let reason = rw c.instance.ensures at c.put_reason.ensures in
    rw some (then_put _ _ _ _ _ (then_put _ _ _ _ _ (then_put _ _ _ _ _ (then_put _ _ _ _ _ head reason)
    c.put_token.ensures) c.put_items.ensures) c.put_token-2.ensures)
