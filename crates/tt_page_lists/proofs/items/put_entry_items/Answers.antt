use Rattle.std.proofs.Common.{◌≡◌, ◌+◌, ◌<◌, ◌≤◌, List, drop, get_or, length, subst, arith}
use Rattle.tt_instance.specs.declared.cell.Cell.{Cell}
use Rattle.tt_table.specs.Groups.{nobody}
use Rattle.tt_page_text.specs.Puts.{put_text}
use Rattle.tt_page_lists.specs.Items.{entry_item}
use Rattle.tt_page_lists.proofs.Pairs.{item_further, items_done}
use Rattle.tt_page_lists.proofs.items.put_entry_items.Goals as goal

pub loop-index-preserved : goal.loop-index-preserved
loop-index-preserved c =
    let p = c.args.plan.now.problem in
    let t = c.args.plan.now.table in
    let i = c.loop-index.index in
    let within : i < length t = subst (λ (es : List Cell). i < length es) c.entries-entry-items.ensures.value c.loop-index-test.true in
    let put = subst (λ (es : List Cell). c.put_entry_item.new.out ≡ put_text c.loop-index.out
    (entry_item p c.args.labels.now c.args.rule (get_or es i nobody) (drop (i + 1) t))) c.entries-entry-items.ensures.value
    c.put_entry_item.ensures in
    item_further p c.args.labels.now c.args.rule t i nobody _ c.loop-index.out c.put_entry_item.new.out within put c.loop-index.invariant

pub returns : goal.returns
returns c =
    let p = c.args.plan.now.problem in
    let t = c.args.plan.now.table in
    items_done p c.args.labels.now c.args.rule t c.loop-index.index _ c.loop-index.out
    (subst (λ (es : List Cell). length es ≤ c.loop-index.index) c.entries-entry-items.ensures.value
    (omega (arith, c.loop-index-test.false))) c.loop-index.invariant
