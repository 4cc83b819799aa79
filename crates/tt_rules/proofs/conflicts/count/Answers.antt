use Rattle.std.proofs.Common.{◌≡◌, List, ◌+◌, ◌≤◌, length, drop, count_by, get_or, subst, arith}
use Rattle.tt_instance.specs.declared.cell.Cell.{Cell}
use Rattle.tt_rules.specs.Hard.{collide}
use Rattle.tt_table.specs.Groups.{nobody}
use Rattle.tt_rules.proofs.Pairs.{pairs_more}
use Rattle.tt_rules.proofs.conflicts.count.Goals as goal

pub loop-index-preserved : goal.loop-index-preserved
loop-index-preserved c =
    let p = c.args.instance.now in
    let t = c.args.entries.now in
    let i = c.loop-index.index in
    let found : c.against-total.result ≡ count_by (collide p (get_or t i nobody)) (drop (i + 1) t) =
    subst (λ (xs : List Cell). c.against-total.result ≡ count_by (collide p (get_or t i nobody)) (drop (i + 1) xs)) c.requires.entries
    c.against-total.ensures.count in
    let at_most : c.against-total.result ≤ length t =
    subst (λ (xs : List Cell). c.against-total.result ≤ length xs) c.requires.entries c.against-total.ensures.at_most in
    record {
      counted = pairs_more (collide p) t i nobody c.loop-index.total c.against-total.result c.loop-index-test.true
          c.loop-index.invariant.counted found;
      at_most = omega (arith, at_most, c.requires.at_most, c.loop-index.invariant.at_most);
    }
