use Rattle.std.proofs.Common.{◌≡◌, ◌<◌, length, get_or, ap, ◌∙◌, refl, arith, Vec, Global}
use Rattle.std.proofs.lemmas.List.{get_or_default}
use Rattle.tt_instance.specs.declared.cell.Cell.{Cell}
use Rattle.tt_table.specs.Groups.{nobody}
use Rattle.tt_changes.specs.declared.change.Change.{Change}
use Rattle.tt_changes.proofs.Pairs.{next_paired, next_alone}
use Rattle.tt_changes.proofs.pairing.pair_up.Goals as goal
use Rattle.tt_changes.proofs.pairing.pair_up.Goals.{in-Some+in_ok-push-in-Some, in-None+in_ok-push-in-None}

pub loop-entry-preserved : goal.loop-entry-preserved
loop-entry-preserved c =
    let xs = c.args.older.now in
    let i = c.loop-entry.entry-index in
    let less : i < length xs = omega arith in
    let x : Cell = get_or xs i nobody in
    let here : x ≡ get_or xs i x = get_or_default xs i nobody x less in
    let pairs = λ (v : Vec Change Global). v.items in
    let cells = λ (v : Vec Cell Global). v.items in
    elim c.match-take_alike.branch [
      | in-Some+in_ok-push-in-Some w ↦
          next_paired c.args.likeness xs c.args.newer.items i x c.loop-entry.pairs.items c.match-take_alike.pairs.items
          c.loop-entry.alone.items c.match-take_alike.alone.items c.loop-entry.left.items c.take_alike.new.newer.items less here
          c.loop-entry.invariant
          (record { from = x; to = w.in-Some.to }) refl w.in-Some.ensures.alike w.in-Some.ensures.taken
          (ap pairs w.pairs-is ∙ w.in_ok-push-in-Some.ensures.items) (ap cells w.alone-is)
      | in-None+in_ok-push-in-None w ↦
          next_alone c.args.likeness xs c.args.newer.items i x c.loop-entry.pairs.items c.match-take_alike.pairs.items
          c.loop-entry.alone.items c.match-take_alike.alone.items c.loop-entry.left.items c.take_alike.new.newer.items less here
          c.loop-entry.invariant
          w.in-None.ensures.none w.in-None.ensures.unchanged (ap pairs w.pairs-is)
          (ap cells w.alone-is ∙ w.in_ok-push-in-None.ensures.items)
    ]
