use Rattle.std.proofs.Common.{◌≡◌, take}
use Rattle.std.specs.Prelude.{flat_map}
use Rattle.tt_page_text.specs.Puts.{put_text}
use Rattle.tt_page_weeks.specs.Named.{named_grid}
use Rattle.tt_page_weeks.proofs.named.put_named_grids.Given as goal

abbrev pub invariant-loop-number : goal.invariant-loop-number
invariant-loop-number l =
    l.out ≡ put_text l.initial.out
    (flat_map (named_grid l.plan.problem l.plan.table l.view.labels.now l.view.is_linked l.name l.kind) (take l.number-index l.numbers))
