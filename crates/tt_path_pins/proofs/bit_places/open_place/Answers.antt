use Rattle.tt_path_pins.specs.Inner.FactTable.{fact_rows}
use Rattle.tt_path_pins.proofs.bit_places.open_place.Goals as goal
use Rattle.tt_list_laws.proofs.Grid.{within_row}

pub returns-clause-within : goal.returns-clause-within
returns-clause-within c =
    let p = c.args.instance.now in
    rw c.days-days.ensures.value (within_row c.fact_row.result p.days c.args.day (fact_rows p) c.fact_row.ensures.within c.requires.day)
