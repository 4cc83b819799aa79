use Rattle.std.proofs.Common.{◌≤◌, ◌∙◌, sym, arith}
use Rattle.tt_path_pins.proofs.Joined.{puts_adds}
use Rattle.tt_path_pins.proofs.FactTable.{adds_there, small_numbers}
use Rattle.tt_path_pins.proofs.fact_table.add_fact.Goals as goal

pub returns-clause-ok : goal.returns-clause-ok
returns-clause-ok c =
    let p = c.args.instance.now in
    let old = c.args.fact_table.now.words in
    let new = c.put.new.table.words in
    let x = c.in-Some.found in
    let at_most : p.periods ≤ 64 = omega (arith, c.periods-periods.ensures.value, c.periods-periods.ensures.within) in
    adds_there p c.args.fact.now x old new (sym c.find_bit_place.ensures.value ∙ c.in-Some.is)
    (puts_adds old new x.place x.number c.in_ok-put.ensures.ok) (small_numbers p at_most)
