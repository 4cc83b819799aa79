use Rattle.std.proofs.Common.{length, ap, arith, ◌≤◌}
use Rattle.tt_table.proofs.WrittenLaws.{again_in}
use Rattle.tt_table.proofs.writing.write_solution.Goals as goal

pub returns-clause-again : goal.returns-clause-again
returns-clause-again c =
    let at_most : length c.args.table.now ≤ 16384 = omega (arith, ap length c.entries.ensures.value, c.entries.ensures.within) in
    again_in (λ out. out.items) _ _ c.put_entries.result c.days.ensures.instance c.requires at_most
    (rw (← c.entries.ensures.value) c.put_entries.ensures)
