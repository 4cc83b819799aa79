use Rattle.std.proofs.Common.{All, subst, sym}
use Rattle.std.proofs.lemmas.List.Elements.{All-filter}
use Rattle.tt_instance.specs.Cells.{InRange, is_at, slot}
use Rattle.tt_report.proofs.Written.{slot_put}
use Rattle.tt_report.proofs.reports.put_slot.Goals as goal

pub put_entries-requires-clause-in_range : goal.put_entries-requires-clause-in_range
put_entries-requires-clause-in_range g c =
    subst (All (InRange c.args.instance.now)) (sym c.in_period-entries.ensures.group)
    (All-filter (is_at (slot c.args.day c.args.period)) (InRange c.args.instance.now) c.args.by_period.now.entries c.requires.in_range)

pub returns : goal.returns
returns g c =
    slot_put g.W.Sink.contents g.W.Sink.has_failed c.args.instance.now c.args.block c.args.by_period.now.entries
    c.in_period-entries.result c.args.day c.args.period c.from.result c.from-2.result
    c.args.out.now c.put_number.new.self c.put_next_number.new.self c.put_entries.new.out c.put_line_end.new.self
    c.from.ensures c.from-2.ensures c.in_period-entries.ensures.group c.put_number.ensures c.put_next_number.ensures
    c.put_entries.ensures c.put_line_end.ensures
