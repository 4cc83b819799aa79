use Rattle.std.proofs.Common.{Result, Ok, Err, OnErr, rules}
use Rattle.tt_report.specs.Reports.{report_text}
use Rattle.tt_report.proofs.Putting.{part_written}
use Rattle.tt_report.proofs.reports.report.Goals as goal

-- What holds at all holds of an error.
on_error : {X E : Type 0} (r : Result X E) (P : Type 0) → P → OnErr r P
on_error (Ok x) P h = tt
on_error (Err e) P h = h

pub returns-clause-part : goal.returns-clause-part
returns-clause-part g c =
    let text = report_text c.args.instance.now c.args.table.now c.args.by in
    on_error c.flush.result _ (part_written g.W.Sink.contents g.W.Sink.has_failed c.new-out.result c.put_report.new.out
    c.flush.new.self _ _ text
    c.new-out.ensures.held c.new-out.ensures.sink (search rules) c.put_report.ensures c.flush.ensures.puts)
