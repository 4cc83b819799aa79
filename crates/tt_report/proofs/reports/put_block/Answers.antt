use Rattle.std.proofs.Common.{◌≡◌, subst, arith}
use Rattle.std.specs.Prelude.{flat_map}
use Rattle.tt_list_laws.specs.Words.{range_below}
use Rattle.tt_text.specs.Lines.{line_text}
use Rattle.tt_report.specs.Inner.Blocks.{head_of, day_text}
use Rattle.tt_report.specs.Puts.{Puts}
use Rattle.tt_report.proofs.Putting.{puts_both}
use Rattle.tt_report.proofs.reports.put_block.Goals as goal

pub returns : goal.returns
returns g c =
    let p = c.args.instance.now in
    let days = day_text p c.args.by_period.now.entries c.args.block in
    let all : c.loop-day.day ≡ p.days = omega (arith, c.days-day-end.ensures.value) in
    puts_both g.W.Sink.contents g.W.Sink.has_failed c.args.out.now c.put_head.new.out c.loop-day.out
    (line_text (head_of p c.args.block)) (flat_map days (range_below p.days)) c.put_head.ensures
    (subst (λ n. Puts g.W.Sink.contents g.W.Sink.has_failed c.put_head.new.out c.loop-day.out (flat_map days (range_below n))) all
    c.loop-day.invariant)
