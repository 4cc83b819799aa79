use Rattle.std.proofs.Common.{◌≡◌, ℕ, List, length, subst, ap, sym, ◌∙◌}
use Rattle.std.specs.Prelude.{flat_map}
use Rattle.tt_list_laws.specs.Words.{range_below}
use Rattle.tt_instance.specs.Courses.{teachers}
use Rattle.tt_instance.specs.declared.cell.Cell.{Cell}
use Rattle.tt_table.specs.Groups.{Grouped}
use Rattle.tt_report.specs.Puts.{Puts}
use Rattle.tt_report.specs.Inner.Blocks.{block_text}
use Rattle.tt_report.specs.Reports.{report_text}
use Rattle.tt_report.specs.declared.blocks.Block.TheVariants as of
use Rattle.tt_report.proofs.Written.{rooms_are, teachers_are, curricula_are}
use Rattle.tt_report.proofs.reports.put_report.Goals as goal

pub returns-in-Room : goal.returns-in-Room
returns-in-Room g c =
    let p = c.args.instance.now in
    let t = c.args.table.now in
    let entries : c.by_period-by_period.result.entries ≡ t = ap (λ (g : Grouped). g.entries) c.by_period-by_period.ensures
    ∙ c.entries.ensures.value in
    let text : List Cell → List ℕ = λ es. flat_map (λ k. block_text p es (of.Room k)) (range_below (length p.rooms)) in
    subst (Puts g.W.Sink.contents g.W.Sink.has_failed c.args.out.now c.put_rooms.new.out) (ap text entries ∙ sym (rooms_are p t)
    ∙ ap (report_text p t) (sym c.in-Room.is)) c.put_rooms.ensures

pub returns-in-Teacher : goal.returns-in-Teacher
returns-in-Teacher g c =
    let p = c.args.instance.now in
    let t = c.args.table.now in
    let entries : c.by_period-by_period.result.entries ≡ t = ap (λ (g : Grouped). g.entries) c.by_period-by_period.ensures
    ∙ c.entries.ensures.value in
    let text : List Cell → List ℕ = λ es. flat_map (λ k. block_text p es (of.Teacher k)) (range_below (length (teachers p))) in
    subst (Puts g.W.Sink.contents g.W.Sink.has_failed c.args.out.now c.put_teachers.new.out) (ap text entries ∙ sym (teachers_are p t)
    ∙ ap (report_text p t) (sym c.in-Teacher.is)) c.put_teachers.ensures

pub returns-in-Curriculum : goal.returns-in-Curriculum
returns-in-Curriculum g c =
    let p = c.args.instance.now in
    let t = c.args.table.now in
    let entries : c.by_period-by_period.result.entries ≡ t = ap (λ (g : Grouped). g.entries) c.by_period-by_period.ensures
    ∙ c.entries.ensures.value in
    let text : List Cell → List ℕ = λ es. flat_map (λ k. block_text p es (of.Curriculum k)) (range_below (length p.curricula)) in
    subst (Puts g.W.Sink.contents g.W.Sink.has_failed c.args.out.now c.put_curricula.new.out) (ap text entries ∙ sym (curricula_are p t)
    ∙ ap (report_text p t) (sym c.in-Curriculum.is)) c.put_curricula.ensures
