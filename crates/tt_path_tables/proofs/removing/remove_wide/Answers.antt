use Rattle.std.proofs.Common.{ap, ◌∙◌}
use Rattle.std.specs.Prelude.{unwrap_or}
use Rattle.tt_path_tables.proofs.Wide.{wide_removed}
use Rattle.tt_path_tables.proofs.removing.remove_wide.Goals as goal

pub returns-clause-ok : goal.returns-clause-ok
returns-clause-ok c =
    let a = c.args in
    let g = a.pattern.now in
    let q = c.requires in
    wide_removed a.instance.now a.table.now.words c.widen.new.table.words c.drop_rooms.new.table.words a.course
    c.unwrap_or.result c.unwrap_or-2.result c.in_ok-widen.ensures.ok g
    (c.unwrap_or.ensures ∙ ap (unwrap_or g.day) c.days.ensures.value)
    (c.unwrap_or-2.ensures ∙ ap (unwrap_or g.period) c.periods.ensures.value)
    q.wide q.day q.period c.in_ok-drop_rooms.ensures.ok
