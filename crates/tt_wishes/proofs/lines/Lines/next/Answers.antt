use Rattle.std.proofs.Common.{◌≡◌, ◌≤◌, ◌∙◌, length, sym, refl, arith}
use Rattle.std.specs.List.{slice_split}
use Rattle.tt_wishes.specs.Lines.{rows_of_lines, rows_left, is_line_feed}
use Rattle.tt_wishes.proofs.LineLaws.{next_row, left_shorter}
use Rattle.tt_wishes.proofs.lines.Lines.next.Goals as goal

pub invariant_of-self : goal.invariant_of-self
invariant_of-self c =
    let less : length c.after_first-after.result.now ≤ length c.self.inside.rest.now =
    left_shorter c.line_len-len.result _ _ _ c.split_at.ensures.back c.after_first-after.ensures in
    omega (arith, less, c.self.invariant)

pub returns-clause-gives : goal.returns-clause-gives
returns-clause-gives c =
    let s = c.self.inside in
    let left : rows_left s.over s.at s.rest.now ≡ rows_of_lines s.at (slice_split is_line_feed s.rest.now) = rw c.if-self.false refl in
    sym c.self.view_is ∙ left
    ∙ next_row _ _ _ _ _ _ _ _ c.line_len-len.ensures.len c.split_at.ensures.front c.split_at.ensures.back c.after_first-after.ensures refl
    c.is_empty-over.ensures
