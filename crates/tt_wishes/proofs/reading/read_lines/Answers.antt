use Rattle.std.proofs.Common.{◌∙◌, sym, refl}
use Rattle.std.proofs.lemmas.Result.{err_from_is_err_and}
use Rattle.tt_text.proofs.Steps.{fails_as}
use Rattle.tt_wishes.specs.Reading.{is_environmental, wishes_of}
use Rattle.tt_wishes.proofs.Loops.{rows_none, rows_step, rows_fail}
use Rattle.tt_wishes.proofs.reading.read_lines.Goals as goal

pub loop-line-init : goal.loop-line-init
unfolding wishes_of
loop-line-init c = rw (c.new-wishes.ensures.items, c.new-lines.ensures) refl

pub returns-in_err-read_line : goal.returns-in_err-read_line
returns-in_err-read_line c =
    let p = err_from_is_err_and c.from_residual.result c.from_residual.ensures.1 in
    rw (p.1, p.2) (fails_as is_environmental c.in_err-read_line.field-0.0 _ _ c.loop-line.invariant
    (rows_fail c.in_err-read_line.field-0.0 _ _ _ _ _ c.in-Some.ensures.gives c.in_err-read_line.ensures))

pub loop-line-preserved : goal.loop-line-preserved
loop-line-preserved c = sym (rows_step _ _ _ _ _ _ c.in-Some.ensures.gives c.in_ok-read_line.ensures) ∙ c.loop-line.invariant

pub returns : goal.returns
returns c = sym c.loop-line.invariant ∙ rows_none _ _ _ c.in_default.ensures.gives.0
