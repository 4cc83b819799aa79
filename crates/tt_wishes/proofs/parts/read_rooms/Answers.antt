use Rattle.std.proofs.Common.{◌∙◌, sym, refl}
use Rattle.std.proofs.lemmas.Result.{err_from_is_err_and}
use Rattle.tt_text.proofs.Steps.{fails_as}
use Rattle.tt_wishes.specs.Reading.{is_environmental}
use Rattle.tt_wishes.proofs.Loops.{rooms_none, rooms_step, rooms_fail}
use Rattle.tt_wishes.proofs.parts.read_rooms.Goals as goal

pub loop-word-init : goal.loop-word-init
loop-word-init c = rw c.new-rooms.ensures.items refl

pub returns-in_err-room : goal.returns-in_err-room
returns-in_err-room c =
    let p = err_from_is_err_and c.from_residual.result c.from_residual.ensures.1 in
    rw (p.1, p.2) (fails_as is_environmental c.in_err-room.field-0.0 _ _ c.loop-word.invariant
    (rooms_fail c.in_err-room.field-0.0 _ _ _ _ _ c.in-Some.ensures c.in_err-room.ensures))

pub loop-word-preserved : goal.loop-word-preserved
loop-word-preserved c =
    let step = rooms_step _ _ _ _ _ c.in_ok-room.room c.in-Some.ensures c.in_ok-room.ensures in
    rw c.in_ok-push.ensures.items (sym step ∙ c.loop-word.invariant)

pub returns : goal.returns
returns c = sym c.loop-word.invariant ∙ rooms_none _ _ _ c.in_default.ensures.0
