use Rattle.std.proofs.Common.{◌+◌, ◌*◌, ◌∙◌, length}
use Rattle.std.specs.Prelude.{nat_lt}
use Rattle.tt_instance.specs.Cells.{cell}
use Rattle.tt_path.specs.Live.{is_dead}
use Rattle.tt_leaf_rules.proofs.Covering.{clear_word}
use Rattle.tt_leaf_rules.proofs.prices.is_clear_in.Goals as goal

pub returns : goal.returns
returns g c =
    let a = c.args in
    let p = g.P.Path.problem a.path.now in
    c.is_empty.ensures
    ∙ clear_word a.rooms c.live_rooms-live.result c.both.result (λ n. nat_lt (a.block * 64 + n) (length p.rooms))
    (λ n. is_dead p (g.P.Path.facts a.path.now) (cell a.course (a.block * 64 + n) a.slot)) c.both.ensures c.live_rooms-live.ensures
