use Rattle.std.proofs.Common.{ℕ, ◌-◌, ◌*◌, length, ap, ◌∙◌}
use Rattle.std.specs.Prelude.{nat_lt}
use Rattle.tt_instance.specs.Cells.{slot, cell}
use Rattle.tt_path.specs.Live.{is_live}
use Rattle.tt_leaf_rules.proofs.Blocks.{block_full}
use Rattle.tt_leaf_rules.proofs.groups.open_block.Goals as goal

pub returns-then-open-all : goal.returns-then-open-all
returns-then-open-all g c =
    let a = c.args in
    let p = g.P.Path.problem a.path.now in
    let path = g.P.Path.facts a.path.now in
    let live = λ (r i : ℕ). is_live p path (cell i r (slot a.day a.period)) in
    block_full (length p.rooms) a.block c.loop-course.open c.below-all.result live a.courses.now c.loop-course.course-index
    c.if-open-all.true
    (λ k h. c.below-all.ensures k h ∙ ap (λ m. nat_lt k (m - a.block * 64))
    (c.rooms.ensures.value ∙ ap (λ q. length q.rooms) c.instance.ensures))
    c.loop-course.invariant
