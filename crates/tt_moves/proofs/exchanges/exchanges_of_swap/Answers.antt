use Rattle.std.proofs.Common.{sym, ap, ◌∙◌}
use Rattle.tt_moves.proofs.Stepping.{swapped_same, swapped_by_two}
use Rattle.tt_moves.proofs.exchanges.exchanges_of_swap.Goals as goal

pub returns-then-one-other : goal.returns-then-one-other
returns-then-one-other c =
    let is = ap (λ r. r.gone.course) c.without-without_one.ensures.value in
    let other = ap (λ e. e.course) c.entry-other.ensures.value in
    swapped_same c.args.occupied.now.entries c.args.first c.args.second c.requires.first c.requires.second
    (sym is ∙ c.if-one-other.true ∙ other)

pub returns : goal.returns
returns c =
    let is = ap (λ r. r.gone.course) c.without-without_one.ensures.value in
    let other = ap (λ e. e.course) c.entry-other.ensures.value in
    rw (c.in_place_of-there.ensures, c.in_place_of.ensures, c.without-without_one.ensures.value, c.entry-other.ensures.value)
    (swapped_by_two c.args.occupied c.entry-other.ensures.in_range c.args.first c.args.second c.requires.first c.requires.second
    (λ e. c.if-one-other.false (is ∙ e ∙ sym other)))
