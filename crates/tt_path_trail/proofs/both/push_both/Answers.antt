use Rattle.std.proofs.Common.{true, length, ap, ◌∙◌, arith}
use Rattle.tt_path.specs.Facts.{has_fact}
use Rattle.tt_path_trail.proofs.Halving.{stands_by_yes, by_halves, yes_of_few}
use Rattle.tt_path_trail.proofs.both.push_both.Goals as goal

pub push-requires-clause-listed : goal.push-requires-clause-listed
push-requires-clause-listed c =
    let g = c.args.fact.pattern in
    c.has-is_listed.ensures
    ∙ by_halves (λ p fs. has_fact fs g true) (λ p fs. stands_by_yes fs g) c.args.cells.now c.args.pins.now c.requires.halves

pub push-requires-2 : goal.push-requires-2
push-requires-2 c = omega (arith, yes_of_few c.args.cells.now.facts, ap length c.requires.halves.facts, c.requires.depth)
