use Rattle.std.proofs.Common.{sym, subst, arith}
use Rattle.std.specs.Prelude.{pos, ◌≤ℤ◌}
use Rattle.std.proofs.lemmas.Int.{ints}
use Rattle.std.proofs.lemmas.List.Elements.{Contains-get_or}
use Rattle.tt_prices_check.proofs.Listing.{raised_is}
use Rattle.tt_prices_check.proofs.moves.priced_move.Goals as goal

pub returns-clause-is : goal.returns-clause-is
returns-clause-is c = record {
  amounts = c.place_of.ensures.there _;
  raised = raised_is c.args.day.now.paid c.requires.small.0 c.requires.small.1;
}

pub returns-clause-own : goal.returns-clause-own
returns-clause-own c = Contains-get_or c.args.moves.now c.place_of.result _ c.place_of.ensures.inside

pub returns-clause-small : goal.returns-clause-small
returns-clause-small c = subst (λ z. z ≤ℤ pos 2199023255552) (sym (raised_is c.args.day.now.paid c.requires.small.0 c.requires.small.1))
    (omega (arith, ints, c.requires.small.1))
