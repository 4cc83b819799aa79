use Rattle.std.proofs.lemmas.List.Sorted.{answers_always}
use Rattle.std.proofs.Common.{rules}
use Rattle.tt_prices_check.proofs.Searching.{found_is, always_found}
use Rattle.tt_prices_check.proofs.moves.place_of.Goals as goal

pub unreachable-requires : goal.unreachable-requires
unreachable-requires c =
    always_found c.args.moves.now c.args.amounts.now c.requires.sorted c.requires.there _
    (c.in-Err.ensures.position (λ m. m.entry.amounts) (answers_always _ _ _ (λ f a r g called. search rules)))

pub returns-clause-there : goal.returns-clause-there
returns-clause-there c =
    found_is c.args.moves.now c.args.amounts.now c.in-Ok.place
    (c.in-Ok.ensures.position (λ m. m.entry.amounts) (answers_always _ _ _ (λ f a r g called. search rules)))
