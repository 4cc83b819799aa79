use Rattle.std.proofs.Common.{◌≡◌, ℕ, ◌<◌, List, length, sym, ap, ◌∙◌, subst}
use Rattle.std.specs.Prelude.{All}
use Rattle.std.specs.List.Sorted.{IsStrictlyIncreasing}
use Rattle.tt_instance.specs.Problem.{Problem}
use Rattle.tt_instance.specs.declared.cell.Cell.{Cell}
use Rattle.tt_moves_chain.specs.Chains.{IsChain}
use Rattle.tt_moves_chain.specs.Marks.{IsSpread}
use Rattle.tt_moves_chain.proofs.Places.{places, places_below, places_rising, chain_is}
use Rattle.tt_moves_chain.proofs.seeking.members_of.Goals as goal

pub returns-clause-chain : goal.returns-clause-chain
returns-clause-chain c =
    let o = c.args.occupied.now in
    let a = c.args.pair.from in
    let b = c.args.pair.to in
    let fs = c.in_ok-flags.flags.items in
    let are = c.in_ok-places.ensures ∙ ap places c.as_slice.ensures.value in
    let in_p = subst (λ (z : Problem). IsSpread z c.entries-entries.result.now a b c.args.entry fs) c.instance.ensures
    c.in_ok-flags.ensures in
    let spread = subst (λ (z : List Cell). IsSpread o.problem z a b c.args.entry fs)
    (c.entries-entries.ensures.value ∙ c.table.ensures.value) in_p in
    subst (λ (z : List ℕ). IsChain o.problem o.entries a b c.args.entry z) (sym are)
    (chain_is o.problem o.entries a b c.args.entry c.requires.entry c.requires.from fs spread)

pub returns-clause-rising : goal.returns-clause-rising
returns-clause-rising c = subst IsStrictlyIncreasing (sym c.in_ok-places.ensures) (places_rising c.as_slice.result.now)

pub returns-clause-inside : goal.returns-clause-inside
returns-clause-inside c =
    let t = c.args.occupied.now.entries in
    let fs = c.as_slice.result.now in
    let size : length fs ≡ length t = ap length c.as_slice.ensures.value ∙ c.in_ok-flags.ensures.size
    ∙ ap length (c.entries-entries.ensures.value ∙ c.table.ensures.value) in
    let below = subst (λ (n : ℕ). All (λ i. i < n) (places fs)) size (places_below fs) in
    subst (λ (z : List ℕ). All (λ i. i < length t) z) (sym c.in_ok-places.ensures) below
