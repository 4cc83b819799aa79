use Rattle.std.proofs.Common.{◌≡◌, ◌<◌, true, ℕ, ◌∷◌, [], length, sym, ap, ◌∙◌, subst, arith, inl, inr}
use Rattle.std.specs.Prelude.{Contains, slice_index_or}
use Rattle.std.proofs.lemmas.List.{length-append}
use Rattle.std.proofs.lemmas.List.Elements.{Contains-append_left, Contains-push, Contains-push_cases}
use Rattle.std.proofs.lemmas.List.Sums.{count_by-le-length}
use Rattle.tt_moves_chain.specs.Chains.{linked}
use Rattle.tt_moves_chain.specs.Marks.{marked}
use Rattle.tt_moves_chain.proofs.Marking.{marked-below}
use Rattle.tt_moves_chain.proofs.spreading.spread.Goals as goal

pub reach-requires-clause-place : goal.reach-requires-clause-place
reach-requires-clause-place c =
    let inv = c.loop-place.invariant in
    let waits = subst (λ l. Contains l c.in-Some.place) (sym c.in-Some.ensures.items)
    (Contains-push c.pop.new.self.items c.in-Some.place) in
    let below = marked-below c.loop-place.flags.items c.in-Some.place (inv.inside c.in-Some.place waits) in
    omega (arith, below, inv.size)

pub loop-place-smaller : goal.loop-place-smaller
loop-place-smaller c =
    let step = c.in_ok-reach.ensures.marking in
    let n = count_by-le-length (λ b. b) c.reach.new.flags.items in
    omega (
      arith,
      step.counted,
      step.grows,
      step.size,
      n,
      c.loop-place.invariant.size,
      ap length c.in-Some.ensures.items,
      length-append c.pop.new.self.items (c.in-Some.place ∷ []),
    )

pub loop-place-preserved : goal.loop-place-preserved
loop-place-preserved c =
    let p = c.args.instance.now in
    let t = c.args.entries.now in
    let inv = c.loop-place.invariant in
    let place = c.in-Some.place in
    let rest = c.pop.new.self.items in
    let new = c.reach.new.flags.items in
    let split = c.in-Some.ensures.items in
    let step = c.in_ok-reach.ensures.marking in
    let here = inv.inside place (subst (λ l. Contains l place) (sym split) (Contains-push rest place)) in
    record {
      size = step.size ∙ inv.size;
      starts = step.stays c.args.entry inv.starts;
      inside = λ i e. elim (step.waits i e) [
        | inl m ↦ step.stays i (inv.inside i (subst (λ l. Contains l i) (sym split) (Contains-append_left rest (place ∷ []) i m)))
        | inr m ↦ m
      ];
      followed = λ i e. elim (step.new_waits i e) [
        | inl m ↦ elim (inv.followed i m) [
          | inl w ↦ elim (Contains-push_cases rest place i (subst (λ l. Contains l i) split w)) [
            | inl r ↦ inl (step.still_waits i r)
            | inr s ↦ inr
                (λ j d h l. c.in_ok-reach.ensures.reached j d h
                (subst (λ k. linked p c.args.pair.from c.args.pair.to (slice_index_or t k d) (slice_index_or t j d) ≡ true) (sym s) l))
          ]
          | inr f ↦ inr (λ j d h l. step.stays j (f j d h l))
        ]
        | inr w ↦ inl w
      ];
      sound = λ m closed starts i e. c.in_ok-reach.ensures.sound m closed (inv.sound m closed starts place here)
          (λ k f. inv.sound m closed starts k f) i e;
    }

pub returns : goal.returns
returns c =
    let inv = c.loop-place.invariant in
    record {
      size = inv.size;
      starts = inv.starts;
      closed = λ i j d h k e l. elim (inv.followed i e) [
        | inl w ↦ absurd (omega (arith, w.1, c.in_default.ensures.cases.0))
        | inr f ↦ f j d k l
      ];
      least = λ m closed starts i e. inv.sound m closed starts i e;
    }
