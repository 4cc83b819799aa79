use Rattle.std.proofs.Common.{◌≡◌, false, ◌<◌, ℕ, List, length, get_or, sym, subst, below_more, refl, arith}
use Rattle.std.proofs.lemmas.Bool.{false≢true}
use Rattle.tt_moves_chain.specs.Chains.{Kempe}
use Rattle.tt_moves_chain.specs.Answers.{MayTurn, IsPeriod, same_slot}
use Rattle.tt_moves_chain.proofs.Holding.{EachMayTurn, closed_from, free_from, inside_from, each_from}
use Rattle.tt_moves_chain.proofs.kempe.Chain.is_of.Goals as goal

pub returns-then-not-can_turn : goal.returns-then-not-can_turn
returns-then-not-can_turn c = (
  λ e. absurd (false≢true e),
  λ of.
      let o = c.args.occupied.now in
      let x = c.args.self.now in
      let is = c.members-member-items.ensures.value in
      let k = c.loop-member.member-index in
      let h = subst (λ (l : List ℕ). k < length l) is c.loop-member-test.true in
      let may = each_from o.problem o.entries x.from x.to x.members of.inside of.closed of.free k h in
      c.if-not-can_turn.ensures.1 (subst (λ (l : List ℕ). MayTurn o.problem o.entries x.from x.to x.members (get_or l k 0)) (sym is) may),
)

pub loop-member-preserved : goal.loop-member-preserved
loop-member-preserved c = below_more _ _ c.loop-member.invariant (c.if-not-can_turn.ensures.0 refl)

pub returns : goal.returns
returns c =
    let o = c.args.occupied.now in
    let x = c.args.self.now in
    let is = c.members-member-items.ensures.value in
    let all = c.loop-member-test.false in
    let each : EachMayTurn o.problem o.entries x.from x.to x.members = λ k h.
    let l = subst (λ (z : List ℕ). k < length z) (sym is) h in
    subst (λ (z : List ℕ). MayTurn o.problem o.entries x.from x.to x.members (get_or z k 0)) is
    (c.loop-member.invariant k (omega arith)) in (
      λ _. record {
        from = subst (λ (z : Kempe). IsPeriod o.problem z.from) c.self.view_is
            (subst (λ z. IsPeriod z c.self.inside.pair.from) c.instance-instance.ensures (c.if-not-is_period.ensures.0 refl));
        to = subst (λ (z : Kempe). IsPeriod o.problem z.to) c.self.view_is
            (subst (λ z. IsPeriod z c.self.inside.pair.to) c.instance-instance.ensures (c.if-not-is_period-2.ensures.0 refl));
        apart = subst (λ (z : Kempe). same_slot z.from z.to ≡ false) c.self.view_is c.self.invariant.apart;
        inside = inside_from o.problem o.entries x.from x.to x.members each;
        closed = closed_from o.problem o.entries x.from x.to x.members each;
        free = free_from o.problem o.entries x.from x.to x.members each;
      },
      λ _. refl,
    )
