use Rattle.std.proofs.Common.{◌≡◌, ℕ, ◌<◌, false, List, length, get_or, refl, sym, ap, ◌∙◌, subst}
use Rattle.tt_moves_chain.specs.Answers.{is_shut}
use Rattle.tt_moves_chain.proofs.Places.{first_shut, open_is}
use Rattle.tt_moves_chain.proofs.seeking.chain_between.Goals as goal

pub returns-in-Some : goal.returns-in-Some
returns-in-Some c =
    let o = c.args.occupied.now in
    let a = c.args.pair.from in
    let b = c.args.pair.to in
    let ms = c.in-Ok.members.items in
    let is = c.as_slice.ensures.value in
    let w = c.in-Some.ensures in
    let inside = subst (λ (z : List ℕ). w.0 < length z) is w.1 in
    let here = ap (λ z. get_or z w.0 0) (sym is) ∙ w.2 in
    let before = λ (k : ℕ) (l : k < w.0). ap (λ z. is_shut o.problem o.entries a b (get_or z k 0)) (sym is) ∙ w.4 k l in (
      sym c.is_same_slot.ensures ∙ c.if-is_same_slot.false,
      ms,
      c.in-Ok.ensures.chain,
      first_shut o.problem o.entries a b ms c.in-Ok.ensures.rising w.0 c.in-Some.member inside here w.3 before,
    )

pub returns : goal.returns
returns c =
    let o = c.args.occupied.now in
    let a = c.args.pair.from in
    let b = c.args.pair.to in
    let ms = c.in-Ok.members.items in
    let is = c.as_slice.ensures.value in
    let none = λ (k : ℕ) (l : k < length ms). ap (λ z. is_shut o.problem o.entries a b (get_or z k 0)) (sym is)
    ∙ c.in_default-first_barred.ensures k (subst (λ (z : List ℕ). k < length z) (sym is) l) in
    record {
      from = refl;
      to = refl;
      chain = c.in-Ok.ensures.chain;
      of = record {
        from = c.requires.from;
        to = c.requires.to;
        apart = sym c.is_same_slot.ensures ∙ c.if-is_same_slot.false;
        inside = c.in-Ok.ensures.inside;
        closed = c.in-Ok.ensures.chain.closed;
        free = open_is o.problem o.entries a b ms c.in-Ok.ensures.inside none;
      };
    }
