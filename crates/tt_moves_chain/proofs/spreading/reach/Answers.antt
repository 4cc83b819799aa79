use Rattle.std.proofs.Common.{◌≡◌, ◌<◌, Bool, true, ℕ, List, length, get_or, sym, ap, ◌∙◌, subst, arith, inl, inr}
use Rattle.std.specs.Prelude.{◌⊎◌, slice_index_or}
use Rattle.std.proofs.lemmas.List.{get_or_default}
use Rattle.std.proofs.lemmas.Bool.{cases_lt, both_ways}
use Rattle.tt_instance.specs.declared.cell.Cell.{Cell}
use Rattle.tt_moves_chain.specs.Chains.{linked}
use Rattle.tt_moves_chain.specs.Marks.{marked, IsMarking}
use Rattle.tt_moves_chain.proofs.Marking.{marking-none, marking-both}
use Rattle.tt_moves_chain.proofs.spreading.reach.Goals.{then-is_linked+in_ok-mark, else-is_linked}
use Rattle.tt_moves_chain.proofs.spreading.reach.Goals as goal

pub loop-j-preserved : goal.loop-j-preserved
loop-j-preserved c =
    let p = c.args.instance.now in
    let t = c.args.entries.now in
    let a = c.args.pair.from in
    let b = c.args.pair.to in
    let place = c.args.place in
    let j = c.loop-j.j in
    let inv = c.loop-j.invariant in
    let old = c.loop-j.flags.items in
    let none : Cell = record { course = 0; room = 0; day = 0; period = 0 } in
    let x = slice_index_or t place none in
    let here : (k : ℕ) (d : Cell) → j ≡ k → k < length t → linked p a b x (slice_index_or t k d) ≡ true
    → c.is_linked.result ≡ true = λ k d same short l.
    c.is_linked.ensures ∙ subst (λ z. linked p a b x z ≡ true)
    (get_or_default t k d none short ∙ ap (λ n. get_or t n none) (sym same)) l in
    let old = c.loop-j.flags.items in
    let waited = c.loop-j.waiting.items in
    let new = c.if-is_linked.flags.items in
    let waiting = c.if-is_linked.waiting.items in
    let step : IsMarking old waited new waiting = elim c.if-is_linked.branch [
      | then-is_linked+in_ok-mark w ↦
          subst (λ (l : List Bool). IsMarking old waited l waiting) (sym (ap (λ v. v.items) w.flags-is))
          (subst (λ (l : List ℕ). IsMarking old waited w.mark.new.flags.items l)
          (sym (ap (λ v. v.items) w.waiting-is)) w.in_ok-mark.ensures.marking)
      | else-is_linked w ↦
          subst (λ (l : List Bool). IsMarking old waited l waiting) (sym (ap (λ v. v.items) w.flags-is))
          (subst (λ (l : List ℕ). IsMarking old waited old l) (sym (ap (λ v. v.items) w.waiting-is)) (marking-none old waited))
    ] in
    let marks_here : c.is_linked.result ≡ true → marked new j ≡ true = elim c.if-is_linked.branch [
      | then-is_linked+in_ok-mark w ↦ λ _. ap (λ v. marked v.items j) w.flags-is ∙ w.in_ok-mark.ensures.marked
      | else-is_linked w ↦ λ e. absurd (both_ways c.is_linked.result w.if-is_linked.false e)
    ] in
    let only : (i : ℕ) → marked new i ≡ true → (marked old i ≡ true) ⊎ ((i ≡ j) × (c.is_linked.result ≡ true)) =
    elim c.if-is_linked.branch [
      | then-is_linked+in_ok-mark w ↦ λ i e. elim (w.in_ok-mark.ensures.only i (sym (ap (λ v. marked v.items i) w.flags-is) ∙ e)) [
        | inl m ↦ inl m
        | inr m ↦ inr (m, w.if-is_linked.true)
      ]
      | else-is_linked w ↦ λ i e. inl (sym (ap (λ v. marked v.items i) w.flags-is) ∙ e)
    ] in
    record {
      marking = marking-both c.args.flags.now.items old new c.args.waiting.now.items waited waiting inv.marking step;
      reached = λ k d h l. elim (cases_lt k j) [
        | inl m ↦ step.stays k (inv.reached k d m l)
        | inr m ↦
            let same : j ≡ k = omega arith in
            let short : k < length t = subst (λ z. z < length t) same c.loop-j-test.true in
            subst (λ z. marked new z ≡ true) same (marks_here (here k d same short l))
      ];
      sound = λ m closed starts before i e. elim (only i e) [
        | inl f ↦ inv.sound m closed starts before i f
        | inr f ↦ ap m f.0 ∙ closed.links place j none c.requires.place c.loop-j-test.true starts (sym c.is_linked.ensures ∙ f.1)
      ];
    }
