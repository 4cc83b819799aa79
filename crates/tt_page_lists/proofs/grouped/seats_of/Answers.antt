use Rattle.std.proofs.Common.{◌≡◌, ℕ, ◌+◌, ◌≤◌, List, ◌∷◌, All, length, ap, subst, ◌∙◌, arith}
use Rattle.std.specs.Prelude.{sum_by}
use Rattle.std.proofs.lemmas.List.Elements.{All-tail}
use Rattle.std.proofs.lemmas.List.Sums.{sum_by-cons}
use Rattle.tt_instance.specs.Cells.{InRange}
use Rattle.tt_instance.specs.Courses.{excess}
use Rattle.tt_page_lists.proofs.grouped.seats_of.Goals as goal

-- the number of the first of the elements that are left is added
sum_further : {X : Type 0} (f : X → ℕ) (x : X) (xs left : List X) (total more whole : ℕ) → left ≡ x ∷ xs → more ≡ f x
    → total + sum_by f left ≡ whole → (total + more) + sum_by f xs ≡ whole
sum_further f x xs left total more whole is one before =
    let next : sum_by f left ≡ f x + sum_by f xs = ap (sum_by f) is ∙ sum_by-cons f x xs in
    omega arith

pub loop-entry-preserved : goal.loop-entry-preserved
loop-entry-preserved c =
    let p = c.args.instance.now in
    let e = c.in-Some.entry.now in
    let first = c.in-Some.ensures.steps in
    let left = ap length first in record {
      summed = sum_further (λ e. excess p e.course e.room) e c.next.new.self c.loop-entry.entry-iterator c.loop-entry.total
          c.without_seat-total.result _ first c.without_seat-total.ensures.value c.loop-entry.invariant.summed;
      at_most = omega arith;
      left = All-tail (InRange p) e c.next.new.self (subst (All (InRange p)) first c.loop-entry.invariant.left);
    }
