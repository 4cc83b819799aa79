use Rattle.std.proofs.Common.{ℕ, List, refl, sym, ap, subst, ◌∙◌, arith}
use Rattle.std.specs.Prelude.{Vec}
use Rattle.std.specs.Global.{Global}
use Rattle.tt_proof_check.proofs.Soundness.{holds_rootless}
use Rattle.tt_proof_sum.specs.Sums.{IsSum}
use Rattle.tt_parts.specs.Found.{texts_of}
use Rattle.tt_call_searches.proofs.Certified.{whole}
use Rattle.tt_call_searches.proofs.calls.best.found_answer.Goals as goal

pub returns : goal.returns
returns c =
    λ i names spells named.
    let a = c.args in
    let parts = a.parts.now in
    let solution = c.in_ok-write_solution in
    let page = c.in_ok-page_of in
    let copies = c.in_ok-copy_texts in
    let same = copies.ensures ∙ ap (λ (l : List (Vec ℕ Global)). texts_of l) c.deref.ensures.value in
    let sum = subst (λ (files : List (List ℕ)). IsSum a.instance.now files parts.bound) (sym same) c.requires.parts.sum in
    let is = whole i solution.field-0.items a.instance.now a.table.now (texts_of copies.field-0.items) page.field-0 names
    a.look.now.labels.now a.look.now.style.now parts.bound a.cost
    c.in-AtLeast.points spells solution.ensures.again c.requires.feasible c.requires.cost sum
    (holds_rootless a.instance.now parts.bound c.requires.parts.holds) c.in-AtLeast.is named page.ensures in
    record {
      found = record {
        solution = solution.field-0.items;
        cost = a.cost;
        bound = c.in-AtLeast.points;
        certified = is.certified;
        bounds = is.bounds;
        within = is.within;
        file = refl;
        labels = a.look.now.labels.now;
        named = is.named;
        page = is.shown;
        no_partial = refl;
        text = c.in_ok-found_line.ensures;
        status = refl;
      };
      within = omega arith;
    }
