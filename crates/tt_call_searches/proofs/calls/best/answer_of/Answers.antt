use Rattle.std.proofs.Common.{◌≡◌, ℕ, List, Ok, inl, arith}
use Rattle.std.proofs.lemmas.Result.{IfOk-weaker}
use Rattle.tt_instance.specs.Spelling.{Spells}
use Rattle.tt_rules.specs.Score.{IsFeasible, cost}
use Rattle.tt_call_answers.specs.Names.{labels_for}
use Rattle.tt_call_answers.specs.declared.names.PageNames.{PageNames}
use Rattle.tt_call_searches.specs.Best.{IsBest, CostsAtMost}
use Rattle.tt_call_searches.proofs.calls.best.answer_of.Goals as goal

pub returns-then-feasible-clause-found : goal.returns-then-feasible-clause-found
returns-then-feasible-clause-found c =
    let p = c.args.instance.now in
    let look = c.args.look.now in
    let style = look.style.now in
    IfOk-weaker c.found_answer.result
    (λ a. (i : List ℕ) (names : PageNames) → Spells i p → labels_for p names ≡ Ok look.labels.now → CostsAtMost i names style
    c.cost.result a)
    (λ a. (i : List ℕ) (names : PageNames) → Spells i p → labels_for p names ≡ Ok look.labels.now → IsBest i names style a)
    (λ a h i names spells named. inl (h i names spells named).found) c.found_answer.ensures

pub returns-then-feasible-clause-costs : goal.returns-then-feasible-clause-costs
returns-then-feasible-clause-costs c =
    let p = c.args.instance.now in
    let t = c.args.week.now.table in
    let look = c.args.look.now in
    let style = look.style.now in
    IfOk-weaker c.found_answer.result
    (λ a. (i : List ℕ) (names : PageNames) → Spells i p → labels_for p names ≡ Ok look.labels.now → CostsAtMost i names style
    c.cost.result a)
    (λ a. (i : List ℕ) (names : PageNames) → Spells i p → labels_for p names ≡ Ok look.labels.now → IsFeasible p t
    → CostsAtMost i names style (cost p t) a)
    (λ a h i names spells named feasible.
    let x = h i names spells named in record { found = x.found; within = omega (arith, x.within) }) c.found_answer.ensures
