use Rattle.std.proofs.Common.{◌≡◌, true, false, All, subst, sym, ap, ◌∙◌}
use Rattle.std.proofs.lemmas.List.Elements.{All-tail}
use Rattle.tt_instance.specs.Problem.{Problem}
use Rattle.tt_instance.specs.Cells.{InRange}
use Rattle.tt_page_text.specs.Kinds.{belongs_to}
use Rattle.tt_page_weeks.specs.Lectures.{lecture_text}
use Rattle.tt_page_weeks.proofs.Passing.{shown_one, passed_one}
use Rattle.tt_page_weeks.proofs.grids.put_lectures.Goals as goal

pub loop-entry-preserved-then-is_in_week : goal.loop-entry-preserved-then-is_in_week
loop-entry-preserved-then-is_in_week c =
    let p = c.args.plan.now.problem in
    let t = c.args.plan.now.table in
    let e = c.in-Some.entry.now in
    let first = c.in-Some.ensures.steps in
    let own : belongs_to p c.args.kind c.args.number e ≡ true = ap (λ (q : Problem). belongs_to q c.args.kind c.args.number e)
    (sym c.instance.ensures) ∙ sym c.is_in_week.ensures ∙ c.if-is_in_week.true in
    record {
      text = shown_one (belongs_to p c.args.kind c.args.number)
          (lecture_text p t c.args.view.now.labels.now c.args.view.now.is_linked c.args.kind c.args.number) e
          c.next.new.self c.loop-entry.entry-iterator _ c.loop-entry.out c.put_lecture.new.out first own c.put_lecture.ensures
          c.loop-entry.invariant.text;
      left = All-tail (InRange p) e c.next.new.self (subst (All (InRange p)) first c.loop-entry.invariant.left);
    }

pub loop-entry-preserved : goal.loop-entry-preserved
loop-entry-preserved c =
    let p = c.args.plan.now.problem in
    let t = c.args.plan.now.table in
    let e = c.in-Some.entry.now in
    let first = c.in-Some.ensures.steps in
    let other : belongs_to p c.args.kind c.args.number e ≡ false = ap (λ (q : Problem). belongs_to q c.args.kind c.args.number e)
    (sym c.instance.ensures) ∙ sym c.is_in_week.ensures ∙ c.if-is_in_week.false in
    record {
      text = passed_one (belongs_to p c.args.kind c.args.number)
          (lecture_text p t c.args.view.now.labels.now c.args.view.now.is_linked c.args.kind c.args.number) e
          c.next.new.self c.loop-entry.entry-iterator _ c.loop-entry.out first other c.loop-entry.invariant.text;
      left = All-tail (InRange p) e c.next.new.self (subst (All (InRange p)) first c.loop-entry.invariant.left);
    }
