-- The answer of `best`, from the results of its steps.
use Rattle.std.proofs.Common.{◌≡◌, ◌≤◌, ℕ, List, Option, Some, None, Ok, refl, sym, subst, arith}
use Rattle.std.proofs.lemmas.Option.{none-some}
use Rattle.std.specs.Prelude.{Vec}
use Rattle.tt_instance.specs.Problem.{Problem}
use Rattle.tt_instance.specs.Spelling.{Spells}
use Rattle.tt_instance.specs.declared.cell.Cell.{Cell}
use Rattle.tt_instance_read.proofs.Laws.{spelled_instance, spelled_once}
use Rattle.tt_table.specs.Spelling.{SpellsTable}
use Rattle.tt_table.specs.Table.{IsTimetable}
use Rattle.tt_table.specs.Reading.{solution_of}
use Rattle.tt_table.proofs.EntryLaws.{solution_read}
use Rattle.tt_rules.specs.Score.{IsFeasible, hard, cost}
use Rattle.tt_moves.specs.Changes.{IsLower}
use Rattle.tt_leaf.specs.declared.leaf.Bound.{Bound}
use Rattle.tt_leaf.specs.declared.leaf.Bound.TheVariants.{AtLeast}
use Rattle.tt_page.specs.Pages.{page_text}
use Rattle.tt_page.specs.declared.proved.Proved.TheVariants as proved
use Rattle.tt_page_text.specs.Labelled.{Labelled}
use Rattle.tt_proof_check.specs.Derives.{HoldsOfAll}
use Rattle.tt_proof_check.specs.Headline.{BoundsAll}
use Rattle.tt_proof_sum.specs.Sums.{IsSum}
use Rattle.tt_best.specs.Weeks as week
use Rattle.tt_best.specs.Weeks.{IsNoHigher, IsNoWorseThan}
use Rattle.tt_call_searches.specs.Best.{BeginsWell, ShowsPage, CostsAtMost, CostsNoMore}
use Rattle.tt_call_searches.specs.Given.{IsGiven}
use Rattle.tt_call_searches.specs.declared.calls.best.BestAnswer.{BestAnswer}
use Rattle.tt_call_answers.specs.Names.{labels_for}
use Rattle.tt_call_answers.specs.declared.names.PageNames.{PageNames}
use Rattle.tt_call_answers.specs.Sums.{CertifiesSum}

-- the solution and the proofs certify a cost and a bound, which holds for every feasible timetable, and the page shows them
pub record IsWhole {A : Type 0} (instance solution : List ℕ) (files : List (List ℕ)) (page : Option (Vec ℕ A)) (names : PageNames)
    (labels : Labelled) (style : List ℕ) (c b : ℕ) : Type 0 where
  pub certified : CertifiesSum instance solution files c b
  pub bounds : BoundsAll instance b
  pub within : b ≤ c
  pub named : labels_for certified.solves.problem names ≡ Ok labels
  pub shown : ShowsPage page (page_text certified.solves.problem certified.solves.table labels (proved.AtLeast b) style)

-- they certify them if the solution spells a feasible timetable of this cost, and the bound is the sum
pub whole : {A : Type 0} (i s : List ℕ) (p : Problem) (t : List Cell) (files : List (List ℕ)) (page : Option (Vec ℕ A)) (names : PageNames)
    (labels : Labelled) (style : List ℕ) (sum : Bound) (c b : ℕ) → Spells i p → SpellsTable p s t → IsFeasible p t → c ≡ cost p t
    → IsSum p files sum → HoldsOfAll p sum → sum ≡ AtLeast b → labels_for p names ≡ Ok labels
    → ShowsPage page (page_text p t labels (proved.AtLeast b) style) → IsWhole i s files page names labels style c b
whole i s p t files page names labels style sum c b spells solved feasible costs is holds e named shown =
    let here : HoldsOfAll p (AtLeast b) = subst (λ (x : Bound). HoldsOfAll p x) e holds in
    record {
      certified = record {
        solves = record {
          problem = p;
          table = t;
          both = record { spelled = spells; solved = solved };
          feasible = feasible;
          costs = sym costs;
        };
        sum = subst (λ (x : Bound). IsSum p files x) e is;
      };
      bounds = λ other read. subst (λ (x : Problem). HoldsOfAll x (AtLeast b)) (spelled_once i p other spells read) here;
      within = subst (λ (n : ℕ). b ≤ n) (sym costs) (here t feasible);
      named = named;
      shown = shown;
    }

-- ---- a given solution

-- no hard rule is broken, at no higher cost
no_lower : (hard_one cost_one hard_other cost_other : ℕ) → hard_one ≡ 0 → (IsLower hard_one cost_one hard_other cost_other → ⊥)
    → (hard_other ≡ 0) × (cost_other ≤ cost_one)
no_lower hard_one cost_one hard_other cost_other none kept = (grind (arith, none, kept), grind (arith, none, kept))

-- a timetable that is no worse than one that breaks no hard rule breaks none, and costs no more
no_worse_found : (p : Problem) (t u : List Cell) → IsTimetable p u → IsFeasible p t → IsNoHigher p t u
    → IsFeasible p u × (cost p u ≤ cost p t)
no_worse_found p t u fits feasible kept =
    let none : hard p t ≡ 0 = omega (arith, feasible.lectures, feasible.conflicts, feasible.availability, feasible.room_occupancy) in
    let found = no_lower (hard p t) (cost p t) (hard p u) (cost p u) none kept in (
      record {
        timetable = fits;
        lectures = omega (arith, found.0);
        conflicts = omega (arith, found.0);
        availability = omega (arith, found.0);
        room_occupancy = omega (arith, found.0);
      },
      found.1,
    )

-- the answer costs no more than a given solution that breaks no hard rule
pub costs_no_more : (i : List ℕ) (given : Option (List ℕ)) (names : PageNames) (style : List ℕ) (p : Problem) (table : Option (List Cell))
    (w : List Cell) (a : BestAnswer) → Spells i p → IsGiven p given table → IsTimetable p w → IsNoWorseThan p table w
    → (IsFeasible p w → CostsAtMost i names style (cost p w) a) → CostsNoMore i given names style a
costs_no_more i None names style p table w a spells is fits kept costs = tt
costs_no_more i (Some s) names style p None w a spells is fits kept costs = absurd is
costs_no_more i (Some s) names style p (Some t) w a spells is fits kept costs =
    λ c solves.
    let limits = (spelled_instance i p spells).within in
    let same : solves.problem ≡ p = spelled_once i solves.problem p solves.both.spelled spells in
    let spelled : SpellsTable p s solves.table = subst (λ (q : Problem). SpellsTable q s solves.table) same solves.both.solved in
    let read : solution_of p s ≡ Ok t = solution_read p s t limits is in
    let again : solution_of p s ≡ Ok solves.table = solution_read p s solves.table limits spelled in
    let one : solves.table ≡ t = cc (read, again) in
    let there : IsFeasible p solves.table = subst (λ (q : Problem). IsFeasible q solves.table) same solves.feasible in
    let feasible : IsFeasible p t = subst (λ (u : List Cell). IsFeasible p u) one there in
    let costs_here : cost p solves.table ≡ c = subst (λ (q : Problem). cost q solves.table ≡ c) same solves.costs in
    let costs_given : cost p t ≡ c = subst (λ (u : List Cell). cost p u ≡ c) one costs_here in
    let found = no_worse_found p t w fits feasible kept in
    let answer = costs found.0 in
    record { found = answer.found; within = omega (arith, answer.within, found.1, costs_given) }

-- ---- the beginning of a search

-- without a given solution there is no given timetable
none_given : (p : Problem) (given : Option (List ℕ)) (table : Option (List Cell)) → IsGiven p given table → given ≡ None → table ≡ None
none_given p None None is none = refl
none_given p None (Some t) is none = absurd is
none_given p (Some s) table is none = absurd (none-some s (sym none))

-- the answer costs no more than a feasible timetable with which the search began
pub begins_well : (i : List ℕ) (given : Option (List ℕ)) (names : PageNames) (style : List ℕ) (p : Problem) (table : Option (List Cell))
    (w : List Cell) (a : BestAnswer) → Spells i p → IsGiven p given table → IsTimetable p w → (table ≡ None → week.BeginsWell p w)
    → (IsFeasible p w → CostsAtMost i names style (cost p w) a) → given ≡ None → BeginsWell i names style a
begins_well i given names style p table w a spells is fits begun costs none =
    let b = begun (none_given p given table is none) in
    record {
      problem = p;
      spelled = spells;
      start = b.start;
      constructed = b.constructed;
      end = b.end;
      settled = b.settled;
      descent = b.descent;
      kept = λ feasible.
          let found = no_worse_found p b.end w fits feasible (b.kept feasible) in
          let answer = costs found.0 in
          record { found = answer.found; within = omega (arith, answer.within, found.1) };
    }
