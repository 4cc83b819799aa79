-- The answer of `check_sum`, from the results of its steps.
use Rattle.std.proofs.Common.{◌≡◌, ℕ, ◌+◌, ◌<◌, ◌≤◌, ◌^◌, List, sym, subst, ◌∙◌}
use Rattle.tt_instance.specs.Problem.{Problem}
use Rattle.tt_instance.specs.Spelling.{Spells}
use Rattle.tt_instance.specs.declared.cell.Cell.{Cell}
use Rattle.tt_table.specs.Spelling.{SpellsBoth, SpellsTable}
use Rattle.tt_rules.specs.Score.{IsScore, IsFeasible, cost}
use Rattle.tt_rules.specs.declared.counts.Score.{Score}
use Rattle.tt_rules.proofs.Scores.{cost_is, feasible_is}
use Rattle.tt_leaf.specs.declared.leaf.Bound.TheVariants.{AtLeast}
use Rattle.tt_proof_check.specs.Derives.{HoldsOfAll}
use Rattle.tt_proof_check.specs.Headline.{Solves, BoundsAll}
use Rattle.tt_proof_check.proofs.Files.{one_table}
use Rattle.tt_text.specs.declared.stop.Stop.{Stop}
use Rattle.tt_text.specs.declared.stop.Stop.TheVariants.{Fault, ReadFailed, OutOfMemory}
use Rattle.tt_proof_sum.specs.Faults.{IsSumStop, all_points}
use Rattle.tt_proof_sum.specs.Sums.{IsSum}
use Rattle.tt_proof_sum.specs.declared.fault.FileFault.{FileFault}
use Rattle.tt_proof_sum.specs.declared.fault.SumStop.{SumStop}
use Rattle.tt_call_answers.specs.Sums.{CertifiesSum}
use Rattle.tt_call_checks.specs.Summed.{IsSumYes, IsSumCheckFault}
use Rattle.tt_call_answers.specs.FaultMaps.{fault_at_file, fault_from_sum}
use Rattle.tt_instance_read.proofs.Laws.{spelled_once}

abbrev broken_by : Score → ℕ
broken_by s = s.lectures + s.conflicts + s.availability + s.room_occupancy

abbrev costs_of : Score → ℕ
costs_of s = s.room_capacity + s.min_working_days + s.compactness + s.room_stability

-- the conditions of a certified sum, for the instance and the timetable that were read
pub record Certified (p : Problem) (t : List Cell) (files : List (List ℕ)) (c b : ℕ) : Type 0 where
  pub feasible : IsFeasible p t
  pub costs : cost p t ≡ c
  pub sum : IsSum p files (AtLeast b)
  pub within : all_points sum.parts < 2 ^ 64

module _ (i s : List ℕ) (p : Problem) (t : List Cell) (spelled : Spells i p) (solved : SpellsTable p s t) where
  both : SpellsBoth i s p t
  both = record { spelled = spelled; solved = solved }

  pub sum_certified : (files : List (List ℕ)) (c b : ℕ) (h : CertifiesSum i s files c b) → all_points h.sum.parts < 2 ^ 64
      → Certified p t files c b
  sum_certified files c b h within =
      let same : h.solves.problem ≡ p = spelled_once i h.solves.problem p h.solves.both.spelled spelled in
      let there : SpellsTable p s h.solves.table × Certified p h.solves.table files c b =
      subst (λ (q : Problem). SpellsTable q s h.solves.table × Certified q h.solves.table files c b) same
      (h.solves.both.solved, record { feasible = h.solves.feasible; costs = h.solves.costs; sum = h.sum; within = within }) in
      subst (λ (u : List Cell). Certified p u files c b) (one_table s i p h.solves.table t spelled there.0 solved) there.1

  module _ (score : Score) (is : IsScore p t score) where
    pub sum_not_certified : (files : List (List ℕ)) (c b : ℕ) → (broken_by score ≡ 0 → ⊥) → (h : CertifiesSum i s files c b)
        → all_points h.sum.parts < 2 ^ 64 → ⊥
    sum_not_certified files c b broken h within =
        broken ((feasible_is p t score solved.in_range is).1 (sum_certified files c b h within).feasible)

    pub sum_cost : (files : List (List ℕ)) (c b : ℕ) (h : CertifiesSum i s files c b) → all_points h.sum.parts < 2 ^ 64 → costs_of score ≡ c
    sum_cost files c b h within = cost_is p t score is ∙ (sum_certified files c b h within).costs

    feasible_here : broken_by score ≡ 0 → IsFeasible p t
    feasible_here e = (feasible_is p t score solved.in_range is).0 e

    abbrev solves_here : broken_by score ≡ 0 → Solves i s (costs_of score)
    solves_here e = record { problem = p; table = t; both = both; feasible = feasible_here e; costs = sym (cost_is p t score is) }

    -- a sum that was stopped is reported
    pub sum_fails : (gives : List (List ℕ) → Type 0) (x : SumStop) → broken_by score ≡ 0
        → ((files : List (List ℕ)) → gives files → IsSumStop p files x.file x.stop) → IsSumCheckFault i s gives (fault_from_sum x)
    sum_fails gives x e h = on x.file x.stop h
      where
        on : (n : ℕ) (y : Stop FileFault) → ((files : List (List ℕ)) → gives files → IsSumStop p files n y)
            → IsSumCheckFault i s gives (fault_at_file n y)
        on n (Fault f) h = record { problem = p; table = t; both = both; feasible = feasible_here e; fails = h }
        on n ReadFailed h = record { problem = p; table = t; both = both; feasible = feasible_here e; fails = h }
        on n OutOfMemory h = tt

    pub sum_yes : (gives : List (List ℕ) → Type 0) (b : ℕ) → broken_by score ≡ 0
        → ((files : List (List ℕ)) → gives files → IsSum p files (AtLeast b)) → HoldsOfAll p (AtLeast b)
        → IsSumYes i s gives (costs_of score) b
    sum_yes gives b e derived holds =
        let all : BoundsAll i b = λ other spells. subst (λ (x : Problem). HoldsOfAll x (AtLeast b))
        (spelled_once i p other spelled spells) holds in
        let within : b ≤ costs_of score = subst (λ (n : ℕ). b ≤ n) (sym (cost_is p t score is)) (holds t (feasible_here e)) in
        record {
          solves = solves_here e;
          certified = λ files given. record { solves = solves_here e; sum = derived files given };
          bounds = all;
          within = within;
        }
