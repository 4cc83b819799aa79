-- The result of `certify`, from the results of its steps.
use Rattle.std.proofs.Common.{◌≡◌, ℕ, zero, suc, ◌+◌, ◌<◌, ◌≤◌, Bool, true, false, List, [], Option, Some, None, Result, Ok, Err, IfOk, refl, sym, ap, subst, ◌∙◌, arith}
use Rattle.std.specs.Prelude.{IfSome, ◌↔◌, IsTrue}
use Rattle.tt_text.proofs.Stops.{OnFault-weaker, OnFault-each, at_mapped}
use Rattle.tt_text.specs.Stops.{OnFault, is_failed_read}
use Rattle.tt_text.specs.declared.stop.Stop.{Stop}
use Rattle.tt_text.specs.declared.stop.Stop.TheVariants.{Fault, ReadFailed, OutOfMemory}
use Rattle.tt_instance.specs.Problem.{Problem}
use Rattle.tt_instance.specs.Spelling.{Spells}
use Rattle.tt_instance_read.specs.Reading.{instance_of, Fails as FailsInstance}
use Rattle.tt_table.specs.Reading.{solution_of, Fails as FailsSolutionText}
use Rattle.tt_instance.specs.declared.cell.Cell.{Cell}
use Rattle.tt_instance_read.specs.declared.fault.InstanceFault.{InstanceFault}
use Rattle.tt_instance_read.specs.declared.fault.InstanceFault.TheVariants as instance
use Rattle.tt_table.specs.Spelling.{SpellsBoth, SpellsTable}
use Rattle.tt_table.specs.declared.fault.SolutionFault.{SolutionFault}
use Rattle.tt_table.specs.declared.fault.SolutionFault.TheVariants as solution
use Rattle.tt_rules.specs.Score.{IsScore, IsFeasible, hard, cost}
use Rattle.tt_rules.specs.declared.counts.Score.{Score}
use Rattle.tt_rules.proofs.Scores.{hard_is, cost_is, feasible_is}
use Rattle.tt_leaf.specs.declared.leaf.Bound.{Bound}
use Rattle.tt_leaf.specs.declared.leaf.Bound.TheVariants.{AtLeast}
use Rattle.tt_proof_check.specs.Derives.{HoldsOfAll}
use Rattle.tt_proof_check.specs.Faults as checks
use Rattle.tt_proof_check.specs.Headline.{Solves, BreaksARule, Certifies, BoundsAll}
use Rattle.tt_proof_check.specs.Streams.{IsProved, stream_of, IsProofFault}
use Rattle.tt_proof_check.specs.Verdicts.{IsYes, IsBroken, IsVerdict, FailsProof, IsFirstFault, IsFileFault, HoldsNoStop, stop_from_instance, stop_from_solution, stop_from_check}
use Rattle.tt_proof_check.specs.declared.fault.CheckFault.{CheckFault}
use Rattle.tt_proof_check.specs.declared.fault.Verdict.{Verdict}
use Rattle.tt_proof_check.specs.declared.fault.Verdict.TheVariants.{Yes, Breaks}
use Rattle.tt_proof_check.specs.declared.fault.CertifyFault.{CertifyFault}
use Rattle.tt_proof_check.specs.declared.fault.CertifyFault.TheVariants as fault
use Rattle.tt_proof_check.proofs.Files.{FailsFiles, one_table, tells_instance, tells_solution, files_faultless}
use Rattle.tt_instance_read.proofs.Laws.{spelled_once}

-- the result that a fault is, and the verdict `Yes`
abbrev refused : CertifyFault → Result Verdict CertifyFault
refused f = Err f

abbrev yes_with : ℕ → ℕ → Result Verdict CertifyFault
yes_with c b = Ok (Yes c b)

abbrev verdict : Verdict → Result Verdict CertifyFault
verdict v = Ok v

-- the verdict is `Yes` with c and b
abbrev pub yes_is : Verdict → ℕ → ℕ → Type 0
yes_is (Yes n m) c b = (n ≡ c) × (m ≡ b)
yes_is (Breaks score) c b = ⊥

abbrev ok_value : ℕ → Result ℕ CheckFault
ok_value n = Ok n

abbrev err_bound : CheckFault → Result ℕ CheckFault
err_bound f = Err f

-- the bound that was given is the only one
pub ok_bound : (c b : ℕ) → ok_value c ≡ ok_value b → c ≡ b
ok_bound c b e = cc

-- a test for no points
pub points : (b : Bool) (n : ℕ) → (IsTrue b ↔ (n ≡ 0)) → b ≡ false → n ≡ 0 → ⊥
points b n both broken e = let feasible : IsTrue b = both.1 e in absurd cc

pub no_points : (b : Bool) (n : ℕ) → (IsTrue b ↔ (n ≡ 0)) → b ≡ true → n ≡ 0
no_points b n both feasible = both.0 feasible

-- a check that is stopped gives no bound of either form
abbrev no_bound : CheckFault → Result Bound CheckFault
no_bound f = Err f

pub only_bound : (s : Stop CheckFault) (b : ℕ) → OnFault s (λ f. no_bound f ≡ Ok (AtLeast b)) → OnFault s (λ f. err_bound f ≡ Ok b)
only_bound (Fault f) b h = absurd cc
only_bound ReadFailed b h = tt
only_bound OutOfMemory b h = tt

-- ---- before the score is known: the instance or the solution was refused

pub instance_told : (i s : List ℕ) (f : InstanceFault) (x : Stop CertifyFault) → x ≡ stop_from_instance f → FailsInstance f (instance_of i)
    → OnFault x (FailsFiles i s)
instance_told i s f x e h = subst (λ (y : Stop CertifyFault). OnFault y (FailsFiles i s)) (sym e) (tells_instance i s f h)

pub solution_told : (i s : List ℕ) (p : Problem) (f : SolutionFault) (x : Stop CertifyFault) → x ≡ stop_from_solution f → Spells i p
    → FailsSolutionText f (solution_of p s) → OnFault x (FailsFiles i s)
solution_told i s p f x e spelled h =
    subst (λ (y : Stop CertifyFault). OnFault y (FailsFiles i s)) (sym e) (tells_solution i s p f spelled h)

-- a fault of the files is the first one
pub files_first : (i s : List ℕ) (q : Option (List ℕ)) (x : Stop CertifyFault) → OnFault x (FailsFiles i s) → OnFault x (IsFirstFault i s q)
files_first i s q (Fault (fault.Instance f)) h = h
files_first i s q (Fault (fault.Solution f)) h = h
files_first i s q (Fault (fault.Proof f)) h = absurd h
files_first i s q ReadFailed h = tt
files_first i s q OutOfMemory h = tt

-- files that are refused aren't certified
pub files_exactly : (i s bytes : List ℕ) (c b : ℕ) (x : Stop CertifyFault) → OnFault x (FailsFiles i s)
    → OnFault x (λ f. (refused f ≡ yes_with c b) ↔ Certifies i s bytes c b)
files_exactly i s bytes c b (Fault f) h =
    (λ e. absurd cc, λ k. absurd (files_faultless i s k.solves.problem k.solves.table f k.solves.both h))
files_exactly i s bytes c b ReadFailed h = tt
files_exactly i s bytes c b OutOfMemory h = tt

-- files of a timetable that breaks a hard rule are refused only if memory runs out
pub instance_broken : (i s : List ℕ) (f : InstanceFault) (x : Stop CertifyFault) → x ≡ stop_from_instance f
    → FailsInstance f (instance_of i) → BreaksARule i s → x ≡ OutOfMemory
instance_broken i s instance.OutOfMemory x e h k = e
instance_broken i s f x e h k = absurd (files_faultless i s k.problem k.table (fault.Instance f) k.both h)

pub solution_broken : (i s : List ℕ) (p : Problem) (f : SolutionFault) (x : Stop CertifyFault) → x ≡ stop_from_solution f → Spells i p
    → FailsSolutionText f (solution_of p s) → BreaksARule i s → x ≡ OutOfMemory
solution_broken i s p solution.OutOfMemory x e spelled h k = e
solution_broken i s p f x e spelled h k =
    absurd (files_faultless i s k.problem k.table (fault.Solution f) k.both (record { problem = p; spelled = spelled; fails = h }))

-- their faults hold none of memory
lower_instance : (f : InstanceFault) → OnFault (stop_from_instance f) HoldsNoStop
lower_instance instance.OutOfMemory = tt
lower_instance f = refl

lower_solution : (f : SolutionFault) → OnFault (stop_from_solution f) HoldsNoStop
lower_solution solution.OutOfMemory = tt
lower_solution f = refl

pub instance_lower : (f : InstanceFault) (x : Stop CertifyFault) → x ≡ stop_from_instance f → OnFault x HoldsNoStop
instance_lower f x e = subst (λ (y : Stop CertifyFault). OnFault y HoldsNoStop) (sym e) (lower_instance f)

pub solution_lower : (f : SolutionFault) (x : Stop CertifyFault) → x ≡ stop_from_solution f → OnFault x HoldsNoStop
solution_lower f x e = subst (λ (y : Stop CertifyFault). OnFault y HoldsNoStop) (sym e) (lower_solution f)

-- no read is reported
reads_instance : (f : InstanceFault) → is_failed_read (stop_from_instance f) ≡ false
reads_instance instance.OutOfMemory = refl
reads_instance f = refl

reads_solution : (f : SolutionFault) → is_failed_read (stop_from_solution f) ≡ false
reads_solution solution.OutOfMemory = refl
reads_solution f = refl

pub instance_reads : (f : InstanceFault) (x : Stop CertifyFault) → x ≡ stop_from_instance f → is_failed_read x ≡ false
instance_reads f x e = ap (λ (y : Stop CertifyFault). is_failed_read y) e ∙ reads_instance f

pub solution_reads : (f : SolutionFault) (x : Stop CertifyFault) → x ≡ stop_from_solution f → is_failed_read x ≡ false
solution_reads f x e = ap (λ (y : Stop CertifyFault). is_failed_read y) e ∙ reads_solution f

-- ---- the check of the proof was stopped

module _ (s : Stop CheckFault) (x : Stop CertifyFault) (is : x ≡ stop_from_check s) where
  pub check_lower : OnFault s checks.HoldsNoStop → OnFault x HoldsNoStop
  check_lower h = at_mapped fault.Proof s x is HoldsNoStop h

  -- it isn't a fault of the instance or of the solution
  pub check_file : (Z : Type 0) → OnFault x (λ f. IsFileFault f → Z)
  check_file Z = at_mapped fault.Proof s x is (λ f. IsFileFault f → Z) (OnFault-each s _ (λ f of. absurd of))

  -- a proof that is refused certifies nothing
  pub check_exactly : (c b : ℕ) (Z : Type 0) → (Z → OnFault s (λ f. err_bound f ≡ Ok b)) → OnFault x (λ f. (refused f ≡ yes_with c b) ↔ Z)
  check_exactly c b Z h = at_mapped fault.Proof s x is (λ f. (refused f ≡ yes_with c b) ↔ Z) (on s h)
    where
      on : (s : Stop CheckFault) → (Z → OnFault s (λ f. err_bound f ≡ Ok b))
          → OnFault s (λ f. (refused (fault.Proof f) ≡ yes_with c b) ↔ Z)
      on (Fault f) h = (λ e. absurd cc, λ z. absurd (let e = h z in cc))
      on ReadFailed h = tt
      on OutOfMemory h = tt

abbrev broken_by : Score → ℕ
broken_by s = s.lectures + s.conflicts + s.availability + s.room_occupancy

abbrev costs_of : Score → ℕ
costs_of s = s.room_capacity + s.min_working_days + s.compactness + s.room_stability

-- the conditions of a certificate, for the instance and the timetable that were read
record Certified (p : Problem) (t : List Cell) (bytes : List ℕ) (c b : ℕ) : Type 0 where
  feasible : IsFeasible p t
  costs : cost p t ≡ c
  proved : IsProved p [] bytes (AtLeast b)

module _ (i s : List ℕ) (p : Problem) (t : List Cell) (spelled : Spells i p) (solved : SpellsTable p s t) where
  pub both : SpellsBoth i s p t
  both = record { spelled = spelled; solved = solved }

  at_table : (P : List Cell → Type 0) (u : List Cell) → SpellsTable p s u → P u → P t
  at_table P u solves h = subst P (one_table s i p u t spelled solves solved) h

  certified_here : (bytes : List ℕ) (c b : ℕ) → Certifies i s bytes c b → Certified p t bytes c b
  certified_here bytes c b h =
      let same : h.solves.problem ≡ p = spelled_once i h.solves.problem p h.solves.both.spelled spelled in
      let there : SpellsTable p s h.solves.table × Certified p h.solves.table bytes c b =
      subst (λ (q : Problem). SpellsTable q s h.solves.table × Certified q h.solves.table bytes c b) same
      (h.solves.both.solved, record { feasible = h.solves.feasible; costs = h.solves.costs; proved = h.proved }) in
      at_table (λ (u : List Cell). Certified p u bytes c b) h.solves.table there.0 there.1

  broken_here : BreaksARule i s → 0 < hard p t
  broken_here k =
      let same : k.problem ≡ p = spelled_once i k.problem p k.both.spelled spelled in
      let there : SpellsTable p s k.table × (0 < hard p k.table) =
      subst (λ (q : Problem). SpellsTable q s k.table × (0 < hard q k.table)) same (k.both.solved, k.some) in
      at_table (λ (u : List Cell). 0 < hard p u) k.table there.0 there.1

  module _ (score : Score) (is : IsScore p t score) where
    pub is_feasible : broken_by score ≡ 0 → IsFeasible p t
    is_feasible e = (feasible_is p t score solved.in_range is).0 e

    -- -- a timetable that breaks a hard rule

    pub not_certified : (bytes : List ℕ) (c b : ℕ) → (broken_by score ≡ 0 → ⊥) → Certifies i s bytes c b → ⊥
    not_certified bytes c b broken h = broken ((feasible_is p t score solved.in_range is).1 (certified_here bytes c b h).feasible)

    positive : (n : ℕ) → (n ≡ 0 → ⊥) → 0 < n
    positive zero some = absurd (some refl)
    positive (suc n) some = omega arith

    pub broken_found : (broken_by score ≡ 0 → ⊥) → IsBroken i s score
    broken_found broken = record {
      breaks = record {
        problem = p;
        table = t;
        both = both;
        some = subst (λ n. 0 < n) (hard_is p t score is)
            (positive (broken_by score) broken);
      };
      score_is = is;
    }

    -- -- a timetable that breaks no hard rule

    pub not_broken : broken_by score ≡ 0 → BreaksARule i s → ⊥
    not_broken e k = omega (arith, e, hard_is p t score is, broken_here k)

    -- a fault of the proof is the first fault
    pub bound_tells : (q : Option (List ℕ)) (x : Stop CheckFault) (y : Stop CertifyFault) → y ≡ stop_from_check x → broken_by score ≡ 0
        → OnFault x (λ f. (bytes : List ℕ) → q ≡ Some bytes → IsProofFault p [] (stream_of bytes) f) → OnFault y (IsFirstFault i s q)
    bound_tells q x y is e h = at_mapped fault.Proof x y is (IsFirstFault i s q) (OnFault-weaker x _ _ first h)
      where
        reported : (f : CheckFault) (k : Option (List ℕ)) → ((bytes : List ℕ) → k ≡ Some bytes → IsProofFault p [] (stream_of bytes) f)
            → IfSome k (λ bytes. IsProofFault p [] (stream_of bytes) f)
        reported f None h = tt
        reported f (Some bytes) h = h bytes refl

        first : (f : CheckFault) → ((bytes : List ℕ) → q ≡ Some bytes → IsProofFault p [] (stream_of bytes) f) → FailsProof i s q f
        first f h = record { problem = p; table = t; both = both; feasible = is_feasible e; fails = reported f q h }

    pub certified_proof : (bytes : List ℕ) (c b : ℕ) → Certifies i s bytes c b → IsProved p [] bytes (AtLeast b)
    certified_proof bytes c b h = (certified_here bytes c b h).proved

    pub certified_cost : (bytes : List ℕ) (c b : ℕ) → Certifies i s bytes c b → costs_of score ≡ c
    certified_cost bytes c b h = cost_is p t score is ∙ (certified_here bytes c b h).costs

    abbrev pub solves_here : broken_by score ≡ 0 → Solves i s (costs_of score)
    solves_here e = record { problem = p; table = t; both = both; feasible = is_feasible e; costs = sym (cost_is p t score is) }

    pub yes_found : (q : Option (List ℕ)) (b : ℕ) → broken_by score ≡ 0
        → ((bytes : List ℕ) → q ≡ Some bytes → IsProved p [] bytes (AtLeast b)) → HoldsOfAll p (AtLeast b) → IsYes i s q (costs_of score) b
    yes_found q b e proved holds =
        let all : BoundsAll i b = λ other spells. subst (λ (x : Problem). HoldsOfAll x (AtLeast b))
        (spelled_once i p other spelled spells) holds in
        let within : b ≤ costs_of score = subst (λ (n : ℕ). b ≤ n) (sym (cost_is p t score is)) (holds t (is_feasible e)) in
        record { solves = solves_here e; certified = reported q proved; bounds = all; within = within }
      where
        reported : (k : Option (List ℕ)) → ((bytes : List ℕ) → k ≡ Some bytes → IsProved p [] bytes (AtLeast b))
            → IfSome k (λ bytes. Certifies i s bytes (costs_of score) b)
        reported None h = tt
        reported (Some bytes) h = record { solves = solves_here e; proved = h bytes refl }

-- -- the whole result

module _ (i s : List ℕ) (q : Option (List ℕ)) where
  -- the verdict is `Yes` with c and b if and only if they are certified
  pub exactly_certified : (v : Verdict) (bytes : List ℕ) → q ≡ Some bytes → IsVerdict i s q v
      → ((c b : ℕ) → Certifies i s bytes c b → yes_is v c b) → (c b : ℕ) → (verdict v ≡ yes_with c b) ↔ Certifies i s bytes c b
  exactly_certified (Yes n m) bytes known found answers c b = (there, here)
    where
      there : yes_with n m ≡ yes_with c b → Certifies i s bytes c b
      there e =
          let x : n ≡ c = cc in
          let y : m ≡ b = cc in
          subst (λ k. Certifies i s bytes k b) x
          (subst (λ k. Certifies i s bytes n k) y
          (subst (λ (k : Option (List ℕ)). IfSome k (λ z. Certifies i s z n m)) known found.certified))

      here : Certifies i s bytes c b → yes_with n m ≡ yes_with c b
      here h = let z = answers c b h in rw (z.0, z.1) refl
  exactly_certified (Breaks score) bytes known found answers c b = (λ e. absurd cc, λ h. absurd (answers c b h))

  -- if the verdict is `Yes`, every timetable that breaks no hard rule costs at least b
  pub certified_bounds : (r : Result Verdict (Stop CertifyFault)) → IfOk r (IsVerdict i s q) → (c b : ℕ) → r ≡ Ok (Yes c b) → BoundsAll i b
  certified_bounds (Ok (Yes n m)) found c b e = let y : m ≡ b = cc in subst (BoundsAll i) y found.bounds
  certified_bounds (Ok (Breaks score)) found c b e = absurd cc
  certified_bounds (Err f) found c b e = absurd cc
