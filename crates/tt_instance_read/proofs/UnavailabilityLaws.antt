-- Unavailabilities: those that are read are spelled, and those that are spelled are read. Each is stored once.
use Rattle.std.proofs.Common.{◌≡◌, ℕ, ◌<◌, List, [], ◌∷◌, ◌++◌, length, Result, Ok, sym, ap, subst}
use Rattle.std.specs.Prelude.{All}
use Rattle.std.specs.List.{flat_map}
use Rattle.tt_list_laws.specs.Words.{with_new, distinct}
use Rattle.tt_list_laws.proofs.Distinct.{distinct_push}
use Rattle.tt_text.specs.Tokens.{Placed}
use Rattle.tt_text.specs.Pieces.{Piece, Number, Begins}
use Rattle.tt_text.proofs.Steps.{done, ok_is, bind_ok, bind_is, Takes, takes_then}
use Rattle.tt_text.proofs.Fields.{ReadsOn}
use Rattle.tt_instance_read.specs.declared.fault.InstanceFault.{InstanceFault}
use Rattle.tt_instance.specs.Problem.{Course, Unavailability}
use Rattle.tt_instance.specs.Limits.{same_unavailability}
use Rattle.tt_instance.specs.Columns.{ids_of}
use Rattle.tt_instance_read.specs.Reading.{named_at, below_at, unavailability_at, unavailabilities_at}
use Rattle.tt_instance.specs.Spelling.{unavailability_pieces}
use Rattle.tt_instance.proofs.Each.{IsUnavailability}
use Rattle.tt_instance.proofs.AfterLaws.{EachAfter-from_all}
use Rattle.tt_instance_read.proofs.FieldLaws.{below_takes, below_reads}
use Rattle.tt_instance_read.proofs.NameLaws.{AreNamed, named_takes, named_reads}
use Rattle.tt_instance_read.proofs.Repeating.{unavailabilities_repeat}
use Rattle.tt_instance_read.proofs.SeriesLaws.{OneTaken, ManyTaken, series_takes, series_reads}

-- the listed unavailabilities, each once
abbrev pub unavailabilities_once : List Unavailability → List Unavailability
unavailabilities_once bs = distinct same_unavailability bs

module _ (cs : List Course) (days periods : ℕ) where
  -- an unavailability has one of these courses and periods, regardless of the unavailabilities before it
  abbrev pub IsNextUnavailability : List Unavailability → Unavailability → Type 0
  IsNextUnavailability _ b = IsUnavailability (length cs) days periods b

  -- the result of reading this many unavailabilities
  abbrev pub UnavailabilitiesTaken : ℕ → List Placed → List Unavailability × List Placed → Type 0
  UnavailabilitiesTaken n ts x = ManyTaken unavailabilities_once (unavailability_pieces cs) IsNextUnavailability n [] ts x

  module _ (end : ℕ) where
    -- reading one unavailability
    abbrev one : List Unavailability → List Placed → Result (List Unavailability × List Placed) InstanceFault
    one before ts = unavailability_at end (ids_of cs) days periods before ts

    -- one unavailability that was read is spelled
    unavailability_takes : 0 < days → 0 < periods → (before : List Unavailability) (ts : List Placed)
        (x : List Unavailability × List Placed) → Unit {0} → one (unavailabilities_once before) ts ≡ Ok x
        → OneTaken unavailabilities_once (unavailability_pieces cs) IsNextUnavailability before ts x
    unfolding unavailability_at
    unavailability_takes some_day some_period before ts x _ e =
        let course = bind_ok (named_at end (ids_of cs) ts) _ x e in
        let day = bind_ok (below_at end days course.0.1) _ x course.2 in
        let period = bind_ok (below_at end periods day.0.1) _ x day.2 in
        let c = named_takes end cs ts course.0 course.1 in
        let d = below_takes end days course.0.1 day.0 some_day day.1 in
        let p = below_takes end periods day.0.1 period.0 some_period period.1 in
        let b : Unavailability = record { course = course.0.0; day = day.0.0; period = period.0.0 } in
        let pieces : Takes ts (unavailability_pieces cs b) period.0.1 = takes_then _ _ _ _ _ c.0 (takes_then _ _ _ _ _ d.0 p.0) in
        subst (OneTaken unavailabilities_once (unavailability_pieces cs) IsNextUnavailability before ts)
        (ok_is (with_new same_unavailability (unavailabilities_once before) b, period.0.1) x period.2)
        (record { item = b; list = sym (distinct_push same_unavailability before b); next = (c.1, d.1, p.1); takes = pieces })

    -- this many unavailabilities that were read are spelled
    pub unavailabilities_take : 0 < days → 0 < periods → (n : ℕ) (ts : List Placed) (x : List Unavailability × List Placed)
        → unavailabilities_at end (ids_of cs) days periods n [] ts ≡ Ok x → UnavailabilitiesTaken n ts x
    unavailabilities_take some_day some_period n ts x e =
        series_takes unavailabilities_once (unavailability_pieces cs) IsNextUnavailability (λ _. Unit {0}) one
        (unavailabilities_at end (ids_of cs) days periods) (unavailabilities_repeat end (ids_of cs) days periods)
        (unavailability_takes some_day some_period) (λ before b fits ok. tt) n [] ts x tt e

    -- one unavailability that is spelled is read
    unavailability_reads : AreNamed cs → (before : List Unavailability) (ts : List Placed) (b : Unavailability) (qs : List Piece)
        (rest : List Placed) → IsUnavailability (length cs) days periods b → Begins (unavailability_pieces cs b ++ qs) ts rest
        → ReadsOn (one (unavailabilities_once before) ts) (unavailabilities_once (before ++ b ∷ [])) qs rest
    unfolding unavailability_at
    unavailability_reads apart before ts b qs rest ok h =
        let q2 : List Piece = Number b.period ∷ qs in
        let q1 : List Piece = Number b.day ∷ q2 in
        let course = named_reads end cs ts b.course q1 rest apart ok.0 h in
        let day = below_reads end days course.mid b.day q2 rest ok.1 course.left in
        let period = below_reads end periods day.mid b.period qs rest ok.2 day.left in
        let made = ap (λ l. done {A = List Unavailability × List Placed} (l, period.mid))
        (sym (distinct_push same_unavailability before b)) in
        record {
          mid = period.mid;
          is = bind_is _ (b.course, course.mid) _ _ course.is
              (bind_is _ (b.day, day.mid) _ _ day.is (bind_is _ (b.period, period.mid) _ _ period.is made));
          left = period.left;
        }

    -- unavailabilities that are spelled are read
    pub unavailabilities_read : AreNamed cs → (ts : List Placed) (bs : List Unavailability) (qs : List Piece) (rest : List Placed)
        → All (IsUnavailability (length cs) days periods) bs → Begins (flat_map (unavailability_pieces cs) bs ++ qs) ts rest
        → ReadsOn (unavailabilities_at end (ids_of cs) days periods (length bs) [] ts) (unavailabilities_once bs) qs rest
    unavailabilities_read apart ts bs qs rest ok h =
        series_reads unavailabilities_once (unavailability_pieces cs) IsNextUnavailability one
        (unavailabilities_at end (ids_of cs) days periods) (unavailabilities_repeat end (ids_of cs) days periods)
        (unavailability_reads apart) [] ts bs qs rest (EachAfter-from_all (IsUnavailability (length cs) days periods) [] bs ok) h
