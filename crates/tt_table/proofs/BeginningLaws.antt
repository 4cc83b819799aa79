-- Each part of the reader of a solution, compared with itself over other tokens.
use Rattle.std.proofs.Common.{◌≡◌, ◌≢◌, ℕ, zero, suc, ◌-◌, List, [], ◌∷◌, ◌++◌, length, Option, Some, None, Result, Ok, Err, inr, refl, sym, ◌∙◌}
use Rattle.std.specs.Prelude.{Any}
use Rattle.tt_text.specs.Tokens.{Placed, tokens_of}
use Rattle.tt_text.specs.Texts.{index_of_name}
use Rattle.tt_text.specs.Numbers.{number_of}
use Rattle.tt_text.specs.Reading.{◌>>=◌}
use Rattle.tt_text.specs.declared.numbers.NumberFault.{NumberFault}
use Rattle.tt_text.specs.declared.numbers.NumberFault.TheVariants as number
use Rattle.tt_instance.specs.Problem.{Problem}
use Rattle.tt_instance.specs.Courses.{course_ids, room_ids}
use Rattle.tt_instance.specs.Limits.{IsWithinLimits}
use Rattle.tt_instance.specs.Beginnings.{BeginsAs}
use Rattle.tt_instance.specs.declared.cell.Cell.{Cell}
use Rattle.tt_instance.proofs.Beginnings.{begins_shared, fault_at_token, fault_of_all}
use Rattle.tt_instance.proofs.Shared.{NoneAt, Shared, Apart, Next, Stays, Joins, ReadsAlike, EndsAlike, SameVerdict, other_offset, stays_joins, ok_reads, on_condition, then_reads, then_verdict, then_token}
use Rattle.tt_table.specs.declared.fault.SolutionFault.{SolutionFault}
use Rattle.tt_table.specs.declared.fault.SolutionFault.TheVariants as fault
use Rattle.tt_table.specs.declared.table.TheConstants.{MAX_ENTRIES}
use Rattle.tt_table.specs.Beginnings.{token_offset}
use Rattle.tt_table.specs.Reading.{found, below, index_at, entry_at, entries_at, solution_of}
use Rattle.tt_table.specs.Spelling.{SpellsTable}
use Rattle.tt_table.proofs.EntryLaws.{solution_read}

module _ (at end other : ℕ) (p : Problem) where
  -- ---- an entry

  -- the verdicts on a number below a bound
  below_same : (t : Placed) (n : ℕ) (r : Result ℕ NumberFault) → SameVerdict token_offset at (t.at ≢ at) (below t.at r) (below n r)
  below_same t n (Ok v) = refl
  below_same t n (Err number.NotANumber) = (other_offset at t.at, λ v e. cc)
  below_same t n (Err number.TooLarge) = (other_offset at t.at, λ v e. cc)

  -- the verdicts on a name
  course_same : (t : Placed) (n : ℕ) (course : Option ℕ) → SameVerdict token_offset at (t.at ≢ at)
      (found (fault.UnknownCourse t.at) course) (found (fault.UnknownCourse n) course)
  course_same t n None = (other_offset at t.at, λ v e. cc)
  course_same t n (Some i) = refl

  room_same : (t : Placed) (n : ℕ) (room : Option ℕ) → SameVerdict token_offset at (t.at ≢ at) (found (fault.UnknownRoom t.at) room)
      (found (fault.UnknownRoom n) room)
  room_same t n None = (other_offset at t.at, λ v e. cc)
  room_same t n (Some i) = refl

  -- a number below a bound
  index_alike : (bound : ℕ) → ReadsAlike token_offset at (Unit {0}) (index_at end bound) (index_at other bound)
  unfolding index_at
  index_alike bound = then_token _ _ _ _ refl (λ t n. then_verdict _ _ _ _ (below_same t n (number_of (bound - 1) t.text))
      (λ v. ok_reads v))

  -- an entry whose first token has been taken
  entry_alike : (t : Placed) (n : ℕ) → ReadsAlike token_offset at (t.at ≢ at) (entry_at end p t)
      (entry_at other p (record { text = t.text; at = n }))
  unfolding entry_at
  entry_alike t n =
      then_verdict _ _ _ _ (course_same t n (index_of_name (course_ids p) t.text)) (λ course. then_token _ _ _ _ refl (λ u m.
      then_verdict _ _ _ _ (room_same u m (index_of_name (room_ids p) u.text)) (λ room.
      then_reads _ _ (on_condition (index_alike p.days)) (λ day. then_reads _ _ (index_alike p.periods) (λ period. ok_reads _)))))

  -- ---- the entries

  -- the entries after those before; the number says how many more are allowed
  abbrev EntriesAlike : ℕ → Type 0
  EntriesAlike n = (before : List Cell) → EndsAlike token_offset at (Unit {0}) (entries_at end p n before) (entries_at other p n before)

  -- no further entries are allowed
  full_stays : (before : List Cell) (ts : List Placed) → NoneAt at ts → Stays token_offset at (λ _. Unit {0})
      (entries_at end p zero before ts)
  unfolding entries_at
  full_stays before [] none = tt
  full_stays before (t ∷ ts) none = other_offset at t.at none.0

  full_joins : (before : List Cell) (ts us : List Placed) → Shared at ts us → Joins token_offset at (λ _. Unit {0}) (λ _ _. Unit {0})
      (entries_at end p zero before ts) (entries_at other p zero before us)
  unfolding entries_at
  full_joins before ts us (Apart none) = stays_joins token_offset at (λ _. Unit {0}) (λ _ _. Unit {0}) _ _ (full_stays before ts none)
  full_joins before ts us (Next n shared) = inr (λ y e. cc)

  -- one entry, and then the rest
  module _ (n : ℕ) (more : EntriesAlike n) (before : List Cell) where
    first_alike : (t : Placed) (m : ℕ)
        → EndsAlike token_offset at (t.at ≢ at) (λ ts. entry_at end p t ts >>= λ e. entries_at end p n (before ++ e.0 ∷ []) e.1)
        (λ us. entry_at other p (record { text = t.text; at = m }) us >>= λ e. entries_at other p n (before ++ e.0 ∷ []) e.1)
    first_alike t m = then_reads _ _ (entry_alike t m) (λ e. more (before ++ e ∷ []))

    next_stays : (ts : List Placed) → NoneAt at ts → Stays token_offset at (λ _. Unit {0}) (entries_at end p (suc n) before ts)
    unfolding entries_at
    next_stays [] none = tt
    next_stays (t ∷ ts) none = (first_alike t 0).stays none.0 ts none.1

    next_joins : (ts us : List Placed) → Shared at ts us → Joins token_offset at (λ _. Unit {0}) (λ _ _. Unit {0})
        (entries_at end p (suc n) before ts) (entries_at other p (suc n) before us)
    unfolding entries_at
    next_joins ts us (Apart none) = stays_joins token_offset at (λ _. Unit {0}) (λ _ _. Unit {0}) _ _ (next_stays ts none)
    next_joins ts us (Next {t} {ts = rest} {us = others} m shared) = (first_alike t m).joins rest others shared

  entries_alike : (n : ℕ) → EntriesAlike n
  entries_alike zero before = record { stays = λ c ts none. full_stays before ts none; joins = full_joins before }
  entries_alike (suc n) before = record {
    stays = λ c ts none. next_stays n (entries_alike n) before ts none;
    joins = next_joins n (entries_alike n) before;
  }

-- -- the meaning of a fault at a token

-- a solution is read from the tokens of its bytes
read_from : (p : Problem) (bytes : List ℕ) → solution_of p bytes ≡ entries_at (length bytes) p MAX_ENTRIES [] (tokens_of bytes)
unfolding solution_of
read_from p bytes = refl

-- a token of the bytes begins at the offset of the fault
pub fault_stands : (p : Problem) (bytes : List ℕ) (e : SolutionFault) (at : ℕ) → solution_of p bytes ≡ Err e → token_offset e ≡ Some at
    → Any (λ t. t.at ≡ at) (tokens_of bytes)
fault_stands p bytes e at failed reported =
    let end : ℕ = length bytes in
    fault_at_token token_offset at _ _ (entries_alike at end end p MAX_ENTRIES []) (tokens_of bytes) e
    (sym (read_from p bytes) ∙ failed) reported

-- bytes that begin the same way spell no solution
pub fault_stays : (p : Problem) (bytes other : List ℕ) (e : SolutionFault) (at : ℕ) → IsWithinLimits p → solution_of p bytes ≡ Err e
    → token_offset e ≡ Some at → BeginsAs at bytes other → (t : List Cell) → ¬ SpellsTable p other t
fault_stays p bytes other e at within failed reported begins t spelled =
    fault_of_all token_offset at _ _ (entries_alike at (length bytes) (length other) p MAX_ENTRIES []) (tokens_of bytes) e
    (sym (read_from p bytes) ∙ failed) reported
    (tokens_of other) (begins_shared at bytes other begins) t (sym (read_from p other) ∙ solution_read p other t within spelled)
