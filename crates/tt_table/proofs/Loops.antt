-- One iteration of the loop that reads entries.
use Rattle.std.proofs.Common.{◌≡◌, ℕ, suc, List, [], ◌∷◌, ◌++◌, Ok, Err, refl, sym}
use Rattle.tt_text.specs.Tokens.{Placed}
use Rattle.tt_text.specs.Reading.{◌>>=◌}
use Rattle.tt_text.proofs.Steps.{fails_then, fails_as}
use Rattle.tt_instance.specs.Problem.{Problem}
use Rattle.tt_instance.specs.declared.cell.Cell.{Cell}
use Rattle.tt_table.specs.declared.fault.SolutionFault.{SolutionFault}
use Rattle.tt_table.specs.declared.fault.SolutionFault.TheVariants as fault
use Rattle.tt_table.specs.Reading.{is_environmental, Fails, entry_at, entries_at}

-- no token is left
pub entries_none : (end : ℕ) (p : Problem) (n : ℕ) (before : List Cell) (ts : List Placed) → ts ≡ []
    → entries_at end p n before ts ≡ Ok before
unfolding entries_at
entries_none end p n before ts none = rw none refl

-- an entry is read
pub entries_step : (end : ℕ) (p : Problem) (n : ℕ) (before : List Cell) (first : Placed) (more ts mid : List Placed) (e : Cell)
    → ts ≡ first ∷ more → entry_at end p first more ≡ Ok (e, mid)
    → entries_at end p (suc n) before ts ≡ entries_at end p n (before ++ e ∷ []) mid
unfolding entries_at
entries_step end p n before first more ts mid e split is = rw (split, is) refl

-- a token is left, but no further entry is allowed
pub entries_full : (end n : ℕ) (p : Problem) (before : List Cell) (first : Placed) (more ts : List Placed) → n ≡ 0 → ts ≡ first ∷ more
    → entries_at end p n before ts ≡ Err (fault.TooMany first.at)
unfolding entries_at
entries_full end n p before first more ts none split = rw (none, split) refl

-- an entry is refused
pub entries_fail : (f : SolutionFault) (end n m : ℕ) (p : Problem) (before : List Cell) (first : Placed) (more ts : List Placed)
    → n ≡ suc m → ts ≡ first ∷ more
    → Fails f (entry_at end p first more) → Fails f (entries_at end p n before ts)
unfolding entries_at
entries_fail f end n m p before first more ts left split fails =
    let go = λ (x : Cell × List Placed). entries_at end p m (before ++ x.0 ∷ []) x.1 in
    let step : entries_at end p n before ts ≡ (entry_at end p first more >>= go) = rw (left, split) refl in
    fails_as is_environmental f _ _ (sym step) (fails_then is_environmental f (entry_at end p first more) go fails)
