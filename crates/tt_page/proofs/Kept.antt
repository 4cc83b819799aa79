-- Pages that show a bound of the timetables that keep wishes.
use Rattle.std.proofs.Common.{ℕ}
use Rattle.tt_instance.specs.Problem.{Problem}
use Rattle.tt_leaf.specs.declared.leaf.Bound.{Bound}
use Rattle.tt_leaf.specs.declared.leaf.Bound.TheVariants as bound
use Rattle.tt_page.specs.Proofs.{IsProvedOf, kept_of}

-- they name no courses
pub proved_of_kept : (p : Problem) (b : Bound) → IsProvedOf p (kept_of b)
proved_of_kept p (bound.AtLeast b) = tt
proved_of_kept p bound.Nothing = tt
