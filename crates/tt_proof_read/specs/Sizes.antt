-- The sizes of an instance.
use Rattle.std.specs.Prelude.{◌≡◌, length}
use Rattle.tt_instance.specs.Problem.{Problem}
use Rattle.tt_proof_read.specs.declared.sizes.Sizes.{Sizes}

-- The numbers are the problem's.
pub record AreSizes (p : Problem) (sizes : Sizes) : Type 0 where
  pub courses : sizes.courses ≡ length p.courses
  pub curricula : sizes.curricula ≡ length p.curricula
  pub rooms : sizes.rooms ≡ length p.rooms
  pub days : sizes.days ≡ p.days
  pub periods : sizes.periods ≡ p.periods
