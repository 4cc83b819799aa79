-- Sizes that an index can reach, and the numbers below them.
use Rattle.std.proofs.Common.{◌≤◌, ◌<◌, arith}
use Rattle.tt_instance.specs.Problem.{Problem}
use Rattle.tt_instance.specs.Limits.{IsInstance}
use Rattle.tt_path.specs.declared.facts.Who.{Who}
use Rattle.tt_path.specs.declared.facts.Who.TheVariants.{Course, Curriculum}
use Rattle.tt_proof_read.specs.Sizes.{AreSizes}
use Rattle.tt_proof_read.specs.declared.sizes.Sizes.{Sizes}

-- each size is a number that an index may have
pub record AreSmall (sizes : Sizes) : Type 0 where
  pub courses : sizes.courses ≤ 4294967295
  pub curricula : sizes.curricula ≤ 4294967295
  pub rooms : sizes.rooms ≤ 4294967295
  pub days : sizes.days ≤ 4294967295
  pub periods : sizes.periods ≤ 4294967295

-- the sizes of an instance are numbers that an index may have
pub are_small : (p : Problem) (sizes : Sizes) → IsInstance p → AreSizes p sizes → AreSmall sizes
are_small p sizes is are = record {
  courses = omega (arith, are.courses, is.within.courses);
  curricula = omega (arith, are.curricula, is.within.curricula);
  rooms = omega (arith, are.rooms, is.within.rooms);
  days = omega (arith, are.days, is.within.days);
  periods = omega (arith, are.periods, is.within.periods);
}

-- the number is below its size
abbrev pub IsWhoIn : Sizes → Who → Type 0
IsWhoIn sizes (Course c) = c < sizes.courses
IsWhoIn sizes (Curriculum q) = q < sizes.curricula
