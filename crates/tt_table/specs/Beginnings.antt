-- The token of the first fault of a solution (`BeginsAs` of `tt_instance` defines which other solutions begin the same way).
use Rattle.std.specs.Prelude.{ℕ, Option, Some, None}
use Rattle.tt_table.specs.declared.fault.SolutionFault.{SolutionFault}
use Rattle.tt_table.specs.declared.fault.SolutionFault.TheVariants as fault

-- The offset of the token at which a fault is reported; none if the bytes end too early, or if memory runs out.
abbrev pub token_offset : SolutionFault → Option ℕ
token_offset (fault.Ended end) = None
token_offset (fault.UnknownCourse at) = Some at
token_offset (fault.UnknownRoom at) = Some at
token_offset (fault.NotANumber at) = Some at
token_offset (fault.OutOfRange at) = Some at
token_offset (fault.TooMany at) = Some at
token_offset fault.OutOfMemory = None
