-- The results that report a failed read or a failed write: of any call, and of reading the whole of a source.
use Rattle.std.specs.Prelude.{Bool, true, false, Result, Ok, Err}
use Rattle.tt_text.specs.declared.whole.WholeFault.{WholeFault}
use Rattle.tt_text.specs.declared.whole.WholeFault.TheVariants.{Read}

-- Whether a result is an error that passes the test.
abbrev pub is_err_and : {X E : Type 0} → Result X E → (E → Bool) → Bool
is_err_and (Ok x) passes = false
is_err_and (Err f) passes = passes f

-- Whether the fault is a failed read.
abbrev pub is_failed_read : WholeFault → Bool
is_failed_read Read = true
is_failed_read _ = false
