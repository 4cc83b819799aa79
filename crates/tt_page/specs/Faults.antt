-- The faults of a page.
use Rattle.std.specs.Prelude.{ℕ, Bool, true, false, List, ⊤}
use Rattle.tt_page_text.specs.Puts.{IsTooLarge}
use Rattle.tt_page.specs.Limits.{IsWithinLimit}
use Rattle.tt_page.specs.declared.fault.PageFault.{PageFault}
use Rattle.tt_page.specs.declared.fault.PageFault.TheVariants.{Write, TooLarge, OutOfMemory}

-- Whether the fault is a failed write.
abbrev pub is_failed_write : PageFault → Bool
is_failed_write Write = true
is_failed_write _ = false

-- Whether the text is too large: it is refused if it is, and writes fail only if it isn't. Memory that ran out says nothing about it.
abbrev pub ExplainsSize : PageFault → List ℕ → Type 0
ExplainsSize TooLarge page = IsTooLarge page
ExplainsSize Write page = IsWithinLimit page
ExplainsSize OutOfMemory page = ⊤
