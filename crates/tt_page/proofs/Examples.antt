-- Examples of what a fault says about the size of a page.
use Rattle.std.proofs.Common.{lit≤}
use Rattle.std.specs.Prelude.{codes}
use Rattle.tt_page.specs.Limits.{IsWithinLimit}
use Rattle.tt_page.specs.Faults.{ExplainsSize}
use Rattle.tt_page.specs.declared.fault.PageFault.TheVariants.{Write, OutOfMemory}

small : IsWithinLimit (codes "<!DOCTYPE html>")
small = lit≤ tt

-- a write fails only if the page is within the limit
failed_write : ExplainsSize Write (codes "<!DOCTYPE html>")
failed_write = lit≤ tt

-- if memory runs out, nothing is said about the size
no_memory : ExplainsSize OutOfMemory (codes "<!DOCTYPE html>")
no_memory = tt
