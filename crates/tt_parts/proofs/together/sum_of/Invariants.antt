use Rattle.std.proofs.Common.{take}
use Rattle.std.specs.List.{AllZip}
use Rattle.tt_parts.specs.Found.{texts_of}
use Rattle.tt_parts.proofs.Sources.{Gives}
use Rattle.tt_parts.proofs.together.sum_of.Given as goal

abbrev pub invariant-loop-proof : goal.invariant-loop-proof
invariant-loop-proof l = AllZip Gives l.sources.items (texts_of (take l.proof-index l.proofs))
