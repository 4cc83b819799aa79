use Rattle.std.proofs.Common.{◌≡◌, take}
use Rattle.tt_parts.specs.Found.{texts_of}
use Rattle.tt_parts.proofs.together.copy_texts.Given as goal

abbrev pub invariant-loop-text : goal.invariant-loop-text
invariant-loop-text l = texts_of l.copies.items ≡ texts_of (take l.text-index l.texts)
