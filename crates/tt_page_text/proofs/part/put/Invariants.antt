use Rattle.std.proofs.Common.{◌≡◌, take}
use Rattle.std.specs.Prelude.{flat_map}
use Rattle.tt_page_text.specs.Markup.{part_text}
use Rattle.tt_page_text.specs.Puts.{put_text}
use Rattle.tt_page_text.proofs.part.put.Given as goal

abbrev pub invariant-loop-part : goal.invariant-loop-part
invariant-loop-part l = l.out ≡ put_text l.initial.out (flat_map part_text (take l.part-index l.parts))
