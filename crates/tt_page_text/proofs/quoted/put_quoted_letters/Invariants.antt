use Rattle.std.proofs.Common.{◌≡◌}
use Rattle.std.specs.Prelude.{flat_map}
use Rattle.tt_page_text.specs.Puts.{put_text}
use Rattle.tt_page_text.specs.Quoted.{quoted_letter}
use Rattle.tt_page_text.proofs.quoted.put_quoted_letters.Given as goal

abbrev pub invariant-loop-letter : goal.invariant-loop-letter
invariant-loop-letter l = l.out ≡ put_text l.initial.out (flat_map quoted_letter l.yielded)
