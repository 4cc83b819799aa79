use Rattle.std.proofs.Common.{◌≡◌, ◌-◌, ◌≤◌, drop, take}
use Rattle.tt_text.proofs.TakenParts.{Taken}
use Rattle.tt_page_text.specs.declared.page_text.TheConstants.{PAGE_PIECE_BYTES}
use Rattle.tt_page.specs.Inner.Contents.{content_text}
use Rattle.tt_page.proofs.pages.write_pieces.Given as goal

abbrev pub invariant-pieces : goal.invariant-pieces
invariant-pieces g l = record {
  within : l.from ≤ l.total;
  size : l.out.size ≡ PAGE_PIECE_BYTES;
  piece : l.out.bytes ≡ take PAGE_PIECE_BYTES (drop l.from (content_text l.content));
  taken : Taken (g.W.Sink.contents l.fn.sink) (g.W.Sink.contents l.sink) (content_text l.content)
      (drop l.from (content_text l.content));
  failed : g.W.Sink.has_failed l.sink ≡ g.W.Sink.has_failed l.fn.sink;
}

abbrev pub decreases-pieces : goal.decreases-pieces
decreases-pieces g l = l.total - l.from
