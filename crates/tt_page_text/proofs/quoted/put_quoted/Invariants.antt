use Rattle.std.proofs.Common.{◌≡◌}
use Rattle.std.specs.Str.Chunks.{utf8_chunks_rest}
use Rattle.std.specs.Str.Lossy.{utf8_lossy}
use Rattle.tt_page_text.specs.Puts.{put_text}
use Rattle.tt_page_text.proofs.QuotedChunks.{quoted_letters}
use Rattle.tt_page_text.proofs.quoted.put_quoted.Given as goal

abbrev pub invariant-loop-chunk : goal.invariant-loop-chunk
invariant-loop-chunk l = put_text l.out (quoted_letters (utf8_lossy (utf8_chunks_rest l.chunk-iterator))) ≡ put_text l.initial.out
    (quoted_letters (utf8_lossy l.name))
