use Rattle.std.proofs.Common.{◌≡◌, ◌<◌, length, rules, subst, ap, ◌∙◌}
use Rattle.std.specs.Str.{IsUtf8}
use Rattle.std.specs.Str.Chunks.{utf8_chunks_rest}
use Rattle.std.proofs.lemmas.Str.{utf8_lossy_chunk, utf8_lossy_last_chunk}
use Rattle.tt_page_text.specs.Puts.{put_text}
use Rattle.tt_page_text.proofs.QuotedChunks.{chunk_put, last_chunk_put, chunks_put, quoted_all}
use Rattle.tt_page_text.proofs.Inert.{quoted_inert}
use Rattle.tt_page_text.proofs.quoted.put_quoted.Goals as goal

pub loop-chunk-preserved-then-not-is_empty : goal.loop-chunk-preserved-then-not-is_empty
loop-chunk-preserved-then-not-is_empty c =
    let steps = c.in-Some.ensures.steps in
    let valid = c.in-Some.chunk.valid.now in
    let some : 0 < length c.in-Some.chunk.invalid.now = search rules in
    let is = utf8_lossy_chunk _ _ _ _ steps.0 steps.3.0 steps.3.1 some in
    chunk_put _ c.loop-chunk.out c.put_quoted_letters.new.out c.put_quoted_letter.new.out (utf8_chunks_rest c.loop-chunk.chunk-iterator)
    valid
    (utf8_chunks_rest c.next.new.self)
    (subst IsUtf8 c.valid.ensures c.valid.utf8) is (rw c.valid.ensures at c.put_quoted_letters.ensures) c.put_quoted_letter.ensures
    c.loop-chunk.invariant

pub loop-chunk-preserved : goal.loop-chunk-preserved
loop-chunk-preserved c =
    let steps = c.in-Some.ensures.steps in
    let valid = c.in-Some.chunk.valid.now in
    let none : length c.in-Some.chunk.invalid.now ≡ 0 = search rules in
    let is = utf8_lossy_last_chunk _ _ _ _ steps.0 steps.3.0 none (steps.2 none) in
    last_chunk_put _ c.loop-chunk.out c.put_quoted_letters.new.out (utf8_chunks_rest c.loop-chunk.chunk-iterator) valid
    (utf8_chunks_rest c.next.new.self)
    (subst IsUtf8 c.valid.ensures c.valid.utf8) is (rw c.valid.ensures at c.put_quoted_letters.ensures) c.loop-chunk.invariant

pub returns-clause-puts : goal.returns-clause-puts
returns-clause-puts c =
    chunks_put _ c.loop-chunk.out (utf8_chunks_rest c.loop-chunk.chunk-iterator) c.in-None.ensures.steps.0 c.loop-chunk.invariant
    ∙ ap (put_text c.args.out.now) (quoted_all c.args.name.now)

pub returns-clause-inert : goal.returns-clause-inert
returns-clause-inert c = quoted_inert c.args.name.now
