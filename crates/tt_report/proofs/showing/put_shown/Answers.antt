use Rattle.std.proofs.Common.{◌≡◌, ◌<◌, length, rules, subst}
use Rattle.std.specs.Str.{IsUtf8}
use Rattle.std.specs.Str.Chunks.{utf8_chunks_rest}
use Rattle.std.proofs.lemmas.Str.{utf8_lossy_chunk, utf8_lossy_last_chunk}
use Rattle.tt_report.proofs.Shown.{name_begun, chunk_put, last_chunk_put, name_put}
use Rattle.tt_report.proofs.showing.put_shown.Goals as goal

pub loop-chunk-init : goal.loop-chunk-init
loop-chunk-init g c =
    let begun : utf8_chunks_rest c.into_iter-chunk-iterator.result ≡ c.args.name.now = search rules in
    name_begun g.W.Sink.contents g.W.Sink.has_failed c.args.out.now c.args.name.now
    (utf8_chunks_rest c.into_iter-chunk-iterator.result) begun

pub loop-chunk-preserved-then-not-is_empty : goal.loop-chunk-preserved-then-not-is_empty
loop-chunk-preserved-then-not-is_empty g c =
    let steps = c.in-Some.ensures.steps in
    let valid = c.in-Some.chunk.valid.now in
    let some : 0 < length c.in-Some.chunk.invalid.now = search rules in
    let is = utf8_lossy_chunk _ _ _ _ steps.0 steps.3.0 steps.3.1 some in
    chunk_put g.W.Sink.contents g.W.Sink.has_failed c.args.out.now c.loop-chunk.out c.put_letters.new.out c.put_letter.new.out
    c.args.name.now (utf8_chunks_rest c.loop-chunk.chunk-iterator) valid (utf8_chunks_rest c.next.new.self)
    (subst IsUtf8 c.valid.ensures c.valid.utf8) is (rw c.valid.ensures at c.put_letters.ensures) c.put_letter.ensures c.loop-chunk.invariant

pub loop-chunk-preserved : goal.loop-chunk-preserved
loop-chunk-preserved g c =
    let steps = c.in-Some.ensures.steps in
    let valid = c.in-Some.chunk.valid.now in
    let none : length c.in-Some.chunk.invalid.now ≡ 0 = search rules in
    let is = utf8_lossy_last_chunk _ _ _ _ steps.0 steps.3.0 none (steps.2 none) in
    last_chunk_put g.W.Sink.contents g.W.Sink.has_failed c.args.out.now c.loop-chunk.out c.put_letters.new.out
    c.args.name.now (utf8_chunks_rest c.loop-chunk.chunk-iterator) valid (utf8_chunks_rest c.next.new.self)
    (subst IsUtf8 c.valid.ensures c.valid.utf8) is (rw c.valid.ensures at c.put_letters.ensures) c.loop-chunk.invariant

pub returns : goal.returns
returns g c =
    name_put g.W.Sink.contents g.W.Sink.has_failed c.args.out.now c.loop-chunk.out c.args.name.now
    (utf8_chunks_rest c.loop-chunk.chunk-iterator) c.in-None.ensures.steps.0 c.loop-chunk.invariant
