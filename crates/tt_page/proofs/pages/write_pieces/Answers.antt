use Rattle.std.proofs.Common.{◌≡◌, ◌+◌, ◌<◌, ◌≤◌, length, lit<, refl, sym, ap, subst, ◌∙◌, arith}
use Rattle.std.specs.Prelude.{Result, Ok, Err, OnErr}
use Rattle.std.specs.Io.KnownBytes.{Appends}
use Rattle.tt_text.proofs.TakenParts.{taken_first}
use Rattle.tt_page_text.specs.Puts.{put_text, too_many, window}
use Rattle.tt_page_text.specs.Windowed.{PageState}
use Rattle.tt_page_text.specs.declared.page_text.TheConstants.{PAGE_PIECE_BYTES}
use Rattle.tt_page_text.proofs.Windows.{bytes_of_all, bytes_to_end, size_put}
use Rattle.tt_page.specs.Inner.Contents.{content_text}
use Rattle.tt_page.proofs.Pieces.{piece_further, piece_taken, piece_failed, pieces_taken}
use Rattle.tt_page.proofs.pages.write_pieces.Goals as goal

if_err : {T E P : Type 0} (r : Result T E) → P → OnErr r P
if_err (Ok v) p = tt
if_err (Err e) p = p

pub pieces-init : goal.pieces-init
pieces-init g c =
    let text = content_text c.args.content.now in
    let within : length text ≤ too_many = omega (arith, c.requires.total, c.requires.within) in record {
      within = omega arith;
      size = ap (λ (s : PageState). s.size) c.requires.first ∙ size_put (window 0 PAGE_PIECE_BYTES too_many) text;
      piece = ap (λ (s : PageState). s.bytes) c.requires.first ∙ bytes_of_all 0 PAGE_PIECE_BYTES too_many text within;
      taken = taken_first (g.W.Sink.contents c.args.sink.now) text;
      failed = refl;
    }

pub returns-in_err-write_all-clause-part : goal.returns-in_err-write_all-clause-part
returns-in_err-write_all-clause-part g c =
    let text = content_text c.args.content.now in
    if_err c.from_residual.result
    (piece_failed (g.W.Sink.contents c.args.sink.now) (g.W.Sink.contents c.pieces.sink)
    (g.W.Sink.contents c.write_all.new.sink) text c.bytes.result.now c.pieces.from PAGE_PIECE_BYTES
    c.pieces.invariant.taken (c.bytes.ensures ∙ c.pieces.invariant.piece) c.in_err-write_all.ensures.part)

pub returns-then-from-total-clause-written : goal.returns-then-from-total-clause-written
returns-then-from-total-clause-written g c =
    let text = content_text c.args.content.now in
    let mid = g.W.Sink.contents c.pieces.sink in
    let after = g.W.Sink.contents c.write_all.new.sink in
    let bytes = c.bytes-in-pieces.result.now in
    let more = subst (Appends mid after) (c.bytes.ensures ∙ sym c.bytes-in-pieces.ensures) c.in_ok-write_all.ensures.all in
    let past : length text ≤ c.pieces.from + length bytes = omega (arith, c.requires.total, c.if-from-total.true) in
    pieces_taken (g.W.Sink.contents c.args.sink.now) after text (c.pieces.from + length bytes) past
    (piece_taken (g.W.Sink.contents c.args.sink.now) mid after text bytes c.pieces.from PAGE_PIECE_BYTES c.pieces.invariant.taken
    (c.bytes-in-pieces.ensures ∙ c.pieces.invariant.piece) more)

pub pieces-smaller : goal.pieces-smaller
pieces-smaller g c =
    let text = content_text c.args.content.now in
    let bytes = c.bytes-in-pieces.result.now in
    let left : c.pieces.from + length bytes < c.args.total = c.if-from-total.false in
    let short : c.pieces.from + length bytes < length text = omega (arith, c.requires.total, left) in
    let further = piece_further c.pieces.from PAGE_PIECE_BYTES text bytes (c.bytes-in-pieces.ensures ∙ c.pieces.invariant.piece)
    (lit< tt) short in
    omega (arith, further, left)

pub pieces-preserved : goal.pieces-preserved
pieces-preserved g c =
    let text = content_text c.args.content.now in
    let mid = g.W.Sink.contents c.pieces.sink in
    let after = g.W.Sink.contents c.write_all.new.sink in
    let bytes = c.bytes-in-pieces.result.now in
    let from = c.pieces.from + length bytes in
    let more = subst (Appends mid after) (c.bytes.ensures ∙ sym c.bytes-in-pieces.ensures) c.in_ok-write_all.ensures.all in
    let restarted : c.restart.new.self ≡ window from PAGE_PIECE_BYTES (from + PAGE_PIECE_BYTES) = c.restart.ensures
    ∙ ap (λ k. window from k (from + PAGE_PIECE_BYTES)) c.pieces.invariant.size in
    let put : c.put_all.new.out ≡ put_text (window from PAGE_PIECE_BYTES (from + PAGE_PIECE_BYTES)) text = c.put_all.ensures
    ∙ ap (λ (s : PageState). put_text s text) restarted in record {
      within = omega (arith, c.if-from-total.false);
      size = ap (λ (s : PageState). s.size) put ∙ size_put (window from PAGE_PIECE_BYTES (from + PAGE_PIECE_BYTES)) text;
      piece = ap (λ (s : PageState). s.bytes) put ∙ bytes_to_end from PAGE_PIECE_BYTES text;
      taken = piece_taken (g.W.Sink.contents c.args.sink.now) mid after text bytes c.pieces.from PAGE_PIECE_BYTES
          c.pieces.invariant.taken (c.bytes-in-pieces.ensures ∙ c.pieces.invariant.piece) more;
      failed = c.in_ok-write_all.ensures.failed ∙ c.pieces.invariant.failed;
    }
