use Rattle.std.proofs.Common.{◌∙◌, true, Err, ap, refl, inl, is_some}
use Rattle.std.proofs.lemmas.Result.{err_from_is_err_and}
use Rattle.tt_text.specs.Feeds.{stream_at, fresh}
use Rattle.tt_proof_read.specs.Faults.{read_failed, is_failed_read}
use Rattle.tt_proof_check.proofs.FailedReads.{of_given}
use Rattle.tt_proof_check.proofs.TextFaults.{told, err_same, same_reads}
use Rattle.tt_proof_upgrade.specs.Texts.{IsRead, IsTextFault, TextIsCutOff}
use Rattle.tt_proof_upgrade.proofs.Whole.{nodes_break, end_breaks, is_read, of_bytes}
use Rattle.tt_proof_upgrade.proofs.reading.parse_proof.Goals as goal

pub returns-in_err-nodes-clause-fault : goal.returns-in_err-nodes-clause-fault
returns-in_err-nodes-clause-fault g c =
    let e = err_from_is_err_and c.from_residual-in_err-nodes.result c.from_residual-in_err-nodes.ensures.1 in
    let reader = c.in_ok-reader.reader in
    let start = c.in_ok-reader.ensures in
    let p = c.args.instance.now in
    let remaining = g.R.Source.remaining c.args.source.now in
    let f = c.in_err-nodes.field-0.0 in
    rw (e.1, e.2) (λ n bytes known. of_bytes (λ s. IsTextFault p s f) bytes remaining known
    (λ k. nodes_break p reader.sizes start.sizes (stream_at fresh remaining) reader.version reader.bound
    (stream_at reader.fed (g.R.Source.remaining c.new.new.source)) (start.read k) f (c.in_err-nodes.ensures.fault (start.known k) n)))

pub returns-in_err-finish-clause-fault : goal.returns-in_err-finish-clause-fault
returns-in_err-finish-clause-fault g c =
    let e = err_from_is_err_and c.from_residual-in_err-finish.result c.from_residual-in_err-finish.ensures.1 in
    let reader = c.in_ok-reader.reader in
    let start = c.in_ok-reader.ensures in
    let collected = c.in_ok-nodes.ensures in
    let p = c.args.instance.now in
    let remaining = g.R.Source.remaining c.args.source.now in
    let headed = stream_at reader.fed (g.R.Source.remaining c.new.new.source) in
    let noded = stream_at c.collect.new.reader.fed (g.R.Source.remaining c.collect.new.source) in
    let f = c.in_err-finish.field-0.0 in
    rw (e.1, e.2) (λ n bytes known. of_bytes (λ s. IsTextFault p s f) bytes remaining known
    (λ k. end_breaks p reader.sizes start.sizes (stream_at fresh remaining) reader.version reader.bound headed (start.read k)
    (is_some (g.R.Source.remaining c.new.new.source)) (start.known k) noded c.in_ok-nodes.nodes.items collected.collected f
    (told f _ n (c.in_err-finish.ensures.read collected.sound (collected.known (start.known k))))))

pub returns-clause-read : goal.returns-clause-read
returns-clause-read g c =
    let reader = c.in_ok-reader.reader in
    let start = c.in_ok-reader.ensures in
    let collected = c.in_ok-nodes.ensures in
    let p = c.args.instance.now in
    let remaining = g.R.Source.remaining c.args.source.now in
    let headed = stream_at reader.fed (g.R.Source.remaining c.new.new.source) in
    let noded = stream_at c.collect.new.reader.fed (g.R.Source.remaining c.collect.new.source) in
    let ended = stream_at c.finish.new.self.fed (g.R.Source.remaining c.finish.new.source) in
    λ bytes known.
    rw (c.version-version.ensures, c.bound-bound.ensures)
    (of_bytes (λ s. IsRead p s reader.version reader.bound c.in_ok-nodes.nodes.items) bytes remaining known
    (λ k. is_read p reader.sizes start.sizes (stream_at fresh remaining) reader.version reader.bound headed (start.read k)
    (is_some (g.R.Source.remaining c.new.new.source)) (start.known k) noded c.in_ok-nodes.nodes.items collected.collected ended
    (c.in_ok-finish.ensures.read collected.sound (collected.known (start.known k)))))

pub returns-in_err-reader-clause-up_to_failed_read : goal.returns-in_err-reader-clause-up_to_failed_read
returns-in_err-reader-clause-up_to_failed_read g c =
    let before = g.R.Source.remaining c.args.source.now in
    let after = g.R.Source.remaining c.new.new.source in
    let start = c.in_err-reader.ensures in
    λ reported. of_given (TextIsCutOff c.args.instance.now) before after start.known (λ k.
    let is = err_same c.from_residual.result c.in_err-reader.field-0.0 read_failed c.from_residual.ensures.1 reported in
    let here = start.cut_short k (ap is_failed_read is) in
    (here.0, inl (here.1 ∙ ap (λ x. Err x) is)))

pub returns-in_err-nodes-clause-up_to_failed_read : goal.returns-in_err-nodes-clause-up_to_failed_read
returns-in_err-nodes-clause-up_to_failed_read g c =
    let reader = c.in_ok-reader.reader in
    let start = c.in_ok-reader.ensures in
    let before = g.R.Source.remaining c.args.source.now in
    let after = g.R.Source.remaining c.collect.new.source in
    let p = c.args.instance.now in
    λ reported. of_given (TextIsCutOff p) before after (λ k. c.in_err-nodes.ensures.known (start.known k)) (λ k.
    let is = err_same c.from_residual-in_err-nodes.result c.in_err-nodes.field-0.0 read_failed c.from_residual-in_err-nodes.ensures.1
    reported in
    let here = c.in_err-nodes.ensures.up_to_failed_read (ap (λ x. Err x) is) (start.known k) in
    let first = start.cut_short k _ here.0 in
    (first.0, nodes_break p reader.sizes start.sizes _ reader.version reader.bound _ first.1 read_failed here.1))

pub returns-in_err-finish-clause-up_to_failed_read : goal.returns-in_err-finish-clause-up_to_failed_read
returns-in_err-finish-clause-up_to_failed_read g c =
    let reader = c.in_ok-reader.reader in
    let start = c.in_ok-reader.ensures in
    let collected = c.in_ok-nodes.ensures in
    let before = g.R.Source.remaining c.args.source.now in
    let after = g.R.Source.remaining c.finish.new.source in
    let p = c.args.instance.now in
    λ reported. of_given (TextIsCutOff p) before after (λ k. c.in_err-finish.ensures.known (collected.known (start.known k))) (λ k.
    let is = err_same c.from_residual-in_err-finish.result c.in_err-finish.field-0.0 read_failed c.from_residual-in_err-finish.ensures.1
    reported in
    let here = c.in_err-finish.ensures.cut_short collected.sound (collected.known (start.known k)) (ap is_failed_read is) in
    let nodes = collected.cut_short (start.known k) _ here.0 in
    let first = start.cut_short k _ nodes.0 in (
      first.0,
      end_breaks p reader.sizes start.sizes _ reader.version reader.bound _ first.1 true refl _ c.in_ok-nodes.nodes.items
          nodes.1 read_failed (here.1 ∙ ap (λ x. Err x) is),
    ))

pub returns-in_err-reader-clause-failed : goal.returns-in_err-reader-clause-failed
returns-in_err-reader-clause-failed g c =
    let e = c.in_err-reader.ensures in
    let f = c.in_err-reader.field-0.0 in
    same_reads c.from_residual.result f is_failed_read _ _ _ c.from_residual.ensures.1 e.failed refl

pub returns-in_err-nodes-clause-failed : goal.returns-in_err-nodes-clause-failed
returns-in_err-nodes-clause-failed g c =
    same_reads c.from_residual-in_err-nodes.result c.in_err-nodes.field-0.0 is_failed_read _ _ _ c.from_residual-in_err-nodes.ensures.1
    c.in_err-nodes.ensures.failed c.in_ok-reader.ensures.failed

pub returns-in_err-finish-clause-failed : goal.returns-in_err-finish-clause-failed
returns-in_err-finish-clause-failed g c =
    let e = c.in_err-finish.ensures in
    let f = c.in_err-finish.field-0.0 in
    let collected = c.in_ok-nodes.ensures in
    same_reads c.from_residual-in_err-finish.result f is_failed_read _ _ _ c.from_residual-in_err-finish.ensures.1
    (e.failed collected.sound) (collected.failed ∙ c.in_ok-reader.ensures.failed)

pub returns-in_err-reader-clause-fault : goal.returns-in_err-reader-clause-fault
returns-in_err-reader-clause-fault g c =
    let e = err_from_is_err_and c.from_residual.result c.from_residual.ensures.1 in
    let p = c.args.instance.now in
    let remaining = g.R.Source.remaining c.args.source.now in
    let f = c.in_err-reader.field-0.0 in
    rw (e.1, e.2) (λ n bytes known. of_bytes (λ s. IsTextFault p s f) bytes remaining known
    (λ k. inl (told f _ n (c.in_err-reader.ensures.read k))))
