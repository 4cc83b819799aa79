use Rattle.std.proofs.Common.{◌≡◌, ◌∙◌, Err, inl, refl, ap}
use Rattle.tt_text.specs.Feeds.{stream_at, fresh}
use Rattle.tt_proof_read.specs.Faults.{read_failed, is_failed_read}
use Rattle.tt_text.proofs.Stops.{OnFault-weaker}
use Rattle.tt_proof_check.specs.declared.fault.CheckFault.TheVariants.{Text}
use Rattle.tt_proof_check.specs.Streams.{IsProofFault}
use Rattle.tt_proof_check.proofs.Streaming.{root_deep, nodes_fault}
use Rattle.tt_proof_check.proofs.TextFaults.{text_reported, text_lower, text_read, text_failed, told}
use Rattle.tt_proof_check.proofs.stream.deep_root.Goals as goal

pub returns-in-Err-clause-fault : goal.returns-in-Err-clause-fault
returns-in-Err-clause-fault g c =
    λ root long k.
    let f = c.in-Err.fault in
    let s = stream_at fresh (g.R.Source.remaining c.args.source.now) in
    text_reported c.stop_from_text.result f (IsProofFault c.args.instance.now root s) c.stop_from_text.ensures
    (λ calm. inl (told f _ calm (c.in-Err.ensures.read k)))

pub returns-in-Err-clause-up_to_failed_read : goal.returns-in-Err-clause-up_to_failed_read
returns-in-Err-clause-up_to_failed_read g c =
    λ root long reported k.
    let f = c.in-Err.fault in
    let is : f ≡ read_failed = text_read c.stop_from_text.result f c.stop_from_text.ensures reported in
    let here = c.in-Err.ensures.cut_short k (ap is_failed_read is) in
    (here.0, inl (here.1 ∙ ap (λ x. Err x) is))

pub returns-in-Err-clause-lower : goal.returns-in-Err-clause-lower
returns-in-Err-clause-lower g c = text_lower c.stop_from_text.result c.in-Err.fault c.stop_from_text.ensures

pub returns-in-Err-clause-failed : goal.returns-in-Err-clause-failed
returns-in-Err-clause-failed g c =
    text_failed c.stop_from_text.result c.in-Err.fault _ _ _ c.stop_from_text.ensures c.in-Err.ensures.failed refl

pub returns-clause-fault : goal.returns-clause-fault
returns-clause-fault g c =
    λ root long k.
    let reader = c.in-Ok.reader in
    let start = c.in-Ok.ensures in
    let p = c.args.instance.now in
    let s = stream_at fresh (g.R.Source.remaining c.args.source.now) in
    let rest = stream_at reader.fed (g.R.Source.remaining c.new.new.source) in
    OnFault-weaker c.deep_fault.result _ (IsProofFault p root s)
    (λ f child. nodes_fault p root s rest reader.version reader.bound f (start.read k)
    (root_deep p root rest reader f long start.sizes start.start.0 child)) (c.deep_fault.ensures.fault (start.known k))

pub returns-clause-up_to_failed_read : goal.returns-clause-up_to_failed_read
returns-clause-up_to_failed_read g c =
    λ root long reported k.
    let reader = c.in-Ok.reader in
    let start = c.in-Ok.ensures in
    let p = c.args.instance.now in
    let child = c.deep_fault.ensures.up_to_failed_read reported (start.known k) in
    let first = start.cut_short k _ child.0 in (
      first.0,
      nodes_fault p root _ _ reader.version reader.bound (Text read_failed) first.1
          (root_deep p root _ reader (Text read_failed) long start.sizes start.start.0 child.1),
    )
