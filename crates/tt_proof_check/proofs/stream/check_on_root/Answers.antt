use Rattle.std.proofs.Common.{◌≡◌, ◌∙◌, true, is_some, refl, subst, IfOk}
use Rattle.tt_instance.specs.Problem.{Problem}
use Rattle.tt_text.specs.Stops.{OnFault, IfFault}
use Rattle.tt_text.specs.declared.stop.Stop.TheVariants.{ReadFailed}
use Rattle.tt_text.specs.Feeds.{stream_at, fresh}
use Rattle.tt_proof_check.specs.FailedReads.{IsCutOff, UpToFailure}
use Rattle.tt_proof_check.specs.Visited.{Visited}
use Rattle.tt_proof_check.specs.Inner.CheckedPart.{Proved}
use Rattle.tt_proof_check.specs.Streams.{IsProofFault}
use Rattle.tt_proof_check.proofs.Roots.{same_root}
use Rattle.tt_proof_check.proofs.stream.check_on_root.Goals as goal

pub returns-in-Ok-clause-proved : goal.returns-in-Ok-clause-proved
returns-in-Ok-clause-proved g c =
    let remaining = g.R.Source.remaining c.args.source.now in
    let visited = Visited g.L.NodeVisitor.visits 0 c.args.visitor.now c.check_on_path.new.visitor in
    same_root (λ p root. IfOk c.check_on_path.result (λ b. Proved p root (is_some remaining) visited (stream_at fresh remaining) b)) _ _ _ _
    c.in-Ok.ensures.unchanged c.in-Ok.ensures.facts c.check_on_path.ensures.proved

pub returns-in-Ok-clause-fault : goal.returns-in-Ok-clause-fault
returns-in-Ok-clause-fault g c =
    let remaining = g.R.Source.remaining c.args.source.now in
    same_root (λ p root. is_some remaining ≡ true → IfFault c.check_on_path.result (λ f. IsProofFault p root (stream_at fresh remaining) f))
    _ _ _ _ c.in-Ok.ensures.unchanged c.in-Ok.ensures.facts c.check_on_path.ensures.fault

pub returns-in-Ok-clause-up_to_failed_read : goal.returns-in-Ok-clause-up_to_failed_read
returns-in-Ok-clause-up_to_failed_read g c =
    λ reported.
    same_root (λ p root. UpToFailure fresh (g.R.Source.remaining c.args.source.now) (g.R.Source.remaining c.check_on_path.new.source)
    (IsCutOff p root)) _ _ _ _ c.in-Ok.ensures.unchanged c.in-Ok.ensures.facts (c.check_on_path.ensures.up_to_failed_read reported)

pub returns-in-Err-TooDeep-clause-fault : goal.returns-in-Err-TooDeep-clause-fault
returns-in-Err-TooDeep-clause-fault g c =
    let e = rw c.in-Err-TooDeep.field-0-is at c.in-Err-TooDeep.ensures in
    let s = stream_at fresh (g.R.Source.remaining c.args.source.now) in
    let known = is_some (g.R.Source.remaining c.args.source.now) in
    subst (λ (p : Problem). known ≡ true → OnFault c.deep_root.result (λ f. IsProofFault p c.args.root.now s f))
    (c.instance.ensures ∙ e.unchanged) (c.deep_root.ensures.fault c.args.root.now (e.deep refl))

pub returns-in-Err-TooDeep-clause-up_to_failed_read : goal.returns-in-Err-TooDeep-clause-up_to_failed_read
returns-in-Err-TooDeep-clause-up_to_failed_read g c =
    λ reported.
    let e = rw c.in-Err-TooDeep.field-0-is at c.in-Err-TooDeep.ensures in
    let is : c.deep_root.result ≡ ReadFailed = cc in
    subst (λ (p : Problem). UpToFailure fresh (g.R.Source.remaining c.args.source.now) (g.R.Source.remaining c.deep_root.new.source)
    (IsCutOff p c.args.root.now)) (c.instance.ensures ∙ e.unchanged)
    (c.deep_root.ensures.up_to_failed_read c.args.root.now (e.deep refl) is)
