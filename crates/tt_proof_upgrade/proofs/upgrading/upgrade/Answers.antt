use Rattle.std.proofs.Common.{[], true, if◌then◌else◌, Err, refl, ap, subst, sym, ◌∙◌}
use Rattle.std.proofs.lemmas.Result.{err_from_is_err_and}
use Rattle.std.specs.Prelude.{All}
use Rattle.tt_text.specs.declared.stop.Stop.TheVariants.{ReadFailed}
use Rattle.tt_proof_read.specs.Spelling.{IsNode}
use Rattle.tt_text.proofs.Stops.{passed_reads, OnFault-weaker, not_read}
use Rattle.tt_proof_check.specs.Derives.{Proves}
use Rattle.tt_proof_check.specs.Nodes.{IsNodeOf}
use Rattle.tt_proof_check.specs.Streams.{stream_of}
use Rattle.tt_proof_check.proofs.Nodes.{node_numbers}
use Rattle.tt_proof_check.proofs.Soundness.{proof_sound}
use Rattle.tt_proof_check.proofs.TextFaults.{err_same}
use Rattle.tt_proof_upgrade.proofs.Faults.{text_reported, text_lower, text_read, text_failed, nodes_lower, write_lower}
use Rattle.tt_proof_upgrade.proofs.Written.{nodes_tell, write_tells, upgraded, bound_read, only_large}
use Rattle.tt_proof_upgrade.proofs.upgrading.upgrade.Goals as goal

pub check_tree-requires-clause-nodes : goal.check_tree-requires-clause-nodes
check_tree-requires-clause-nodes g c =
    let p = c.args.instance.now in
    let read = c.in-Ok.read in
    subst (All (IsNodeOf p)) (sym c.deref.ensures.value) (λ k n e. node_numbers p read.version _ (c.in-Ok.ensures.nodes.each k n e))

pub returns-in-Err-clause-only : goal.returns-in-Err-clause-only
returns-in-Err-clause-only g c =
    let p = c.args.instance.now in
    λ bytes b known proved. text_reported c.in-Err.fault c.stop_from_text.result c.stop_from_text.ensures
    _ (λ calm. only_large p c.days.ensures.instance bytes b proved _ (c.in-Err.ensures.fault calm bytes known))

pub returns-in-Err-clause-fault : goal.returns-in-Err-clause-fault
returns-in-Err-clause-fault g c =
    text_reported c.in-Err.fault c.stop_from_text.result c.stop_from_text.ensures _ (λ calm. c.in-Err.ensures.fault calm)

pub returns-in-Err-clause-lower : goal.returns-in-Err-clause-lower
returns-in-Err-clause-lower g c = text_lower c.in-Err.fault c.stop_from_text.result c.stop_from_text.ensures

pub returns-in-Err-clause-up_to_failed_read : goal.returns-in-Err-clause-up_to_failed_read
returns-in-Err-clause-up_to_failed_read g c =
    λ reported. c.in-Err.ensures.up_to_failed_read (ap (λ f. Err f) (text_read c.in-Err.fault c.stop_from_text.result
    c.stop_from_text.ensures (cc)))

pub returns-in-Err-clause-failed : goal.returns-in-Err-clause-failed
returns-in-Err-clause-failed g c =
    text_failed c.in-Err.fault c.stop_from_text.result c.stop_from_text.ensures _ _ c.in-Err.ensures.failed

pub returns-in_err-check_tree-clause-only : goal.returns-in_err-check_tree-clause-only
returns-in_err-check_tree-clause-only g c =
    let e = err_from_is_err_and c.from_residual.result c.from_residual.ensures.1 in
    let p = c.args.instance.now in
    let read = c.in-Ok.read in
    λ bytes b known proved. rw (e.1, e.2) (OnFault-weaker c.in_err-check_tree.field-0.0 _ _
    (λ f tells. only_large p c.days.ensures.instance bytes b proved f
    (nodes_tell p (stream_of bytes) read.version read.bound read.nodes.items (c.in-Ok.ensures.read bytes known) f tells))
    (rw c.deref.ensures.value at c.in_err-check_tree.ensures.fault))

pub returns-in_err-bytes-clause-fault : goal.returns-in_err-bytes-clause-fault
returns-in_err-bytes-clause-fault g c =
    let e = err_from_is_err_and c.from_residual-in_err-bytes.result c.from_residual-in_err-bytes.ensures.1 in
    let p = c.args.instance.now in
    let read = c.in-Ok.read in
    rw (e.1, e.2) (OnFault-weaker c.in_err-bytes.field-0.0 _ _
    (λ f tells bytes known. write_tells p (stream_of bytes) read.version read.bound read.nodes.items
    (c.in-Ok.ensures.read bytes known) (subst (Proves p [] read.bound) c.deref.ensures.value c.in_ok-check_tree.ensures.proves) f tells)
    (rw c.deref-2.ensures.value at c.in_err-bytes.ensures.fault))

pub returns-clause-found : goal.returns-clause-found
returns-clause-found g c =
    let p = c.args.instance.now in
    let read = c.in-Ok.read in
    λ bytes known. upgraded p bytes c.in_ok-bytes.bytes.items read.version read.bound read.nodes.items
    (c.in-Ok.ensures.read bytes known) (subst (Proves p [] read.bound) c.deref.ensures.value c.in_ok-check_tree.ensures.proves)
    c.in-Ok.ensures.nodes
    (rw c.deref-2.ensures.value at c.in_ok-bytes.ensures.text)
    (λ tree e each. c.in_ok-bytes.ensures.again p tree (e ∙ sym c.deref-2.ensures.value)
    (subst (All (IsNode p 2)) (sym c.deref-2.ensures.value) each))

pub returns-clause-only : goal.returns-clause-only
returns-clause-only g c =
    let p = c.args.instance.now in
    let read = c.in-Ok.read in
    λ bytes b known proved. bound_read p c.days.ensures.instance bytes b proved read.version read.bound read.nodes.items
    (c.in-Ok.ensures.read bytes known)

pub returns-clause-holds : goal.returns-clause-holds
returns-clause-holds g c =
    let p = c.args.instance.now in
    let read = c.in-Ok.read in
    proof_sound p read.bound read.nodes.items (subst (Proves p [] read.bound) c.deref.ensures.value c.in_ok-check_tree.ensures.proves)

pub returns-in_err-check_tree-clause-lower : goal.returns-in_err-check_tree-clause-lower
returns-in_err-check_tree-clause-lower g c =
    let e = err_from_is_err_and c.from_residual.result c.from_residual.ensures.1 in
    rw (e.1, e.2) (OnFault-weaker c.in_err-check_tree.field-0.0 _ _ (nodes_lower _ _ _) c.in_err-check_tree.ensures.fault)

pub returns-in_err-bytes-clause-lower : goal.returns-in_err-bytes-clause-lower
returns-in_err-bytes-clause-lower g c =
    let e = err_from_is_err_and c.from_residual-in_err-bytes.result c.from_residual-in_err-bytes.ensures.1 in
    rw (e.1, e.2) (OnFault-weaker c.in_err-bytes.field-0.0 _ _ (write_lower _ _) c.in_err-bytes.ensures.fault)

pub returns-in_err-check_tree-clause-failed : goal.returns-in_err-check_tree-clause-failed
returns-in_err-check_tree-clause-failed g c =
    let s = c.in_err-check_tree.field-0.0 in
    let before = g.R.Source.has_failed c.args.source.now in
    passed_reads c.from_residual.result s before before _ c.from_residual.ensures.1
    (c.in-Ok.ensures.failed ∙ ap (λ b. if b then true else before) (sym c.in_err-check_tree.ensures.unread)) refl

pub returns-in_err-bytes-clause-failed : goal.returns-in_err-bytes-clause-failed
returns-in_err-bytes-clause-failed g c =
    let s = c.in_err-bytes.field-0.0 in
    let before = g.R.Source.has_failed c.args.source.now in
    passed_reads c.from_residual-in_err-bytes.result s before before _ c.from_residual-in_err-bytes.ensures.1
    (c.in-Ok.ensures.failed ∙ ap (λ b. if b then true else before) (sym c.in_err-bytes.ensures.unread)) refl

pub returns-in_err-check_tree-clause-up_to_failed_read : goal.returns-in_err-check_tree-clause-up_to_failed_read
returns-in_err-check_tree-clause-up_to_failed_read g c =
    λ reported. absurd (not_read c.in_err-check_tree.field-0.0 c.in_err-check_tree.ensures.unread
    (err_same c.from_residual.result _ ReadFailed c.from_residual.ensures.1 reported))

pub returns-in_err-bytes-clause-up_to_failed_read : goal.returns-in_err-bytes-clause-up_to_failed_read
returns-in_err-bytes-clause-up_to_failed_read g c =
    λ reported. absurd (not_read c.in_err-bytes.field-0.0 c.in_err-bytes.ensures.unread
    (err_same c.from_residual-in_err-bytes.result _ ReadFailed c.from_residual-in_err-bytes.ensures.1 reported))
