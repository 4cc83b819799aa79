use Rattle.std.proofs.Common.{◌≡◌, ◌∙◌, Err, inl, inr, refl, ap, sym, subst, is_some}
use Rattle.tt_text.specs.Feeds.{stream_at, fresh}
use Rattle.tt_proof_read.specs.Faults.{read_failed, is_failed_read}
use Rattle.tt_leaf.specs.declared.leaf.Bound.{Bound}
use Rattle.tt_text.specs.declared.stop.Stop.TheVariants.{ReadFailed}
use Rattle.tt_text.proofs.Stops.{passed_reads}
use Rattle.tt_proof_check.specs.Visited.{Visited}
use Rattle.tt_proof_check.specs.Inner.CheckedPart.{Proved}
use Rattle.tt_proof_check.specs.Streams.{IsProofFault}
use Rattle.tt_proof_check.proofs.TextFaults.{text_reported, text_lower, text_read, text_failed, told, err_same}
use Rattle.tt_proof_check.proofs.stream.check_on_path.Goals as goal

pub returns-clause-fault : goal.returns-clause-fault
returns-clause-fault g c =
    λ k.
    let reader = c.in-Ok.reader in
    let start = c.in-Ok.ensures in
    let checked = c.in_ok-check_tree.ensures in
    let f = c.in-Err-finish.fault in
    let p = g.P.Path.problem c.args.path.now in
    let root = g.P.Path.facts c.args.path.now in
    let s = stream_at fresh (g.R.Source.remaining c.args.source.now) in
    let known = start.known k in
    text_reported c.stop_from_text-in-Err-finish.result f (IsProofFault p root s) c.stop_from_text-in-Err-finish.ensures
    (λ calm. inr (
      reader.version,
      reader.bound,
      stream_at reader.fed (g.R.Source.remaining c.new.new.source),
      start.read k,
      inr (record {
        tree = checked.checked.tree;
        rest = stream_at c.check_tree.new.reader.fed (g.R.Source.remaining c.check_tree.new.source);
        reads = checked.checked.reads known;
        shallow = checked.checked.shallow;
        derives = checked.checked.derives;
        fails = told f _ calm (c.in-Err-finish.ensures.read checked.sound (checked.known known));
      }),
    ))

pub returns-in-Ok-finish-clause-proved : goal.returns-in-Ok-finish-clause-proved
returns-in-Ok-finish-clause-proved g c =
    let reader = c.in-Ok.reader in
    let start = c.in-Ok.ensures in
    let checked = c.in_ok-check_tree.ensures in
    let known = is_some (g.R.Source.remaining c.args.source.now) in
    let s = stream_at fresh (g.R.Source.remaining c.args.source.now) in
    subst (λ (b : Bound). Proved (g.P.Path.problem c.args.path.now) (g.P.Path.facts c.args.path.now) known
    (Visited g.L.NodeVisitor.visits 0 c.args.visitor.now c.check_tree.new.visitor) s b) (sym c.bound-bound.ensures) (record {
      version = reader.version;
      tree = checked.checked.tree;
      reads = λ k. record {
        headed = stream_at reader.fed (g.R.Source.remaining c.new.new.source);
        noded = stream_at c.check_tree.new.reader.fed (g.R.Source.remaining c.check_tree.new.source);
        ended = stream_at c.finish.new.self.fed (g.R.Source.remaining c.finish.new.source);
        header = start.read k;
        nodes = checked.checked.reads (start.known k);
        finish = c.in-Ok-finish.ensures.read checked.sound (checked.known (start.known k));
      };
      shallow = checked.checked.shallow;
      derives = checked.checked.derives;
      visited = checked.checked.visited;
    })

pub returns-in_err-check_tree-clause-up_to_failed_read : goal.returns-in_err-check_tree-clause-up_to_failed_read
returns-in_err-check_tree-clause-up_to_failed_read g c =
    λ reported k.
    let reader = c.in-Ok.reader in
    let start = c.in-Ok.ensures in
    let is = err_same c.from_residual.result c.in_err-check_tree.field-0.0
    ReadFailed c.from_residual.ensures.1 reported in
    let here = c.in_err-check_tree.ensures.up_to_failed_read (ap (λ x. Err x) is) (start.known k) in
    let first = start.cut_short k _ here.0 in
    (first.0, inr (reader.version, reader.bound, _, first.1, inl here.1))

pub returns-clause-up_to_failed_read : goal.returns-clause-up_to_failed_read
returns-clause-up_to_failed_read g c =
    λ reported k.
    let reader = c.in-Ok.reader in
    let start = c.in-Ok.ensures in
    let checked = c.in_ok-check_tree.ensures in
    let f = c.in-Err-finish.fault in
    let is : f ≡ read_failed = text_read c.stop_from_text-in-Err-finish.result f c.stop_from_text-in-Err-finish.ensures (cc) in
    let here = c.in-Err-finish.ensures.cut_short checked.sound (checked.known (start.known k)) (ap is_failed_read is) in
    let tree = checked.cut_short (start.known k) _ here.0 in
    let first = start.cut_short k _ tree.0 in (
      first.0,
      inr (
        reader.version,
        reader.bound,
        _,
        first.1,
        inr (record {
          tree = tree.1.tree;
          rest = _;
          reads = tree.1.reads refl;
          shallow = tree.1.shallow;
          derives = tree.1.derives;
          fails = here.1 ∙ ap (λ x. Err x) is;
        }),
      ),
    )

pub returns-in-Err-clause-lower : goal.returns-in-Err-clause-lower
returns-in-Err-clause-lower g c = text_lower c.stop_from_text.result c.in-Err.fault c.stop_from_text.ensures

pub returns-clause-lower : goal.returns-clause-lower
returns-clause-lower g c =
    text_lower c.stop_from_text-in-Err-finish.result c.in-Err-finish.fault c.stop_from_text-in-Err-finish.ensures

pub returns-in-Err-clause-failed : goal.returns-in-Err-clause-failed
returns-in-Err-clause-failed g c =
    text_failed c.stop_from_text.result c.in-Err.fault _ _ _ c.stop_from_text.ensures c.in-Err.ensures.failed refl

pub returns-in_err-check_tree-clause-failed : goal.returns-in_err-check_tree-clause-failed
returns-in_err-check_tree-clause-failed g c =
    passed_reads c.from_residual.result c.in_err-check_tree.field-0.0 _ _ _
    c.from_residual.ensures.1 c.in_err-check_tree.ensures.failed c.in-Ok.ensures.failed

pub returns-clause-failed : goal.returns-clause-failed
returns-clause-failed g c =
    let checked = c.in_ok-check_tree.ensures in
    text_failed c.stop_from_text-in-Err-finish.result c.in-Err-finish.fault _ _ _ c.stop_from_text-in-Err-finish.ensures
    (c.in-Err-finish.ensures.failed checked.sound)
    (checked.failed ∙ c.in-Ok.ensures.failed)
