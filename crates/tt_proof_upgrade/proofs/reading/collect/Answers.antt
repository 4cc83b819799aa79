use Rattle.std.proofs.Common.{◌≡◌, ◌+◌, ◌∙◌, true, Err, arith, ap, sym, is_some, refl}
use Rattle.std.proofs.lemmas.Result.{err_from_is_err_and}
use Rattle.tt_text.specs.Feeds.{stream_at}
use Rattle.tt_text.specs.CutShort.{cut_at}
use Rattle.tt_proof_read.specs.Faults.{read_failed, is_failed_read}
use Rattle.tt_proof_read.specs.Readers.{Reader}
use Rattle.tt_proof_check.proofs.TextFaults.{told, err_same, same_reads}
use Rattle.tt_proof_upgrade.proofs.Collected.{collected_start, collected_next, collected_end, collected_breaks}
use Rattle.tt_proof_upgrade.proofs.reading.collect.Goals as goal

pub loop-nodes-init : goal.loop-nodes-init
loop-nodes-init g c =
    let r = c.requires in
    record {
      sofar = rw c.new-nodes.ensures.items (collected_start (is_some (g.R.Source.remaining c.args.source.now))
          (stream_at c.args.reader.now.fed (g.R.Source.remaining c.args.source.now)) c.args.reader.now r.unread r.place r.sound);
      failing = λ k rest m. (
        m,
        rw c.new-nodes.ensures.items
            (collected_start true (cut_at rest c.args.reader.now.fed (g.R.Source.remaining c.args.source.now)) c.args.reader.now
            r.unread r.place r.sound),
      );
      at_most = omega (arith, r.unread);
      known = λ k. k;
      failed = refl;
    }

pub returns-in_err-node-clause-fault : goal.returns-in_err-node-clause-fault
returns-in_err-node-clause-fault g c =
    λ k.
    let e = err_from_is_err_and c.from_residual.result c.from_residual.ensures.1 in
    let h = c.in_err-node.ensures in
    let inv = c.loop-nodes.invariant in
    let old = c.loop-nodes.reader in
    rw (e.1, e.2) (λ n. collected_breaks c.args.reader.now.sizes c.args.reader.now.version
    (is_some (g.R.Source.remaining c.args.source.now)) (stream_at c.args.reader.now.fed (g.R.Source.remaining c.args.source.now))
    old (stream_at old.fed (g.R.Source.remaining c.loop-nodes.source)) c.loop-nodes.nodes.items inv.sofar c.in_err-node.field-0.0
    (h.state inv.sofar.sound).0 k (told c.in_err-node.field-0.0 _ n (h.read inv.sofar.sound (inv.known k))))

pub loop-nodes-preserved : goal.loop-nodes-preserved
loop-nodes-preserved g c =
    let e = rw c.in-Some.is at c.in_ok-node.ensures in
    let inv = c.loop-nodes.invariant in
    let old = c.loop-nodes.reader in
    let new = c.next_node.new.self in
    let goes = e.state inv.sofar.sound in
    let count : old.count + 1 ≡ new.count = ap (λ (r : Reader). r.count) (sym goes.1) in
    record {
      sofar = rw c.in_ok-push.ensures.items
          (collected_next c.args.reader.now.sizes c.args.reader.now.version (is_some (g.R.Source.remaining c.args.source.now))
          (stream_at c.args.reader.now.fed (g.R.Source.remaining c.args.source.now))
          old (stream_at old.fed (g.R.Source.remaining c.loop-nodes.source)) c.loop-nodes.nodes.items inv.sofar new
          (stream_at new.fed (g.R.Source.remaining c.next_node.new.source)) c.in-Some.node goes
          (λ k. e.read inv.sofar.sound (inv.known k)) e.node);
      failing = λ k rest m.
          let here = e.cut_short inv.sofar.sound (inv.known k) rest m in
          let first = inv.failing k rest here.0 in (
            first.0,
            rw c.in_ok-push.ensures.items
                (collected_next c.args.reader.now.sizes c.args.reader.now.version true _ old _ c.loop-nodes.nodes.items first.1 new _
                c.in-Some.node goes (λ _. here.1) e.node),
          );
      at_most = omega (arith, count, e.room);
      known = λ k. e.known (inv.known k);
      failed = e.failed inv.sofar.sound ∙ inv.failed;
    }

pub returns-in_err-push-clause-fault : goal.returns-in_err-push-clause-fault
returns-in_err-push-clause-fault g c =
    λ k.
    let e = err_from_is_err_and c.from_residual-in_err-push.result c.from_residual-in_err-push.ensures.1 in
    rw (e.1, e.2) (λ n. absurd cc)

pub returns-clause-collected : goal.returns-clause-collected
returns-clause-collected g c =
    let e = rw c.in_default.is at c.in_ok-node.ensures in
    let inv = c.loop-nodes.invariant in
    let old = c.loop-nodes.reader in
    let new = c.next_node.new.self in
    let goes = e.state inv.sofar.sound in
    collected_end c.args.reader.now.sizes c.args.reader.now.version (is_some (g.R.Source.remaining c.args.source.now))
    (stream_at c.args.reader.now.fed (g.R.Source.remaining c.args.source.now))
    old (stream_at old.fed (g.R.Source.remaining c.loop-nodes.source)) c.loop-nodes.nodes.items inv.sofar
    (stream_at new.fed (g.R.Source.remaining c.next_node.new.source)) goes.0
    (λ k. e.read inv.sofar.sound (inv.known k))

pub returns-clause-cut_short : goal.returns-clause-cut_short
returns-clause-cut_short g c =
    λ k rest m.
    let e = rw c.in_default.is at c.in_ok-node.ensures in
    let inv = c.loop-nodes.invariant in
    let here = e.cut_short inv.sofar.sound (inv.known k) rest m in
    let first = inv.failing k rest here.0 in
    (first.0, collected_end _ _ true _ c.loop-nodes.reader _ c.loop-nodes.nodes.items first.1 _ (e.state inv.sofar.sound).0 (λ _. here.1))

pub returns-in_err-node-clause-up_to_failed_read : goal.returns-in_err-node-clause-up_to_failed_read
returns-in_err-node-clause-up_to_failed_read g c =
    λ reported k.
    let e = c.in_err-node.ensures in
    let inv = c.loop-nodes.invariant in
    let is = err_same c.from_residual.result c.in_err-node.field-0.0 read_failed c.from_residual.ensures.1 reported in
    let here = e.cut_short inv.sofar.sound (inv.known k) (ap is_failed_read is) in
    let first = inv.failing k _ here.0 in (
      first.0,
      collected_breaks _ _ true _ c.loop-nodes.reader _ c.loop-nodes.nodes.items first.1 read_failed (e.state inv.sofar.sound).0 refl
          (here.1 ∙ ap (λ x. Err x) is),
    )

pub returns-in_err-node-clause-failed : goal.returns-in_err-node-clause-failed
returns-in_err-node-clause-failed g c =
    let e = c.in_err-node.ensures in
    let f = c.in_err-node.field-0.0 in
    let inv = c.loop-nodes.invariant in
    same_reads c.from_residual.result f is_failed_read _ _ _ c.from_residual.ensures.1 (e.failed inv.sofar.sound) inv.failed
