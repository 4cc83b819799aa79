use Rattle.std.proofs.Common.{◌≡◌, ◌+◌, ◌≤◌, length, sym, ap, subst, ◌∙◌, arith, refl, true, Err, is_some}
use Rattle.tt_text.specs.Feeds.{stream_at}
use Rattle.tt_text.specs.CutShort.{cut_at}
use Rattle.tt_instance.specs.Problem.{Problem}
use Rattle.tt_proof_read.specs.Faults.{read_failed, is_failed_read}
use Rattle.tt_proof_read.specs.Readers.{Reader}
use Rattle.tt_text.specs.declared.stop.Stop.TheVariants.{ReadFailed}
use Rattle.tt_text.proofs.Stops.{OnFault-weaker}
use Rattle.tt_proof_check.specs.declared.fault.CheckFault.TheVariants.{Text}
use Rattle.tt_proof_check.specs.declared.walk.NodeStop.TheVariants.{Rule, TooDeep}
use Rattle.tt_proof_check.specs.Visited.{Visited, Unvisited}
use Rattle.tt_proof_check.specs.Inner.CheckedPart.{ExplainsNodes, ExplainsChild}
use Rattle.tt_proof_check.specs.Nodes.{IsNodeOf}
use Rattle.tt_proof_check.proofs.Nodes.{node_numbers}
use Rattle.tt_proof_check.proofs.Streaming.{sofar_start, sofar_next, sofar_wrong, sofar_deep, sofar_end, sofar_fails, sofar_unread, visited_push}
use Rattle.tt_proof_check.proofs.TextFaults.{text_reported, text_lower, text_read, text_failed}
use Rattle.tt_proof_check.proofs.Walking.{walked_root, steps_as, stops_as}
use Rattle.tt_proof_check.proofs.stream.check_tree.Goals as goal

pub loop-node-init : goal.loop-node-init
loop-node-init g c =
    let r = c.requires in
    let p = g.P.Path.problem c.args.path.now in
    let root = g.P.Path.facts c.args.path.now in
    let reader = c.args.reader.now in
    let bytes = g.R.Source.remaining c.args.source.now in
    let within : length root ≤ 65536 = omega (arith, c.depth-root.ensures.value, c.depth-root.ensures.within) in
    record {
      sofar = sofar_start p root reader.bound (is_some bytes) (Visited g.L.NodeVisitor.visits 0 c.args.visitor.now c.args.visitor.now)
          (stream_at reader.fed bytes) reader within r.unread r.place r.sizes r.sound refl;
      failing = λ k rest m. (
        m,
        sofar_start p root reader.bound true Unvisited (cut_at rest reader.fed bytes) reader within r.unread r.place r.sizes r.sound tt,
      );
      problem = refl;
      count = sym r.unread;
      at_most = omega (arith, r.unread);
      known = λ k. k;
      failed = refl;
    }

pub take-requires : goal.take-requires
take-requires g c = λ κs.
    let e = rw c.in-Ok-Some.field-0-is at c.in-Ok-Some.ensures in
    let inv = c.loop-node.invariant in
    let p = g.P.Path.problem c.args.path.now in
    let root = g.P.Path.facts c.args.path.now in
    let n = c.in-Ok-Some.node in
    let long = walked_root p root c.args.reader.now.bound inv.sofar.nodes (g.P.Path.facts c.loop-node.path) inv.sofar.due
    inv.sofar.walked in (
      (refl, tt),
      (
        subst (λ (q : Problem). IsNodeOf q n) (sym inv.problem)
            (node_numbers p c.loop-node.reader.version n (e.node p inv.sofar.sizes)),
        (omega (arith, c.depth-root.ensures.value, long), inv.sofar.walked.within),
      ),
    )

pub loop-node-preserved : goal.loop-node-preserved
loop-node-preserved g c =
    let e = rw c.in-Ok-Some.field-0-is at c.in-Ok-Some.ensures in
    let inv = c.loop-node.invariant in
    let p = g.P.Path.problem c.args.path.now in
    let root = g.P.Path.facts c.args.path.now in
    let v = c.args.reader.now.version in
    let b = c.args.reader.now.bound in
    let known = is_some (g.R.Source.remaining c.args.source.now) in
    let s = stream_at c.args.reader.now.fed (g.R.Source.remaining c.args.source.now) in
    let old = c.loop-node.reader in
    let t = stream_at old.fed (g.R.Source.remaining c.loop-node.source) in
    let path = g.P.Path.facts c.loop-node.path in
    let new = c.next_node.new.self in
    let u = stream_at new.fed (g.R.Source.remaining c.next_node.new.source) in
    let next = g.P.Path.facts c.take.new.path in
    let n = c.in-Ok-Some.node in
    let goes = e.state inv.sofar.sound in
    let count : old.count + 1 ≡ new.count = ap (λ (r : Reader). r.count) (sym goes.1) in
    let steps = steps_as _ p c.depth-root.result (length root) c.bound-bound.result b path n next inv.problem c.depth-root.ensures.value
    c.bound-bound.ensures c.in-Ok.ensures.steps in
    record {
      sofar = sofar_next p root v b known _ s old t path inv.sofar new u n goes (λ k. e.read inv.sofar.sound (inv.known k)) _
          (λ nodes long visited. visited_push g.L.NodeVisitor.visits 0 c.args.visitor.now c.loop-node.visitor c.visit.new.self
          c.loop-node.count n c.visit.ensures nodes (omega (arith, long, inv.count)) visited) next
          steps c.in-Ok.ensures.within;
      failing = λ k rest m.
          let here = e.cut_short inv.sofar.sound (inv.known k) rest m in
          let first = inv.failing k rest here.0 in (
            first.0,
            sofar_next p root v b true Unvisited _ old _ path first.1 new _ n goes (λ _. here.1) Unvisited (λ nodes long h. tt) next
                steps
                c.in-Ok.ensures.within,
          );
      problem = c.in-Ok.ensures.unchanged ∙ inv.problem;
      count = omega (arith, count, inv.count);
      at_most = omega (arith, count, e.room);
      known = λ k. e.known (inv.known k);
      failed = e.failed inv.sofar.sound ∙ inv.failed;
    }

pub returns-in-Err-clause-fault : goal.returns-in-Err-clause-fault
returns-in-Err-clause-fault g c =
    λ k.
    let e = c.in-Err.ensures in
    let f = c.in-Err.fault in
    let inv = c.loop-node.invariant in
    let p = g.P.Path.problem c.args.path.now in
    let root = g.P.Path.facts c.args.path.now in
    let v = c.args.reader.now.version in
    let b = c.args.reader.now.bound in
    let known = is_some (g.R.Source.remaining c.args.source.now) in
    let s = stream_at c.args.reader.now.fed (g.R.Source.remaining c.args.source.now) in
    let old = c.loop-node.reader in
    let t = stream_at old.fed (g.R.Source.remaining c.loop-node.source) in
    let path = g.P.Path.facts c.loop-node.path in
    let new = c.next_node.new.self in
    let u = stream_at new.fed (g.R.Source.remaining c.next_node.new.source) in
    text_reported c.stop_from_text.result f (ExplainsNodes p root v b s) c.stop_from_text.ensures
    (sofar_unread p root v b known _ s old t path inv.sofar new u f (e.state inv.sofar.sound) k (e.read inv.sofar.sound (inv.known k)))

pub returns-in-Err-Rule-clause-fault : goal.returns-in-Err-Rule-clause-fault
returns-in-Err-Rule-clause-fault g c =
    λ k.
    let e = rw c.in-Ok-Some.field-0-is at c.in-Ok-Some.ensures in
    let taken = rw c.in-Err-Rule.field-0-is at c.in-Err-Rule.ensures in
    let f = c.in-Err-Rule.fault in
    let n = c.in-Ok-Some.node in
    let inv = c.loop-node.invariant in
    let p = g.P.Path.problem c.args.path.now in
    let root = g.P.Path.facts c.args.path.now in
    let v = c.args.reader.now.version in
    let b = c.args.reader.now.bound in
    let known = is_some (g.R.Source.remaining c.args.source.now) in
    let s = stream_at c.args.reader.now.fed (g.R.Source.remaining c.args.source.now) in
    let old = c.loop-node.reader in
    let t = stream_at old.fed (g.R.Source.remaining c.loop-node.source) in
    let path = g.P.Path.facts c.loop-node.path in
    let new = c.next_node.new.self in
    let u = stream_at new.fed (g.R.Source.remaining c.next_node.new.source) in
    rw c.in-Err-Rule.field-0-is (sofar_wrong p root v b known _ s old t path inv.sofar new u n (e.state inv.sofar.sound)
    (λ j. e.read inv.sofar.sound (inv.known j)) c.loop-node.count f inv.count
    (stops_as _ p c.bound-bound.result b path n (Rule f) inv.problem c.bound-bound.ensures taken.stops) k)

pub returns-in-Err-TooDeep-clause-known : goal.returns-in-Err-TooDeep-clause-known
returns-in-Err-TooDeep-clause-known g c =
    let e = rw c.in-Ok-Some.field-0-is at c.in-Ok-Some.ensures in
    λ k. c.deep_fault.ensures.known (e.known (c.loop-node.invariant.known k))

pub returns-in-Err-TooDeep-clause-fault : goal.returns-in-Err-TooDeep-clause-fault
returns-in-Err-TooDeep-clause-fault g c =
    λ k.
    let e = rw c.in-Ok-Some.field-0-is at c.in-Ok-Some.ensures in
    let taken = rw c.in-Err-TooDeep.field-0-is at c.in-Err-TooDeep.ensures in
    let n = c.in-Ok-Some.node in
    let inv = c.loop-node.invariant in
    let p = g.P.Path.problem c.args.path.now in
    let root = g.P.Path.facts c.args.path.now in
    let v = c.args.reader.now.version in
    let b = c.args.reader.now.bound in
    let known = is_some (g.R.Source.remaining c.args.source.now) in
    let s = stream_at c.args.reader.now.fed (g.R.Source.remaining c.args.source.now) in
    let old = c.loop-node.reader in
    let t = stream_at old.fed (g.R.Source.remaining c.loop-node.source) in
    let path = g.P.Path.facts c.loop-node.path in
    let new = c.next_node.new.self in
    let u = stream_at new.fed (g.R.Source.remaining c.next_node.new.source) in
    OnFault-weaker c.deep_fault.result (ExplainsChild new.sizes new.version new.count u (c.loop-node.count + 1))
    (ExplainsNodes p root v b s)
    (λ f. sofar_deep p root v b known _ s old t path inv.sofar new u n (e.state inv.sofar.sound)
    (λ j. e.read inv.sofar.sound (inv.known j)) c.loop-node.count f inv.count
    (stops_as _ p c.bound-bound.result b path n TooDeep inv.problem c.bound-bound.ensures taken.stops) k)
    (c.deep_fault.ensures.fault (e.known (inv.known k)))

pub returns-in-Ok-None-clause-checked : goal.returns-in-Ok-None-clause-checked
returns-in-Ok-None-clause-checked g c =
    let e = rw c.in-Ok-None.field-0-is at c.in-Ok-None.ensures in
    let inv = c.loop-node.invariant in
    let p = g.P.Path.problem c.args.path.now in
    let root = g.P.Path.facts c.args.path.now in
    let v = c.args.reader.now.version in
    let b = c.args.reader.now.bound in
    let known = is_some (g.R.Source.remaining c.args.source.now) in
    let s = stream_at c.args.reader.now.fed (g.R.Source.remaining c.args.source.now) in
    let old = c.loop-node.reader in
    let t = stream_at old.fed (g.R.Source.remaining c.loop-node.source) in
    let path = g.P.Path.facts c.loop-node.path in
    let new = c.next_node.new.self in
    let u = stream_at new.fed (g.R.Source.remaining c.next_node.new.source) in
    sofar_end p root v b known _ s old t path inv.sofar new u (e.state inv.sofar.sound) (λ k. e.read inv.sofar.sound (inv.known k))

pub returns-in-Err-clause-up_to_failed_read : goal.returns-in-Err-clause-up_to_failed_read
returns-in-Err-clause-up_to_failed_read g c =
    λ reported k.
    let e = c.in-Err.ensures in
    let f = c.in-Err.fault in
    let inv = c.loop-node.invariant in
    let old = c.loop-node.reader in
    let path = g.P.Path.facts c.loop-node.path in
    let is : f ≡ read_failed = text_read c.stop_from_text.result f c.stop_from_text.ensures (cc) in
    let here = e.cut_short inv.sofar.sound (inv.known k) (ap is_failed_read is) in
    let first = inv.failing k _ here.0 in (
      first.0,
      sofar_fails _ _ _ _ true Unvisited _ old _ path first.1 read_failed (e.state inv.sofar.sound).0 refl (here.1 ∙ ap
          (λ x. Err x) is),
    )

pub returns-in-Err-TooDeep-clause-up_to_failed_read : goal.returns-in-Err-TooDeep-clause-up_to_failed_read
returns-in-Err-TooDeep-clause-up_to_failed_read g c =
    λ reported k.
    let e = rw c.in-Ok-Some.field-0-is at c.in-Ok-Some.ensures in
    let taken = rw c.in-Err-TooDeep.field-0-is at c.in-Err-TooDeep.ensures in
    let n = c.in-Ok-Some.node in
    let inv = c.loop-node.invariant in
    let p = g.P.Path.problem c.args.path.now in
    let root = g.P.Path.facts c.args.path.now in
    let b = c.args.reader.now.bound in
    let old = c.loop-node.reader in
    let path = g.P.Path.facts c.loop-node.path in
    let new = c.next_node.new.self in
    let is : c.deep_fault.result ≡ ReadFailed = cc in
    let child = c.deep_fault.ensures.up_to_failed_read is (e.known (inv.known k)) in
    let here = e.cut_short inv.sofar.sound (inv.known k) _ child.0 in
    let first = inv.failing k _ here.0 in (
      first.0,
      sofar_deep p root _ b true Unvisited _ old _ path first.1 new _ n (e.state inv.sofar.sound) (λ _. here.1) old.count
          (Text read_failed) refl
          (stops_as _ p c.bound-bound.result b path n TooDeep inv.problem c.bound-bound.ensures taken.stops) refl child.1,
    )

pub returns-in-Ok-None-clause-cut_short : goal.returns-in-Ok-None-clause-cut_short
returns-in-Ok-None-clause-cut_short g c =
    λ k rest m.
    let e = rw c.in-Ok-None.field-0-is at c.in-Ok-None.ensures in
    let inv = c.loop-node.invariant in
    let old = c.loop-node.reader in
    let path = g.P.Path.facts c.loop-node.path in
    let new = c.next_node.new.self in
    let here = e.cut_short inv.sofar.sound (inv.known k) rest m in
    let first = inv.failing k rest here.0 in
    (first.0, sofar_end _ _ _ _ true Unvisited _ old _ path first.1 new _ (e.state inv.sofar.sound) (λ _. here.1))

pub returns-in-Err-clause-lower : goal.returns-in-Err-clause-lower
returns-in-Err-clause-lower g c = text_lower c.stop_from_text.result c.in-Err.fault c.stop_from_text.ensures

pub returns-in-Err-clause-failed : goal.returns-in-Err-clause-failed
returns-in-Err-clause-failed g c =
    let e = c.in-Err.ensures in
    let inv = c.loop-node.invariant in
    text_failed c.stop_from_text.result c.in-Err.fault _ _ _ c.stop_from_text.ensures (e.failed inv.sofar.sound) inv.failed
