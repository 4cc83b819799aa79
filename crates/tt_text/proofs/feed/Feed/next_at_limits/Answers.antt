use Rattle.std.proofs.Common.{Bool, true, cond, Ok, Err, Some, None, sym, ap, ◌∙◌, arith, rules}
use Rattle.tt_text.specs.Feeds.{Fed, stream_of}
use Rattle.tt_text.proofs.Giving.{same_then, gives_as, fed_more, fed_token, fed_fault, fed_over}
use Rattle.tt_text.specs.CutShort.{rest_of}
use Rattle.tt_text.specs.Fed.{is_ready}
use Rattle.tt_text.proofs.Cutting.{more_wanted, was_ok, was_err, fed_token_cut, fed_more_cut, fed_cut_off}
use Rattle.tt_text.proofs.feed.Feed.next_at_limits.Goals as goal

pub returns-in-Token-clause-gives : goal.returns-in-Token-clause-gives
returns-in-Token-clause-gives g c =
    gives_as (stream_of c.args.self.now (g.R.Source.remaining c.args.source.now))
    (stream_of c.loop-gap.self (g.R.Source.remaining c.loop-gap.source))
    (stream_of c.take-at.new.self (g.R.Source.remaining c.loop-gap.source))
    (Ok (Some c.take-at.result)) c.take-at.new.self c.loop-gap.invariant.same
    (fed_token c.loop-gap.self c.take-at.new.self c.in-Token.gap c.in-Token.len c.take-at.result
    (g.R.Source.remaining c.loop-gap.source) c.loop-gap.invariant.sound c.in-Token.ensures c.take-at.ensures.at c.take-at.ensures.now)

pub returns-in-Token-clause-forward : goal.returns-in-Token-clause-forward
returns-in-Token-clause-forward g c =
    let passed = ap (λ (v : Fed). v.at) c.take-at.ensures.now in
    omega (arith, passed, c.in-Token.ensures.some, c.in-Token.ensures.below, c.loop-gap.invariant.forward)

pub returns-in-Fault-clause-gives : goal.returns-in-Fault-clause-gives
returns-in-Fault-clause-gives g c =
    gives_as (stream_of c.args.self.now (g.R.Source.remaining c.args.source.now))
    (stream_of c.loop-gap.self (g.R.Source.remaining c.loop-gap.source))
    (stream_of c.fail.new.self (g.R.Source.remaining c.loop-gap.source))
    (Err c.in-Fault.fault) c.fail.new.self c.loop-gap.invariant.same
    (fed_fault c.loop-gap.self c.fail.new.self c.in-Fault.fault (g.R.Source.remaining c.loop-gap.source)
    (g.R.Source.remaining c.loop-gap.source) c.loop-gap.invariant.sound (ap (λ (v : Fed). v.fault) c.fail.ensures) c.in-Fault.ensures)

pub returns-in-Fault-clause-failed : goal.returns-in-Fault-clause-failed
returns-in-Fault-clause-failed g c =
    c.loop-gap.invariant.failed ∙ sym (ap (λ (b : Bool). cond b true (g.R.Source.has_failed c.args.source.now)) c.in-Fault.ensures.unread)

pub returns-in-Over-clause-gives : goal.returns-in-Over-clause-gives
returns-in-Over-clause-gives g c =
    gives_as (stream_of c.args.self.now (g.R.Source.remaining c.args.source.now))
    (stream_of c.loop-gap.self (g.R.Source.remaining c.loop-gap.source))
    (stream_of c.finish.new.self (g.R.Source.remaining c.loop-gap.source)) (Ok None) c.finish.new.self c.loop-gap.invariant.same
    (fed_over c.loop-gap.self c.finish.new.self (g.R.Source.remaining c.loop-gap.source) c.loop-gap.invariant.sound c.in-Over.ensures
    c.finish.ensures)

pub returns-in-Token-clause-cut_short : goal.returns-in-Token-clause-cut_short
returns-in-Token-clause-cut_short g c =
    λ k rest m.
    let inv = c.loop-gap.invariant in
    let known = g.R.Source.remaining c.loop-gap.source in
    let here = fed_token_cut c.loop-gap.self c.take-at.new.self c.in-Token.gap c.in-Token.len c.take-at.result known inv.sound
    c.in-Token.ensures c.take-at.ensures.at c.take-at.ensures.now rest m in
    let before = inv.failing k rest here.0 in
    (before.0, before.1 ∙ here.1)

pub returns-then-is_err-clause-cut_short : goal.returns-then-is_err-clause-cut_short
returns-then-is_err-clause-cut_short g c =
    λ k failure.
    let inv = c.loop-gap.invariant in
    let after = g.R.Source.remaining c.fill.new.source in
    let keeps = was_err c.fill.result _ (sym c.is_err.ensures.value ∙ c.if-is_err.true) c.fill.ensures.unread in
    let here = fed_cut_off c.loop-gap.self c.in-More.gap (g.R.Source.remaining c.loop-gap.source) after
    (inv.known k) inv.sound c.in-More.ensures keeps in
    let before = inv.failing k (rest_of after) here.0 in
    (before.0, before.1 ∙ here.1)

pub loop-gap-preserved : goal.loop-gap-preserved
loop-gap-preserved g c =
    let inv = c.loop-gap.invariant in
    let before = g.R.Source.remaining c.loop-gap.source in
    let after = g.R.Source.remaining c.fill.new.source in
    let filled = was_ok c.fill.result _ (sym c.is_err.ensures.value ∙ c.if-is_err.false) c.fill.ensures.ok in
    record {
      same = same_then _ _ _ inv.same
          (fed_more c.loop-gap.self c.skip.new.self c.fill.new.self c.in-More.gap before after inv.sound c.in-More.ensures
          c.skip.ensures filled);
      known = λ k. c.fill.ensures.known (inv.known k);
      sound = ap (λ (v : Fed). v.fault) filled.now ∙ ap (λ (v : Fed). v.fault) c.skip.ensures ∙ inv.sound;
      failed = search rules;
      failing = λ k rest m.
          let here = fed_more_cut c.loop-gap.self c.skip.new.self c.fill.new.self c.in-More.gap before after
          (inv.known k) inv.sound c.in-More.ensures c.skip.ensures filled rest m in
          let first = inv.failing k rest here.0 in
          (first.0, first.1 ∙ here.1);
      forward = let passed = ap (λ (v : Fed). v.at) filled.now ∙ ap (λ (v : Fed). v.at) c.skip.ensures in
          omega (arith, passed, inv.forward);
      ready = λ r. absurd (more_wanted c.loop-gap.self c.in-More.gap inv.sound c.in-More.ensures (ap is_ready (inv.ready r).0 ∙ r));
    }

pub returns-in-Fault-clause-memory : goal.returns-in-Fault-clause-memory
returns-in-Fault-clause-memory g c = c.in-Fault.ensures.ample
