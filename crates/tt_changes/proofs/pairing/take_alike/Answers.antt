use Rattle.std.proofs.Common.{◌≡◌, ◌<◌, ◌≤◌, false, length, All, subst, sym, ◌∙◌, rules}
use Rattle.tt_list_laws.proofs.Beginnings.{All_more, All_done}
use Rattle.tt_changes.specs.Inner.Pairings.{are_alike}
use Rattle.tt_changes.proofs.Pairs.{entry_taken}
use Rattle.tt_changes.proofs.pairing.take_alike.Goals as goal

pub loop-index-preserved : goal.loop-index-preserved
loop-index-preserved c =
    let less : c.loop-index.index < length c.loop-index.newer.items = search rules in
    record {
      same = c.loop-index.invariant.same;
      passed = All_more (λ e. are_alike c.args.likeness c.args.older.now e ≡ false) c.loop-index.newer.items c.loop-index.index
          c.index.result.now c.index.result.now less c.index.ensures c.loop-index.invariant.passed (sym c.holds.ensures ∙ c.if-holds.false);
    }

pub returns-then-holds-clause-taken : goal.returns-then-holds-clause-taken
returns-then-holds-clause-taken c =
    let less : c.loop-index.index < length c.loop-index.newer.items = search rules in
    entry_taken c.args.newer.now.items c.loop-index.newer.items c.remove.new.self.items c.loop-index.index c.remove.result
    c.loop-index.invariant.same less c.remove.ensures.value c.remove.ensures.items

pub returns-clause-none : goal.returns-clause-none
returns-clause-none c =
    let all : length c.loop-index.newer.items ≤ c.loop-index.index = search rules in
    subst (All (λ e. are_alike c.args.likeness c.args.older.now e ≡ false)) c.loop-index.invariant.same
    (All_done (λ e. are_alike c.args.likeness c.args.older.now e ≡ false) c.loop-index.newer.items c.loop-index.index all
    c.loop-index.invariant.passed)
