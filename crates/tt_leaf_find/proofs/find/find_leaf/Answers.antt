use Rattle.std.proofs.Common.{rules, Option, Some, None, Result, Ok, Err, subst}
use Rattle.std.specs.Prelude.{IsSome, IsNone, IfOk}
use Rattle.tt_instance.specs.Limits.{IsInstance}
use Rattle.tt_leaf_find.specs.Pinned.{IsOpen}
use Rattle.tt_leaf_find.proofs.Closing.{pinned_closes}
use Rattle.tt_leaf_find.proofs.find.find_leaf.Goals as goal

some_unless : {X : Type 0} (o : Option X) → (IsNone o → ⊥) → IsSome o
some_unless None f = absurd (f (search rules))
some_unless (Some x) f = search rules

ok_unless : {X E : Type 0} (r : Result (Option X) E) (P : Type 0) → (P → ⊥) → IfOk r (λ found. IsNone found → P) → IfOk r IsSome
ok_unless (Ok o) P never f = some_unless o (λ n. never (f n))
ok_unless (Err e) P never f = tt

pub returns-clause-none : goal.returns-clause-none
returns-clause-none g c = search rules

pub returns-clause-pinned : goal.returns-clause-pinned
returns-clause-pinned g c = λ pins holds.
    let p = g.P.Path.problem c.args.path.now in
    let facts = g.P.Path.facts c.args.path.now in
    let ok = subst IsInstance c.instance.ensures c.days.ensures.instance in
    ok_unless c.find_priced.result (IsOpen p facts c.args.bound) (λ none. pinned_closes p facts pins ok c.args.bound holds none)
    (returns-clause-none g c)
