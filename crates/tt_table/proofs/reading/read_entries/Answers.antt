use Rattle.std.proofs.Common.{◌≡◌, ◌-◌, ◌+◌, suc, length, ◌∙◌, sym, ap, [], ◌∷◌, refl, arith, ℕ}
use Rattle.std.proofs.lemmas.Result.{err_from_is_err_and}
use Rattle.std.proofs.lemmas.List.{length-append}
use Rattle.tt_table.specs.Reading.{is_environmental, entries_at, solution_of}
use Rattle.tt_text.proofs.Steps.{fails_as}
use Rattle.tt_table.proofs.Loops.{entries_none, entries_step, entries_full, entries_fail}
use Rattle.tt_table.proofs.reading.read_entries.Goals as goal

pub loop-first-init : goal.loop-first-init
unfolding solution_of
loop-first-init c = record { read = rw (c.new-table.ensures, c.new-tokens.ensures) refl; within = rw c.new-table.ensures (omega arith) }

pub returns-then-len-eq-MAX_ENTRIES : goal.returns-then-len-eq-MAX_ENTRIES
returns-then-len-eq-MAX_ENTRIES c =
    let none : 16384 - length c.loop-first.table ≡ 0 = omega (arith, c.if-len-eq-MAX_ENTRIES.true, c.len.ensures.len) in
    sym c.loop-first.invariant.read ∙ entries_full _ _ _ _ _ _ _ none c.in-Some.ensures.gives

pub returns-in_err-entry : goal.returns-in_err-entry
returns-in_err-entry c =
    let p = err_from_is_err_and c.from_residual.result c.from_residual.ensures.1 in
    let more : 16384 - length c.loop-first.table ≡ suc (16384 - (length c.loop-first.table + 1)) =
    omega (arith, c.if-len-eq-MAX_ENTRIES.false, c.len.ensures.len, c.loop-first.invariant.within) in
    rw (p.1, p.2) (fails_as is_environmental c.in_err-entry.field-0.0 _ _ c.loop-first.invariant.read
    (entries_fail c.in_err-entry.field-0.0 _ _ _ _ _ _ _ _ more c.in-Some.ensures.gives c.in_err-entry.ensures))

pub loop-first-preserved : goal.loop-first-preserved
loop-first-preserved c =
    let entry = c.in_ok-entry.entry in
    let longer : length c.push.new.self ≡ length c.loop-first.table + 1 = ap length c.in-Ok.ensures.ok
    ∙ length-append c.loop-first.table (entry ∷ []) in
    let less : 16384 - length c.push.new.self ≡ 16384 - (length c.loop-first.table + 1) = ap (λ n. 16384 - n) longer in
    let more : 16384 - length c.loop-first.table ≡ suc (16384 - (length c.loop-first.table + 1)) =
    omega (arith, c.if-len-eq-MAX_ENTRIES.false, c.len.ensures.len, c.loop-first.invariant.within) in
    let step = entries_step (length c.args.bytes.now) c.args.named.now (16384 - (length c.loop-first.table + 1)) c.loop-first.table _
    _ c.loop-first.tokens c.read_entry.new.tokens entry c.in-Some.ensures.gives c.in_ok-entry.ensures in
    let old : entries_at (length c.args.bytes.now) c.args.named.now
    (suc (16384 - (length c.loop-first.table + 1))) c.loop-first.table c.loop-first.tokens
    ≡ solution_of c.args.named.now c.args.bytes.now =
    ap (λ (n : ℕ). entries_at (length c.args.bytes.now) c.args.named.now n c.loop-first.table c.loop-first.tokens) (sym more)
    ∙ c.loop-first.invariant.read in
    record {
      read = rw (less, c.in-Ok.ensures.ok) (sym step ∙ old);
      within = omega (arith, longer, c.if-len-eq-MAX_ENTRIES.false, c.len.ensures.len, c.loop-first.invariant.within);
    }

pub returns : goal.returns
returns c = sym c.loop-first.invariant.read ∙ entries_none _ _ _ _ _ c.in_default.ensures.gives.0
