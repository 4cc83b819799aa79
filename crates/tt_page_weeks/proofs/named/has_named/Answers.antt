use Rattle.std.proofs.Common.{ℕ, List, sym, ap, ◌∙◌, arith}
use Rattle.tt_list_laws.proofs.Below.{any_stops, any_more}
use Rattle.tt_text.specs.Texts.{is_text}
use Rattle.tt_table.specs.Kinds.{count_of, name_of}
use Rattle.tt_page_weeks.proofs.named.has_named.Goals as goal

pub returns-then-eq : goal.returns-then-eq
returns-then-eq c =
    let p = c.args.instance.now in
    let name = c.args.name.now in
    any_stops (λ n. is_text (name_of p c.args.kind n) name) (count_of p c.args.kind) c.loop-number.number
    (omega (arith, c.loop-number-test.true, c.count-number-end.ensures))
    (sym (ap (λ (w : List ℕ). is_text w name) (sym c.name.ensures) ∙ sym c.eq.ensures ∙ c.if-eq.true))

pub loop-number-preserved : goal.loop-number-preserved
loop-number-preserved c =
    let p = c.args.instance.now in
    let name = c.args.name.now in
    any_more (λ n. is_text (name_of p c.args.kind n) name) c.loop-number.number c.loop-number.invariant
    (ap (λ (w : List ℕ). is_text w name) (sym c.name.ensures) ∙ sym c.eq.ensures ∙ c.if-eq.false)
