use Rattle.std.proofs.Common.{◌*◌, sym, ap, ◌∙◌}
use Rattle.tt_instance.proofs.Slots.{length-all_slots}
use Rattle.tt_leaf_rules.proofs.slots.slot_count.Goals as goal

pub returns-clause-value : goal.returns-clause-value
returns-clause-value c =
    ap (λ n. n * c.periods.result) c.days.ensures.value ∙ ap (λ n. c.args.instance.now.days * n) c.periods.ensures.value
    ∙ sym (length-all_slots c.args.instance.now)
