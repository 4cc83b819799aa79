use Rattle.std.proofs.Common.{refl}
use Rattle.tt_call_texts.proofs.Retold.{retold_given}
use Rattle.tt_call_texts.proofs.calls.inspect_json.inspect_json.Goals as goal

pub returns-clause-status : goal.returns-clause-status
returns-clause-status c =
    retold_given c.args.instance.now c.args.solution c.in_ok-answer.answer _ refl (record { no_table = refl; no_proof = refl })
    c.in_ok-answer.ensures.status
