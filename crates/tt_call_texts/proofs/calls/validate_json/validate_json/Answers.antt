use Rattle.std.specs.Prelude.{option_map}
use Rattle.std.proofs.lemmas.Result.{err_from_is_err_and}
use Rattle.tt_call_texts.proofs.Refused.{tells_solution, tells_wishes}
use Rattle.tt_call_texts.proofs.calls.validate_json.validate_json.Goals as goal

pub returns-in_err-table-clause-fault : goal.returns-in_err-table-clause-fault
returns-in_err-table-clause-fault c =
    let e = err_from_is_err_and c.from_residual-in_err-table.result c.from_residual-in_err-table.ensures.1 in
    rw (e.1, e.2)
    (tells_solution c.args.instance.now c.args.solution.now (option_map (λ w. w.now) c.args.wishes) c.in_ok-instance.instance
    c.in_err-table.field-0.0 c.in_ok-instance.ensures.found c.in_err-table.ensures.exact)

pub returns-in_err-broken-clause-fault : goal.returns-in_err-broken-clause-fault
returns-in_err-broken-clause-fault c =
    let e = err_from_is_err_and c.from_residual-in_err-broken.result c.from_residual-in_err-broken.ensures.1 in
    rw (e.1, e.2)
    (tells_wishes c.args.instance.now c.args.solution.now (option_map (λ w. w.now) c.args.wishes) c.in_ok-instance.instance
    c.in_ok-table.table c.in_err-broken.field-0.0
    (record { spelled = c.in_ok-instance.ensures.found; solved = c.in_ok-table.ensures.found }) c.in_err-broken.ensures.fault)

pub returns-in_err-counts_answer-clause-fault : goal.returns-in_err-counts_answer-clause-fault
returns-in_err-counts_answer-clause-fault c =
    let e = err_from_is_err_and c.from_residual-in_err-counts_answer.result c.from_residual-in_err-counts_answer.ensures.1 in
    rw (e.1, e.2) tt

pub returns-clause-found : goal.returns-clause-found
returns-clause-found c = record {
  problem = c.in_ok-instance.instance;
  table = c.in_ok-table.table;
  score = c.score-score.result;
  broken = c.in_ok-broken.broken;
  both = record { spelled = c.in_ok-instance.ensures.found; solved = c.in_ok-table.ensures.found };
  scored = c.score-score.ensures;
  counted = c.in_ok-broken.ensures.found;
  answer = c.in_ok-counts_answer.ensures;
}
