use Rattle.std.proofs.lemmas.Result.{err_from_is_err_and}
use Rattle.tt_call_wishes.proofs.Refused.{tells_instance, tells_solution, tells_wishes}
use Rattle.tt_call_wishes.proofs.improving.improve_under_wishes.Goals as goal

pub returns-in_err-instance-clause-fault : goal.returns-in_err-instance-clause-fault
returns-in_err-instance-clause-fault g c =
    let e = err_from_is_err_and c.from_residual.result c.from_residual.ensures.1 in
    rw (e.1, e.2)
    (tells_instance c.args.files.instance.now c.args.files.solution.now c.args.files.wishes.now c.in_err-instance.field-0.0
    c.in_err-instance.ensures.exact)

pub returns-in_err-older-clause-fault : goal.returns-in_err-older-clause-fault
returns-in_err-older-clause-fault g c =
    let e = err_from_is_err_and c.from_residual-in_err-older.result c.from_residual-in_err-older.ensures.1 in
    rw (e.1, e.2)
    (tells_solution c.args.files.instance.now c.args.files.solution.now c.args.files.wishes.now c.in_ok-instance.instance
    c.in_err-older.field-0.0 c.in_ok-instance.ensures.found c.in_err-older.ensures.exact)

pub returns-in_err-wishes-clause-fault : goal.returns-in_err-wishes-clause-fault
returns-in_err-wishes-clause-fault g c =
    let e = err_from_is_err_and c.from_residual-in_err-wishes.result c.from_residual-in_err-wishes.ensures.1 in
    rw (e.1, e.2)
    (tells_wishes c.args.files.instance.now c.args.files.solution.now c.args.files.wishes.now c.in_ok-instance.instance c.in_ok-older.older
    c.in_err-wishes.field-0.0 (record { spelled = c.in_ok-instance.ensures.found; solved = c.in_ok-older.ensures.found })
    c.in_err-wishes.ensures.exact)
