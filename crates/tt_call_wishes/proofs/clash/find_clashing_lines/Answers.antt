use Rattle.std.proofs.Common.{◌<◌, List, refl, subst}
use Rattle.std.proofs.lemmas.Result.{err_from_is_err_and}
use Rattle.tt_wishes.specs.Wishes.{broken_wishes}
use Rattle.tt_wishes.specs.declared.wish.Wish.{Wish}
use Rattle.tt_call_wishes.proofs.ClashRefused.{tells_wishes}
use Rattle.tt_call_wishes.proofs.clash.find_clashing_lines.Goals as goal

pub returns-in_err-listed-clause-fault : goal.returns-in_err-listed-clause-fault
returns-in_err-listed-clause-fault c =
    let e = err_from_is_err_and c.from_residual-in_err-listed.result c.from_residual-in_err-listed.ensures.1 in
    rw (e.1, e.2)
    (tells_wishes c.args.instance.now c.args.wishes.now c.in_ok-instance.instance c.in_err-listed.field-0.0
    c.in_ok-instance.ensures.found c.in_err-listed.ensures.exact)

pub returns-clause-unkept : goal.returns-clause-unkept
returns-clause-unkept c = λ some.
    let read = c.in_ok-listed in
    record {
      problem = c.in_ok-instance.instance;
      listed = read.listed.items;
      spelled = c.in_ok-instance.ensures.found;
      wished = read.ensures.found;
      broken = λ t feasible. subst (λ (ws : List Wish). 0 < broken_wishes t ws) c.deref.ensures.value
          (c.in-Some.ensures.broken refl t feasible);
    }
