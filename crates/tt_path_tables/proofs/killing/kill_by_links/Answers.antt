use Rattle.std.proofs.Common.{◌≡◌, length, sym, ◌∙◌, subst, arith}
use Rattle.tt_path_tables.specs.Inner.Tables.{Loses}
use Rattle.tt_path_tables.specs.Inner.Struck.{is_struck}
use Rattle.tt_path_tables.proofs.Linked.{list_of_one}
use Rattle.tt_path_tables.proofs.killing.kill_by_links.Goals as goal

pub kill_one-requires-clause-one : goal.kill_one-requires-clause-one
kill_one-requires-clause-one c =
    let ks = c.args.demand.now.courses.now in
    let one : length ks ≡ 1 = omega arith in
    sym c.requires.demand.courses ∙ list_of_one ks one

pub returns-then-courses-clause-ok : goal.returns-then-courses-clause-ok
returns-then-courses-clause-ok c =
    let a = c.args in
    let basis = a.basis.now in
    let demand = a.demand.now in
    let p = basis.instance.now in
    let ks = demand.courses.now in
    let one : length ks ≡ 1 = omega arith in
    let struck = is_struck p basis.free.now.words demand.pattern.now a.slot.day a.slot.period in
    subst (λ l. Loses p a.live.now.words (struck l) c.kill_one.new.live.words)
    (sym (list_of_one ks one)) c.in_ok-kill_one.ensures.ok
