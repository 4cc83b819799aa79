use Rattle.std.proofs.Common.{◌≡◌, ◌≤◌, ◌+◌, List, ◌++◌, true, not, length, sym, subst, arith}
use Rattle.std.specs.Prelude.{All}
use Rattle.std.proofs.lemmas.List.{length-map}
use Rattle.tt_list_laws.specs.Words.{each_two}
use Rattle.tt_instance.specs.Problem.{Unavailability, Problem}
use Rattle.tt_instance.specs.Barring.{IsUnavailabilityOf, with_unavailabilities}
use Rattle.tt_instance.specs.Limits.{IsInstance, same_unavailability}
use Rattle.tt_instance.specs.Seen.{problem_seen, unavailability_seen, unavailabilities_seen}
use Rattle.tt_instance.specs.Inner.Indexed.{IsBarred}
use Rattle.tt_instance.specs.declared.limit.TheConstants.{MAX_UNAVAILABILITIES}
use Rattle.tt_instance.proofs.MoreBarred.{in_marks, barred_instance, still_excluding}
use Rattle.tt_instance.proofs.instance.Instance.bar.Goals as goal

pub add_rows-requires-clause-inside : goal.add_rows-requires-clause-inside
add_rows-requires-clause-inside c =
    in_marks c.self.inside.parts c.self.invariant.instance c.self.invariant.indexed (unavailabilities_seen c.args.rows.now)
    (subst (λ (p : Problem). All (IsUnavailabilityOf p) (unavailabilities_seen c.args.rows.now)) (sym c.self.view_is) c.requires.inside)

pub invariant_of-result : goal.invariant_of-result
invariant_of-result c =
    let p = problem_seen c.self.inside.parts in
    let bs = unavailabilities_seen c.args.rows.now in
    let indexed = c.self.invariant.indexed in
    let fits = subst (λ (q : Problem). length q.unavailabilities + length c.args.rows.now ≤ MAX_UNAVAILABILITIES) (sym c.self.view_is)
    c.requires.within in
    let whole = barred_instance p bs c.self.invariant.instance (omega (arith, fits, length-map c.args.rows.now unavailability_seen))
    (subst (λ (q : Problem). All (IsUnavailabilityOf q) bs) (sym c.self.view_is) c.requires.inside)
    (subst (λ (q : Problem). each_two (λ a b. not (same_unavailability a b)) (q.unavailabilities ++ bs) ≡ true) (sym c.self.view_is)
    c.requires.once) in
    record {
      instance = subst (λ (us : List Unavailability). IsInstance (with_unavailabilities p us)) (sym c.in_ok-add_rows.ensures.rows) whole;
      indexed = record {
        courses = indexed.courses;
        curricula = indexed.curricula;
        unavailabilities = subst (λ n. IsBarred n c.self.inside.parts.days c.add_rows.new.list) indexed.unavailabilities.len
            c.in_ok-add_rows.ensures.barred;
      };
      excluding = still_excluding p (unavailabilities_seen c.add_rows.new.list.rows.items) c.self.inside.conflicts.items
          c.self.invariant.excluding;
    }
