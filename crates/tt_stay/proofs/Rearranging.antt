-- Laws of timetables whose entries are those of another one.
use Rattle.std.proofs.Common.{◌≡◌, List, map, refl, sym, subst, ◌∙◌}
use Rattle.tt_instance.specs.Problem.{Problem}
use Rattle.tt_instance.specs.declared.cell.Cell.{Cell}
use Rattle.tt_table.specs.Table.{IsTimetable}
use Rattle.tt_stay.specs.Rearranged.{IsRearranged}

-- a timetable's entries are its own
pub rearranged_self : (p : Problem) (t u : List Cell) → u ≡ t → IsTimetable p t → IsRearranged p t u
rearranged_self p t u is ok = record {
  in_range = subst (IsTimetable p) (sym is) ok;
  courses = subst (λ z. map (λ (e : Cell). e.course) z ≡ map (λ (e : Cell). e.course) t) (sym is) refl;
}

-- the same of another timetable with the same courses
pub rearranged_on : (p q : Problem) (s t u : List Cell) → q ≡ p → map (λ (e : Cell). e.course) t ≡ map (λ (e : Cell). e.course) s
    → IsRearranged p s u → IsRearranged q t u
rearranged_on p q s t u same courses is = record {
  in_range = subst (λ z. IsTimetable z u) (sym same) is.in_range;
  courses = is.courses ∙ sym courses;
}

-- from a timetable to a second one, and from there to a third
pub rearranged_then : (p : Problem) (t u v : List Cell) → IsRearranged p t u → IsRearranged p u v → IsRearranged p t v
rearranged_then p t u v first then = record { in_range = then.in_range; courses = then.courses ∙ first.courses }
