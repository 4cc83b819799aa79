use Rattle.std.proofs.Common.{◌≡◌, ℕ, ◌<◌, [], length, take, sym, ap, ◌∙◌, subst, arith}
use Rattle.std.proofs.Math.Seq.{take-length}
use Rattle.tt_instance.specs.Problem.{Unavailability}
use Rattle.tt_path_tables.specs.Inner.Tables.{Shows}
use Rattle.tt_path_tables.proofs.FirstTable.{is_open_by, full_table, unavailability_in, unavailability_out, up_to_more}
use Rattle.tt_path_tables.proofs.first.first_table.Goals as goal

abbrev unavailability_of : ℕ → ℕ → ℕ → Unavailability
unavailability_of c d s = record { course = c; day = d; period = s }

pub loop-index-init : goal.loop-index-init
loop-index-init c =
    let p = c.args.instance.now in
    record {
      shows = subst (Shows p (is_open_by [])) (sym (c.new-table.ensures.words ∙ c.in_ok-push.ensures.items))
          (full_table p c.in_ok-words.words.items c.in_ok-words.ensures);
      earlier = c.new-table.ensures.earlier;
    }

pub remove_rooms-requires-clause-table : goal.remove_rooms-requires-clause-table
remove_rooms-requires-clause-table c = c.loop-index.invariant.shows.table

pub loop-index-preserved : goal.loop-index-preserved
loop-index-preserved c =
    let p = c.args.instance.now in
    let i = c.loop-index.index in
    let t = c.unavailability-course.result in
    let b = unavailability_of t.0 t.1 t.2 in
    let words = c.loop-index.table.words in
    let new = c.remove_rooms.new.table.words in
    let h : i < length p.unavailabilities = omega (arith, c.unavailabilities-index-end.ensures.value) in
    record {
      shows = up_to_more p i b new h c.unavailability-course.ensures
          (unavailability_in p (take i p.unavailabilities) b words c.loop-index.invariant.shows new c.in_ok-remove_rooms.ensures.ok);
      earlier = c.remove_rooms.ensures.unchanged ∙ c.loop-index.invariant.earlier;
    }

pub loop-index-preserved-then-course-courses : goal.loop-index-preserved-then-course-courses
loop-index-preserved-then-course-courses c =
    let p = c.args.instance.now in
    let i = c.loop-index.index in
    let t = c.unavailability-course.result in
    let b = unavailability_of t.0 t.1 t.2 in
    let words = c.loop-index.table.words in
    let h : i < length p.unavailabilities = omega (arith, c.unavailabilities-index-end.ensures.value) in
    record {
      shows = up_to_more p i b words h c.unavailability-course.ensures
          (unavailability_out p (take i p.unavailabilities) b words c.loop-index.invariant.shows (λ o.
          let x = o.0 in let y = o.1 in let z = o.2 in
          omega (
            arith,
            c.then-course-courses.either,
            c.courses-courses.ensures.value,
            c.days-days.ensures.value,
            c.periods-periods.ensures.value,
          )));
      earlier = c.loop-index.invariant.earlier;
    }

pub returns-clause-shows : goal.returns-clause-shows
returns-clause-shows c =
    let p = c.args.instance.now in
    let end : c.loop-index.index ≡ length p.unavailabilities = omega (arith, c.unavailabilities-index-end.ensures.value) in
    subst (λ l. Shows p (is_open_by l) c.loop-index.table.words) (ap (λ n. take n p.unavailabilities) end
    ∙ take-length p.unavailabilities) c.loop-index.invariant.shows
