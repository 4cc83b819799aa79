use Rattle.std.proofs.Common.{◌∙◌, ◌++◌, ◌∷◌, ap, map, List, ℕ, Bor, arith}
use Rattle.std.proofs.lemmas.Result.{IfOk-equal}
use Rattle.std.proofs.lemmas.List.{length-map}
use Rattle.tt_text.specs.Pieces.{Text}
use Rattle.tt_text.specs.Lines.{line_text}
use Rattle.tt_instance_read.specs.declared.fault.Word.TheVariants as word
use Rattle.tt_instance_read.specs.Words.{fixed}
use Rattle.tt_instance.specs.Seen.{name_seen, course_seen, room_seen, curriculum_seen, unavailability_seen, problem_seen}
use Rattle.tt_instance_write.proofs.Texts.{header_done}
use Rattle.tt_instance_write.proofs.writing.put_header.Goals as goal

pub returns : goal.returns
returns c =
    let parts = c.args.parts.now in
    let out : List ℕ = c.args.out.now.items in
    IfOk-equal c.put_count-6.result _ _ _ c.put_count-6.ensures
    (header_done (problem_seen parts) _ _ _ _ out c.put_name.new.out.items c.put_count.new.out.items c.put_count-2.new.out.items
    c.put_count-3.new.out.items c.put_count-4.new.out.items c.put_count-5.new.out.items
    (omega (arith, c.len.ensures, parts.courses.rows.ok.0, length-map parts.courses.rows.items course_seen))
    (omega (arith, c.len-2.ensures, parts.rooms.ok.0, length-map parts.rooms.items room_seen))
    (omega (arith, c.len-3.ensures, parts.curricula.ok.0, length-map parts.curricula.items curriculum_seen))
    (omega (arith, c.len-4.ensures, parts.unavailabilities.rows.ok.0, length-map parts.unavailabilities.rows.items unavailability_seen))
    (c.in_ok-put_name.ensures ∙ ap (λ (ts : List (Bor (List ℕ))). out ++ line_text (fixed word.Name ∷ map Text (name_seen ts)))
    c.deref.ensures.value)
    c.in_ok-put_count.ensures c.in_ok-put_count-2.ensures c.in_ok-put_count-3.ensures c.in_ok-put_count-4.ensures
    c.in_ok-put_count-5.ensures)
