use Rattle.std.proofs.Common.{ap}
use Rattle.tt_instance.specs.Seen.{courses_seen, rooms_seen, curricula_seen, unavailabilities_seen, problem_seen}
use Rattle.tt_instance_write.proofs.Texts.{sections_done, members_within, unavailabilities_within}
use Rattle.tt_instance_write.proofs.writing.write_parts.Goals as goal

pub put_curricula-requires : goal.put_curricula-requires
put_curricula-requires c = members_within c.args.parts.now c.deref-3.result.now c.deref-3.ensures.value c.requires c.deref-4.result.now
    c.deref-4.ensures.value

pub put_unavailabilities-requires : goal.put_unavailabilities-requires
put_unavailabilities-requires c = unavailabilities_within c.args.parts.now c.deref-5.result.now c.deref-5.ensures.value c.requires
    c.deref-6.result.now c.deref-6.ensures.value

pub returns : goal.returns
returns c =
    sections_done (problem_seen c.args.parts.now) (courses_seen c.deref.result.now) (rooms_seen c.deref-2.result.now)
    (curricula_seen c.deref-4.result.now) (unavailabilities_seen c.deref-6.result.now)
    (courses_seen c.deref-3.result.now) (courses_seen c.deref-5.result.now) c.new-out.result.items
    c.put_header.new.out.items c.put_courses.new.out.items c.put_rooms.new.out.items c.put_curricula.new.out.items
    c.put_unavailabilities.new.out.items c.put_section.new.out.items
    (ap courses_seen c.deref.ensures.value) (ap rooms_seen c.deref-2.ensures.value) (ap courses_seen c.deref-3.ensures.value)
    (ap curricula_seen c.deref-4.ensures.value)
    (ap courses_seen c.deref-5.ensures.value) (ap unavailabilities_seen c.deref-6.ensures.value) c.new-out.ensures.items
    c.in_ok-put_header.ensures
    c.in_ok-put_courses.ensures c.in_ok-put_rooms.ensures c.in_ok-put_curricula.ensures c.in_ok-put_unavailabilities.ensures
    c.in_ok-put_section.ensures
