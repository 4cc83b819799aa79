use Rattle.tt_page.specs.Heading.{sizes_text}
use Rattle.tt_page.proofs.heading.put_sizes.Goals as goal

pub returns : goal.returns
unfolding sizes_text
returns c =
    rw (
      ← c.instance-instance.ensures,
      ← c.entries.ensures.value,
      ← c.courses-courses.ensures.value,
      ← c.rooms-rooms.ensures.value,
      ← c.teachers-teachers.ensures.value,
      ← c.curricula-curricula.ensures.value,
      ← c.days-days.ensures.value,
      ← c.periods-periods.ensures.value,
    )
    c.put.ensures
