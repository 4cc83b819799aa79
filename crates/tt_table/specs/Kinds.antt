-- The kinds of weeks: those of all rooms, of all teachers and of all curricula.
use Rattle.std.specs.Prelude.{ℕ, List, [], length, codes, slice_index_or}
use Rattle.tt_instance.specs.Problem.{Problem}
use Rattle.tt_instance.specs.Courses.{no_room, no_curriculum, teachers}
use Rattle.tt_table.specs.declared.kind.Kind.{Kind}
use Rattle.tt_table.specs.declared.kind.Kind.TheVariants.{Room, Teacher, Curriculum}

-- The number of weeks of a kind.
abbrev pub count_of : Problem → Kind → ℕ
count_of p Room = length p.rooms
count_of p Teacher = length (teachers p)
count_of p Curriculum = length p.curricula

-- The name of the room, teacher or curriculum of a week, by number.
abbrev pub name_of : Problem → Kind → ℕ → List ℕ
name_of p Room r = (slice_index_or p.rooms r no_room).id
name_of p Teacher k = slice_index_or (teachers p) k []
name_of p Curriculum q = (slice_index_or p.curricula q no_curriculum).id

-- The word for a room, a teacher or a curriculum.
abbrev pub word_of : Kind → List ℕ
word_of Room = codes "room"
word_of Teacher = codes "teacher"
word_of Curriculum = codes "curriculum"
