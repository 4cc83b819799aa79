-- Words as sets of courses.
use Rattle.std.specs.Prelude.{◌≡◌, ℕ, ◌<◌, true, List, length}
use Rattle.std.specs.Int.{div_ceil}
use Rattle.tt_instance.specs.Inner.Flags.{flag_in}

-- There is a word for every 64 courses, and no bit from the number of courses on.
pub record AreCourseWords (words : List ℕ) (count : ℕ) : Type 0 where
  pub len : length words ≡ div_ceil count 64
  pub below : (k : ℕ) → flag_in words k ≡ true → k < count
