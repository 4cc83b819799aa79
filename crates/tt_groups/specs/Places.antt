-- Places of a table of the week: numbers written with digits of several sizes, the least significant first.
use Rattle.std.specs.Prelude.{ℕ, ◌+◌, ◌-◌, ◌*◌, List, [], ◌∷◌, ◌++◌, map}
use Rattle.tt_instance.specs.Problem.{Problem}
use Rattle.tt_instance.specs.Courses.{lectures}
use Rattle.tt_groups.specs.Group.{Group}
use Rattle.tt_groups.specs.Plans.{slack}

-- The weight of a digit is the amount that a unit of it adds to a place; the first digit has the weight m.
abbrev pub weights_from : ℕ → List ℕ → List ℕ
weights_from m [] = []
weights_from m (n ∷ ns) = m ∷ weights_from (m * n) ns

-- The number of places: the product of the sizes.
abbrev pub places : List ℕ → ℕ
places [] = 1
places (n ∷ ns) = n * places ns

-- The place of digits is the sum of the digits, each multiplied by its weight.
abbrev pub place_of : List ℕ → List ℕ → ℕ
place_of [] ds = 0
place_of (w ∷ ws) [] = 0
place_of (w ∷ ws) (d ∷ ds) = d * w + place_of ws ds

-- ---- the digits of a group; cs are the courses that it concerns

-- A lecture digit goes up to the course's lectures, and a digit of further lectures up to the slack.
abbrev pub group_sizes : Problem → Group → List ℕ → List ℕ
group_sizes p g cs = map (λ c. lectures p c + 1) cs ++ map (λ c. slack p c + 1) g.courses

-- The digits are the lectures of all courses, then the further lectures of the group's own courses.
abbrev pub group_digits : Group → List ℕ → (ℕ → ℕ) → (ℕ → ℕ) → List ℕ
group_digits g cs u e = map u cs ++ map e g.courses

-- The amounts that the lectures of a day add to the digits.
abbrev pub group_amounts : Group → List ℕ → (ℕ → ℕ) → List ℕ
group_amounts g cs k = map k cs ++ map (λ c. k c - 1) g.courses
