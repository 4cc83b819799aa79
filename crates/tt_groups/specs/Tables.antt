-- Tables of a group: a lower bound of a day's cost by the lectures of each course on it, and a lower bound of the first days' cost by the
-- lectures and the further lectures on them. No entry is above the truth; an entry below it only makes the bound weaker.
use Rattle.std.specs.Prelude.{◌≡◌, ℕ, ◌+◌, ◌-◌, ◌*◌, ◌<◌, ◌≤◌, min, true, sum_by}
use Rattle.tt_instance.specs.declared.limit.TheConstants.{MISSING_DAY_COST}
use Rattle.tt_instance.specs.Problem.{Problem}
use Rattle.tt_instance.specs.Courses.{lectures}
use Rattle.tt_groups.specs.Group.{Group, concerns}
use Rattle.tt_groups.specs.Plans.{Day, Week, lectures_on, day_cost, IsDay, IsPlan, used, slack, capped, spent}

-- A vector has a number for each course.
abbrev pub Vector : Type 0
Vector = ℕ → ℕ

-- A vector fits if no course that the group concerns has more than its lectures.
abbrev pub Fits : Problem → Group → Vector → Type 0
Fits p g k = (c : ℕ) → concerns p g c ≡ true → k c ≤ lectures p c

-- Whether each day that costs less than b costs at least the entry of its lectures.
pub record IsDayTable (p : Problem) (g : Group) (b d : ℕ) (f : Vector → ℕ) : Type 0 where
  pub low : (day : Day) → IsDay p g d day → Fits p g (lectures_on p day) → day_cost p g day < b → f (lectures_on p day) ≤ day_cost p g day

-- Whether each plan whose first d days have spent less than b has spent at least the entry of its lectures and its further lectures.
pub record IsWeekTable (p : Problem) (g : Group) (b d : ℕ) (v : Vector → Vector → ℕ) : Type 0 where
  pub low : (week : Week) → IsPlan p g week → spent p g week d < b → v (used p week d) (capped p week d) ≤ spent p g week d

-- The overrun is the cost of the lectures k of another day beyond the slack, after e further lectures.
abbrev pub overrun : Problem → Group → Vector → Vector → ℕ
overrun p g e k = sum_by (λ c. MISSING_DAY_COST * ((e c + (k c - 1)) - slack p c)) g.courses

-- Whether, from each entry below b, another day leads to an entry of the next table that is no higher than the sum so far.
pub record Extends (p : Problem) (g : Group) (b : ℕ) (f : Vector → ℕ) (v next : Vector → Vector → ℕ) : Type 0 where
  pub low : (u e k u' e' : Vector) → ((c : ℕ) → u' c ≡ u c + k c) → ((c : ℕ) → e' c ≡ min (e c + (k c - 1)) (slack p c)) → Fits p g u' → ((c : ℕ) → e c ≤ slack p c)
      → v u e + f k + overrun p g e k < b → next u' e' ≤ v u e + f k + overrun p g e k

-- Whether the first table is 0 when there are no lectures yet.
pub record Starts (v : Vector → Vector → ℕ) : Type 0 where
  pub free : (u e : Vector) → ((c : ℕ) → u c ≡ 0) → ((c : ℕ) → e c ≡ 0) → v u e ≡ 0

-- Whether the last table is at least b when each course that the group concerns has all its lectures.
pub record Reaches (p : Problem) (g : Group) (b : ℕ) (v : Vector → Vector → ℕ) : Type 0 where
  pub high : (u e : Vector) → ((c : ℕ) → concerns p g c ≡ true → u c ≡ lectures p c) → ((c : ℕ) → e c ≤ slack p c) → b ≤ v u e
