-- Which courses are taught in each slot, and how many more lectures each slot may take. A slot is a period of the week; slots are numbered
-- day by day.
use Rattle.std.specs.Prelude.{◌≡◌, ℕ, ◌+◌, ◌*◌, ◌/◌, ◌%◌, ◌<◌, ◌≤◌, ◌==◌, nat_le, Bool, true, false, not, ◌&&◌, ◌||◌, List, [], length, count_by, slice_index_or, if◌then◌else◌}
use Rattle.tt_instance.specs.Problem.{Problem}
use Rattle.tt_instance.specs.Cells.{all_courses}
use Rattle.tt_instance.specs.Courses.{conflict, unavailable}
use Rattle.tt_plans_slots.specs.Levels.{level}

-- A plan without rooms: for each slot, whether each course is taught in it, and its spare for each level.
pub record Teaching : Type 0 where
  pub problem : Problem
  pub rows : List (List Bool)
  pub spares : List (List ℕ)

-- The number of slots.
abbrev pub slot_count : Problem → ℕ
slot_count p = p.days * p.periods

-- Whether course `c` is taught in slot `s`.
abbrev pub taught : Teaching → ℕ → ℕ → Bool
taught v s c = slice_index_or (slice_index_or v.rows s []) c false

-- How many more lectures of courses of at most level `k` slot `s` may take.
abbrev pub spare : Teaching → ℕ → ℕ → ℕ
spare v s k = slice_index_or (slice_index_or v.spares s []) k 0

-- The number of courses of at most level `k` that are taught in slot `s`.
abbrev pub taught_up_to : Teaching → ℕ → ℕ → ℕ
taught_up_to v s k = count_by (λ c. taught v s c && nat_le (level v.problem c) k) (all_courses v.problem)

-- The number of courses of at most level `k` that slot `s` may take in all.
abbrev pub most : Teaching → ℕ → ℕ → ℕ
most v s k = taught_up_to v s k + spare v s k

-- ---- the rules

-- No two courses that conflict are taught in one slot, and no course is taught where it is unavailable.
pub record KeepsPeriods (p : Problem) (teaches : ℕ → ℕ → Bool) : Type 0 where
  pub apart : (s c d : ℕ) → teaches s c ≡ true → teaches s d ≡ true → conflict p c d ≡ false
  pub available : (s c : ℕ) → teaches s c ≡ true → unavailable p c (s / p.periods) (s % p.periods) ≡ false

-- Course `c` may be taught in slot `s` besides those that are: it isn't yet, it isn't unavailable there, and it conflicts with none of them.
pub record CanBeTaught (v : Teaching) (c s : ℕ) : Type 0 where
  pub course : c < length v.problem.courses
  pub slot : s < slot_count v.problem
  pub absent : taught v s c ≡ false
  pub apart : (d : ℕ) → taught v s d ≡ true → conflict v.problem c d ≡ false
  pub available : unavailable v.problem c (s / v.problem.periods) (s % v.problem.periods) ≡ false

-- Slot `s` has spare at each level from that of course `c` on.
abbrev pub HasSpare : Teaching → ℕ → ℕ → Type 0
HasSpare v c s = (k : ℕ) → level v.problem c ≤ k → k < length v.problem.rooms → 0 < spare v s k

-- Course `c` may enter slot `s`: it may be taught there, and the levels have spare for it.
pub record CanEnter (v : Teaching) (c s : ℕ) : Type 0 where
  pub can_be_taught : CanBeTaught v c s
  pub has_spare : HasSpare v c s

-- ---- states and changes

-- Nothing is taught, and each slot may take as many courses of at most a level as there are rooms up to it: one more than the level.
pub record IsUntaught (v : Teaching) : Type 0 where
  pub none : (s c : ℕ) → taught v s c ≡ false
  pub full : (s k : ℕ) → s < slot_count v.problem → k < length v.problem.rooms → most v s k ≡ k + 1

-- Course `c` is taught in slot `s` besides all that were taught.
abbrev pub AddsCourse : Teaching → Teaching → ℕ → ℕ → Type 0
AddsCourse old new c s = (t d : ℕ) → taught new t d ≡ (taught old t d || ((t == s) && (d == c)))

-- Course `c` is no longer taught in slot `s`, and all others are as before.
abbrev pub RemovesCourse : Teaching → Teaching → ℕ → ℕ → Type 0
RemovesCourse old new c s = (t d : ℕ) → taught new t d ≡ (taught old t d && not ((t == s) && (d == c)))

-- Each slot may take as many courses of at most each level as before.
abbrev pub KeepsMost : Teaching → Teaching → Type 0
KeepsMost old new = (t k : ℕ) → k < length old.problem.rooms → most new t k ≡ most old t k

-- Slot `s` may take one more course at each level of course `c` at which it had no spare. All else is as before.
abbrev pub RaisesMost : Teaching → Teaching → ℕ → ℕ → Type 0
RaisesMost old new c s = (t k : ℕ) → k < length old.problem.rooms
    → most new t k ≡ most old t k + (if (t == s) && nat_le (level old.problem c) k && (spare old t k == 0) then 1 else 0)
