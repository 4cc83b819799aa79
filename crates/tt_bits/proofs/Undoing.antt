-- Writes that are undone.
use Rattle.std.proofs.Common.{◌≡◌, ℕ, ◌≤◌, ◌<◌, zero, suc, List, [], ◌∷◌, ◌++◌, drop, Option, Some, length, get_or, refl, ap, ◌∙◌, arith}
use Rattle.std.specs.Prelude.{slice_set, option_to_list}
use Rattle.std.specs.List.{AllByRecursion}
use Rattle.std.proofs.lemmas.List.{drop-append-le, set-get_or}
use Rattle.tt_bits.specs.Inner.Undone.{undone, table_at, tables_at, IsClimb, AreWithin}
use Rattle.tt_bits.specs.declared.trail.Old.{Old}
use Rattle.tt_list_laws.proofs.Members.{each_of_append}
use Rattle.tt_list_laws.proofs.Tested.{each_append}

-- ---- lists of numbers

-- ---- marks

pub climb_parts : (ms : List ℕ) (m n : ℕ) → IsClimb (ms ++ m ∷ []) n → IsClimb ms m × (m ≤ n)
climb_parts [] m n a = (tt, a.0.0)
climb_parts (k ∷ ks) m n a =
    let b = climb_parts ks m n a.1 in
    (((each_of_append (λ i. k ≤ i) (ks ++ m ∷ []) (n ∷ []) a.0).0, b.0), b.1)

pub climb_more : (ms : List ℕ) (n : ℕ) → IsClimb ms n → IsClimb (ms ++ n ∷ []) n
climb_more [] n a = ((omega arith, tt), tt)
climb_more (k ∷ ks) n a =
    let b = (each_of_append (λ i. k ≤ i) ks (n ∷ []) a.0).1 in
    (each_append (λ i. k ≤ i) (ks ++ n ∷ []) (n ∷ []) a.0 b, climb_more ks n a.1)

pub climb_further : (ms : List ℕ) (n m : ℕ) → n ≤ m → IsClimb ms n → IsClimb ms m
climb_further [] n m h a = tt
climb_further (k ∷ ks) n m h a =
    let b = each_of_append (λ i. k ≤ i) ks (n ∷ []) a.0 in
    let c : k ≤ m = omega (arith, b.1.0) in
    (each_append (λ i. k ≤ i) ks (m ∷ []) b.0 (c, tt), climb_further ks n m h a.1)

pub climb_at_most : (ms : List ℕ) (n : ℕ) → IsClimb ms n → AllByRecursion (λ k. k ≤ n) ms
climb_at_most [] n a = tt
climb_at_most (k ∷ ks) n a = ((each_of_append (λ i. k ≤ i) ks (n ∷ []) a.0).1.0, climb_at_most ks n a.1)

-- ---- tables

undone-append : (words : List ℕ) (a b : List Old) → undone words (a ++ b) ≡ undone (undone words b) a
undone-append words [] b = refl
undone-append words (o ∷ os) b = ap (λ w. slice_set w o.place o.word) (undone-append words os b)

-- one write is undone
pub table_at-back : (words : List ℕ) (log : List Old) (o : Old) (m : ℕ) → m ≤ length log → table_at words (log ++ o ∷ []) m ≡ table_at
    (slice_set words o.place o.word) log m
table_at-back words log o m h = ap (undone words) (drop-append-le m log (o ∷ []) h) ∙ undone-append words (drop m log) (o ∷ [])

pub tables_at-back : (words : List ℕ) (log : List Old) (o : Old) (ms : List ℕ) → AllByRecursion (λ m. m ≤ length log) ms
    → tables_at words (log ++ o ∷ []) ms ≡ tables_at (slice_set words o.place o.word) log ms
tables_at-back words log o [] a = refl
tables_at-back words log o (m ∷ ms) a =
    ap (λ t. t ∷ tables_at words (log ++ o ∷ []) ms) (table_at-back words log o m a.0)
    ∙ ap (λ ts. table_at (slice_set words o.place o.word) log m ∷ ts) (tables_at-back words log o ms a.1)

set_twice : (xs : List ℕ) (i a b : ℕ) → slice_set (slice_set xs i a) i b ≡ slice_set xs i b
set_twice [] i a b = refl
set_twice (x ∷ xs) zero a b = refl
set_twice (x ∷ xs) (suc i) a b = ap (λ l. x ∷ l) (set_twice xs i a b)

-- a write with its entry in the log leaves the earlier tables as they were
pub table_at-write : (words : List ℕ) (log : List Old) (o : Old) (w m : ℕ) → o.place < length words → o.word ≡ get_or words o.place 0
    → m ≤ length log → table_at (slice_set words o.place w) (log ++ o ∷ []) m ≡ table_at words log m
table_at-write words log o w m k e h =
    table_at-back (slice_set words o.place w) log o m h
    ∙ ap (λ t. table_at t log m) (set_back words o.place w o.word e)
  where
    set_back : (xs : List ℕ) (i a b : ℕ) → b ≡ get_or xs i 0 → slice_set (slice_set xs i a) i b ≡ xs
    set_back xs i a b f = set_twice xs i a b ∙ ap (slice_set xs i) f ∙ set-get_or xs i 0

pub tables_at-write : (words : List ℕ) (log : List Old) (o : Old) (w : ℕ) (ms : List ℕ) → o.place < length words
    → o.word ≡ get_or words o.place 0 → AllByRecursion (λ m. m ≤ length log) ms → tables_at (slice_set words o.place w)
    (log ++ o ∷ []) ms ≡ tables_at words log ms
tables_at-write words log o w [] k e a = refl
tables_at-write words log o w (m ∷ ms) k e a =
    ap (λ t. t ∷ tables_at (slice_set words o.place w) (log ++ o ∷ []) ms) (table_at-write words log o w m k e a.0)
    ∙ ap (λ ts. table_at words log m ∷ ts) (tables_at-write words log o w ms k e a.1)

-- the last element is removed and returned
pub last_taken : {X : Type 0} (old new : List X) (r : Option X) (x : X) → old ≡ new ++ option_to_list r → r ≡ Some x → old ≡ new ++ x ∷ []
last_taken old new r x e f = e ∙ ap (λ q. new ++ option_to_list q) f

pub within_parts : (n : ℕ) (log : List Old) (o : Old) → AreWithin n (log ++ o ∷ []) → AreWithin n log × (o.place < n)
within_parts n log o a = let b = each_of_append (λ x. x.place < n) log (o ∷ []) a in (b.0, b.1.0)

pub within_more : (n : ℕ) (log : List Old) (o : Old) → AreWithin n log → o.place < n → AreWithin n (log ++ o ∷ [])
within_more n log o a h = each_append (λ x. x.place < n) log (o ∷ []) a (h, tt)

pub at_most_all : (ms : List ℕ) (m n : ℕ) → m ≤ n → AllByRecursion (λ k. k ≤ m) ms → AllByRecursion (λ k. k ≤ n) ms
at_most_all [] m n h a = tt
at_most_all (k ∷ ks) m n h a = let b : k ≤ n = omega (arith, a.0) in (b, at_most_all ks m n h a.1)
