-- The numbers that elements give, if some elements give none.
use Rattle.std.proofs.Common.{◌≡◌, ℕ, suc, ◌+◌, ◌≤◌, ◌<◌, Bool, true, List, [], ◌∷◌, ◌++◌, length, take, get_or, Option, Some, None, refl, sym, ap, ◌∙◌, arith, inl, inr}
use Rattle.std.specs.Prelude.{Contains, All, IfSome, sum_by, count_by, is_some}
use Rattle.std.specs.List.{filter_map, cons_option, AllByRecursion}
use Rattle.std.proofs.lemmas.List.{take_more}
use Rattle.std.proofs.lemmas.List.Elements.{filter_map-append, All-append, All-nil, All-cons}
use Rattle.std.proofs.lemmas.List.Sums.{sum_by-cons}
use Rattle.tt_list_laws.proofs.Sums.{one_if, count_by-cons}
use Rattle.tt_list_laws.proofs.Members.{member_cases}

-- the number that is given, or 0
abbrev pub or_zero : Option ℕ → ℕ
or_zero None = 0
or_zero (Some n) = n

-- if a number is given, and any number that may be given is at least v, the number is at least v
pub at_least_value : (v : ℕ) (o : Option ℕ) → is_some o ≡ true → ((m : ℕ) → o ≡ Some m → v ≤ m) → v ≤ or_zero o
at_least_value v None e f = cc
at_least_value v (Some m) e f = f m refl

-- 1 if a number is given and it passes
abbrev pub count_in : (ℕ → Bool) → Option ℕ → ℕ
count_in q None = 0
count_in q (Some n) = one_if (q n)

module _ {X : Type 0} (h : X → Option ℕ) where
  -- how many of the numbers given pass
  pub count_by-filter_map : (q : ℕ → Bool) (xs : List X) → count_by q (filter_map h xs) ≡ sum_by (λ x. count_in q (h x)) xs
  count_by-filter_map q [] = refl
  count_by-filter_map q (x ∷ xs) = by_case (h x) (count_by-filter_map q xs) ∙ sym (sum_by-cons (λ y. count_in q (h y)) x xs)
    where
      by_case : (o : Option ℕ) → count_by q (filter_map h xs) ≡ sum_by (λ y. count_in q (h y)) xs
          → count_by q (cons_option o (filter_map h xs)) ≡ count_in q o + sum_by (λ y. count_in q (h y)) xs
      by_case None e = omega (arith, e)
      by_case (Some n) e = omega (arith, count_by-cons q n (filter_map h xs), e)

  -- how many numbers are given
  pub length-filter_map : (xs : List X) → length (filter_map h xs) ≡ count_by (λ x. is_some (h x)) xs
  length-filter_map [] = refl
  length-filter_map (x ∷ xs) = by_case (h x) (length-filter_map xs) ∙ sym (count_by-cons (λ y. is_some (h y)) x xs)
    where
      by_case : (o : Option ℕ) → length (filter_map h xs) ≡ count_by (λ y. is_some (h y)) xs
          → length (cons_option o (filter_map h xs)) ≡ one_if (is_some o) + count_by (λ y. is_some (h y)) xs
      by_case None e = omega (arith, e)
      by_case (Some n) e = omega (arith, e)

  -- if a property holds of each number that an element may give, it holds of each number given
  pub each_given : (P : ℕ → Type 0) (xs : List X) → ((x : X) (m : ℕ) → h x ≡ Some m → P m) → AllByRecursion P (filter_map h xs)
  each_given P [] f = tt
  each_given P (x ∷ xs) f = by_case (h x) (f x) (each_given P xs f)
    where
      by_case : (o : Option ℕ) → ((m : ℕ) → o ≡ Some m → P m) → AllByRecursion P (filter_map h xs)
          → AllByRecursion P (cons_option o (filter_map h xs))
      by_case None g a = a
      by_case (Some m) g a = (g m refl, a)

  -- a number that an element gives is in the list
  pub given_member : (xs : List X) (x : X) (w : ℕ) → Contains xs x → h x ≡ Some w → Contains (filter_map h xs) w
  given_member [] x w m e = absurd (omega (arith, m.1))
  given_member (y ∷ ys) x w m e = elim (member_cases y ys x m) [
    | inl same ↦ first (h y) (ap h same ∙ e)
    | inr k ↦ behind (h y) (given_member ys x w k e)
  ]
    where
      first : (o : Option ℕ) → o ≡ Some w → Contains (cons_option o (filter_map h ys)) w
      first None k = cc
      first (Some n) k = let same : n ≡ w = cc in (0, omega arith, same)

      behind : (o : Option ℕ) → Contains (filter_map h ys) w → Contains (cons_option o (filter_map h ys)) w
      behind None k = k
      behind (Some n) k = (suc k.0, omega (arith, k.1), k.2)

  -- the number that the next element gives comes after those that the elements before it gave
  pub filter_map_more : (xs : List X) (i : ℕ) (x : X) → i < length xs → x ≡ get_or xs i x
      → filter_map h (take (i + 1) xs) ≡ filter_map h (take i xs) ++ cons_option (h x) []
  filter_map_more xs i x l e =
      ap (filter_map h) (take_more xs i x l) ∙ filter_map-append h (take i xs) (get_or xs i x ∷ [])
      ∙ ap (λ z. filter_map h (take i xs) ++ cons_option (h z) []) (sym e)

-- if a property holds of each number, and of another one if it is given, it holds of each after that one is appended
pub All-option : (P : ℕ → Type 0) (xs : List ℕ) (o : Option ℕ) → All P xs → IfSome o P → All P (xs ++ cons_option o [])
All-option P xs None a h = All-append P xs [] a (All-nil P)
All-option P xs (Some n) a h = All-append P xs (n ∷ []) a (All-cons P n [] h (All-nil P))
