-- Marked places, as a list of numbers.
use Rattle.std.proofs.Common.{◌≡◌, ℕ, ◌+◌, ◌<◌, Bool, true, false, ◌&&◌, ◌||◌, List, length, get_or, refl, sym, ap, ◌∙◌, subst, arith, inl, inr, eq-eqb, eqb-true}
use Rattle.std.specs.Prelude.{◌==◌, nat_lt, filter, All}
use Rattle.std.specs.List.Sorted.{IsStrictlyIncreasing}
use Rattle.std.proofs.lemmas.Bool.{cases_lt, cases_Bool, lt-ltb, and_parts, and_from, and_left, or_cases, or_left, or_right, both_ways}
use Rattle.std.proofs.lemmas.List.{get_or_past, get_or_default}
use Rattle.std.proofs.lemmas.List.Elements.{All-filter}
use Rattle.std.proofs.lemmas.List.Folds.{list_any_at}
use Rattle.std.proofs.lemmas.List.FromFn.{length-range_with_len, get_or-range_with_len}
use Rattle.std.proofs.lemmas.List.Kept.{IsStrictlyIncreasing-filter, AllPairs-from_increasing}
use Rattle.std.proofs.lemmas.Map.Views.{any-filter_same}
use Rattle.tt_list_laws.specs.Words.{has_number, range_below}
use Rattle.tt_list_laws.proofs.Numbers.{any_below}
use Rattle.tt_list_laws.proofs.Members.{any_member, member_from_any}
use Rattle.tt_instance.specs.Problem.{Problem}
use Rattle.tt_instance.specs.Cells.{is_at}
use Rattle.tt_instance.specs.Courses.{unavailable}
use Rattle.tt_instance.specs.declared.cell.Cell.{Cell}
use Rattle.tt_instance.specs.declared.cell.Slot.{Slot}
use Rattle.tt_occupancy.specs.Filled.{no_entry, entry_at}
use Rattle.tt_moves_chain.specs.Answers.{is_shut, IsFirstShut}
use Rattle.tt_moves_chain.specs.Chains.{exclude, other, IsClosed, IsChain, IsOpen}
use Rattle.tt_moves_chain.specs.Marks.{marked, IsSpread}

-- -- the marked places

module _ (fs : List Bool) where
  abbrev pub places : List ℕ
  places = filter (marked fs) (range_below (length fs))

  has_places : (i : ℕ) → has_number places i ≡ marked fs i
  has_places i =
      any-filter_same (λ m. m == i) (marked fs) (marked fs i) (λ k e. ap (marked fs) (eqb-true k i e)) (range_below (length fs))
      ∙ elim (cases_Bool (marked fs i)) as (λ _. (marked fs i && has_number (range_below (length fs)) i) ≡ marked fs i) [
        | inl e ↦ and_from (marked fs i) (has_number (range_below (length fs)) i) e
            (any_below (λ m. m == i) (length fs) i (marked_below e) (eq-eqb i i refl)) ∙ sym e
        | inr e ↦ and_left (marked fs i) (has_number (range_below (length fs)) i) e ∙ sym e
      ]
    where
      marked_below : marked fs i ≡ true → i < length fs
      marked_below e = elim (cases_lt i (length fs)) [
        | inl h ↦ h
        | inr h ↦ absurd (both_ways (marked fs i) (get_or_past fs i false h) e)
      ]

  each_below : All (λ k. k < length fs) (range_below (length fs))
  each_below k d h =
      let l : k < length fs = subst (λ z. k < z) (length-range_with_len 0 (length fs)) h in
      let e = get_or-range_with_len 0 (length fs) k d l in
      omega arith

  pub places_below : All (λ i. i < length fs) places
  places_below = All-filter (marked fs) (λ i. i < length fs) (range_below (length fs)) each_below

  pub places_rising : IsStrictlyIncreasing places
  places_rising = IsStrictlyIncreasing-filter (marked fs) (range_below (length fs)) (λ k h.
      let n = length-range_with_len 0 (length fs) in
      let a = get_or-range_with_len 0 (length fs) k 0 (omega arith) in
      let b = get_or-range_with_len 0 (length fs) (k + 1) 0 (omega arith) in
      omega arith)

-- ---- the chain of marks

module _ (p : Problem) (t : List Cell) (a b : Slot) (entry : ℕ) (inside : entry < length t) (stands : is_at a (entry_at t entry) ≡ true)
    (fs : List Bool) (spread : IsSpread p t a b entry fs) where
  abbrev stands_in : ℕ → Bool
  stands_in k = is_at a (entry_at t k) || is_at b (entry_at t k)

  abbrev in_either : ℕ → Bool
  in_either k = nat_lt k (length t) && stands_in k

  either_closed : IsClosed p t a b in_either
  either_closed = record {
    within = λ i d h e.
        subst (λ z. (is_at a z || is_at b z) ≡ true) (get_or_default t i no_entry d h)
        ((and_parts (nat_lt i (length t)) (stands_in i) e).1);
    links = λ i j d h k e l.
        let x = get_or t i d in
        let y = get_or t j d in
        let at = (and_parts ((is_at a x && is_at b y) || (is_at b x && is_at a y)) (exclude p x y) l).0 in
        let one : (is_at a y || is_at b y) ≡ true = elim (or_cases (is_at a x && is_at b y) (is_at b x && is_at a y) at) [
          | inl m ↦ or_right (is_at a y) (is_at b y) ((and_parts (is_at a x) (is_at b y) m).1)
          | inr m ↦ or_left (is_at a y) (is_at b y) ((and_parts (is_at b x) (is_at a y) m).1)
        ] in
        and_from (nat_lt j (length t)) (stands_in j) (lt-ltb j (length t) k)
        (subst (λ z. (is_at a z || is_at b z) ≡ true) (get_or_default t j d no_entry k) one);
  }

  pub chain_is : IsChain p t a b entry (places fs)
  chain_is = record {
    closed = record {
      within = λ i d h e.
          either_closed.within i d h
          (spread.least in_either either_closed
          (and_from (nat_lt entry (length t)) (stands_in entry) (lt-ltb entry (length t) inside)
          (or_left (is_at a (entry_at t entry)) (is_at b (entry_at t entry)) stands)) i (sym (has_places fs i) ∙ e));
      links = λ i j d h k e l. has_places fs j ∙ spread.closed i j d h k (sym (has_places fs i) ∙ e) l;
    };
    starts = has_places fs entry ∙ spread.starts;
    least = λ m closed starts i member. spread.least m closed starts i
        (sym (has_places fs i) ∙ any_member (λ k. k == i) (places fs) i member (eq-eqb i i refl));
  }

-- ---- the first member that can't move

-- a member by its place
pub member_at : (members : List ℕ) (i : ℕ) → has_number members i ≡ true → (k : ℕ) × (k < length members) × (get_or members k 0 ≡ i)
member_at members i member =
    let w = member_from_any (λ m. m == i) members member in
    (w.1.0, w.1.1, get_or_default members w.1.0 0 w.0 w.1.1 ∙ w.1.2 ∙ eqb-true w.0 i w.2)

module _ (p : Problem) (t : List Cell) (a b : Slot) (members : List ℕ) where
  pub first_shut : IsStrictlyIncreasing members → (n i : ℕ) → n < length members → get_or members n 0 ≡ i → is_shut p t a b i ≡ true
      → ((k : ℕ) → k < n → is_shut p t a b (get_or members k 0) ≡ false) → IsFirstShut p t a b members i
  first_shut rising n i h e shut before = record {
    member = list_any_at (λ m. m == i) members n 0 h (eq-eqb (get_or members n 0) i e);
    shut = shut;
    first = λ j member also.
        let w = member_at members j member in
        elim (cases_lt w.0 n) [
          | inl l ↦ absurd (both_ways (is_shut p t a b j) (ap (is_shut p t a b) (sym w.2) ∙ before w.0 l) also)
          | inr l ↦ elim (cases_lt n w.0) [
            | inl m ↦ let r = AllPairs-from_increasing members rising n w.0 0 m w.1 in let z = w.2 in omega arith
            | inr m ↦ let z : n ≡ w.0 = omega arith in let r = ap (λ k. get_or members k 0) z in let y = w.2 in omega arith
          ]
        ];
  }

  pub open_is : All (λ i. i < length t) members → ((k : ℕ) → k < length members → is_shut p t a b (get_or members k 0) ≡ false)
      → IsOpen p t a b (has_number members)
  open_is inside none = λ i d h member.
      let w = member_at members i member in
      subst (λ z. unavailable p z.course (other a b z).day (other a b z).period ≡ false) (get_or_default t i no_entry d h)
      (ap (is_shut p t a b) (sym w.2) ∙ none w.0 w.1)
