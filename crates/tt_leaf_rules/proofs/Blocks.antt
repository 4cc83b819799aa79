-- Counts over rooms, block by block, and blocks that are full.
use Rattle.std.proofs.Common.{◌≡◌, ℕ, ◌+◌, ◌-◌, ◌*◌, ◌<◌, ◌≤◌, Bool, true, ◌&&◌, List, cond, take, drop, sym, ap, ◌∙◌, arith, inl, inr, lt-ltb}
use Rattle.std.specs.Prelude.{nat_lt, count_by}
use Rattle.std.specs.List.{list_any}
use Rattle.std.proofs.lemmas.Bool.{cases_lt, and_parts, and_from, le-ltb, or_left}
use Rattle.std.proofs.lemmas.List.{take-append-drop}
use Rattle.std.proofs.lemmas.List.Folds.{list_any-append}
use Rattle.tt_list_laws.specs.Words.{range_below}
use Rattle.tt_list_laws.proofs.Tests.{sum_further}
use Rattle.tt_bits.specs.Inner.Bits.{has_bit, bits}
use Rattle.tt_bits.proofs.Counts.{count-past, count-bits}

module _ (n : ℕ) (t : ℕ → Bool) where
  -- the numbers below n that pass
  abbrev pub here : ℕ → Bool
  here r = nat_lt r n && t r

  -- the count over the blocks before one, plus the count of that block by the word of its numbers that pass
  pub block_next : (b w total more : ℕ) → ((k : ℕ) → k < 64 → has_bit w k ≡ here (b * 64 + k))
      → total ≡ count_by here (range_below (b * 64)) → more ≡ count_by (has_bit w) bits
      → total + more ≡ count_by here (range_below ((b + 1) * 64))
  block_next b w total more set e is =
      let q : (b + 1) * 64 ≡ b * 64 + 64 = omega arith in
      let split : count_by here (range_below (b * 64 + 64)) ≡ count_by here (range_below (b * 64)) + count_by (λ k. here (b * 64 + k))
      (range_below 64) = sum_further (λ r. cond (here r) 1 0) (b * 64) 64 in
      omega (arith, e, is, split, count-bits (has_bit w) (λ k. here (b * 64 + k)) set, ap (λ m. count_by here (range_below m)) q)

  pub blocks_whole : (m total : ℕ) → total ≡ count_by here (range_below m) → n ≤ m → total ≡ count_by t (range_below n)
  blocks_whole m total e h = let q : m ≡ n + (m - n) = omega arith in e ∙ ap (λ k. count_by here (range_below k)) q ∙ count-past t n (m - n)

-- if one of the first elements passes, one of all does
any_of_first : {X : Type 0} (p : X → Bool) (xs : List X) (i : ℕ) → list_any p (take i xs) ≡ true → list_any p xs ≡ true
any_of_first p xs i h =
    sym (ap (list_any p) (take-append-drop i xs)) ∙ list_any-append p (take i xs) (drop i xs) ∙ or_left (list_any p (take i xs))
    (list_any p (drop i xs)) h

-- a block whose set is full stays full if more elements are asked
pub block_full : {X : Type 0} (n b w all : ℕ) (t : ℕ → X → Bool) (xs : List X) (i : ℕ) → w ≡ all
    → ((k : ℕ) → k < 64 → has_bit all k ≡ nat_lt k (n - b * 64))
    → ((k : ℕ) → k < 64 → has_bit w k ≡ (nat_lt (b * 64 + k) n && list_any (t (b * 64 + k)) (take i xs))) → (k : ℕ) → k < 64
    → has_bit w k ≡ (nat_lt (b * 64 + k) n && list_any (t (b * 64 + k)) xs)
block_full n b w all t xs i e full set k h = elim (cases_lt (b * 64 + k) n) [
  | inl l ↦
      let inside : k < n - b * 64 = omega arith in
      let there : has_bit w k ≡ true = ap (λ v. has_bit v k) e ∙ full k h ∙ lt-ltb k (n - b * 64) inside in
      let passes = and_parts (nat_lt (b * 64 + k) n) (list_any (t (b * 64 + k)) (take i xs)) (sym (set k h) ∙ there) in
      there ∙ sym (and_from (nat_lt (b * 64 + k) n) (list_any (t (b * 64 + k)) xs) (lt-ltb (b * 64 + k) n l)
      (any_of_first (t (b * 64 + k)) xs i passes.1))
  | inr l ↦
      let none = le-ltb (b * 64 + k) n l in
      set k h ∙ ap (λ x. x && list_any (t (b * 64 + k)) (take i xs)) none ∙ sym (ap (λ x. x && list_any (t (b * 64 + k)) xs) none)
]
