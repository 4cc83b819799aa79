-- One iteration of the loop that reads prices.
use Rattle.std.proofs.Common.{◌≡◌, ℕ, ◌<◌, ◌≤◌, ◌==◌, ◌||◌, false, List, [], ◌∷◌, ◌++◌, Option, Result, refl, sym, ap, subst, append_assoc, ◌∙◌}
use Rattle.std.specs.Prelude.{map, All}
use Rattle.std.specs.List.{list_any}
use Rattle.tt_list_laws.specs.Words.{has_number}
use Rattle.std.proofs.lemmas.List.{map-append}
use Rattle.std.proofs.lemmas.List.Elements.{All-nil, All-push, recursion_from_All}
use Rattle.tt_list_laws.proofs.Members.{each_of_append}
use Rattle.tt_leaf.specs.Ranges.{ArePrices, AreBelow}
use Rattle.tt_text.specs.Feeds.{Stream}
use Rattle.tt_proof_read.specs.Inner.Contract.{State, IsReading}
use Rattle.tt_proof_read.specs.Inner.Pricing.{with_seen, IsUnseen, ArePriceLists}
use Rattle.tt_proof_read.specs.Reading.{PriceLists, Seen, seen_in, with_priced, with_pair, pair_at, next_pair_at, prices_at}
use Rattle.tt_proof_read.specs.declared.fault.TextFault.{TextFault}
use Rattle.tt_proof_read.specs.declared.format.TheConstants.{MAX_PRICE}
use Rattle.tt_proof_read.specs.declared.prices.Priced.{Priced}
use Rattle.tt_proof_read.specs.declared.prices.Priced.TheVariants.{Course, Room}
use Rattle.tt_proof_read.specs.declared.sizes.Sizes.{Sizes}
use Rattle.tt_proof_read.proofs.Loops.{IsLeft, all_left}
use Rattle.tt_proof_read.proofs.Underway.{ReadsPart}
use Rattle.tt_proof_read.proofs.Distinct.{each_two_push, is_new}

-- a number among the pairs is among their numbers
any_number : (prices : List (ℕ × ℕ)) (n : ℕ) → list_any (λ k. k.0 == n) prices ≡ has_number (map (λ k. k.0) prices) n
any_number [] n = refl
any_number (k ∷ ks) n = ap (λ b. (k.0 == n) || b) (any_number ks n)

-- another price
prices_push : (count : ℕ) (prices : List (ℕ × ℕ)) (n u : ℕ) → ArePrices count prices → n < count
    → has_number (map (λ k. k.0) prices) n ≡ false → ArePrices count (prices ++ (n, u) ∷ [])
prices_push count prices n u are below new = record {
  within = subst (AreBelow count) (sym (map-append (λ k. k.0) prices ((n, u) ∷ [])))
      (All-push (λ m. m < count) (map (λ k. k.0) prices) n are.within below);
  once = each_two_push (λ a b. a.0 == b.0) prices (n, u) are.once (any_number prices n ∙ new);
}

-- another pair
pub kept_push : (sizes : Sizes) (kept : PriceLists) (x : Priced) (u : ℕ) → ArePriceLists sizes kept → IsUnseen sizes (seen_in kept) x
    → u ≤ MAX_PRICE → ArePriceLists sizes (with_priced kept x u)
kept_push sizes kept (Course c) u are new within = record {
  courses = prices_push sizes.courses kept.0 c u are.courses new.0 new.1;
  rooms = are.rooms;
  course_prices = All-push (λ k. k.1 ≤ MAX_PRICE) kept.0 (c, u) are.course_prices within;
  room_prices = are.room_prices;
}
kept_push sizes kept (Room r) u are new within = record {
  courses = are.courses;
  rooms = prices_push sizes.rooms kept.1 r u are.rooms new.0 new.1;
  course_prices = are.course_prices;
  room_prices = All-push (λ k. k.1 ≤ MAX_PRICE) kept.1 (r, u) are.room_prices within;
}

-- no pair
pub kept_nothing : (sizes : Sizes) (kept : PriceLists) → kept ≡ ([], []) → ArePriceLists sizes kept
kept_nothing sizes kept e = subst (ArePriceLists sizes) (sym e) (record {
  courses = record { within = All-nil (λ m. m < sizes.courses); once = refl };
  rooms = record { within = All-nil (λ m. m < sizes.rooms); once = refl };
  course_prices = All-nil (λ (k : ℕ × ℕ). k.1 ≤ MAX_PRICE);
  room_prices = All-nil (λ (k : ℕ × ℕ). k.1 ≤ MAX_PRICE);
})

-- before the first pair
pub prices_left : (sizes : Sizes) (kept : PriceLists) (s : Stream) → kept ≡ ([], []) → IsLeft with_pair (next_pair_at sizes) kept s
    (prices_at sizes s)
unfolding prices_at
prices_left sizes kept s e = subst (λ k. IsLeft with_pair (next_pair_at sizes) k s (prices_at sizes s)) (sym e)
    (all_left with_pair (next_pair_at sizes) ([], []) s)

-- -- the properties of the prices

-- a property of each element holds of one in the middle
middle : {X : Type 0} (P : X → Type 0) (before : List X) (x : X) (xs : List X) → All P (before ++ x ∷ xs) → P x
middle P before x xs all = (each_of_append P before (x ∷ xs) (recursion_from_All P (before ++ x ∷ xs) all)).1.0

-- if a price is followed by others, its number is below the count and has no price before it
price_before : (count : ℕ) (before : List (ℕ × ℕ)) (n u : ℕ) (xs : List (ℕ × ℕ)) → ArePrices count (before ++ (n, u) ∷ xs)
    → (n < count) × (has_number (map (λ k. k.0) before) n ≡ false)
price_before count before n u xs are = (
  middle (λ m. m < count) (map (λ k. k.0) before) n (map (λ k. k.0) xs)
      (subst (AreBelow count) (map-append (λ k. k.0) before ((n, u) ∷ xs)) are.within),
  sym (any_number before n) ∙ is_new (λ a b. a.0 == b.0) before (n, u) xs are.once,
)

-- if more prices follow, the next one is for a number without a price, and within the limit
pub kept_before : (sizes : Sizes) (kept : PriceLists) (x : Priced) (u : ℕ) (courses rooms : List (ℕ × ℕ))
    → ArePriceLists sizes ((with_priced kept x u).0 ++ courses, (with_priced kept x u).1 ++ rooms) → IsUnseen sizes (seen_in kept) x
    × (u ≤ MAX_PRICE)
kept_before sizes kept (Course c) u courses rooms are =
    let grouped : (kept.0 ++ (c, u) ∷ []) ++ courses ≡ kept.0 ++ (c, u) ∷ courses = append_assoc kept.0 ((c, u) ∷ []) courses in (
      price_before sizes.courses kept.0 c u courses (subst (ArePrices sizes.courses) grouped are.courses),
      middle (λ k. k.1 ≤ MAX_PRICE) kept.0 (c, u) courses (subst (All (λ k. k.1 ≤ MAX_PRICE)) grouped are.course_prices),
    )
kept_before sizes kept (Room r) u courses rooms are =
    let grouped : (kept.1 ++ (r, u) ∷ []) ++ rooms ≡ kept.1 ++ (r, u) ∷ rooms = append_assoc kept.1 ((r, u) ∷ []) rooms in (
      price_before sizes.rooms kept.1 r u rooms (subst (ArePrices sizes.rooms) grouped are.rooms),
      middle (λ k. k.1 ≤ MAX_PRICE) kept.1 (r, u) rooms (subst (All (λ k. k.1 ≤ MAX_PRICE)) grouped are.room_prices),
    )

-- courses and rooms
abbrev seen : List ℕ → List ℕ → Seen
seen courses rooms = (courses, rooms)

-- the numbers of the pairs and of another one
pub seen_push : (kept : PriceLists) (x : Priced) (u : ℕ) → with_seen (seen_in kept) x ≡ seen_in (with_priced kept x u)
seen_push kept (Course c) u = ap (λ (l : List ℕ). seen l (map (λ k. k.0) kept.1)) (sym (map-append (λ k. k.0) kept.0 ((c, u) ∷ [])))
seen_push kept (Room r) u = ap (λ (l : List ℕ). seen (map (λ k. k.0) kept.0) l) (sym (map-append (λ k. k.0) kept.1 ((r, u) ∷ [])))

-- -- one iteration

-- reading a pair after the numbers seen is reading the next part after the stored pairs
pub pair_kept : (sizes : Sizes) (now next : State) (result : Result (Option (Priced × ℕ)) TextFault) (listed : Seen) (kept : PriceLists)
    → listed ≡ seen_in kept → IsReading now next (λ o s. (o, s)) result (pair_at sizes listed)
    → ReadsPart with_pair (next_pair_at sizes) (prices_at sizes) now next result kept
pair_kept sizes now next result listed kept same read = subst (λ l. IsReading now next (λ o s. (o, s)) result (pair_at sizes l)) same read
