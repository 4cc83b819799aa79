-- Each reading takes tokens.
use Rattle.std.proofs.Common.{◌≡◌, ℕ, ◌<◌, ◌≤◌, suc, [], length, Option, Some, None, Result, Ok, subst, arith}
use Rattle.std.specs.List.{push}
use Rattle.tt_text.specs.Tokens.{Placed}
use Rattle.tt_text.specs.Feeds.{Stream}
use Rattle.tt_text.specs.Numbers.{number_of}
use Rattle.tt_text.specs.Reading.{◌>>=◌}
use Rattle.tt_text.proofs.Steps.{ok_is, bind_ok}
use Rattle.tt_leaf.specs.declared.leaf.Claim.{Claim}
use Rattle.tt_leaf.specs.declared.leaf.Claim.TheVariants as claim
use Rattle.tt_proof_read.specs.Reading.{token_at, one_at, index_of, course_at, curriculum_at, priced_as, price_at, listed_of, listed_at, PriceLists, priced_of, with_price, seen_in, pair_at, next_pair_at, with_pair, prices_at, claim_word_of, claim_after_word, claim_then, claim_at}
use Rattle.tt_proof_read.specs.declared.claims.ClaimWord.{ClaimWord}
use Rattle.tt_proof_read.specs.declared.claims.ClaimWord.TheVariants as claim_word
use Rattle.tt_proof_read.specs.declared.fault.TextFault.{TextFault}
use Rattle.tt_proof_read.specs.declared.format.TheConstants.{COURSE_LETTER, CURRICULUM_LETTER, MAX_PRICE}
use Rattle.tt_proof_read.specs.declared.prices.Priced.{Priced}
use Rattle.tt_proof_read.specs.declared.sizes.Sizes.{Sizes}
use Rattle.tt_proof_read.proofs.Taking.{token_less}
use Rattle.tt_proof_read.proofs.Loops.{TakesTokens, total_less}

-- fewer tokens are left
abbrev pub IsLess : {A : Type 0} → Stream → A × Stream → Type 0
IsLess s x = length x.1.tokens < length s.tokens

-- a value made of one token
pub one_less : {A : Type 0} (make : Placed → Result A TextFault) (s : Stream) (x : A × Stream) → one_at make s ≡ Ok x → IsLess s x
one_less make s x e =
    let t = bind_ok (token_at s) _ x e in
    let a = bind_ok (make t.0.0) (λ b. Ok (b, t.0.1)) x t.2 in
    subst (IsLess s) (ok_is (a.0, t.0.1) x a.2) (token_less s t.0 t.1)

-- a value made of another value that was read
made_less : {A B : Type 0} (read : Result (A × Stream) TextFault) (make : A → B) (s : Stream) (x : B × Stream)
    → ((y : A × Stream) → read ≡ Ok y → IsLess s y)
    → (read >>= λ y. Ok (make y.0, y.1)) ≡ Ok x → IsLess s x
made_less read make s x less e =
    let a = bind_ok read (λ y. Ok (make y.0, y.1)) x e in
    subst (IsLess s) (ok_is (make a.0.0, a.0.1) x a.2) (less a.0 a.1)

-- a course
pub course_less : (sizes : Sizes) (s : Stream) (x : ℕ × Stream) → course_at sizes s ≡ Ok x → IsLess s x
unfolding course_at
course_less sizes s x e = one_less (index_of COURSE_LETTER sizes.courses) s x e

-- a curriculum
pub curriculum_less : (sizes : Sizes) (s : Stream) (x : ℕ × Stream) → curriculum_at sizes s ≡ Ok x → IsLess s x
unfolding curriculum_at
curriculum_less sizes s x e = one_less (index_of CURRICULUM_LETTER sizes.curricula) s x e

-- a price
pub price_less : (s : Stream) (x : ℕ × Stream) → price_at s ≡ Ok x → IsLess s x
unfolding price_at
price_less s x e = one_less (λ t. priced_as t.at (number_of MAX_PRICE t.text)) s x e

-- ---- parts of lists

-- a listed course, or the end of the list
pub listed_takes : (sizes : Sizes) → TakesTokens push (listed_at sizes)
unfolding listed_at
listed_takes sizes = record { less = λ before s x e. one_less (listed_of sizes before) s x e }

-- reading the price takes no token back
with_price_less : (s : Stream) (o : Option Priced) (x : Option (Priced × ℕ) × Stream) → with_price o s ≡ Ok x
    → length x.1.tokens ≤ length s.tokens
with_price_less s None x e = subst (λ (y : Option (Priced × ℕ) × Stream). length y.1.tokens ≤ length s.tokens) (ok_is (None, s) x e)
    (omega arith)
with_price_less s (Some a) x e = let less = made_less (price_at s) (λ u. Some (a, u)) s x (price_less s) e in omega (arith, less)

-- a price, or the end of the prices
pub pair_takes : (sizes : Sizes) → TakesTokens with_pair (next_pair_at sizes)
unfolding pair_at
pair_takes sizes = record {
  less = λ kept s x e.
      let t = bind_ok (token_at s) _ x e in
      let a = bind_ok (priced_of sizes (seen_in kept) t.0.0) (λ o. with_price o t.0.1) x t.2 in
      omega (arith, token_less s t.0 t.1, with_price_less t.0.1 a.0 x a.2);
}

-- all prices
prices_less : (sizes : Sizes) (s : Stream) (x : PriceLists × Stream) → prices_at sizes s ≡ Ok x → IsLess s x
unfolding prices_at
prices_less sizes s x e = total_less with_pair (next_pair_at sizes) (pair_takes sizes) (suc (length s.tokens)) ([], []) s x e

-- the rest of a claim after its word
behind_less : (sizes : Sizes) (w : ClaimWord) (s : Stream) (x : Claim × Stream) → claim_after_word sizes w s ≡ Ok x → IsLess s x
unfolding claim_after_word
behind_less sizes claim_word.Capacity s x e =
    let c = bind_ok (course_at sizes s) _ x e in
    let u = made_less (price_at c.0.1) (claim.Capacity c.0.0) c.0.1 x (price_less c.0.1) c.2 in
    omega (arith, course_less sizes s c.0 c.1, u)
behind_less sizes claim_word.Days s x e = made_less (course_at sizes s) claim.Days s x (course_less sizes s) e
behind_less sizes claim_word.Compact s x e = made_less (curriculum_at sizes s) claim.Compact s x (curriculum_less sizes s) e
behind_less sizes claim_word.Stable s x e = made_less (course_at sizes s) claim.Stable s x (course_less sizes s) e
behind_less sizes claim_word.Prices s x e = made_less (prices_at sizes s) (λ k. claim.Prices k.0 k.1) s x (prices_less sizes s) e
behind_less sizes claim_word.Stacked s x e = made_less (course_at sizes s) claim.Stacked s x (course_less sizes s) e

-- a claim, or the end
claim_then_less : (sizes : Sizes) (s : Stream) (o : Option ClaimWord) (x : Option Claim × Stream) → claim_then sizes o s ≡ Ok x
    → length x.1.tokens ≤ length s.tokens
claim_then_less sizes s None x e = subst (λ (y : Option Claim × Stream). length y.1.tokens ≤ length s.tokens) (ok_is (None, s) x e)
    (omega arith)
claim_then_less sizes s (Some w) x e = let less = made_less (claim_after_word sizes w s) (λ c. Some c) s x (behind_less sizes w s) e in
    omega (arith, less)

-- a claim, or the end of the claims
pub claim_takes : (sizes : Sizes) (version : ℕ) → TakesTokens push (λ _ rest. claim_at sizes version rest)
unfolding claim_at
claim_takes sizes version = record {
  less = λ kept s x e.
      let t = bind_ok (token_at s) _ x e in
      let w = bind_ok (claim_word_of version t.0.0) (λ o. claim_then sizes o t.0.1) x t.2 in
      omega (arith, token_less s t.0 t.1, claim_then_less sizes t.0.1 w.0 x w.2);
}
