-- The verdicts on a single token, compared with those on a token with the same text.
use Rattle.std.proofs.Common.{◌≡◌, ◌≢◌, ℕ, Bool, true, false, cond, List, [], ◌∷◌, ◌==◌, Option, Some, None, Result, Ok, Err, refl, codes}
use Rattle.std.specs.Prelude.{nat_lt, ◌&&◌}
use Rattle.tt_list_laws.specs.Words.{has_number}
use Rattle.tt_text.specs.Tokens.{Placed}
use Rattle.tt_text.specs.Texts.{is_text}
use Rattle.tt_text.specs.Numbers.{number_of}
use Rattle.tt_text.specs.Reading.{◌>>=◌}
use Rattle.tt_text.specs.declared.numbers.NumberFault.{NumberFault}
use Rattle.tt_text.specs.declared.numbers.NumberFault.TheVariants as number
use Rattle.tt_text.proofs.Steps.{bind_ok}
use Rattle.tt_instance.proofs.Shared.{SameVerdict, other_offset}
use Rattle.tt_path.specs.declared.facts.Who.TheVariants as who
use Rattle.tt_leaf.specs.declared.leaf.Bound.TheVariants as bound
use Rattle.tt_proof_read.specs.Beginnings.{token_offset}
use Rattle.tt_proof_read.specs.Reading.{numbered, below, numbered_below, index_in, index_of, new_number, priced_as, who_in, given_of, listed_of, Seen, priced_in, priced_of, claim_word_of, node_word_of, counted, version_of, bounded, bound_of}
use Rattle.tt_proof_read.specs.declared.fault.TextFault.{TextFault}
use Rattle.tt_proof_read.specs.declared.fault.TextFault.TheVariants as fault
use Rattle.tt_proof_read.specs.declared.fault.Word.TheVariants as word
use Rattle.tt_proof_read.specs.declared.claims.ClaimWord.{ClaimWord}
use Rattle.tt_proof_read.specs.declared.claims.ClaimWord.TheVariants as claim_word
use Rattle.tt_proof_read.specs.declared.format.TheConstants.{COURSE_LETTER, CURRICULUM_LETTER, MAX_PROOF_NODES, MAX_POINTS, MAX_PRICE, ROOM_LETTER}
use Rattle.tt_proof_read.specs.declared.nodes.NodeWord.{NodeWord}
use Rattle.tt_proof_read.specs.declared.nodes.NodeWord.TheVariants as node_word
use Rattle.tt_proof_read.specs.declared.prices.Priced.{Priced}
use Rattle.tt_proof_read.specs.declared.prices.Priced.TheVariants as priced
use Rattle.tt_proof_read.specs.declared.sizes.Sizes.{Sizes}

module _ (at : ℕ) where
  -- two verdicts, the first on a token that lies at a
  abbrev pub SameAt : {J : Type 0} → ℕ → Result J TextFault → Result J TextFault → Type 0
  SameAt a r s = SameVerdict token_offset at (a ≢ at) r s

  -- ---- how verdicts are made

  same_ok : {J : Type 0} (a : ℕ) (v : J) → SameAt a (Ok v) (Ok v)
  same_ok a v = refl

  -- a fault at the token
  same_err : {J : Type 0} (a : ℕ) (e d : TextFault) → token_offset e ≡ Some a → SameAt {J = J} a (Err e) (Err d)
  same_err a e d there = (λ other same. other_offset at a other (rw (← there) same), λ v is. cc)

  same_if : {J : Type 0} (a : ℕ) (b : Bool) (r s q t : Result J TextFault) → SameAt a r s → SameAt a q t
      → SameAt a (cond b r q) (cond b s t)
  same_if a true r s q t first second = first
  same_if a false r s q t first second = second

  fails_too : {J K : Type 0} (s : Result J TextFault) (k : J → Result K TextFault) → ((v : J) → s ≢ Ok v) → (z : K) → (s >>= k) ≢ Ok z
  fails_too s k none z e = let b = bind_ok s k z e in none b.0 b.1

  same_then : {J K : Type 0} (a : ℕ) (r s : Result J TextFault) (h k : J → Result K TextFault) → SameAt a r s
      → ((v : J) → SameAt a (h v) (k v)) → SameAt a (r >>= h) (s >>= k)
  same_then a (Ok v) s h k same more = rw same (more v)
  same_then a (Err e) s h k same more = (same.0, fails_too s k same.1)

  -- ---- numbers

  numbered_same : (a n : ℕ) (r : Result ℕ NumberFault) → SameAt a (numbered a r) (numbered n r)
  numbered_same a n (Ok v) = refl
  numbered_same a n (Err number.NotANumber) = same_err a (fault.UnknownWord a) (fault.UnknownWord n) refl
  numbered_same a n (Err number.TooLarge) = same_err a (fault.UnknownIndex a) (fault.UnknownIndex n) refl

  below_same : (a n count v : ℕ) → SameAt a (below a count v) (below n count v)
  below_same a n count v = same_if a (nat_lt v count) _ _ _ _ (same_ok a v) (same_err a (fault.UnknownIndex a) (fault.UnknownIndex n) refl)

  below_number_same : (a n count : ℕ) (digits : List ℕ) → SameAt a (numbered_below a count digits) (numbered_below n count digits)
  unfolding numbered_below
  below_number_same a n count digits = same_then a _ _ (below a count) (below n count) (numbered_same a n (number_of 4294967295 digits))
      (λ v. below_same a n count v)

  in_same : (a n letter count : ℕ) (text : List ℕ) → SameAt a (index_in a letter count text) (index_in n letter count text)
  in_same a n letter count [] = same_err a (fault.UnknownWord a) (fault.UnknownWord n) refl
  in_same a n letter count (b ∷ bs) = same_if a (b == letter) _ _ _ _ (below_number_same a n count bs)
      (same_err a (fault.UnknownWord a) (fault.UnknownWord n) refl)

  pub index_same : (letter count : ℕ) (t : Placed) (n : ℕ) → SameAt t.at (index_of letter count t)
      (index_of letter count (record { text = t.text; at = n }))
  unfolding index_of
  index_same letter count t n = in_same t.at n letter count t.text

  new_same : (a n : ℕ) (before : List ℕ) (v : ℕ) → SameAt a (new_number a before v) (new_number n before v)
  new_same a n before v = same_if a (has_number before v) _ _ _ _ (same_err a (fault.RepeatedIndex a) (fault.RepeatedIndex n) refl)
      (same_ok a v)

  priced_as_same : (a n : ℕ) (r : Result ℕ NumberFault) → SameAt a (priced_as a r) (priced_as n r)
  priced_as_same a n (Ok v) = refl
  priced_as_same a n (Err e) = same_err a (fault.NotANumber a) (fault.NotANumber n) refl

  pub price_same : (t : Placed) (n : ℕ) → SameAt t.at (priced_as t.at (number_of MAX_PRICE t.text))
      (priced_as n (number_of MAX_PRICE t.text))
  price_same t n = priced_as_same t.at n (number_of MAX_PRICE t.text)

  -- ---- patterns

  pub who_same : (a n : ℕ) (sizes : Sizes) (text : List ℕ) → SameAt a (who_in a sizes text) (who_in n sizes text)
  who_same a n sizes [] = same_err a (fault.UnknownWord a) (fault.UnknownWord n) refl
  who_same a n sizes (b ∷ bs) =
      same_if a (b == COURSE_LETTER) _ _ _ _ (same_then a _ _ (λ v. Ok (who.Course v)) (λ v. Ok (who.Course v))
      (below_number_same a n sizes.courses bs) (λ v. same_ok a (who.Course v)))
      (same_if a (b == CURRICULUM_LETTER) _ _ _ _ (same_then a _ _ (λ v. Ok (who.Curriculum v)) (λ v. Ok (who.Curriculum v))
      (below_number_same a n sizes.curricula bs) (λ v. same_ok a (who.Curriculum v)))
      (same_err a (fault.UnknownWord a) (fault.UnknownWord n) refl))

  pub given_same : (letter count : ℕ) (t : Placed) (n : ℕ) → SameAt t.at (given_of letter count t)
      (given_of letter count (record { text = t.text; at = n }))
  unfolding given_of
  given_same letter count t n =
      same_if t.at (is_text (codes "*") t.text) _ _ _ _ (same_ok {J = Option ℕ} t.at None)
      (same_then t.at _ _ (λ v. Ok (Some v)) (λ v. Ok (Some v)) (index_same letter count t n) (λ v. same_ok {J = Option ℕ} t.at (Some v)))

  -- ---- lists and prices

  pub listed_same : (sizes : Sizes) (before : List ℕ) (t : Placed) (n : ℕ) → SameAt t.at (listed_of sizes before t)
      (listed_of sizes before (record { text = t.text; at = n }))
  listed_same sizes before t n =
      same_if t.at (is_text (codes ";") t.text) _ _ _ _ (same_ok {J = Option ℕ} t.at None)
      (same_then t.at _ _ (λ v. Ok (Some v)) (λ v. Ok (Some v))
      (same_then t.at _ _ (new_number t.at before) (new_number n before) (index_same COURSE_LETTER sizes.courses t n)
      (λ v. new_same t.at n before v)) (λ v. same_ok {J = Option ℕ} t.at (Some v)))

  priced_in_same : (a n : ℕ) (sizes : Sizes) (seen : Seen) (text : List ℕ) → SameAt a (priced_in a sizes seen text)
      (priced_in n sizes seen text)
  priced_in_same a n sizes seen [] = same_err a (fault.UnknownWord a) (fault.UnknownWord n) refl
  priced_in_same a n sizes seen (b ∷ bs) =
      same_if a (b == COURSE_LETTER) _ _ _ _
      (same_then a _ _ (λ v. Ok (priced.Course v)) (λ v. Ok (priced.Course v))
      (same_then a _ _ (new_number a seen.0) (new_number n seen.0) (below_number_same a n sizes.courses bs)
      (λ v. new_same a n seen.0 v)) (λ v. same_ok a (priced.Course v)))
      (same_if a (b == ROOM_LETTER) _ _ _ _
      (same_then a _ _ (λ v. Ok (priced.Room v)) (λ v. Ok (priced.Room v))
      (same_then a _ _ (new_number a seen.1) (new_number n seen.1) (below_number_same a n sizes.rooms bs) (λ v. new_same a n seen.1 v))
      (λ v. same_ok a (priced.Room v)))
      (same_err a (fault.UnknownWord a) (fault.UnknownWord n) refl))

  pub priced_same : (sizes : Sizes) (seen : Seen) (t : Placed) (n : ℕ) → SameAt t.at (priced_of sizes seen t)
      (priced_of sizes seen (record { text = t.text; at = n }))
  priced_same sizes seen t n =
      same_if t.at (is_text (codes "/") t.text) _ _ _ _ (same_ok {J = Option Priced} t.at None)
      (same_then t.at _ _ (λ v. Ok (Some v)) (λ v. Ok (Some v)) (priced_in_same t.at n sizes seen t.text)
      (λ v. same_ok {J = Option Priced} t.at (Some v)))

  -- ---- words

  pub claim_word_same : (version : ℕ) (t : Placed) (n : ℕ) → SameAt t.at (claim_word_of version t)
      (claim_word_of version (record { text = t.text; at = n }))
  claim_word_same version t n =
      let some : (w : ClaimWord) → SameAt t.at (Ok (Some w)) (Ok (Some w)) = λ w. same_ok t.at (Some w) in
      same_if t.at (is_text (codes ";") t.text) _ _ _ _ (same_ok {J = Option ClaimWord} t.at None)
      (same_if t.at (is_text (codes "C") t.text) _ _ _ _ (some claim_word.Capacity)
      (same_if t.at (is_text (codes "D") t.text) _ _ _ _ (some claim_word.Days)
      (same_if t.at (is_text (codes "Q") t.text) _ _ _ _ (some claim_word.Compact)
      (same_if t.at (is_text (codes "R") t.text) _ _ _ _ (some claim_word.Stable)
      (same_if t.at (version == 2 && is_text (codes "P") t.text) _ _ _ _ (some claim_word.Prices)
      (same_if t.at (version == 2 && is_text (codes "T") t.text) _ _ _ _ (some claim_word.Stacked)
      (same_err t.at (fault.UnknownWord t.at) (fault.UnknownWord n) refl)))))))

  pub node_word_same : (t : Placed) (n : ℕ) → SameAt t.at (node_word_of t) (node_word_of (record { text = t.text; at = n }))
  node_word_same t n =
      let is : (w : NodeWord) → SameAt t.at (Ok w) (Ok w) = λ w. same_ok t.at w in
      same_if t.at (is_text (codes "S") t.text) _ _ _ _ (is node_word.Split)
      (same_if t.at (is_text (codes "E") t.text) _ _ _ _ (is node_word.Empty)
      (same_if t.at (is_text (codes "M") t.text) _ _ _ _ (is node_word.Many)
      (same_if t.at (is_text (codes "K") t.text) _ _ _ _ (is node_word.Clique)
      (same_if t.at (is_text (codes "H") t.text) _ _ _ _ (is node_word.Slots)
      (same_if t.at (is_text (codes "B") t.text) _ _ _ _ (is node_word.Cost)
      (same_err t.at (fault.UnknownWord t.at) (fault.UnknownWord n) refl))))))

  pub counted_same : (a n count : ℕ) → SameAt a (counted a count) (counted n count)
  counted_same a n count = same_if a (nat_lt count MAX_PROOF_NODES) _ _ _ _ (same_ok a tt)
      (same_err a (fault.TooManyNodes a) (fault.TooManyNodes n) refl)

  -- ---- the header

  pub version_same : (t : Placed) (n : ℕ) → SameAt t.at (version_of t) (version_of (record { text = t.text; at = n }))
  version_same t n =
      same_if t.at (is_text (codes "1") t.text) _ _ _ _ (same_ok t.at 1)
      (same_if t.at (is_text (codes "2") t.text) _ _ _ _ (same_ok t.at 2)
      (same_err t.at (fault.Expected word.One t.at) (fault.Expected word.One n) refl))

  bounded_same : (a n : ℕ) (r : Result ℕ NumberFault) → SameAt a (bounded a r) (bounded n r)
  bounded_same a n (Ok v) = refl
  bounded_same a n (Err e) = same_err a (fault.NotANumber a) (fault.NotANumber n) refl

  pub bound_same : (t : Placed) (n : ℕ) → SameAt t.at (bound_of t) (bound_of (record { text = t.text; at = n }))
  unfolding bound_of
  bound_same t n = same_if t.at (is_text (codes "none") t.text) _ _ _ _ (same_ok t.at bound.Nothing)
      (bounded_same t.at n (number_of MAX_POINTS t.text))
