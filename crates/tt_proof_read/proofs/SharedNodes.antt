-- Each part of the reader of a proof over one stream, compared with the same part over another stream.
use Rattle.std.proofs.Common.{inr, ℕ, List, [], ◌∷◌, Option, Some, None, Result, Ok, Err, subst}
use Rattle.std.specs.List.{push}
use Rattle.tt_text.specs.Tokens.{Placed}
use Rattle.tt_text.specs.Texts.{is_text}
use Rattle.tt_text.specs.Numbers.{number_of}
use Rattle.tt_text.specs.Feeds.{Stream}
use Rattle.tt_text.proofs.Steps.{ok_is}
use Rattle.tt_text.specs.declared.feed.FeedFault.{FeedFault}
use Rattle.tt_instance.proofs.Shared.{NoneAt, Shared, Apart, Next, other_offset}
use Rattle.tt_proof_read.specs.Reading.{word_at, index_of, course_at, curriculum_at, priced_as, price_at, who_in, who_at, given_of, given_at, pattern_at, listed_of, listed_at, list_at, Seen, seen_in, with_price, pair_at, next_pair_at, with_pair, prices_at, claim_after_word, claim_then, claim_at, claims_at, node_after_word, node_at, version_of, version_at, bound_of, bound_at, header_at, no_more, end_at}
use Rattle.tt_proof_read.specs.Words.{word_text}
use Rattle.tt_proof_read.specs.declared.fault.Word.{Word}
use Rattle.tt_proof_read.specs.declared.fault.Word.TheVariants as word
use Rattle.tt_proof_read.specs.declared.fault.TextFault.TheVariants as fault
use Rattle.tt_proof_read.specs.declared.claims.ClaimWord.{ClaimWord}
use Rattle.tt_proof_read.specs.declared.claims.ClaimWord.TheVariants as claim_word
use Rattle.tt_proof_read.specs.declared.format.TheConstants.{COURSE_LETTER, CURRICULUM_LETTER, DAY_LETTER, MAX_PRICE, PERIOD_LETTER, ROOM_LETTER}
use Rattle.tt_proof_read.specs.declared.nodes.NodeWord.{NodeWord}
use Rattle.tt_proof_read.specs.declared.nodes.NodeWord.TheVariants as node_word
use Rattle.tt_proof_read.specs.declared.prices.Priced.{Priced}
use Rattle.tt_proof_read.specs.declared.sizes.Sizes.{Sizes}
use Rattle.tt_proof_read.proofs.Sharing.{EndsElsewhere, NoneIn, SharedIn, StaysAt, Meets, ReadsAlike, SkipsAlike, EndsAlike, stays_meets, ok_reads, on_condition, then_reads, then_skips, err_reads, if_reads, then_verdict, then_token, one_alike, all_alike}
use Rattle.tt_proof_read.proofs.SharedTokens.{index_same, price_same, who_same, given_same, listed_same, priced_same, claim_word_same, node_word_same, counted_same, version_same, bound_same}

module _ (at : ℕ) where
  -- the stream that is left is given back
  left_skips : {condition : Type 0} → SkipsAlike at condition (λ s. Ok s) (λ u. Ok u)
  left_skips = record { stays = λ c s none. none; meets = λ s u shared. ok_left s u shared }
    where
      ok_left : (s u : Stream) → SharedIn at s u → Meets at (NoneIn at) (SharedIn at) (Ok s) (Ok u)
      ok_left s u shared = inr (λ y e. subst (SharedIn at s) (ok_is u y e) shared)

  -- ---- single tokens

  pub word_alike : (w : Word) → SkipsAlike at (Unit {0}) (word_at w) (word_at w)
  unfolding word_at
  word_alike w =
      then_token _ _
      (λ t n. if_reads (is_text (word_text w) t.text) left_skips
      (err_reads (fault.Expected w t.at) (fault.Expected w n) (other_offset at t.at)))

  course_alike : (sizes : Sizes) → ReadsAlike at (Unit {0}) (course_at sizes) (course_at sizes)
  unfolding course_at
  course_alike sizes = one_alike (index_of COURSE_LETTER sizes.courses) (index_same at COURSE_LETTER sizes.courses)

  curriculum_alike : (sizes : Sizes) → ReadsAlike at (Unit {0}) (curriculum_at sizes) (curriculum_at sizes)
  unfolding curriculum_at
  curriculum_alike sizes = one_alike (index_of CURRICULUM_LETTER sizes.curricula) (index_same at CURRICULUM_LETTER sizes.curricula)

  price_alike : ReadsAlike at (Unit {0}) price_at price_at
  unfolding price_at
  price_alike = one_alike (λ t. priced_as t.at (number_of MAX_PRICE t.text)) (price_same at)

  -- ---- patterns

  who_alike : (sizes : Sizes) → ReadsAlike at (Unit {0}) (who_at sizes) (who_at sizes)
  unfolding who_at
  who_alike sizes = one_alike (λ t. who_in t.at sizes t.text) (λ t n. who_same at t.at n sizes t.text)

  given_alike : (letter count : ℕ) → ReadsAlike at (Unit {0}) (given_at letter count) (given_at letter count)
  unfolding given_at
  given_alike letter count = one_alike (given_of letter count) (given_same at letter count)

  pattern_alike : (sizes : Sizes) → ReadsAlike at (Unit {0}) (pattern_at sizes) (pattern_at sizes)
  unfolding pattern_at
  pattern_alike sizes =
      then_reads _ _ (who_alike sizes) (λ who. then_reads _ _ (given_alike ROOM_LETTER sizes.rooms) (λ room.
      then_reads _ _ (given_alike DAY_LETTER sizes.days)
      (λ day. then_reads _ _ (given_alike PERIOD_LETTER sizes.periods) (λ period. ok_reads _))))

  -- ---- lists

  listed_alike : (sizes : Sizes) (before : List ℕ) → ReadsAlike at (Unit {0}) (listed_at sizes before) (listed_at sizes before)
  unfolding listed_at
  listed_alike sizes before = one_alike (listed_of sizes before) (listed_same at sizes before)

  list_alike : (sizes : Sizes) → ReadsAlike at (Unit {0}) (list_at sizes) (list_at sizes)
  unfolding list_at
  list_alike sizes = all_alike at push (listed_at sizes) (listed_alike sizes) []

  -- ---- prices

  priced_alike : (x : Option Priced) → ReadsAlike at (Unit {0}) (with_price x) (with_price x)
  priced_alike None = ok_reads None
  priced_alike (Some x) = then_reads _ _ price_alike (λ u. ok_reads _)

  pair_alike : (sizes : Sizes) (seen : Seen) → ReadsAlike at (Unit {0}) (pair_at sizes seen) (pair_at sizes seen)
  unfolding pair_at
  pair_alike sizes seen = then_token _ _ (λ t n. then_verdict _ _ _ _ (priced_same at sizes seen t n) (λ x. on_condition (priced_alike x)))

  prices_alike : (sizes : Sizes) → ReadsAlike at (Unit {0}) (prices_at sizes) (prices_at sizes)
  unfolding prices_at
  prices_alike sizes = all_alike at with_pair (next_pair_at sizes) (λ kept. pair_alike sizes (seen_in kept)) ([], [])

  -- ---- claims

  after_claim_word_alike : (sizes : Sizes) (w : ClaimWord) → ReadsAlike at (Unit {0}) (claim_after_word sizes w) (claim_after_word sizes w)
  unfolding claim_after_word
  after_claim_word_alike sizes claim_word.Capacity = then_reads _ _ (course_alike sizes) (λ c. then_reads _ _ price_alike (λ u. ok_reads _))
  after_claim_word_alike sizes claim_word.Days = then_reads _ _ (course_alike sizes) (λ c. ok_reads _)
  after_claim_word_alike sizes claim_word.Compact = then_reads _ _ (curriculum_alike sizes) (λ q. ok_reads _)
  after_claim_word_alike sizes claim_word.Stable = then_reads _ _ (course_alike sizes) (λ c. ok_reads _)
  after_claim_word_alike sizes claim_word.Prices = then_reads _ _ (prices_alike sizes) (λ k. ok_reads _)
  after_claim_word_alike sizes claim_word.Stacked = then_reads _ _ (course_alike sizes) (λ c. ok_reads _)

  claimed_alike : (sizes : Sizes) (w : Option ClaimWord) → ReadsAlike at (Unit {0}) (claim_then sizes w) (claim_then sizes w)
  claimed_alike sizes None = ok_reads None
  claimed_alike sizes (Some w) = then_reads _ _ (after_claim_word_alike sizes w) (λ c. ok_reads _)

  claim_alike : (sizes : Sizes) (version : ℕ) → ReadsAlike at (Unit {0}) (claim_at sizes version) (claim_at sizes version)
  unfolding claim_at
  claim_alike sizes version =
      then_token _ _ (λ t n. then_verdict _ _ _ _ (claim_word_same at version t n) (λ w. on_condition (claimed_alike sizes w)))

  claims_alike : (sizes : Sizes) (version : ℕ) → ReadsAlike at (Unit {0}) (claims_at sizes version) (claims_at sizes version)
  unfolding claims_at
  claims_alike sizes version = all_alike at push (λ _ rest. claim_at sizes version rest) (λ kept. claim_alike sizes version) []

  -- ---- nodes

  after_node_word_alike : (sizes : Sizes) (version : ℕ) (w : NodeWord) → ReadsAlike at (Unit {0}) (node_after_word sizes version w)
      (node_after_word sizes version w)
  unfolding node_after_word
  after_node_word_alike sizes version node_word.Split = then_reads _ _ (pattern_alike sizes) (λ g. ok_reads _)
  after_node_word_alike sizes version node_word.Empty = then_reads _ _ (pattern_alike sizes) (λ g. ok_reads _)
  after_node_word_alike sizes version node_word.Many = then_reads _ _ (course_alike sizes) (λ c. ok_reads _)
  after_node_word_alike sizes version node_word.Clique = then_reads _ _ (list_alike sizes) (λ l. ok_reads _)
  after_node_word_alike sizes version node_word.Slots = then_reads _ _ (list_alike sizes) (λ l. ok_reads _)
  after_node_word_alike sizes version node_word.Cost = then_reads _ _ (claims_alike sizes version) (λ l. ok_reads _)

  pub node_alike : (sizes : Sizes) (version count : ℕ) → ReadsAlike at (Unit {0}) (node_at sizes version count)
      (node_at sizes version count)
  unfolding node_at
  node_alike sizes version count =
      then_token _ _ (λ t n. then_verdict _ _ _ _ (counted_same at t.at n count) (λ u.
      then_verdict _ _ _ _ (node_word_same at t n) (λ w. on_condition (after_node_word_alike sizes version w))))

  -- ---- the header and the end

  version_alike : ReadsAlike at (Unit {0}) version_at version_at
  unfolding version_at
  version_alike = one_alike version_of (version_same at)

  bound_alike : ReadsAlike at (Unit {0}) bound_at bound_at
  unfolding bound_at
  bound_alike = one_alike bound_of (bound_same at)

  pub header_alike : ReadsAlike at (Unit {0}) header_at header_at
  unfolding header_at
  header_alike =
      then_skips _ _ (word_alike word.Cttp) (then_reads _ _ version_alike (λ version.
      then_skips _ _ (word_alike word.Bound) (then_reads _ _ bound_alike (λ b. ok_reads _))))

  -- no token after the last
  no_more_stays : (ts : List Placed) (stop : Result ℕ FeedFault) → NoneAt at ts → EndsElsewhere at stop
      → StaysAt at (λ _. Unit {0}) (no_more ts stop)
  no_more_stays [] (Ok n) none elsewhere = tt
  no_more_stays [] (Err f) none elsewhere = elsewhere
  no_more_stays (t ∷ ts) stop none elsewhere = other_offset at t.at none.0

  no_more_meets : (ts us : List Placed) (stop other : Result ℕ FeedFault) → Shared at ts us → EndsElsewhere at stop
      → Meets at (λ _. Unit {0}) (λ _ _. Unit {0}) (no_more ts stop) (no_more us other)
  no_more_meets ts us stop other (Apart none) elsewhere = stays_meets at (λ _. Unit {0}) (λ _ _. Unit {0}) (no_more ts stop)
      (no_more us other) (no_more_stays ts stop none elsewhere)
  no_more_meets ts us stop other (Next n shared) elsewhere = inr (λ y e. cc)

  pub end_alike : EndsAlike at (Unit {0}) end_at end_at
  unfolding end_at
  end_alike = then_skips _ _ (word_alike word.End) (record {
    stays = λ c s none. no_more_stays s.tokens s.stop none.0 none.1;
    meets = λ s u shared. no_more_meets s.tokens u.tokens s.stop u.stop shared.0 shared.1;
  })
