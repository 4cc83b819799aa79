-- The result of reading a proof: a value and the rest of the stream, or the first fault from the left. All checks of one token come
-- before the next token.
use Rattle.std.specs.Prelude.{ℕ, zero, suc, ◌==◌, nat_lt, ◌&&◌, if◌then◌else◌, List, [], ◌∷◌, length, map, Option, Some, None, Result, Ok, Err, codes}
use Rattle.std.specs.List.{push}
use Rattle.tt_list_laws.specs.Words.{has_number}
use Rattle.tt_text.specs.Tokens.{Placed}
use Rattle.tt_text.specs.Texts.{is_text}
use Rattle.tt_text.specs.Numbers.{number_of}
use Rattle.tt_text.specs.Feeds.{Stream, stopped}
use Rattle.tt_text.specs.Reading.{◌>>=◌}
use Rattle.tt_text.specs.declared.feed.FeedFault.{FeedFault}
use Rattle.tt_text.specs.declared.numbers.NumberFault.{NumberFault}
use Rattle.tt_text.specs.declared.numbers.NumberFault.TheVariants as number
use Rattle.tt_path.specs.declared.facts.Who.{Who}
use Rattle.tt_path.specs.declared.facts.Who.TheVariants as who
use Rattle.tt_path.specs.declared.facts.Pattern.{Pattern}
use Rattle.tt_leaf.specs.declared.leaf.Bound.{Bound}
use Rattle.tt_leaf.specs.declared.leaf.Bound.TheVariants as bound
use Rattle.tt_leaf.specs.declared.leaf.Claim.{Claim}
use Rattle.tt_leaf.specs.declared.leaf.Claim.TheVariants as claim
use Rattle.tt_leaf.specs.declared.leaf.Leaf.TheVariants as leaf
use Rattle.tt_proof_read.specs.Words.{word_text}
use Rattle.tt_proof_read.specs.Faults.{fault_from_feed}
use Rattle.tt_proof_read.specs.declared.fault.Word.{Word}
use Rattle.tt_proof_read.specs.declared.fault.Word.TheVariants as word
use Rattle.tt_proof_read.specs.declared.fault.TextFault.{TextFault}
use Rattle.tt_proof_read.specs.declared.fault.TextFault.TheVariants as fault
use Rattle.tt_proof_read.specs.declared.claims.ClaimWord.{ClaimWord}
use Rattle.tt_proof_read.specs.declared.claims.ClaimWord.TheVariants as claim_word
use Rattle.tt_proof_read.specs.declared.format.TheConstants.{COURSE_LETTER, CURRICULUM_LETTER, DAY_LETTER, MAX_INDEX, MAX_PROOF_NODES, MAX_POINTS, MAX_PRICE, PERIOD_LETTER, ROOM_LETTER}
use Rattle.tt_proof_read.specs.declared.node.Node.{Node}
use Rattle.tt_proof_read.specs.declared.node.Node.TheVariants as node
use Rattle.tt_proof_read.specs.declared.nodes.NodeWord.{NodeWord}
use Rattle.tt_proof_read.specs.declared.nodes.NodeWord.TheVariants as node_word
use Rattle.tt_proof_read.specs.declared.prices.Priced.{Priced}
use Rattle.tt_proof_read.specs.declared.prices.Priced.TheVariants as priced
use Rattle.tt_proof_read.specs.declared.sizes.Sizes.{Sizes}

-- ---- single tokens

-- The fault if a token is missing.
abbrev pub ended_as : Result ℕ FeedFault → TextFault
ended_as (Ok n) = fault.Ended n
ended_as (Err f) = fault_from_feed f

-- The first token and the rest of the stream, or a fault if there is no token.
abbrev pub first_of : List Placed → Result ℕ FeedFault → Result (Placed × Stream) TextFault
first_of [] stop = Err (ended_as stop)
first_of (t ∷ ts) stop = Ok (t, record { tokens = ts; stop = stop })

-- The next token.
unfoldable pub token_at : Stream → Result (Placed × Stream) TextFault
token_at s = first_of s.tokens s.stop

-- The value made of the next token.
abbrev pub one_at : {A : Type 0} → (Placed → Result A TextFault) → Stream → Result (A × Stream) TextFault
one_at make s = do
  t ← token_at s
  a ← make t.0
  Ok (a, t.1)

-- A fixed word.
unfoldable pub word_at : Word → Stream → Result Stream TextFault
word_at w s = do
  t ← token_at s
  if is_text (word_text w) t.0.text then Ok t.1 else Err (fault.Expected w t.0.at)

-- A number after a letter.
abbrev pub numbered : ℕ → Result ℕ NumberFault → Result ℕ TextFault
numbered at (Ok n) = Ok n
numbered at (Err number.NotANumber) = Err (fault.UnknownWord at)
numbered at (Err number.TooLarge) = Err (fault.UnknownIndex at)

-- The number if it is below the count, otherwise a fault.
abbrev pub below : ℕ → ℕ → ℕ → Result ℕ TextFault
below at count n = if nat_lt n count then Ok n else Err (fault.UnknownIndex at)

-- The number after a letter, below a count.
unfoldable pub numbered_below : ℕ → ℕ → List ℕ → Result ℕ TextFault
numbered_below at count digits = numbered at (number_of MAX_INDEX digits) >>= below at count

-- The number below the count that follows the letter in the bytes of a token, otherwise a fault.
abbrev pub index_in : ℕ → ℕ → ℕ → List ℕ → Result ℕ TextFault
index_in at letter count [] = Err (fault.UnknownWord at)
index_in at letter count (b ∷ bs) = if b == letter then numbered_below at count bs else Err (fault.UnknownWord at)

-- A letter and a number below a count, in one token.
unfoldable pub index_of : ℕ → ℕ → Placed → Result ℕ TextFault
index_of letter count t = index_in t.at letter count t.text

-- A number that differs from those before it.
abbrev pub new_number : ℕ → List ℕ → ℕ → Result ℕ TextFault
new_number at before n = if has_number before n then Err (fault.RepeatedIndex at) else Ok n

-- `c` and the number of a course.
unfoldable pub course_at : Sizes → Stream → Result (ℕ × Stream) TextFault
course_at sizes s = one_at (index_of COURSE_LETTER sizes.courses) s

-- `q` and the number of a curriculum.
unfoldable pub curriculum_at : Sizes → Stream → Result (ℕ × Stream) TextFault
curriculum_at sizes s = one_at (index_of CURRICULUM_LETTER sizes.curricula) s

-- The number, or a fault if the token is no number or the number is above its limit.
abbrev pub priced_as : ℕ → Result ℕ NumberFault → Result ℕ TextFault
priced_as at (Ok n) = Ok n
priced_as at (Err e) = Err (fault.NotANumber at)

-- A price, at most 1,000,000.
unfoldable pub price_at : Stream → Result (ℕ × Stream) TextFault
price_at s = one_at (λ t. priced_as t.at (number_of MAX_PRICE t.text)) s

-- ---- patterns

-- The course or curriculum that the bytes of a token name, otherwise a fault.
abbrev pub who_in : ℕ → Sizes → List ℕ → Result Who TextFault
who_in at sizes [] = Err (fault.UnknownWord at)
who_in at sizes (b ∷ bs) =
    if b == COURSE_LETTER then (numbered_below at sizes.courses bs >>= λ n. Ok (who.Course n))
    else (if b == CURRICULUM_LETTER then (numbered_below at sizes.curricula bs >>= λ n. Ok (who.Curriculum n)) else Err (fault.UnknownWord at))

-- A course or a curriculum.
unfoldable pub who_at : Sizes → Stream → Result (Who × Stream) TextFault
who_at sizes s = one_at (λ t. who_in t.at sizes t.text) s

-- A letter and a number below a count, or `*`.
unfoldable pub given_of : ℕ → ℕ → Placed → Result (Option ℕ) TextFault
given_of letter count t = if is_text (codes "*") t.text then Ok None else (index_of letter count t >>= λ n. Ok (Some n))

-- The number after its letter in the next token, or none for `*`.
unfoldable pub given_at : ℕ → ℕ → Stream → Result (Option ℕ × Stream) TextFault
given_at letter count s = one_at (given_of letter count) s

-- The course or curriculum, the room, the day and the period.
unfoldable pub pattern_at : Sizes → Stream → Result (Pattern × Stream) TextFault
pattern_at sizes s = do
  who ← who_at sizes s
  room ← given_at ROOM_LETTER sizes.rooms who.1
  day ← given_at DAY_LETTER sizes.days room.1
  period ← given_at PERIOD_LETTER sizes.periods day.1
  Ok (record { who = who.0; room = room.0; day = day.0; period = period.0 }, period.1)

-- ---- parts up to their end

-- At the end, the collected value; otherwise more parts after adding the next one.
abbrev pub collected_then : {S X : Type 0} → (S → X → S) → S → Stream → (S → Result (S × Stream) TextFault) → Option X → Result (S × Stream) TextFault
collected_then add kept rest more None = Ok (kept, rest)
collected_then add kept rest more (Some x) = more (add kept x)

-- The value collected from parts up to their end; each part is read given the value collected before it. Fewer than n tokens are left.
unfoldable pub up_to_end : {S X : Type 0} → (S → X → S) → (S → Stream → Result (Option X × Stream) TextFault) → ℕ → S → Stream → Result (S × Stream) TextFault
up_to_end add part zero kept s = Err (ended_as s.stop)
up_to_end add part (suc n) kept s = do
  x ← part kept s
  collected_then add kept x.1 (λ now. up_to_end add part n now x.1) x.0

-- ---- the courses of a clique or of slots

-- The course in a token, other than those before it, or none if the token is `;`.
abbrev pub listed_of : Sizes → List ℕ → Placed → Result (Option ℕ) TextFault
listed_of sizes before t = if is_text (codes ";") t.text then Ok None else (index_of COURSE_LETTER sizes.courses t >>= new_number t.at before >>= λ c. Ok (Some c))

-- A course that differs from those before it, or none at `;`.
unfoldable pub listed_at : Sizes → List ℕ → Stream → Result (Option ℕ × Stream) TextFault
listed_at sizes before s = one_at (listed_of sizes before) s

-- Distinct courses up to `;`.
unfoldable pub list_at : Sizes → Stream → Result (List ℕ × Stream) TextFault
list_at sizes s = up_to_end push (listed_at sizes) (suc (length s.tokens)) [] s

-- ---- prices of courses and of rooms

-- The prices of courses, and the prices of rooms.
abbrev pub PriceLists : Type 0
PriceLists = List (ℕ × ℕ) × List (ℕ × ℕ)

-- The courses and the rooms that have a price.
abbrev pub Seen : Type 0
Seen = List ℕ × List ℕ

-- The courses and the rooms that these lists give a price.
abbrev pub seen_in : PriceLists → Seen
seen_in kept = (map (λ k. k.0) kept.0, map (λ k. k.0) kept.1)

-- The course or room without a price that the bytes of a token name, otherwise a fault.
abbrev pub priced_in : ℕ → Sizes → Seen → List ℕ → Result Priced TextFault
priced_in at sizes seen [] = Err (fault.UnknownWord at)
priced_in at sizes seen (b ∷ bs) =
    if b == COURSE_LETTER then (numbered_below at sizes.courses bs >>= new_number at seen.0 >>= λ n. Ok (priced.Course n))
    else (if b == ROOM_LETTER then (numbered_below at sizes.rooms bs >>= new_number at seen.1 >>= λ n. Ok (priced.Room n)) else Err (fault.UnknownWord at))

-- A course or a room that has no price yet, or none at `/`.
abbrev pub priced_of : Sizes → Seen → Placed → Result (Option Priced) TextFault
priced_of sizes seen t = if is_text (codes "/") t.text then Ok None else (priced_in t.at sizes seen t.text >>= λ x. Ok (Some x))

-- A course or room and the price that follows it; none if there is no course or room.
abbrev pub with_price : Option Priced → Stream → Result (Option (Priced × ℕ) × Stream) TextFault
with_price None s = Ok (None, s)
with_price (Some x) s = price_at s >>= λ u. Ok (Some (x, u.0), u.1)

-- A course or a room with its price, or none at `/`.
unfoldable pub pair_at : Sizes → Seen → Stream → Result (Option (Priced × ℕ) × Stream) TextFault
pair_at sizes seen s = do
  t ← token_at s
  x ← priced_of sizes seen t.0
  with_price x t.1

-- A pair after those collected.
abbrev pub next_pair_at : Sizes → PriceLists → Stream → Result (Option (Priced × ℕ) × Stream) TextFault
next_pair_at sizes kept s = pair_at sizes (seen_in kept) s

-- The lists of prices, with a price added for a course or a room.
abbrev pub with_priced : PriceLists → Priced → ℕ → PriceLists
with_priced kept (priced.Course c) u = (push kept.0 (c, u), kept.1)
with_priced kept (priced.Room r) u = (kept.0, push kept.1 (r, u))

-- The lists of prices, with a pair of a course or room and its price added.
abbrev pub with_pair : PriceLists → Priced × ℕ → PriceLists
with_pair kept x = with_priced kept x.0 x.1

-- Pairs up to `/`.
unfoldable pub prices_at : Sizes → Stream → Result (PriceLists × Stream) TextFault
prices_at sizes s = up_to_end with_pair (next_pair_at sizes) (suc (length s.tokens)) ([], []) s

-- ---- claims

-- The word of a claim, or none at `;`. `P` and `T` are words of version 2.
abbrev pub claim_word_of : ℕ → Placed → Result (Option ClaimWord) TextFault
claim_word_of version t =
    if is_text (codes ";") t.text then Ok None
    else (if is_text (codes "C") t.text then Ok (Some claim_word.Capacity)
    else (if is_text (codes "D") t.text then Ok (Some claim_word.Days)
    else (if is_text (codes "Q") t.text then Ok (Some claim_word.Compact)
    else (if is_text (codes "R") t.text then Ok (Some claim_word.Stable)
    else (if version == 2 && is_text (codes "P") t.text then Ok (Some claim_word.Prices)
    else (if version == 2 && is_text (codes "T") t.text then Ok (Some claim_word.Stacked)
    else Err (fault.UnknownWord t.at)))))))

-- The rest of a claim after its word.
unfoldable pub claim_after_word : Sizes → ClaimWord → Stream → Result (Claim × Stream) TextFault
claim_after_word sizes claim_word.Capacity s = do
  c ← course_at sizes s
  u ← price_at c.1
  Ok (claim.Capacity c.0 u.0, u.1)
claim_after_word sizes claim_word.Days s = course_at sizes s >>= λ c. Ok (claim.Days c.0, c.1)
claim_after_word sizes claim_word.Compact s = curriculum_at sizes s >>= λ q. Ok (claim.Compact q.0, q.1)
claim_after_word sizes claim_word.Stable s = course_at sizes s >>= λ c. Ok (claim.Stable c.0, c.1)
claim_after_word sizes claim_word.Prices s = prices_at sizes s >>= λ k. Ok (claim.Prices k.0.0 k.0.1, k.1)
claim_after_word sizes claim_word.Stacked s = course_at sizes s >>= λ c. Ok (claim.Stacked c.0, c.1)

-- The claim that begins with this word, or none if there is no word.
abbrev pub claim_then : Sizes → Option ClaimWord → Stream → Result (Option Claim × Stream) TextFault
claim_then sizes None s = Ok (None, s)
claim_then sizes (Some w) s = claim_after_word sizes w s >>= λ c. Ok (Some c.0, c.1)

-- A claim, or none at `;`.
unfoldable pub claim_at : Sizes → ℕ → Stream → Result (Option Claim × Stream) TextFault
claim_at sizes version s = do
  t ← token_at s
  w ← claim_word_of version t.0
  claim_then sizes w t.1

-- Claims up to `;`.
unfoldable pub claims_at : Sizes → ℕ → Stream → Result (List Claim × Stream) TextFault
claims_at sizes version s = up_to_end push (λ _ rest. claim_at sizes version rest) (suc (length s.tokens)) [] s

-- ---- nodes

-- The word in a token that begins a node: a split or one of the five kinds of leaves.
abbrev pub node_word_of : Placed → Result NodeWord TextFault
node_word_of t =
    if is_text (codes "S") t.text then Ok node_word.Split
    else (if is_text (codes "E") t.text then Ok node_word.Empty
    else (if is_text (codes "M") t.text then Ok node_word.Many
    else (if is_text (codes "K") t.text then Ok node_word.Clique
    else (if is_text (codes "H") t.text then Ok node_word.Slots
    else (if is_text (codes "B") t.text then Ok node_word.Cost
    else Err (fault.UnknownWord t.at))))))

-- The rest of a node after its word.
unfoldable pub node_after_word : Sizes → ℕ → NodeWord → Stream → Result (Node × Stream) TextFault
node_after_word sizes version node_word.Split s = pattern_at sizes s >>= λ g. Ok (node.Split g.0, g.1)
node_after_word sizes version node_word.Empty s = pattern_at sizes s >>= λ g. Ok (node.Leaf (leaf.Empty g.0), g.1)
node_after_word sizes version node_word.Many s = course_at sizes s >>= λ c. Ok (node.Leaf (leaf.Many c.0), c.1)
node_after_word sizes version node_word.Clique s = list_at sizes s >>= λ l. Ok (node.Leaf (leaf.Clique l.0), l.1)
node_after_word sizes version node_word.Slots s = list_at sizes s >>= λ l. Ok (node.Leaf (leaf.Slots l.0), l.1)
node_after_word sizes version node_word.Cost s = claims_at sizes version s >>= λ l. Ok (node.Leaf (leaf.Cost l.0), l.1)

-- A file has at most 16,777,216 nodes.
abbrev pub counted : ℕ → ℕ → Result (Unit {0}) TextFault
counted at count = if nat_lt count MAX_PROOF_NODES then Ok tt else Err (fault.TooManyNodes at)

-- A node, with this many nodes before it.
unfoldable pub node_at : Sizes → ℕ → ℕ → Stream → Result (Node × Stream) TextFault
node_at sizes version count s = do
  t ← token_at s
  counted t.0.at count >>= λ (_ : Unit {0}). node_word_of t.0 >>= λ w. node_after_word sizes version w t.1

-- ---- the header

-- The version in a token, 1 or 2.
abbrev pub version_of : Placed → Result ℕ TextFault
version_of t = if is_text (codes "1") t.text then Ok 1 else (if is_text (codes "2") t.text then Ok 2 else Err (fault.Expected word.One t.at))

-- `1` or `2`.
unfoldable pub version_at : Stream → Result (ℕ × Stream) TextFault
version_at s = one_at version_of s

-- The bound of at least this number, or a fault if the token is no number or the number is above its limit.
abbrev pub bounded : ℕ → Result ℕ NumberFault → Result Bound TextFault
bounded at (Ok n) = Ok (bound.AtLeast n)
bounded at (Err e) = Err (fault.NotANumber at)

-- `none`, or a number up to 1,000,000,000,000.
unfoldable pub bound_of : Placed → Result Bound TextFault
bound_of t = if is_text (codes "none") t.text then Ok bound.Nothing else bounded t.at (number_of MAX_POINTS t.text)

-- The bound in the next token.
unfoldable pub bound_at : Stream → Result (Bound × Stream) TextFault
bound_at s = one_at bound_of s

-- The version and the bound.
unfoldable pub header_at : Stream → Result ((ℕ × Bound) × Stream) TextFault
header_at s = do
  cttp ← word_at word.Cttp s
  version ← version_at cttp
  named ← word_at word.Bound version.1
  b ← bound_at named
  Ok ((version.0, b.0), b.1)

-- ---- the end

-- No token comes after the last one.
abbrev pub no_more : List Placed → Result ℕ FeedFault → Result Stream TextFault
no_more [] (Ok n) = Ok (stopped (Ok n))
no_more [] (Err f) = Err (fault_from_feed f)
no_more (t ∷ ts) stop = Err (fault.TrailingToken t.at)

-- The last token.
unfoldable pub end_at : Stream → Result Stream TextFault
end_at s = do
  rest ← word_at word.End s
  no_more rest.tokens rest.stop
