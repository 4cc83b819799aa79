-- Nodes as they appear in a file, for two courses, a curriculum, two rooms, a day and three periods.
use Rattle.std.proofs.Common.{◌≡◌, ℕ, List, [], ◌∷◌, Some, None, Ok, Err, codes, refl}
use Rattle.tt_text.specs.Tokens.{tokens_from, tokens_of}
use Rattle.tt_text.specs.Numbers.{number_of}
use Rattle.tt_text.specs.Feeds.{Stream, fault_from, stream_from, stopped}
use Rattle.tt_text.specs.declared.feed.TheConstants.{MAX_BYTES}
use Rattle.tt_text.specs.CutShort.{cut_short}
use Rattle.tt_text.specs.declared.feed.FeedFault.TheVariants.{Read}
use Rattle.tt_path.specs.declared.facts.Who.TheVariants.{Curriculum}
use Rattle.tt_leaf.specs.declared.leaf.Bound.TheVariants.{AtLeast}
use Rattle.tt_leaf.specs.declared.leaf.Claim.TheVariants as claim
use Rattle.tt_leaf.specs.declared.leaf.Leaf.TheVariants as leaf
use Rattle.tt_proof_read.specs.Faults.{read_failed}
use Rattle.tt_proof_read.specs.Reading.{token_at, word_at, numbered_below, index_of, course_at, price_at, who_at, given_of, given_at, pattern_at, up_to_end, listed_at, list_at, pair_at, prices_at, claim_after_word, claim_at, claims_at, node_after_word, node_at, version_at, bound_of, bound_at, header_at, end_at}
use Rattle.tt_proof_read.specs.declared.fault.TextFault.TheVariants as fault
use Rattle.tt_proof_read.specs.declared.fault.Word.TheVariants as word
use Rattle.tt_proof_read.specs.declared.node.Node.TheVariants as node
use Rattle.tt_proof_read.specs.declared.sizes.Sizes.{Sizes}

-- the numbers of courses, curricula, rooms, days and periods
abbrev sizes : Sizes
sizes = record { courses = 2; curricula = 1; rooms = 2; days = 1; periods = 3 }

-- the tokens of some bytes, and then the end of a file of 99 bytes
abbrev behind : List ℕ → Stream
behind bytes = record { tokens = tokens_of bytes; stop = Ok 99 }

-- a bound with a leading zero
a_header : header_at (behind (codes "CTTP 2 bound 05")) ≡ Ok ((2, AtLeast 5), stopped (Ok 99))
unfolding tokens_from number_of token_at word_at version_at bound_of bound_at header_at
a_header = refl

-- a curriculum in any room
a_split : node_at sizes 1 0 (behind (codes "S q0 * d0 p2")) ≡ Ok
    (node.Split (record { who = Curriculum 0; room = None; day = Some 0; period = Some 2 }), stopped (Ok 99))
unfolding tokens_from number_of token_at numbered_below index_of who_at given_of given_at pattern_at node_after_word node_at
a_split = refl

-- each course once
a_list : node_at sizes 1 0 (behind (codes "K c1 c0 ;")) ≡ Ok (node.Leaf (leaf.Clique (1 ∷ 0 ∷ [])), stopped (Ok 99))
unfolding tokens_from number_of token_at numbered_below index_of up_to_end listed_at list_at node_after_word node_at
a_list = refl

-- leading zeros don't make a different course
repeated : node_at sizes 1 0 (behind (codes "K c1 c01 ;")) ≡ Err (fault.RepeatedIndex 5)
unfolding tokens_from number_of token_at numbered_below index_of up_to_end listed_at list_at node_after_word node_at
repeated = refl

-- no end of the list
endless : node_at sizes 1 0 (behind (codes "K c1")) ≡ Err (fault.Ended 99)
unfolding tokens_from number_of token_at numbered_below index_of up_to_end listed_at list_at node_after_word node_at
endless = refl

-- prices of courses and rooms in any order
some_prices : node_at sizes 2 0 (behind (codes "B P c0 5 r1 3 c1 4 / D c0 ;")) ≡ Ok
    (node.Leaf (leaf.Cost (claim.Prices ((0, 5) ∷ (1, 4) ∷ []) ((1, 3) ∷ []) ∷ claim.Days 0 ∷ [])), stopped (Ok 99))
unfolding tokens_from number_of token_at numbered_below index_of course_at price_at up_to_end pair_at prices_at claim_after_word
    claim_at claims_at node_after_word node_at
some_prices = refl

-- a word of version 2 in version 1
too_new : node_at sizes 1 0 (behind (codes "B T c0 ;")) ≡ Err (fault.UnknownWord 2)
unfolding tokens_from number_of token_at up_to_end claim_at claims_at node_after_word node_at
too_new = refl

-- a sign isn't a digit
signed : node_at sizes 1 0 (behind (codes "M c+1")) ≡ Err (fault.UnknownWord 2)
unfolding tokens_from number_of token_at numbered_below index_of course_at node_after_word node_at
signed = refl

-- a token after the last
trailing : end_at (behind (codes "end end")) ≡ Err (fault.TrailingToken 4)
unfolding tokens_from token_at word_at end_at
trailing = refl

-- ---- bytes after which a read fails

-- the number may go on
bound_goes_on : header_at (cut_short (stream_from MAX_BYTES 0 (codes "CTTP 1 bound 5"))) ≡ Err read_failed
unfolding stream_from fault_from tokens_from number_of token_at word_at version_at bound_of bound_at header_at
bound_goes_on = refl

-- the number is complete
bound_is_whole : header_at (cut_short (stream_from MAX_BYTES 0 (codes "CTTP 1 bound 5 "))) ≡ Ok ((1, AtLeast 5), stopped (Err Read))
unfolding stream_from fault_from tokens_from number_of token_at word_at version_at bound_of bound_at header_at
bound_is_whole = refl

-- a fault before the failure is reported
fault_first : header_at (cut_short (stream_from MAX_BYTES 0 (codes "CTTP 3 bound 5"))) ≡ Err (fault.Expected word.One 5)
unfolding stream_from fault_from tokens_from number_of token_at word_at version_at bound_of bound_at header_at
fault_first = refl
