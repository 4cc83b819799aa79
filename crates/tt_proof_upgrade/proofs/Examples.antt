-- The order of the checks of one token, on an instance with two courses: which of two faults is reported for a token.
use Rattle.std.proofs.Common.{◌≡◌, ℕ, List, Ok, Err, codes, refl}
use Rattle.tt_text.specs.Tokens.{tokens_from, tokens_of}
use Rattle.tt_text.specs.Numbers.{number_of}
use Rattle.tt_text.specs.Feeds.{Stream}
use Rattle.tt_proof_read.specs.Reading.{token_at, numbered_below, index_of, course_at, up_to_end, listed_at, list_at, node_after_word, node_at}
use Rattle.tt_proof_read.specs.declared.fault.TextFault.TheVariants as fault
use Rattle.tt_proof_read.specs.declared.format.TheConstants.{MAX_PROOF_NODES}
use Rattle.tt_proof_read.specs.declared.sizes.Sizes.{Sizes}

abbrev sizes : Sizes
sizes = record { courses = 2; curricula = 1; rooms = 2; days = 1; periods = 3 }

-- the tokens of some bytes, and then the end of a file of 99 bytes
abbrev behind : List ℕ → Stream
behind bytes = record { tokens = tokens_of bytes; stop = Ok 99 }

-- a word that doesn't exist, after the maximum number of nodes
too_many_first : node_at sizes 1 MAX_PROOF_NODES (behind (codes "X")) ≡ Err (fault.TooManyNodes 0)
unfolding tokens_from token_at node_at
too_many_first = refl

-- the last node of the maximum number
last_node : node_at sizes 1 16777215 (behind (codes "X")) ≡ Err (fault.UnknownWord 0)
unfolding tokens_from token_at node_at
last_node = refl

-- a number of more than 32 bits is an index, but an unknown one
large_index : node_at sizes 1 0 (behind (codes "M c4294967296")) ≡ Err (fault.UnknownIndex 2)
unfolding tokens_from number_of token_at numbered_below index_of course_at node_after_word node_at
large_index = refl

-- a wrong letter, before a number of more than 32 bits
letter_first : node_at sizes 1 0 (behind (codes "M q4294967296")) ≡ Err (fault.UnknownWord 2)
unfolding tokens_from number_of token_at numbered_below index_of course_at node_after_word node_at
letter_first = refl

-- in a list, an unknown index before one that is repeated
unknown_first : node_at sizes 1 0 (behind (codes "K c1 c2 c1 ;")) ≡ Err (fault.UnknownIndex 5)
unfolding tokens_from number_of token_at numbered_below index_of up_to_end listed_at list_at node_after_word node_at
unknown_first = refl
