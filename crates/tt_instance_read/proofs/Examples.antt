-- A file that is wrong at a token.
use Rattle.std.proofs.Common.{◌≡◌, ℕ, List, [], ◌∷◌, Err, codes, refl}
use Rattle.tt_text.specs.Tokens.{tokens_from}
use Rattle.tt_text.specs.Numbers.{number_of}
use Rattle.tt_text.specs.Reading.{token_or}
use Rattle.tt_instance.specs.Beginnings.{texts_of, tokens_up_to, BeginsAs}
use Rattle.tt_instance_read.specs.Reading.{word_at, limited_at, name_at, header_at, instance_of}
use Rattle.tt_instance_read.specs.declared.fault.InstanceFault.TheVariants as fault

-- the text for the number of courses isn't a number
abbrev wrong : List ℕ
wrong = codes "Name: A Courses: x Rooms: 1"

wrong_there : instance_of wrong ≡ Err (fault.NotANumber 17)
unfolding instance_of word_at name_at header_at limited_at number_of token_or tokens_from
wrong_there = refl

texts_so_far : texts_of (tokens_up_to 17 wrong) ≡ codes "Name:" ∷ codes "A" ∷ codes "Courses:" ∷ codes "x" ∷ []
unfolding tokens_from
texts_so_far = refl

-- the offsets of tokens, and the tokens that come after the fault, make no difference
wrong_too : BeginsAs 17 wrong (codes " Name:  A  Courses:  x y")
unfolding tokens_from
wrong_too = record { more = codes "y" ∷ []; same = refl }
