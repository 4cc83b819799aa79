-- What a file that is right claims.
use Rattle.std.specs.Prelude.{◌≡◌, ℕ, List, All, Option, Some}
use Rattle.tt_instance.specs.Problem.{Problem}
use Rattle.tt_prices_text.specs.Readers.{IsHeader}
use Rattle.tt_prices_text.specs.Reading.{Part}
use Rattle.tt_prices_text.specs.Spelling.{IsPart, SpellsFile}
use Rattle.tt_prices_text.specs.declared.header.Header.{Header}
use Rattle.tt_proof_check.specs.Streams.{sizes_of}
use Rattle.tt_prices_file.specs.Files.{curricula_in, courses_in, IsRight}
use Rattle.tt_prices_file.specs.declared.claim.PricesClaim.{PricesClaim}

-- The claim is the one of this file: its bound, whether it claims the rooms, and the curricula and the courses of its groups.
pub record Claims (h : Header) (parts : List Part) (k : PricesClaim) : Type 0 where
  pub bound : k.bound ≡ h.bound
  pub rooms : k.has_rooms ≡ h.has_rooms
  pub curricula : k.curricula.items ≡ curricula_in parts
  pub courses : k.courses.items ≡ courses_in parts

-- The bytes, if they are known, spell a file that is right, and the claim is the one of that file.
pub record IsClaimOf (p : Problem) (remaining : Option (List ℕ)) (k : PricesClaim) : Type 0 where
  pub header : Header
  pub parts : List Part
  pub spelled : (bytes : List ℕ) → remaining ≡ Some bytes → SpellsFile (sizes_of p) bytes header parts
  pub within : IsHeader header
  pub each : All (IsPart (sizes_of p) header.has_rooms) parts
  pub right : IsRight p header parts
  pub claims : Claims header parts k
