-- Each name of an instance that bytes spell is a token of these bytes.
use Rattle.std.proofs.Common.{◌≡◌, ℕ, List, [], ◌∷◌, ◌++◌, map, Ok, sym, subst}
use Rattle.std.specs.Prelude.{All}
use Rattle.std.specs.List.{flat_map, AllByRecursion}
use Rattle.std.proofs.lemmas.List.Elements.{All-from_recursion, All-map, All-weaker}
use Rattle.tt_list_laws.proofs.Distinct.{each_two-distinct}
use Rattle.tt_list_laws.proofs.Members.{each_of_map, each_of_append, each_of_flat_map}
use Rattle.tt_text.specs.Tokens.{IsToken, tokens_of}
use Rattle.tt_text.specs.Pieces.{Piece, Text}
use Rattle.tt_text.proofs.EachToken.{IsTokenPiece, each_token, each_piece_token}
use Rattle.tt_instance_read.specs.declared.fault.Word.TheVariants as word
use Rattle.tt_instance_read.specs.Words.{fixed}
use Rattle.tt_instance.specs.Problem.{Problem}
use Rattle.tt_instance.specs.Limits.{same_unavailability, IsInstance}
use Rattle.tt_instance_read.specs.Reading.{instance_of}
use Rattle.tt_instance.specs.Spelling.{header_pieces, course_pieces, room_pieces, curriculum_pieces, unavailability_pieces, pieces, without_repeated_members, Spells}
use Rattle.tt_instance_read.proofs.KeptLaws.{kept_within, members_once}
use Rattle.tt_instance_read.proofs.WholeLaws.{is_spelled}

-- the names of an instance are tokens
record HasTokens (w : Problem) : Type 0 where
  name : All IsToken w.name
  courses : All (λ c. IsToken c.id × IsToken c.teacher) w.courses
  rooms : All (λ r. IsToken r.id) w.rooms
  curricula : All (λ q. IsToken q.id) w.curricula

-- if each text among the pieces of an item is a token, the property holds of the item, for each of the items
each_item : {X : Type 0} (item_pieces : X → List Piece) (P : X → Type 0) → ((x : X) → AllByRecursion IsTokenPiece (item_pieces x) → P x)
    → (xs : List X) → AllByRecursion IsTokenPiece (flat_map item_pieces xs) → All P xs
each_item item_pieces P weaker xs h =
    All-weaker (λ x. AllByRecursion IsTokenPiece (item_pieces x)) P weaker xs
    (All-from_recursion (λ x. AllByRecursion IsTokenPiece (item_pieces x)) xs (each_of_flat_map IsTokenPiece item_pieces xs h))

-- the parts of a file, each of them a list of pieces
each_part : (name header courses rooms curricula unavailabilities last : List Piece)
    → AllByRecursion IsTokenPiece (name ++ header ++ courses ++ rooms ++ curricula ++ unavailabilities ++ last)
    → AllByRecursion IsTokenPiece name × AllByRecursion IsTokenPiece courses × AllByRecursion IsTokenPiece rooms
    × AllByRecursion IsTokenPiece curricula
each_part name header courses rooms curricula unavailabilities last h =
    let to_unavailabilities =
    (each_of_append IsTokenPiece (name ++ header ++ courses ++ rooms ++ curricula ++ unavailabilities) last h).0 in
    let to_curricula = each_of_append IsTokenPiece (name ++ header ++ courses ++ rooms ++ curricula) unavailabilities to_unavailabilities in
    let to_rooms = each_of_append IsTokenPiece (name ++ header ++ courses ++ rooms) curricula to_curricula.0 in
    let to_courses = each_of_append IsTokenPiece (name ++ header ++ courses) rooms to_rooms.0 in
    let to_header = each_of_append IsTokenPiece (name ++ header) courses to_courses.0 in
    ((each_of_append IsTokenPiece name header to_header.0).0, to_header.1, to_courses.1, to_rooms.1)

-- the names are texts among the pieces
has_tokens : (w : Problem) → AllByRecursion IsTokenPiece (pieces w) → HasTokens w
has_tokens w h =
    let parts =
    each_part (fixed word.Name ∷ map Text w.name) (header_pieces w) (fixed word.CoursesPart ∷ flat_map course_pieces w.courses)
    (fixed word.RoomsPart ∷ flat_map room_pieces w.rooms)
    (fixed word.CurriculaPart ∷ flat_map (curriculum_pieces w.courses) w.curricula)
    (fixed word.UnavailabilityPart ∷ flat_map (unavailability_pieces w.courses) w.unavailabilities) (fixed word.End ∷ []) h in
    record {
      name = All-from_recursion IsToken w.name (each_of_map IsTokenPiece Text w.name parts.0.1);
      courses = each_item course_pieces (λ c. IsToken c.id × IsToken c.teacher) (λ c p. (p.0, p.1.0)) w.courses parts.1.1;
      rooms = each_item room_pieces (λ r. IsToken r.id) (λ r p. p.0) w.rooms parts.2.1;
      curricula = each_item (curriculum_pieces w.courses) (λ q. IsToken q.id) (λ q p. p.0) w.curricula parts.3.1;
    }

-- an instance that bytes spell is one that can be read
pub spelled_instance : (bytes : List ℕ) (p : Problem) → Spells bytes p → IsInstance p
spelled_instance bytes p spelled =
    let w : Problem = spelled.written in
    let tokens = has_tokens w (each_piece_token (pieces w) (tokens_of bytes) spelled.rest spelled.begins (each_token bytes)) in
    subst IsInstance (sym spelled.is_kept) (record {
      within = kept_within w spelled.within;
      members_once = members_once w.curricula;
      unavailabilities_once = each_two-distinct same_unavailability w.unavailabilities;
      name_tokens = tokens.name;
      course_tokens = tokens.courses;
      room_tokens = tokens.rooms;
      curriculum_tokens = All-map (λ q. IsToken q.id) without_repeated_members w.curricula tokens.curricula;
    })

-- an instance that was read is within the limits, has each member and each unavailability once, and names that are tokens
pub is_instance : (bytes : List ℕ) (p : Problem) → instance_of bytes ≡ Ok p → IsInstance p
is_instance bytes p e = spelled_instance bytes p (is_spelled bytes p e)
