-- The text of a proof spells that proof.
use Rattle.std.proofs.Common.{◌≡◌, ℕ, ◌≤◌, List, [], ◌∷◌, ◌++◌, map, codes, refl, sym, ap, subst, ◌∙◌, All}
use Rattle.std.specs.List.{flat_map}
use Rattle.std.proofs.lemmas.Grind.{flat_map-append}
use Rattle.std.proofs.lemmas.List.Folds.{flat_map-map}
use Rattle.tt_text.specs.Tokens.{tokens_of}
use Rattle.tt_text.specs.Pieces.{Piece, Text, Begins}
use Rattle.tt_text.specs.Lines.{all_pieces}
use Rattle.tt_text.proofs.Lines.{lines_begin}
use Rattle.tt_text.proofs.Parts.{all_pieces-append, all_pieces-map}
use Rattle.tt_instance.specs.Problem.{Problem}
use Rattle.tt_leaf.specs.declared.leaf.Bound.{Bound}
use Rattle.tt_leaf.specs.declared.leaf.Claim.{Claim}
use Rattle.tt_leaf.specs.declared.leaf.Claim.TheVariants.{Capacity, Days, Compact, Stable, Prices, Stacked}
use Rattle.tt_leaf.specs.declared.leaf.Leaf.TheVariants.{Empty, Many, Clique, Slots, Cost}
use Rattle.tt_proof_read.specs.declared.fault.Word.TheVariants as word
use Rattle.tt_proof_read.specs.declared.format.TheConstants.{COURSE_LETTER, ROOM_LETTER}
use Rattle.tt_proof_read.specs.declared.node.Node.{Node}
use Rattle.tt_proof_read.specs.declared.node.Node.TheVariants.{Split, Leaf}
use Rattle.tt_proof_read.specs.Trees.{Tree, preorder}
use Rattle.tt_proof_read.specs.Words.{fixed}
use Rattle.tt_proof_read.specs.Spelling.{Price, OfCourse, OfRoom, price_pieces, by_kind, SpellsClaim, SpellsEach, SpellsNode, IsNode, SpellsProof}
use Rattle.tt_proof_write.specs.Inner.Numbers.{IsNarrowNode}
use Rattle.tt_proof_write.specs.Written.{priced_pieces, claim_pieces, node_pieces, header_pieces, proof_lines, proof_text}
use Rattle.tt_proof_write.specs.Within.{Writes}
use Rattle.tt_proof_write.proofs.TokenLaws.{lines_writable, lines_short}
use Rattle.tt_proof_write.proofs.FitLaws.{proof_fit}

abbrev of_course : ℕ × ℕ → Price
of_course k = OfCourse k.0 k.1

abbrev of_room : ℕ × ℕ → Price
of_room k = OfRoom k.0 k.1

-- the prices of courses before those of rooms
abbrev prices_of : List (ℕ × ℕ) → List (ℕ × ℕ) → List Price
prices_of courses rooms = map of_course courses ++ map of_room rooms

-- the prices of both kinds with another price of a course, and of a room
abbrev with_course : ℕ × ℕ → List (ℕ × ℕ) × List (ℕ × ℕ) → List (ℕ × ℕ) × List (ℕ × ℕ)
with_course k kinds = (k ∷ kinds.0, kinds.1)

abbrev with_room : ℕ × ℕ → List (ℕ × ℕ) × List (ℕ × ℕ) → List (ℕ × ℕ) × List (ℕ × ℕ)
with_room k kinds = (kinds.0, k ∷ kinds.1)

all_rooms : (rooms : List (ℕ × ℕ)) → by_kind (map of_room rooms) ≡ ([], rooms)
all_rooms [] = refl
all_rooms (k ∷ ks) = ap (with_room k) (all_rooms ks)

kinds_of : (courses rooms : List (ℕ × ℕ)) → by_kind (prices_of courses rooms) ≡ (courses, rooms)
kinds_of [] rooms = all_rooms rooms
kinds_of (k ∷ ks) rooms = ap (with_course k) (kinds_of ks rooms)

pieces_of : (courses rooms : List (ℕ × ℕ)) → flat_map price_pieces (prices_of courses rooms) ≡ flat_map
    (priced_pieces COURSE_LETTER) courses ++ flat_map (priced_pieces ROOM_LETTER) rooms
pieces_of courses rooms =
    flat_map-append price_pieces (map of_course courses) (map of_room rooms)
    ∙ ap (λ (ps : List Piece). ps ++ flat_map price_pieces (map of_room rooms)) (flat_map-map price_pieces of_course courses)
    ∙ ap (λ (ps : List Piece). flat_map (priced_pieces COURSE_LETTER) courses ++ ps) (flat_map-map price_pieces of_room rooms)

claim_spelled : (claim : Claim) → SpellsClaim claim (claim_pieces claim)
claim_spelled (Capacity c u) = refl
claim_spelled (Days c) = refl
claim_spelled (Compact q) = refl
claim_spelled (Stable c) = refl
claim_spelled (Prices courses rooms) = (
  prices_of courses rooms,
  kinds_of courses rooms,
  ap (λ (ps : List Piece). Text (codes "P") ∷ (ps ++ Text (codes "/") ∷ []))
      (sym (pieces_of courses rooms)),
)
claim_spelled (Stacked c) = refl

each_spelled : {X : Type 0} (S : X → List Piece → Type 0) (f : X → List Piece) → ((x : X) → S x (f x)) → (xs : List X)
    → SpellsEach S xs (flat_map f xs)
each_spelled S f spelled [] = refl
each_spelled S f spelled (x ∷ xs) = (f x, flat_map f xs, spelled x, each_spelled S f spelled xs, refl)

node_spelled : (node : Node) → SpellsNode node (node_pieces node)
node_spelled (Split g) = refl
node_spelled (Leaf (Empty g)) = refl
node_spelled (Leaf (Many c)) = refl
node_spelled (Leaf (Clique cs)) = refl
node_spelled (Leaf (Slots cs)) = refl
node_spelled (Leaf (Cost claims)) = (flat_map claim_pieces claims, each_spelled SpellsClaim claim_pieces claim_spelled claims, refl)

pieces_are : (v : ℕ) (b : Bound) (nodes : List Node) → all_pieces (proof_lines v b nodes) ≡ header_pieces v b ++
    (flat_map node_pieces nodes ++ fixed word.End ∷ [])
pieces_are v b nodes =
    ap (λ (ps : List Piece). header_pieces v b ++ ps)
    (all_pieces-append (map node_pieces nodes) ((fixed word.End ∷ []) ∷ []) ∙ ap (λ (ps : List Piece). ps ++ fixed word.End ∷ [])
    (all_pieces-map node_pieces nodes))

tree_again : (p : Problem) (v : ℕ) (b : Bound) (tree : Tree) (bytes : List ℕ) → (1 ≤ v) × (v ≤ 2) → All IsNarrowNode (preorder tree)
    → All (IsNode p v) (preorder tree) → Writes v b (preorder tree) bytes → SpellsProof p bytes v b tree
tree_again p v b tree bytes version narrow each writes =
    let fit = proof_fit v b (preorder tree) writes.within.parts.bound narrow in
    let text = writes.text in
    record {
      version = version;
      bound = writes.within.parts.bound;
      body = flat_map node_pieces (preorder tree);
      nodes = each_spelled SpellsNode node_pieces node_spelled (preorder tree);
      tokens = rw text (subst (λ (ps : List Piece). Begins ps (tokens_of (proof_text v b (preorder tree))) [])
          (pieces_are v b (preorder tree))
          (lines_begin (proof_lines v b (preorder tree)) 0 (lines_writable (proof_lines v b (preorder tree)) fit)));
      each = each;
      within = record {
        size = rw text writes.within.bytes;
        tokens = rw text (lines_short (proof_lines v b (preorder tree)) 0 fit);
        nodes = writes.within.parts.count;
        depth = writes.within.parts.depth tree refl;
      };
    }

pub proof_again : (p : Problem) (v : ℕ) (b : Bound) (nodes : List Node) (tree : Tree) (bytes : List ℕ) → (1 ≤ v) × (v ≤ 2)
    → All IsNarrowNode nodes → preorder tree ≡ nodes → All (IsNode p v) nodes → Writes v b nodes bytes → SpellsProof p bytes v b tree
proof_again p v b nodes tree bytes version narrow of each writes =
    subst (λ (ns : List Node). All IsNarrowNode ns → All (IsNode p v) ns → Writes v b ns bytes → SpellsProof p bytes v b tree) of
    (tree_again p v b tree bytes version) narrow each writes
