-- Nodes: those that are read are spelled, and those that are spelled are read.
use Rattle.std.proofs.Common.{◌≡◌, ℕ, ◌<◌, true, List, [], ◌∷◌, ◌++◌, Ok, refl, sym, subst, arith, codes}
use Rattle.std.specs.Prelude.{nat_lt, IfSome}
use Rattle.std.proofs.lemmas.Bool.{leb-true, le-leb}
use Rattle.tt_text.specs.Tokens.{Placed}
use Rattle.tt_text.specs.Texts.{is_text}
use Rattle.tt_text.specs.Pieces.{Piece, Text}
use Rattle.tt_text.specs.Feeds.{Stream}
use Rattle.tt_text.specs.Reading.{◌>>=◌}
use Rattle.tt_text.proofs.Steps.{ok_is, bind_ok, test_ok}
use Rattle.tt_text.proofs.Fields.{text_is}
use Rattle.tt_instance.specs.Problem.{Problem}
use Rattle.tt_path.specs.Facts.{IsWho, IsPattern}
use Rattle.tt_path.specs.declared.facts.Who.{Who}
use Rattle.tt_path.specs.declared.facts.Who.TheVariants.{Course, Curriculum}
use Rattle.tt_path.specs.declared.facts.Pattern.{Pattern}
use Rattle.tt_leaf.specs.Ranges.{AreBelow}
use Rattle.tt_leaf.specs.declared.leaf.Leaf.TheVariants as leaf
use Rattle.tt_proof_read.specs.Sizes.{AreSizes}
use Rattle.tt_proof_read.specs.Spelling.{who_piece, given_piece, course_piece, pattern_pieces, listed_pieces, SpellsNode, IsNode}
use Rattle.tt_proof_read.specs.Reading.{token_at, course_at, who_at, given_at, pattern_at, list_at, claims_at, node_word_of, node_after_word, counted, node_at}
use Rattle.tt_proof_read.specs.declared.fault.TextFault.TheVariants as fault
use Rattle.tt_proof_read.specs.declared.format.TheConstants.{DAY_LETTER, MAX_PROOF_NODES, PERIOD_LETTER, ROOM_LETTER}
use Rattle.tt_proof_read.specs.declared.node.Node.{Node}
use Rattle.tt_proof_read.specs.declared.node.Node.TheVariants as node
use Rattle.tt_proof_read.specs.declared.nodes.NodeWord.{NodeWord}
use Rattle.tt_proof_read.specs.declared.nodes.NodeWord.TheVariants as word
use Rattle.tt_proof_read.specs.declared.sizes.Sizes.{Sizes}
use Rattle.tt_proof_read.proofs.ClaimLaws.{claims_took, claims_read}
use Rattle.tt_proof_read.proofs.ListLaws.{list_took, list_reads}
use Rattle.tt_proof_read.proofs.Small.{AreSmall, IsWhoIn}
use Rattle.tt_proof_read.proofs.Taking.{Took, first_of_pieces, took_piece, took_then, took_split}
use Rattle.tt_proof_read.proofs.TokenLaws.{choice, course_took, course_reads, who_took, who_reads, given_took, given_reads}

-- ---- the word

-- the text of each word
abbrev code_of : NodeWord → List ℕ
code_of word.Split = codes "S"
code_of word.Empty = codes "E"
code_of word.Many = codes "M"
code_of word.Clique = codes "K"
code_of word.Slots = codes "H"
code_of word.Cost = codes "B"

-- a word that was read has its text
word_took : (t : Placed) (w : NodeWord) → node_word_of t ≡ Ok w → t.text ≡ code_of w
word_took t w e =
    let P : NodeWord → Type 0 = λ v. t.text ≡ code_of v in
    choice P (is_text (codes "S") t.text) word.Split w _ (λ h. text_is t.text (codes "S") h) (λ _ r1.
    choice P (is_text (codes "E") t.text) word.Empty w _ (λ h. text_is t.text (codes "E") h) (λ _ r2.
    choice P (is_text (codes "M") t.text) word.Many w _ (λ h. text_is t.text (codes "M") h) (λ _ r3.
    choice P (is_text (codes "K") t.text) word.Clique w _ (λ h. text_is t.text (codes "K") h) (λ _ r4.
    choice P (is_text (codes "H") t.text) word.Slots w _ (λ h. text_is t.text (codes "H") h) (λ _ r5.
    choice P (is_text (codes "B") t.text) word.Cost w _ (λ h. text_is t.text (codes "B") h) (λ _ r6. absurd cc) r5) r4) r3) r2) r1) e

-- the text of a word is read as that word
word_reads : (w : NodeWord) (t : Placed) → t.text ≡ code_of w → node_word_of t ≡ Ok w
word_reads word.Split t e = rw e refl
word_reads word.Empty t e = rw e refl
word_reads word.Many t e = rw e refl
word_reads word.Clique t e = rw e refl
word_reads word.Slots t e = rw e refl
word_reads word.Cost t e = rw e refl

module _ (p : Problem) (sizes : Sizes) (are : AreSizes p sizes) where
  -- ---- patterns

  -- a number below its size is in the range of the instance
  who_is : (w : Who) → IsWhoIn sizes w → IsWho p w
  who_is (Course c) h = omega (arith, are.courses, h)
  who_is (Curriculum q) h = omega (arith, are.curricula, h)

  -- a number in the range of the instance is below its size
  is_who : (w : Who) → IsWho p w → IsWhoIn sizes w
  is_who (Course c) h = omega (arith, are.courses, h)
  is_who (Curriculum q) h = omega (arith, are.curricula, h)

  pub record PatternTook (s : Stream) (x : Pattern × Stream) : Type 0 where
    pub took : Took s (pattern_pieces x.0) x.1
    pub is : IsPattern p x.0

  -- a pattern that was read is spelled
  pub pattern_took : (s : Stream) (x : Pattern × Stream) → pattern_at sizes s ≡ Ok x → PatternTook s x
  unfolding pattern_at
  pattern_took s x e =
      let w = bind_ok (who_at sizes s) _ x e in
      let r = bind_ok (given_at ROOM_LETTER sizes.rooms w.0.1) _ x w.2 in
      let d = bind_ok (given_at DAY_LETTER sizes.days r.0.1) _ x r.2 in
      let t = bind_ok (given_at PERIOD_LETTER sizes.periods d.0.1) _ x d.2 in
      let who = who_took sizes s w.0 w.1 in
      let room = given_took ROOM_LETTER sizes.rooms w.0.1 r.0 r.1 in
      let day = given_took DAY_LETTER sizes.days r.0.1 d.0 d.1 in
      let period = given_took PERIOD_LETTER sizes.periods d.0.1 t.0 t.1 in
      let g : Pattern = record { who = w.0.0; room = r.0.0; day = d.0.0; period = t.0.0 } in
      let made : (g, t.0.1) ≡ x = ok_is (g, t.0.1) x t.2 in
      subst (PatternTook s) made (record {
        took = took_then s w.0.1 t.0.1 (who_piece w.0.0 ∷ []) _ who.0
            (took_then w.0.1 r.0.1 t.0.1 (given_piece ROOM_LETTER r.0.0 ∷ []) _ room.0
            (took_then r.0.1 d.0.1 t.0.1 (given_piece DAY_LETTER d.0.0 ∷ []) (given_piece PERIOD_LETTER t.0.0 ∷ []) day.0 period.0));
        is = record {
          who = who_is w.0.0 who.1;
          room = subst (λ n. IfSome r.0.0 (λ k. k < n)) are.rooms room.1;
          day = subst (λ n. IfSome d.0.0 (λ k. k < n)) are.days day.1;
          period = subst (λ n. IfSome t.0.0 (λ k. k < n)) are.periods period.1;
        };
      })

  -- a pattern that is spelled is read
  pub pattern_reads : AreSmall sizes → (g : Pattern) (s after : Stream) → IsPattern p g → Took s (pattern_pieces g) after
      → pattern_at sizes s ≡ Ok (g, after)
  unfolding pattern_at
  pattern_reads small g s after is took =
      let a = took_split (who_piece g.who ∷ [])
      (given_piece ROOM_LETTER g.room ∷ given_piece DAY_LETTER g.day ∷ given_piece PERIOD_LETTER g.period ∷ []) s after took in
      let b = took_split (given_piece ROOM_LETTER g.room ∷ []) (given_piece DAY_LETTER g.day ∷ given_piece PERIOD_LETTER g.period ∷ [])
      a.0 after a.2 in
      let c = took_split (given_piece DAY_LETTER g.day ∷ []) (given_piece PERIOD_LETTER g.period ∷ []) b.0 after b.2 in
      let who = who_reads sizes g.who s a.0 small (is_who g.who is.who) a.1 in
      let room = given_reads ROOM_LETTER sizes.rooms g.room a.0 b.0 small.rooms
      (subst (λ n. IfSome g.room (λ k. k < n)) (sym are.rooms) is.room) b.1 in
      let day = given_reads DAY_LETTER sizes.days g.day b.0 c.0 small.days
      (subst (λ n. IfSome g.day (λ k. k < n)) (sym are.days) is.day) c.1 in
      let period = given_reads PERIOD_LETTER sizes.periods g.period c.0 after small.periods
      (subst (λ n. IfSome g.period (λ k. k < n)) (sym are.periods) is.period) c.2 in
      rw (who, room, day, period) refl

  -- ---- nodes

  module _ (version : ℕ) where
    -- the node read after a word is spelled
    record Behind (w : NodeWord) (s : Stream) (x : Node × Stream) : Type 0 where
      rest : List Piece
      spells : SpellsNode x.0 (Text (code_of w) ∷ rest)
      took : Took s rest x.1
      is : IsNode p version x.0

    -- the node read after a word is spelled
    behind_took : (w : NodeWord) (s : Stream) (x : Node × Stream) → node_after_word sizes version w s ≡ Ok x → Behind w s x
    unfolding node_after_word
    behind_took word.Split s x e =
        let g = bind_ok (pattern_at sizes s) (λ g. Ok (node.Split g.0, g.1)) x e in
        let a = pattern_took s g.0 g.1 in
        subst (Behind word.Split s) (ok_is (node.Split g.0.0, g.0.1) x g.2)
        (record { rest = pattern_pieces g.0.0; spells = refl; took = a.took; is = a.is })
    behind_took word.Empty s x e =
        let g = bind_ok (pattern_at sizes s) (λ g. Ok (node.Leaf (leaf.Empty g.0), g.1)) x e in
        let a = pattern_took s g.0 g.1 in
        subst (Behind word.Empty s) (ok_is (node.Leaf (leaf.Empty g.0.0), g.0.1) x g.2)
        (record { rest = pattern_pieces g.0.0; spells = refl; took = a.took; is = a.is })
    behind_took word.Many s x e =
        let c = bind_ok (course_at sizes s) (λ c. Ok (node.Leaf (leaf.Many c.0), c.1)) x e in
        let a = course_took sizes s c.0 c.1 in
        subst (Behind word.Many s) (ok_is (node.Leaf (leaf.Many c.0.0), c.0.1) x c.2)
        (record { rest = course_piece c.0.0 ∷ []; spells = refl; took = a.0; is = omega (arith, are.courses, a.1) })
    behind_took word.Clique s x e =
        let l = bind_ok (list_at sizes s) (λ l. Ok (node.Leaf (leaf.Clique l.0), l.1)) x e in
        let a = list_took sizes s l.0 l.1 in
        subst (Behind word.Clique s) (ok_is (node.Leaf (leaf.Clique l.0.0), l.0.1) x l.2)
        (record {
          rest = listed_pieces l.0.0;
          spells = refl;
          took = a.took;
          is = (subst (λ n. AreBelow n l.0.0) are.courses a.below, a.once);
        })
    behind_took word.Slots s x e =
        let l = bind_ok (list_at sizes s) (λ l. Ok (node.Leaf (leaf.Slots l.0), l.1)) x e in
        let a = list_took sizes s l.0 l.1 in
        subst (Behind word.Slots s) (ok_is (node.Leaf (leaf.Slots l.0.0), l.0.1) x l.2)
        (record {
          rest = listed_pieces l.0.0;
          spells = refl;
          took = a.took;
          is = (subst (λ n. AreBelow n l.0.0) are.courses a.below, a.once);
        })
    behind_took word.Cost s x e =
        let l = bind_ok (claims_at sizes version s) (λ l. Ok (node.Leaf (leaf.Cost l.0), l.1)) x e in
        let a = claims_took p sizes are version s l.0 l.1 in
        subst (Behind word.Cost s) (ok_is (node.Leaf (leaf.Cost l.0.0), l.0.1) x l.2)
        (record { rest = a.body ++ Text (codes ";") ∷ []; spells = (a.body, a.spells, refl); took = a.took; is = a.all })

    pub record NodeTook (count : ℕ) (s : Stream) (x : Node × Stream) : Type 0 where
      pub pieces : List Piece
      pub spells : SpellsNode x.0 pieces
      pub took : Took s pieces x.1
      pub is : IsNode p version x.0
      pub room : count < MAX_PROOF_NODES

    -- a node that was read is spelled
    pub node_took : (count : ℕ) (s : Stream) (x : Node × Stream) → node_at sizes version count s ≡ Ok x → NodeTook count s x
    unfolding node_at
    node_took count s x e =
        let t = bind_ok (token_at s) _ x e in
        let u = bind_ok (counted t.0.0.at count) (λ (_ : Unit {0}). node_word_of t.0.0 >>= λ w. node_after_word sizes version w t.0.1) x
        t.2 in
        let w = bind_ok (node_word_of t.0.0) (λ w. node_after_word sizes version w t.0.1) x u.2 in
        let b = behind_took w.0 t.0.1 x w.2 in
        let at_most = test_ok (nat_lt count MAX_PROOF_NODES) (fault.TooManyNodes t.0.0.at) (Ok tt) u.0 u.1 in
        record {
          pieces = Text (code_of w.0) ∷ b.rest;
          spells = b.spells;
          took = took_then s t.0.1 x.1 (Text (code_of w.0) ∷ []) b.rest
              (took_piece s t.0 (Text (code_of w.0)) t.1 (word_took t.0.0 w.0 w.1)) b.took;
          is = b.is;
          room = omega (arith, leb-true _ _ at_most.0);
        }

    by_word : (w : NodeWord) (n : Node) (rest : List Piece) (count : ℕ) (s after : Stream) → count < MAX_PROOF_NODES
        → ((mid : Stream) → Took mid rest after → node_after_word sizes version w mid ≡ Ok (n, after))
        → Took s (Text (code_of w) ∷ rest) after → node_at sizes version count s ≡ Ok (n, after)
    unfolding node_at
    by_word w n rest count s after room more took =
        let f = first_of_pieces (Text (code_of w)) rest s after took in
        let at_most : nat_lt count MAX_PROOF_NODES ≡ true = le-leb _ _ (omega arith) in
        rw (f.is, at_most, word_reads w f.token f.piece, more f.mid f.rest) refl

    -- a node that is spelled is read
    pub node_reads : AreSmall sizes → (count : ℕ) (n : Node) (ps : List Piece) (s after : Stream) → count < MAX_PROOF_NODES
        → SpellsNode n ps → IsNode p version n → Took s ps after
        → node_at sizes version count s ≡ Ok (n, after)
    unfolding node_after_word
    node_reads small count (node.Split g) ps s after room spell is took =
        by_word word.Split (node.Split g) (pattern_pieces g) count s after room
        (λ mid t. rw (pattern_reads small g mid after is t) refl) (subst (λ qs. Took s qs after) spell took)
    node_reads small count (node.Leaf (leaf.Empty g)) ps s after room spell is took =
        by_word word.Empty (node.Leaf (leaf.Empty g)) (pattern_pieces g) count s after room
        (λ mid t. rw (pattern_reads small g mid after is t) refl) (subst (λ qs. Took s qs after) spell took)
    node_reads small count (node.Leaf (leaf.Many c)) ps s after room spell is took =
        by_word word.Many (node.Leaf (leaf.Many c)) (course_piece c ∷ []) count s after room
        (λ mid t. rw (course_reads sizes c mid after small.courses (omega (arith, are.courses, is)) t) refl)
        (subst (λ qs. Took s qs after) spell took)
    node_reads small count (node.Leaf (leaf.Clique cs)) ps s after room spell is took =
        by_word word.Clique (node.Leaf (leaf.Clique cs)) (listed_pieces cs) count s after room
        (λ mid t. rw (list_reads sizes cs mid after small (subst (λ n. AreBelow n cs) (sym are.courses) is.0) is.1 t) refl)
        (subst (λ qs. Took s qs after) spell took)
    node_reads small count (node.Leaf (leaf.Slots cs)) ps s after room spell is took =
        by_word word.Slots (node.Leaf (leaf.Slots cs)) (listed_pieces cs) count s after room
        (λ mid t. rw (list_reads sizes cs mid after small (subst (λ n. AreBelow n cs) (sym are.courses) is.0) is.1 t) refl)
        (subst (λ qs. Took s qs after) spell took)
    node_reads small count (node.Leaf (leaf.Cost cs)) ps s after room spell is took =
        by_word word.Cost (node.Leaf (leaf.Cost cs)) (spell.0 ++ Text (codes ";") ∷ []) count s after room
        (λ mid t. rw (claims_read p sizes are version small cs spell.0 mid after spell.1 is t) refl)
        (subst (λ qs. Took s qs after) spell.2 took)
