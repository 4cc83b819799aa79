-- Claims: those that are read are spelled, and those that are spelled are read.
use Rattle.std.proofs.Common.{◌≡◌, ℕ, ◌<◌, ◌==◌, suc, ◌&&◌, List, [], ◌∷◌, ◌++◌, length, Option, Some, None, Result, Ok, refl, sym, ap, subst, ◌∙◌, arith, eqb-true, codes}
use Rattle.std.specs.Prelude.{flat_map, All}
use Rattle.std.specs.List.{push}
use Rattle.std.proofs.lemmas.Bool.{and_parts}
use Rattle.std.proofs.lemmas.List.Elements.{All-nil, All-cons, All-head, All-tail}
use Rattle.tt_text.specs.Tokens.{Placed}
use Rattle.tt_text.specs.Texts.{is_text}
use Rattle.tt_text.specs.Pieces.{Piece, Text, Number, Index}
use Rattle.tt_text.specs.Feeds.{Stream}
use Rattle.tt_text.specs.Reading.{◌>>=◌}
use Rattle.tt_text.proofs.Steps.{ok_is, bind_ok}
use Rattle.tt_text.proofs.Fields.{text_is, is_text_of}
use Rattle.tt_instance.specs.Problem.{Problem}
use Rattle.tt_leaf.specs.Ranges.{ArePrices}
use Rattle.tt_leaf.specs.declared.leaf.Claim.{Claim}
use Rattle.tt_leaf.specs.declared.leaf.Claim.TheVariants as claim
use Rattle.tt_proof_read.specs.Inner.Pricing.{ArePriceLists}
use Rattle.tt_proof_read.specs.Readers.{IsWordIn}
use Rattle.tt_proof_read.specs.Sizes.{AreSizes}
use Rattle.tt_proof_read.specs.Spelling.{course_piece, price_pieces, by_kind, SpellsClaim, SpellsEach, IsClaim}
use Rattle.tt_proof_read.specs.Reading.{token_at, course_at, curriculum_at, price_at, prices_at, claim_word_of, claim_after_word, claim_then, claim_at, claims_at}
use Rattle.tt_proof_read.specs.declared.claims.ClaimWord.{ClaimWord}
use Rattle.tt_proof_read.specs.declared.claims.ClaimWord.TheVariants as word
use Rattle.tt_proof_read.specs.declared.fault.TextFault.{TextFault}
use Rattle.tt_proof_read.specs.declared.format.TheConstants.{CURRICULUM_LETTER}
use Rattle.tt_proof_read.specs.declared.sizes.Sizes.{Sizes}
use Rattle.tt_proof_read.proofs.ListLaws.{fold_push}
use Rattle.tt_proof_read.proofs.PriceLaws.{prices_took, prices_read}
use Rattle.tt_proof_read.proofs.Progress.{claim_takes}
use Rattle.tt_proof_read.proofs.SeriesLaws.{EachNext, PartTook, series_took, series_reads}
use Rattle.tt_proof_read.proofs.Small.{AreSmall}
use Rattle.tt_proof_read.proofs.Taking.{Took, first_of_pieces, took_piece, took_then, took_same, took_split}
use Rattle.tt_proof_read.proofs.TokenLaws.{choice, course_took, course_reads, curriculum_took, curriculum_reads, price_took, price_reads}

-- ---- the word

-- the text of each word
abbrev code_of : ClaimWord → List ℕ
code_of word.Capacity = codes "C"
code_of word.Days = codes "D"
code_of word.Compact = codes "Q"
code_of word.Stable = codes "R"
code_of word.Prices = codes "P"
code_of word.Stacked = codes "T"

-- the text of a word, or of the end
abbrev IsWord : ℕ → List ℕ → Option ClaimWord → Type 0
IsWord version text None = text ≡ codes ";"
IsWord version text (Some w) = (text ≡ code_of w) × IsWordIn version w

-- a word that was read has its text
word_took : (version : ℕ) (t : Placed) (o : Option ClaimWord) → claim_word_of version t ≡ Ok o → IsWord version t.text o
word_took version t o e =
    let P : Option ClaimWord → Type 0 = IsWord version t.text in
    choice P (is_text (codes ";") t.text) None o _ (λ h. text_is t.text (codes ";") h) (λ _ r1.
    choice P (is_text (codes "C") t.text) (Some word.Capacity) o _ (λ h. (text_is t.text (codes "C") h, tt)) (λ _ r2.
    choice P (is_text (codes "D") t.text) (Some word.Days) o _ (λ h. (text_is t.text (codes "D") h, tt)) (λ _ r3.
    choice P (is_text (codes "Q") t.text) (Some word.Compact) o _ (λ h. (text_is t.text (codes "Q") h, tt)) (λ _ r4.
    choice P (is_text (codes "R") t.text) (Some word.Stable) o _ (λ h. (text_is t.text (codes "R") h, tt)) (λ _ r5.
    choice P ((version == 2) && is_text (codes "P") t.text) (Some word.Prices) o _
    (λ h. let b = and_parts (version == 2) (is_text (codes "P") t.text) h in
    (text_is t.text (codes "P") b.1, eqb-true version 2 b.0)) (λ _ r6.
    choice P ((version == 2) && is_text (codes "T") t.text) (Some word.Stacked) o _
    (λ h. let b = and_parts (version == 2) (is_text (codes "T") t.text) h in
    (text_is t.text (codes "T") b.1, eqb-true version 2 b.0)) (λ _ r7. absurd cc) r6) r5) r4) r3) r2) r1) e

-- the text of a word is read as that word
word_reads : (version : ℕ) (w : ClaimWord) (t : Placed) → IsWordIn version w → t.text ≡ code_of w → claim_word_of version t ≡ Ok (Some w)
word_reads version word.Capacity t fits e = rw e refl
word_reads version word.Days t fits e = rw e refl
word_reads version word.Compact t fits e = rw e refl
word_reads version word.Stable t fits e = rw e refl
word_reads version word.Prices t fits e = rw (e, fits) refl
word_reads version word.Stacked t fits e = rw (e, fits) refl

-- the end of claims
abbrev last : Piece
last = Text (codes ";")

module _ (p : Problem) (sizes : Sizes) (are : AreSizes p sizes) (version : ℕ) where
  -- any claim may come next
  abbrev IsNext : List Claim → Claim → Type 0
  IsNext before c = IsClaim p version c

  -- the claim read after a word is spelled
  record Behind (w : ClaimWord) (s : Stream) (x : Claim × Stream) : Type 0 where
    rest : List Piece
    spells : SpellsClaim x.0 (Text (code_of w) ∷ rest)
    took : Took s rest x.1
    is : IsClaim p version x.0

  -- the claim read after a word is spelled
  behind_took : (w : ClaimWord) (s : Stream) (x : Claim × Stream) → IsWordIn version w → claim_after_word sizes w s ≡ Ok x → Behind w s x
  unfolding claim_after_word
  behind_took word.Capacity s x fits e =
      let c = bind_ok (course_at sizes s) (λ c. price_at c.1 >>= λ u. Ok (claim.Capacity c.0 u.0, u.1)) x e in
      let u = bind_ok (price_at c.0.1) (λ u. Ok (claim.Capacity c.0.0 u.0, u.1)) x c.2 in
      let a = course_took sizes s c.0 c.1 in
      let b = price_took c.0.1 u.0 u.1 in
      subst (Behind word.Capacity s) (ok_is (claim.Capacity c.0.0 u.0.0, u.0.1) x u.2) (record {
        rest = course_piece c.0.0 ∷ Number u.0.0 ∷ [];
        spells = refl;
        took = took_then s c.0.1 u.0.1 (course_piece c.0.0 ∷ []) (Number u.0.0 ∷ []) a.0 b.0;
        is = (omega (arith, are.courses, a.1), b.1);
      })
  behind_took word.Days s x fits e =
      let c = bind_ok (course_at sizes s) (λ c. Ok (claim.Days c.0, c.1)) x e in
      let a = course_took sizes s c.0 c.1 in
      subst (Behind word.Days s) (ok_is (claim.Days c.0.0, c.0.1) x c.2)
      (record { rest = course_piece c.0.0 ∷ []; spells = refl; took = a.0; is = omega (arith, are.courses, a.1) })
  behind_took word.Compact s x fits e =
      let q = bind_ok (curriculum_at sizes s) (λ c. Ok (claim.Compact c.0, c.1)) x e in
      let a = curriculum_took sizes s q.0 q.1 in
      subst (Behind word.Compact s) (ok_is (claim.Compact q.0.0, q.0.1) x q.2)
      (record { rest = Index CURRICULUM_LETTER q.0.0 ∷ []; spells = refl; took = a.0; is = omega (arith, are.curricula, a.1) })
  behind_took word.Stable s x fits e =
      let c = bind_ok (course_at sizes s) (λ c. Ok (claim.Stable c.0, c.1)) x e in
      let a = course_took sizes s c.0 c.1 in
      subst (Behind word.Stable s) (ok_is (claim.Stable c.0.0, c.0.1) x c.2)
      (record { rest = course_piece c.0.0 ∷ []; spells = refl; took = a.0; is = omega (arith, are.courses, a.1) })
  behind_took word.Prices s x fits e =
      let k = bind_ok (prices_at sizes s) (λ k. Ok (claim.Prices k.0.0 k.0.1, k.1)) x e in
      let a = prices_took sizes s k.0 k.1 in
      subst (Behind word.Prices s) (ok_is (claim.Prices k.0.0.0 k.0.0.1, k.0.1) x k.2) (record {
        rest = flat_map price_pieces a.prices ++ Text (codes "/") ∷ [];
        spells = (a.prices, a.kinds, refl);
        took = a.took;
        is = (
          fits,
          (subst (λ n. ArePrices n k.0.0.0) are.courses a.kept.courses, a.kept.course_prices),
          (subst (λ n. ArePrices n k.0.0.1) are.rooms a.kept.rooms, a.kept.room_prices),
        );
      })
  behind_took word.Stacked s x fits e =
      let c = bind_ok (course_at sizes s) (λ c. Ok (claim.Stacked c.0, c.1)) x e in
      let a = course_took sizes s c.0 c.1 in
      subst (Behind word.Stacked s) (ok_is (claim.Stacked c.0.0, c.0.1) x c.2)
      (record { rest = course_piece c.0.0 ∷ []; spells = refl; took = a.0; is = (fits, omega (arith, are.courses, a.1)) })

  -- a claim that was read, or the end, is spelled
  claim_took : (before : List Claim) (s : Stream) (x : Option Claim × Stream) → claim_at sizes version s ≡ Ok x
      → PartTook push (λ _ rest. claim_at sizes version rest) SpellsClaim IsNext last before s x.0 x.1
  unfolding claim_at
  claim_took before s x e =
      let t = bind_ok (token_at s) _ x e in
      let w = bind_ok (claim_word_of version t.0.0) (λ o. claim_then sizes o t.0.1) x t.2 in
      by_word t.0 t.1 w.0 (word_took version t.0.0 w.0 w.1) w.2
    where
      by_word : (t : Placed × Stream) → token_at s ≡ Ok t → (o : Option ClaimWord) → IsWord version t.0.text o
          → claim_then sizes o t.1 ≡ Ok x
          → PartTook push (λ _ rest. claim_at sizes version rest) SpellsClaim IsNext last before s x.0 x.1
      by_word t first None text r =
          subst (λ (y : Option Claim × Stream). PartTook push (λ _ rest. claim_at sizes version rest) SpellsClaim IsNext last before s
          y.0 y.1) (ok_is (None, t.1) x r) (took_piece s t last first text)
      by_word t first (Some w) text r =
          let c = bind_ok (claim_after_word sizes w t.1) (λ c. Ok (Some c.0, c.1)) x r in
          let b = behind_took w t.1 c.0 text.1 c.1 in
          subst (λ (y : Option Claim × Stream). PartTook push (λ _ rest. claim_at sizes version rest) SpellsClaim IsNext last before s
          y.0 y.1) (ok_is (Some c.0.0, c.0.1) x c.2) (
            Text (code_of w) ∷ b.rest,
            b.spells,
            took_then s t.1 c.0.1 (Text (code_of w) ∷ []) b.rest
                (took_piece s t (Text (code_of w)) first text.0) b.took,
            b.is,
          )

  module _ (small : AreSmall sizes) where
    by_claim : (w : ClaimWord) (c : Claim) (rest : List Piece) (s after : Stream) → IsWordIn version w
        → ((mid : Stream) → Took mid rest after → claim_after_word sizes w mid ≡ Ok (c, after))
        → Took s (Text (code_of w) ∷ rest) after → claim_at sizes version s ≡ Ok (Some c, after)
    unfolding claim_at
    by_claim w c rest s after fits more took =
        let f = first_of_pieces (Text (code_of w)) rest s after took in
        rw (f.is, word_reads version w f.token fits f.piece, more f.mid f.rest) refl

    -- a course after the word
    course_in : (c : ℕ) (s after : Stream) → c < length p.courses → Took s (course_piece c ∷ []) after → course_at sizes s ≡ Ok (c, after)
    course_in c s after below took = course_reads sizes c s after small.courses (omega (arith, are.courses, below)) took

    -- a claim that is spelled is read
    claim_reads : (before : List Claim) (c : Claim) (ps : List Piece) (s after : Stream) → SpellsClaim c ps → IsNext before c
        → Took s ps after → claim_at sizes version s ≡ Ok (Some c, after)
    unfolding claim_after_word
    claim_reads before (claim.Capacity c u) ps s after spell next took =
        by_claim word.Capacity (claim.Capacity c u) (course_piece c ∷ Number u ∷ []) s after tt (λ mid t.
        let parts = took_split (course_piece c ∷ []) (Number u ∷ []) mid after t in
        rw (course_in c mid parts.0 next.0 parts.1, price_reads u parts.0 after next.1 parts.2) refl)
        (subst (λ qs. Took s qs after) spell took)
    claim_reads before (claim.Days c) ps s after spell next took =
        by_claim word.Days (claim.Days c) (course_piece c ∷ []) s after tt (λ mid t. rw (course_in c mid after next t) refl)
        (subst (λ qs. Took s qs after) spell took)
    claim_reads before (claim.Compact q) ps s after spell next took =
        by_claim word.Compact (claim.Compact q) (Index CURRICULUM_LETTER q ∷ []) s after tt
        (λ mid t. rw (curriculum_reads sizes q mid after small.curricula (omega (arith, are.curricula, next)) t) refl)
        (subst (λ qs. Took s qs after) spell took)
    claim_reads before (claim.Stable c) ps s after spell next took =
        by_claim word.Stable (claim.Stable c) (course_piece c ∷ []) s after tt (λ mid t. rw (course_in c mid after next t) refl)
        (subst (λ qs. Took s qs after) spell took)
    claim_reads before (claim.Prices courses rooms) ps s after spell next took =
        by_claim word.Prices (claim.Prices courses rooms) (flat_map price_pieces spell.0 ++ Text (codes "/") ∷ []) s after next.0 (λ mid t.
        let kept : ArePriceLists sizes (courses, rooms) = record {
          courses = subst (λ n. ArePrices n courses) (sym are.courses) next.1.0;
          rooms = subst (λ n. ArePrices n rooms) (sym are.rooms) next.2.0;
          course_prices = next.1.1;
          room_prices = next.2.1;
        } in
        let shown : by_kind spell.0 ≡ (courses, rooms) = spell.1 in
        let read = prices_read sizes spell.0 mid after small (subst (ArePriceLists sizes) (sym shown) kept) t in
        rw read (ap (λ (k : List (ℕ × ℕ) × List (ℕ × ℕ)). let r : Result (Claim × Stream) TextFault = Ok
        (claim.Prices k.0 k.1, after) in r) shown)) (subst (λ qs. Took s qs after) spell.2 took)
    claim_reads before (claim.Stacked c) ps s after spell next took =
        by_claim word.Stacked (claim.Stacked c) (course_piece c ∷ []) s after next.0 (λ mid t. rw (course_in c mid after next.1 t) refl)
        (subst (λ qs. Took s qs after) spell took)

    -- the end that is spelled is read
    last_reads : (before : List Claim) (s after : Stream) → Took s (last ∷ []) after → claim_at sizes version s ≡ Ok (None, after)
    unfolding claim_at
    last_reads before s after took =
        let f = first_of_pieces last [] s after took in
        let is = is_text_of f.token.text (codes ";") f.piece in
        rw (f.is, is) (ap (λ (m : Stream). let r : Result (Option Claim × Stream) TextFault = Ok (None, m) in r)
        (took_same f.mid after f.rest))

  -- if each claim may come next, all are right
  each_all : (before cs : List Claim) → EachNext push (λ _ rest. claim_at sizes version rest) SpellsClaim IsNext last before cs
      → All (IsClaim p version) cs
  each_all before [] each = All-nil (IsClaim p version)
  each_all before (c ∷ cs) each = All-cons (IsClaim p version) c cs each.0 (each_all (before ++ c ∷ []) cs each.1)

  -- if all claims are right, each may come next
  all_each : (before cs : List Claim) → All (IsClaim p version) cs
      → EachNext push (λ _ rest. claim_at sizes version rest) SpellsClaim IsNext last before cs
  all_each before [] all = tt
  all_each before (c ∷ cs) all =
      (All-head (IsClaim p version) c cs all, all_each (before ++ c ∷ []) cs (All-tail (IsClaim p version) c cs all))

  pub record ClaimsTook (s : Stream) (x : List Claim × Stream) : Type 0 where
    pub body : List Piece
    pub spells : SpellsEach SpellsClaim x.0 body
    pub took : Took s (body ++ Text (codes ";") ∷ []) x.1
    pub all : All (IsClaim p version) x.0

  -- claims that were read are spelled
  pub claims_took : (s : Stream) (x : List Claim × Stream) → claims_at sizes version s ≡ Ok x → ClaimsTook s x
  unfolding claims_at
  claims_took s x e =
      let h = series_took push (λ _ rest. claim_at sizes version rest) SpellsClaim IsNext last claim_took (suc (length s.tokens))
      [] s x e in
      let items : h.items ≡ x.0 = sym (h.list ∙ fold_push [] h.items) in
      record {
        body = h.body;
        spells = subst (λ cs. SpellsEach SpellsClaim cs h.body) items h.spells;
        took = h.took;
        all = subst (All (IsClaim p version)) items (each_all [] h.items h.each);
      }

  -- claims that are spelled are read
  pub claims_read : AreSmall sizes → (cs : List Claim) (body : List Piece) (s after : Stream) → SpellsEach SpellsClaim cs body
      → All (IsClaim p version) cs → Took s (body ++ Text (codes ";") ∷ []) after
      → claims_at sizes version s ≡ Ok (cs, after)
  unfolding claims_at
  claims_read small cs body s after spells all took =
      series_reads push (λ _ rest. claim_at sizes version rest) SpellsClaim IsNext last (claim_takes sizes version) (claim_reads small)
      (last_reads small) (suc (length s.tokens)) [] cs body s after
      (omega arith) (all_each [] cs all) spells took
      ∙ ap (λ (l : List Claim). let r : Result (List Claim × Stream) TextFault = Ok (l, after) in r) (fold_push [] cs)
