-- Parts up to their end: those that are read are spelled, and those that are spelled are read.
use Rattle.std.proofs.Common.{◌≡◌, ℕ, zero, suc, ◌<◌, List, [], ◌∷◌, ◌++◌, length, Option, Some, None, Result, Ok, refl, sym, ap, subst, ◌∙◌, append_assoc, arith}
use Rattle.std.specs.Prelude.{fold}
use Rattle.tt_text.specs.Pieces.{Piece}
use Rattle.tt_text.specs.Feeds.{Stream}
use Rattle.tt_text.proofs.Steps.{ok_is, bind_ok}
use Rattle.tt_proof_read.specs.Reading.{collected_then, up_to_end}
use Rattle.tt_proof_read.specs.Spelling.{SpellsEach}
use Rattle.tt_proof_read.specs.declared.fault.TextFault.{TextFault}
use Rattle.tt_proof_read.proofs.Loops.{TakesTokens}
use Rattle.tt_proof_read.proofs.Taking.{Took, took_then, took_split}

module _ {S X : Type 0} (add : S → X → S) (part : S → Stream → Result (Option X × Stream) TextFault) (Spell : X → List Piece → Type 0)
    (Next : S → X → Type 0) (last : Piece) where
  -- each part satisfies its condition, given the stored value of the parts before it
  abbrev pub EachNext : S → List X → Type 0
  EachNext kept [] = Unit {0}
  EachNext kept (x ∷ xs) = Next kept x × EachNext (add kept x) xs

  -- a part that was read, or the end, is spelled
  abbrev pub PartTook : S → Stream → Option X → Stream → Type 0
  PartTook kept s None after = Took s (last ∷ []) after
  PartTook kept s (Some x) after = (ps : List Piece) × Spell x ps × Took s ps after × Next kept x

  -- the parts that were read, up to their end
  pub record SeriesTook (kept : S) (s : Stream) (y : S × Stream) : Type 0 where
    pub items : List X
    pub list : y.0 ≡ fold add kept items
    pub body : List Piece
    pub spells : SpellsEach Spell items body
    pub took : Took s (body ++ last ∷ []) y.1
    pub each : EachNext kept items

  -- one part and then the others
  then_took : (n : ℕ) (kept : S) (s rest : Stream) (o : Option X) (y : S × Stream) → PartTook kept s o rest
      → ((now : S) → up_to_end add part n now rest ≡ Ok y → SeriesTook now rest y)
      → collected_then add kept rest (λ now. up_to_end add part n now rest) o ≡ Ok y → SeriesTook kept s y
  then_took n kept s rest None y took more e =
      subst (SeriesTook kept s) (ok_is (kept, rest) y e)
      (record { items = []; list = refl; body = []; spells = refl; took = took; each = tt })
  then_took n kept s rest (Some x) y took more e =
      let r = more (add kept x) e in
      record {
        items = x ∷ r.items;
        list = r.list;
        body = took.0 ++ r.body;
        spells = (took.0, r.body, took.1, r.spells, refl);
        took = subst (λ ps. Took s ps y.1) (sym (append_assoc took.0 r.body (last ∷ [])))
            (took_then s rest y.1 took.0 (r.body ++ last ∷ []) took.2 r.took);
        each = (took.3, r.each);
      }

  -- parts that were read are spelled
  pub series_took : ((kept : S) (s : Stream) (x : Option X × Stream) → part kept s ≡ Ok x → PartTook kept s x.0 x.1)
      → (n : ℕ) (kept : S) (s : Stream) (y : S × Stream) → up_to_end add part n kept s ≡ Ok y → SeriesTook kept s y
  unfolding up_to_end
  series_took law zero kept s y e = absurd cc
  series_took law (suc n) kept s y e =
      let x = bind_ok (part kept s) (λ x. collected_then add kept x.1 (λ now. up_to_end add part n now x.1) x.0) y e in
      then_took n kept s x.0.1 x.0.0 y (law kept s x.0 x.1) (λ now h. series_took law n now x.0.1 y h) x.2

  module _ (takes : TakesTokens add part)
      (part_reads : (kept : S) (x : X) (ps : List Piece) (s after : Stream) → Spell x ps → Next kept x → Took s ps after
      → part kept s ≡ Ok (Some x, after))
      (last_reads : (kept : S) (s after : Stream) → Took s (last ∷ []) after → part kept s ≡ Ok (None, after)) where
    -- parts that are spelled are read
    pub series_reads : (n : ℕ) (kept : S) (items : List X) (body : List Piece) (s after : Stream) → length s.tokens < n
        → EachNext kept items → SpellsEach Spell items body → Took s (body ++ last ∷ []) after
        → up_to_end add part n kept s ≡ Ok (fold add kept items, after)
    unfolding up_to_end
    series_reads zero kept items body s after enough each spells took = absurd (omega arith)
    series_reads (suc n) kept [] body s after enough each spells took =
        rw (last_reads kept s after (subst (λ b. Took s (b ++ last ∷ []) after) spells took)) refl
    series_reads (suc n) kept (x ∷ xs) body s after enough each spells took =
        let grouped : body ++ last ∷ [] ≡ spells.0 ++ (spells.1 ++ last ∷ []) = ap (λ b. b ++ last ∷ []) spells.4
        ∙ append_assoc spells.0 spells.1 (last ∷ []) in
        let parts = took_split spells.0 (spells.1 ++ last ∷ []) s after (subst (λ ps. Took s ps after) grouped took) in
        let first = part_reads kept x spells.0 s parts.0 spells.2 each.0 parts.1 in
        let less = takes.less kept s (Some x, parts.0) first in
        rw first (series_reads n (add kept x) xs spells.1 parts.0 after (omega (arith, less)) each.1 spells.3 parts.2)
