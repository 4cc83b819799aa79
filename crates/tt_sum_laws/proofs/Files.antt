-- A list of files has one fault, unless the check of a claim wasn't finished.
use Rattle.std.proofs.Common.{◌≡◌, ℕ, List, [], ◌∷◌, ◌++◌, length, take, refl, sym, ap, subst, ◌∙◌, arith, append_assoc, inl, inr}
use Rattle.std.specs.Prelude.{◌⊎◌}
use Rattle.std.specs.List.{AllZip}
use Rattle.std.proofs.Math.Seq.{take-append_seam}
use Rattle.tt_instance.specs.Problem.{Problem}
use Rattle.tt_instance.specs.Limits.{IsInstance}
use Rattle.tt_path.specs.declared.facts.Fact.{Fact}
use Rattle.tt_list_laws.proofs.Members.{each_two-of_append}
use Rattle.tt_proof_sum.specs.Faults.{IsSmall, IsReachedOn, IsSumStopOn, ExplainsAddedOn, IsUnfinished}
use Rattle.tt_proof_sum.specs.Sums.{are_apart, Part, IsPartOn, claims_of, AreApart, sum_of}
use Rattle.tt_proof_sum.specs.declared.fault.FileFault.{FileFault}
use Rattle.tt_proof_sum.proofs.Added.{only_unfinished}
use Rattle.tt_proof_sum.proofs.Lists.{same_parts, zip_split}
use Rattle.tt_text.specs.declared.stop.Stop.TheVariants.{Fault}
use Rattle.tt_sum_laws.proofs.Added.{one_added}

-- two splits of one list: at the same place, or one of them earlier
splits : {X : Type 0} (ws vs : List X) (x y : X) (cs ds : List X) → ws ++ x ∷ cs ≡ vs ++ y ∷ ds
    → ((ws ≡ vs) × (x ≡ y)) ⊎ (((ms : List X) × (vs ≡ ws ++ x ∷ ms)) ⊎ ((ms : List X) × (ws ≡ vs ++ y ∷ ms)))
splits [] [] x y cs ds e = let same : x ≡ y = cc in inl (refl, same)
splits {X} [] (b ∷ vs) x y cs ds e =
    let same : x ≡ b = cc in inr (inl (vs, ap (λ (z : X). z ∷ vs) (sym same)))
splits {X} (a ∷ ws) [] x y cs ds e =
    let same : a ≡ y = cc in inr (inr (ws, ap (λ (z : X). z ∷ ws) same))
splits {X} (a ∷ ws) (b ∷ vs) x y cs ds e =
    let same : a ≡ b = cc in
    let rest : ws ++ x ∷ cs ≡ vs ++ y ∷ ds = cc in
    elim (splits ws vs x y cs ds rest) [
      | inl here ↦ inl (ap (λ (z : X). z ∷ ws) same ∙ ap (λ (l : List X). b ∷ l) here.0, here.1)
      | inr one ↦ inr (elim one [
        | inl l ↦ inl (l.0, ap (λ (z : X). z ∷ vs) (sym same) ∙ ap (λ (zs : List X). a ∷ zs) l.1)
        | inr l ↦ inr (l.0, ap (λ (z : X). z ∷ ws) same ∙ ap (λ (zs : List X). b ∷ zs) l.1)
      ])
    ]

module _ (p : Problem) (root : List Fact) (is : IsInstance p) (files : List (List ℕ)) where
  abbrev At : ℕ → FileFault → Type 0
  At n f = IsReachedOn p root files n (λ parts bytes. ExplainsAddedOn p root parts bytes f)

  -- a file that can be added has no fault
  earlier : (m n : ℕ) (f g : FileFault) (r : At m f) (q : At n g) (ms : List (List ℕ)) → q.before ≡ r.before ++ r.bytes ∷ ms
      → IsUnfinished f
  earlier m n f g r q ms split =
      let z = zip_split (IsPartOn p root) r.before r.bytes ms q.parts
      (subst (λ (l : List (List ℕ)). AllZip (IsPartOn p root) l q.parts) split q.each) in
      let same : z.first ≡ r.parts = same_parts p root is r.before z.first r.parts z.each r.each in
      let whole : q.parts ≡ (r.parts ++ z.at ∷ []) ++ z.more = z.split ∙ ap (λ (l : List Part). l ++ z.at ∷ z.more) same
      ∙ sym (append_assoc r.parts (z.at ∷ []) z.more) in
      let apart = (each_two-of_append (λ a b. are_apart (claims_of a) (claims_of b)) (r.parts ++ z.at ∷ []) z.more
      (subst AreApart whole q.apart)).0 in
      let small : IsSmall (sum_of (r.parts ++ z.at ∷ [])) =
      subst (λ (l : List Part). IsSmall (sum_of l))
      (ap (take (length (r.parts ++ z.at ∷ []))) whole ∙ take-append_seam (r.parts ++ z.at ∷ []) z.more)
      (q.small (length (r.parts ++ z.at ∷ []))) in
      only_unfinished p root is r.parts r.bytes z.at z.one apart small f r.is

  pub one_stop : (m n : ℕ) (f g : FileFault) → IsSumStopOn p root files m (Fault f) → IsSumStopOn p root files n (Fault g)
      → (IsUnfinished f → ⊥) → (IsUnfinished g → ⊥) → (m ≡ n) × (f ≡ g)
  one_stop m n f g r q closed shut = elim (splits r.before q.before r.bytes q.bytes r.more q.more (sym r.split ∙ q.split)) [
    | inl here ↦
        let parts : r.parts ≡ q.parts = same_parts p root is r.before r.parts q.parts r.each
        (subst (λ (l : List (List ℕ)). AllZip (IsPartOn p root) l q.parts) (sym here.0) q.each) in
        let told : ExplainsAddedOn p root r.parts r.bytes g =
        subst (λ (l : List Part). ExplainsAddedOn p root l r.bytes g) (sym parts)
        (subst (λ (b : List ℕ). ExplainsAddedOn p root q.parts b g) (sym here.1) q.is) in (
          omega (arith, r.numbered, q.numbered, ap (λ (l : List Part). length l) parts),
          one_added p root is r.parts r.bytes r.apart f g r.is told closed shut,
        )
    | inr one ↦ elim one [
      | inl l ↦ absurd (closed (earlier m n f g r q l.0 l.1))
      | inr l ↦ absurd (shut (earlier n m g f q r l.0 l.1))
    ]
  ]
