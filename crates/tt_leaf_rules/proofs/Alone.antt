-- The pinned periods of a curriculum on a day without a live neighbour period, by words.
use Rattle.std.proofs.Common.{◌≡◌, ℕ, ◌+◌, ◌-◌, ◌<◌, ◌≤◌, Bool, true, false, not, ◌&&◌, List, refl, sym, ap, ◌∙◌, arith, inl, inr}
use Rattle.std.specs.Prelude.{nat_lt}
use Rattle.std.proofs.lemmas.Bool.{cases_lt, lt-ltb, le-ltb}
use Rattle.tt_bits.specs.Inner.Bits.{has_bit}
use Rattle.tt_bits.proofs.BitLaws.{has_bit-none}
use Rattle.tt_instance.specs.Problem.{Problem}
use Rattle.tt_instance.specs.Cells.{slot}
use Rattle.tt_instance.specs.Courses.{members}
use Rattle.tt_path.specs.Live.{pinned}
use Rattle.tt_path.specs.declared.facts.Fact.{Fact}
use Rattle.tt_path.specs.declared.facts.Who.TheVariants.{Curriculum}
use Rattle.tt_leaf_rules.specs.Claims.{is_alone}
use Rattle.tt_leaf_rules.specs.Inner.Nested.{live_for, live_before, live_after}
use Rattle.tt_leaf_rules.proofs.Nested.{by_sides}

module _ (p : Problem) (path : List Fact) (q d : ℕ) (hd : d < p.days) (at_most : p.periods ≤ 64) (pin : ℕ)
    (pins : (s : ℕ) → s < 64 → has_bit pin s ≡ (nat_lt s p.periods && pinned p path (Curriculum q) (slot d s))) where
  abbrev isolated_at : ℕ → Bool
  isolated_at s = nat_lt s p.periods && (pinned p path (Curriculum q) (slot d s) && is_alone p path q (slot d s))

  -- if nothing is pinned, nothing is isolated
  pub none-isolated : pin ≡ 0 → (s : ℕ) → s < 64 → has_bit 0 s ≡ isolated_at s
  none-isolated e s h = has_bit-none s ∙ none (nat_lt s p.periods) (pinned p path (Curriculum q) (slot d s))
      (is_alone p path q (slot d s)) (sym (pins s h) ∙ ap (λ w. has_bit w s) e ∙ has_bit-none s)
    where
      none : (l u v : Bool) → (l && u) ≡ false → false ≡ (l && (u && v))
      none true true v e = cc
      none true false v e = refl
      none false u v e = refl

  module _ (cs : List ℕ) (are : cs ≡ members p q) (live : ℕ)
      (lives : (s : ℕ) → s < 64 → has_bit live s ≡ (nat_lt s p.periods && live_for p path cs (slot d s))) where
    before : (s : ℕ) → s < p.periods → (nat_lt 0 s && has_bit live (s - 1)) ≡ live_before p path cs (slot d s)
    before s h = ap (λ b. nat_lt 0 s && b) (lives (s - 1) (omega arith) ∙ ap (λ b. b && live_for p path cs (slot d (s - 1)))
        (lt-ltb (s - 1) p.periods (omega arith)))

    after : (s : ℕ) → s < p.periods → (nat_lt (s + 1) 64 && has_bit live (s + 1)) ≡ live_after p path cs (slot d s)
    after s h = elim (cases_lt (s + 1) 64) [
      | inl l ↦ ap (λ b. b && has_bit live (s + 1)) (lt-ltb (s + 1) 64 l) ∙ lives (s + 1) l
      | inr l ↦ ap (λ b. b && has_bit live (s + 1)) (le-ltb (s + 1) 64 l)
          ∙ sym (ap (λ b. b && live_for p path cs (slot d (s + 1))) (le-ltb (s + 1) p.periods (omega arith)))
    ]

    pub all-isolated : (ahead behind first w : ℕ) → ((s : ℕ) → s < 64 → has_bit ahead s ≡ (nat_lt 0 s && has_bit live (s - 1)))
        → ((s : ℕ) → s < 64 → has_bit behind s ≡ (nat_lt (s + 1) 64 && has_bit live (s + 1)))
        → ((s : ℕ) → s < 64 → has_bit first s ≡ (has_bit pin s && not (has_bit ahead s)))
        → ((s : ℕ) → s < 64 → has_bit w s ≡ (has_bit first s && not (has_bit behind s))) → (s : ℕ) → s < 64 → has_bit w s ≡ isolated_at s
    all-isolated ahead behind first w a b f l s h = elim (cases_lt s p.periods) [
      | inl k ↦
          l s h ∙ ap (λ x. x && not (has_bit behind s)) (f s h) ∙ ap (λ x. (x && not (has_bit ahead s)) && not (has_bit behind s))
          (pins s h)
          ∙ ap (λ x. ((nat_lt s p.periods && pinned p path (Curriculum q) (slot d s)) && not x) && not (has_bit behind s))
          (a s h ∙ before s k)
          ∙ ap (λ x. ((nat_lt s p.periods && pinned p path (Curriculum q) (slot d s)) && not (live_before p path cs (slot d s)))
          && not x) (b s h ∙ after s k)
          ∙ gather (nat_lt s p.periods) (pinned p path (Curriculum q) (slot d s)) (not (live_before p path cs (slot d s)))
          (not (live_after p path cs (slot d s)))
          ∙ ap (λ x. nat_lt s p.periods && (pinned p path (Curriculum q) (slot d s) && x)) (sym (by_sides p path q (slot d s) hd k cs are))
      | inr k ↦
          let none = le-ltb s p.periods k in
          l s h ∙ ap (λ x. x && not (has_bit behind s)) (f s h) ∙ ap (λ x. (x && not (has_bit ahead s)) && not (has_bit behind s))
          (pins s h ∙ ap (λ x. x && pinned p path (Curriculum q) (slot d s)) none)
          ∙ sym (ap (λ x. x && (pinned p path (Curriculum q) (slot d s) && is_alone p path q (slot d s))) none)
    ]
      where
        gather : (x u v y : Bool) → (((x && u) && v) && y) ≡ (x && (u && (v && y)))
        gather true true v y = refl
        gather true false v y = refl
        gather false u v y = refl
