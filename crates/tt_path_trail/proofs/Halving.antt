-- Answers that depend only on yes-facts.
use Rattle.std.proofs.Common.{◌≡◌, ℕ, ◌≤◌, Bool, true, false, ◌&&◌, List, [], ◌∷◌, ◌++◌, length, cond, refl, ap, ◌∙◌, arith}
use Rattle.std.proofs.lemmas.Bool.{and_parts}
use Rattle.std.proofs.lemmas.List.{append-nil}
use Rattle.std.proofs.lemmas.List.Elements.{filter-append}
use Rattle.std.proofs.lemmas.Map.Views.{any-filter_same}
use Rattle.tt_instance.specs.Problem.{Problem}
use Rattle.tt_instance.specs.declared.cell.Slot.{Slot}
use Rattle.tt_path.specs.Facts.{has_fact, same_answer, same_pattern}
use Rattle.tt_path.specs.Live.{gives, is_pinned_by, pinned, pinned_room}
use Rattle.tt_path.specs.declared.facts.Who.{Who}
use Rattle.tt_path.specs.declared.facts.Who.TheVariants.{Course}
use Rattle.tt_path.specs.declared.facts.Pattern.{Pattern}
use Rattle.tt_path.specs.declared.facts.Fact.{Fact}
use Rattle.tt_path.specs.Inner.Paths.{Facts}
use Rattle.tt_path_trail.specs.Inner.Halves.{yes_of, AreHalves}

-- -- another fact

pub yes_of_added : (fs : List Fact) (f : Fact) → f.holds ≡ true → yes_of (fs ++ f ∷ []) ≡ yes_of fs ++ f ∷ []
yes_of_added fs f e = filter-append (λ h. h.holds) fs (f ∷ []) ∙ ap (λ b. yes_of fs ++ cond b (f ∷ []) []) e

pub yes_of_unchanged : (fs : List Fact) (f : Fact) → f.holds ≡ false → yes_of (fs ++ f ∷ []) ≡ yes_of fs
yes_of_unchanged fs f e =
    filter-append (λ h. h.holds) fs (f ∷ []) ∙ ap (λ b. yes_of fs ++ cond b (f ∷ []) []) e ∙ append-nil (yes_of fs)

pub yes_of_few : (fs : List Fact) → length (yes_of fs) ≤ length fs
yes_of_few [] = omega arith
yes_of_few (f ∷ fs) = by_answer f.holds (yes_of_few fs)
  where
    by_answer : (b : Bool) → length (yes_of fs) ≤ length fs → length (cond b (f ∷ yes_of fs) (yes_of fs)) ≤ length (f ∷ fs)
    by_answer true h = omega arith
    by_answer false h = omega arith

-- -- the answers from yes-facts only

pub pinned_by_yes : (p : Problem) (fs : List Fact) (who : Who) (s : Slot) → pinned p (yes_of fs) who s ≡ pinned p fs who s
pinned_by_yes p fs who s =
    any-filter_same (λ f. f.holds && is_pinned_by p who f.pattern.who && gives f.pattern.day s.day && gives f.pattern.period s.period)
    (λ f. f.holds) true (λ f e. holds f e) fs
  where
    holds : (f : Fact) → (f.holds && is_pinned_by p who f.pattern.who && gives f.pattern.day s.day && gives f.pattern.period s.period)
        ≡ true → f.holds ≡ true
    holds f e =
        let a = and_parts (f.holds && is_pinned_by p who f.pattern.who && gives f.pattern.day s.day) (gives f.pattern.period s.period) e in
        let b = and_parts (f.holds && is_pinned_by p who f.pattern.who) (gives f.pattern.day s.day) a.0 in
        (and_parts f.holds (is_pinned_by p who f.pattern.who) b.0).0

pub room_pinned_by_yes : (p : Problem) (fs : List Fact) (c r : ℕ) → pinned_room p (yes_of fs) c r ≡ pinned_room p fs c r
room_pinned_by_yes p fs c r =
    any-filter_same (λ f. f.holds && is_pinned_by p (Course c) f.pattern.who && gives f.pattern.room r) (λ f. f.holds) true
    (λ f e. holds f e) fs
  where
    holds : (f : Fact) → (f.holds && is_pinned_by p (Course c) f.pattern.who && gives f.pattern.room r) ≡ true → f.holds ≡ true
    holds f e =
        let a = and_parts (f.holds && is_pinned_by p (Course c) f.pattern.who) (gives f.pattern.room r) e in
        (and_parts f.holds (is_pinned_by p (Course c) f.pattern.who) a.0).0

pub stands_by_yes : (fs : List Fact) (g : Pattern) → has_fact (yes_of fs) g true ≡ has_fact fs g true
stands_by_yes fs g =
    any-filter_same (λ f. same_answer f.holds true && same_pattern f.pattern g) (λ f. f.holds) true (λ f e. holds f e) fs
  where
    answer : (b : Bool) → same_answer b true ≡ true → b ≡ true
    answer true e = refl
    answer false e = e

    holds : (f : Fact) → (same_answer f.holds true && same_pattern f.pattern g) ≡ true → f.holds ≡ true
    holds f e = answer f.holds (and_parts (same_answer f.holds true) (same_pattern f.pattern g) e).0

-- ---- from one part to the other

pub by_halves : {X : Type 0} (answer : Problem → List Fact → X) → ((p : Problem) (fs : List Fact) → answer p (yes_of fs) ≡ answer p fs)
    → (all held : Facts) → AreHalves all held → answer held.problem held.facts ≡ answer all.problem all.facts
by_halves answer same all held h =
    ap (λ p. answer p held.facts) h.problem ∙ ap (answer all.problem) h.facts ∙ same all.problem all.facts
