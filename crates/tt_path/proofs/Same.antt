-- Patterns, answers and facts for which the test says "same" are equal, and each passes the test with itself.
use Rattle.std.proofs.Common.{◌≡◌, ℕ, Bool, true, false, ◌&&◌, List, Option, Some, None, refl, sym, ap, ◌∙◌, eqb-true, eq-eqb}
use Rattle.std.specs.Prelude.{Contains}
use Rattle.std.proofs.lemmas.Bool.{and_parts, and_from}
use Rattle.tt_list_laws.proofs.Members.{any_member, member_from_any}
use Rattle.tt_path.specs.Facts.{same_answer, same_option, same_who, same_pattern, has_fact}
use Rattle.tt_path.specs.declared.facts.Who.{Who}
use Rattle.tt_path.specs.declared.facts.Who.TheVariants.{Course, Curriculum}
use Rattle.tt_path.specs.declared.facts.Pattern.{Pattern}
use Rattle.tt_path.specs.declared.facts.Fact.{Fact}

-- -- equality from the tests

pub same_answer-true : (a b : Bool) → same_answer a b ≡ true → a ≡ b
same_answer-true true b e = sym e
same_answer-true false true e = cc
same_answer-true false false e = refl

pub same_option-true : (a b : Option ℕ) → same_option a b ≡ true → a ≡ b
same_option-true None None e = refl
same_option-true None (Some n) e = cc
same_option-true (Some m) None e = cc
same_option-true (Some m) (Some n) e = ap Some (eqb-true m n e)

pub same_who-true : (a b : Who) → same_who a b ≡ true → a ≡ b
same_who-true (Course a) (Course b) e = ap Course (eqb-true a b e)
same_who-true (Course a) (Curriculum b) e = cc
same_who-true (Curriculum a) (Course b) e = cc
same_who-true (Curriculum a) (Curriculum b) e = ap Curriculum (eqb-true a b e)

abbrev pattern_of : Who → Option ℕ → Option ℕ → Option ℕ → Pattern
pattern_of w r d s = record { who = w; room = r; day = d; period = s }

pub same_pattern-true : (g h : Pattern) → same_pattern g h ≡ true → g ≡ h
same_pattern-true g h e =
    let a = and_parts (same_who g.who h.who && same_option g.room h.room && same_option g.day h.day) (same_option g.period h.period) e in
    let b = and_parts (same_who g.who h.who && same_option g.room h.room) (same_option g.day h.day) a.0 in
    let c = and_parts (same_who g.who h.who) (same_option g.room h.room) b.0 in
    let who = same_who-true g.who h.who c.0 in
    let room = same_option-true g.room h.room c.1 in
    let day = same_option-true g.day h.day b.1 in
    let period = same_option-true g.period h.period a.1 in
    ap (λ w. pattern_of w g.room g.day g.period) who ∙ ap (λ r. pattern_of h.who r g.day g.period) room
    ∙ ap (λ d. pattern_of h.who h.room d g.period) day ∙ ap (λ s. pattern_of h.who h.room h.day s) period

abbrev fact_of : Pattern → Bool → Fact
fact_of g holds = record { pattern = g; holds = holds }

pub same_fact : (f g : Fact) → (same_answer f.holds g.holds && same_pattern f.pattern g.pattern) ≡ true → f ≡ g
same_fact f g e =
    let a = and_parts (same_answer f.holds g.holds) (same_pattern f.pattern g.pattern) e in
    ap (fact_of f.pattern) (same_answer-true f.holds g.holds a.0) ∙ ap (λ h. fact_of h g.holds) (same_pattern-true f.pattern g.pattern a.1)

-- -- the tests of a value with itself

same_option-itself : (o : Option ℕ) → same_option o o ≡ true
same_option-itself None = refl
same_option-itself (Some n) = eq-eqb n n refl

same_who-itself : (w : Who) → same_who w w ≡ true
same_who-itself (Course c) = eq-eqb c c refl
same_who-itself (Curriculum q) = eq-eqb q q refl

pub same_pattern-itself : (g : Pattern) → same_pattern g g ≡ true
same_pattern-itself g =
    and_from (same_who g.who g.who && same_option g.room g.room && same_option g.day g.day) (same_option g.period g.period)
    (and_from (same_who g.who g.who && same_option g.room g.room) (same_option g.day g.day)
    (and_from (same_who g.who g.who) (same_option g.room g.room) (same_who-itself g.who) (same_option-itself g.room))
    (same_option-itself g.day))
    (same_option-itself g.period)

-- ---- facts on a path

-- the fact found is on the path
pub fact_there : (path : List Fact) (g : Pattern) (holds : Bool) → has_fact path g holds ≡ true → (f : Fact) × Contains path f
    × (f.holds ≡ holds) × (f.pattern ≡ g)
fact_there path g holds e =
    let w = member_from_any (λ f. same_answer f.holds holds && same_pattern f.pattern g) path e in
    let a = and_parts (same_answer w.0.holds holds) (same_pattern w.0.pattern g) w.2 in
    (w.0, w.1, same_answer-true w.0.holds holds a.0, same_pattern-true w.0.pattern g a.1)

answer_yes : (b : Bool) → b ≡ true → same_answer b true ≡ true
answer_yes b e = rw e refl

pub yes_on_path : (path : List Fact) (f : Fact) → Contains path f → f.holds ≡ true → has_fact path f.pattern true ≡ true
yes_on_path path f m e =
    any_member (λ k. same_answer k.holds true && same_pattern k.pattern f.pattern) path f m
    (and_from (same_answer f.holds true) (same_pattern f.pattern f.pattern) (answer_yes f.holds e) (same_pattern-itself f.pattern))
