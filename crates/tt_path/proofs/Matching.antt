-- What a pattern says about a cell that it matches.
use Rattle.std.proofs.Common.{◌≡◌, ℕ, true, ◌&&◌, Option, Some, None, ◌∙◌, eqb-true, eq-eqb}
use Rattle.std.proofs.lemmas.Bool.{and_parts}
use Rattle.tt_instance.specs.Problem.{Problem}
use Rattle.tt_instance.specs.declared.cell.Cell.{Cell}
use Rattle.tt_path.specs.Facts.{agrees, is_who, matches}
use Rattle.tt_path.specs.Live.{gives, is_pinned_by}
use Rattle.tt_path.specs.declared.facts.Who.{Who}
use Rattle.tt_path.specs.declared.facts.Who.TheVariants.{Course, Curriculum}
use Rattle.tt_path.specs.declared.facts.Pattern.{Pattern}

-- if the pattern gives a number, a number that agrees is the same
pub gives-agrees : (o : Option ℕ) (m n : ℕ) → gives o m ≡ true → agrees o n ≡ true → n ≡ m
gives-agrees None m n g a = cc
gives-agrees (Some k) m n g a = let e = eqb-true k m g in let f = eqb-true k n a in cc

-- if one fact pins another, the courses that it means are among those that the other means
pub speaks-is_who : (p : Problem) (who of : Who) (c : ℕ) → is_pinned_by p who of ≡ true → is_who p of c ≡ true → is_who p who c ≡ true
speaks-is_who p (Course a) (Course b) c s w = eq-eqb c a (eqb-true c b w ∙ eqb-true b a s)
speaks-is_who p (Course a) (Curriculum k) c s w = cc
speaks-is_who p (Curriculum q) (Course b) c s w = rw (eqb-true c b w) s
speaks-is_who p (Curriculum q) (Curriculum k) c s w = rw (← eqb-true k q s) w

-- the parts of a match
pub record Matches (p : Problem) (g : Pattern) (x : Cell) : Type 0 where
  pub who : is_who p g.who x.course ≡ true
  pub room : agrees g.room x.room ≡ true
  pub day : agrees g.day x.day ≡ true
  pub period : agrees g.period x.period ≡ true

pub Matches-from : (p : Problem) (g : Pattern) (x : Cell) → matches p g x ≡ true → Matches p g x
Matches-from p g x e =
    let a = and_parts (is_who p g.who x.course && agrees g.room x.room && agrees g.day x.day) (agrees g.period x.period) e in
    let b = and_parts (is_who p g.who x.course && agrees g.room x.room) (agrees g.day x.day) a.0 in
    let c = and_parts (is_who p g.who x.course) (agrees g.room x.room) b.0 in
    record { who = c.0; room = c.1; day = b.1; period = a.1 }
