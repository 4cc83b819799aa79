-- A course by its name: the name determines its number, and the number determines its name.
use Rattle.std.proofs.Common.{◌≡◌, ◌≢◌, ℕ, ◌<◌, List, [], ◌∷◌, length, Option, Some, None, Ok, refl, ap, subst, ◌∙◌}
use Rattle.std.specs.Prelude.{AllPairs}
use Rattle.tt_text.specs.Tokens.{Placed}
use Rattle.tt_text.specs.Texts.{index_of_name}
use Rattle.tt_text.specs.Pieces.{Piece, Begins}
use Rattle.tt_text.proofs.Steps.{ok_is, bind_ok, Takes}
use Rattle.tt_text.proofs.Fields.{ReadsOn, takes_piece, has_piece}
use Rattle.tt_instance_read.specs.declared.fault.InstanceFault.TheVariants as fault
use Rattle.tt_instance.specs.Problem.{Course}
use Rattle.tt_instance.specs.Courses.{no_course}
use Rattle.tt_instance.specs.Columns.{ids_of}
use Rattle.tt_instance_read.specs.Reading.{token_at, known, named_at}
use Rattle.tt_instance.specs.Spelling.{named}
use Rattle.tt_instance.proofs.FreshLaws.{found_is, index_is}

-- no two courses have the same name
abbrev pub AreNamed : List Course → Type 0
AreNamed cs = AllPairs (λ c d. c.id ≢ d.id) cs

-- a course that is known has a number
known_ok : (at : ℕ) (o : Option ℕ) (i : ℕ) → known at o ≡ Ok i → o ≡ Some i
known_ok at (Some j) i e = cc
known_ok at None i e = absurd cc

-- a course that was read by its name is spelled
pub named_takes : (end : ℕ) (cs : List Course) (ts : List Placed) (x : ℕ × List Placed) → named_at end (ids_of cs) ts ≡ Ok x
    → Takes ts (named cs x.0 ∷ []) x.1 × (x.0 < length cs)
unfolding named_at
named_takes end cs ts x e =
    let t = bind_ok (token_at end ts) _ x e in
    let i = bind_ok (known t.0.0.at (index_of_name (ids_of cs) t.0.0.text)) _ x t.2 in
    let found = found_is (λ c. c.id) no_course cs t.0.0.text i.0 (known_ok t.0.0.at _ i.0 i.1) in
    subst (λ (y : ℕ × List Placed). Takes ts (named cs y.0 ∷ []) y.1 × (y.0 < length cs)) (ok_is (i.0, t.0.1) x i.2)
    (takes_piece (fault.Ended end) ts t.0 (named cs i.0) t.1 found.1, found.0)

-- a course that is spelled is read
pub named_reads : (end : ℕ) (cs : List Course) (ts : List Placed) (i : ℕ) (qs : List Piece) (rest : List Placed) → AreNamed cs
    → i < length cs → Begins (named cs i ∷ qs) ts rest
    → ReadsOn (named_at end (ids_of cs) ts) i qs rest
unfolding named_at
named_reads end cs ts i qs rest apart l h =
    let t = has_piece (fault.Ended end) ts (named cs i) qs rest h in
    let found : index_of_name (ids_of cs) t.token.0.text ≡ Some i = ap (index_of_name (ids_of cs)) t.piece
    ∙ index_is (λ c. c.id) no_course cs apart i l in
    record { mid = t.token.1; is = rw (t.is, found) refl; left = t.left }
