-- Curricula: those that are read are spelled, and those that are spelled are read. Each member is stored once.
use Rattle.std.proofs.Common.{◌≡◌, ℕ, false, List, [], ◌∷◌, ◌++◌, length, map, Ok, refl, sym, ap, subst, ◌∙◌, arith}
use Rattle.std.specs.List.{flat_map}
use Rattle.std.proofs.lemmas.List.{map_push}
use Rattle.tt_text.specs.Tokens.{Placed}
use Rattle.tt_text.specs.Texts.{has_name}
use Rattle.tt_text.specs.Pieces.{Piece, Text, Number, Begins}
use Rattle.tt_text.proofs.Steps.{done, ok_is, bind_ok, Takes, takes_then}
use Rattle.tt_text.proofs.Fields.{ReadsOn, has_piece}
use Rattle.tt_instance_read.specs.declared.fault.InstanceFault.TheVariants as fault
use Rattle.tt_instance.specs.Problem.{Course, Curriculum}
use Rattle.tt_instance.specs.Columns.{ids_of, curriculum_ids_of}
use Rattle.tt_instance_read.specs.Reading.{token_at, limited_at, members_at, curriculum_at, curricula_at}
use Rattle.tt_instance.specs.Spelling.{named, curriculum_pieces, without_repeated_members}
use Rattle.tt_instance.proofs.AfterLaws.{EachAfter}
use Rattle.tt_instance_read.proofs.NextLaws.{IsNextCurriculum}
use Rattle.tt_instance_read.proofs.FieldLaws.{guard_passed, text_takes, limited_takes, limited_reads}
use Rattle.tt_instance_read.proofs.NameLaws.{AreNamed}
use Rattle.tt_instance_read.proofs.MemberLaws.{once, members_take, members_read}
use Rattle.tt_instance_read.proofs.Repeating.{curricula_repeat}
use Rattle.tt_instance_read.proofs.SeriesLaws.{OneTaken, ManyTaken, series_takes, series_reads}

-- the listed curricula, with each member once
abbrev pub all_kept : List Curriculum → List Curriculum
all_kept qs = map without_repeated_members qs

-- each curriculum preserves its name
pub ids_kept : (qs : List Curriculum) → curriculum_ids_of (all_kept qs) ≡ curriculum_ids_of qs
ids_kept [] = refl
ids_kept (q ∷ qs) = ap (λ l. q.id ∷ l) (ids_kept qs)

module _ (end : ℕ) (cs : List Course) where
  -- the result of reading this many curricula
  abbrev pub CurriculaTaken : ℕ → List Placed → List Curriculum × List Placed → Type 0
  CurriculaTaken n ts x = ManyTaken all_kept (curriculum_pieces cs) (IsNextCurriculum (length cs)) n [] ts x

  -- one curriculum that was read is spelled
  curriculum_takes : (before : List Curriculum) (ts : List Placed) (x : List Curriculum × List Placed) → Unit {0}
      → curriculum_at end (ids_of cs) (all_kept before) ts ≡ Ok x
      → OneTaken all_kept (curriculum_pieces cs) (IsNextCurriculum (length cs)) before ts x
  unfolding curriculum_at
  curriculum_takes before ts x _ e =
      let id = bind_ok (token_at end ts) _ x e in
      let g = guard_passed (has_name (curriculum_ids_of (all_kept before)) id.0.0.text) (fault.Repeated id.0.0.at) _ x id.2 in
      let count = bind_ok (limited_at end 4096 id.0.1) _ x g.1 in
      let members = bind_ok (members_at end (ids_of cs) count.0.0 [] count.0.1) _ x count.2 in
      let n = limited_takes end 4096 id.0.1 count.0 count.1 in
      let m = members_take end cs count.0.0 count.0.1 members.0 members.1 in
      let q : Curriculum = record { id = id.0.0.text; members = m.listed } in
      let fresh : has_name (curriculum_ids_of before) q.id ≡ false = ap (λ names. has_name names q.id) (sym (ids_kept before)) ∙ g.0 in
      let counted : Takes id.0.1 (Number (length m.listed) ∷ []) count.0.1 = subst (λ k. Takes id.0.1 (Number k ∷ []) count.0.1)
      (sym m.len) n.0 in
      let pieces : Takes ts (curriculum_pieces cs q) members.0.1 = takes_then _ _ _ _ _ (text_takes end ts id.0 id.1)
      (takes_then _ _ _ _ _ counted m.takes) in
      let list : all_kept before ++ record { id = q.id; members = members.0.0 } ∷ [] ≡ all_kept (before ++ q ∷ []) =
      ap (λ ms. all_kept before ++ record { id = q.id; members = ms } ∷ []) m.list ∙ sym (map_push without_repeated_members before q) in
      subst (OneTaken all_kept (curriculum_pieces cs) (IsNextCurriculum (length cs)) before ts)
      (ok_is (all_kept before ++ record { id = q.id; members = members.0.0 } ∷ [], members.0.1) x members.2)
      (record { item = q; list = list; next = record { fresh = fresh; is = (omega (arith, m.len, n.1), m.each) }; takes = pieces })

  -- this many curricula that were read are spelled
  pub curricula_take : (n : ℕ) (ts : List Placed) (x : List Curriculum × List Placed) → curricula_at end (ids_of cs) n [] ts ≡ Ok x
      → CurriculaTaken n ts x
  curricula_take n ts x e =
      series_takes all_kept (curriculum_pieces cs) (IsNextCurriculum (length cs)) (λ _. Unit {0}) (curriculum_at end (ids_of cs))
      (curricula_at end (ids_of cs)) (curricula_repeat end (ids_of cs)) curriculum_takes
      (λ before q fits next. tt) n [] ts x tt e

  module _ (apart : AreNamed cs) where
    -- one curriculum that is spelled is read
    curriculum_reads : (before : List Curriculum) (ts : List Placed) (q : Curriculum) (qs : List Piece) (rest : List Placed)
        → IsNextCurriculum (length cs) before q → Begins (curriculum_pieces cs q ++ qs) ts rest
        → ReadsOn (curriculum_at end (ids_of cs) (all_kept before) ts) (all_kept (before ++ q ∷ [])) qs rest
    unfolding curriculum_at
    curriculum_reads before ts q qs rest next h =
        let after_count : List Piece = map (named cs) q.members ++ qs in
        let id = has_piece (fault.Ended end) ts (Text q.id) (Number (length q.members) ∷ after_count) rest h in
        let count = limited_reads end 4096 id.token.1 (length q.members) after_count rest next.is.0 id.left in
        let members = members_read end cs apart count.mid q.members qs rest next.is.1 count.left in
        let fresh : has_name (curriculum_ids_of (all_kept before)) id.token.0.text ≡ false =
        ap (has_name (curriculum_ids_of (all_kept before))) id.piece ∙ ap (λ names. has_name names q.id) (ids_kept before)
        ∙ next.fresh in
        let made : done {A = List Curriculum × List Placed}
        (all_kept before ++ record { id = id.token.0.text; members = once q.members } ∷ [], members.mid) ≡ Ok
        (all_kept (before ++ q ∷ []), members.mid) =
        ap (λ name. done {A = List Curriculum × List Placed} (
          all_kept before ++ record { id = name; members = once q.members } ∷ [],
          members.mid,
        )) id.piece
        ∙ ap (λ l. done {A = List Curriculum × List Placed} (l, members.mid)) (sym (map_push without_repeated_members before q)) in
        record { mid = members.mid; is = rw (id.is, fresh, count.is, members.is) made; left = members.left }

    -- curricula that are spelled are read
    pub curricula_read : (ts : List Placed) (qs : List Curriculum) (ps : List Piece) (rest : List Placed)
        → EachAfter (IsNextCurriculum (length cs)) [] qs → Begins (flat_map (curriculum_pieces cs) qs ++ ps) ts rest
        → ReadsOn (curricula_at end (ids_of cs) (length qs) [] ts) (all_kept qs) ps rest
    curricula_read ts qs ps rest next h =
        series_reads all_kept (curriculum_pieces cs) (IsNextCurriculum (length cs)) (curriculum_at end (ids_of cs))
        (curricula_at end (ids_of cs)) (curricula_repeat end (ids_of cs)) curriculum_reads [] ts qs ps rest next h
