-- The members of a curriculum: those that are read are spelled, and those that are spelled are read. Each is stored once.
use Rattle.std.proofs.Common.{◌≡◌, ℕ, ◌<◌, List, [], ◌∷◌, ◌++◌, length, map, Ok, sym, ap, subst}
use Rattle.std.specs.Prelude.{◌==◌, All}
use Rattle.std.proofs.lemmas.List.Concat.{flat_map_single}
use Rattle.tt_list_laws.specs.Words.{with_new, distinct}
use Rattle.tt_list_laws.proofs.Distinct.{distinct_push}
use Rattle.tt_text.specs.Tokens.{Placed}
use Rattle.tt_text.specs.Pieces.{Piece, Begins}
use Rattle.tt_text.proofs.Steps.{done, ok_is, bind_ok, bind_is, Takes}
use Rattle.tt_text.proofs.Fields.{ReadsOn}
use Rattle.tt_instance.specs.Problem.{Course}
use Rattle.tt_instance.specs.Columns.{ids_of}
use Rattle.tt_instance_read.specs.Reading.{named_at, member_at, members_at}
use Rattle.tt_instance.specs.Spelling.{named}
use Rattle.tt_instance.proofs.AfterLaws.{All-from_each_after, EachAfter-from_all}
use Rattle.tt_instance_read.proofs.NameLaws.{AreNamed, named_takes, named_reads}
use Rattle.tt_instance_read.proofs.Repeating.{members_repeat}
use Rattle.tt_instance_read.proofs.SeriesLaws.{OneTaken, series_takes, series_reads}

-- the listed members, each once
abbrev pub once : List ℕ → List ℕ
once ms = distinct (λ a b. a == b) ms

module _ (end : ℕ) (cs : List Course) where
  -- a member is written as its name
  abbrev member_pieces : ℕ → List Piece
  member_pieces m = named cs m ∷ []

  -- a member is a course, regardless of the members before it
  abbrev IsNextMember : List ℕ → ℕ → Type 0
  IsNextMember _ m = m < length cs

  -- one member that was read is spelled
  member_takes : (before : List ℕ) (ts : List Placed) (x : List ℕ × List Placed) → Unit {0}
      → member_at end (ids_of cs) (once before) ts ≡ Ok x → OneTaken once member_pieces IsNextMember before ts x
  unfolding member_at
  member_takes before ts x _ e =
      let c = bind_ok (named_at end (ids_of cs) ts) _ x e in
      let n = named_takes end cs ts c.0 c.1 in
      subst (OneTaken once member_pieces IsNextMember before ts) (ok_is (with_new (λ a b. a == b) (once before) c.0.0, c.0.1) x c.2)
      (record { item = c.0.0; list = sym (distinct_push (λ a b. a == b) before c.0.0); next = n.1; takes = n.0 })

  -- the result of reading this many members
  pub record MembersTaken (n : ℕ) (ts : List Placed) (x : List ℕ × List Placed) : Type 0 where
    pub listed : List ℕ
    pub list : x.0 ≡ once listed
    pub len : length listed ≡ n
    pub each : All (λ m. m < length cs) listed
    pub takes : Takes ts (map (named cs) listed) x.1

  -- this many members that were read are spelled
  pub members_take : (n : ℕ) (ts : List Placed) (x : List ℕ × List Placed) → members_at end (ids_of cs) n [] ts ≡ Ok x → MembersTaken n ts x
  members_take n ts x e =
      let m = series_takes once member_pieces IsNextMember (λ _. Unit {0}) (member_at end (ids_of cs)) (members_at end (ids_of cs))
      (members_repeat end (ids_of cs)) member_takes (λ before c fits next. tt) n [] ts x tt e in
      record {
        listed = m.items;
        list = m.list;
        len = m.len;
        each = All-from_each_after IsNextMember (λ m. m < length cs) (λ before m h. h) [] m.items m.each;
        takes = subst (λ ps. Takes ts ps x.1) (flat_map_single (named cs) m.items) m.takes;
      }

  module _ (apart : AreNamed cs) where
    -- one member that is spelled is read
    member_reads : (before : List ℕ) (ts : List Placed) (m : ℕ) (qs : List Piece) (rest : List Placed) → m < length cs
        → Begins (member_pieces m ++ qs) ts rest
        → ReadsOn (member_at end (ids_of cs) (once before) ts) (once (before ++ m ∷ [])) qs rest
    unfolding member_at
    member_reads before ts m qs rest below h =
        let c = named_reads end cs ts m qs rest apart below h in
        let made = ap (λ l. done {A = List ℕ × List Placed} (l, c.mid)) (sym (distinct_push (λ a b. a == b) before m)) in
        record { mid = c.mid; is = bind_is _ (m, c.mid) _ _ c.is made; left = c.left }

    -- members that are spelled are read
    pub members_read : (ts : List Placed) (ms : List ℕ) (qs : List Piece) (rest : List Placed) → All (λ m. m < length cs) ms
        → Begins (map (named cs) ms ++ qs) ts rest
        → ReadsOn (members_at end (ids_of cs) (length ms) [] ts) (once ms) qs rest
    members_read ts ms qs rest below h =
        series_reads once member_pieces IsNextMember (member_at end (ids_of cs)) (members_at end (ids_of cs))
        (members_repeat end (ids_of cs)) member_reads [] ts ms qs rest (EachAfter-from_all (λ m. m < length cs) [] ms below)
        (subst (λ ps. Begins (ps ++ qs) ts rest) (sym (flat_map_single (named cs) ms)) h)
