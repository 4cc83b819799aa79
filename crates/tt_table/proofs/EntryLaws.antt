-- Entries of a solution: those that are read are spelled, and those that are spelled are read.
use Rattle.std.proofs.Common.{◌≡◌, ℕ, zero, suc, ◌-◌, ◌<◌, ◌≤◌, List, [], ◌∷◌, ◌++◌, length, Option, Some, None, Result, Ok, Err, refl, sym, ap, subst, ◌∙◌, append_assoc, arith, le_of_suc-le-suc}
use Rattle.std.specs.Prelude.{flat_map, All, slice_index_or, IfOk}
use Rattle.std.proofs.lemmas.List.{append-nil}
use Rattle.std.proofs.lemmas.List.Elements.{All-nil, All-cons, All-head, All-tail}
use Rattle.tt_text.specs.Tokens.{Placed, tokens_of}
use Rattle.tt_text.specs.Texts.{index_of_name}
use Rattle.tt_text.specs.Numbers.{number_of}
use Rattle.tt_text.specs.Pieces.{Piece, Text, Number, Begins}
use Rattle.tt_text.specs.declared.numbers.NumberFault.{NumberFault}
use Rattle.tt_text.specs.declared.numbers.NumberFault.TheVariants as number
use Rattle.tt_text.proofs.Steps.{done, ok_is, bind_ok, Takes, takes_then}
use Rattle.tt_text.proofs.Fields.{ReadsOn, takes_piece, has_piece, number_spelled, number_read}
use Rattle.tt_instance.specs.Problem.{Problem}
use Rattle.tt_instance.specs.Cells.{InRange}
use Rattle.tt_instance.specs.Courses.{no_course, no_room, course_ids, room_ids}
use Rattle.tt_instance.specs.Limits.{IsWithinLimits}
use Rattle.tt_instance.specs.declared.cell.Cell.{Cell}
use Rattle.tt_instance.proofs.FreshLaws.{found_is, index_is}
use Rattle.tt_table.specs.declared.fault.SolutionFault.{SolutionFault}
use Rattle.tt_table.specs.declared.fault.SolutionFault.TheVariants as fault
use Rattle.tt_table.proofs.Loops.{entries_none, entries_step}
use Rattle.tt_table.specs.Reading.{Gives, token_at, found, below, index_at, entry_at, entries_at, solution_of}
use Rattle.tt_table.specs.Table.{IsTimetable}
use Rattle.tt_table.specs.Spelling.{entry_pieces, SpellsTable}

-- ---- a number below a bound

below_ok : (at : ℕ) (r : Result ℕ NumberFault) (n : ℕ) → below at r ≡ Ok n → r ≡ Ok n
below_ok at (Ok m) n e = cc
below_ok at (Err number.NotANumber) n e = absurd cc
below_ok at (Err number.TooLarge) n e = absurd cc

index_takes : (end bound : ℕ) (ts : List Placed) (x : ℕ × List Placed) → 0 < bound → index_at end bound ts ≡ Ok x
    → Takes ts (Number x.0 ∷ []) x.1 × (x.0 < bound)
unfolding index_at
index_takes end bound ts x some e =
    let t = bind_ok (token_at end ts) _ x e in
    let n = bind_ok (below t.0.0.at (number_of (bound - 1) t.0.0.text)) _ x t.2 in
    let s = number_spelled (bound - 1) t.0.0.text n.0 (below_ok t.0.0.at _ n.0 n.1) in
    let within : n.0 < bound = omega (arith, s.1) in
    subst (λ (y : ℕ × List Placed). Takes ts (Number y.0 ∷ []) y.1 × (y.0 < bound)) (ok_is (n.0, t.0.1) x n.2)
    (takes_piece (fault.Ended end) ts t.0 (Number n.0) t.1 s.0, within)

index_reads : (end bound : ℕ) (ts : List Placed) (n : ℕ) (qs : List Piece) (rest : List Placed) → n < bound
    → Begins (Number n ∷ qs) ts rest → ReadsOn (index_at end bound ts) n qs rest
unfolding index_at
index_reads end bound ts n qs rest within h =
    let a = has_piece (fault.Ended end) ts (Number n) qs rest h in
    record { mid = a.token.1; is = rw (a.is, number_read (bound - 1) a.token.0.text n a.piece (omega arith)) refl; left = a.left }

-- ---- an entry

found_ok : (e : SolutionFault) (o : Option ℕ) (i : ℕ) → found e o ≡ Ok i → o ≡ Some i
found_ok e (Some j) i h = cc
found_ok e None i h = absurd cc

-- the name of an entry's room
abbrev entry_room : Problem → Cell → List ℕ
entry_room p e = (slice_index_or p.rooms e.room no_room).id

-- an entry that was read after its first token
record EntryTaken (p : Problem) (first : Placed) (ts : List Placed) (x : Cell × List Placed) : Type 0 where
  takes : Takes (first ∷ ts) (entry_pieces p x.0) x.1
  in_range : InRange p x.0

entry_takes : (end : ℕ) (p : Problem) (first : Placed) (ts : List Placed) (x : Cell × List Placed) → IsWithinLimits p
    → entry_at end p first ts ≡ Ok x → EntryTaken p first ts x
unfolding entry_at
entry_takes end p first ts x limits e =
    let c = bind_ok (found (fault.UnknownCourse first.at) (index_of_name (course_ids p) first.text)) _ x e in
    let t = bind_ok (token_at end ts) _ x c.2 in
    let r = bind_ok (found (fault.UnknownRoom t.0.0.at) (index_of_name (room_ids p) t.0.0.text)) _ x t.2 in
    let d = bind_ok (index_at end p.days t.0.1) _ x r.2 in
    let s = bind_ok (index_at end p.periods d.0.1) _ x d.2 in
    let course = found_is (λ c. c.id) no_course p.courses first.text c.0 (found_ok _ _ c.0 c.1) in
    let room = found_is (λ r. r.id) no_room p.rooms t.0.0.text r.0 (found_ok _ _ r.0 r.1) in
    let day = index_takes end p.days t.0.1 d.0 limits.some_day d.1 in
    let period = index_takes end p.periods d.0.1 s.0 limits.some_period s.1 in
    let made : Cell = record { course = c.0; room = r.0; day = d.0.0; period = s.0.0 } in
    let named : Takes ts (Text (entry_room p made) ∷ []) t.0.1 = takes_piece (fault.Ended end) ts t.0
    (Text (entry_room p made)) t.1 room.1 in
    let behind : Takes ts (Text (entry_room p made) ∷ Number made.day ∷ Number made.period ∷ []) s.0.1 =
    takes_then _ _ _ _ _ named (takes_then _ _ _ _ _ day.0 period.0) in
    let whole : Takes (first ∷ ts) (entry_pieces p made) s.0.1 = record { take = λ qs rest h. (course.1, behind.take qs rest h) } in
    subst (EntryTaken p first ts) (ok_is (made, s.0.1) x s.2)
    (record { takes = whole; in_range = record { course = course.0; room = room.0; day = day.1; period = period.1 } })

-- an entry that is spelled is read
record EntryRead (end : ℕ) (p : Problem) (e : Cell) (ts : List Placed) (qs : List Piece) (rest : List Placed) : Type 0 where
  first : Placed
  more : List Placed
  split : ts ≡ first ∷ more
  mid : List Placed
  is : entry_at end p first more ≡ Ok (e, mid)
  left : Begins qs mid rest

entry_reads : (end : ℕ) (p : Problem) (e : Cell) (ts : List Placed) (qs : List Piece) (rest : List Placed) → IsWithinLimits p
    → InRange p e → Begins (entry_pieces p e ++ qs) ts rest → EntryRead end p e ts qs rest
unfolding entry_at
entry_reads end p e [] qs rest limits inside h = absurd h
entry_reads end p e (first ∷ more) qs rest limits inside h =
    let room = has_piece (fault.Ended end) more (Text (entry_room p e)) (Number e.day ∷ Number e.period ∷ qs) rest h.1 in
    let day = index_reads end p.days room.token.1 e.day (Number e.period ∷ qs) rest inside.day room.left in
    let period = index_reads end p.periods day.mid e.period qs rest inside.period day.left in
    let course_is : index_of_name (course_ids p) first.text ≡ Some e.course =
    ap (index_of_name (course_ids p)) h.0 ∙ index_is (λ c. c.id) no_course p.courses limits.course_names e.course inside.course in
    let room_is : index_of_name (room_ids p) room.token.0.text ≡ Some e.room =
    ap (index_of_name (room_ids p)) room.piece ∙ index_is (λ r. r.id) no_room p.rooms limits.room_names e.room inside.room in
    record {
      first = first;
      more = more;
      split = refl;
      mid = period.mid;
      is = rw (course_is, room.is, room_is, day.is, period.is) refl;
      left = period.left;
    }

-- ---- all entries

-- the entries that were read after those before
record EntriesTaken (p : Problem) (n : ℕ) (before : List Cell) (ts : List Placed) (all : List Cell) : Type 0 where
  entries : List Cell
  list : all ≡ before ++ entries
  at_most : length entries ≤ n
  spelled : Begins (flat_map (entry_pieces p) entries) ts []
  in_range : All (InRange p) entries

entries_take : (end : ℕ) (p : Problem) (n : ℕ) (before : List Cell) (ts : List Placed) (all : List Cell) → IsWithinLimits p
    → entries_at end p n before ts ≡ Ok all → EntriesTaken p n before ts all
unfolding entries_at
entries_take end p n before [] all limits e =
    record {
      entries = [];
      list = sym (ok_is before all e) ∙ sym (append-nil before);
      at_most = omega arith;
      spelled = refl;
      in_range = All-nil (InRange p);
    }
entries_take end p zero before (t ∷ ts) all limits e = absurd cc
entries_take end p (suc n) before (t ∷ ts) all limits e =
    let one = bind_ok (entry_at end p t ts) (λ x. entries_at end p n (before ++ x.0 ∷ []) x.1) all e in
    let taken = entry_takes end p t ts one.0 limits one.1 in
    let more = entries_take end p n (before ++ one.0.0 ∷ []) one.0.1 all limits one.2 in
    record {
      entries = one.0.0 ∷ more.entries;
      list = more.list ∙ append_assoc before (one.0.0 ∷ []) more.entries;
      at_most = omega (arith, more.at_most);
      spelled = taken.takes.take (flat_map (entry_pieces p) more.entries) [] more.spelled;
      in_range = All-cons (InRange p) one.0.0 more.entries taken.in_range more.in_range;
    }

entries_read : (end : ℕ) (p : Problem) (n : ℕ) (before es : List Cell) (ts : List Placed) → IsWithinLimits p → All (InRange p) es
    → length es ≤ n → Begins (flat_map (entry_pieces p) es) ts [] → entries_at end p n before ts ≡ Ok (before ++ es)
unfolding entries_at
entries_read end p n before [] ts limits inside at_most h =
    entries_none end p n before ts h ∙ ap (λ (l : List Cell). done l) (sym (append-nil before))
entries_read end p zero before (e ∷ es) ts limits inside at_most h = absurd (omega arith)
entries_read end p (suc n) before (e ∷ es) ts limits inside at_most h =
    let one = entry_reads end p e ts (flat_map (entry_pieces p) es) [] limits (All-head (InRange p) e es inside) h in
    let more = entries_read end p n (before ++ e ∷ []) es one.mid limits (All-tail (InRange p) e es inside)
    (le_of_suc-le-suc at_most) one.left in
    let step = entries_step end p n before one.first one.more ts one.mid e one.split one.is in
    step ∙ more ∙ ap (λ (l : List Cell). done l) (append_assoc before (e ∷ []) es)

-- ---- a whole file

-- a solution that is read is spelled
pub solution_spelled : (p : Problem) (bytes : List ℕ) (t : List Cell) → IsWithinLimits p → solution_of p bytes ≡ Ok t
    → SpellsTable p bytes t
unfolding solution_of
solution_spelled p bytes t limits e =
    let taken = entries_take (length bytes) p 16384 [] (tokens_of bytes) t limits e in
    subst (SpellsTable p bytes) (sym taken.list) (record { tokens = taken.spelled; at_most = taken.at_most; in_range = taken.in_range })

-- a solution that is spelled is read
pub solution_read : (p : Problem) (bytes : List ℕ) (t : List Cell) → IsWithinLimits p → SpellsTable p bytes t → solution_of p bytes ≡ Ok t
unfolding solution_of
solution_read p bytes t limits spelled = entries_read (length bytes) p 16384 [] t
    (tokens_of bytes) limits spelled.in_range spelled.at_most spelled.tokens

-- bytes spell at most one timetable
pub solution_once : (p : Problem) (bytes : List ℕ) (t u : List Cell) → IsWithinLimits p → SpellsTable p bytes t → SpellsTable p bytes u
    → t ≡ u
solution_once p bytes t u limits first second =
    ok_is t u (sym (solution_read p bytes t limits first) ∙ solution_read p bytes u limits second)

-- the form that the contract states: the result is spelled
pub found_in : (p : Problem) (bytes : List ℕ) (r : Result (List Cell) SolutionFault) → IsWithinLimits p
    → Gives (λ t. t) r (solution_of p bytes) → IfOk r (SpellsTable p bytes)
found_in p bytes (Ok t) limits given = solution_spelled p bytes t limits given
found_in p bytes (Err f) limits given = tt

pub fits_in : (p : Problem) (bytes : List ℕ) (r : Result (List Cell) SolutionFault) → IfOk r (SpellsTable p bytes) → IfOk r (IsTimetable p)
fits_in p bytes (Ok t) found = found.in_range
fits_in p bytes (Err f) found = tt
