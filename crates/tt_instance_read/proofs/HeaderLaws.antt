-- The name and the header: those that are read are spelled, and those that are spelled are read.
use Rattle.std.proofs.Common.{◌≡◌, ◌≢◌, ℕ, ◌*◌, ◌<◌, ◌≤◌, Bool, true, false, cond, ltb, eqb, List, [], ◌∷◌, ◌++◌, map, Ok, refl, sym, ap, subst, ◌∙◌, append_assoc, arith, codes}
use Rattle.std.specs.Prelude.{All}
use Rattle.std.proofs.lemmas.List.{append-nil}
use Rattle.std.proofs.lemmas.List.Elements.{All-nil, All-cons, All-head, All-tail}
use Rattle.std.proofs.lemmas.Bool.{ltb-false, le-ltb, false_from_ne_true, both_ways}
use Rattle.std.proofs.lemmas.Bool.Decides.{nat_tests}
use Rattle.tt_text.specs.Tokens.{Placed}
use Rattle.tt_text.specs.Texts.{is_text}
use Rattle.tt_text.specs.Numbers.{number_of}
use Rattle.tt_text.specs.Pieces.{Piece, Text, Number, Begins}
use Rattle.tt_text.proofs.Steps.{done, ok_is, bind_ok, refusal_ok, Takes, takes_then}
use Rattle.tt_text.proofs.Fields.{ReadsOn, takes_piece, has_piece, text_is, is_text_of, number_spelled, number_read}
use Rattle.tt_instance_read.specs.declared.fault.Word.{Word}
use Rattle.tt_instance_read.specs.declared.fault.Word.TheVariants as word
use Rattle.tt_instance_read.specs.declared.fault.InstanceFault.TheVariants as fault
use Rattle.tt_instance_read.specs.Words.{word_text, fixed}
use Rattle.tt_instance_read.specs.Reading.{Counts, token_at, word_at, numbered, limited_at, counted_at, name_at, days_at, periods_at, header_at}
use Rattle.tt_instance_read.proofs.FieldLaws.{word_takes, has_word, numbered_ok, limited_takes, limited_reads}

-- ---- the name

-- a token that doesn't end the name
abbrev pub IsNamePart : List ℕ → Type 0
IsNamePart text = text ≢ codes "Courses:"

-- the result of reading the tokens before the word that ends the name
pub record NameTaken (before : List (List ℕ)) (ts : List Placed) (x : List (List ℕ) × List Placed) : Type 0 where
  pub name : List (List ℕ)
  pub list : x.0 ≡ before ++ name
  pub other : All IsNamePart name
  pub takes : Takes ts (map Text name ++ fixed word.Courses ∷ []) x.1

-- another token in front
name_step : (end : ℕ) (before : List (List ℕ)) (t : Placed) (ts : List Placed) (x : List (List ℕ) × List Placed) (v : Bool)
    → is_text (word_text word.Courses) t.text ≡ v
    → cond v (Ok (before, ts)) (name_at end (before ++ t.text ∷ []) ts) ≡ Ok x
    → (name_at end (before ++ t.text ∷ []) ts ≡ Ok x → NameTaken (before ++ t.text ∷ []) ts x) → NameTaken before (t ∷ ts) x
name_step end before t ts x true is e more =
    subst (NameTaken before (t ∷ ts)) (ok_is (before, ts) x e) (record {
      name = [];
      list = sym (append-nil before);
      other = All-nil IsNamePart;
      takes = record { take = λ qs rest h. (text_is t.text (word_text word.Courses) is, h) };
    })
name_step end before t ts x false is e more =
    let m = more e in
    record {
      name = t.text ∷ m.name;
      list = m.list ∙ append_assoc before (t.text ∷ []) m.name;
      other = All-cons IsNamePart t.text m.name (λ same. both_ways _ is (is_text_of t.text (word_text word.Courses) same)) m.other;
      takes = record { take = λ qs rest h. (refl, m.takes.take qs rest h) };
    }

-- a name that was read is spelled
pub name_takes : (end : ℕ) (before : List (List ℕ)) (ts : List Placed) (x : List (List ℕ) × List Placed) → name_at end before ts ≡ Ok x
    → NameTaken before ts x
unfolding name_at
name_takes end before [] x e = absurd cc
name_takes end before (t ∷ ts) x e = name_step end before t ts x (is_text (word_text word.Courses) t.text) refl e
    (λ h. name_takes end (before ++ t.text ∷ []) ts x h)

-- a name that is spelled is read
pub name_reads : (end : ℕ) (before name : List (List ℕ)) (ts : List Placed) (qs : List Piece) (rest : List Placed) → All IsNamePart name
    → Begins (map Text name ++ (fixed word.Courses ∷ qs)) ts rest → ReadsOn (name_at end before ts) (before ++ name) qs rest
unfolding name_at
name_reads end before [] [] qs rest other h = absurd h
name_reads end before [] (t ∷ ts) qs rest other h =
    let is : is_text (word_text word.Courses) t.text ≡ true = is_text_of t.text (word_text word.Courses) h.0 in
    record {
      mid = ts;
      is = rw is (ap (λ (b : List (List ℕ)). done {A = List (List ℕ) × List Placed} (b, ts)) (sym (append-nil before)));
      left = h.1;
    }
name_reads end before (n ∷ ns) [] qs rest other h = absurd h
name_reads end before (n ∷ ns) (t ∷ ts) qs rest other h =
    let is : is_text (word_text word.Courses) t.text ≡ false =
    false_from_ne_true _ (λ same. All-head IsNamePart n ns other (sym h.0 ∙ text_is t.text (word_text word.Courses) same)) in
    let more = name_reads end (before ++ n ∷ []) ns ts qs rest (All-tail IsNamePart n ns other) h.1 in
    let same : name_at end (before ++ t.text ∷ []) ts ≡ name_at end (before ++ n ∷ []) ts =
    ap (λ (x : List ℕ). name_at end (before ++ x ∷ []) ts) h.0 in
    record {
      mid = more.mid;
      is = rw is (same ∙ more.is ∙ ap (λ (b : List (List ℕ)). done {A = List (List ℕ) × List Placed} (b, more.mid))
          (append_assoc before (n ∷ []) ns));
      left = more.left;
    }

-- ---- the counts

-- a word and a number that were read are spelled, and the number is within the limit
counted_takes : (end : ℕ) (w : Word) (limit : ℕ) (ts : List Placed) (x : ℕ × List Placed) → counted_at end w limit ts ≡ Ok x
    → Takes ts (fixed w ∷ Number x.0 ∷ []) x.1 × (x.0 ≤ limit)
unfolding counted_at
counted_takes end w limit ts x e =
    let a = bind_ok (word_at end w ts) (λ rest. limited_at end limit rest) x e in
    let n = limited_takes end limit a.0 x a.2 in
    (takes_then _ _ _ _ _ (word_takes end w ts a.0 a.1) n.0, n.1)

-- a word and a number that are spelled are read
counted_reads : (end : ℕ) (w : Word) (limit : ℕ) (ts : List Placed) (n : ℕ) (qs : List Piece) (rest : List Placed) → n ≤ limit
    → Begins (fixed w ∷ Number n ∷ qs) ts rest
    → ReadsOn (counted_at end w limit ts) n qs rest
unfolding counted_at
counted_reads end w limit ts n qs rest within h =
    let a = has_word end w ts (Number n ∷ qs) rest h in
    let b = limited_reads end limit a.mid n qs rest within a.left in
    record { mid = b.mid; is = rw a.is b.is; left = b.left }

-- a number that isn't 0 is above 0
nonzero : (n : ℕ) → eqb n 0 ≡ false → 0 < n
nonzero n e = grind (arith, nat_tests)

-- a number above 0 is not 0
not_zero : (n : ℕ) → 0 < n → eqb n 0 ≡ false
not_zero n h = grind (arith, nat_tests)

-- days that were read are spelled and within the limits
days_takes : (end : ℕ) (ts : List Placed) (x : ℕ × List Placed) → days_at end ts ≡ Ok x
    → Takes ts (fixed word.Days ∷ Number x.0 ∷ []) x.1 × (0 < x.0) × (x.0 ≤ 64)
unfolding days_at
days_takes end ts x e =
    let a = bind_ok (word_at end word.Days ts) _ x e in
    let t = bind_ok (token_at end a.0) _ x a.2 in
    let n = bind_ok (numbered t.0.0.at (number_of 64 t.0.0.text)) _ x t.2 in
    let g = refusal_ok (eqb n.0 0) (fault.OutOfRange t.0.0.at) (Ok (n.0, t.0.1)) x n.2 in
    let v = number_spelled 64 t.0.0.text n.0 (numbered_ok t.0.0.at _ n.0 n.1) in
    let takes : Takes ts (fixed word.Days ∷ Number n.0 ∷ []) t.0.1 = takes_then _ _ _ _ _ (word_takes end word.Days ts a.0 a.1)
    (takes_piece (fault.Ended end) a.0 t.0 (Number n.0) t.1 v.0) in
    subst (λ (y : ℕ × List Placed). Takes ts (fixed word.Days ∷ Number y.0 ∷ []) y.1 × (0 < y.0) × (y.0 ≤ 64))
    (ok_is (n.0, t.0.1) x g.1) (takes, nonzero n.0 g.0, v.1)

-- days within the limits that are spelled are read
days_reads : (end : ℕ) (ts : List Placed) (n : ℕ) (qs : List Piece) (rest : List Placed) → 0 < n → n ≤ 64
    → Begins (fixed word.Days ∷ Number n ∷ qs) ts rest → ReadsOn (days_at end ts) n qs rest
unfolding days_at
days_reads end ts n qs rest some within h =
    let a = has_word end word.Days ts (Number n ∷ qs) rest h in
    let t = has_piece (fault.Ended end) a.mid (Number n) qs rest a.left in
    record { mid = t.token.1; is = rw (a.is, t.is, number_read 64 t.token.0.text n t.piece within, not_zero n some) refl; left = t.left }

-- the limits on the periods of a day
pub record IsPeriods (pairs days n : ℕ) : Type 0 where
  pub some : 0 < n
  pub within : n ≤ 64
  pub slots : days * n ≤ 512
  pub cells : pairs * (days * n) ≤ 67108864

-- periods that were read are spelled and within the limits
periods_takes : (end pairs days : ℕ) (ts : List Placed) (x : ℕ × List Placed) → periods_at end pairs days ts ≡ Ok x
    → Takes ts (fixed word.PeriodsPerDay ∷ Number x.0 ∷ []) x.1 × IsPeriods pairs days x.0
unfolding periods_at
periods_takes end pairs days ts x e =
    let a = bind_ok (word_at end word.PeriodsPerDay ts) _ x e in
    let t = bind_ok (token_at end a.0) _ x a.2 in
    let n = bind_ok (numbered t.0.0.at (number_of 64 t.0.0.text)) _ x t.2 in
    let g = refusal_ok (ltb 512 (days * n.0)) (fault.OverLimit t.0.0.at) _ x n.2 in
    let k = refusal_ok (ltb 67108864 (pairs * (days * n.0))) (fault.OverLimit t.0.0.at) _ x g.1 in
    let z = refusal_ok (eqb n.0 0) (fault.OutOfRange t.0.0.at) (Ok (n.0, t.0.1)) x k.1 in
    let v = number_spelled 64 t.0.0.text n.0 (numbered_ok t.0.0.at _ n.0 n.1) in
    let takes : Takes ts (fixed word.PeriodsPerDay ∷ Number n.0 ∷ []) t.0.1 =
    takes_then _ _ _ _ _ (word_takes end word.PeriodsPerDay ts a.0 a.1) (takes_piece (fault.Ended end) a.0 t.0 (Number n.0) t.1 v.0) in
    subst (λ (y : ℕ × List Placed). Takes ts (fixed word.PeriodsPerDay ∷ Number y.0 ∷ []) y.1 × IsPeriods pairs days y.0)
    (ok_is (n.0, t.0.1) x z.1)
    (takes, record { some = nonzero n.0 z.0; within = v.1; slots = ltb-false _ _ g.0; cells = ltb-false _ _ k.0 })

-- periods within the limits that are spelled are read
periods_reads : (end pairs days : ℕ) (ts : List Placed) (n : ℕ) (qs : List Piece) (rest : List Placed) → IsPeriods pairs days n
    → Begins (fixed word.PeriodsPerDay ∷ Number n ∷ qs) ts rest
    → ReadsOn (periods_at end pairs days ts) n qs rest
unfolding periods_at
periods_reads end pairs days ts n qs rest ok h =
    let a = has_word end word.PeriodsPerDay ts (Number n ∷ qs) rest h in
    let t = has_piece (fault.Ended end) a.mid (Number n) qs rest a.left in
    let value = number_read 64 t.token.0.text n t.piece ok.within in
    record {
      mid = t.token.1;
      is = rw (a.is, t.is, value, le-ltb _ _ ok.slots, le-ltb _ _ ok.cells, not_zero n ok.some) refl;
      left = t.left;
    }

-- ---- the header

pub record IsHeader (c : Counts) : Type 0 where
  pub courses : c.courses ≤ 2048
  pub rooms : c.rooms ≤ 512
  pub some_day : 0 < c.days
  pub days : c.days ≤ 64
  pub periods : IsPeriods (c.courses * c.rooms) c.days c.periods
  pub curricula : c.curricula ≤ 8192
  pub unavailabilities : c.unavailabilities ≤ 65536

-- the header after the word that ends the name
abbrev pub count_pieces : Counts → List Piece
count_pieces c =
    Number c.courses ∷ fixed word.Rooms ∷ Number c.rooms ∷ fixed word.Days ∷ Number c.days ∷ fixed word.PeriodsPerDay ∷ Number c.periods
    ∷ fixed word.Curricula ∷ Number c.curricula ∷ fixed word.Constraints ∷ Number c.unavailabilities ∷ []

-- a header that was read is spelled and within the limits
pub header_takes : (end : ℕ) (ts : List Placed) (x : Counts × List Placed) → header_at end ts ≡ Ok x → Takes ts (count_pieces x.0) x.1
    × IsHeader x.0
unfolding header_at
header_takes end ts x e =
    let courses = bind_ok (limited_at end 2048 ts) _ x e in
    let rooms = bind_ok (counted_at end word.Rooms 512 courses.0.1) _ x courses.2 in
    let days = bind_ok (days_at end rooms.0.1) _ x rooms.2 in
    let periods = bind_ok (periods_at end (courses.0.0 * rooms.0.0) days.0.0 days.0.1) _ x days.2 in
    let curricula = bind_ok (counted_at end word.Curricula 8192 periods.0.1) _ x periods.2 in
    let unavailabilities = bind_ok (counted_at end word.Constraints 65536 curricula.0.1) _ x curricula.2 in
    let c = limited_takes end 2048 ts courses.0 courses.1 in
    let r = counted_takes end word.Rooms 512 courses.0.1 rooms.0 rooms.1 in
    let d = days_takes end rooms.0.1 days.0 days.1 in
    let p = periods_takes end (courses.0.0 * rooms.0.0) days.0.0 days.0.1 periods.0 periods.1 in
    let q = counted_takes end word.Curricula 8192 periods.0.1 curricula.0 curricula.1 in
    let b = counted_takes end word.Constraints 65536 curricula.0.1 unavailabilities.0 unavailabilities.1 in
    let h : Counts = record {
      courses = courses.0.0;
      rooms = rooms.0.0;
      days = days.0.0;
      periods = periods.0.0;
      curricula = curricula.0.0;
      unavailabilities = unavailabilities.0.0;
    } in
    let takes : Takes ts (count_pieces h) unavailabilities.0.1 =
    takes_then _ _ _ _ _ c.0
    (takes_then _ _ _ _ _ r.0 (takes_then _ _ _ _ _ d.0 (takes_then _ _ _ _ _ p.0 (takes_then _ _ _ _ _ q.0 b.0)))) in
    subst (λ (y : Counts × List Placed). Takes ts (count_pieces y.0) y.1 × IsHeader y.0)
    (ok_is (h, unavailabilities.0.1) x unavailabilities.2)
    (takes, record { courses = c.1; rooms = r.1; some_day = d.1; days = d.2; periods = p.1; curricula = q.1; unavailabilities = b.1 })

-- a header within the limits that is spelled is read
pub header_reads : (end : ℕ) (ts : List Placed) (c : Counts) (qs : List Piece) (rest : List Placed) → IsHeader c
    → Begins (count_pieces c ++ qs) ts rest → ReadsOn (header_at end ts) c qs rest
unfolding header_at
header_reads end ts c qs rest ok h =
    let s4 : List Piece = fixed word.Constraints ∷ Number c.unavailabilities ∷ qs in
    let s3 : List Piece = fixed word.Curricula ∷ Number c.curricula ∷ s4 in
    let s2 : List Piece = fixed word.PeriodsPerDay ∷ Number c.periods ∷ s3 in
    let s1 : List Piece = fixed word.Days ∷ Number c.days ∷ s2 in
    let s0 : List Piece = fixed word.Rooms ∷ Number c.rooms ∷ s1 in
    let courses = limited_reads end 2048 ts c.courses s0 rest ok.courses h in
    let rooms = counted_reads end word.Rooms 512 courses.mid c.rooms s1 rest ok.rooms courses.left in
    let days = days_reads end rooms.mid c.days s2 rest ok.some_day ok.days rooms.left in
    let periods = periods_reads end (c.courses * c.rooms) c.days days.mid c.periods s3 rest ok.periods days.left in
    let curricula = counted_reads end word.Curricula 8192 periods.mid c.curricula s4 rest ok.curricula periods.left in
    let unavailabilities = counted_reads end word.Constraints 65536 curricula.mid c.unavailabilities qs rest ok.unavailabilities
    curricula.left in
    record {
      mid = unavailabilities.mid;
      is = rw (courses.is, rooms.is, days.is, periods.is, curricula.is, unavailabilities.is) refl;
      left = unavailabilities.left;
    }
