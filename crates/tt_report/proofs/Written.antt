-- The text of lists of lines, part by part.
use Rattle.std.proofs.Common.{◌≡◌, ℕ, zero, suc, ◌+◌, ◌≤◌, Bool, true, false, ◌&&◌, cond, List, [], ◌∷◌, ◌++◌, map, take, length, get_or, codes, refl, sym, ap, ◌∙◌, subst, append_assoc, arith}
use Rattle.std.specs.Prelude.{flat_map, filter, Option}
use Rattle.std.specs.Fmt.{decimal}
use Rattle.std.proofs.lemmas.List.{append-nil, take_more, take_all}
use Rattle.std.proofs.lemmas.Grind.{flat_map-append}
use Rattle.tt_list_laws.specs.Words.{range_below}
use Rattle.tt_list_laws.proofs.Below.{range_below_more}
use Rattle.tt_text.specs.Pieces.{Piece, Text, Number}
use Rattle.tt_text.specs.Lines.{text_of, line_text, lines_text}
use Rattle.tt_report.specs.Puts.{Puts}
use Rattle.tt_report.specs.declared.output.Output.{Output}
use Rattle.tt_report.proofs.Putting.{puts_both, puts_nothing}
use Rattle.tt_instance.specs.Problem.{Problem}
use Rattle.tt_instance.specs.Cells.{slot, all_slots, all_days, all_rooms, all_curricula, is_at}
use Rattle.tt_instance.specs.Courses.{teachers}
use Rattle.tt_instance.specs.declared.cell.Cell.{Cell}
use Rattle.tt_instance.specs.declared.cell.Slot.{Slot}
use Rattle.tt_report.specs.Inner.Blocks.{head_of, shown_in, belongs_to, next_texts, entries_text, slot_text, block_text}
use Rattle.tt_report.specs.Names.{shown}
use Rattle.tt_report.specs.Reports.{course_text, room_text, course_and_room, is_taught_by, slot_line, block, report_text}
use Rattle.tt_report.specs.declared.blocks.Block.{Block}
use Rattle.tt_report.specs.declared.blocks.Block.TheVariants as of
use Rattle.tt_table.specs.declared.kind.Kind.TheVariants.{Room, Teacher, Curriculum}
use Rattle.tt_text.proofs.Texts.{rows_text}

-- another number
pub texts_more : {Y : Type 0} (f : ℕ → List Y) (i : ℕ) → flat_map f (range_below (i + 1)) ≡ flat_map f (range_below i) ++ f i
texts_more f i =
    ap (flat_map f) (range_below_more i) ∙ flat_map-append f (range_below i) (i ∷ []) ∙ ap (λ z. flat_map f (range_below i) ++ z)
    (append-nil (f i))

-- a text is extended by that of another number
pub puts_further : {W : Type 0} (C : W → Option (List ℕ)) (F : W → Bool) (f : ℕ → List ℕ) (i : ℕ) (first old new : Output W)
    → Puts C F first old (flat_map f (range_below i)) → Puts C F old new (f i) → Puts C F first new (flat_map f (range_below (i + 1)))
puts_further C F f i first old new before more =
    subst (Puts C F first new) (sym (texts_more f i)) (puts_both C F first old new (flat_map f (range_below i)) (f i) before more)

-- a line is its first piece, the others, each after a space, and its end
pub line_is : (p : Piece) (ps : List Piece) → line_text (p ∷ ps) ≡ text_of p ++ (next_texts ps ++ 10 ∷ [])
line_is p [] = refl
line_is p (q ∷ ps) =
    ap (λ z. text_of p ++ 32 ∷ z) (line_is q ps) ∙ ap (λ z. text_of p ++ 32 ∷ z) (sym (append_assoc (text_of q) (next_texts ps) (10 ∷ [])))

pub next_texts-of_flat_map : {X : Type 0} (f : X → List Piece) (xs : List X) → next_texts (flat_map f xs) ≡ flat_map
    (λ x. next_texts (f x)) xs
next_texts-of_flat_map f [] = refl
next_texts-of_flat_map f (x ∷ xs) =
    flat_map-append (λ p. 32 ∷ text_of p) (f x) (flat_map f xs) ∙ ap (λ z. next_texts (f x) ++ z) (next_texts-of_flat_map f xs)

pub filter-filter : {X : Type 0} (p q : X → Bool) (xs : List X) → filter p (filter q xs) ≡ filter (λ x. p x && q x) xs
filter-filter p q [] = refl
filter-filter p q (x ∷ xs) = step (p x) (q x) refl ∙ ap (λ z. cond (p x && q x) (x ∷ z) z) (filter-filter p q xs)
  where
    step : (a b : Bool) → p x ≡ a → filter p (cond b (x ∷ filter q xs) (filter q xs)) ≡ cond (a && b) (x ∷ filter p (filter q xs))
        (filter p (filter q xs))
    step true true e = ap (λ c. cond c (x ∷ filter p (filter q xs)) (filter p (filter q xs))) e
    step false true e = ap (λ c. cond c (x ∷ filter p (filter q xs)) (filter p (filter q xs))) e
    step true false e = refl
    step false false e = refl

pub lines_text-of_flat_map : {X : Type 0} (f : X → List (List Piece)) (xs : List X) → lines_text (flat_map f xs) ≡ flat_map
    (λ x. lines_text (f x)) xs
lines_text-of_flat_map f [] = refl
lines_text-of_flat_map f (x ∷ xs) = both (f x) (flat_map f xs) ∙ ap (λ z. lines_text (f x) ++ z) (lines_text-of_flat_map f xs)
  where
    both : (ls ms : List (List Piece)) → lines_text (ls ++ ms) ≡ lines_text ls ++ lines_text ms
    both [] ms = refl
    both (l ∷ ls) ms = ap (λ z. line_text l ++ z) (both ls ms) ∙ sym (append_assoc (line_text l) (lines_text ls) (lines_text ms))

pub flat_map-of_flat_map : {X Y Z : Type 0} (f : Y → List Z) (g : X → List Y) (xs : List X) → flat_map f (flat_map g xs) ≡ flat_map
    (λ x. flat_map f (g x)) xs
flat_map-of_flat_map f g [] = refl
flat_map-of_flat_map f g (x ∷ xs) = flat_map-append f (g x) (flat_map g xs) ∙ ap (λ z. flat_map f (g x) ++ z) (flat_map-of_flat_map f g xs)

pub flat_map-of_map : {X Y Z : Type 0} (f : Y → List Z) (g : X → Y) (xs : List X) → flat_map f (map g xs) ≡ flat_map (λ x. f (g x)) xs
flat_map-of_map f g [] = refl
flat_map-of_map f g (x ∷ xs) = ap (λ z. f (g x) ++ z) (flat_map-of_map f g xs)

pub flat_map-same : {X Y : Type 0} (f g : X → List Y) (xs : List X) → ((x : X) → f x ≡ g x) → flat_map f xs ≡ flat_map g xs
flat_map-same f g [] same = refl
flat_map-same f g (x ∷ xs) same = ap (λ z. z ++ flat_map f xs) (same x) ∙ ap (λ z. g x ++ z) (flat_map-same f g xs same)

-- ---- the entries of a period

module _ {W : Type 0} (C : W → Option (List ℕ)) (F : W → Bool) where
  -- the text of the entries before those that are left
  pub record EntriesPut (p : Problem) (b : Block) (first now : Output W) (all left : List Cell) : Type 0 where
    pub text : List ℕ
    pub puts : Puts C F first now text
    pub whole : text ++ entries_text p b left ≡ entries_text p b all

  -- no entry has been put
  pub entries_begun : (p : Problem) (b : Block) (first : Output W) (all left : List Cell) → left ≡ all → EntriesPut p b first first all left
  entries_begun p b first all left is = record { text = []; puts = puts_nothing C F first; whole = ap (entries_text p b) is }

  -- an entry that belongs to the block
  pub entry_shown : (p : Problem) (b : Block) (e : Cell) (es left all : List Cell) (first old new : Output W) → left ≡ e ∷ es
      → belongs_to p b e ≡ true → EntriesPut p b first old all left → Puts C F old new (next_texts (shown_in p b e))
      → EntriesPut p b first new all es
  entry_shown p b e es left all first old new is belongs before more = record {
    text = before.text ++ next_texts (shown_in p b e);
    puts = puts_both C F first old new before.text (next_texts (shown_in p b e)) before.puts more;
    whole = append_assoc before.text (next_texts (shown_in p b e)) (entries_text p b es)
        ∙ ap (λ c. before.text ++ flat_map (λ x. next_texts (shown_in p b x))
        (cond c (e ∷ filter (belongs_to p b) es) (filter (belongs_to p b) es))) (sym belongs)
        ∙ ap (λ l. before.text ++ entries_text p b l) (sym is)
        ∙ before.whole;
  }

  -- an entry of another block
  pub entry_passed : (p : Problem) (b : Block) (e : Cell) (es left all : List Cell) (first now : Output W) → left ≡ e ∷ es
      → belongs_to p b e ≡ false → EntriesPut p b first now all left → EntriesPut p b first now all es
  entry_passed p b e es left all first now is other before = record {
    text = before.text;
    puts = before.puts;
    whole = ap (λ c. before.text ++ flat_map (λ x. next_texts (shown_in p b x))
        (cond c (e ∷ filter (belongs_to p b) es) (filter (belongs_to p b) es))) (sym other)
        ∙ ap (λ l. before.text ++ entries_text p b l) (sym is)
        ∙ before.whole;
  }

  -- no entry is left
  pub entries_all : (p : Problem) (b : Block) (left all : List Cell) (first now : Output W) → left ≡ []
      → EntriesPut p b first now all left → Puts C F first now (entries_text p b all)
  entries_all p b left all first now none before =
      subst (Puts C F first now) (sym (append-nil before.text) ∙ ap (λ l. before.text ++ entries_text p b l) (sym none)
      ∙ before.whole) before.puts

-- the line of a period: day, period and its entries of the block
pub slot_is : (p : Problem) (b : Block) (t : List Cell) (d s : ℕ) → slot_text p t b (slot d s) ≡ decimal d ++
    (32 ∷ (decimal s ++ (entries_text p b (filter (is_at (slot d s)) t) ++ 10 ∷ [])))
slot_is p b t d s =
    ap (λ z. decimal d ++ 32 ∷ z) (line_is (Number s) (flat_map (shown_in p b) (filter (λ e. belongs_to p b e && is_at (slot d s) e) t)))
    ∙ ap (λ es. decimal d ++ 32 ∷ (decimal s ++ (next_texts (flat_map (shown_in p b) es) ++ 10 ∷ [])))
    (sym (filter-filter (belongs_to p b) (is_at (slot d s)) t))
    ∙ ap (λ z. decimal d ++ 32 ∷ (decimal s ++ (z ++ 10 ∷ [])))
    (next_texts-of_flat_map (shown_in p b) (filter (belongs_to p b) (filter (is_at (slot d s)) t)))

module _ {W : Type 0} (C : W → Option (List ℕ)) (F : W → Bool) where
  -- the parts put in turn are the line
  pub slot_put : (p : Problem) (b : Block) (t es : List Cell) (day period d s : ℕ) (first mid next last end : Output W) → d ≡ day
      → s ≡ period → es ≡ filter (is_at (slot day period)) t → Puts C F first mid (decimal d) → Puts C F mid next (32 ∷ decimal s)
      → Puts C F next last (entries_text p b es) → Puts C F last end (10 ∷ []) → Puts C F first end (slot_text p t b (slot day period))
  slot_put p b t es day period d s first mid next last end day_is period_is es_is puts_day puts_period puts_entries puts_end =
      let numbers = puts_both C F first mid next (decimal d) (32 ∷ decimal s) puts_day puts_period in
      let entries = puts_both C F first next last (decimal d ++ 32 ∷ decimal s) (entries_text p b es) numbers puts_entries in
      let text : ((decimal d ++ 32 ∷ decimal s) ++ entries_text p b es) ++ 10 ∷ [] ≡ decimal day ++
      (32 ∷ (decimal period ++ (entries_text p b (filter (is_at (slot day period)) t) ++ 10 ∷ []))) =
      rw (es_is, day_is, period_is) (simp append_assoc) in
      subst (Puts C F first end) (text ∙ sym (slot_is p b t day period))
      (puts_both C F first last end ((decimal d ++ 32 ∷ decimal s) ++ entries_text p b es) (10 ∷ []) entries puts_end)

  -- the parts of a head line
  pub head_put : (head : List Piece) (bytes kind name : List ℕ) (first mid last end : Output W) → head ≡ Text kind ∷ Text name ∷ []
      → bytes ≡ kind → Puts C F first mid bytes → Puts C F mid last (32 ∷ name) → Puts C F last end (10 ∷ [])
      → Puts C F first end (line_text head)
  head_put head bytes kind name first mid last end head_is kind_is puts_kind puts_name puts_end =
      let both = puts_both C F first mid last bytes (32 ∷ name) puts_kind puts_name in
      subst (Puts C F first end)
      (append_assoc bytes (32 ∷ name) (10 ∷ []) ∙ ap (λ z. z ++ 32 ∷ (name ++ 10 ∷ [])) kind_is ∙ ap line_text (sym head_is))
      (puts_both C F first last end (bytes ++ 32 ∷ name) (10 ∷ []) both puts_end)

  -- the course of an entry
  pub course_put : (p : Problem) (b : Block) (e : Cell) (course : List ℕ) (first end : Output W) → shown_in p b e ≡ course_text p e ∷ []
      → course ≡ text_of (course_text p e) → Puts C F first end (32 ∷ course) → Puts C F first end (next_texts (shown_in p b e))
  course_put p b e course first end shown course_is puts =
      subst (Puts C F first end) (ap (λ z. 32 ∷ z) (course_is ∙ sym (append-nil (text_of (course_text p e))))
      ∙ ap next_texts (sym shown)) puts

  -- the course and the room of an entry
  pub course_and_room_put : (p : Problem) (b : Block) (e : Cell) (course room : List ℕ) (first mid end : Output W)
      → shown_in p b e ≡ course_and_room p e → course ≡ text_of (course_text p e) → room ≡ text_of (room_text p e)
      → Puts C F first mid (32 ∷ course) → Puts C F mid end (32 ∷ room) → Puts C F first end (next_texts (shown_in p b e))
  course_and_room_put p b e course room first mid end shown course_is room_is puts_course puts_room =
      subst (Puts C F first end)
      (ap (λ z. 32 ∷ (z ++ 32 ∷ room)) course_is
      ∙ ap (λ z. 32 ∷ (text_of (course_text p e) ++ 32 ∷ z)) (room_is ∙ sym (append-nil (text_of (room_text p e))))
      ∙ ap next_texts (sym shown))
      (puts_both C F first mid end (32 ∷ course) (32 ∷ room) puts_course puts_room)

-- ---- blocks

-- the lines of a block
block_is : (p : Problem) (t : List Cell) (head : List Piece) (f : Slot → List Piece)
    → lines_text (head ∷ map f (all_slots p)) ≡ line_text head ++ flat_map
    (λ d. flat_map (λ s. line_text (f (slot d s))) (range_below p.periods)) (all_days p)
block_is p t head f =
    ap (λ z. line_text head ++ z)
    (rows_text f (all_slots p)
    ∙ flat_map-of_flat_map (λ s. line_text (f s)) (λ d. map (slot d) (range_below p.periods)) (all_days p)
    ∙ flat_map-same (λ d. flat_map (λ s. line_text (f s)) (map (slot d) (range_below p.periods)))
    (λ d. flat_map (λ s. line_text (f (slot d s))) (range_below p.periods)) (all_days p)
    (λ d. flat_map-of_map (λ s. line_text (f s)) (slot d) (range_below p.periods)))

-- a list, by the numbers of its elements
front_by_numbers : {X Y : Type 0} (f : X → List Y) (xs : List X) (d : X) (i : ℕ) → i ≤ length xs → flat_map f (take i xs) ≡ flat_map
    (λ k. f (get_or xs k d)) (range_below i)
front_by_numbers f xs d zero h = refl
front_by_numbers f xs d (suc i) h =
    let one : suc i ≡ i + 1 = omega arith in
    ap (λ n. flat_map f (take n xs)) one
    ∙ ap (flat_map f) (take_more xs i d (omega arith))
    ∙ flat_map-append f (take i xs) (get_or xs i d ∷ [])
    ∙ ap (λ z. flat_map f (take i xs) ++ z) (append-nil (f (get_or xs i d)))
    ∙ ap (λ z. z ++ f (get_or xs i d)) (front_by_numbers f xs d i (omega arith))
    ∙ sym (texts_more (λ k. f (get_or xs k d)) i)
    ∙ ap (λ n. flat_map (λ k. f (get_or xs k d)) (range_below n)) (sym one)

by_numbers : {X Y : Type 0} (f : X → List Y) (xs : List X) (d : X) → flat_map f xs ≡ flat_map (λ k. f (get_or xs k d))
    (range_below (length xs))
by_numbers f xs d =
    ap (flat_map f) (sym (take_all (length xs) xs (omega arith))) ∙ front_by_numbers f xs d (length xs) (omega arith)

pub rooms_are : (p : Problem) (t : List Cell) → report_text p t Room ≡ flat_map (λ r. block_text p t (of.Room r))
    (range_below (length p.rooms))
rooms_are p t =
    lines_text-of_flat_map (λ r. block p (head_of p (of.Room r)) (shown_in p (of.Room r)) (belongs_to p (of.Room r)) t) (all_rooms p)
    ∙ flat_map-same (λ r. lines_text (block p (head_of p (of.Room r)) (shown_in p (of.Room r)) (belongs_to p (of.Room r)) t))
    (λ r. block_text p t (of.Room r)) (all_rooms p)
    (λ r. block_is p t (head_of p (of.Room r)) (slot_line (shown_in p (of.Room r)) (belongs_to p (of.Room r)) t))

pub curricula_are : (p : Problem) (t : List Cell) → report_text p t Curriculum ≡ flat_map (λ q. block_text p t (of.Curriculum q))
    (range_below (length p.curricula))
curricula_are p t =
    lines_text-of_flat_map (λ q. block p (head_of p (of.Curriculum q)) (shown_in p (of.Curriculum q))
    (belongs_to p (of.Curriculum q)) t) (all_curricula p)
    ∙ flat_map-same
    (λ q. lines_text (block p (head_of p (of.Curriculum q)) (shown_in p (of.Curriculum q)) (belongs_to p (of.Curriculum q)) t))
    (λ q. block_text p t (of.Curriculum q)) (all_curricula p)
    (λ q. block_is p t (head_of p (of.Curriculum q)) (slot_line (shown_in p (of.Curriculum q)) (belongs_to p (of.Curriculum q)) t))

pub teachers_are : (p : Problem) (t : List Cell) → report_text p t Teacher ≡ flat_map (λ k. block_text p t (of.Teacher k))
    (range_below (length (teachers p)))
teachers_are p t =
    let named : List ℕ → List (List Piece) = λ name. block p (Text (codes "teacher") ∷ Text (shown name) ∷ []) (course_and_room p)
    (is_taught_by p name) t in
    lines_text-of_flat_map named (teachers p)
    ∙ by_numbers (λ name. lines_text (named name)) (teachers p) []
    ∙ flat_map-same (λ k. lines_text (named (get_or (teachers p) k []))) (λ k. block_text p t (of.Teacher k))
    (range_below (length (teachers p)))
    (λ k. block_is p t (head_of p (of.Teacher k)) (slot_line (shown_in p (of.Teacher k)) (belongs_to p (of.Teacher k)) t))
