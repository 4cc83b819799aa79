-- A text is at most one file of groups with prices, and one that is right is refused only if a group is beyond the limits of the check.
use Rattle.std.proofs.Common.{◌≡◌, ℕ, ◌*◌, ◌<◌, ◌≤◌, Bool, true, false, List, [], ◌∷◌, ◌++◌, length, map, append-nil, append_assoc, Option, Some, None, Result, Ok, Err, refl, sym, ap, subst, ◌∙◌, arith, inl, inr}
use Rattle.std.specs.Prelude.{◌==◌, not, ℤ, pos, ◌+ℤ◌, ◌≤ℤ◌, Contains, flat_map}
use Rattle.std.specs.List.{list_all, AllByRecursion}
use Rattle.std.proofs.lemmas.Bool.{and_parts, both_ways, not-true}
use Rattle.std.proofs.lemmas.Grind.{flat_map-append}
use Rattle.std.proofs.lemmas.Int.{ints}
use Rattle.std.proofs.lemmas.List.{map-append}
use Rattle.std.proofs.lemmas.List.Elements.{Contains-append_right, recursion_from_All}
use Rattle.tt_list_laws.specs.Words.{has_number, are_distinct, each_two}
use Rattle.tt_list_laws.proofs.Members.{at_member, each_two-of_append, member_cases, member_from_any}
use Rattle.tt_list_laws.proofs.Sums.{each_from_list_all}
use Rattle.tt_list_laws.proofs.Twos.{each_two-append}
use Rattle.tt_text.specs.Feeds.{Stream}
use Rattle.tt_instance.specs.Problem.{Problem}
use Rattle.tt_instance.specs.Limits.{IsInstance}
use Rattle.tt_groups.specs.Prices.{PricedGroup}
use Rattle.tt_prices_check.specs.Groups.{IsLeast}
use Rattle.tt_prices_text.specs.Reading.{Group, RoomRents, Part, GroupPart, RentPart, item_at}
use Rattle.tt_prices_text.specs.Reads.{ReadsParts, ReadsFile}
use Rattle.tt_prices_text.specs.Spelling.{SpellsFile}
use Rattle.tt_prices_text.specs.declared.fault.PricesTextFault.{PricesTextFault}
use Rattle.tt_prices_text.specs.declared.header.Header.{Header}
use Rattle.tt_prices_text.proofs.SpelledFiles.{spelled_reads}
use Rattle.tt_proof_check.specs.Streams.{sizes_of, stream_of}
use Rattle.tt_proof_check.proofs.Sizes.{are_sizes_of}
use Rattle.tt_proof_read.proofs.Small.{are_small}
use Rattle.tt_proof_read.specs.declared.sizes.Sizes.{Sizes}
use Rattle.tt_prices_file.specs.Faults.{AfterParts, ExplainsPrices, IsLeftOpen}
use Rattle.tt_prices_file.specs.Files.{priced, groups_in, groups_of, curricula_in, courses_in, rents_in, rented, room_scale, rent_of, HasTotal, IsRight}
use Rattle.tt_prices_file.specs.declared.fault.PricesFault.{PricesFault}
use Rattle.tt_prices_file.specs.declared.fault.PricesFault.TheVariants as fault
use Rattle.tt_prices_file.proofs.Holding.{one_total}
use Rattle.tt_prices_file.proofs.Places.{no_term}
use Rattle.tt_prices_file.proofs.Parts.{groups_in-append, rents_in-append, curricula_of, courses_of}

-- ---- parts that a stream gives

abbrev answer : Option Part → Stream → Result (Option Part × Stream) PricesTextFault
answer o s = Ok (o, s)

has_part : Result (Option Part × Stream) PricesTextFault → Bool
has_part (Ok (Some k, s)) = true
has_part (Ok (None, s)) = false
has_part (Err t) = false

-- a part isn't the end
not_both_answers : (k : Part) (s t : Stream) → answer (Some k) s ≡ answer None t → ⊥
unfolding has_part
not_both_answers k s t e = let no : true ≡ false = ap has_part e in cc

pub part_same : (x k : Part) (s t : Stream) → answer (Some x) s ≡ answer (Some k) t → (x ≡ k) × (s ≡ t)
part_same x k s t e =
    let pair : (Some x, s) ≡ (Some k, t) = cc in
    let some : Some x ≡ Some k = ap (λ (z : Option Part × Stream). z.0) pair in
    let part : x ≡ k = cc in
    (part, ap (λ (z : Option Part × Stream). z.1) pair)

-- the parts read so far are the first of all parts
record ContinuesWith (sizes : Sizes) (has_rooms : Bool) (all parts : List Part) (rest end : Stream) : Type 0 where
  more : List Part
  split : all ≡ parts ++ more
  reads : ReadsParts sizes has_rooms rest more end

module _ (sizes : Sizes) (has_rooms : Bool) where
  goes_on : (s : Stream) (all parts : List Part) (rest end after : Stream) → ReadsParts sizes has_rooms s all end
      → item_at sizes has_rooms end ≡ Ok (None, after) → ReadsParts sizes has_rooms s parts rest
      → ContinuesWith sizes has_rooms all parts rest end
  goes_on s all [] rest end after reads finish part =
      record { more = all; split = refl; reads = subst (λ (x : Stream). ReadsParts sizes has_rooms x all end) part reads }
  goes_on s [] (k ∷ ks) rest end after reads finish part =
      absurd (not_both_answers k part.0 after (sym part.1 ∙ ap (item_at sizes has_rooms) reads ∙ finish))
  goes_on s (x ∷ xs) (k ∷ ks) rest end after reads finish part =
      let same = part_same x k reads.0 part.0 (sym reads.1 ∙ part.1) in
      let r = goes_on part.0 xs ks rest end after (subst (λ (z : Stream). ReadsParts sizes has_rooms z xs end) same.1 reads.2) finish part.2
      in
      record {
        more = r.more;
        split = ap (λ (z : Part). z ∷ xs) same.0 ∙ ap (λ (l : List Part). k ∷ l) r.split;
        reads = r.reads;
      }

  -- the next part is one of all parts
  next_is : (all parts : List Part) (rest end after mid : Stream) (k : Part) → ContinuesWith sizes has_rooms all parts rest end
      → item_at sizes has_rooms end ≡ Ok (None, after) → item_at sizes has_rooms rest ≡ Ok (Some k, mid)
      → (more : List Part) × (all ≡ parts ++ k ∷ more)
  next_is all parts rest end after mid k g finish read = on g.more g.split g.reads
    where
      on : (more : List Part) → all ≡ parts ++ more → ReadsParts sizes has_rooms rest more end → (more : List Part)
          × (all ≡ parts ++ k ∷ more)
      on [] split reads = absurd (not_both_answers k mid after (sym read ∙ ap (item_at sizes has_rooms) reads ∙ finish))
      on (m ∷ ms) split reads =
          (ms, split ∙ ap (λ (z : Part). parts ++ z ∷ ms) (part_same m k reads.0 mid (sym reads.1 ∙ read)).0)

  -- if no part follows, the parts read are all parts
  none_is : (all parts : List Part) (rest end mid : Stream) → ContinuesWith sizes has_rooms all parts rest end
      → item_at sizes has_rooms rest ≡ Ok (None, mid) → all ≡ parts
  none_is all parts rest end mid g read = on g.more g.split g.reads
    where
      on : (more : List Part) → all ≡ parts ++ more → ReadsParts sizes has_rooms rest more end → all ≡ parts
      on [] split reads = split ∙ append-nil parts
      on (m ∷ ms) split reads = absurd (not_both_answers m reads.0 mid (sym reads.1 ∙ read))

  -- after parts of a complete file the text doesn't fail
  never_fails : (all parts : List Part) (rest end after : Stream) (t : PricesTextFault) → ContinuesWith sizes has_rooms all parts rest end
      → item_at sizes has_rooms end ≡ Ok (None, after) → item_at sizes has_rooms rest ≡ Err t → ⊥
  never_fails all parts rest end after t g finish read = on g.more g.reads
    where
      on : (more : List Part) → ReadsParts sizes has_rooms rest more end → ⊥
      on [] reads = let no : Err t ≡ answer None after = sym read ∙ ap (item_at sizes has_rooms) reads ∙ finish in cc
      on (m ∷ ms) reads = let no : answer (Some m) reads.0 ≡ Err t = sym reads.1 ∙ read in cc

-- ---- one file for each text

abbrev headed_by : Header → Stream → Result (Header × Stream) PricesTextFault
headed_by h s = Ok (h, s)

pub header_same : (h k : Header) (s t : Stream) → headed_by h s ≡ headed_by k t → (h ≡ k) × (s ≡ t)
header_same h k s t e =
    let same : (h, s) ≡ (k, t) = cc in
    (ap (λ (x : Header × Stream). x.0) same, ap (λ (x : Header × Stream). x.1) same)

file_read : (p : Problem) → IsInstance p → (bytes : List ℕ) (h : Header) (parts : List Part) → SpellsFile (sizes_of p) bytes h parts
    → ReadsFile (sizes_of p) (stream_of bytes) h parts
file_read p is bytes h parts spelled = spelled_reads (sizes_of p) (are_small p (sizes_of p) is (are_sizes_of p)) bytes h parts spelled

pub file_once : (p : Problem) → IsInstance p → (bytes : List ℕ) (h k : Header) (xs ys : List Part) → SpellsFile (sizes_of p) bytes h xs
    → SpellsFile (sizes_of p) bytes k ys → (h ≡ k) × (xs ≡ ys)
file_once p is bytes h k xs ys first second =
    let r = file_read p is bytes h xs first in
    let q = file_read p is bytes k ys second in
    let same = header_same h k r.headed q.headed (sym r.header ∙ q.header) in
    let rooms : h.has_rooms ≡ k.has_rooms = ap (λ (x : Header). x.has_rooms) same.0 in
    let parts = subst (λ (s : Stream). ReadsParts (sizes_of p) k.has_rooms s xs r.listed) same.1
    (subst (λ b. ReadsParts (sizes_of p) b r.headed xs r.listed) rooms r.parts) in
    let finish = subst (λ b. item_at (sizes_of p) b r.listed ≡ Ok (None, r.ended)) rooms r.finish in
    let g = goes_on (sizes_of p) k.has_rooms q.headed ys xs r.listed q.listed q.ended q.parts q.finish parts in
    (same.0, sym (none_is (sizes_of p) k.has_rooms ys xs r.listed q.listed r.ended g finish))

-- ---- numbers that are listed twice

-- no number of a later list is in an earlier one
pub not_twice : (ns ms rest : List ℕ) (n : ℕ) → are_distinct (ns ++ (ms ++ rest)) ≡ true → has_number ns n ≡ true → Contains ms n → ⊥
not_twice ns ms rest n apart earlier here =
    let test : ℕ → ℕ → Bool = λ a b. not (a == b) in
    let whole : each_two test ((ns ++ ms) ++ rest) ≡ true = ap (each_two test) (append_assoc ns ms rest) ∙ apart in
    let front = (each_two-of_append test (ns ++ ms) rest whole).0 in
    let parts = and_parts (each_two test ns) _ (sym (each_two-append test ns ms) ∙ front) in
    let cross = (and_parts (list_all (λ x. list_all (test x) ms) ns) (each_two test ms) parts.1).0 in
    let w = member_from_any (λ m. m == n) ns earlier in
    let row = at_member (λ x. list_all (test x) ms ≡ true) ns w.0 (each_from_list_all (λ x. list_all (test x) ms) ns cross) w.1 in
    let cell = at_member (λ y. test w.0 y ≡ true) ms n (each_from_list_all (test w.0) ms row) here in
    both_ways (w.0 == n) (not-true (w.0 == n) cell) w.2

-- ---- faults of a file that is right

module _ (p : Problem) (is : IsInstance p) (bytes : List ℕ) (h : Header) (parts : List Part)
    (spelled : SpellsFile (sizes_of p) bytes h parts)
    (right : IsRight p h parts) where
  file : ReadsFile (sizes_of p) (stream_of bytes) h parts
  file = file_read p is bytes h parts spelled

  -- the rest of the file continues the part that was read, up to its end
  record ReadOn {P : Header → List Part → Stream → Type 0} (a : AfterParts p (stream_of bytes) P) : Type 0 where
    header : a.header ≡ h
    continues : ContinuesWith (sizes_of p) h.has_rooms parts a.parts a.rest file.listed

  read_on : {P : Header → List Part → Stream → Type 0} → (a : AfterParts p (stream_of bytes) P) → ReadOn a
  read_on a =
      let same = header_same a.header h a.headed file.headed (sym a.header_is ∙ file.header) in
      let rooms : a.header.has_rooms ≡ h.has_rooms = ap (λ (x : Header). x.has_rooms) same.0 in
      record {
        header = same.0;
        continues = goes_on (sizes_of p) h.has_rooms file.headed parts a.parts a.rest file.listed file.ended file.parts file.finish
            (subst (λ (s : Stream). ReadsParts (sizes_of p) h.has_rooms s a.parts a.rest) same.1
            (subst (λ b. ReadsParts (sizes_of p) b a.headed a.parts a.rest) rooms a.reads));
      }

  -- the next part of the file
  next : {P : Header → List Part → Stream → Type 0} → (a : AfterParts p (stream_of bytes) P) (k : Part) (mid : Stream)
      → item_at (sizes_of p) a.header.has_rooms a.rest ≡ Ok (Some k, mid) → (more : List Part) × (parts ≡ a.parts ++ k ∷ more)
  next a k mid read =
      let on = read_on a in
      next_is (sizes_of p) h.has_rooms parts a.parts a.rest file.listed file.ended mid k on.continues file.finish
      (subst (λ b. item_at (sizes_of p) b a.rest ≡ Ok (Some k, mid)) (ap (λ (x : Header). x.has_rooms) on.header) read)

  -- at the end of the file all its parts have been read
  whole : {P : Header → List Part → Stream → Type 0} → (a : AfterParts p (stream_of bytes) P) (mid : Stream)
      → item_at (sizes_of p) a.header.has_rooms a.rest ≡ Ok (None, mid) → parts ≡ a.parts
  whole a mid read =
      let on = read_on a in
      none_is (sizes_of p) h.has_rooms parts a.parts a.rest file.listed mid on.continues
      (subst (λ b. item_at (sizes_of p) b a.rest ≡ Ok (None, mid)) (ap (λ (x : Header). x.has_rooms) on.header) read)

  -- the numbers of all groups, with those of one group between the others
  numbers_split : (f : Group → List ℕ) (xs : List Part) (g : Group) (more : List Part) → parts ≡ xs ++ GroupPart g ∷ more
      → flat_map f (groups_in parts) ≡ flat_map f (groups_in xs) ++ (f g ++ flat_map f (groups_in more))
  numbers_split f xs g more split =
      ap (λ (l : List Part). flat_map f (groups_in l)) split ∙ ap (flat_map f) (groups_in-append xs (GroupPart g ∷ more))
      ∙ flat_map-append f (groups_in xs) (g ∷ groups_in more)

  -- a group of the file has a relaxed timetable
  has_least : (xs : List Part) (g : Group) (more : List Part) → parts ≡ xs ++ GroupPart g ∷ more → IsLeast p h.scale (priced p g) None → ⊥
  has_least xs g more split none =
      let there : Contains (groups_of p parts) (priced p g) =
      subst (λ (l : List PricedGroup). Contains l (priced p g))
      (sym (ap (groups_of p) split ∙ ap (map (priced p)) (groups_in-append xs (GroupPart g ∷ more)) ∙ map-append (priced p) (groups_in xs)
      (g ∷ groups_in more)))
      (Contains-append_right (map (priced p) (groups_in xs)) (priced p g ∷ map (priced p) (groups_in more)) (priced p g)
      (0, omega arith, refl)) in
      let found = least_of right.is.least (recursion_from_All (λ (x : PricedGroup × ℤ). IsLeast p h.scale x.0 (Some x.1)) right.is.least
      right.is.each)
      (subst (λ (l : List PricedGroup). Contains l (priced p g)) (sym right.is.groups) there) in
      none found.1.1.0 found.1.1.1
    where
      least_of : (ls : List (PricedGroup × ℤ)) → AllByRecursion (λ x. IsLeast p h.scale x.0 (Some x.1)) ls
          → Contains (map (λ x. x.0) ls) (priced p g) → (v : ℤ) × IsLeast p h.scale (priced p g) (Some v)
      least_of [] each there = absurd (omega (arith, there.1))
      least_of (x ∷ xs) each there = elim (member_cases x.0 (map (λ (y : PricedGroup × ℤ). y.0) xs) (priced p g) there) [
        | inl same ↦ (x.1, subst (λ (y : PricedGroup). IsLeast p h.scale y (Some x.1)) same each.0)
        | inr later ↦ least_of xs each.1 later
      ]

  pub left_open : (f : PricesFault) → ExplainsPrices p (stream_of bytes) f → IsLeftOpen f
  left_open (fault.Text f) reported = elim reported.1 [
    | inl e ↦ let no : headed_by h file.headed ≡ Err f = sym file.header ∙ e in absurd cc
    | inr a ↦
        let on = read_on a in
        never_fails (sizes_of p) h.has_rooms parts a.parts a.rest file.listed file.ended f on.continues file.finish
        (subst (λ b. item_at (sizes_of p) b a.rest ≡ Err f) (ap (λ (x : Header). x.has_rooms) on.header) a.is)
  ]
  left_open (fault.ClaimedTwice i) reported =
      let g = reported.is.1 in
      let n = next reported (GroupPart g) reported.is.2 reported.is.3 in
      elim reported.is.4 [
        | inl q ↦ not_twice (curricula_in reported.parts) g.curricula (curricula_in n.0) q.0
            (subst (λ (l : List ℕ). are_distinct l ≡ true) (curricula_of p parts ∙ numbers_split (λ x. x.curricula) reported.parts g n.0
            n.1)
            right.apart.curricula) q.2 q.1
        | inr c ↦ not_twice (courses_in reported.parts) g.courses (courses_in n.0) c.0
            (subst (λ (l : List ℕ). are_distinct l ≡ true) (courses_of p parts ∙ numbers_split (λ x. x.courses) reported.parts g n.0 n.1)
            right.apart.courses) c.2 c.1
      ]
  left_open (fault.RentedTwice r) reported =
      let x = reported.is.0 in
      let n = next reported (RentPart x) reported.is.1 reported.is.2 in
      let rooms : rented parts ≡ rented reported.parts ++ (x.room ∷ [] ++ rented n.0) =
      ap rented n.1 ∙ ap (map (λ (y : RoomRents). y.room)) (rents_in-append reported.parts (RentPart x ∷ n.0))
      ∙ map-append (λ (y : RoomRents). y.room) (rents_in reported.parts) (x ∷ rents_in n.0) in
      not_twice (rented reported.parts) (x.room ∷ []) (rented n.0) r (subst (λ (l : List ℕ). are_distinct l ≡ true) rooms right.once)
      reported.is.4
      (0, omega arith, reported.is.3)
  left_open (fault.Group i f) reported = tt
  left_open (fault.NoTimetable i) reported =
      let g = reported.is.1 in
      let n = next reported (GroupPart g) reported.is.2 reported.is.3 in
      let none = subst (λ (x : Header). IsLeast p x.scale (priced p g) None) (read_on reported).header reported.is.4.1 in
      has_least reported.parts g n.0 n.1 none
  left_open (fault.TooFewPlaces c) reported =
      let few = reported.is.2.few in
      no_term p (room_scale h) (groups_of p parts) (rent_of p parts) c (right.is.terms c) few (right.is.courses c few.0)
  left_open fault.TooCheap reported =
      let all = whole reported reported.is.0 reported.is.1 in
      let head = (read_on reported).header in
      let low = reported.is.2 in
      let total : HasTotal p h parts low.0 =
      subst (λ (xs : List Part). HasTotal p h xs low.0) (sym all) (subst (λ (x : Header). HasTotal p x reported.parts low.0) head low.1) in
      let same = one_total p h parts low.0 right.total total right.is in
      let less = subst (λ (x : Header). (low.0 +ℤ pos x.scale) ≤ℤ pos (x.scale * x.bound)) head low.2 in
      omega (arith, ints, same, less, right.enough)
