-- A file of groups with prices has one fault.
use Rattle.std.proofs.Common.{◌≡◌, ℕ, Bool, true, false, List, [], ◌∷◌, ◌++◌, length, map, Option, Some, None, Result, Ok, Err, refl, sym, ap, subst, ◌∙◌, arith, inl, inr}
use Rattle.std.specs.Prelude.{◌⊎◌, ℤ, Contains, flat_map}
use Rattle.std.proofs.lemmas.Bool.{cases_lt}
use Rattle.std.proofs.lemmas.Grind.{flat_map-append}
use Rattle.std.proofs.lemmas.List.{map-append}
use Rattle.std.proofs.lemmas.List.Elements.{All-contains, Contains-append_right}
use Rattle.tt_list_laws.specs.Words.{are_distinct, has_number}
use Rattle.tt_instance.specs.Problem.{Problem}
use Rattle.tt_text.specs.Feeds.{Stream}
use Rattle.tt_groups.specs.Prices.{PricedGroup}
use Rattle.tt_prices_check.specs.Groups.{IsLeast}
use Rattle.tt_prices_file.proofs.Once.{header_same, not_twice, part_same}
use Rattle.tt_prices_file.proofs.Parts.{groups_in-append, rents_in-append, curricula_of, courses_of}
use Rattle.tt_prices_file.proofs.Places.{no_term}
use Rattle.tt_prices_file.specs.Faults.{Pass, AfterParts, ExplainsPrices, IsClaimed, IsUnclaimed, IsFirstWithTooFewPlaces, IsTooCheap, IsLeftOpen}
use Rattle.tt_prices_file.specs.Files.{priced, groups_in, groups_of, curricula_in, courses_in, rents_in, rented, rent_of, room_scale}
use Rattle.tt_prices_file.specs.declared.fault.PricesFault.{PricesFault}
use Rattle.tt_prices_file.specs.declared.fault.PricesFault.TheVariants as fault
use Rattle.tt_prices_text.specs.Reading.{Group, RoomRents, Part, GroupPart, RentPart, header_at, item_at}
use Rattle.tt_prices_text.specs.Reads.{ReadsParts}
use Rattle.tt_prices_text.specs.declared.fault.PricesTextFault.{PricesTextFault}
use Rattle.tt_prices_text.specs.declared.header.Header.{Header}
use Rattle.tt_proof_check.specs.Streams.{sizes_of}
use Rattle.tt_proof_read.specs.declared.sizes.Sizes.{Sizes}

abbrev answer : Option Part → Stream → Result (Option Part × Stream) PricesTextFault
answer o s = Ok (o, s)

abbrev headed_by : Header → Stream → Result (Header × Stream) PricesTextFault
headed_by h s = Ok (h, s)

abbrev unheaded : PricesTextFault → Result (Header × Stream) PricesTextFault
unheaded f = Err f

-- ---- two lists of parts that one stream gives

-- the longer list goes on with a part where the shorter one ends
record GoesOn (sizes : Sizes) (rooms : Bool) (shorter longer : List Part) (rest : Stream) : Type 0 where
  part : Part
  more : List Part
  mid : Stream
  split : longer ≡ shorter ++ part ∷ more
  reads : item_at sizes rooms rest ≡ Ok (Some part, mid)

compared : (sizes : Sizes) (rooms : Bool) (s : Stream) (xs ys : List Part) (r q : Stream) → ReadsParts sizes rooms s xs r
    → ReadsParts sizes rooms s ys q → ((xs ≡ ys) × (r ≡ q)) ⊎ (GoesOn sizes rooms xs ys r ⊎ GoesOn sizes rooms ys xs q)
compared sizes rooms s [] [] r q h k = inl (refl, sym h ∙ k)
compared sizes rooms s [] (y ∷ ys) r q h k =
    inr (inl (record {
      part = y;
      more = ys;
      mid = k.0;
      split = refl;
      reads = subst (λ (z : Stream). item_at sizes rooms z ≡ Ok (Some y, k.0)) h k.1;
    }))
compared sizes rooms s (x ∷ xs) [] r q h k =
    inr (inr (record {
      part = x;
      more = xs;
      mid = h.0;
      split = refl;
      reads = subst (λ (z : Stream). item_at sizes rooms z ≡ Ok (Some x, h.0)) k h.1;
    }))
compared sizes rooms s (x ∷ xs) (y ∷ ys) r q h k =
    let same = part_same x y h.0 k.0 (sym h.1 ∙ k.1) in
    elim (compared sizes rooms k.0 xs ys r q (subst (λ (z : Stream). ReadsParts sizes rooms z xs r) same.1 h.2) k.2) [
      | inl both ↦ inl (ap (λ (z : Part). z ∷ xs) same.0 ∙ ap (λ (l : List Part). y ∷ l) both.0, both.1)
      | inr one ↦ inr (elim one [
        | inl l ↦ inl (record {
          part = l.part;
          more = l.more;
          mid = l.mid;
          split = ap (λ (z : Part). z ∷ ys) (sym same.0) ∙ ap (λ (zs : List Part). x ∷ zs) l.split;
          reads = l.reads;
        })
        | inr l ↦ inr (record {
          part = l.part;
          more = l.more;
          mid = l.mid;
          split = ap (λ (z : Part). z ∷ xs) same.0 ∙ ap (λ (zs : List Part). y ∷ zs) l.split;
          reads = l.reads;
        })
      ])
    ]

-- ---- what comes next, and the fault that it gives, if no check is given up

abbrev Gives : Problem → Header → List Part → Result (Option Part × Stream) PricesTextFault → PricesFault → Type 0
Gives p h parts (Err t) f = f ≡ fault.Text t
Gives p h parts (Ok (None, s)) f =
    ((c : ℕ) × (f ≡ fault.TooFewPlaces c) × IsFirstWithTooFewPlaces p c) ⊎ ((f ≡ fault.TooCheap) × IsTooCheap p h parts)
Gives p h parts (Ok (Some (GroupPart g), s)) f =
    ((f ≡ fault.ClaimedTwice (length (groups_of p parts))) × IsClaimed parts (priced p g))
    ⊎ ((f ≡ fault.NoTimetable (length (groups_of p parts))) × IsUnclaimed parts (priced p g))
Gives p h parts (Ok (Some (RentPart x), s)) f = f ≡ fault.RentedTwice x.room

-- a target is listed already, or it isn't
claimed_once : (parts : List Part) (g : PricedGroup) → IsClaimed parts g → IsUnclaimed parts g → ⊥
claimed_once parts g (inl q) free =
    let no : true ≡ false = sym q.2 ∙ All-contains (λ n. has_number (curricula_in parts) n ≡ false) g.curricula q.0 free.curricula q.1 in cc
claimed_once parts g (inr c) free =
    let no : true ≡ false = sym c.2 ∙ All-contains (λ n. has_number (courses_in parts) n ≡ false) g.courses c.0 free.courses c.1 in cc

-- one course is the first with too few places
few_once : (p : Problem) (c d : ℕ) → IsFirstWithTooFewPlaces p c → IsFirstWithTooFewPlaces p d → c ≡ d
few_once p c d h k = elim (cases_lt c d) [
  | inl less ↦ absurd (k.first c less h.few)
  | inr more ↦ elim (cases_lt d c) [
    | inl less ↦ absurd (h.first d less k.few)
    | inr most ↦ omega (arith, more, most)
  ]
]

-- a file with a total has a term for each course
few_or_cheap : (p : Problem) (h : Header) (parts : List Part) (c : ℕ) → IsFirstWithTooFewPlaces p c → IsTooCheap p h parts → ⊥
few_or_cheap p h parts c first cheap =
    let total = cheap.1 in
    no_term p (room_scale h) (groups_of p parts) (rent_of p parts) c (total.terms c) first.few (total.courses c first.few.0)

gives_once : (p : Problem) (h : Header) (parts : List Part) (r : Result (Option Part × Stream) PricesTextFault) (f g : PricesFault)
    → Gives p h parts r f → Gives p h parts r g → f ≡ g
gives_once p h parts (Err t) f g a b = a ∙ sym b
gives_once p h parts (Ok (None, s)) f g (inl a) (inl b) = a.1 ∙ ap (λ (c : ℕ). fault.TooFewPlaces c) (few_once p a.0 b.0 a.2 b.2) ∙ sym b.1
gives_once p h parts (Ok (None, s)) f g (inl a) (inr b) = absurd (few_or_cheap p h parts a.0 a.2 b.1)
gives_once p h parts (Ok (None, s)) f g (inr a) (inl b) = absurd (few_or_cheap p h parts b.0 b.2 a.1)
gives_once p h parts (Ok (None, s)) f g (inr a) (inr b) = a.0 ∙ sym b.0
gives_once p h parts (Ok (Some (GroupPart x), s)) f g (inl a) (inl b) = a.0 ∙ sym b.0
gives_once p h parts (Ok (Some (GroupPart x), s)) f g (inl a) (inr b) = absurd (claimed_once parts (priced p x) a.1 b.1)
gives_once p h parts (Ok (Some (GroupPart x), s)) f g (inr a) (inl b) = absurd (claimed_once parts (priced p x) b.1 a.1)
gives_once p h parts (Ok (Some (GroupPart x), s)) f g (inr a) (inr b) = a.0 ∙ sym b.0
gives_once p h parts (Ok (Some (RentPart x), s)) f g a b = a ∙ sym b

-- ---- parts that pass go on over no fault

module _ (p : Problem) (h : Header) where
  numbers_split : (f : Group → List ℕ) (xs : List Part) (g : Group) (more ys : List Part) → ys ≡ xs ++ GroupPart g ∷ more
      → flat_map f (groups_in ys) ≡ flat_map f (groups_in xs) ++ (f g ++ flat_map f (groups_in more))
  numbers_split f xs g more ys split =
      ap (λ (l : List Part). flat_map f (groups_in l)) split ∙ ap (flat_map f) (groups_in-append xs (GroupPart g ∷ more))
      ∙ flat_map-append f (groups_in xs) (g ∷ groups_in more)

  over_claimed : (xs : List Part) (g : Group) (more ys : List Part) → ys ≡ xs ++ GroupPart g ∷ more → Pass p h ys
      → IsClaimed xs (priced p g) → ⊥
  over_claimed xs g more ys split passed (inl q) =
      not_twice (curricula_in xs) g.curricula (curricula_in more) q.0
      (subst (λ (l : List ℕ). are_distinct l ≡ true) (curricula_of p ys ∙ numbers_split (λ x. x.curricula) xs g more ys split)
      passed.apart.curricula) q.2 q.1
  over_claimed xs g more ys split passed (inr c) =
      not_twice (courses_in xs) g.courses (courses_in more) c.0
      (subst (λ (l : List ℕ). are_distinct l ≡ true) (courses_of p ys ∙ numbers_split (λ x. x.courses) xs g more ys split)
      passed.apart.courses) c.2 c.1

  over_rented : (xs : List Part) (x : RoomRents) (more ys : List Part) → ys ≡ xs ++ RentPart x ∷ more → Pass p h ys
      → has_number (rented xs) x.room ≡ true → ⊥
  over_rented xs x more ys split passed twice =
      let rooms : rented ys ≡ rented xs ++ (x.room ∷ [] ++ rented more) =
      ap rented split ∙ ap (map (λ (y : RoomRents). y.room)) (rents_in-append xs (RentPart x ∷ more))
      ∙ map-append (λ (y : RoomRents). y.room) (rents_in xs) (x ∷ rents_in more) in
      not_twice (rented xs) (x.room ∷ []) (rented more) x.room (subst (λ (l : List ℕ). are_distinct l ≡ true) rooms passed.once) twice
      (0, omega arith, refl)

  over_impossible : (xs : List Part) (g : Group) (more ys : List Part) → ys ≡ xs ++ GroupPart g ∷ more → Pass p h ys
      → IsLeast p h.scale (priced p g) None → ⊥
  over_impossible xs g more ys split passed none =
      let there : Contains (groups_of p ys) (priced p g) =
      subst (λ (l : List PricedGroup). Contains l (priced p g))
      (sym (ap (groups_of p) split ∙ ap (map (priced p)) (groups_in-append xs (GroupPart g ∷ more))
      ∙ map-append (priced p) (groups_in xs) (g ∷ groups_in more)))
      (Contains-append_right (map (priced p) (groups_in xs)) (priced p g ∷ map (priced p) (groups_in more)) (priced p g)
      (0, omega arith, refl)) in
      let found = All-contains (λ (x : PricedGroup). (v : ℤ) × IsLeast p h.scale x (Some v)) (groups_of p ys) (priced p g) passed.least
      there in
      none found.1.1.0 found.1.1.1

-- ---- two faults of one stream

-- after these parts, which pass, what comes next gives the fault, and no parts that pass go on
record Told (p : Problem) (s : Stream) (f : PricesFault) : Type 0 where
  header : Header
  parts : List Part
  headed : Stream
  rest : Stream
  header_is : header_at s ≡ Ok (header, headed)
  reads : ReadsParts (sizes_of p) header.has_rooms headed parts rest
  passed : Pass p header parts
  gives : Gives p header parts (item_at (sizes_of p) header.has_rooms rest) f
  ends : (ys : List Part) → GoesOn (sizes_of p) header.has_rooms parts ys rest → Pass p header ys → ⊥

abbrev HasBadHeader : Stream → PricesFault → Type 0
HasBadHeader s f = (t : PricesTextFault) × (f ≡ fault.Text t) × (header_at s ≡ Err t)

module _ (p : Problem) (s : Stream) where
  abbrev after_parts : {P : Header → List Part → Stream → Type 0} (f : PricesFault) (a : AfterParts p s P)
      (r : Result (Option Part × Stream) PricesTextFault) → item_at (sizes_of p) a.header.has_rooms a.rest ≡ r
      → Gives p a.header a.parts r f
      → ((ys : List Part) → GoesOn (sizes_of p) a.header.has_rooms a.parts ys a.rest → Pass p a.header ys → ⊥) → Told p s f
  after_parts f a r is gives ends = record {
    header = a.header;
    parts = a.parts;
    headed = a.headed;
    rest = a.rest;
    header_is = a.header_is;
    reads = a.reads;
    passed = a.passed;
    gives = subst (λ (x : Result (Option Part × Stream) PricesTextFault). Gives p a.header a.parts x f) (sym is) gives;
    ends = ends;
  }

  -- all parts, with the one that was read next
  next_split : (rooms : Bool) (parts ys : List Part) (rest after : Stream) (k : Part) → item_at (sizes_of p) rooms rest ≡ Ok (Some k, after)
      → (on : GoesOn (sizes_of p) rooms parts ys rest) → ys ≡ parts ++ k ∷ on.more
  next_split rooms parts ys rest after k read on =
      on.split ∙ ap (λ (z : Part). parts ++ z ∷ on.more) (part_same on.part k on.mid after (sym on.reads ∙ read)).0

  told : (f : PricesFault) → ExplainsPrices p s f → (IsLeftOpen f → ⊥) → HasBadHeader s f ⊎ Told p s f
  told (fault.Text t) reported closed = elim reported.1 [
    | inl e ↦ inl (t, refl, e)
    | inr a ↦ inr (after_parts (fault.Text t) a (Err t) a.is refl
        (λ ys on passed. let no : Err t ≡ answer (Some on.part) on.mid = sym a.is ∙ on.reads in absurd cc))
  ]
  told (fault.ClaimedTwice i) reported closed =
      let g = reported.is.1 in
      inr (after_parts (fault.ClaimedTwice i) reported (answer (Some (GroupPart g)) reported.is.2) reported.is.3
      (inl (ap (λ (n : ℕ). fault.ClaimedTwice n) (sym reported.is.0), reported.is.4))
      (λ ys on passed. over_claimed p reported.header reported.parts g on.more ys
      (next_split reported.header.has_rooms reported.parts ys reported.rest reported.is.2 (GroupPart g) reported.is.3 on) passed
      reported.is.4))
  told (fault.RentedTwice r) reported closed =
      let x = reported.is.0 in
      let twice = subst (λ (n : ℕ). has_number (rented reported.parts) n ≡ true) (sym reported.is.3) reported.is.4 in
      inr (after_parts (fault.RentedTwice r) reported (answer (Some (RentPart x)) reported.is.1) reported.is.2
      (ap (λ (n : ℕ). fault.RentedTwice n) (sym reported.is.3))
      (λ ys on passed. over_rented p reported.header reported.parts x on.more ys
      (next_split reported.header.has_rooms reported.parts ys reported.rest reported.is.1 (RentPart x) reported.is.2 on) passed twice))
  told (fault.Group i f) reported closed = absurd (closed tt)
  told (fault.NoTimetable i) reported closed =
      let g = reported.is.1 in
      inr (after_parts (fault.NoTimetable i) reported (answer (Some (GroupPart g)) reported.is.2) reported.is.3
      (inr (ap (λ (n : ℕ). fault.NoTimetable n) (sym reported.is.0), reported.is.4.0))
      (λ ys on passed. over_impossible p reported.header reported.parts g on.more ys
      (next_split reported.header.has_rooms reported.parts ys reported.rest reported.is.2 (GroupPart g) reported.is.3 on) passed
      reported.is.4.1))
  told (fault.TooFewPlaces c) reported closed =
      inr (after_parts (fault.TooFewPlaces c) reported (answer None reported.is.0) reported.is.1 (inl (c, refl, reported.is.2))
      (λ ys on passed.
      let no : answer None reported.is.0 ≡ answer (Some on.part) on.mid = sym reported.is.1 ∙ on.reads in
      let pair : (None, reported.is.0) ≡ (Some on.part, on.mid) = cc in
      let some : None ≡ Some on.part = ap (λ (z : Option Part × Stream). z.0) pair in absurd cc))
  told fault.TooCheap reported closed =
      inr (after_parts fault.TooCheap reported (answer None reported.is.0) reported.is.1 (inr (refl, reported.is.2))
      (λ ys on passed.
      let no : answer None reported.is.0 ≡ answer (Some on.part) on.mid = sym reported.is.1 ∙ on.reads in
      let pair : (None, reported.is.0) ≡ (Some on.part, on.mid) = cc in
      let some : None ≡ Some on.part = ap (λ (z : Option Part × Stream). z.0) pair in absurd cc))

  -- a header isn't both right and wrong
  headed_once : (h : Header) (headed : Stream) (t : PricesTextFault) → header_at s ≡ Ok (h, headed) → header_at s ≡ Err t → ⊥
  headed_once h headed t right wrong = let no : headed_by h headed ≡ unheaded t = sym right ∙ wrong in absurd cc

  told_once : (f g : PricesFault) → Told p s f → Told p s g → f ≡ g
  told_once f g a b = on a.header a.parts a.headed a.rest a.header_is a.reads a.passed a.gives a.ends
    where
      on : (h : Header) (xs : List Part) (headed rest : Stream) → header_at s ≡ Ok (h, headed)
          → ReadsParts (sizes_of p) h.has_rooms headed xs rest → Pass p h xs
          → Gives p h xs (item_at (sizes_of p) h.has_rooms rest) f
          → ((ys : List Part) → GoesOn (sizes_of p) h.has_rooms xs ys rest → Pass p h ys → ⊥) → f ≡ g
      on h xs headed rest is reads passed gives ends =
          let same = header_same h b.header headed b.headed (sym is ∙ b.header_is) in
          same_header (subst (λ (z : Header). ReadsParts (sizes_of p) z.has_rooms b.headed xs rest) same.0
          (subst (λ (z : Stream). ReadsParts (sizes_of p) h.has_rooms z xs rest) same.1 reads))
          (subst (λ (z : Header). Pass p z xs) same.0 passed)
          (subst (λ (z : Header). Gives p z xs (item_at (sizes_of p) z.has_rooms rest) f) same.0 gives)
          (subst (λ (z : Header). (ys : List Part) → GoesOn (sizes_of p) z.has_rooms xs ys rest → Pass p z ys → ⊥) same.0 ends)
        where
          same_header : ReadsParts (sizes_of p) b.header.has_rooms b.headed xs rest → Pass p b.header xs
              → Gives p b.header xs (item_at (sizes_of p) b.header.has_rooms rest) f
              → ((ys : List Part) → GoesOn (sizes_of p) b.header.has_rooms xs ys rest → Pass p b.header ys → ⊥) → f ≡ g
          same_header reads passed gives ends =
              let rooms = b.header.has_rooms in
              elim (compared (sizes_of p) rooms b.headed xs b.parts rest b.rest reads b.reads) [
                | inl e ↦ gives_once p b.header b.parts (item_at (sizes_of p) rooms b.rest) f g
                    (subst (λ (z : Stream). Gives p b.header b.parts (item_at (sizes_of p) rooms z) f) e.1
                    (subst (λ (l : List Part). Gives p b.header l (item_at (sizes_of p) rooms rest) f) e.0 gives)) b.gives
                | inr one ↦ elim one [
                  | inl l ↦ absurd (ends b.parts l b.passed)
                  | inr l ↦ absurd (b.ends xs l passed)
                ]
              ]

  pub one_prices : (f g : PricesFault) → ExplainsPrices p s f → ExplainsPrices p s g → (IsLeftOpen f → ⊥) → (IsLeftOpen g → ⊥) → f ≡ g
  one_prices f g h k closed shut = elim (told f h closed) [
    | inl a ↦ elim (told g k shut) [
      | inl b ↦
          let errors : unheaded a.0 ≡ unheaded b.0 = sym a.2 ∙ b.2 in
          let same : a.0 ≡ b.0 = cc in
          a.1 ∙ ap (λ x. fault.Text x) same ∙ sym b.1
      | inr b ↦ absurd (headed_once b.header b.headed a.0 b.header_is a.2)
    ]
    | inr a ↦ elim (told g k shut) [
      | inl b ↦ absurd (headed_once a.header a.headed b.0 a.header_is b.2)
      | inr b ↦ told_once f g a b
    ]
  ]
