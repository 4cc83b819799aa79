-- Lists of files.
use Rattle.std.proofs.Common.{◌≡◌, ℕ, ◌+◌, ◌<◌, ◌≤◌, ◌^◌, zero, suc, Bool, true, if◌then◌else◌, ◌≢◌, List, [], ◌∷◌, ◌++◌, length, take, get_or, Option, Some, refl, sym, ap, subst, ◌∙◌, arith, append_assoc, inl, inr}
use Rattle.std.specs.Prelude.{slice_get, ⊤}
use Rattle.std.specs.List.{AllZip}
use Rattle.std.proofs.lemmas.Bool.{cases_eq}
use Rattle.std.proofs.lemmas.List.{take_more, take_all, length-take-le, get_or_read, get_or-set_same, get_or-set_other, length-set}
use Rattle.std.proofs.lemmas.Option.{slice_get_read, slice_get_past, slice_get_cases, slice_get_within, get_or_from_slice_get}
use Rattle.std.proofs.lemmas.Slice.Zip.{AllZip-long, all_zipped_more}
use Rattle.std.proofs.Math.ListN.{set}
use Rattle.std.proofs.lemmas.List.Sums.{sum_by-append}
use Rattle.tt_list_laws.proofs.Members.{each_two-of_append}
use Rattle.tt_instance.specs.Problem.{Problem}
use Rattle.tt_instance.specs.Limits.{IsInstance}
use Rattle.tt_path.specs.declared.facts.Fact.{Fact}
use Rattle.tt_leaf.specs.declared.leaf.Bound.{Bound}
use Rattle.tt_proof_check.specs.Derives.{HoldsOn}
use Rattle.tt_text.specs.Stops.{OnFault, is_failed_read}
use Rattle.tt_text.specs.declared.stop.Stop.{Stop}
use Rattle.tt_text.specs.declared.stop.Stop.TheVariants.{Fault, ReadFailed, OutOfMemory}
use Rattle.tt_proof_sum.specs.declared.fault.FileFault.{FileFault}
use Rattle.tt_proof_sum.specs.declared.fault.SumStop.{SumStop}
use Rattle.tt_proof_sum.specs.declared.summed.Sum.{Sum}
use Rattle.tt_proof_sum.specs.Added.{IsPartOf, IsSumOf, Adds, due, Give}
use Rattle.tt_proof_sum.specs.Faults.{points, all_points, is_failed_read_at, IsReachedOn, IsSumStopOn, ExplainsAddedOn, IsUnfinished}
use Rattle.tt_proof_sum.specs.Sums.{are_apart, Part, IsPartOn, bound_of, claims_of, AreApart, sum_of, IsSumOn}
use Rattle.tt_proof_sum.proofs.Added.{spelled_part, small_points, only_unfinished}
use Rattle.tt_proof_sum.proofs.FailedReads.{this_read, other_read}
use Rattle.tt_proof_sum.proofs.SpelledOnce.{same_part}
use Rattle.tt_proof_sum.proofs.Together.{parts_hold, part_of_shows}

-- ---- lists at each place

slice_get-set_other : {X : Type 0} (xs : List X) (i k : ℕ) (x : X) → k ≢ i → slice_get (set xs i x) k ≡ slice_get xs k
slice_get-set_other [] i k x ne = refl
slice_get-set_other (y ∷ xs) zero zero x ne = absurd (ne refl)
slice_get-set_other (y ∷ xs) zero (suc k) x ne = refl
slice_get-set_other (y ∷ xs) (suc i) zero x ne = refl
slice_get-set_other (y ∷ xs) (suc i) (suc k) x ne = slice_get-set_other xs i k x (λ e. ne (ap suc e))

pub record Split {A B : Type 0} (R : A → B → Type 0) (xs : List A) (x : A) (ks : List B) : Type 0 where
  pub first : List B
  pub at : B
  pub more : List B
  pub split : ks ≡ first ++ at ∷ more
  pub each : AllZip R xs first
  pub one : R x at

pub zip_split : {A B : Type 0} (R : A → B → Type 0) (xs : List A) (x : A) (ys : List A) (ks : List B) → AllZip R (xs ++ x ∷ ys) ks
    → Split R xs x ks
zip_split R [] x ys [] h = absurd h
zip_split R [] x ys (k ∷ ks) h = record { first = []; at = k; more = ks; split = refl; each = tt; one = h.0 }
zip_split R (z ∷ zs) x ys [] h = absurd h
zip_split R (z ∷ zs) x ys (k ∷ ks) h =
    let r = zip_split R zs x ys ks h.1 in
    record { first = k ∷ r.first; at = r.at; more = r.more; split = ap (λ l. k ∷ l) r.split; each = (h.0, r.each); one = r.one }

-- ---- one part for each file

module _ (p : Problem) (root : List Fact) (is : IsInstance p) where
  pub same_parts : (proofs : List (List ℕ)) (ks ls : List Part) → AllZip (IsPartOn p root) proofs ks
      → AllZip (IsPartOn p root) proofs ls → ks ≡ ls
  same_parts [] [] [] h i = refl
  same_parts [] [] (l ∷ ls) h i = absurd i
  same_parts [] (k ∷ ks) ls h i = absurd h
  same_parts (x ∷ xs) [] ls h i = absurd h
  same_parts (x ∷ xs) (k ∷ ks) [] h i = absurd i
  same_parts (x ∷ xs) (k ∷ ks) (l ∷ ls) h i =
      ap (λ (y : Part). y ∷ ks) (same_part p root is x k l h.0 i.0) ∙ ap (λ (zs : List Part). l ∷ zs) (same_parts xs ks ls h.1 i.1)

  -- if files have a sum, they are refused only if a claim's check wasn't finished
  pub sum_unfinished : (proofs : List (List ℕ)) (s : Bound) (h : IsSumOn p root proofs s) → all_points h.parts < 2 ^ 64
      → (n : ℕ) (x : Stop FileFault)
      → IsSumStopOn p root proofs n x → OnFault x IsUnfinished
  sum_unfinished proofs s h within n ReadFailed r = tt
  sum_unfinished proofs s h within n OutOfMemory r = tt
  sum_unfinished proofs s h within n (Fault f) r =
      let z = zip_split (IsPartOn p root) r.before r.bytes r.more h.parts
      (subst (λ (l : List (List ℕ)). AllZip (IsPartOn p root) l h.parts) r.split h.each) in
      let same : z.first ≡ r.parts = same_parts r.before z.first r.parts z.each r.each in
      let split : h.parts ≡ (r.parts ++ z.at ∷ []) ++ z.more = z.split ∙ ap (λ (l : List Part). l ++ z.at ∷ z.more) same
      ∙ sym (append_assoc r.parts (z.at ∷ []) z.more) in
      let apart = (each_two-of_append (λ a b. are_apart (claims_of a) (claims_of b)) (r.parts ++ z.at ∷ []) z.more
      (subst AreApart split h.apart)).0 in
      let total = sum_by-append (λ (k : Part). points (bound_of k)) (r.parts ++ z.at ∷ []) z.more in
      let all : all_points h.parts ≡ all_points ((r.parts ++ z.at ∷ []) ++ z.more) = ap all_points split in
      only_unfinished p root is r.parts r.bytes z.at z.one apart
      (small_points (r.parts ++ z.at ∷ []) (omega (arith, total, all, within))) f r.is

  -- files have at most one sum
  pub same_sum : (proofs : List (List ℕ)) (s t : Bound) → IsSumOn p root proofs s → IsSumOn p root proofs t → s ≡ t
  same_sum proofs s t h i = sym h.total ∙ ap sum_of (same_parts proofs h.parts i.parts h.each i.each) ∙ i.total

-- -- sources whose bytes are known

module _ {R : Type 0} (p : Problem) (root : List Fact) (remaining : R → Option (List ℕ)) where
  pub zip_known : (sources : List R) (proofs : List (List ℕ)) (parts : List Part) → Give remaining sources proofs
      → AllZip (λ r k. IsPartOf p root (remaining r) k) sources parts → AllZip (IsPartOn p root) proofs parts
  zip_known [] [] [] g h = tt
  zip_known [] [] (k ∷ ks) g h = absurd h
  zip_known [] (x ∷ xs) ks g h = absurd g
  zip_known (r ∷ rs) [] ks g h = absurd g
  zip_known (r ∷ rs) (x ∷ xs) [] g h = absurd h
  zip_known (r ∷ rs) (x ∷ xs) (k ∷ ks) g h = (spelled_part p root (remaining r) x k g.0 h.0, zip_known rs xs ks g.1 h.1)

  -- the proof of the source at i, between those before it and after it
  pub record GivesAt (sources : List R) (proofs : List (List ℕ)) (i : ℕ) (r : R) : Type 0 where
    pub before : List (List ℕ)
    pub bytes : List ℕ
    pub more : List (List ℕ)
    pub split : proofs ≡ before ++ bytes ∷ more
    pub each : Give remaining (take i sources) before
    pub known : remaining r ≡ Some bytes

  pub gives_at : (sources : List R) (proofs : List (List ℕ)) (i : ℕ) (r : R) → Give remaining sources proofs
      → slice_get sources i ≡ Some r → GivesAt sources proofs i r
  gives_at [] proofs i r g e = absurd cc
  gives_at (q ∷ rs) [] i r g e = absurd g
  gives_at (q ∷ rs) (x ∷ xs) zero r g e =
      let same : q ≡ r = cc in
      record { before = []; bytes = x; more = xs; split = refl; each = tt; known = subst (λ (z : R). remaining z ≡ Some x) same g.0 }
  gives_at (q ∷ rs) (x ∷ xs) (suc i) r g e =
      let h = gives_at rs xs i r g.1 e in
      record {
        before = x ∷ h.before;
        bytes = h.bytes;
        more = h.more;
        split = ap (λ (l : List (List ℕ)). x ∷ l) h.split;
        each = (g.0, h.each);
        known = h.known;
      }

abbrev stopped_at : ℕ → Stop FileFault → SumStop
stopped_at n e = record { file = n; stop = e }

-- ---- a loop over the sources

module _ {R : Type 0} (p : Problem) (root : List Fact) (remaining : R → Option (List ℕ)) (failed : R → Bool) where
  -- The sources before the one at i have been read, and have given these parts; the source at i and those after it are unchanged.
  pub record Sofar (old now : List R) (i : ℕ) (s : Sum) : Type 0 where
    pub parts : List Part
    pub each : AllZip (λ r k. IsPartOf p root (remaining r) k) (take i old) parts
    pub of : IsSumOf s parts
    pub rest : (k : ℕ) (d : R) → i ≤ k → get_or now k d ≡ get_or old k d
    pub same : (k : ℕ) (d : R) → k < length old → failed (get_or now k d) ≡ failed (get_or old k d)

  pub sofar_start : (old : List R) (s : Sum) → IsSumOf s [] → Sofar old old 0 s
  sofar_start old s of = record { parts = []; each = tt; of = of; rest = λ k d h. refl; same = λ k d h. refl }

  -- the number of files taken so far
  pub taken : (old now : List R) (i : ℕ) (s : Sum) → i ≤ length old → Sofar old now i s → due s ≡ i + 1
  taken old now i s within h =
      let long = AllZip-long (λ r k. IsPartOf p root (remaining r) k) (take i old) h.parts h.each in
      let many = length-take-le i old within in
      omega (arith, long, many, h.of.table.number)

  -- another source
  pub sofar_next : (old now : List R) (i : ℕ) (s t : Sum) (r q : R) → i < length old → length now ≡ length old → r ≡ get_or now i r
      → Sofar old now i s
      → ((parts : List Part) → IsSumOf s parts → Adds p root (remaining r) parts t) → failed q ≡ failed r
      → Sofar old (set now i q) (i + 1) t
  sofar_next old now i s t r q l long is h adds unfailed =
      let a = adds h.parts h.of in
      let first : r ≡ get_or old i r = is ∙ h.rest i r (omega arith) in
      record {
        parts = h.parts ++ a.0 ∷ [];
        each = subst (λ (xs : List R). AllZip (λ x k. IsPartOf p root (remaining x) k) xs (h.parts ++ a.0 ∷ []))
            (sym (take_more old i r l ∙ ap (λ (x : R). take i old ++ x ∷ []) (sym first)))
            (all_zipped_more (λ x k. IsPartOf p root (remaining x) k) (take i old) h.parts r a.0 h.each a.1);
        of = a.2;
        rest = λ k d m. let ne : k ≢ i = omega arith in get_or-set_other now i k q d ne ∙ h.rest k d (omega arith);
        same = λ k d m. elim (cases_eq k i) [
          | inl e ↦ at_one k d e
          | inr ne ↦ ap failed (get_or-set_other now i k q d ne) ∙ h.same k d m
        ];
      }
    where
      inside : i < length now
      inside = omega (arith, l, long)

      at_one : (k : ℕ) (d : R) → k ≡ i → failed (get_or (set now i q) k d) ≡ failed (get_or old k d)
      at_one k d e =
          let here : get_or (set now i q) k d ≡ q = ap (λ j. get_or (set now i q) j d) e ∙ get_or-set_same now i q d inside in
          let there : r ≡ get_or old k d = get_or_read old i r l (is ∙ h.rest i r (omega arith)) d ∙ ap (λ j. get_or old j d) (sym e) in
          ap failed here ∙ unfailed ∙ ap failed there

  -- if the bytes are known, they spell the parts
  pub sofar_found : (old now : List R) (i : ℕ) (s : Sum) → length old ≤ i → (h : Sofar old now i s) → (proofs : List (List ℕ))
      → Give remaining old proofs → IsSumOn p root proofs (sum_of h.parts)
  sofar_found old now i s all h proofs given = record {
    parts = h.parts;
    each = zip_known p root remaining old proofs h.parts given
        (subst (λ (xs : List R). AllZip (λ x k. IsPartOf p root (remaining x) k) xs h.parts) (take_all i old all) h.each);
    apart = h.of.apart;
    total = refl;
  }

  pub sofar_holds : (old now : List R) (i : ℕ) (s : Sum) → (h : Sofar old now i s) → HoldsOn p (sum_of h.parts) root
  sofar_holds old now i s h =
      parts_hold p root (λ x k. IsPartOf p root (remaining x) k) (λ x k is. part_of_shows p root (remaining x) k is)
      (take i old) h.parts h.each h.of.apart

  -- a refusal of the source at i
  pub sofar_refused : (old now : List R) (i : ℕ) (s : Sum) (r : R) (n : ℕ) (x : Stop FileFault) → i < length old → r ≡ get_or now i r
      → Sofar old now i s → n ≡ due s
      → OnFault x (λ f. (parts : List Part) (bytes : List ℕ) → IsSumOf s parts → remaining r ≡ Some bytes
      → ExplainsAddedOn p root parts bytes f)
      → (proofs : List (List ℕ)) → Give remaining old proofs → IsSumStopOn p root proofs n x
  sofar_refused old now i s r n x l is h numbered tells proofs given = on x tells
    where
      reached : (P : List Part → List ℕ → Type 0)
          → ((parts : List Part) (bytes : List ℕ) → IsSumOf s parts → remaining r ≡ Some bytes → P parts bytes)
          → IsReachedOn p root proofs n P
      reached P explains =
          let first : r ≡ get_or old i r = is ∙ h.rest i r (omega arith) in
          let g = gives_at p root remaining old proofs i r given (slice_get_read old (length old) i r refl l first) in
          let number : due s ≡ length h.parts + 1 = ap (λ (n : ℕ). n + 1) h.of.table.number in
          record {
            before = g.before;
            bytes = g.bytes;
            more = g.more;
            split = g.split;
            parts = h.parts;
            each = zip_known p root remaining (take i old) g.before h.parts g.each h.each;
            apart = h.of.apart;
            small = h.of.small;
            numbered = numbered ∙ number;
            is = explains h.parts g.bytes h.of g.known;
          }

      on : (x : Stop FileFault)
          → OnFault x (λ f. (parts : List Part) (bytes : List ℕ) → IsSumOf s parts → remaining r ≡ Some bytes
          → ExplainsAddedOn p root parts bytes f)
          → IsSumStopOn p root proofs n x
      on (Fault f) tells = reached (λ parts bytes. ExplainsAddedOn p root parts bytes f) tells
      on ReadFailed tells = reached (λ parts bytes. ⊤) (λ parts bytes of known. tt)
      on OutOfMemory tells = tt

  -- ---- reads that failed

  pub set_found : (now : List R) (i k : ℕ) (q x : R) → i < length now → k ≡ i → slice_get (set now i q) k ≡ Some x → x ≡ q
  set_found now i k q x l e found = sym (get_or_from_slice_get (set now i q) k x q found) ∙ ap (λ j. get_or (set now i q) j q) e
      ∙ get_or-set_same now i q q l

  -- the source at i, before and after it was read
  pub record At (old now : List R) (i k : ℕ) (item q r x : R) : Type 0 where
    pub was : item ≡ r
    pub is : x ≡ q

  pub at_source : (old now : List R) (i : ℕ) (s : Sum) (item q : R) → i < length old → length now ≡ length old
      → item ≡ get_or now i item → Sofar old now i s
      → (k : ℕ) (r x : R) → k ≡ i → slice_get old k ≡ Some r → slice_get (set now i q) k ≡ Some x → At old now i k item q r x
  at_source old now i s item q l long is h k r x e before after = record {
    was = is ∙ h.rest i item (omega arith) ∙ ap (λ j. get_or old j item) (sym e) ∙ get_or_from_slice_get old k r item before;
    is = set_found now i k q x (omega (arith, l, long)) e after;
  }

  -- a source after files were taken
  pub same_at : (old now : List R) (i : ℕ) (s : Sum) → length now ≡ length old → Sofar old now i s → (k : ℕ) (x : R)
      → slice_get now k ≡ Some x → failed x ≡ failed (get_or old k x)
  same_at old now i s long h k x found =
      let inside = slice_get_within now k x found in
      ap failed (sym (get_or_from_slice_get now k x x found)) ∙ h.same k x (omega (arith, inside, long))

  -- a source that wasn't reached
  pub later_at : (old now : List R) (i : ℕ) (s : Sum) (q : R) → length now ≡ length old → Sofar old now i s
      → (k : ℕ) → i + 1 ≤ k → slice_get (set now i q) k ≡ slice_get old k
  later_at old now i s q long h k later = slice_get-set_other now i k q (omega (arith, later)) ∙ elim (slice_get_cases now k).1 [
    | inl (x, inside, found, at) ↦ found
        ∙ sym (slice_get_read old (length old) k x refl (omega (arith, inside, long)) (sym at ∙ h.rest k x (omega (arith, later))))
    | inr (past, none) ↦ none ∙ sym (slice_get_past old k (omega (arith, past, long)))
  ]

  -- a source after the file at i was refused
  pub failed_at : (old now : List R) (i : ℕ) (s : Sum) (item q : R) (n : ℕ) (e : Stop FileFault) → i < length old
      → length now ≡ length old → item ≡ get_or now i item → Sofar old now i s → n ≡ i + 1
      → failed q ≡ (if is_failed_read e then true else failed item)
      → (k : ℕ) (x : R) → slice_get (set now i q) k ≡ Some x
      → failed x ≡ (if is_failed_read_at (k + 1) (record { file = n; stop = e }) then true else failed (get_or old k x))
  failed_at old now i s item q n e l long is h number reads k x found = elim (cases_eq k i) [
    | inl at ↦ here at
    | inr ne ↦ there ne
  ]
    where
      here : k ≡ i → failed x ≡ (if is_failed_read_at (k + 1) (stopped_at n e) then true else failed (get_or old k x))
      here at =
          let was : item ≡ get_or old k x = get_or_read old i item l (is ∙ h.rest i item (omega arith)) x
          ∙ ap (λ j. get_or old j x) (sym at) in
          let this : n ≡ k + 1 = omega (arith, number, at) in
          ap failed (set_found now i k q x (omega (arith, l, long)) at found) ∙ reads
          ∙ ap (λ (b : Bool). if b then true else failed item) (sym (this_read n (k + 1) e this))
          ∙ ap (λ (y : R). if is_failed_read_at (k + 1) (stopped_at n e) then true else failed y) was

      there : k ≢ i → failed x ≡ (if is_failed_read_at (k + 1) (stopped_at n e) then true else failed (get_or old k x))
      there ne =
          let inside = slice_get_within (set now i q) k x found in
          let set_long = length-set now i q in
          let within : k < length old = omega (arith, inside, set_long, long) in
          let other : n ≢ k + 1 = omega (arith, number, ne) in
          ap failed (sym (get_or_from_slice_get (set now i q) k x x found)) ∙ ap failed (get_or-set_other now i k q x ne)
          ∙ h.same k x within
          ∙ ap (λ (b : Bool). if b then true else failed (get_or old k x)) (sym (other_read n (k + 1) e other))
