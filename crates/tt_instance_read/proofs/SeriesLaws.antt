-- This many items in turn: those that are read are spelled, and those that are spelled are read.
use Rattle.std.proofs.Common.{◌≡◌, ℕ, zero, suc, List, [], ◌∷◌, ◌++◌, length, Result, Ok, refl, sym, ap, subst, ◌∙◌, append_assoc}
use Rattle.std.specs.List.{flat_map}
use Rattle.std.proofs.lemmas.List.{append-nil}
use Rattle.std.proofs.lemmas.List.Concat.{flat_map-cons}
use Rattle.tt_text.specs.Tokens.{Placed}
use Rattle.tt_text.specs.Pieces.{Piece, Begins}
use Rattle.tt_text.specs.Reading.{◌>>=◌}
use Rattle.tt_text.proofs.Steps.{done, ok_is, bind_ok, bind_is, Takes, takes_then}
use Rattle.tt_text.proofs.Fields.{ReadsOn}
use Rattle.tt_instance_read.specs.declared.fault.InstanceFault.{InstanceFault}
use Rattle.tt_instance.proofs.AfterLaws.{EachAfter}

-- reading another item, and reading this many more items
pub record IsSeries {B : Type 0} (one : B → List Placed → Result (B × List Placed) InstanceFault)
    (many : ℕ → B → List Placed → Result (B × List Placed) InstanceFault) : Type 0 where
  pub none : (b : B) (ts : List Placed) → many zero b ts ≡ Ok (b, ts)
  pub more : (n : ℕ) (b : B) (ts : List Placed) → many (suc n) b ts ≡ (one b ts >>= λ x. many n x.0 x.1)

-- Items are read after others, of which the reading stores a view; each satisfies its condition, given those before it.
module _ {X B : Type 0} (view : List X → B) (pieces : X → List Piece) (Next : List X → X → Type 0) where
  -- the result of reading one item after those before
  pub record OneTaken (before : List X) (ts : List Placed) (x : B × List Placed) : Type 0 where
    pub item : X
    pub list : x.0 ≡ view (before ++ item ∷ [])
    pub next : Next before item
    pub takes : Takes ts (pieces item) x.1

  -- the result of reading this many items after those before
  pub record ManyTaken (n : ℕ) (before : List X) (ts : List Placed) (x : B × List Placed) : Type 0 where
    pub items : List X
    pub list : x.0 ≡ view (before ++ items)
    pub len : length items ≡ n
    pub each : EachAfter Next before items
    pub takes : Takes ts (flat_map pieces items) x.1

  -- an item that is read is spelled, if those before it fit
  abbrev pub OneTakes : (List X → Type 0) → (B → List Placed → Result (B × List Placed) InstanceFault) → Type 0
  OneTakes Fits one = (before : List X) (ts : List Placed) (x : B × List Placed) → Fits before → one (view before) ts ≡ Ok x
      → OneTaken before ts x

  -- no items
  none_taken : (before : List X) (ts : List Placed) → ManyTaken zero before ts (view before, ts)
  none_taken before ts = record {
    items = [];
    list = ap view (sym (append-nil before));
    len = refl;
    each = tt;
    takes = record { take = λ qs rest h. h };
  }

  -- one item and the items after it
  one_more : (n : ℕ) (before : List X) (ts : List Placed) (a x : B × List Placed) (one : OneTaken before ts a)
      → ManyTaken n (before ++ one.item ∷ []) a.1 x → ManyTaken (suc n) before ts x
  one_more n before ts a x one more = record {
    items = one.item ∷ more.items;
    list = more.list ∙ ap view (append_assoc before (one.item ∷ []) more.items);
    len = ap suc more.len;
    each = (one.next, more.each);
    takes = subst (λ (ps : List Piece). Takes ts ps x.1) (sym (flat_map-cons pieces one.item more.items))
        (takes_then ts a.1 x.1 _ _ one.takes more.takes);
  }

  -- this many items that were read are spelled
  pub series_takes : (Fits : List X → Type 0) (one : B → List Placed → Result (B × List Placed) InstanceFault)
      (many : ℕ → B → List Placed → Result (B × List Placed) InstanceFault)
      → IsSeries one many → OneTakes Fits one → ((before : List X) (x : X) → Fits before → Next before x → Fits (before ++ x ∷ []))
      → (n : ℕ) (before : List X) (ts : List Placed) (x : B × List Placed) → Fits before → many n (view before) ts ≡ Ok x
      → ManyTaken n before ts x
  series_takes Fits one many series steps keeps zero before ts x fits e =
      subst (ManyTaken zero before ts) (ok_is (view before, ts) x (sym (series.none (view before) ts) ∙ e)) (none_taken before ts)
  series_takes Fits one many series steps keeps (suc n) before ts x fits e =
      let a = bind_ok (one (view before) ts) (λ c. many n c.0 c.1) x (sym (series.more n (view before) ts) ∙ e) in
      let first = steps before ts a.0 fits a.1 in
      let rest : many n (view (before ++ first.item ∷ [])) a.0.1 ≡ Ok x = ap (λ (b : B). many n b a.0.1) (sym first.list) ∙ a.2 in
      one_more n before ts a.0 x first (series_takes Fits one many series steps keeps n (before ++ first.item ∷ []) a.0.1 x
      (keeps before first.item fits first.next) rest)

  -- an item that is spelled is read
  abbrev pub OneReads : (B → List Placed → Result (B × List Placed) InstanceFault) → Type 0
  OneReads one = (before : List X) (ts : List Placed) (item : X) (qs : List Piece) (rest : List Placed) → Next before item
      → Begins (pieces item ++ qs) ts rest
      → ReadsOn (one (view before) ts) (view (before ++ item ∷ [])) qs rest

  -- items that are spelled are read
  pub series_reads : (one : B → List Placed → Result (B × List Placed) InstanceFault)
      (many : ℕ → B → List Placed → Result (B × List Placed) InstanceFault) → IsSeries one many → OneReads one
      → (before : List X) (ts : List Placed) (items : List X) (qs : List Piece) (rest : List Placed) → EachAfter Next before items
      → Begins (flat_map pieces items ++ qs) ts rest
      → ReadsOn (many (length items) (view before) ts) (view (before ++ items)) qs rest
  series_reads one many series back before ts [] qs rest each h =
      record {
        mid = ts;
        is = series.none (view before) ts ∙ ap (λ (b : B). done {A = B × List Placed} (b, ts))
            (ap view (sym (append-nil before)));
        left = h;
      }
  series_reads one many series back before ts (c ∷ cs) qs rest each h =
      let grouped : flat_map pieces (c ∷ cs) ++ qs ≡ pieces c ++ (flat_map pieces cs ++ qs) =
      append_assoc (pieces c) (flat_map pieces cs) qs in
      let first = back before ts c (flat_map pieces cs ++ qs) rest each.0 (subst (λ (ps : List Piece). Begins ps ts rest) grouped h) in
      let more = series_reads one many series back (before ++ c ∷ []) first.mid cs qs rest each.1 first.left in
      let made : done {A = B × List Placed} (view ((before ++ c ∷ []) ++ cs), more.mid) ≡ Ok (view (before ++ c ∷ cs), more.mid) =
      ap (λ (l : List X). done {A = B × List Placed} (view l, more.mid)) (append_assoc before (c ∷ []) cs) in
      record {
        mid = more.mid;
        is = series.more (length cs) (view before) ts ∙ bind_is (one (view before) ts) (view (before ++ c ∷ []), first.mid)
            (λ x. many (length cs) x.0 x.1) _ first.is (more.is ∙ made);
        left = more.left;
      }
