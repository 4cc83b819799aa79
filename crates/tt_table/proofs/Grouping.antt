-- Entries in groups: the first entry of each group, and the group that it leads.
use Rattle.std.proofs.Common.{◌≡◌, ℕ, ◌+◌, ◌<◌, ◌≤◌, Bool, true, false, not, cond, List, [], ◌∷◌, drop, set, replicate, length, get_or, refl, sym, ap, ◌∙◌, length-drop, arith, inl, inr}
use Rattle.std.specs.Prelude.{filter}
use Rattle.std.specs.List.{prefix_len}
use Rattle.std.proofs.lemmas.Bool.{cases_eq, eq-eqb, ne_eqb, eqb-true}
use Rattle.std.proofs.lemmas.List.{drop-drop, at_drop_more, get_or-set_other, get_or-replicate}
use Rattle.std.proofs.lemmas.Grind.{get_or-set_at}
use Rattle.std.proofs.lemmas.List.Sums.{prefix_len-drop_yes, prefix_len-drop_no, prefix_len-drop_all, length-filter, count_by-le-length}
use Rattle.tt_instance.specs.declared.cell.Cell.{Cell}
use Rattle.tt_table.specs.Groups.{group_of, in_group, led_group, first_at, nobody, NamesNext, NamesFirst, IsChained}
use Rattle.tt_table.specs.declared.groups.GroupBy.{GroupBy}

-- an entry of the group is the first of its group from its own place on
first_here : (by : GroupBy) (t : List Cell) (g i : ℕ) → i < length t → group_of by (get_or t i nobody) ≡ g → first_at by t g i ≡ i
first_here by t g i h own =
    let none = prefix_len-drop_no (λ e. not (in_group by g e)) t i nobody h (ap not (eq-eqb (group_of by (get_or t i nobody)) g own)) in
    omega (arith, none)

-- if the entry at i is of another group, the first of the group comes later
first_past : (by : GroupBy) (t : List Cell) (g i : ℕ) → i < length t → (group_of by (get_or t i nobody) ≡ g → ⊥)
    → first_at by t g i ≡ first_at by t g (i + 1)
first_past by t g i h other =
    let one = prefix_len-drop_yes (λ e. not (in_group by g e)) t i nobody h (ap not (ne_eqb (group_of by (get_or t i nobody)) g other)) in
    omega (arith, one)

-- after the last entry no group has a first entry
pub begins_nowhere : (by : GroupBy) (t : List Cell) (i : ℕ) → i ≡ length t → NamesFirst by t (replicate 2048 (length t)) i
begins_nowhere by t i end g below =
    let none = prefix_len-drop_all (λ e. not (in_group by g e)) t i (omega (arith, end)) in
    get_or-replicate 2048 g (length t) 0 below ∙ omega (arith, none, end)

pub named_nowhere : (by : GroupBy) (t : List Cell) (next : List ℕ) (i : ℕ) → i ≡ length t → NamesNext by t next i
named_nowhere by t next i end j from within = absurd (omega (arith, end, from, within))

-- linking another entry, the one at i, of group g, before those already linked
module _ (by : GroupBy) (t : List Cell) (g i : ℕ) (own : group_of by (get_or t i nobody) ≡ g) (h : i < length t) where
  pub begins_more : (first : List ℕ) → g < length first → NamesFirst by t first (i + 1) → NamesFirst by t (set first g i) i
  begins_more first inside named k below = elim (cases_eq k g) [
    | inl same ↦ get_or-set_at first g k i 0 same inside ∙ sym (first_here by t k i h (own ∙ sym same))
    | inr other ↦ get_or-set_other first g k i 0 other ∙ named k below ∙ sym (first_past by t k i h (λ e. other (sym e ∙ own)))
  ]

  pub named_more : (first next : List ℕ) → g < 2048 → i < length next → NamesFirst by t first (i + 1) → NamesNext by t next (i + 1)
      → NamesNext by t (set next i (get_or first g 0)) i
  named_more first next below inside begins named j from within = elim (cases_eq j i) [
    | inl same ↦
        get_or-set_at next i j (get_or first g 0) 0 same inside ∙ begins g below
        ∙ ap (λ k. first_at by t k (i + 1)) (sym own)
        ∙ ap (λ k. first_at by t (group_of by (get_or t k nobody)) (k + 1)) (sym same)
    | inr other ↦ get_or-set_other next i j (get_or first g 0) 0 other ∙ named j (omega (arith, other)) within
  ]

-- the first entry of a group leads the group
led : (by : GroupBy) (g : ℕ) (es : List Cell) → led_group by (drop (prefix_len (λ e. not (in_group by g e)) es) es) ≡ filter
    (in_group by g) es
led by g [] = refl
led by g (e ∷ es) =
    here e es (prefix_len (λ x. not (in_group by g x)) es) (in_group by g e)
    ∙ both (in_group by g e) (λ own. ap (λ k. e ∷ filter (in_group by k) es) (eqb-true (group_of by e) g own)) (led by g es)
  where
    here : (e : Cell) (es : List Cell) (n : ℕ) (b : Bool) → led_group by (drop (cond (not b) (1 + n) 0) (e ∷ es)) ≡ cond b
        (e ∷ filter (in_group by (group_of by e)) es) (led_group by (drop n es))
    here e es n true = refl
    here e es n false = ap (led_group by) (sym (drop-drop n 1 (e ∷ es)))

    both : {x y z w : List Cell} (b : Bool) → (b ≡ true → x ≡ y) → z ≡ w → cond b x z ≡ cond b y w
    both true f g = f refl
    both false f g = g

pub led_from : (by : GroupBy) (t : List Cell) (g i : ℕ) → led_group by (drop (first_at by t g i) t) ≡ filter (in_group by g) (drop i t)
led_from by t g i =
    ap (led_group by) (sym (drop-drop (prefix_len (λ e. not (in_group by g e)) (drop i t)) i t)) ∙ led by g (drop i t)

-- the link of an entry leads to the rest of its group
pub led_after : (by : GroupBy) (t : List Cell) (next : List ℕ) (i : ℕ) → IsChained by t next → i < length t
    → led_group by (drop (get_or next i 0) t) ≡ filter (in_group by (group_of by (get_or t i nobody))) (drop (i + 1) t)
led_after by t next i chained h =
    ap (λ k. led_group by (drop k t)) (chained.named i (omega arith) h) ∙ led_from by t (group_of by (get_or t i nobody)) (i + 1)

-- an entry leads itself and then the rest of its group
pub led_here : (by : GroupBy) (t : List Cell) (next : List ℕ) (i : ℕ) → IsChained by t next → i < length t
    → led_group by (drop i t) ≡ get_or t i nobody ∷ led_group by (drop (get_or next i 0) t)
led_here by t next i chained h =
    at_drop_more (led_group by) t i nobody h ∙ ap (λ es. get_or t i nobody ∷ es) (sym (led_after by t next i chained h))

-- a group from a place on has at most as many entries as the timetable
pub led_few : (by : GroupBy) (t : List Cell) (i : ℕ) → length (led_group by (drop i t)) ≤ length t
led_few by t i = at_most (drop i t) (omega (arith, length-drop i t))
  where
    at_most : (es : List Cell) → length es ≤ length t → length (led_group by es) ≤ length t
    at_most [] h = h
    at_most (e ∷ es) h =
        omega (arith, h, length-filter (in_group by (group_of by e)) es, count_by-le-length (in_group by (group_of by e)) es)
