-- Entries that break a rule together with later ones.
use Rattle.std.proofs.Common.{◌≡◌, ℕ, suc, ◌+◌, ◌-◌, ◌<◌, ◌≤◌, ◌&&◌, Bool, true, false, cond, List, [], ◌∷◌, ◌++◌, length, get_or, drop, refl, sym, ap, subst, ◌∙◌, arith}
use Rattle.std.specs.Prelude.{◌==◌, All, Option, Some, count_by, filter, find, slice_get}
use Rattle.std.specs.Option.{ForSome}
use Rattle.std.proofs.lemmas.List.{drop_more, drop_all}
use Rattle.std.proofs.lemmas.List.Elements.{All-filter}
use Rattle.std.proofs.lemmas.List.Sums.{length-filter}
use Rattle.std.proofs.lemmas.Option.{get_or_from_slice_get, slice_get_within}
use Rattle.tt_list_laws.proofs.Tests.{test_turned}
use Rattle.tt_page_text.specs.Labelled.{Labelled}
use Rattle.tt_page_text.specs.Puts.{put_text}
use Rattle.tt_page_text.specs.Windowed.{PageState}
use Rattle.tt_page_text.proofs.Growing.{put_nothing, put_twice}
use Rattle.tt_instance.specs.Problem.{Problem}
use Rattle.tt_instance.specs.Cells.{is_at, slot_of}
use Rattle.tt_instance.specs.Courses.{conflict}
use Rattle.tt_instance.specs.declared.cell.Cell.{Cell}
use Rattle.tt_page_lists.specs.Items.{item_head, is_odd, at_odds, odds_count, pair_text, odds_item, odds_text, pairs_item, entry_item, entry_items}
use Rattle.tt_page_lists.specs.declared.rule.Rule.{Rule}
use Rattle.tt_page_lists.specs.declared.rule.Rule.TheVariants as rule
use Rattle.tt_page_text.proofs.Counting.{filter-filter}
use Rattle.tt_page_text.proofs.First.{first-filter}

-- the later entries of an entry's period that break the rule together with it
pub odds_behind : (p : Problem) (r : Rule) (e : Cell) (later : List Cell) → filter (is_odd p r e) (filter (is_at (slot_of e)) later)
    ≡ filter (at_odds p r e) later
odds_behind p rule.Conflicts e later =
    filter-filter (is_odd p rule.Conflicts e) (is_at (slot_of e)) (at_odds p rule.Conflicts e) later
    (λ x. ap (λ b. (b && (x.period == e.period)) && conflict p e.course x.course) (test_turned x.day e.day)
    ∙ ap (λ b. ((e.day == x.day) && b) && conflict p e.course x.course) (test_turned x.period e.period))
odds_behind p rule.Lectures e later = filter-filter (is_odd p rule.Lectures e) (is_at (slot_of e)) (at_odds p rule.Lectures e) later
    (λ x. refl)
odds_behind p rule.Availability e later = filter-filter (is_odd p rule.Availability e) (is_at (slot_of e))
    (at_odds p rule.Availability e) later (λ x. refl)
odds_behind p rule.RoomOccupancy e later = filter-filter (is_odd p rule.RoomOccupancy e) (is_at (slot_of e))
    (at_odds p rule.RoomOccupancy e) later (λ x. refl)
odds_behind p rule.RoomCapacity e later = filter-filter (is_odd p rule.RoomCapacity e) (is_at (slot_of e))
    (at_odds p rule.RoomCapacity e) later (λ x. refl)
odds_behind p rule.WorkingDays e later = filter-filter (is_odd p rule.WorkingDays e) (is_at (slot_of e))
    (at_odds p rule.WorkingDays e) later (λ x. refl)
odds_behind p rule.Compactness e later = filter-filter (is_odd p rule.Compactness e) (is_at (slot_of e))
    (at_odds p rule.Compactness e) later (λ x. refl)
odds_behind p rule.RoomStability e later = filter-filter (is_odd p rule.RoomStability e) (is_at (slot_of e))
    (at_odds p rule.RoomStability e) later (λ x. refl)

-- the first of them
pub odds_first : (p : Problem) (r : Rule) (e : Cell) (group later : List Cell) → group ≡ filter (is_at (slot_of e)) later
    → find (is_odd p r e) group ≡ slice_get (filter (at_odds p r e) later) 0
odds_first p r e group later is =
    sym (first-filter (is_odd p r e) group) ∙ ap (λ (g : List Cell). slice_get (filter (is_odd p r e) g) 0) is
    ∙ ap (λ (es : List Cell). slice_get es 0) (odds_behind p r e later)

-- how many they are
pub odds_many : (p : Problem) (r : Rule) (e : Cell) (group later : List Cell) → group ≡ filter (is_at (slot_of e)) later
    → count_by (is_odd p r e) group ≡ length (filter (at_odds p r e) later)
odds_many p r e group later is =
    sym (length-filter (is_odd p r e) group) ∙ ap (λ (g : List Cell). length (filter (is_odd p r e) g)) is
    ∙ ap length (odds_behind p r e later)

-- the first of the entries that are left passes the test
pub found_here : (test : Cell → Bool) (x : Cell) (xs left : List Cell) (first : Option Cell) → left ≡ x ∷ xs → test x ≡ true
    → find test left ≡ first → Some x ≡ first
found_here test x xs left first is pass before = ap (λ b. cond b (Some x) (find test xs)) (sym pass) ∙ ap (find test) (sym is) ∙ before

-- the first of the entries that are left fails the test
pub found_later : (test : Cell → Bool) (x : Cell) (xs left : List Cell) (first : Option Cell) → left ≡ x ∷ xs → test x ≡ false
    → find test left ≡ first → find test xs ≡ first
found_later test x xs left first is fail before = ap (λ b. cond b (Some x) (find test xs)) (sym fail) ∙ ap (find test) (sym is) ∙ before

-- the first of some entries that passes a test is one of them
pub first_in : (P : Cell → Type 0) (test : Cell → Bool) (es : List Cell) → All P es → ForSome (find test es) P
first_in P test es all x is =
    let first : slice_get (filter test es) 0 ≡ Some x = first-filter test es ∙ is in
    subst P (get_or_from_slice_get (filter test es) 0 x x first)
    (All-filter test P es all 0 x (slice_get_within (filter test es) 0 x first))

text_of_odds : (p : Problem) (labels : Labelled) (r : Rule) (e : Cell) (es : List Cell) → odds_text p labels r e (slice_get es 0)
    (length es) ≡ odds_item p labels r e es
unfolding odds_text odds_item
text_of_odds p labels r e [] = refl
text_of_odds p labels r e (x ∷ xs) =
    let many : suc (length xs) ≡ length xs + 1 = omega arith in
    let more : suc (length xs) - 1 ≡ length xs = omega arith in
    λ i. item_head (odds_count r (many i)) ++ pair_text p labels e x (more i)

-- the item of an entry in the form that the program uses
pub pairs_text : (p : Problem) (labels : Labelled) (r : Rule) (e : Cell) (later : List Cell) (first : Option Cell) (odds : ℕ)
    → first ≡ slice_get (filter (at_odds p r e) later) 0 → odds ≡ length (filter (at_odds p r e) later)
    → odds_text p labels r e first odds ≡ pairs_item p labels r e later
unfolding pairs_item
pairs_text p labels r e later first odds is many = (λ i. odds_text p labels r e (is i) (many i))
    ∙ text_of_odds p labels r e (filter (at_odds p r e) later)

-- another entry has its item
pub item_further : (p : Problem) (labels : Labelled) (r : Rule) (t : List Cell) (i : ℕ) (d : Cell) (first old new : PageState)
    → i < length t → new ≡ put_text old (entry_item p labels r (get_or t i d) (drop (i + 1) t))
    → put_text old (entry_items p labels r (drop i t)) ≡ first → put_text new (entry_items p labels r (drop (i + 1) t)) ≡ first
unfolding entry_items
item_further p labels r t i d first old new within more before =
    let here = entry_item p labels r (get_or t i d) (drop (i + 1) t) in
    let behind = entry_items p labels r (drop (i + 1) t) in
    ap (λ s. put_text s behind) more ∙ put_twice old here behind
    ∙ ap (λ es. put_text old (entry_items p labels r es)) (sym (drop_more t i d within)) ∙ before

-- after the last entry nothing follows
pub items_done : (p : Problem) (labels : Labelled) (r : Rule) (t : List Cell) (i : ℕ) (first old : PageState) → length t ≤ i
    → put_text old (entry_items p labels r (drop i t)) ≡ first → old ≡ first
unfolding entry_items
items_done p labels r t i first old past before =
    sym (put_nothing old) ∙ ap (λ es. put_text old (entry_items p labels r es)) (sym (drop_all i t past)) ∙ before
