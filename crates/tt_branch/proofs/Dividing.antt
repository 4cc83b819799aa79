-- The nodes and links of a node that is split, in the order in which the code inserts them.
use Rattle.std.proofs.Common.{◌≡◌, ℕ, suc, ◌+◌, List, [], ◌∷◌, ◌++◌, length, length-append, sym, ap, ◌∙◌, arith, get_or}
use Rattle.std.specs.Prelude.{slice_set, true, false}
use Rattle.std.specs.List.{insert}
use Rattle.std.proofs.lemmas.Option.{get_or_from_slice_get}
use Rattle.tt_list_laws.proofs.Cuts.{IsCut, cut_at, set_cut, insert_cut}
use Rattle.tt_path.specs.declared.facts.Pattern.{Pattern}
use Rattle.tt_branch.specs.declared.tree_node.NodeState.TheVariants.{Split, Opened, Unopened}
use Rattle.tt_branch.specs.declared.tree_node.TreeNode.{TreeNode}
use Rattle.tt_branch.specs.declared.links.Link.{Link}
use Rattle.tt_branch.specs.declared.search.Search.{Search}
use Rattle.tt_branch.specs.Inner.Growing.{HasMark}
use Rattle.tt_branch.specs.Inner.Links.{link_of, divided_links}
use Rattle.tt_branch.specs.Inner.State.{IsSplitAt}

split_items : (items one two three : List TreeNode) (k : ℕ) (e d a b : TreeNode) (cut : IsCut items k e) → one ≡ insert items (k + 1) b
    → two ≡ insert one (k + 1) a → three ≡ slice_set two k d → three ≡ cut.before ++ d ∷ a ∷ b ∷ cut.after
split_items items one two three k e d a b cut h i j =
    let at : k + 1 ≡ suc (length cut.before) = omega (arith, cut.place) in
    let first : one ≡ cut.before ++ e ∷ b ∷ cut.after = h ∙ ap (λ l. insert l (k + 1) b) cut.whole
    ∙ ap (λ n. insert (cut.before ++ e ∷ cut.after) n b) at ∙ insert_cut cut.before e cut.after b in
    let second : two ≡ cut.before ++ e ∷ a ∷ b ∷ cut.after = i ∙ ap (λ l. insert l (k + 1) a) first
    ∙ ap (λ n. insert (cut.before ++ e ∷ b ∷ cut.after) n a) at ∙ insert_cut cut.before e (b ∷ cut.after) a in
    j ∙ ap (λ l. slice_set l k d) second ∙ ap (λ n. slice_set (cut.before ++ e ∷ a ∷ b ∷ cut.after) n d) (sym cut.place)
    ∙ set_cut cut.before e (a ∷ b ∷ cut.after) d

-- the steps of the code
pub record AreSteps (place : ℕ) (g : Pattern) (old new : Search) : Type 0 where
  pub read : TreeNode
  pub read_is : read ≡ get_or old.tree_nodes.items place read
  pub one : List Link
  pub yes : ℕ
  pub no : ℕ
  pub first_link : one ≡ old.links.items ++ link_of read.link g true ∷ []
  pub yes_is : yes ≡ length old.links.items + 1
  pub second_link : new.links.items ≡ one ++ link_of read.link g false ∷ []
  pub no_is : no ≡ length one + 1
  pub a : TreeNode
  pub b : TreeNode
  pub a_mark : a.mark ≡ Unopened
  pub a_link : a.link ≡ yes
  pub b_mark : b.mark ≡ Unopened
  pub b_link : b.link ≡ no
  pub d : TreeNode
  pub d_mark : d.mark ≡ Split g
  pub d_link : d.link ≡ read.link
  pub more : List TreeNode
  pub most : List TreeNode
  pub put_b : more ≡ insert old.tree_nodes.items (place + 1) b
  pub put_a : most ≡ insert more (place + 1) a
  pub put_d : new.tree_nodes.items ≡ slice_set most place d
  pub best : new.best ≡ old.best

pub split_by_steps : (place : ℕ) (g : Pattern) (old new : Search) → HasMark old.tree_nodes.items place (Opened g)
    → AreSteps place g old new → IsSplitAt place g old new
split_by_steps place g old new h s =
    let cut = cut_at old.tree_nodes.items place h.0 h.1 in
    let same : s.read ≡ h.0 = s.read_is ∙ get_or_from_slice_get old.tree_nodes.items place h.0 s.read h.1 in
    let link = ap (λ (e : TreeNode). e.link) same in
    record {
      before = cut.before;
      after = cut.after;
      was = h.0;
      divided = s.d;
      first = s.a;
      second = s.b;
      old_tree_nodes = cut.whole;
      place_is = cut.place;
      opened = h.2;
      division = record {
        divided = s.d_mark;
        same_link = s.d_link ∙ link;
        first = s.a_mark;
        first_link = s.a_link ∙ s.yes_is;
        second = s.b_mark;
        second_link = s.b_link ∙ s.no_is
            ∙ omega (arith, ap length s.first_link, length-append old.links.items (link_of s.read.link g true ∷ []));
      };
      tree_nodes = split_items old.tree_nodes.items s.more s.most new.tree_nodes.items place h.0 s.d s.a s.b cut s.put_b s.put_a s.put_d;
      links = s.second_link ∙ ap (λ l. l ++ link_of s.read.link g false ∷ []) s.first_link
          ∙ ap (λ n. divided_links old.links.items n g) link;
      best = s.best;
    }
