-- A tree that derives its bound and no greater bound, and the places that a path leaves open.
use Rattle.std.proofs.Common.{◌≡◌, ℕ, List, Bool, true, false, [], ◌∷◌, take, codes, Ok, Err, inl, inr, refl, lit≤}
use Rattle.std.proofs.lemmas.List.Elements.{All-from_recursion}
use Rattle.tt_text.specs.Tokens.{Placed, tokens_from}
use Rattle.tt_text.specs.Numbers.{number_of}
use Rattle.tt_text.specs.Feeds.{Stream, fault_from, stream_from}
use Rattle.tt_text.specs.CutShort.{cut_short}
use Rattle.tt_text.specs.declared.feed.FeedFault.TheVariants.{Read}
use Rattle.tt_instance.proofs.Examples.{gap}
use Rattle.tt_path.specs.declared.facts.Fact.{Fact}
use Rattle.tt_path.specs.declared.facts.Pattern.{Pattern}
use Rattle.tt_leaf.specs.declared.leaf.Bound.TheVariants.{AtLeast}
use Rattle.tt_leaf.specs.declared.leaf.Claim.TheVariants.{Capacity, Compact}
use Rattle.tt_leaf.specs.declared.leaf.Leaf.{Leaf}
use Rattle.tt_leaf.specs.declared.leaf.Leaf.TheVariants.{Clique, Cost}
use Rattle.tt_leaf_rules.specs.declared.fault.RuleFault.TheVariants.{TooCheap}
use Rattle.tt_leaf_rules.proofs.Examples.{when}
use Rattle.tt_leaf_rules.proofs.Rightness.{right_of}
use Rattle.tt_proof_read.specs.Faults.{read_failed}
use Rattle.tt_proof_read.specs.Reading.{token_at, word_at, numbered_below, index_of, who_at, given_of, given_at, pattern_at, node_after_word, node_at, version_at, bound_of, bound_at, header_at}
use Rattle.tt_proof_read.specs.declared.node.Node.TheVariants as node
use Rattle.tt_proof_read.specs.Trees.{Tree, Tip, Fork, with_fact, on_paths}
use Rattle.tt_proof_check.specs.Derives.{Derives}
use Rattle.tt_proof_check.specs.FailedReads.{IsCutOff}
use Rattle.tt_proof_check.specs.Inner.Pending.{pending}
use Rattle.tt_proof_check.specs.Streams.{stream_of, sizes_of}
use Rattle.tt_proof_check.specs.Explains.{Passes, FailsAt}

-- a missing seat and two isolated entries
abbrev five : Leaf
five = Cost (Capacity 1 1 ∷ Compact 0 ∷ [])

-- a in the first period and b in the third, or vice versa; every other choice leaves one of them without a period
abbrev gap_tree : Tree
gap_tree =
    Fork (when 0 0) (Fork (when 1 2) (Tip five) (Tip (Clique (1 ∷ []))))
    (Fork (when 0 2) (Fork (when 1 0) (Tip five) (Tip (Clique (1 ∷ [])))) (Tip (Clique (0 ∷ []))))

gap_costs_five : Derives gap (AtLeast 5) [] gap_tree
gap_costs_five =
    let first = with_fact [] (when 0 0) true in
    let other = with_fact [] (when 0 0) false in
    let last = with_fact other (when 0 2) true in
    let right = right_of gap in (
      (
        right (with_fact first (when 1 2) true) (AtLeast 5) five refl,
        right (with_fact first (when 1 2) false) (AtLeast 5)
            (Clique (1 ∷ [])) refl,
      ),
      (
        (
          right (with_fact last (when 1 0) true) (AtLeast 5) five refl,
          right (with_fact last (when 1 0) false) (AtLeast 5)
              (Clique (1 ∷ [])) refl,
        ),
        right (with_fact other (when 0 2) false) (AtLeast 5) (Clique (0 ∷ [])) refl,
      ),
    )

-- its first leaf is node 2, and five is too little for six
gap_costs_no_six : FailsAt gap [] (AtLeast 6) gap_tree 2 TooCheap
gap_costs_no_six = record {
  path = _;
  leaf = five;
  found = refl;
  within = lit≤ tt;
  fault = refl;
  before = All-from_recursion (Passes gap (AtLeast 6)) (take 2 (on_paths [] gap_tree)) ((lit≤ tt, tt), ((lit≤ tt, tt), tt));
}

abbrev fact : Pattern → Bool → Fact
fact g holds = record { pattern = g; holds = holds }

-- after a yes-fact its second child is pending, after a no-fact nothing is
two_to_come : pending 0 (fact (when 0 0) true ∷ fact (when 1 2) false ∷ fact (when 1 1) true ∷ [])
    ≡ (fact (when 0 0) true ∷ fact (when 1 2) false ∷ fact (when 1 1) false ∷ []) ∷ (fact (when 0 0) false ∷ []) ∷ []
two_to_come = refl

-- if the first fact is one of the root, its other side is not
one_to_come : pending 1 (fact (when 0 0) true ∷ fact (when 1 2) false ∷ fact (when 1 1) true ∷ [])
    ≡ (fact (when 0 0) true ∷ fact (when 1 2) false ∷ fact (when 1 1) false ∷ []) ∷ []
one_to_come = refl

-- with the first fact at its root, the left side of the tree derives the bound by itself
left_costs_five : Derives gap (AtLeast 5) (fact (when 0 0) true ∷ []) (Fork (when 1 2) (Tip five) (Tip (Clique (1 ∷ []))))
left_costs_five = gap_costs_five.0

-- the first split has been read whole, and the failure of a read cuts off the second
abbrev begun : List ℕ
begun = codes "CTTP 1 bound 5 S c0 * d0 p0 S c1"

abbrev token : List ℕ → ℕ → Placed
token text at = record { text = text; at = at }

abbrev off_with : List Placed → Stream
off_with ts = record { tokens = ts; stop = Err Read }

abbrev second : Stream
second = off_with (token (codes "S") 28 ∷ [])

abbrev first : Stream
first = off_with (token (codes "S") 15 ∷ token (codes "c0") 17 ∷ token (codes "*") 20 ∷ token (codes "d0") 22 ∷ token
    (codes "p0") 25 ∷ second.tokens)

begun_header : header_at (cut_short (stream_of begun)) ≡ Ok ((1, AtLeast 5), first)
unfolding stream_from fault_from tokens_from number_of token_at word_at version_at bound_of bound_at header_at
begun_header = refl

begun_split : node_at (sizes_of gap) 1 0 first ≡ Ok (node.Split (when 0 0), second)
unfolding number_of token_at numbered_below index_of who_at given_of given_at pattern_at node_after_word node_at
begun_split = refl

no_second : node_at (sizes_of gap) 1 1 second ≡ Err read_failed
unfolding token_at who_at pattern_at node_after_word node_at
no_second = refl

a_split_breaks_off : IsCutOff gap [] (cut_short (stream_of begun))
a_split_breaks_off = inr (
  1,
  AtLeast 5,
  first,
  begun_header,
  inl (record {
    nodes = node.Split (when 0 0) ∷ [];
    rest = second;
    reads = (second, begun_split, refl);
    tree = gap_tree;
    next = node.Split (when 1 2);
    more = node.Leaf five ∷ node.Leaf (Clique (1 ∷ [])) ∷ node.Split (when 0 2) ∷ node.Split (when 1 0) ∷ node.Leaf five ∷ node.Leaf
        (Clique (1 ∷ [])) ∷ node.Leaf (Clique (0 ∷ [])) ∷ [];
    begins = refl;
    passed = All-from_recursion (Passes gap (AtLeast 5)) (take 1 (on_paths [] gap_tree)) ((lit≤ tt, tt), tt);
    fails = no_second;
  }),
)
