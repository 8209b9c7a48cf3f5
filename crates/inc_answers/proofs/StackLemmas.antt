-- Stacks, one node of a tree after the other, and names, one byte after the other.
use Rattle.std.proofs.Common.{◌≡◌, ℕ, ◌+◌, ◌<◌, ◌≤◌, List, [], ◌∷◌, ◌++◌, All, drop, get_or, length, take, refl, sym, ap, ap₂, ◌∙◌, subst, arith}
use Rattle.std.specs.Prelude.{flat_map}
use Rattle.std.proofs.lemmas.List.{append-nil, append_assoc, drop_all, drop_more}
use Rattle.std.proofs.lemmas.List.Elements.{All-append, All-cons, All-head, All-nil, All-tail, All-take}
use Rattle.inc_lookup.specs.Projects.{Layout}
use Rattle.inc_cost.specs.Trees.{branches, own}
use Rattle.inc_cost.specs.declared.branches.Branch.{Branch}
use Rattle.inc_cost.specs.declared.trees.Node.{Node}
use Rattle.inc_answers.specs.Sending.{Sends, Stream}
use Rattle.inc_answers.specs.TreeText.{more_names, name_byte, stack_line, stack_name, stack_names, stacks_from, way_to}
use Rattle.inc_answers.proofs.SendingLemmas.{sends_none, sends_then}
use Rattle.inc_answers.proofs.WhyLemmas.{flat_map-more}

-- the files of nodes that are weighed are those of the nodes
pub branches_within : (weights : List ℕ) (most : ℕ) (ns : List Node) → All (λ (n : Node). n.file < most) ns → All (λ (b : Branch). b.file < most) (branches weights ns)
branches_within weights most [] low = All-nil (λ (b : Branch). b.file < most)
branches_within weights most (n ∷ ns) low =
    All-cons (λ (b : Branch). b.file < most) _ (branches weights ns) (All-head (λ (x : Node). x.file < most) n ns low)
    (branches_within weights most ns (All-tail (λ (x : Node). x.file < most) n ns low))

-- the stacks of the nodes before this one are sent, and these are the files on the way to the last of them
pub record AreSentTo (layout : Layout) (weights : List ℕ) (ns : List Node) (i : ℕ) (way : List ℕ) (begun now : Stream) : Type 0 where
  pub text : List ℕ
  pub sent : Sends begun now text
  pub rest : text ++ stacks_from layout weights way (drop i ns) ≡ stacks_from layout weights [] ns
  pub low : All (λ (f : ℕ). f < length layout.paths) way
  pub short : length way ≤ i

pub stacks_begun : (layout : Layout) (weights : List ℕ) (ns : List Node) (way : List ℕ) (begun : Stream) → way ≡ [] → AreSentTo layout weights ns 0 way begun begun
stacks_begun layout weights ns way begun none = record {
  text = [];
  sent = sends_none begun;
  rest = ap (λ (w : List ℕ). stacks_from layout weights w ns) none;
  low = subst (λ (w : List ℕ). All (λ (f : ℕ). f < length layout.paths) w) (sym none) (All-nil (λ (f : ℕ). f < length layout.paths));
  short = (let long = ap (λ (w : List ℕ). length w) none in omega (arith, long));
}

-- the files on the way to the next node
pub way_within : (layout : Layout) (ns all : List Node) (i : ℕ) (n : Node) (way new : List ℕ) → All (λ (x : Node). x.file < length layout.paths) ns → all ≡ ns → i < length all → n ≡ get_or all i n
    → new ≡ way_to way n → All (λ (f : ℕ). f < length layout.paths) way → All (λ (f : ℕ). f < length layout.paths) new
way_within layout ns all i n way new low same inside at is before =
    let there : i < length ns = (let long = ap (λ (l : List Node). length l) same in omega (arith, inside, long)) in
    let here : get_or ns i n ≡ n = sym (at ∙ ap (λ (l : List Node). get_or l i n) same) in
    let file : n.file < length layout.paths = subst (λ (x : Node). x.file < length layout.paths) here (low i n there) in
    subst (λ (w : List ℕ). All (λ (f : ℕ). f < length layout.paths) w) (sym is)
    (All-append (λ (f : ℕ). f < length layout.paths) (take n.depth way) (n.file ∷ []) (All-take (λ (f : ℕ). f < length layout.paths) n.depth way before)
    (All-cons (λ (f : ℕ). f < length layout.paths) n.file [] file (All-nil (λ (f : ℕ). f < length layout.paths))))

pub stacks_more : (layout : Layout) (weights : List ℕ) (ns all : List Node) (i : ℕ) (n : Node) (way new : List ℕ) (bytes : ℕ) (begun old now : Stream)
    → All (λ (x : Node). x.file < length layout.paths) ns → all ≡ ns → i < length all → n ≡ get_or all i n → new ≡ way_to way n → length new ≤ length way + 1 → bytes ≡ own weights n
    → Sends old now (stack_line layout new bytes) → AreSentTo layout weights ns i way begun old → AreSentTo layout weights ns (i + 1) new begun now
stacks_more layout weights ns all i n way new bytes begun old now low same inside at is longer weighs line h =
    let there : i < length ns = (let long = ap (λ (l : List Node). length l) same in omega (arith, inside, long)) in
    let here : get_or ns i n ≡ n = sym (at ∙ ap (λ (l : List Node). get_or l i n) same) in
    let next : drop i ns ≡ n ∷ drop (i + 1) ns = drop_more ns i n there ∙ ap (λ (x : Node). x ∷ drop (i + 1) ns) here in
    let lines : stack_line layout new bytes ≡ stack_line layout (way_to way n) (own weights n) = ap₂ (λ (w : List ℕ) (b : ℕ). stack_line layout w b) is weighs in
    record {
      text = h.text ++ stack_line layout new bytes;
      sent = sends_then begun old now h.text (stack_line layout new bytes) h.sent line;
      rest =
          append_assoc h.text (stack_line layout new bytes) (stacks_from layout weights new (drop (i + 1) ns))
          ∙ ap (λ (t : List ℕ). h.text ++ t) (ap₂ (λ (l w : List ℕ). l ++ stacks_from layout weights w (drop (i + 1) ns)) lines is ∙ sym (ap (stacks_from layout weights way) next)) ∙ h.rest;
      low = way_within layout ns all i n way new low same inside at is h.low;
      short = (let before = h.short in omega (arith, longer, before));
    }

-- all are sent
pub stacks_sent : (layout : Layout) (weights : List ℕ) (ns all : List Node) (i : ℕ) (way : List ℕ) (begun now : Stream) → all ≡ ns → length all ≤ i → AreSentTo layout weights ns i way begun now
    → Sends begun now (stacks_from layout weights [] ns)
stacks_sent layout weights ns all i way begun now same end h =
    let done : drop i ns ≡ [] = drop_all i ns (let long = ap (λ (l : List Node). length l) same in omega (arith, end, long)) in
    subst (λ (text : List ℕ). Sends begun now text) (sym (append-nil h.text) ∙ ap (λ (l : List Node). h.text ++ stacks_from layout weights way l) (sym done) ∙ h.rest) h.sent
