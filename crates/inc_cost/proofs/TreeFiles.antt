-- The files of a tree: those that the source reaches, each once.
use Rattle.std.proofs.Common.{◌≡◌, ℕ, zero, suc, ◌+◌, ◌<◌, true, false, ◌||◌, List, [], ◌∷◌, ◌++◌, Some, All, get_or, length, filter, not, take, inl, inr, refl, sym, ap, ap₂, ◌∙◌, subst, arith}
use Rattle.std.specs.Prelude.{◌==◌, ◌⊎◌, slice_get}
use Rattle.std.specs.Option.{option_map_or}
use Rattle.std.proofs.lemmas.Bool.{and_parts, cases_Bool, or_cases, or_left, or_right, eq-eqb, eqb-true, false≢true}
use Rattle.std.proofs.lemmas.List.{flat_map_more, map-append, take_more}
use Rattle.std.proofs.lemmas.List.Elements.{All-cons, All-nil}
use Rattle.std.proofs.lemmas.List.Folds.{list_any-append}
use Rattle.std.proofs.lemmas.Option.{none-some, same_Some}
use Rattle.inc_graph.specs.declared.graphs.Edge as declared
use Rattle.inc_graph.specs.IncludeGraph.{Edge, Graph, IsSound}
use Rattle.inc_graph.specs.Chains.{target, leaves, is_walk}
use Rattle.inc_graph.specs.Indexes.{edges_leaving}
use Rattle.inc_graph.specs.Members.{is_member}
use Rattle.inc_graph.specs.Views.{seen_edge}
use Rattle.inc_graph.proofs.LeavingEdges.{leaving_at, passing_at}
use Rattle.inc_graph.proofs.Members.{member_at, member_place, only_member}
use Rattle.inc_graph.proofs.NumberedEdges.{with_number}
use Rattle.inc_graph.proofs.Walks.{inner_edge, leaving_edge, walk_push}
use Rattle.inc_cost.specs.Costs.{IsReachedWithout}
use Rattle.inc_cost.specs.Shares.{AreListed}
use Rattle.inc_cost.specs.Trees.{IsWalking, Walk, child, children, files_in, forest, is_met, steps_left, tree_of, walked}
use Rattle.inc_cost.specs.declared.trees.Node.{Node}
use Rattle.inc_cost.proofs.ListedFiles.{reached_by}
use Rattle.inc_cost.proofs.ReachedFiles.{map_at, map_from}
use Rattle.inc_cost.proofs.TreeLemmas.{met_there, steps_into, steps_past, walked_end, walked_into, walked_past}
use Rattle.inc_cost.proofs.TreeSteps.{tree_ended}
use Rattle.inc_cost.proofs.Weighing.{IsOnce}

---- files that are in one of two lists

pub met_append : (xs ys : List Node) (f : ℕ) → is_met (xs ++ ys) f ≡ (is_met xs f || is_met ys f)
met_append xs ys f = ap (is_member f) (map-append (λ (x : Node). x.file) xs ys) ∙ list_any-append (λ m. m == f) (files_in xs) (files_in ys)

met_first : (xs ys : List Node) (f : ℕ) → is_met xs f ≡ true → is_met (xs ++ ys) f ≡ true
met_first xs ys f is = met_append xs ys f ∙ or_left (is_met xs f) (is_met ys f) is

met_second : (xs ys : List Node) (f : ℕ) → is_met ys f ≡ true → is_met (xs ++ ys) f ≡ true
met_second xs ys f is = met_append xs ys f ∙ or_right (is_met xs f) (is_met ys f) is

pub met_either : (xs ys : List Node) (f : ℕ) → is_met (xs ++ ys) f ≡ true → (is_met xs f ≡ true) ⊎ (is_met ys f ≡ true)
met_either xs ys f is = or_cases (is_met xs f) (is_met ys f) (sym (met_append xs ys f) ∙ is)

-- the first is in a list
pub met_head : (n : Node) (ns : List Node) → is_met (n ∷ ns) n.file ≡ true
met_head n ns = or_left (n.file == n.file) (is_met ns n.file) (eq-eqb n.file n.file refl)

pub met_tail : (n : Node) (ns : List Node) (f : ℕ) → is_met ns f ≡ true → is_met (n ∷ ns) f ≡ true
met_tail n ns f is = or_right (n.file == f) (is_met ns f) is

---- children

-- an edge that leaves a file leads to one of its children
child_met : (g : Graph) (w : Node) (i : ℕ) → leaves g w.file i ≡ true → is_met (children g w) (target g i) ≡ true
child_met g w i leads =
    let e = leaving_edge g w.file i _ refl leads in
    let there = passing_at (λ (d : declared.Edge). d.from == w.file) 0 g.edges i i e.0 (omega arith) e.1 (eq-eqb e.0.from w.file e.2) in
    let node = map_at (child w.depth) (edges_leaving g.edges w.file) there.0 (with_number i e.0) there.1 in
    let file = map_at (λ (n : Node). n.file) (children g w) there.0 (child w.depth (with_number i e.0)) node in
    let to : target g i ≡ e.0.to = ap (λ o. option_map_or (λ (x : Edge). x.to) o 0) e.1 in
    member_at (files_in (children g w)) there.0 (target g i) (file ∙ ap (λ (x : ℕ). Some x) (sym to))

-- and each child is that of such an edge
met_child : (g : Graph) (w : Node) (f : ℕ) → is_met (children g w) f ≡ true → (i : ℕ) × (leaves g w.file i ≡ true) × (target g i ≡ f) × ((x : Edge) × (slice_get g.edges i ≡ Some x) × (x.to ≡ f))
met_child g w f met =
    let k = member_place (files_in (children g w)) f met in
    let n = map_from (λ (x : Node). x.file) (children g w) k.0 f k.1 in
    let e = map_from (child w.depth) (edges_leaving g.edges w.file) k.0 n.0 n.1 in
    let at = leaving_at g w.file k.0 e.0 e.1 in
    let to : e.0.to ≡ f = ap (λ (x : Node). x.file) e.2 ∙ n.2 in (
      e.0.id,
      ap (λ o. option_map_or (λ (x : Edge). x.from == w.file) o false) at.0 ∙ eq-eqb e.0.from w.file at.1,
      ap (λ o. option_map_or (λ (x : Edge). x.to) o 0) at.0 ∙ to,
      (seen_edge e.0, at.0, to),
    )

---- what holds of each step

record IsPart (g : Graph) (source : ℕ) (tree waiting : List Node) : Type 0 where
  pub once : IsOnce (files_in tree)
  pub low : (f : ℕ) → is_met (tree ++ waiting) f ≡ true → f < g.files
  pub into : (f : ℕ) → is_met (tree ++ waiting) f ≡ true → IsReachedWithout g [] source f
  pub closed : (f i : ℕ) → is_met tree f ≡ true → leaves g f i ≡ true → is_met (tree ++ waiting) (target g i) ≡ true
  pub begun : is_met (tree ++ waiting) source ≡ true

-- a list without its middle, which is in it before
met_without : (xs ys : List Node) (w : Node) (f : ℕ) → is_met xs w.file ≡ true → is_met (xs ++ w ∷ ys) f ≡ true → is_met (xs ++ ys) f ≡ true
met_without xs ys w f there is = elim (met_either xs (w ∷ ys) f is) [
  | inl first ↦ met_first xs ys f first
  | inr second ↦ elim (or_cases (w.file == f) (is_met ys f) second) [
    | inl here ↦ met_first xs ys f (ap (is_met xs) (sym (eqb-true w.file f here)) ∙ there)
    | inr later ↦ met_second xs ys f later
  ]
]

met_with : (xs ys : List Node) (w : Node) (f : ℕ) → is_met (xs ++ ys) f ≡ true → is_met (xs ++ w ∷ ys) f ≡ true
met_with xs ys w f is = elim (met_either xs ys f is) [
  | inl first ↦ met_first xs (w ∷ ys) f first
  | inr second ↦ met_second xs (w ∷ ys) f (met_tail w ys f second)
]

part_past : (g : Graph) (source : ℕ) (tree : List Node) (w : Node) (ws : List Node) → is_met tree w.file ≡ true → IsPart g source tree (w ∷ ws) → IsPart g source tree ws
part_past g source tree w ws met h = record {
  once = h.once;
  low = λ f is. h.low f (met_with tree ws w f is);
  into = λ f is. h.into f (met_with tree ws w f is);
  closed = λ f i is leads. met_without tree ws w (target g i) met (h.closed f i is leads);
  begun = met_without tree ws w source met h.begun;
}

-- one more file at the end, which is not there
once_push : (fs : List ℕ) (x : ℕ) → IsOnce fs → is_member x fs ≡ false → IsOnce (fs ++ x ∷ [])
once_push fs x once out j k f at also =
    let a = either fs j f at in
    let b = either fs k f also in
    elim a [
      | inl inside ↦ elim b [
        | inl inside' ↦ once j k f inside inside'
        | inr last ↦ absurd (false≢true (sym out ∙ ap (λ (y : ℕ). is_member y fs) (sym last.1) ∙ member_at fs j f inside))
      ]
      | inr last ↦ elim b [
        | inl inside ↦ absurd (false≢true (sym out ∙ ap (λ (y : ℕ). is_member y fs) (sym last.1) ∙ member_at fs k f inside))
        | inr last' ↦ last.0 ∙ sym last'.0
      ]
    ]
  where
    either : (ys : List ℕ) (j f : ℕ) → slice_get (ys ++ x ∷ []) j ≡ Some f → (slice_get ys j ≡ Some f) ⊎ ((j ≡ length ys) × (f ≡ x))
    either [] zero f at = inr (refl, sym (same_Some x f at))
    either [] (suc j) f at = absurd (none-some f at)
    either (y ∷ ys) zero f at = inl at
    either (y ∷ ys) (suc j) f at = elim (either ys j f at) [ inl inside ↦ inl inside | inr last ↦ inr (ap suc last.0, last.1) ]

part_into : (g : Graph) (source : ℕ) (tree : List Node) (w : Node) (ws : List Node) → IsSound g → is_met tree w.file ≡ false → IsPart g source tree (w ∷ ws)
    → IsPart g source (tree ++ w ∷ []) (children g w ++ ws)
part_into g source tree w ws sound out h =
    let grown : (f : ℕ) → is_met (tree ++ w ∷ ws) f ≡ true → is_met ((tree ++ w ∷ []) ++ (children g w ++ ws)) f ≡ true =
    λ f is. elim (met_either tree (w ∷ ws) f is) [
      | inl first ↦ met_first (tree ++ w ∷ []) (children g w ++ ws) f (met_first tree (w ∷ []) f first)
      | inr second ↦ elim (or_cases (w.file == f) (is_met ws f) second) [
        | inl here ↦ met_first (tree ++ w ∷ []) (children g w ++ ws) f (met_there tree w f (eqb-true w.file f here))
        | inr later ↦ met_second (tree ++ w ∷ []) (children g w ++ ws) f (met_second (children g w) ws f later)
      ]
    ] in
    let there : is_met (tree ++ w ∷ ws) w.file ≡ true = met_second tree (w ∷ ws) w.file (met_head w ws) in
    let came : (f : ℕ) → is_met ((tree ++ w ∷ []) ++ (children g w ++ ws)) f ≡ true → (is_met (tree ++ w ∷ ws) f ≡ true) ⊎ (is_met (children g w) f ≡ true) =
    λ f is. elim (met_either (tree ++ w ∷ []) (children g w ++ ws) f is) [
      | inl first ↦ elim (met_either tree (w ∷ []) f first) [
        | inl before ↦ inl (met_first tree (w ∷ ws) f before)
        | inr here ↦ inl (ap (is_met (tree ++ w ∷ ws)) (sym (only_member w.file f here)) ∙ there)
      ]
      | inr second ↦ elim (met_either (children g w) ws f second) [
        | inl below ↦ inr below
        | inr later ↦ inl (met_second tree (w ∷ ws) f (met_tail w ws f later))
      ]
    ] in
    record {
      once = subst IsOnce (sym (map-append (λ (x : Node). x.file) tree (w ∷ []))) (once_push (files_in tree) w.file h.once out);
      low = λ f is. elim (came f is) [
        | inl before ↦ h.low f before
        | inr below ↦
            let c = met_child g w f below in
            let inner = (inner_edge g c.0 c.3.0 sound c.3.1).to_within in
            let to = c.3.2 in
            omega arith
      ];
      into = λ f is. elim (came f is) [
        | inl before ↦ h.into f before
        | inr below ↦
            let c = met_child g w f below in
            let walk = h.into w.file there in
            reached_by g source f (walk.0 ++ c.0 ∷ []) (subst (λ (x : ℕ). is_walk g source (walk.0 ++ c.0 ∷ []) x ≡ true) c.2 (walk_push g source walk.0 w.file c.0 walk.1 c.1))
      ];
      closed = λ f i is leads. elim (met_either tree (w ∷ []) f is) [
        | inl before ↦ grown (target g i) (h.closed f i before leads)
        | inr here ↦
            met_second (tree ++ w ∷ []) (children g w ++ ws) (target g i)
            (met_first (children g w) ws (target g i) (child_met g w i (subst (λ (x : ℕ). leads_from g x i) (sym (only_member w.file f here)) leads)))
      ];
      begun = grown source h.begun;
    }
  where
    leads_from : Graph → ℕ → ℕ → Type 0
    leads_from g' x i = leaves g' x i ≡ true

---- all steps

-- where nothing waits, the files of the tree are those that the source reaches
walk_met : (g : Graph) (source : ℕ) (tree : List Node) → IsPart g source tree [] → (walk : List ℕ) (a b : ℕ) → is_met (tree ++ []) a ≡ true → is_walk g a walk b ≡ true → is_met (tree ++ []) b ≡ true
walk_met g source tree h [] a b here real = ap (is_met (tree ++ [])) (sym (eqb-true a b real)) ∙ here
walk_met g source tree h (i ∷ is) a b here real =
    let steps = and_parts (leaves g a i) (is_walk g (target g i) is b) real in
    let inside : is_met tree a ≡ true = elim (met_either tree [] a here) [ inl is' ↦ is' | inr never ↦ absurd (false≢true never) ] in
    walk_met g source tree h is (target g i) b (h.closed a i inside steps.0) steps.1

part_end : (g : Graph) (source : ℕ) (tree : List Node) → IsPart g source tree [] → AreListed g source (files_in tree)
part_end g source tree h = record {
  once = h.once;
  low = λ f is. h.low f (met_first tree [] f is);
  into = λ f is. h.into f (met_first tree [] f is);
  from = λ f w. elim (met_either tree [] f (walk_met g source tree h w.0 source f h.begun w.1)) [ inl is ↦ is | inr never ↦ absurd (false≢true never) ];
}

listed_after : (g : Graph) (source n : ℕ) (tree waiting : List Node) → IsSound g → n ≡ steps_left g tree waiting → IsPart g source tree waiting → AreListed g source (files_in (walked g n tree waiting))
listed_after g source n tree [] sound is h = subst (λ (t : List Node). AreListed g source (files_in t)) (sym (walked_end g n tree)) (part_end g source tree h)
listed_after g source zero tree (w ∷ ws) sound is h = let more = steps_past g tree w ws in absurd (omega arith)
listed_after g source (suc n) tree (w ∷ ws) sound is h = elim (cases_Bool (is_met tree w.file)) [
  | inl met ↦
      let steps = steps_past g tree w ws in
      subst (λ (t : List Node). AreListed g source (files_in t)) (sym (walked_past g n tree w ws met))
      (listed_after g source n tree ws sound (omega arith) (part_past g source tree w ws met h))
  | inr out ↦
      let steps = steps_into g tree w ws out in
      subst (λ (t : List Node). AreListed g source (files_in t)) (sym (walked_into g n tree w ws out))
      (listed_after g source n (tree ++ w ∷ []) (children g w ++ ws) sound (omega arith) (part_into g source tree w ws sound out h))
]

part_begun : (g : Graph) (source : ℕ) → source < g.files → IsPart g source [] (record { file = source; depth = 0 } ∷ [])
part_begun g source low = record {
  once = λ j k f at also. absurd (none-some f at);
  low = λ f is. let same = only_member source f is in omega arith;
  into = λ f is. reached_by g source f [] (eq-eqb source f (only_member source f is));
  closed = λ f i is leads. absurd (false≢true is);
  begun = met_head (record { file = source; depth = 0 }) [];
}

pub tree_listed : (g : Graph) (source : ℕ) → IsSound g → source < g.files → AreListed g source (files_in (tree_of g source))
tree_listed g source sound low =
    listed_after g source (suc (length g.edges)) [] (record { file = source; depth = 0 } ∷ []) sound (let all = all_left g.edges in omega arith) (part_begun g source low)
  where
    all_left : (es : List Edge) → length (filter (λ (e : Edge). not (is_met [] e.from)) es) ≡ length es
    all_left [] = refl
    all_left (e ∷ es) = ap suc (all_left es)

pub listed_ended : (g : Graph) (source : ℕ) (w : Walk) → IsSound g → source < g.files → IsWalking g source w → w.waiting ≡ [] → AreListed g source (files_in w.tree)
listed_ended g source w sound low h none =
    subst (λ (ns : List Node). AreListed g source (files_in ns)) (sym (tree_ended g source w h none)) (tree_listed g source sound low)

---- what the files of a tree and of trees are

low_files : (most : ℕ) (ns : List Node) → ((f : ℕ) → is_met ns f ≡ true → f < most) → All (λ (n : Node). n.file < most) ns
low_files most [] low = All-nil (λ (n : Node). n.file < most)
low_files most (n ∷ ns) low =
    All-cons (λ (x : Node). x.file < most) n ns (low n.file (met_head n ns)) (low_files most ns (λ f is. low f (met_tail n ns f is)))

pub tree_within : (g : Graph) (source : ℕ) (ns : List Node) → AreListed g source (files_in ns) → All (λ (n : Node). n.file < g.files) ns
tree_within g source ns listed = low_files g.files ns listed.low

-- one more tree
pub forest_more : (g : Graph) (sources all : List ℕ) (i source : ℕ) (old new tree : List Node) → all ≡ sources → i < length sources → source ≡ get_or all i source
    → old ≡ forest g (take i sources) → tree ≡ tree_of g source → new ≡ old ++ tree → new ≡ forest g (take (i + 1) sources)
forest_more g sources all i source old new tree same low at before is more =
    let here : get_or sources i source ≡ source = sym (at ∙ ap (λ (ss : List ℕ). get_or ss i source) same) in
    more ∙ ap₂ (λ (a b : List Node). a ++ b) before is ∙ flat_map_more (tree_of g) [] (take i sources) source
    ∙ ap (forest g) (ap (λ (s : ℕ). take i sources ++ s ∷ []) (sym here) ∙ sym (take_more sources i source low))
