-- The files of the directives of documents are kept.
use Rattle.std.proofs.Common.{◌≡◌, ℕ, ◌+◌, ◌==◌, Bool, true, false, List, [], ◌∷◌, ◌++◌, Option, Some, None, cond, length, map, is_some, refl, subst}
use Rattle.std.specs.Prelude.{flat_map, slice_get, IsTrue}
use Rattle.std.specs.List.{All, cons_option}
use Rattle.std.specs.Option.{option_map_or}
use Rattle.std.proofs.lemmas.List.Elements.{All-append, All-cons, All-head, All-map, All-nil, All-tail, All-take}
use Rattle.std.proofs.lemmas.Option.{get_or_from_slice_get, slice_get_within}
use Rattle.inc_lookup.specs.declared.projects.DirectiveId.{DirectiveId}
use Rattle.inc_lookup.specs.Projects.{Layout}
use Rattle.inc_graph.specs.Cuts.{Counted, directives_of}
use Rattle.inc_graph.specs.IncludeGraph.{Edge, Graph}
use Rattle.inc_graph.specs.Reaching.{Reaching}
use Rattle.inc_graph.specs.declared.graphs.Blocker.{Blocker}
use Rattle.inc_graph.specs.declared.graphs.BlockerKind.{BlockerKind}
use Rattle.inc_answers.specs.Bounds.{first_of, left_out, more_words, shown_count}
use Rattle.inc_answers.specs.CutDocument.{chain_blocks, chains_from, cut_document, fixed_document, proof_blocks, shown_chains}
use Rattle.inc_answers.specs.TreeDocument.{branch_block, tree_document}
use Rattle.inc_cost.specs.declared.branches.Branch.{Branch}
use Rattle.inc_answers.specs.CostDocument.{below, cost_document, edge_block, edge_blocks, group_block, group_blocks, group_words, header_block, header_blocks, led_edge}
use Rattle.inc_answers.specs.CostGroups.{Costed}
use Rattle.inc_answers.specs.CostText.{Amounts, Ranked}
use Rattle.inc_answers.specs.Documents.{AreGraphKept, AreKept, Block, IsKept, Led, Place, Words, edge_places, first_places, listed, more_blocks, places}
use Rattle.inc_answers.specs.GraphDocument.{graph_document, link_block}
use Rattle.inc_answers.specs.KeptFiles.{Kept, kept_at}
use Rattle.inc_answers.specs.RulesDocument.{broken_blocks, judged_blocks, lacking_blocks, rules_document, summary_words}
use Rattle.inc_answers.specs.WhoDocument.{in_blocks, led, reaching_blocks, reaching_by, source_blocks, who_document}
use Rattle.inc_answers.specs.WhyDocument.{blocker_blocks, blocker_if, blocker_ids, is_kind, is_same, last_of, missing_blocks, missing_id, other_blocks, other_lasts, reached_by, shortest_blocks, unresolved_blocks, way_blocks, why_document, whole_way}
use Rattle.inc_graph.specs.declared.graphs.BlockerKind.TheVariants.{Computed, Foreign, Several}
use Rattle.inc_rules.specs.Judging.{Judged, is_broken}
use Rattle.inc_rules.specs.Rules.{Rule}
use Rattle.inc_answers.proofs.CutDirectives.{directives_all}

module _ (kept : Kept) where
  abbrev IsHeld : DirectiveId → Type 0
  IsHeld d = IsTrue (is_some (kept_at kept d.file))

  nothing : AreKept kept []
  nothing = All-nil (IsKept kept)

  words_first : (text : List ℕ) (bs : List Block) → AreKept kept bs → AreKept kept (Words text ∷ bs)
  words_first text bs rest = All-cons (IsKept kept) (Words text) bs tt rest

  both : (front back : List Block) → AreKept kept front → AreKept kept back → AreKept kept (front ++ back)
  both front back first second = All-append (IsKept kept) front back first second

  places_kept : (ds : List DirectiveId) → All IsHeld ds → AreKept kept (places ds)
  places_kept ds held = All-map (IsKept kept) Place ds held

  more_if : (b : Bool) (text : List ℕ) → AreKept kept (cond b [] (Words text ∷ []))
  more_if true text = nothing
  more_if false text = words_first text [] nothing

  more_kept : (n : ℕ) → AreKept kept (more_blocks n)
  more_kept n = more_if (n == 0) (more_words n)

  first_kept : (most : Option ℕ) (ds : List DirectiveId) → All IsHeld ds → AreKept kept (first_places most ds)
  first_kept most ds held =
      both (places (first_of most ds)) (more_blocks (left_out most (length ds))) (places_kept (first_of most ds) (All-take IsHeld (shown_count most (length ds)) ds held)) (more_kept _)

  listed_kept : (most : Option ℕ) (one many : List ℕ) (ds : List DirectiveId) → All IsHeld ds → AreKept kept (listed most one many ds)
  listed_kept most one many [] held = nothing
  listed_kept most one many (d ∷ ds) held = words_first _ (first_places most (d ∷ ds)) (first_kept most (d ∷ ds) held)

  module _ (g : Graph) (held : AreGraphKept g kept) where
    directives_held : (is : List ℕ) → All IsHeld (directives_of g is)
    directives_held is = directives_all g (λ (e : Edge). IsTrue (is_some (kept_at kept e.from))) IsHeld (λ e there. there) held.edges is

    edges_kept : (is : List ℕ) → AreKept kept (edge_places g is)
    edges_kept is = places_kept (directives_of g is) (directives_held is)

    ---- why

    shortest_by : (layout : Layout) (chain : List ℕ) (first : ℕ) (last : Option ℕ) → AreKept kept (reached_by layout g chain first last)
    shortest_by layout chain first None = nothing
    shortest_by layout chain first (Some last) = words_first _ (edge_places g chain) (edges_kept chain)

    shortest_kept : (layout : Layout) (chain : List ℕ) → AreKept kept (shortest_blocks layout g chain)
    shortest_kept layout [] = words_first _ [] nothing
    shortest_kept layout (i ∷ is) = shortest_by layout (i ∷ is) i (last_of (i ∷ is))

    way_if : (b : Bool) (chain : List ℕ) → AreKept kept (cond b [] (whole_way g chain))
    way_if true chain = nothing
    way_if false chain = words_first _ (edge_places g chain) (edges_kept chain)

    ways_kept : (last : Option ℕ) (chains : List (List ℕ)) → AreKept kept (flat_map (way_blocks last g) chains)
    ways_kept last [] = nothing
    ways_kept last (c ∷ cs) = both (way_blocks last g c) (flat_map (way_blocks last g) cs) (way_if (is_same (last_of c) last) c) (ways_kept last cs)

    others_kept : (all : Bool) (most last : Option ℕ) (chains : List (List ℕ)) → AreKept kept (other_blocks all most last g chains)
    others_kept true most last chains =
        both (flat_map (way_blocks last g) (first_of most chains)) (more_blocks (left_out most (length chains))) (ways_kept last (first_of most chains)) (more_kept _)
    others_kept false most last chains = listed_kept most _ _ (directives_of g (other_lasts last chains)) (directives_held (other_lasts last chains))

    missing_kept : AreKept kept (missing_blocks g.missing)
    missing_kept = listed_kept None _ _ (map missing_id g.missing) (All-map IsHeld missing_id g.missing held.missing)

    blocker_next : (o : Option DirectiveId) (ds : List DirectiveId) → ((d : DirectiveId) → o ≡ Some d → IsHeld d) → All IsHeld ds → All IsHeld (cons_option o ds)
    blocker_next None ds own rest = rest
    blocker_next (Some d) ds own rest = All-cons IsHeld d ds (own d refl) rest

    blocker_held : (b : Bool) (file line : ℕ) (d : DirectiveId) → IsTrue (is_some (kept_at kept file)) → cond b (Some (record { file = file; line = line })) None ≡ Some d → IsHeld d
    blocker_held true file line d there is = subst (λ (o : Option DirectiveId). held_if o) is there
      where
        held_if : Option DirectiveId → Type 0
        held_if None = Unit {0}
        held_if (Some x) = IsHeld x
    blocker_held false file line d there is = cc

    blockers_held : (kind : BlockerKind) (bs : List Blocker) → All (λ (b : Blocker). IsTrue (is_some (kept_at kept b.file))) bs → All IsHeld (blocker_ids kind bs)
    blockers_held kind [] all = All-nil IsHeld
    blockers_held kind (b ∷ bs) all =
        blocker_next (blocker_if kind b) (blocker_ids kind bs)
        (λ d is. blocker_held (is_kind kind b.kind) b.file b.line d (All-head (λ (x : Blocker). IsTrue (is_some (kept_at kept x.file))) b bs all) is)
        (blockers_held kind bs (All-tail (λ (x : Blocker). IsTrue (is_some (kept_at kept x.file))) b bs all))

    blocker_kept : AreKept kept (blocker_blocks g.blockers)
    blocker_kept =
        both _ _ (both _ _ (listed_kept None _ _ (blocker_ids Computed g.blockers) (blockers_held Computed g.blockers held.blockers))
        (listed_kept None _ _ (blocker_ids Foreign g.blockers) (blockers_held Foreign g.blockers held.blockers)))
        (listed_kept None _ _ (blocker_ids Several g.blockers) (blockers_held Several g.blockers held.blockers))

    unresolved_kept : (all : Bool) → AreKept kept (unresolved_blocks all g)
    unresolved_kept true = both (missing_blocks g.missing) (blocker_blocks g.blockers) missing_kept blocker_kept
    unresolved_kept false = blocker_kept

    pub why_kept : (all : Bool) (most : Option ℕ) (layout : Layout) (shortest : Option (List ℕ)) (chains : List (List ℕ)) → AreKept kept (why_document all most layout g shortest chains)
    why_kept all most layout None chains = words_first _ (unresolved_blocks all g) (unresolved_kept all)
    why_kept all most layout (Some chain) chains =
        both _ _ (both (shortest_blocks layout g chain) (other_blocks all most (last_of chain) g chains) (shortest_kept layout chain) (others_kept all most (last_of chain) chains))
        (unresolved_kept all)

    ---- who

    led_kept : (words : List ℕ) (ds : List DirectiveId) → All IsHeld ds → AreKept kept (led words ds)
    led_kept words ds all = All-map (IsKept kept) (Led words) ds all

    reaching_kept : (all : Bool) (layout : Layout) (s : ℕ) (first : Option ℕ) (chain : List ℕ) → AreKept kept (reaching_by all layout g s first chain)
    reaching_kept all layout s None chain = words_first _ [] nothing
    reaching_kept false layout s (Some i) chain = led_kept _ (directives_of g (i ∷ [])) (directives_held (i ∷ []))
    reaching_kept true layout s (Some i) chain = shortest_kept layout chain

    sources_kept : (all : Bool) (layout : Layout) (rs : List Reaching) → AreKept kept (flat_map (reaching_blocks all layout g) rs)
    sources_kept all layout [] = nothing
    sources_kept all layout (r ∷ rs) =
        both (reaching_blocks all layout g r) (flat_map (reaching_blocks all layout g) rs) (reaching_kept all layout r.source (slice_get r.chain 0) r.chain) (sources_kept all layout rs)

    bounded_kept : (all : Bool) (most : Option ℕ) (layout : Layout) (rs : List Reaching) → AreKept kept (source_blocks all most layout g rs)
    bounded_kept all most layout rs =
        both (flat_map (reaching_blocks all layout g) (first_of most rs)) (more_blocks (left_out most (length rs))) (sources_kept all layout (first_of most rs)) (more_kept _)

    pub who_kept : (all : Bool) (most : Option ℕ) (layout : Layout) (rs : List Reaching) (chains : List (List ℕ)) → AreKept kept (who_document all most layout g rs chains)
    who_kept all most layout rs chains =
        words_first _ _ (both _ _ (both (source_blocks all most layout g rs) (in_blocks most g chains) (bounded_kept all most layout rs)
        (listed_kept most _ _ (directives_of g (other_lasts None chains)) (directives_held (other_lasts None chains))))
        (unresolved_kept all))

    ---- graph

    pub links_kept : (layout : Layout) → AreKept kept (graph_document layout g)
    links_kept layout =
        words_first _ (map (link_block layout) g.edges ++ unresolved_blocks true g)
        (both (map (link_block layout) g.edges) (unresolved_blocks true g) (All-map (IsKept kept) (link_block layout) g.edges held.edges) (unresolved_kept true))

    ---- cut

    chains_kept : (number total : ℕ) (cs : List Counted) → AreKept kept (chains_from g number total cs)
    chains_kept number total [] = nothing
    chains_kept number total (c ∷ cs) =
        both (chain_blocks g number total c) (chains_from g (number + 1) total cs) (words_first _ (edge_places g c.chain) (edges_kept c.chain)) (chains_kept (number + 1) total cs)

    shown_kept : (all : Bool) (most : Option ℕ) (cs : List Counted) → AreKept kept (shown_chains all most g cs)
    shown_kept true most cs =
        both (chains_from g 1 (length cs) (first_of most cs)) (more_blocks (left_out most (length cs))) (chains_kept 1 (length cs) (first_of most cs)) (more_kept _)
    shown_kept false most cs = nothing

    pub cut_kept : (all costed : Bool) (most : Option ℕ) (layout : Layout) (set : List ℕ) (cs : List Counted) → AreKept kept (cut_document all costed most layout g set cs)
    cut_kept all costed most layout [] cs = words_first _ [] nothing
    cut_kept all costed most layout (i ∷ is) cs =
        words_first _ (edge_places g (i ∷ is) ++ proof_blocks all costed most g cs)
        (both (edge_places g (i ∷ is)) (proof_blocks all costed most g cs) (edges_kept (i ∷ is)) (words_first _ (shown_chains all most g cs) (shown_kept all most cs)))

    pub fixed_kept : (layout : Layout) (chain : List ℕ) → AreKept kept (fixed_document layout g chain)
    fixed_kept layout [] = words_first _ [] nothing
    fixed_kept layout (i ∷ is) = words_first _ (edge_places g (i ∷ is)) (edges_kept (i ∷ is))

    ---- rules

    lacking_kept : (layout : Layout) (r : Rule) (files : List ℕ) → AreKept kept (lacking_blocks layout r files)
    lacking_kept layout r [] = nothing
    lacking_kept layout r (f ∷ fs) = words_first _ (lacking_blocks layout r fs) (lacking_kept layout r fs)

    each_kept : (chains : List (List ℕ)) → AreKept kept (flat_map (edge_places g) chains)
    each_kept [] = nothing
    each_kept (c ∷ cs) = both (edge_places g c) (flat_map (edge_places g) cs) (edges_kept c) (each_kept cs)

    broken_kept : (name : List ℕ) (layout : Layout) (j : Judged) → AreKept kept (broken_blocks name layout g j)
    broken_kept name layout j =
        words_first _ (flat_map (edge_places g) j.chains ++ lacking_blocks layout j.rule j.files)
        (both (flat_map (edge_places g) j.chains) (lacking_blocks layout j.rule j.files) (each_kept j.chains) (lacking_kept layout j.rule j.files))

    judged_if : (b : Bool) (name : List ℕ) (layout : Layout) (j : Judged) → AreKept kept (cond b (broken_blocks name layout g j) [])
    judged_if true name layout j = broken_kept name layout j
    judged_if false name layout j = nothing

    judged_kept : (name : List ℕ) (layout : Layout) (js : List Judged) → AreKept kept (flat_map (judged_blocks name layout g) js)
    judged_kept name layout [] = nothing
    judged_kept name layout (j ∷ js) =
        both (judged_blocks name layout g j) (flat_map (judged_blocks name layout g) js) (judged_if (is_broken j) name layout j) (judged_kept name layout js)

    pub rules_kept : (name : List ℕ) (layout : Layout) (js : List Judged) → AreKept kept (rules_document name layout g js)
    rules_kept name layout js =
        both (flat_map (judged_blocks name layout g) js) (Words (summary_words js) ∷ unresolved_blocks true g) (judged_kept name layout js)
        (words_first _ (unresolved_blocks true g) (unresolved_kept true))

    ---- cost

    below_kept : (words places : List ℕ) (blocks : List Block) → AreKept kept blocks → AreKept kept (below words places blocks)
    below_kept words [] blocks all = nothing
    below_kept words (i ∷ is) blocks all = words_first _ blocks all

    cost_headers_kept : (layout : Layout) (a : Amounts) (headers : List ℕ) → AreKept kept (flat_map (header_block layout a) headers)
    cost_headers_kept layout a [] = nothing
    cost_headers_kept layout a (f ∷ fs) = words_first _ (flat_map (header_block layout a) fs) (cost_headers_kept layout a fs)

    group_if : (o : Option Costed) → AreKept kept (option_map_or (λ (c : Costed). Words (group_words c) ∷ []) o [])
    group_if None = nothing
    group_if (Some c) = words_first _ [] nothing

    groups_kept : (cs : List Costed) (places : List ℕ) → AreKept kept (flat_map (group_block cs) places)
    groups_kept cs [] = nothing
    groups_kept cs (i ∷ is) = both (group_block cs i) (flat_map (group_block cs) is) (group_if (slice_get cs i)) (groups_kept cs is)

    branches_kept : (layout : Layout) (bs : List Branch) → AreKept kept (map (branch_block layout) bs)
    branches_kept layout [] = nothing
    branches_kept layout (b ∷ bs) = words_first _ (map (branch_block layout) bs) (branches_kept layout bs)

    pub tree_kept : (layout : Layout) (total : ℕ) (bs : List Branch) → AreKept kept (tree_document layout g total bs)
    tree_kept layout total bs =
        words_first _ (map (branch_block layout) bs ++ unresolved_blocks true g)
        (both (map (branch_block layout) bs) (unresolved_blocks true g) (branches_kept layout bs) (unresolved_kept true))

    cost_edge_kept : (words : List ℕ) (i : ℕ) (o : Option Edge) → slice_get g.edges i ≡ o → AreKept kept (option_map_or (led_edge words) o [])
    cost_edge_kept words i None is = nothing
    cost_edge_kept words i (Some e) is =
        All-cons (IsKept kept) (Led words (record { file = e.from; line = e.line })) []
        (subst (λ (x : Edge). IsTrue (is_some (kept_at kept x.from))) (get_or_from_slice_get g.edges i e e is) (held.edges i e (slice_get_within g.edges i e is))) nothing

    cost_edges_kept : (a : Amounts) (is : List ℕ) → AreKept kept (flat_map (edge_block g a) is)
    cost_edges_kept a [] = nothing
    cost_edges_kept a (i ∷ is) =
        both (edge_block g a i) (flat_map (edge_block g a) is) (cost_edge_kept _ i (slice_get g.edges i) refl) (cost_edges_kept a is)

    pub cost_kept : (layout : Layout) (r : Ranked) → AreKept kept (cost_document layout g r)
    cost_kept layout r =
        let headers = header_blocks layout r.brought r.headers in
        let groups = group_blocks r.costed r.groups in
        let edges = edge_blocks g r.saved r.edges in
        words_first _ (headers ++ groups ++ edges ++ unresolved_blocks true g)
        (both (headers ++ groups ++ edges) (unresolved_blocks true g)
        (both (headers ++ groups) edges
        (both headers groups (below_kept _ r.headers (flat_map (header_block layout r.brought) r.headers) (cost_headers_kept layout r.brought r.headers))
        (below_kept _ r.groups (flat_map (group_block r.costed) r.groups) (groups_kept r.costed r.groups)))
        (below_kept _ r.edges (flat_map (edge_block g r.saved) r.edges) (cost_edges_kept r.saved r.edges)))
        (unresolved_kept true))
