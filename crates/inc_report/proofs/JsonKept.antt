-- Objects of JSON about a graph are the same for all who agree on what its directives are.
use Rattle.std.proofs.Common.{◌≡◌, ◌∙◌, ℕ, ◌<◌, Bool, true, false, List, [], ◌∷◌, ◌++◌, Option, Some, None, ap, ap₂, codes, cond, get_or, length, map, refl, subst, sym}
use Rattle.std.specs.Prelude.{bytes_eq, decimal, filter, fold, option_map, slice_get}
use Rattle.std.specs.List.{All}
use Rattle.std.specs.Option.{option_map_or}
use Rattle.std.proofs.lemmas.List.Elements.{All-cons, All-head, All-nil, All-tail}
use Rattle.std.proofs.lemmas.Option.{get_or_from_slice_get, slice_get_within}
use Rattle.inc_directive.specs.LineKinds.{LineKind}
use Rattle.inc_lookup.specs.declared.projects.DirectiveId.{DirectiveId}
use Rattle.inc_lookup.specs.Projects.{Layout, path_at}
use Rattle.inc_graph.specs.Cuts.{Counted, total_count}
use Rattle.inc_graph.specs.IncludeGraph.{Edge, Graph}
use Rattle.inc_graph.specs.MissingLists.{Missing}
use Rattle.inc_graph.specs.Reaching.{Reaching}
use Rattle.inc_graph.specs.declared.graphs.Blocker.{Blocker}
use Rattle.inc_answers.specs.TreeJson.{branch_item, tree_json}
use Rattle.inc_cost.specs.declared.branches.Branch.{Branch}
use Rattle.inc_answers.specs.CostJson.{bytes_text, cost_json, count_member, edge_item, group_item, header_item}
use Rattle.inc_answers.specs.CostText.{Amounts, Ranked}
use Rattle.inc_answers.specs.JsonAnswers.{About, blocked_text, blocker_text, blockers_text, chain_if, chains_text, counted_item, counted_text, cut_json, edge_text, edges_text, file_member, files_text, fixed_json, found_text, from_text, front_text, graph_json, links_text, missing_item, missing_text, named_form, names_text, numbered_text, place_text, sets_ends, shortest_text, source_item, sources_text, status_text, to_text, who_json, why_ends, why_json}
use Rattle.inc_answers.specs.JsonDirectives.{directive_text}
use Rattle.inc_answers.specs.JsonTexts.{bytes_member, list_of, number_member}
use Rattle.inc_rules.specs.RuleTexts.{joined}
use Rattle.inc_answers.specs.RulesJson.{broken_item, broken_items, rules_json}
use Rattle.inc_rules.specs.Judging.{Judged, is_broken}
use Rattle.inc_answers.specs.declared.outcome.EndKind.{EndKind}
use Rattle.inc_answers.specs.MissingNames.{MissingName, counted_once_more, first_named, missing_names, spelled, with_missing}

-- functions that agree on elements give one list
map_same : {X Y : Type 0} (f h : X → Y) (xs : List X) → All (λ x. f x ≡ h x) xs → map f xs ≡ map h xs
map_same f h [] all = refl
map_same f h (x ∷ xs) all = ap₂ (λ y ys. y ∷ ys) (All-head (λ z. f z ≡ h z) x xs all) (map_same f h xs (All-tail (λ z. f z ≡ h z) x xs all))

each_same : {X Y : Type 0} (f h : X → Y) (xs : List X) → ((x : X) → f x ≡ h x) → map f xs ≡ map h xs
each_same f h [] all = refl
each_same f h (x ∷ xs) all = ap₂ (λ y ys. y ∷ ys) (all x) (each_same f h xs all)

---- what holds of directives holds of the first with each name

module _ (P : ℕ → ℕ → Type 0) where
  abbrev pub OfName : MissingName → Type 0
  OfName n = P n.file n.line

  abbrev pub OfMissing : Missing → Type 0
  OfMissing m = P m.file m.line

  by_test : (b : Bool) (n : MissingName) (ns others : List MissingName) → All OfName (n ∷ ns) → All OfName others → All OfName (cond b (counted_once_more n ∷ ns) (n ∷ others))
  by_test true n ns others all rest = All-cons OfName (counted_once_more n) ns (All-head OfName n ns all) (All-tail OfName n ns all)
  by_test false n ns others all rest = All-cons OfName n others (All-head OfName n ns all) rest

  with_one : (ns : List MissingName) (m : Missing) → All OfName ns → OfMissing m → All OfName (with_missing ns m)
  with_one [] m all own = All-cons OfName (first_named m) [] own (All-nil OfName)
  with_one (n ∷ ns) m all own =
      by_test (bytes_eq (spelled m.header) (spelled n.header)) n ns (with_missing ns m) all (with_one ns m (All-tail OfName n ns all) own)

  with_each : (ns : List MissingName) (ms : List Missing) → All OfName ns → All OfMissing ms → All OfName (fold with_missing ns ms)
  with_each ns [] all own = all
  with_each ns (m ∷ ms) all own = with_each (with_missing ns m) ms (with_one ns m all (All-head OfMissing m ms own)) (All-tail OfMissing m ms own)

  pub names_all : (ms : List Missing) → All OfMissing ms → All OfName (missing_names ms)
  names_all ms own = with_each [] ms (All-nil OfName) own

---- two that agree on the directives of a graph

module _ (layout : Layout) (g : Graph) (k l : DirectiveId → LineKind) where
  abbrev by : (DirectiveId → LineKind) → About
  by kind = record { layout = layout; graph = g; kind = kind }

  -- they agree on a directive
  abbrev pub IsSame : (file line : ℕ) → Type 0
  IsSame file line = k (record { file = file; line = line }) ≡ l (record { file = file; line = line })

  -- they agree on those of the graph
  pub record AreSame : Type 0 where
    pub edges : All (λ (e : Edge). IsSame e.from e.line) g.edges
    pub missing : All (λ (m : Missing). IsSame m.file m.line) g.missing
    pub blockers : All (λ (b : Blocker). IsSame b.file b.line) g.blockers

  place_same : (file line : ℕ) (to : Option ℕ) → IsSame file line → place_text (by k) (record { file = file; line = line }) to ≡ place_text (by l) (record { file = file; line = line }) to
  place_same file line to same = ap (λ (kind : LineKind). directive_text kind line (path_at layout file) (option_map (path_at layout) to)) same

  pub items_same : (bs : List Blocker) → All (λ (b : Blocker). IsSame b.file b.line) bs → map (blocker_text (by k)) bs ≡ map (blocker_text (by l)) bs
  items_same bs all = map_same (blocker_text (by k)) (blocker_text (by l)) bs (λ i b low. place_same (get_or bs i b).file (get_or bs i b).line None (all i b low))

  blockers_same : (bs : List Blocker) → All (λ (b : Blocker). IsSame b.file b.line) bs → blockers_text (by k) bs ≡ blockers_text (by l) bs
  blockers_same bs all = ap list_of (items_same bs all)

  module _ (same : AreSame) where
    numbered_same : (i : ℕ) → numbered_text (by k) i ≡ numbered_text (by l) i
    numbered_same i = by_edge (slice_get g.edges i) refl
      where
        by_edge : (o : Option Edge) → slice_get g.edges i ≡ o → option_map_or (edge_text (by k)) o [] ≡ option_map_or (edge_text (by l)) o []
        by_edge None is = refl
        by_edge (Some e) is =
            place_same e.from e.line (Some e.to)
            (subst (λ (x : Edge). IsSame x.from x.line) (get_or_from_slice_get g.edges i e e is) (same.edges i e (slice_get_within g.edges i e is)))

    edges_same : (is : List ℕ) → edges_text (by k) is ≡ edges_text (by l) is
    edges_same is = ap list_of (each_same (numbered_text (by k)) (numbered_text (by l)) is numbered_same)

    chains_same : (chains : List (List ℕ)) → chains_text (by k) chains ≡ chains_text (by l) chains
    chains_same chains = ap list_of (each_same (edges_text (by k)) (edges_text (by l)) chains edges_same)

    name_same : (n : MissingName) → IsSame n.file n.line → missing_item (by k) n ≡ missing_item (by l) n
    name_same n is =
        ap (λ (place : List ℕ). codes "{" ++ number_member (codes "count") n.count ++ codes ",\"first\":" ++ place ++ named_form n.header.form
        ++ bytes_member (codes "name") n.header.name ++ codes "}") (place_same n.file n.line None is)

    missing_same : missing_text (by k) ≡ missing_text (by l)
    missing_same =
        let names : List MissingName = missing_names g.missing in
        let all = names_all IsSame g.missing same.missing in
        ap list_of (map_same (missing_item (by k)) (missing_item (by l)) names (λ i n low. name_same (get_or names i n) (all i n low)))

    front_same : (command : List ℕ) (chains : List (List ℕ)) → front_text command (by k) chains ≡ front_text command (by l) chains
    front_same command chains =
        ap₂ (λ (blocked chains : List ℕ). codes "{\"blocked\":" ++ blocked ++ codes ",\"chains\":" ++ chains ++ codes ",\"command\":\"" ++ command
        ++ codes "\",\"format\":1,") (blockers_same g.blockers same.blockers) (chains_same chains)

    shortest_same : (shortest : Option (List ℕ)) → shortest_text (by k) shortest ≡ shortest_text (by l) shortest
    shortest_same None = refl
    shortest_same (Some chain) = edges_same chain

    found_same : (shortest : Option (List ℕ)) → found_text (by k) shortest ≡ found_text (by l) shortest
    found_same shortest =
        ap₂ (λ (missing chain : List ℕ). codes ",\"missing\":" ++ missing ++ codes ",\"shortest\":" ++ chain) missing_same (shortest_same shortest)

    sets_same : (kind : EndKind) (shortest : Option (List ℕ)) → sets_ends kind (by k) shortest ≡ sets_ends kind (by l) shortest
    sets_same kind shortest = ap (λ (found : List ℕ). from_text (by k) ++ found ++ status_text kind ++ codes "," ++ to_text (by k) ++ codes "}\n") (found_same shortest)

    ends_same : (kind : EndKind) (ss ts : List ℕ) (shortest : Option (List ℕ)) → why_ends kind (by k) ss ts shortest ≡ why_ends kind (by l) ss ts shortest
    ends_same kind [] ts shortest = sets_same kind shortest
    ends_same kind (s ∷ []) [] shortest = sets_same kind shortest
    ends_same kind (s ∷ []) (t ∷ []) shortest =
        ap (λ (found : List ℕ). file_member (codes "header") (by k) t ++ found ++ codes "," ++ file_member (codes "source") (by k) s ++ status_text kind ++ codes "}\n") (found_same shortest)
    ends_same kind (s ∷ []) (t ∷ u ∷ ts) shortest = sets_same kind shortest
    ends_same kind (s ∷ r ∷ ss) ts shortest = sets_same kind shortest

    pub why_same : (kind : EndKind) (shortest : Option (List ℕ)) (chains : List (List ℕ)) → why_json kind (by k) shortest chains ≡ why_json kind (by l) shortest chains
    why_same kind shortest chains =
        ap₂ (λ (front ends : List ℕ). front ++ ends) (front_same (codes "why") chains) (ends_same kind g.sources g.headers shortest)

    chain_same : (all : Bool) (chain : List ℕ) → chain_if all (by k) chain ≡ chain_if all (by l) chain
    chain_same true chain = ap (λ (text : List ℕ). codes "\"chain\":" ++ text ++ codes ",") (edges_same chain)
    chain_same false chain = refl

    source_same : (all : Bool) (r : Reaching) → source_item all (by k) r ≡ source_item all (by l) r
    source_same all r =
        ap (λ (chain : List ℕ). codes "{" ++ chain ++ number_member (codes "length") (length r.chain) ++ codes "," ++ file_member (codes "path") (by k) r.source ++ codes "}")
        (chain_same all r.chain)

    sources_same : (all : Bool) (rs : List Reaching) → sources_text all (by k) rs ≡ sources_text all (by l) rs
    sources_same all rs = ap list_of (each_same (source_item all (by k)) (source_item all (by l)) rs (source_same all))

    who_ends : (kind : EndKind) → (front missing sources : List ℕ) → List ℕ
    who_ends kind front missing sources =
        front ++ from_text (by k) ++ codes ",\"missing\":" ++ missing ++ codes ",\"sources\":" ++ sources ++ status_text kind ++ codes "," ++ to_text (by k) ++ codes "}\n"

    pub who_same : (kind : EndKind) (all : Bool) (rs : List Reaching) (chains : List (List ℕ)) → who_json kind all (by k) rs chains ≡ who_json kind all (by l) rs chains
    unfolding who_ends
    who_same kind all rs chains =
        ap₂ (λ (front missing : List ℕ). who_ends kind front missing (sources_text all (by k) rs)) (front_same (codes "who") chains) missing_same
        ∙ ap (who_ends kind (front_text (codes "who") (by l) chains) (missing_text (by l))) (sources_same all rs)

    links_same : links_text (by k) g.edges ≡ links_text (by l) g.edges
    links_same =
        ap list_of (map_same (edge_text (by k)) (edge_text (by l)) g.edges (λ i e low. place_same (get_or g.edges i e).from (get_or g.edges i e).line (Some (get_or g.edges i e).to) (same.edges i e low)))

    graph_ends : (blocked links missing : List ℕ) → List ℕ
    graph_ends blocked links missing =
        codes "{\"blocked\":" ++ blocked ++ codes ",\"command\":\"graph\",\"edges\":" ++ links ++ codes ",\"format\":1," ++ from_text (by k)
        ++ codes ",\"missing\":" ++ missing ++ codes ",\"status\":0}\n"

    pub graph_same : graph_json (by k) ≡ graph_json (by l)
    unfolding graph_ends
    graph_same =
        ap₂ (λ (blocked links : List ℕ). graph_ends blocked links (missing_text (by k))) (blockers_same g.blockers same.blockers) links_same
        ∙ ap (graph_ends (blocked_text (by l)) (links_text (by l) g.edges)) missing_same

    counted_same : (c : Counted) → counted_item (by k) c ≡ counted_item (by l) c
    counted_same c = ap (λ (chain : List ℕ). codes "{\"edges\":" ++ chain ++ codes "," ++ number_member (codes "times") c.count ++ codes "}") (edges_same c.chain)

    pub cut_same : (set : List ℕ) (chains : List Counted) → cut_json (by k) set chains ≡ cut_json (by l) set chains
    cut_same set chains =
        ap₂ (λ (counted cut : List ℕ). codes "{\"chains\":" ++ counted ++ codes ",\"command\":\"cut\",\"cost\":" ++ decimal (total_count chains)
        ++ codes ",\"cut\":" ++ cut ++ codes ",\"format\":1," ++ from_text (by k) ++ codes ",\"status\":0," ++ to_text (by k) ++ codes "}\n")
        (ap list_of (each_same (counted_item (by k)) (counted_item (by l)) chains counted_same)) (edges_same set)

    pub fixed_same : (chain : List ℕ) → fixed_json (by k) chain ≡ fixed_json (by l) chain
    fixed_same chain =
        ap (λ (text : List ℕ). codes "{\"chain\":" ++ text ++ codes ",\"command\":\"cut\",\"fixed\":true,\"format\":1," ++ from_text (by k) ++ codes ",\"status\":1,"
        ++ to_text (by k) ++ codes "}\n") (edges_same chain)

    broken_same : (name : List ℕ) (j : Judged) → broken_item name (by k) j ≡ broken_item name (by l) j
    broken_same name j =
        ap (λ (chains : List ℕ). codes "{\"chains\":" ++ chains ++ codes ",\"files\":" ++ files_text (by k) j.files ++ codes ","
        ++ number_member (codes "line") j.rule.line ++ codes "," ++ bytes_member (codes "path") name ++ codes ","
        ++ bytes_member (codes "rule") (joined j.rule.words) ++ codes "}") (chains_same j.chains)

    rules_ends : (kind : EndKind) (count : ℕ) → (blocked broken missing : List ℕ) → List ℕ
    rules_ends kind count blocked broken missing =
        codes "{\"blocked\":" ++ blocked ++ codes ",\"broken\":" ++ broken ++ codes ",\"command\":\"rules\",\"format\":1,\"missing\":"
        ++ missing ++ codes "," ++ number_member (codes "rules") count ++ status_text kind ++ codes "}\n"

    pub rules_object : (kind : EndKind) (name : List ℕ) (js : List Judged) → rules_json kind name (by k) js ≡ rules_json kind name (by l) js
    unfolding rules_ends
    rules_object kind name js =
        ap₂ (λ (blocked broken : List ℕ). rules_ends kind (length js) blocked broken (missing_text (by k))) (blockers_same g.blockers same.blockers)
        (ap list_of (each_same (broken_item name (by k)) (broken_item name (by l)) (filter is_broken js) (broken_same name)))
        ∙ ap (rules_ends kind (length js) (blocked_text (by l)) (list_of (broken_items name (by l) js))) missing_same

    cost_ends : Ranked → (blocked directives missing : List ℕ) → List ℕ
    cost_ends r blocked directives missing =
        codes "{\"blocked\":" ++ blocked ++ codes "," ++ number_member (codes "bytes") r.total ++ codes ",\"command\":\"cost\",\"directives\":"
        ++ directives ++ codes ",\"format\":1," ++ from_text (by k) ++ codes ",\"groups\":" ++ list_of (map (group_item r.costed) r.groups)
        ++ codes ",\"headers\":" ++ list_of (map (header_item (by k) r.brought) r.headers) ++ codes ",\"missing\":" ++ missing ++ codes ",\"status\":0}\n"

    cost_edge_same : (a : Amounts) (i : ℕ) → edge_item (by k) a i ≡ edge_item (by l) a i
    cost_edge_same a i =
        ap (λ (directive : List ℕ). codes "{" ++ bytes_text a i ++ codes ",\"directive\":" ++ directive ++ codes "," ++ count_member a i ++ codes "}") (numbered_same i)

    pub cost_same : (r : Ranked) → cost_json (by k) r ≡ cost_json (by l) r
    unfolding cost_ends
    cost_same r =
        ap₂ (λ (blocked directives : List ℕ). cost_ends r blocked directives (missing_text (by k))) (blockers_same g.blockers same.blockers)
        (ap list_of (each_same (edge_item (by k) r.saved) (edge_item (by l) r.saved) r.edges (cost_edge_same r.saved)))
        ∙ ap (cost_ends r (blocked_text (by l)) (list_of (map (edge_item (by l) r.saved) r.edges))) missing_same

    tree_ends : (total : ℕ) → List Branch → (blocked missing : List ℕ) → List ℕ
    tree_ends total bs blocked missing =
        codes "{\"blocked\":" ++ blocked ++ codes "," ++ number_member (codes "bytes") total ++ codes ",\"command\":\"cost\",\"format\":1," ++ from_text (by k)
        ++ codes ",\"missing\":" ++ missing ++ codes ",\"status\":0,\"tree\":" ++ list_of (map (branch_item (by k)) bs) ++ codes "}\n"

    pub tree_same : (total : ℕ) (bs : List Branch) → tree_json (by k) total bs ≡ tree_json (by l) total bs
    unfolding tree_ends
    tree_same total bs = ap₂ (tree_ends total bs) (blockers_same g.blockers same.blockers) missing_same
