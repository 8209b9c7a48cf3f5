-- The definitions of the graph, of the shortest chain and of the chains by last edges each leave one answer.
use Rattle.std.proofs.Common.{◌≡◌, ℕ, suc, ◌<◌, ◌≤◌, Bool, true, false, List, [], ◌∷◌, ◌++◌, Option, Some, None, Result, length, inl, inr, refl, sym, ap, ◌∙◌, arith}
use Rattle.std.specs.Prelude.{not, ◌&&◌, ◌==◌, nat_lt, filter_map, flat_map, Contains}
use Rattle.std.specs.List.{range_with_len, cons_option}
use Rattle.std.proofs.lemmas.List.Elements.{filter_agree}
use Rattle.std.proofs.lemmas.Option.{slice_get_within}
use Rattle.std.proofs.lemmas.Bool.{cases_order, cond-true, cond-false, eq-eqb, ne_eqb, ltb-true, not-true, false≢true}
use Rattle.inc_graph.specs.declared.building.Source.{Source}
use Rattle.inc_graph.specs.Members.{is_member}
use Rattle.inc_graph.specs.Settings.{Setting, layouts_of}
use Rattle.inc_graph.specs.MissingLists.{Missing}
use Rattle.inc_lookup.specs.declared.projects.DirectiveId.{DirectiveId}
use Rattle.inc_lookup.specs.Projects.{Listing}
use Rattle.inc_graph.specs.FileEntries.{Entry}
use Rattle.inc_graph.specs.declared.graphs.Blocker.{Blocker}
use Rattle.inc_graph.specs.declared.building.GraphRefusal.{GraphRefusal}
use Rattle.inc_graph.specs.IncludeGraph.{Edge, Graph, Lead, entry_at, entry_of, entry_edge, entry_missing, entry_blocker, definitions_from, entries_from, edges_from, missing_from, blockers_from, graph_directives, IsClosure, is_found, inner_files, bad_file, graph_or_bad, graph_of_files, directive_count, is_defined_in, graph_answer, IsGraphAnswer, source_files, Start}
use Rattle.inc_graph.specs.Reaching as reaching
use Rattle.inc_graph.specs.Reaching.{alone, Reaching, AreReaching}
use Rattle.inc_graph.specs.Chains.{is_walk, is_chain, is_before, ends_with, IsFirstShortest, IsShortest, IsShortestOrNone, AreChainsByLast, no_more, ends_one, ends_none}
use Rattle.inc_graph.proofs.LeadLemmas.{contains_first, contains_nothing, same_leads}
use Rattle.inc_graph.proofs.Walks.{walk_before, before_last, leaving_edge, chain_parts}

---- the closure and the graph

same_tests : (x y : Bool) → (x ≡ true → y ≡ true) → (y ≡ true → x ≡ true) → x ≡ y
same_tests true y h k = sym (h refl)
same_tests false true h k = k refl
same_tests false false h k = refl

-- what is one way in which a file is found is one in the other list too
pub one_closure : (setting : Setting) (listing : Listing) (sources : List Source) (headers : List ℕ) (a b : ℕ → List Start)
    → IsClosure setting listing sources headers a → IsClosure setting listing sources headers b → (f : ℕ) (start : Start) → Contains (a f) start → Contains (b f) start
one_closure setting listing sources headers a b h k f start c = (k f start).1 ((h f start).0 c)

some_found : (a b : List Start) → ((start : Start) → Contains a start → Contains b start) → is_found a ≡ true → is_found b ≡ true
some_found [] b to is = absurd (false≢true is)
some_found (n ∷ ns) [] to is = absurd (contains_nothing n (to n (contains_first n ns)))
some_found (n ∷ ns) (m ∷ ms) to is = refl

pub one_found : (setting : Setting) (listing : Listing) (sources : List Source) (headers : List ℕ) (a b : ℕ → List Start)
    → IsClosure setting listing sources headers a → IsClosure setting listing sources headers b → (f : ℕ) → is_found (a f) ≡ is_found (b f)
one_found setting listing sources headers a b h k f =
    same_tests (is_found (a f)) (is_found (b f))
    (some_found (a f) (b f) (one_closure setting listing sources headers a b h k f))
    (some_found (b f) (a f) (one_closure setting listing sources headers b a k h f))

pub filter_map_agree : {X Y : Type 0} (f g : X → Option Y) → ((x : X) → f x ≡ g x) → (xs : List X) → filter_map f xs ≡ filter_map g xs
filter_map_agree f g same [] = refl
filter_map_agree f g same (x ∷ xs) = ap (λ o. cons_option o (filter_map f xs)) (same x) ∙ ap (cons_option (g x)) (filter_map_agree f g same xs)

pub flat_map_agree : {X Y : Type 0} (f g : X → List Y) → ((x : X) → f x ≡ g x) → (xs : List X) → flat_map f xs ≡ flat_map g xs
flat_map_agree f g same [] = refl
flat_map_agree f g same (x ∷ xs) = ap (λ l. l ++ flat_map f xs) (same x) ∙ ap (λ l. g x ++ l) (flat_map_agree f g same xs)

-- so the include directives of a file are the same
pub same_entries : (setting : Setting) (listing : Listing) (a b : List Start) (f : ℕ) → ((start : Start) → Contains a start → Contains b start) → ((start : Start) → Contains b start → Contains a start)
    → entries_from setting listing a f ≡ entries_from setting listing b f
same_entries setting listing a b f to from =
    filter_map_agree (entry_of setting.undefined (layouts_of setting listing) a f) (entry_of setting.undefined (layouts_of setting listing) b f)
    (λ d. ap (λ (lead : Lead). entry_at setting.undefined lead d.kind d.line) (same_leads (layouts_of setting listing) a b f d to from)) (graph_directives setting listing f)

graph_with : Listing → (sources : List Source) → (headers : List ℕ) → List DirectiveId → List Edge → List Missing → List Blocker → Graph
graph_with listing sources headers ds es ms bs = record { files = length listing.files; sources = source_files sources; headers = headers; edges = es; missing = ms; blockers = bs; definitions = ds }

same_graph : (setting : Setting) (listing : Listing) (sources : List Source) (headers : List ℕ) (a b : ℕ → List Start) → ((f : ℕ) → entries_from setting listing (a f) f ≡ entries_from setting listing (b f) f)
    → (files : List ℕ) → graph_of_files setting listing sources headers a files ≡ graph_of_files setting listing sources headers b files
unfolding graph_with
same_graph setting listing sources headers a b same files =
    let es = flat_map_agree (λ f. edges_from setting listing (a f) f) (λ f. edges_from setting listing (b f) f) (λ f. ap (filter_map (entry_edge f)) (same f)) files in
    let ms = flat_map_agree (λ f. missing_from setting listing (a f) f) (λ f. missing_from setting listing (b f) f) (λ f. ap (filter_map (entry_missing f)) (same f)) files in
    let defined = is_defined_in setting listing files in
    let ds = flat_map (definitions_from setting listing) files in
    let bs = flat_map_agree (λ f. blockers_from setting listing defined (a f) f) (λ f. blockers_from setting listing defined (b f) f) (λ f. ap (filter_map (entry_blocker defined f)) (same f)) files in
    ap (λ x. graph_with listing sources headers ds x (flat_map (λ f. missing_from setting listing (a f) f) files) (flat_map (λ f. blockers_from setting listing defined (a f) f) files)) es
    ∙ ap (λ x. graph_with listing sources headers ds (flat_map (λ f. edges_from setting listing (b f) f) files) x (flat_map (λ f. blockers_from setting listing defined (a f) f) files)) ms
    ∙ ap (λ x. graph_with listing sources headers ds (flat_map (λ f. edges_from setting listing (b f) f) files) (flat_map (λ f. missing_from setting listing (b f) f) files) x) bs

same_answer : (setting : Setting) (listing : Listing) (sources : List Source) (headers : List ℕ) (a b : ℕ → List Start) → ((f : ℕ) → is_found (a f) ≡ is_found (b f))
    → ((f : ℕ) → entries_from setting listing (a f) f ≡ entries_from setting listing (b f) f)
    → graph_answer setting listing sources headers a ≡ graph_answer setting listing sources headers b
same_answer setting listing sources headers a b same entries =
    let files : inner_files listing a headers ≡ inner_files listing b headers =
    filter_agree (λ f. is_found (a f) && not (is_member f headers)) (λ f. is_found (b f) && not (is_member f headers)) (λ f. ap (λ t. t && not (is_member f headers)) (same f)) (range_with_len 0 (length listing.files)) in
    let bads = filter_map (bad_file setting listing) (inner_files listing b headers) in
    let count = flat_map_agree (λ f. entries_from setting listing (a f) f) (λ f. entries_from setting listing (b f) f) entries (inner_files listing b headers) in
    ap (λ (fs : List ℕ). graph_or_bad (filter_map (bad_file setting listing) fs) (directive_count setting listing a fs) (graph_of_files setting listing sources headers a fs)) files
    ∙ ap (λ (es : List Entry). graph_or_bad bads (length es) (graph_of_files setting listing sources headers a (inner_files listing b headers))) count
    ∙ ap (graph_or_bad bads (directive_count setting listing b (inner_files listing b headers))) (same_graph setting listing sources headers a b entries (inner_files listing b headers))

pub one_graph : (setting : Setting) (listing : Listing) (sources : List Source) (headers : List ℕ) (a b : Result Graph GraphRefusal)
    → IsGraphAnswer setting listing sources headers a → IsGraphAnswer setting listing sources headers b → a ≡ b
one_graph setting listing sources headers a b h k =
    sym h.2
    ∙ same_answer setting listing sources headers h.0 k.0 (one_found setting listing sources headers h.0 k.0 h.1 k.1)
    (λ f. same_entries setting listing (h.0 f) (k.0 f) f (one_closure setting listing sources headers h.0 k.0 h.1 k.1 f) (one_closure setting listing sources headers k.0 h.0 k.1 h.1 f))
    ∙ k.2

---- chains

-- lists that are each before the other
both_before : (xs ys : List ℕ) → is_before xs ys ≡ true → is_before ys xs ≡ true → xs ≡ ys
both_before [] [] h k = refl
both_before [] (y ∷ ys) h k = absurd (false≢true k)
both_before (x ∷ xs) [] h k = absurd (false≢true h)
both_before (x ∷ xs) (y ∷ ys) h k =
    elim (cases_order x y) [
      | inl e ↦
          let front = sym (cond-true (x == y) (is_before xs ys) (nat_lt x y) (eq-eqb x y e)) ∙ h in
          let back = sym (cond-true (y == x) (is_before ys xs) (nat_lt y x) (eq-eqb y x (sym e))) ∙ k in
          ap (λ (n : ℕ). n ∷ xs) e ∙ ap (λ (l : List ℕ). y ∷ l) (both_before xs ys front back)
      | inr o ↦ elim o [
        | inl less ↦
            let more = ltb-true y x (sym (cond-false (y == x) (is_before ys xs) (nat_lt y x) (ne_eqb y x (λ e. omega (arith, e)))) ∙ k) in
            absurd (omega arith)
        | inr less ↦
            let more = ltb-true x y (sym (cond-false (x == y) (is_before xs ys) (nat_lt x y) (ne_eqb x y (λ e. omega (arith, e)))) ∙ h) in
            absurd (omega arith)
      ]
    ]

pub one_first_shortest : (g : Graph) (test : List ℕ → Bool) (a b : List ℕ) → IsFirstShortest g test a → IsFirstShortest g test b → a ≡ b
one_first_shortest g test a b h k =
    let low : length a ≤ length b = h.shortest b k.real k.passes in
    let high : length b ≤ length a = k.shortest a h.real h.passes in
    let same : length a ≡ length b = omega arith in
    both_before a b (h.first b k.real k.passes (sym same)) (k.first a h.real h.passes same)

pub one_shortest : (g : Graph) (a b : Option (List ℕ)) → IsShortestOrNone g a → IsShortestOrNone g b → a ≡ b
one_shortest g None None h k = refl
one_shortest g None (Some b) h k = absurd (false≢true (sym (not-true (is_chain g b) (h b)) ∙ k.real))
one_shortest g (Some a) None h k = absurd (false≢true (sym (not-true (is_chain g a) (k a)) ∙ h.real))
one_shortest g (Some a) (Some b) h k = ap Some (one_first_shortest g (λ c. true) a b h k)

-- the last edge of a chain is an edge of the graph
last_within : (g : Graph) (chain : List ℕ) (last : ℕ) → is_chain g chain ≡ true → ends_with last chain ≡ true → last < length g.edges
last_within g chain last real ends =
    let front = before_last last chain ends in
    let c = chain_parts g chain real in
    let split = walk_before g c.source front.0 last c.header (sym (ap (λ (l : List ℕ). is_walk g c.source l c.header) front.1) ∙ c.walk) in
    let e = leaving_edge g split.0 last _ refl split.2 in
    slice_get_within g.edges last e.0 e.1

pub one_by_last : (g : Graph) (i : ℕ) (chains others : List (List ℕ)) → AreChainsByLast g i chains → AreChainsByLast g i others → chains ≡ others
one_by_last g i [] [] (no_more past) (no_more past2) = refl
one_by_last g i [] (other ∷ others) (no_more past) (ends_one first more) = let low = last_within g other i first.real first.passes in absurd (omega arith)
one_by_last g i [] others (no_more past) (ends_none low none more) = absurd (omega arith)
one_by_last g i (chain ∷ chains) [] (ends_one first more) (no_more past) = let low = last_within g chain i first.real first.passes in absurd (omega arith)
one_by_last g i (chain ∷ chains) (other ∷ others) (ends_one first more) (ends_one first2 more2) =
    ap (λ (c : List ℕ). c ∷ chains) (one_first_shortest g (ends_with i) chain other first first2) ∙ ap (λ (cs : List (List ℕ)). other ∷ cs) (one_by_last g (suc i) chains others more more2)
one_by_last g i (chain ∷ chains) others (ends_one first more) (ends_none low none more2) =
    absurd (false≢true (sym (not-true (ends_with i chain) (none chain first.real)) ∙ first.passes))
one_by_last g i chains [] (ends_none low none more) (no_more past) = absurd (omega arith)
one_by_last g i chains (other ∷ others) (ends_none low none more) (ends_one first more2) =
    absurd (false≢true (sym (not-true (ends_with i other) (none other first.real)) ∙ first.passes))
one_by_last g i chains others (ends_none low none more) (ends_none low2 none2 more2) = one_by_last g (suc i) chains others more more2

-- a source that has a chain is not one that has none
never_both : (g : Graph) (s : ℕ) (chain : List ℕ) → IsShortest (alone s g) chain → ((other : List ℕ) → not (is_chain (alone s g) other) ≡ true) → ⊥
never_both g s chain first none = false≢true (sym (not-true (is_chain (alone s g) chain) (none chain)) ∙ first.real)

pub one_reaching : (g : Graph) (sources : List ℕ) (a b : List Reaching) → AreReaching g sources a → AreReaching g sources b → a ≡ b
one_reaching g [] [] [] reaching.no_more reaching.no_more = refl
one_reaching g [] [] (y ∷ b) h k = elim k [ ]
one_reaching g [] (x ∷ a) b h k = elim h [ ]
one_reaching g (s ∷ ss) (x ∷ a) (y ∷ b) (reaching.reaches first more) (reaching.reaches first2 more2) =
    ap (λ (c : List ℕ). record { source = s; chain = c } ∷ a) (one_first_shortest (alone s g) (λ c. true) x.chain y.chain first first2)
    ∙ ap (λ (rs : List Reaching). y ∷ rs) (one_reaching g ss a b more more2)
one_reaching g (s ∷ ss) (x ∷ a) b (reaching.reaches first more) (reaching.reaches_none none more2) = absurd (never_both g s x.chain first none)
one_reaching g (s ∷ ss) a (y ∷ b) (reaching.reaches_none none more) (reaching.reaches first2 more2) = absurd (never_both g s y.chain first2 none)
one_reaching g (s ∷ ss) a b (reaching.reaches_none none more) (reaching.reaches_none none2 more2) = one_reaching g ss a b more more2
