-- With one source and one header.
use Rattle.std.proofs.Common.{◌≡◌, ◌≢◌, ℕ, ◌<◌, Bool, true, false, ◌||◌, List, [], ◌∷◌, Option, Some, inl, inr, length, refl, sym, ap, ◌∙◌, subst, arith}
use Rattle.std.specs.Prelude.{◌↔◌, ◌==◌, ◌&&◌, not, Contains, filter}
use Rattle.std.specs.List.{list_any, range_with_len}
use Rattle.std.proofs.lemmas.Bool.{cases_eq, eq-eqb, eqb-false, ne_eqb}
use Rattle.std.proofs.lemmas.List.Elements.{filter_agree, All-nil, All-cons}
use Rattle.inc_graph.specs.Settings.{Setting, layouts_of}
use Rattle.inc_graph.specs.declared.building.Source.{Source}
use Rattle.inc_directive.specs.FileDirectives.{Directive}
use Rattle.inc_lookup.specs.declared.projects.Found.{Found}
use Rattle.inc_lookup.specs.Projects.{Listing}
use Rattle.inc_graph.specs.Chains.{is_walk, files_on, is_chain_from, is_chain}
use Rattle.inc_graph.specs.Cuts.{meets, IsNear}
use Rattle.inc_graph.specs.IncludeGraph.{Edge, Graph, Start, graph_directives, found_by, as_source, IsStep, IsTour, InClosure, is_found, inner_files, AreEnds}
use Rattle.inc_graph.specs.MarkedEdges.{is_reached}
use Rattle.inc_graph.specs.Members.{is_member, is_distinct}
use Rattle.inc_graph.proofs.LeadLemmas.{contains_first, contains_cases, contains_nothing}
use Rattle.inc_graph.proofs.Members.{member_of_one, only_member, is_only}

or_none : (b : Bool) → (b || false) ≡ b
or_none true = refl
or_none false = refl

pub one_member : (f one : ℕ) → is_member f (one ∷ []) ≡ (f == one)
one_member f one =
    member_of_one one f
    ∙ elim (cases_eq one f) [
      | inl same ↦ eq-eqb one f same ∙ sym (eq-eqb f one (sym same))
      | inr other ↦ ne_eqb one f other ∙ sym (ne_eqb f one (λ e. other (sym e)))
    ]

---- the closure

-- the source of a list of one
only_source : (source path : ℕ) (s : Source) → Contains (record { file = source; path = path } ∷ []) s → record { file = source; path = path } ≡ s
only_source source path s c = elim (contains_cases (record { file = source; path = path }) [] s c) [ inl is ↦ is | inr none ↦ absurd (contains_nothing s none) ]

pub one_closure_of : (setting : Setting) (listing : Listing) (source path header f : ℕ)
    → InClosure setting listing (record { file = source; path = path } ∷ []) (header ∷ []) f
    ↔ ((next : Option ℕ) × (tour : List Found) × IsTour setting listing (header ∷ []) path (as_source source) tour (record { file = f; next = next }))
one_closure_of setting listing source path header f = (
  λ c.
      let is = only_source source path (record { file = c.reached.source; path = c.start.path }) c.reached.among in (
        c.start.next,
        c.reached.tour,
        subst (λ (s : Source). IsTour setting listing (header ∷ []) s.path (as_source s.file) c.reached.tour (record { file = f; next = c.start.next })) (sym is) c.reached.real,
      ),
  λ w. record {
    start = record { path = path; next = w.0 };
    reached = record { source = source; among = contains_first (record { file = source; path = path }) []; tour = w.1; real = w.2 };
  },
)

pub one_step : (setting : Setting) (listing : Listing) (header path : ℕ) (a b : Found) → IsStep setting listing (header ∷ []) path a b
    ↔ ((d : Directive) × Contains (graph_directives setting listing a.file) d × (found_by (layouts_of setting listing path) a d ≡ Some b) × (a.file ≢ header))
one_step setting listing header path a b = (
  λ s. (s.directive, s.there, s.leads, eqb-false a.file header (sym (one_member a.file header) ∙ s.before)),
  λ w. record { directive = w.0; there = w.1; leads = w.2; before = one_member a.file header ∙ ne_eqb a.file header w.3 },
)

pub one_inner : (listing : Listing) (starts : ℕ → List Start) (header : ℕ) → inner_files listing starts (header ∷ []) ≡ filter (λ f. is_found (starts f) && not (f == header)) (range_with_len 0 (length listing.files))
one_inner listing starts header =
    filter_agree (λ f. is_found (starts f) && not (is_member f (header ∷ []))) (λ f. is_found (starts f) && not (f == header)) (λ f. ap (λ b. is_found (starts f) && not b) (one_member f header)) (range_with_len 0 (length listing.files))

---- chains

pub one_chain : (g : Graph) (source header : ℕ) → g.sources ≡ source ∷ [] → g.headers ≡ header ∷ [] → (is : List ℕ)
    → is_chain g is ≡ (is_walk g source is header && is_distinct (files_on g source is))
one_chain g source header sources headers is =
    ap (list_any (is_chain_from g is)) sources ∙ or_none (is_chain_from g is source)
    ∙ ap (λ b. b && is_distinct (files_on g source is)) (ap (list_any (is_walk g source is)) headers ∙ or_none (is_walk g source is header))

pub one_near : (g : Graph) (source : ℕ) → g.sources ≡ source ∷ [] → (set : List ℕ) (f : ℕ)
    → IsNear g set f ↔ ((walk : List ℕ) × (is_walk g source walk f ≡ true) × (not (meets walk set) ≡ true))
one_near g source sources set f = (
  λ n. (n.walk, ap (λ (a : ℕ). is_walk g a n.walk f) (only_member source n.source (ap (is_member n.source) (sym sources) ∙ n.among)) ∙ n.real, n.outside),
  λ w. record { source = source; among = ap (is_member source) sources ∙ is_only source source refl; walk = w.0; real = w.1; outside = w.2 },
)

pub one_reached : (g : Graph) (source : ℕ) → g.sources ≡ source ∷ [] → (f : ℕ) → is_reached g f ≡ ((f == source) || list_any (λ (e : Edge). e.to == f) g.edges)
one_reached g source sources f = ap (λ b. b || list_any (λ (e : Edge). e.to == f) g.edges) (ap (is_member f) sources ∙ one_member f source)

---- the ends

-- one file and one file are ends
pub one_ends : (files source header : ℕ) → source < files → header < files → AreEnds files (source ∷ []) (header ∷ [])
one_ends files source header source_low header_low = record {
  sources_within = All-cons (λ f. f < files) source [] source_low (All-nil (λ f. f < files));
  headers_within = All-cons (λ f. f < files) header [] header_low (All-nil (λ f. f < files));
  sources_rise = λ k less. absurd (omega arith);
  headers_rise = λ k less. absurd (omega arith);
  some_end = omega arith;
}
