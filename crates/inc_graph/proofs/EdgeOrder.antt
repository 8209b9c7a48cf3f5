-- The edges of a graph are in order of file and line.
use Rattle.std.proofs.Common.{◌≡◌, ℕ, zero, suc, ◌+◌, ◌<◌, ◌≤◌, Bool, true, false, cond, not, ◌&&◌, ◌==◌, List, [], ◌∷◌, ◌++◌, Option, Some, None, Result, Ok, Err, IfOk, All, get_or, length, map, inl, inr, refl, ap, sym, subst, ◌∙◌, arith, nat_lt}
use Rattle.std.specs.Prelude.{filter, filter_map, flat_map}
use Rattle.std.specs.List.{cons_option, list_all, range_with_len}
use Rattle.std.specs.List.Sorted.{IsNonDecreasing}
use Rattle.std.proofs.lemmas.Bool.{and_parts, or_left, or_right, or_cases, lt-ltb, ltb-true, eq-eqb}
use Rattle.std.proofs.lemmas.List.Sums.{AllPass-from_list_all}
use Rattle.std.proofs.lemmas.List.Elements.{All-nil, All-cons, All-head, All-tail, All-weaker, All-map}
use Rattle.inc_graph.specs.Members.{is_member}
use Rattle.inc_graph.specs.Settings.{Setting, layouts_of}
use Rattle.inc_text.specs.PhaseText.{phase_text}
use Rattle.inc_directive.specs.LineKinds.{LineKind, Include, Other, Quoted, Angled, ByName, Computed}
use Rattle.inc_directive.specs.declared.kinds.DirectiveKind.TheVariants.{Foreign}
use Rattle.inc_directive.specs.FileDirectives.{Directive, file_directives}
use Rattle.inc_graph.specs.FileEntries.{Entry}
use Rattle.inc_directive.specs.declared.files.FileFault.{FileFault}
use Rattle.inc_directive.specs.Removal.{stays, without}
use Rattle.inc_directive.proofs.LineOrder.{AscendFrom, lower, file_directives-ascend}
use Rattle.inc_lookup.specs.DirectiveLists.{is_listed}
use Rattle.inc_lookup.specs.Projects.{Layout, Listing, bytes_at}
use Rattle.inc_lookup.specs.declared.projects.Form.TheVariants as form
use Rattle.inc_graph.specs.HeaderNames.{HeaderName, header_of}
use Rattle.inc_graph.specs.IncludeGraph.{Edge, Lead, Nowhere, To, Several, leads, lead_entry, name_entry, undefined_place, entry_at, entry_of, entry_edge, read_directives, graph_directives, edges_from, is_found, inner_files, is_edge_before, are_ordered, Start}

pub both : (s t : Bool) → s ≡ true → t ≡ true → (s && t) ≡ true
both s t a b = ap (λ u. u && t) a ∙ b

in_later_file : (a b : Edge) → a.from < b.from → is_edge_before a b ≡ true
in_later_file a b lt = or_left (nat_lt a.from b.from) ((a.from == b.from) && nat_lt a.line b.line) (lt-ltb a.from b.from lt)

on_later_line : (a b : Edge) → a.from ≡ b.from → a.line < b.line → is_edge_before a b ≡ true
on_later_line a b same lt =
    or_right (nat_lt a.from b.from) ((a.from == b.from) && nat_lt a.line b.line)
    (both (a.from == b.from) (nat_lt a.line b.line) (eq-eqb a.from b.from same) (lt-ltb a.line b.line lt))

-- of edges in order an earlier one is before a later one
pub ordered_at : (es : List Edge) (i j : ℕ) (d : Edge) → are_ordered es ≡ true → i < j → j < length es → is_edge_before (get_or es i d) (get_or es j d) ≡ true
ordered_at [] i j d ordered less low = absurd (omega arith)
ordered_at (e ∷ es) i zero d ordered less low = absurd (omega arith)
ordered_at (e ∷ es) zero (suc j) d ordered less low =
    AllPass-from_list_all (is_edge_before e) es (and_parts (list_all (is_edge_before e) es) (are_ordered es) ordered).0 j d (omega arith)
ordered_at (e ∷ es) (suc i) (suc j) d ordered less low =
    ordered_at es i j d (and_parts (list_all (is_edge_before e) es) (are_ordered es) ordered).1 (omega arith) (omega arith)

-- and so not in the same file on the same line
pub ordered_differ : (a b : Edge) → is_edge_before a b ≡ true → a.from ≡ b.from → a.line ≡ b.line → ⊥
ordered_differ a b before from line =
    elim (or_cases (nat_lt a.from b.from) ((a.from == b.from) && nat_lt a.line b.line) before) [
      | inl less ↦ omega (arith, ltb-true a.from b.from less)
      | inr both ↦ omega (arith, ltb-true a.line b.line (and_parts (a.from == b.from) (nat_lt a.line b.line) both).1)
    ]

---- the edges of one file

-- each edge leaves the file and is on a later line than the one before it, the first on this line or a later one
abbrev pub Leave : (file line : ℕ) → List Edge → Type 0
Leave file line [] = Unit {0}
Leave file line (e ∷ es) = (e.from ≡ file) × (line ≤ e.line) × Leave file (e.line + 1) es

pub leave-lower : (file line least : ℕ) (es : List Edge) → line ≤ least → Leave file least es → Leave file line es
leave-lower file line least [] le h = tt
leave-lower file line least (e ∷ es) le h = (h.0, omega (arith, h.1), h.2)

lead_leaves : (hn : HeaderName) (file line at : ℕ) (lead : Lead) (es : List Entry) → line ≤ at → Leave file (at + 1) (filter_map (entry_edge file) es) → Leave file line (filter_map (entry_edge file) (lead_entry lead at hn ∷ es))
lead_leaves hn file line at Nowhere es le h = leave-lower file line (at + 1) (filter_map (entry_edge file) es) (omega arith) h
lead_leaves hn file line at (To to) es le h = (refl, le, h)
lead_leaves hn file line at Several es le h = leave-lower file line (at + 1) (filter_map (entry_edge file) es) (omega arith) h

named : (file line at : ℕ) (o : Option ℕ) (es : List Entry) → line ≤ at → Leave file (at + 1) (filter_map (entry_edge file) es)
    → Leave file line (filter_map (entry_edge file) (name_entry o at ∷ es))
named file line at None es le h = leave-lower file line (at + 1) (filter_map (entry_edge file) es) (omega arith) h
named file line at (Some name) es le h = leave-lower file line (at + 1) (filter_map (entry_edge file) es) (omega arith) h

leave_with : (names : List (List ℕ)) (file line at : ℕ) (lead : Lead) (kind : LineKind) (es : List Entry) → line ≤ at → Leave file (at + 1) (filter_map (entry_edge file) es)
    → Leave file line (filter_map (entry_edge file) (cons_option (entry_at names lead kind at) es))
leave_with names file line at lead (Include by (Quoted name)) es le h = lead_leaves (header_of form.Quoted name) file line at lead es le h
leave_with names file line at lead (Include by (Angled name)) es le h = lead_leaves (header_of form.Angled name) file line at lead es le h
leave_with names file line at lead (Include by (ByName name)) es le h = named file line at (undefined_place names name) es le h
leave_with names file line at lead (Include by Computed) es le h = leave-lower file line (at + 1) (filter_map (entry_edge file) es) (omega arith) h
leave_with names file line at lead (Other Foreign) es le h = leave-lower file line (at + 1) (filter_map (entry_edge file) es) (omega arith) h
leave_with names file line at lead _ es le h = leave-lower file line (at + 1) (filter_map (entry_edge file) es) (omega arith) h

leave_in : (names : List (List ℕ)) (layouts : ℕ → Layout) (starts : List Start) (file line : ℕ) (ds : List Directive) → AscendFrom line ds → Leave file line (filter_map (entry_edge file) (filter_map (entry_of names layouts starts file) ds))
leave_in names layouts starts file line [] h = tt
leave_in names layouts starts file line (d ∷ ds) h =
    leave_with names file line d.line (leads layouts starts file d) d.kind (filter_map (entry_of names layouts starts file) ds) h.0 (leave_in names layouts starts file (d.line + 1) ds h.1)

ascend_or : (r : Result (List Directive) FileFault) → IfOk r (AscendFrom 1) → AscendFrom 1 (elim r [ Ok directives ↦ directives | Err fault ↦ [] ])
ascend_or (Ok ds) h = h
ascend_or (Err fault) h = tt

filter-ascend : (p : Directive → Bool) (line : ℕ) (ds : List Directive) → AscendFrom line ds → AscendFrom line (filter p ds)
filter-ascend p line [] h = tt
filter-ascend p line (d ∷ ds) h = stay (p d) (h.0, filter-ascend p (d.line + 1) ds h.1) where
  stay : (b : Bool) → AscendFrom line (d ∷ filter p ds) → AscendFrom line (cond b (d ∷ filter p ds) (filter p ds))
  stay true k = k
  stay false k = lower line (d.line + 1) (filter p ds) (omega (arith, k.0)) k.1

without-ascend : (removed : ℕ → Bool) (line : ℕ) (r : Result (List Directive) FileFault) → IfOk r (AscendFrom line) → IfOk (without removed r) (AscendFrom line)
without-ascend removed line (Ok ds) h = filter-ascend (stays removed) line ds h
without-ascend removed line (Err fault) h = tt

pub directives_ascend : (setting : Setting) (listing : Listing) (file : ℕ) → AscendFrom 1 (graph_directives setting listing file)
directives_ascend setting listing file =
    ascend_or (read_directives setting listing file)
    (without-ascend (is_listed setting.removed file) 1 (file_directives setting.language (phase_text setting.language (bytes_at listing file)))
    (file_directives-ascend setting.language (bytes_at listing file)))

leave_file : (setting : Setting) (listing : Listing) (starts : List Start) (file : ℕ) → Leave file 1 (edges_from setting listing starts file)
leave_file setting listing starts file = leave_in setting.undefined (layouts_of setting listing) starts file 1 (graph_directives setting listing file) (directives_ascend setting listing file)

---- the edges of all files

-- edges in order, that leave this file or later ones
pub record InOrder (file : ℕ) (es : List Edge) : Type 0 where
  -- they leave this file or later ones
  pub above : All (λ (e : Edge). file ≤ e.from) es
  -- lines count from 1
  pub lines : All (λ (e : Edge). 1 ≤ e.line) es
  -- they are in order of file and line
  pub ordered : are_ordered es ≡ true
  -- so they are in order of file
  pub rising : IsNonDecreasing (map (λ (e : Edge). e.from) es)

order-lower : (file later : ℕ) (es : List Edge) → file ≤ later → InOrder later es → InOrder file es
order-lower file later es le h =
    record {
      above = All-weaker (λ (e : Edge). later ≤ e.from) (λ (e : Edge). file ≤ e.from) (λ e q. omega arith) es h.above;
      lines = h.lines;
      ordered = h.ordered;
      rising = h.rising;
    }

pub rising-cons : (x : ℕ) (xs : List ℕ) → All (λ y. x ≤ y) xs → IsNonDecreasing xs → IsNonDecreasing (x ∷ xs)
rising-cons x xs above rising zero zero d h low = omega arith
rising-cons x xs above rising zero (suc j) d h low = above j d (omega arith)
rising-cons x xs above rising (suc i) zero d h low = absurd (omega arith)
rising-cons x xs above rising (suc i) (suc j) d h low = rising i j d (omega arith) (omega arith)

before_files : (a : Edge) (es : List Edge) → All (λ (e : Edge). a.from + 1 ≤ e.from) es → list_all (is_edge_before a) es ≡ true
before_files a [] h = refl
before_files a (e ∷ es) h =
    both (is_edge_before a e) (list_all (is_edge_before a) es) (in_later_file a e (omega (arith, All-head (λ (x : Edge). a.from + 1 ≤ x.from) e es h)))
    (before_files a es (All-tail (λ (x : Edge). a.from + 1 ≤ x.from) e es h))

before_all : (a : Edge) (line : ℕ) (es fs : List Edge) → a.line < line → Leave a.from line es → All (λ (e : Edge). a.from + 1 ≤ e.from) fs → list_all (is_edge_before a) (es ++ fs) ≡ true
before_all a line [] fs lt h above = before_files a fs above
before_all a line (e ∷ es) fs lt h above =
    both (is_edge_before a e) (list_all (is_edge_before a) (es ++ fs)) (on_later_line a e (omega (arith, h.0)) (omega (arith, h.1)))
    (before_all a (e.line + 1) es fs (omega (arith, h.1)) h.2 above)

order-append : (file line : ℕ) (es fs : List Edge) → 1 ≤ line → Leave file line es → InOrder (file + 1) fs → InOrder file (es ++ fs)
order-append file line [] fs pos h later = order-lower file (file + 1) fs (omega arith) later
order-append file line (e ∷ es) fs pos h later =
    let rest : InOrder file (es ++ fs) = order-append file (e.line + 1) es fs (omega arith) h.2 later in
    let leave : Leave e.from (e.line + 1) es = subst (λ k. Leave k (e.line + 1) es) (sym h.0) h.2 in
    let above : All (λ (x : Edge). e.from + 1 ≤ x.from) fs = subst (λ k. All (λ (x : Edge). k + 1 ≤ x.from) fs) (sym h.0) later.above in
    record {
      above = All-cons (λ (x : Edge). file ≤ x.from) e (es ++ fs) (omega (arith, h.0)) rest.above;
      lines = All-cons (λ (x : Edge). 1 ≤ x.line) e (es ++ fs) (omega (arith, h.1)) rest.lines;
      ordered = both (list_all (is_edge_before e) (es ++ fs)) (are_ordered (es ++ fs)) (before_all e (e.line + 1) es fs (omega arith) leave above) rest.ordered;
      rising = rising-cons e.from (map (λ (x : Edge). x.from) (es ++ fs))
          (All-map (λ n. e.from ≤ n) (λ (x : Edge). x.from) (es ++ fs) (subst (λ k. All (λ (x : Edge). k ≤ x.from) (es ++ fs)) (sym h.0) rest.above)) rest.rising;
    }

order_cond : (from : ℕ → List Edge) (file : ℕ) (b : Bool) (files : List ℕ) → Leave file 1 (from file) → InOrder (file + 1) (flat_map from files) → InOrder file (flat_map from (cond b (file ∷ files) files))
order_cond from file true files h later = order-append file 1 (from file) (flat_map from files) (omega arith) h later
order_cond from file false files h later = order-lower file (file + 1) (flat_map from files) (omega arith) later

pub order_range : (from : ℕ → List Edge) (test : ℕ → Bool) → ((file : ℕ) → Leave file 1 (from file)) → (k n : ℕ) → InOrder k (flat_map from (filter test (range_with_len k n)))
order_range from test h k zero = record { above = All-nil (λ (e : Edge). k ≤ e.from); lines = All-nil (λ (e : Edge). 1 ≤ e.line); ordered = refl; rising = λ i j d h low. absurd (omega arith) }
order_range from test h k (suc n) = order_cond from k (test k) (filter test (range_with_len (k + 1) n)) (h k) (order_range from test h (k + 1) n)

pub in_order : (setting : Setting) (listing : Listing) (starts : ℕ → List Start) (headers : List ℕ) → InOrder 0 (flat_map (λ f. edges_from setting listing (starts f) f) (inner_files listing starts headers))
in_order setting listing starts headers =
    order_range (λ f. edges_from setting listing (starts f) f) (λ f. is_found (starts f) && not (is_member f headers)) (λ f. leave_file setting listing (starts f) f) 0 (length listing.files)
