-- Where a directive leads rests on the ways in which its file is found, and not on their order or on how often each is there.
use Rattle.std.proofs.Common.{◌≡◌, ◌≢◌, ℕ, Bool, true, false, cond, List, [], ◌∷◌, Option, Some, None, inl, inr, refl, ap, sym, ◌∙◌, subst, arith}
use Rattle.std.specs.Prelude.{Contains, ◌==◌, ◌⊎◌, filter_map, option_and_then}
use Rattle.std.specs.List.{cons_option}
use Rattle.std.proofs.lemmas.Bool.{eq-eqb, eqb-true, eqb-false}
use Rattle.std.proofs.lemmas.List.Elements.{Contains-append_cases, Contains-append_right, Contains-push_cases}
use Rattle.std.proofs.lemmas.Option.{none-some, same_Some}
use Rattle.inc_directive.specs.FileDirectives.{Directive}
use Rattle.inc_lookup.specs.declared.projects.Found.{Found}
use Rattle.inc_lookup.specs.Projects.{Layout, Listing}
use Rattle.inc_directive.specs.LineKinds.{LineKind, Include, Other, Text, Quoted, Angled, ByName, Computed, Nothing}
use Rattle.inc_directive.specs.declared.kinds.DirectiveKind.TheVariants.{Foreign}
use Rattle.inc_graph.specs.Settings.{Setting, layouts_of}
use Rattle.inc_graph.specs.FileEntries.{Entry}
use Rattle.inc_graph.specs.declared.building.entries.Entry.TheVariants as entry
use Rattle.inc_graph.specs.declared.graphs.BlockerKind.TheVariants as kind
use Rattle.inc_lookup.specs.declared.projects.Form.TheVariants as form
use Rattle.inc_graph.specs.HeaderNames.{HeaderName, header_of}
use Rattle.inc_graph.specs.IncludeGraph.{Edge, Lead, Nowhere, To, Several, with_target, with_found, direct_header, named_place, found_by, leads, lead_entry, name_entry, undefined_place, entry_at, entry_of, entry_edge, entry_blocker, entries_from, edges_from, blockers_from, graph_directives, Start, found_so}

-- an element of a longer list
pub contains_first : {X : Type 0} (x : X) (xs : List X) → Contains (x ∷ xs) x
contains_first x xs = (0, omega arith, refl)

pub contains_later : {X : Type 0} (y : X) (xs : List X) (x : X) → Contains xs x → Contains (y ∷ xs) x
contains_later y xs x c = Contains-append_right (y ∷ []) xs x c

pub contains_cases : {X : Type 0} (y : X) (xs : List X) (x : X) → Contains (y ∷ xs) x → (y ≡ x) ⊎ Contains xs x
contains_cases y xs x c =
    elim (Contains-append_cases (y ∷ []) xs x c) [
      | inl here ↦ elim (Contains-push_cases [] y x here) [
        | inl none ↦ absurd (let low = none.1 in omega arith)
        | inr is ↦ inl is
      ]
      | inr later ↦ inr later
    ]

pub contains_nothing : {X : Type 0} (x : X) → Contains [] x → ⊥
contains_nothing x c = let low = c.1 in omega arith

-- what a test gives of an element it gives of the list
put_option : {Y : Type 0} (o : Option Y) (ys : List Y) (y : Y) → Contains ys y → Contains (cons_option o ys) y
put_option None ys y c = c
put_option (Some v) ys y c = contains_later v ys y c

pub contains_kept : {X Y : Type 0} (f : X → Option Y) (xs : List X) (x : X) (y : Y) → Contains xs x → f x ≡ Some y → Contains (filter_map f xs) y
contains_kept f [] x y c is = absurd (contains_nothing x c)
contains_kept f (z ∷ zs) x y c is =
    elim (contains_cases z zs x c) [
      | inl same ↦ subst (λ o. Contains (cons_option o (filter_map f zs)) y) (sym (ap f same ∙ is)) (contains_first y (filter_map f zs))
      | inr later ↦ put_option (f z) (filter_map f zs) y (contains_kept f zs x y later is)
    ]

-- and what it gives of the list it gives of an element
from_option : {X Y : Type 0} (f : X → Option Y) (z : X) (zs : List X) (y : Y) (o : Option Y) → f z ≡ o → (Contains (filter_map f zs) y → (x : X) × Contains zs x × (f x ≡ Some y))
    → Contains (cons_option o (filter_map f zs)) y → (x : X) × Contains (z ∷ zs) x × (f x ≡ Some y)
from_option f z zs y None e rest c = let r = rest c in (r.0, contains_later z zs r.0 r.1, r.2)
from_option f z zs y (Some v) e rest c = elim (contains_cases v (filter_map f zs) y c) [
  | inl is ↦ (z, contains_first z zs, e ∙ ap Some is)
  | inr later ↦ let r = rest later in (r.0, contains_later z zs r.0 r.1, r.2)
]

pub contains_from : {X Y : Type 0} (f : X → Option Y) (xs : List X) (y : Y) → Contains (filter_map f xs) y → (x : X) × Contains xs x × (f x ≡ Some y)
contains_from f [] y c = absurd (contains_nothing y c)
contains_from f (z ∷ zs) y c = from_option f z zs y (f z) refl (λ d. contains_from f zs y d) c

---- the same file again changes nothing

target_twice : (lead : Lead) (f : ℕ) → with_target (with_target lead f) f ≡ with_target lead f
target_twice Nowhere f = ap (λ (b : Bool). cond b (To f) Several) (eq-eqb f f refl)
target_twice (To g) f = by_test (g == f) refl
  where
    by_test : (b : Bool) → (g == f) ≡ b → with_target (cond b (To g) Several) f ≡ cond b (To g) Several
    by_test true e = ap (λ (c : Bool). cond c (To g) Several) e
    by_test false e = refl
target_twice Several f = refl

pub found_twice : (o : Option Found) (lead : Lead) → with_found o (with_found o lead) ≡ with_found o lead
found_twice None lead = refl
found_twice (Some f) lead = target_twice lead f.file

---- what it means that a directive leads somewhere

module _ (find : Start → Option Found) where
  -- it finds this file where its own is found so
  record Finds (starts : List Start) (file : ℕ) : Type 0 where
    start : Start
    among : Contains starts start
    found : Found
    is : find start ≡ Some found
    same : found.file ≡ file

  -- two that are not one
  record FindsTwo (starts : List Start) : Type 0 where
    one : ℕ
    other : ℕ
    finds_one : Finds starts one
    finds_other : Finds starts other
    differ : one ≢ other

  abbrev IsLead : Lead → List Start → Type 0
  IsLead Nowhere starts = (s : Start) → Contains starts s → find s ≡ None
  IsLead (To f) starts = Finds starts f × ((s : Start) (g : Found) → Contains starts s → find s ≡ Some g → g.file ≡ f)
  IsLead Several starts = FindsTwo starts

  -- as leads, of any test
  abbrev all_leads : List Start → Lead
  all_leads [] = Nowhere
  all_leads (s ∷ starts) = with_found (find s) (all_leads starts)

  finds_later : (s : Start) (starts : List Start) (f : ℕ) → Finds starts f → Finds (s ∷ starts) f
  finds_later s starts f x = record { start = x.start; among = contains_later s starts x.start x.among; found = x.found; is = x.is; same = x.same }

  finds_here : (s : Start) (starts : List Start) (g : Found) → find s ≡ Some g → Finds (s ∷ starts) g.file
  finds_here s starts g is = record { start = s; among = contains_first s starts; found = g; is = is; same = refl }

  lead_more : (s : Start) (starts : List Start) (o : Option Found) → find s ≡ o → (lead : Lead) → IsLead lead starts → IsLead (with_found o lead) (s ∷ starts)
  lead_more s starts None e Nowhere h = λ t c. elim (contains_cases s starts t c) [
    | inl is ↦ ap find (sym is) ∙ e
    | inr later ↦ h t later
  ]
  lead_more s starts None e (To f) h = (
    finds_later s starts f h.0,
    λ t g c q. elim (contains_cases s starts t c) [
      | inl is ↦ absurd (none-some g (sym e ∙ ap find is ∙ q))
      | inr later ↦ h.1 t g later q
    ],
  )
  lead_more s starts None e Several h = record { one = h.one; other = h.other; finds_one = finds_later s starts h.one h.finds_one; finds_other = finds_later s starts h.other h.finds_other; differ = h.differ }
  lead_more s starts (Some g) e Nowhere h = (
    finds_here s starts g e,
    λ t k c q. elim (contains_cases s starts t c) [
      | inl is ↦ ap (λ (x : Found). x.file) (same_Some k g (sym q ∙ ap find (sym is) ∙ e))
      | inr later ↦ absurd (none-some k (sym (h t later) ∙ q))
    ],
  )
  lead_more s starts (Some g) e (To f) h = by_test (f == g.file) refl
    where
      by_test : (b : Bool) → (f == g.file) ≡ b → IsLead (cond b (To f) Several) (s ∷ starts)
      by_test true same = (
        finds_later s starts f h.0,
        λ t k c q. elim (contains_cases s starts t c) [
          | inl is ↦ ap (λ (x : Found). x.file) (same_Some k g (sym q ∙ ap find (sym is) ∙ e)) ∙ sym (eqb-true f g.file same)
          | inr later ↦ h.1 t k later q
        ],
      )
      by_test false differ = record { one = f; other = g.file; finds_one = finds_later s starts f h.0; finds_other = finds_here s starts g e; differ = eqb-false f g.file differ }
  lead_more s starts (Some g) e Several h = record { one = h.one; other = h.other; finds_one = finds_later s starts h.one h.finds_one; finds_other = finds_later s starts h.other h.finds_other; differ = h.differ }

  is_lead : (starts : List Start) → IsLead (all_leads starts) starts
  is_lead [] = λ s c. absurd (contains_nothing s c)
  is_lead (s ∷ starts) = lead_more s starts (find s) refl (all_leads starts) (is_lead starts)

  finds_in : (a b : List Start) → ((s : Start) → Contains a s → Contains b s) → (f : ℕ) → Finds a f → Finds b f
  finds_in a b to f x = record { start = x.start; among = to x.start x.among; found = x.found; is = x.is; same = x.same }

  only_one : (starts : List Start) (f g : ℕ) → IsLead (To f) starts → Finds starts g → g ≡ f
  only_one starts f g h x = sym x.same ∙ h.1 x.start x.found x.among x.is

  nothing_found : (starts : List Start) (g : ℕ) → IsLead Nowhere starts → Finds starts g → ⊥
  nothing_found starts g h x = none-some x.found (sym (h x.start x.among) ∙ x.is)

  one_lead : (a b : List Start) (x y : Lead) → ((s : Start) → Contains a s → Contains b s) → ((s : Start) → Contains b s → Contains a s) → IsLead x a → IsLead y b → x ≡ y
  one_lead a b Nowhere Nowhere to from h k = refl
  one_lead a b Nowhere (To g) to from h k = absurd (nothing_found a g h (finds_in b a from g k.0))
  one_lead a b Nowhere Several to from h k = absurd (nothing_found a k.one h (finds_in b a from k.one k.finds_one))
  one_lead a b (To f) Nowhere to from h k = absurd (nothing_found b f k (finds_in a b to f h.0))
  one_lead a b (To f) (To g) to from h k = ap To (only_one b g f k (finds_in a b to f h.0))
  one_lead a b (To f) Several to from h k =
      absurd (k.differ (only_one a f k.one h (finds_in b a from k.one k.finds_one) ∙ sym (only_one a f k.other h (finds_in b a from k.other k.finds_other))))
  one_lead a b Several Nowhere to from h k = absurd (nothing_found b h.one k (finds_in a b to h.one h.finds_one))
  one_lead a b Several (To g) to from h k =
      absurd (h.differ (only_one b g h.one k (finds_in a b to h.one h.finds_one) ∙ sym (only_one b g h.other k (finds_in a b to h.other h.finds_other))))
  one_lead a b Several Several to from h k = refl

  -- what one way finds is the one file
  lead_to : (starts : List Start) (lead : Lead) → IsLead lead starts → (s : Start) (g : Found) → Contains starts s → find s ≡ Some g → lead ≢ Several → lead ≡ To g.file
  lead_to starts Nowhere h s g c is other = absurd (none-some g (sym (h s c) ∙ is))
  lead_to starts (To f) h s g c is other = ap To (sym (h.1 s g c is))
  lead_to starts Several h s g c is other = absurd (other refl)

  -- the one file is found
  lead_from : (starts : List Start) (f : ℕ) (lead : Lead) → IsLead lead starts → lead ≡ To f → Finds starts f
  lead_from starts f lead h is = (subst (λ (x : Lead). IsLead x starts) is h).0

---- of a directive

abbrev pub at_start : (layouts : ℕ → Layout) → ℕ → Directive → Start → Option Found
at_start layouts file d start = found_by (layouts start.path) (found_so file start) d

leads_are : (layouts : ℕ → Layout) (starts : List Start) (file : ℕ) (d : Directive) → all_leads (at_start layouts file d) starts ≡ leads layouts starts file d
leads_are layouts [] file d = refl
leads_are layouts (start ∷ starts) file d = ap (with_found (at_start layouts file d start)) (leads_are layouts starts file d)

lead_of : (layouts : ℕ → Layout) (starts : List Start) (file : ℕ) (d : Directive) → IsLead (at_start layouts file d) (leads layouts starts file d) starts
lead_of layouts starts file d = subst (λ (x : Lead). IsLead (at_start layouts file d) x starts) (leads_are layouts starts file d) (is_lead (at_start layouts file d) starts)

-- two lists of the same ways
pub same_leads : (layouts : ℕ → Layout) (a b : List Start) (file : ℕ) (d : Directive) → ((s : Start) → Contains a s → Contains b s) → ((s : Start) → Contains b s → Contains a s)
    → leads layouts a file d ≡ leads layouts b file d
same_leads layouts a b file d to from = one_lead (at_start layouts file d) a b _ _ to from (lead_of layouts a file d) (lead_of layouts b file d)

-- a way in which it finds what it finds in another one changes nothing
pub leads_steady : (layouts : ℕ → Layout) (s t : Start) (starts : List Start) (file : ℕ) (d : Directive) → Contains starts t → at_start layouts file d s ≡ at_start layouts file d t
    → leads layouts (s ∷ starts) file d ≡ leads layouts starts file d
leads_steady layouts s t starts file d c same =
    ap (λ (o : Option Found). with_found o (leads layouts starts file d)) same
    ∙ same_leads layouts (t ∷ starts) starts file d
    (λ u e. elim (contains_cases t starts u e) [ inl is ↦ subst (λ (x : Start). Contains starts x) is c | inr later ↦ later ])
    (λ u e. contains_later t starts u e)

-- a directive that leads to at most one file leads to what it finds in any way
pub leads_to : (layouts : ℕ → Layout) (starts : List Start) (file : ℕ) (d : Directive) (start : Start) (found : Found) → Contains starts start
    → at_start layouts file d start ≡ Some found → leads layouts starts file d ≢ Several → leads layouts starts file d ≡ To found.file
leads_to layouts starts file d start found c is other = lead_to (at_start layouts file d) starts (leads layouts starts file d) (lead_of layouts starts file d) start found c is other

-- where a directive leads to one file it finds that in some way
pub leads_from : (layouts : ℕ → Layout) (starts : List Start) (file : ℕ) (d : Directive) (to : ℕ) → leads layouts starts file d ≡ To to
    → (start : Start) × Contains starts start × ((after : Option ℕ) × (at_start layouts file d start ≡ Some (record { file = to; next = after })))
leads_from layouts starts file d to is =
    let x = lead_from (at_start layouts file d) starts to (leads layouts starts file d) (lead_of layouts starts file d) is in
    (x.start, x.among, (x.found.next, x.is ∙ ap (λ (f : ℕ). Some (record { file = f; next = x.found.next })) x.same))

-- the header that a direct include directive names
abbrev pub named_header : LineKind → HeaderName
named_header (Include how (Quoted name)) = header_of form.Quoted name
named_header (Include how (Angled name)) = header_of form.Angled name
named_header _ = header_of form.Quoted []

-- an include directive that finds something is an entry
pub direct_entry : (names : List (List ℕ)) (layout : Layout) (at b : Found) (k : LineKind) (lead : Lead) (line : ℕ) → option_and_then (named_place layout at) (direct_header k) ≡ Some b
    → entry_at names lead k line ≡ Some (lead_entry lead line (named_header k))
direct_entry names layout at b (Include how (Quoted name)) lead line is = refl
direct_entry names layout at b (Include how (Angled name)) lead line is = refl
direct_entry names layout at b (Include how (ByName name)) lead line is = absurd (none-some b is)
direct_entry names layout at b (Include how Computed) lead line is = absurd (none-some b is)
direct_entry names layout at b (Include how Nothing) lead line is = absurd (none-some b is)
direct_entry names layout at b (Other what) lead line is = absurd (none-some b is)
direct_entry names layout at b Text lead line is = absurd (none-some b is)

-- an entry that is an edge is by a directive that leads to one file
lead_of_edge : (hn : HeaderName) (lead : Lead) (line to at : ℕ) → Some (lead_entry lead line hn) ≡ Some (entry.Edge to at) → lead ≡ To to
lead_of_edge hn Nowhere line to at is = cc
lead_of_edge hn (To t) line to at is = cc
lead_of_edge hn Several line to at is = cc

edge_by_name : (o : Option ℕ) (line to at : ℕ) → Some (name_entry o line) ≡ Some (entry.Edge to at) → ⊥
edge_by_name None line to at is = cc
edge_by_name (Some name) line to at is = cc

pub edge_lead : (names : List (List ℕ)) (lead : Lead) (k : LineKind) (line to at : ℕ) → entry_at names lead k line ≡ Some (entry.Edge to at) → lead ≡ To to
edge_lead names lead (Include how (Quoted name)) line to at is = lead_of_edge (header_of form.Quoted name) lead line to at is
edge_lead names lead (Include how (Angled name)) line to at is = lead_of_edge (header_of form.Angled name) lead line to at is
edge_lead names lead (Include how (ByName name)) line to at is = absurd (edge_by_name (undefined_place names name) line to at is)
edge_lead names lead (Include how Computed) line to at is = cc
edge_lead names lead (Other Foreign) line to at is = cc
edge_lead names lead _ line to at is = absurd (none-some (entry.Edge to at) is)

-- and the line is that of the directive
line_of_edge : (hn : HeaderName) (lead : Lead) (line to at : ℕ) → Some (lead_entry lead line hn) ≡ Some (entry.Edge to at) → line ≡ at
line_of_edge hn Nowhere line to at is = cc
line_of_edge hn (To t) line to at is = cc
line_of_edge hn Several line to at is = cc

edge_line : (names : List (List ℕ)) (lead : Lead) (k : LineKind) (line to at : ℕ) → entry_at names lead k line ≡ Some (entry.Edge to at) → line ≡ at
edge_line names lead (Include how (Quoted name)) line to at is = line_of_edge (header_of form.Quoted name) lead line to at is
edge_line names lead (Include how (Angled name)) line to at is = line_of_edge (header_of form.Angled name) lead line to at is
edge_line names lead (Include how (ByName name)) line to at is = absurd (edge_by_name (undefined_place names name) line to at is)
edge_line names lead (Include how Computed) line to at is = cc
edge_line names lead (Other Foreign) line to at is = cc
edge_line names lead _ line to at is = absurd (none-some (entry.Edge to at) is)

---- the edges and the blockers of a file

entry_there : (setting : Setting) (listing : Listing) (starts : List Start) (file : ℕ) (d : Directive) (start : Start) (found : Found) → Contains (graph_directives setting listing file) d
    → at_start (layouts_of setting listing) file d start ≡ Some found
    → Contains (entries_from setting listing starts file) (lead_entry (leads (layouts_of setting listing) starts file d) d.line (named_header d.kind))
entry_there setting listing starts file d start found there is =
    contains_kept (entry_of setting.undefined (layouts_of setting listing) starts file) (graph_directives setting listing file) d _ there
    (direct_entry setting.undefined (layouts_of setting listing start.path) (found_so file start) found d.kind (leads (layouts_of setting listing) starts file d) d.line is)

-- a directive that finds a file in one of these ways, and in no other way another one, is an edge
pub edge_there : (setting : Setting) (listing : Listing) (starts : List Start) (file : ℕ) (d : Directive) (start : Start) (found : Found) → Contains starts start → Contains (graph_directives setting listing file) d
    → at_start (layouts_of setting listing) file d start ≡ Some found → leads (layouts_of setting listing) starts file d ≢ Several
    → Contains (edges_from setting listing starts file) (record { from = file; to = found.file; line = d.line })
edge_there setting listing starts file d start found c there is one =
    contains_kept (entry_edge file) (entries_from setting listing starts file) (lead_entry (leads (layouts_of setting listing) starts file d) d.line (named_header d.kind)) _
    (entry_there setting listing starts file d start found there is)
    (ap (λ (lead : Lead). entry_edge file (lead_entry lead d.line (named_header d.kind))) (leads_to (layouts_of setting listing) starts file d start found c is one))

-- in any other way it is a blocker
pub blocker_there : (setting : Setting) (listing : Listing) (defined : ℕ → Bool) (starts : List Start) (file : ℕ) (d : Directive) (start : Start) (found : Found) → Contains (graph_directives setting listing file) d
    → at_start (layouts_of setting listing) file d start ≡ Some found → leads (layouts_of setting listing) starts file d ≡ Several
    → Contains (blockers_from setting listing defined starts file) (record { file = file; line = d.line; kind = kind.Several })
blocker_there setting listing defined starts file d start found there is several =
    contains_kept (entry_blocker defined file) (entries_from setting listing starts file) (lead_entry (leads (layouts_of setting listing) starts file d) d.line (named_header d.kind)) _
    (entry_there setting listing starts file d start found there is)
    (ap (λ (lead : Lead). entry_blocker defined file (lead_entry lead d.line (named_header d.kind))) several)

edge_of_entry : (file : ℕ) (x : Entry) (e : Edge) → entry_edge file x ≡ Some e → x ≡ entry.Edge e.to e.line
edge_of_entry file (entry.Edge to line) e is =
    let same : record { from = file; to = to; line = line } ≡ e = same_Some (record { from = file; to = to; line = line }) e is in
    ap (λ (y : Edge). entry.Edge y.to y.line) same
edge_of_entry file (entry.Missing line header) e is = absurd (none-some e is)
edge_of_entry file (entry.Blocker line why) e is = absurd (none-some e is)
edge_of_entry file (entry.ByName name line) e is = absurd (none-some e is)
edge_of_entry file (entry.Defines name line) e is = absurd (none-some e is)

-- an edge is by a directive of its line that finds its file in one of these ways
pub edge_at : (setting : Setting) (listing : Listing) (starts : List Start) (file : ℕ) (e : Edge) → Contains (edges_from setting listing starts file) e
    → (d : Directive) × Contains (graph_directives setting listing file) d × (d.line ≡ e.line)
    × ((start : Start) × Contains starts start × ((after : Option ℕ) × (at_start (layouts_of setting listing) file d start ≡ Some (record { file = e.to; next = after }))))
edge_at setting listing starts file e c =
    let x = contains_from (entry_edge file) (entries_from setting listing starts file) e c in
    let d = contains_from (entry_of setting.undefined (layouts_of setting listing) starts file) (graph_directives setting listing file) x.0 x.1 in
    let is = d.2 ∙ ap Some (edge_of_entry file x.0 e x.2) in (
      d.0,
      d.1,
      edge_line setting.undefined (leads (layouts_of setting listing) starts file d.0) d.0.kind d.0.line e.to e.line is,
      leads_from (layouts_of setting listing) starts file d.0 e.to (edge_lead setting.undefined (leads (layouts_of setting listing) starts file d.0) d.0.kind d.0.line e.to e.line is),
    )

pub edge_by : (setting : Setting) (listing : Listing) (starts : List Start) (file : ℕ) (e : Edge) → Contains (edges_from setting listing starts file) e
    → (d : Directive) × Contains (graph_directives setting listing file) d
    × ((start : Start) × Contains starts start × ((after : Option ℕ) × (at_start (layouts_of setting listing) file d start ≡ Some (record { file = e.to; next = after }))))
edge_by setting listing starts file e c = let d = edge_at setting listing starts file e c in (d.0, d.1, d.3)
