-- What the directives that are taken as removed leave of a file.
use Rattle.std.proofs.Common.{◌≡◌, ℕ, Bool, true, false, cond, not, ◌&&◌, List, [], ◌∷◌, Option, Some, None, Result, Ok, Err, refl, sym, ap, ◌∙◌}
use Rattle.std.specs.Prelude.{filter, Contains}
use Rattle.std.proofs.lemmas.List.Elements.{All-contains, filter_passes}
use Rattle.std.proofs.lemmas.Option.{none-some, same_Some}
use Rattle.inc_text.specs.PhaseText.{phase_text}
use Rattle.inc_directive.specs.LineKinds.{LineKind, Include, Other, Quoted, Angled, ByName, Computed}
use Rattle.inc_directive.specs.declared.kinds.DirectiveKind.TheVariants.{Foreign}
use Rattle.inc_directive.specs.FileDirectives.{Directive, file_directives}
use Rattle.inc_directive.specs.Removal.{is_removable, stays, without}
use Rattle.inc_directive.specs.declared.files.FileFault.{FileFault}
use Rattle.inc_lookup.specs.DirectiveLists.{is_listed}
use Rattle.inc_lookup.specs.Projects.{Listing, bytes_at}
use Rattle.inc_graph.specs.FileEntries.{Entry}
use Rattle.inc_graph.specs.declared.building.entries.Entry.TheVariants as entry
use Rattle.inc_graph.specs.declared.graphs.BlockerKind.TheVariants as kind
use Rattle.inc_lookup.specs.declared.projects.Form.TheVariants as form
use Rattle.inc_graph.specs.HeaderNames.{HeaderName, header_of}
use Rattle.inc_graph.specs.IncludeGraph.{Edge, Lead, Nowhere, To, Several, leads, lead_entry, name_entry, undefined_place, entry_at, entry_of, entry_edge, entries_from, edges_from, graph_directives, Start}
use Rattle.inc_graph.specs.Settings.{Setting, layouts_of}
use Rattle.inc_graph.proofs.LeadLemmas.{contains_nothing, contains_from}

---- nothing is removed

stays_none : (b : Bool) → not (b && false) ≡ true
stays_none true = refl
stays_none false = refl

filter_none : (file : ℕ) (ds : List Directive) → filter (stays (is_listed [] file)) ds ≡ ds
filter_none file [] = refl
filter_none file (d ∷ ds) =
    ap (λ b. cond b (d ∷ filter (stays (is_listed [] file)) ds) (filter (stays (is_listed [] file)) ds)) (stays_none (is_removable d.kind))
    ∙ ap (λ es. d ∷ es) (filter_none file ds)

pub without_none : (file : ℕ) (r : Result (List Directive) FileFault) → without (is_listed [] file) r ≡ r
without_none file (Ok ds) = ap Ok (filter_none file ds)
without_none file (Err fault) = refl

---- what is removed is no edge

is_off : (b : Bool) → not b ≡ true → b ≡ false
is_off false e = refl
is_off true e = cc

stays_there : (removed : ℕ → Bool) (ds : List Directive) (d : Directive) → Contains (filter (stays removed) ds) d → stays removed d ≡ true
stays_there removed ds d c = All-contains (λ (x : Directive). stays removed x ≡ true) (filter (stays removed) ds) d (filter_passes (stays removed) ds) c

stay_in : (removed : ℕ → Bool) (r : Result (List Directive) FileFault) (d : Directive) → Contains (elim (without removed r) [ Ok directives ↦ directives | Err fault ↦ [] ]) d → stays removed d ≡ true
stay_in removed (Ok ds) d c = stays_there removed ds d c
stay_in removed (Err fault) d c = absurd (contains_nothing d c)

lead_stays : (hn : HeaderName) (removed : ℕ → Bool) (lead : Lead) (line : ℕ) (e : Edge) (file : ℕ) (x : Entry) → removed line ≡ false → Some (lead_entry lead line hn) ≡ Some x → entry_edge file x ≡ Some e → removed e.line ≡ false
lead_stays hn removed Nowhere line e file x off is edge = absurd (none-some e (ap (entry_edge file) (same_Some (entry.Missing line hn) x is) ∙ edge))
lead_stays hn removed (To to) line e file x off is edge =
    let same : record { from = file; to = to; line = line } ≡ e = same_Some (record { from = file; to = to; line = line }) e (ap (entry_edge file) (same_Some (entry.Edge to line) x is) ∙ edge) in
    ap (λ (y : Edge). removed y.line) (sym same) ∙ off
lead_stays hn removed Several line e file x off is edge = absurd (none-some e (ap (entry_edge file) (same_Some (entry.Blocker line kind.Several) x is) ∙ edge))

named_stays : {P : Type 0} (o : Option ℕ) (line : ℕ) (e : Edge) (file : ℕ) (x : Entry) → Some (name_entry o line) ≡ Some x → entry_edge file x ≡ Some e → P
named_stays None line e file x is edge = absurd (none-some e (ap (entry_edge file) (same_Some (entry.Blocker line kind.Computed) x is) ∙ edge))
named_stays (Some name) line e file x is edge = absurd (none-some e (ap (entry_edge file) (same_Some (entry.ByName name line) x is) ∙ edge))

edge_stays : (names : List (List ℕ)) (removed : ℕ → Bool) (lead : Lead) (k : LineKind) (line : ℕ) (e : Edge) (file : ℕ) (x : Entry) → not (is_removable k && removed line) ≡ true → entry_at names lead k line ≡ Some x → entry_edge file x ≡ Some e
    → removed e.line ≡ false
edge_stays names removed lead (Include by (Quoted name)) line e file x off is edge = lead_stays (header_of form.Quoted name) removed lead line e file x (is_off (removed line) off) is edge
edge_stays names removed lead (Include by (Angled name)) line e file x off is edge = lead_stays (header_of form.Angled name) removed lead line e file x (is_off (removed line) off) is edge
edge_stays names removed lead (Include by (ByName name)) line e file x off is edge = named_stays (undefined_place names name) line e file x is edge
edge_stays names removed lead (Include by Computed) line e file x off is edge = absurd (none-some e (ap (entry_edge file) (same_Some (entry.Blocker line kind.Computed) x is) ∙ edge))
edge_stays names removed lead (Other Foreign) line e file x off is edge = absurd (none-some e (ap (entry_edge file) (same_Some (entry.Blocker line kind.Foreign) x is) ∙ edge))
edge_stays names removed lead _ line e file x off is edge = absurd (none-some x is)

pub edges_stay : (setting : Setting) (listing : Listing) (starts : List Start) (file : ℕ) (e : Edge) → Contains (edges_from setting listing starts file) e → is_listed setting.removed file e.line ≡ false
edges_stay setting listing starts file e among =
    let x = contains_from (entry_edge file) (entries_from setting listing starts file) e among in
    let d = contains_from (entry_of setting.undefined (layouts_of setting listing) starts file) (graph_directives setting listing file) x.0 x.1 in
    edge_stays setting.undefined (is_listed setting.removed file) (leads (layouts_of setting listing) starts file d.0) d.0.kind d.0.line e file x.0
    (stay_in (is_listed setting.removed file) (file_directives setting.language (phase_text setting.language (bytes_at listing file))) d.0 d.1) d.2 x.2
