use Rattle.std.proofs.Common.{◌≡◌, [], ◌∷◌, ◌++◌, None, Some, true, ◌∙◌, ap, length, option_map, rules, subst, sym}
use Rattle.std.specs.Prelude.{option_to_list}
use Rattle.std.proofs.lemmas.List.{append-nil}
use Rattle.inc_directive.specs.DirectiveViews.{seen_directive}
use Rattle.inc_directive.specs.Removal.{stays}
use Rattle.inc_lookup.specs.DirectiveLists.{is_listed}
use Rattle.inc_graph.specs.Entries.{entry_alone}
use Rattle.inc_graph.specs.IncludeGraph.{found_by, name_in}
use Rattle.inc_graph.specs.Places.{Reaches}
use Rattle.inc_graph.proofs.PlaceLemmas.{reaches_none}
use Rattle.inc_graph.proofs.ReadingLemmas.{by_name, entry_read, found_read_more, next_read}
use Rattle.inc_graph.proofs.building.file_entries.entries_of.Goals as goal

pub loop-directive-preserved-in-Some-name_in : goal.loop-directive-preserved-in-Some-name_in
loop-directive-preserved-in-Some-name_in c =
    let at = c.args.at.now in
    let d = seen_directive c.in-Some.directive in
    let s = stays (is_listed c.args.setting.now.removed at.file) in
    let left = c.loop-directive.left in
    let rest = c.next.new.self in
    let names = c.args.setting.now.undefined in
    let layout = c.args.lookup.now in
    let old = c.loop-directive.entries in
    let nexts = c.loop-directive.nexts.items in
    let places = c.loop-directive.places.found in
    let is : left ≡ d ∷ rest = search rules in
    let on : s d ≡ true = sym c.stays.ensures ∙ search rules in
    let named : name_in d.kind ≡ Some c.in-Some-name_in.name.now = sym c.name_in.ensures ∙ ap (option_map (λ n. n.now)) c.in-Some-name_in.is in
    let by = by_name names layout at (length old) d.kind d.line c.in-Some-name_in.name.now named in
    let entries : c.push.new.self ≡ old ++ option_to_list (entry_alone names layout at d) =
    c.in_ok-push.ensures ∙ ap (λ e. old ++ e ∷ []) c.in_ok-entry.ensures.entry ∙ ap (λ o. old ++ option_to_list o) (sym by.0) in
    let none : Reaches places (option_to_list (found_by layout at d)) places = subst (λ o. Reaches places (option_to_list o) places) (sym by.1) (reaches_none places) in
    record {
      entries = entry_read (entry_alone names layout at) s left rest d old c.push.new.self _ is on entries c.loop-directive.invariant.entries;
      files = c.loop-directive.invariant.files;
      places = found_read_more (found_by layout at) s left rest d c.args.places.now.found places places _ is on c.loop-directive.invariant.places none;
      nexts = next_read names layout at s left rest d old c.push.new.self nexts nexts _ is on entries
          (sym (ap (λ l. nexts ++ l) by.2 ∙ append-nil nexts)) c.loop-directive.invariant.nexts;
    }

pub loop-directive-preserved : goal.loop-directive-preserved
loop-directive-preserved c =
    let at = c.args.at.now in
    let d = seen_directive c.in-Some.directive in
    let s = stays (is_listed c.args.setting.now.removed at.file) in
    let left = c.loop-directive.left in
    let rest = c.next.new.self in
    let names = c.args.setting.now.undefined in
    let f = entry_alone names c.args.lookup.now at in
    let is : left ≡ d ∷ rest = search rules in
    let on = sym c.stays.ensures ∙ search rules in
    let other : name_in d.kind ≡ None = search rules in
    let added = c.in_ok-add_entry.ensures in
    let entries = added.entries names other in
    record {
      entries = entry_read f s left rest d c.loop-directive.entries c.add_entry.new.entries _ is on entries c.loop-directive.invariant.entries;
      files = added.files ∙ c.loop-directive.invariant.files;
      places = found_read_more (found_by c.args.lookup.now at) s left rest d c.args.places.now.found c.loop-directive.places.found c.add_entry.new.places.found _ is on c.loop-directive.invariant.places added.places;
      nexts = next_read names c.args.lookup.now at s left rest d c.loop-directive.entries c.add_entry.new.entries c.loop-directive.nexts.items c.add_entry.new.nexts.items _ is on
          entries added.nexts c.loop-directive.invariant.nexts;
    }
