-- What functions that read lists give, as the definitions see it.
use Rattle.std.specs.Prelude.{ℕ, Bool, List, Option, Result, Ok, Err, map, option_map}
use Rattle.std.specs.Borrow.{Bor}
use Rattle.std.specs.Global.{Vec}
use Rattle.inc_cost.specs.Costs.{Group}
use Rattle.inc_graph.specs.Marks.{Mark}
use Rattle.inc_lookup.specs.Projects.{Layout, SearchPath}
use Rattle.inc_inputs.specs.Baselines as baselines
use Rattle.inc_inputs.specs.BuildNotes as notes
use Rattle.inc_inputs.specs.BuildProjects.{Found, macro_word}
use Rattle.inc_inputs.specs.BuildProjects as builds
use Rattle.inc_inputs.specs.Ends as ends
use Rattle.inc_inputs.specs.MarkLists as lists
use Rattle.inc_inputs.specs.NamedPlaces as named
use Rattle.inc_inputs.specs.Places as places
use Rattle.inc_inputs.specs.PpTexts as pp
use Rattle.inc_inputs.specs.Questions as questions
use Rattle.inc_inputs.specs.Reports.{Report, report_of}
use Rattle.inc_inputs.specs.Texts as texts
use Rattle.serde_json.specs.View.{view}
use Rattle.inc_build.specs.Views.{seen_build, seen_entry}
use Rattle.inc_build.specs.declared.compiler_words.Kind.{Kind}
use Rattle.inc_inputs.specs.declared.baselines.Accepted.{Accepted}
use Rattle.inc_inputs.specs.declared.baselines.Accepting.{Accepting}
use Rattle.inc_inputs.specs.declared.baselines.Baseline.{Baseline}
use Rattle.inc_inputs.specs.declared.baselines.NamedLine.{NamedLine}
use Rattle.inc_inputs.specs.declared.build_macros.MacroWord.{MacroWord}
use Rattle.inc_inputs.specs.declared.build_grounds.Database.{Database}
use Rattle.inc_inputs.specs.declared.build_grounds.Ground.{Ground}
use Rattle.inc_inputs.specs.declared.build_choices.BuildWords.{BuildWords}
use Rattle.inc_inputs.specs.declared.build_choices.Choice.{Choice}
use Rattle.inc_inputs.specs.declared.build_projects.BuildProject.{BuildProject}
use Rattle.inc_inputs.specs.declared.build_projects.Added.{Added}
use Rattle.inc_inputs.specs.declared.build_sources.BuildSource.{BuildSource}
use Rattle.inc_inputs.specs.declared.build_dirs.Dirs.{Dirs}
use Rattle.inc_inputs.specs.declared.build_texts.Notes.{Notes}
use Rattle.inc_inputs.specs.declared.ends.EndPaths.{EndPaths}
use Rattle.inc_inputs.specs.declared.failures.Failure.{Failure}
use Rattle.inc_inputs.specs.declared.named_marks.Listed.{Listed}
use Rattle.inc_inputs.specs.declared.named_marks.Marked.{Marked}
use Rattle.inc_inputs.specs.declared.places.Places.{Places}
use Rattle.inc_inputs.specs.declared.pp_texts.Defined.{Defined}
use Rattle.inc_inputs.specs.declared.pp_texts.PpTexts.{PpTexts}
use Rattle.inc_inputs.specs.declared.questions.Answered.{Answered}
use Rattle.inc_inputs.specs.declared.texts.MarkList.{MarkList}
use Rattle.inc_inputs.specs.declared.texts.Texts.{Texts}

-- the value as `f` shows it, or the report of a failure
abbrev pub seen : {A B : Type 0} → (A → B) → Result A Failure → Result B Report
seen f (Ok a) = Ok (f a)
seen f (Err failure) = Err (report_of failure)

abbrev pub seen_text : Result (Vec ℕ) Failure → Result (List ℕ) Report
seen_text result = seen (λ text. text.items) result

abbrev pub seen_marks : Result (Vec Mark) Failure → Result (List Mark) Report
seen_marks result = seen (λ marks. marks.items) result

abbrev pub mark_list_in : MarkList → lists.MarkList
mark_list_in l = record { marks = l.marks.items; first = l.first }

abbrev pub seen_mark_list : Result MarkList Failure → Result lists.MarkList Report
seen_mark_list result = seen mark_list_in result

abbrev pub texts_in : Texts → texts.Texts
texts_in t =
    record { list = t.list.items; fixed = t.fixed.items; without = t.without.items; costs = t.costs.items; firsts = t.firsts }

abbrev pub seen_texts : Result Texts Failure → Result texts.Texts Report
seen_texts result = seen texts_in result

abbrev pub seen_flags : Result (Vec Bool) Failure → Result (List Bool) Report
seen_flags result = seen (λ flags. flags.items) result

abbrev pub places_in : Places → places.Places
places_in p = record { without = p.without.items; fixed = p.fixed.items; kept = p.kept.items }

abbrev pub seen_places : Result Places Failure → Result places.Places Report
seen_places result = seen places_in result

abbrev pub listed_in : Listed → named.Listed
listed_in l = record { layout = l.project.now; written = map (λ w. w.now) l.written.now; language = l.language }

abbrev pub marked_in : Marked → named.Marked
marked_in m = record { without = m.without.items; fixed = m.fixed.items }

abbrev pub seen_marked : Result Marked Failure → Result named.Marked Report
seen_marked result = seen marked_in result

abbrev pub notes_in : Notes → notes.Kept
notes_in n = record { text = n.text.items; count = n.count }

abbrev pub named_line_in : NamedLine → baselines.NamedLine
named_line_in l = record { line = l.line; path = l.path.items; name = l.name.items }

abbrev pub seen_named : Result (Vec NamedLine) Failure → Result (List baselines.NamedLine) Report
seen_named result = seen (λ lines. map named_line_in lines.items) result

abbrev pub baseline_in : Baseline → baselines.Baseline
baseline_in b = record { name = option_map (λ n. n.now) b.name; lines = map named_line_in b.lines.now }

abbrev pub accepting_in : Accepting → baselines.Accepting
accepting_in a = record { marks = a.marks.items; notes = notes_in a.notes }

abbrev pub seen_accepting : Result Accepting Failure → Result baselines.Accepting Report
seen_accepting result = seen accepting_in result

abbrev pub accepted_in : Accepted → baselines.Accepted
accepted_in a = record { without = a.without.items; notes = a.notes.items }

abbrev pub seen_accepted : Result Accepted Failure → Result baselines.Accepted Report
seen_accepted result = seen accepted_in result

-- a word of an entry for a macro
abbrev pub macro_of : MacroWord → Kind × List ℕ
macro_of m = macro_word m.defines m.text.items

abbrev pub database_in : Database → builds.Database
database_in d = record { name = d.name.items; value = view d.value }

abbrev pub seen_database : Result Database Failure → Result builds.Database Report
seen_database result = seen database_in result

abbrev pub ground_in : Ground → builds.Ground
ground_in g = record {
  here = g.here.items;
  name = g.name.now;
  entries = map seen_entry g.entries.items;
  build = seen_build g.build;
  root = g.root.items;
  is_relative = g.is_relative;
}

abbrev pub seen_ground : Result Ground Failure → Result builds.Ground Report
seen_ground result = seen ground_in result

-- files, or directories, by their paths
abbrev pub seen_list : Result (List (List ℕ)) Failure → Result (List (List ℕ)) Report
seen_list result = seen (λ paths. paths) result

abbrev pub words_in : BuildWords → builds.Words
words_in w = record {
  sources = map (λ s. s.now) w.sources.items;
  headers = map (λ h. h.now) w.headers.items;
  has_globs = w.has_globs;
  has_macros = w.has_macros;
}

abbrev pub chosen_in : Choice → builds.Chosen
chosen_in c = record { sources = map (λ s. s.items) c.sources.items; uses = c.uses.items; has_all = c.has_all; absent = c.absent }

abbrev pub seen_chosen : Result Choice Failure → Result builds.Chosen Report
seen_chosen result = seen chosen_in result

abbrev pub dirs_in : Dirs → builds.Dirs
dirs_in d = record { dirs = map (λ d. d.items) d.dirs.items; quoted = map (λ d. d.items) d.quoted.items; system = map (λ d. d.items) d.system.items; last = map (λ d. d.items) d.last.items }

-- whether something is refused
abbrev pub seen_unit : {A : Type 0} → Result A Failure → Result (Unit {0}) Report
seen_unit result = seen (λ a. tt) result

abbrev pub source_in : BuildSource → builds.BuildSource
source_in s = record { path = s.path.items; paths = s.paths.items }

abbrev pub added_in : Added → builds.Added
added_in a =
    record { is_build = a.is_build; notes = a.notes.items; others = map dirs_in a.others.items; compiled = map source_in a.compiled.items }

abbrev pub project_in : BuildProject → Found
project_in b = record {
  list = b.list.items;
  dirs = (dirs_in b.dirs).dirs;
  quoted = (dirs_in b.dirs).quoted;
  system = (dirs_in b.dirs).system;
  last = (dirs_in b.dirs).last;
  sources = map (λ s. s.items) b.sources.items;
  headers = map (λ h. h.items) b.headers.items;
  macros = map macro_of b.macros.items;
  added = added_in b.added;
}

abbrev pub seen_found : Result BuildProject Failure → Result Found Report
seen_found result = seen project_in result

abbrev pub seen_project : Result (Option BuildProject) Failure → Result (Option Found) Report
seen_project result = seen (λ found. option_map project_in found) result

-- a path
abbrev pub seen_path : Result (Bor (List ℕ)) Failure → Result (List ℕ) Report
seen_path result = seen (λ path. path.now) result

abbrev pub seen_paths : Result (Vec (Bor (List ℕ))) Failure → Result (List (List ℕ)) Report
seen_paths result = seen (λ paths. map (λ p. p.now) paths.items) result

-- include paths
abbrev pub seen_search : Result SearchPath Failure → Result SearchPath Report
seen_search result = seen (λ path. path) result

abbrev pub seen_include_paths : Result (Vec SearchPath) Failure → Result (List SearchPath) Report
seen_include_paths result = seen (λ paths. paths.items) result

abbrev pub seen_layout : Result Layout Failure → Result Layout Report
seen_layout result = seen (λ layout. layout) result

-- an answer that a list has
abbrev pub answered_in : Answered → questions.Answered
answered_in a = record { question = a.question.now; operand = a.operand.now; number = a.number.now }

abbrev pub defined_in : Defined → pp.Defined
defined_in d = record { text = d.text.items; words = map (λ w. w.items) d.words.items }

abbrev pub seen_defined : Result Defined Failure → Result pp.Defined Report
seen_defined result = seen defined_in result

abbrev pub pp_texts_in : PpTexts → pp.PpTexts
pp_texts_in t =
    record { list = t.list.items; compiler = defined_in t.compiler; defines = map (λ w. w.items) t.defines.items; without = t.without.items }

abbrev pub seen_pp_texts : Result PpTexts Failure → Result pp.PpTexts Report
seen_pp_texts result = seen pp_texts_in result

abbrev pub end_paths_in : EndPaths → ends.EndPaths
end_paths_in e = record { from = map (λ p. p.now) e.from.items; to = map (λ p. p.now) e.to.items; groups = e.groups.items }

-- groups
abbrev pub seen_groups : Result (Vec Group) Failure → Result (List Group) Report
seen_groups result = seen (λ groups. groups.items) result

abbrev pub seen_group : Result Group Failure → Result Group Report
seen_group result = seen (λ x. x) result

abbrev pub seen_ends : Result EndPaths Failure → Result ends.EndPaths Report
seen_ends result = seen end_paths_in result
