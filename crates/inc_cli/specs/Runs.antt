-- What is asked about sources and headers, by the words and by the texts that they name.
use Rattle.std.specs.Prelude.{◌≡◌, ◌⊎◌, ℕ, Bool, ◌&&◌, not, List, [], ◌∷◌, ◌++◌, Option, Some, None, Result, Ok, Err, unwrap_or}
use Rattle.inc_text.specs.declared.languages.Language.{Language}
use Rattle.inc_lookup.specs.IncludePath.{NamedPath}
use Rattle.inc_lookup.specs.Projects.{Layout, SearchPath}
use Rattle.inc_answers.specs.Terms as report
use Rattle.inc_args.specs.Meaning.{FileWords, Limits, Question}
use Rattle.inc_graph.specs.Marks.{Cost as EdgeCost, Mark}
use Rattle.inc_cost.specs.Costs.{Group}
use Rattle.inc_inputs.specs.Baselines.{accepted}
use Rattle.inc_inputs.specs.BothNotes.{end_notes}
use Rattle.inc_inputs.specs.Ends.{EndPaths, are_ends, asked_ends, grouped_ends, tree_ends}
use Rattle.inc_inputs.specs.IncludePath.{include_path}
use Rattle.inc_inputs.specs.Inputs.{Gives}
use Rattle.inc_inputs.specs.ListNotes.{named_layout}
use Rattle.inc_inputs.specs.NamedPlaces.{Listed, named_places}
use Rattle.inc_inputs.specs.Places.{Places, places_of}
use Rattle.inc_inputs.specs.QuestionNotes.{question_notes}
use Rattle.inc_inputs.specs.Reports.{Report, input_twice, no_ends}
use Rattle.inc_inputs.specs.Steps.{Step, comes_to, judged, then}
use Rattle.inc_inputs.specs.ProjectLists.{paths_in}
use Rattle.inc_inputs.specs.Texts.{AreCosts, Texts, are_twice, texts_beside, texts_of, unless, unless_reported}
use Rattle.inc_inputs.specs.BuildProjects.{Added, Found, found_question, none_added, words_fault, words_of_question}
use Rattle.inc_inputs.specs.BuildPlaces.{include_paths_of, read_with}
use Rattle.inc_inputs.specs.BuildSteps.{found_if}
use Rattle.inc_inputs.specs.HeaderNames.{header_notes}
use Rattle.inc_inputs.specs.GlobWords.{named_report}
use Rattle.inc_inputs.specs.RuleNotes.{rule_notes, strict_ends}
use Rattle.inc_inputs.specs.WrittenBaselines.{named_ends}
use Rattle.inc_inputs.specs.declared.texts.Firsts.{Firsts}
use Rattle.inc_cli.specs.Commands.{Command, Cost, Folded, Rules, Tree, WriteBaseline, baseline_of, certificate_of, has_headers, headers_of, rules_name}

-- what a question about a project is asked of
pub record Asked : Type 0 where
  -- the paths of the files as they are written
  pub paths : List (List ℕ)
  pub layout : Layout
  pub question : report.Question
  pub limits : report.Limits
  -- the groups of headers of which it is told what they cost
  pub groups : List Group
  -- what is noted of a build, of the words and lists, and of the words for headers
  pub notes : List ℕ

-- between which files a command is asked: where it is about rules, from those that these are about, where about costs, to groups, and where about
-- trees, from one source or several
abbrev pub ends_for : Command → Layout → Question → Result EndPaths Report
ends_for (Rules f list b) layout q = strict_ends q.is_strict list.name layout list.rules
ends_for (WriteBaseline format list name) layout q = named_ends q.is_strict list.name layout list.rules
ends_for (Cost format top) layout q = grouped_ends layout q
ends_for (Tree format) layout q = tree_ends layout q
ends_for Folded layout q = tree_ends layout q
ends_for command layout q = asked_ends layout q

-- what is noted of the words that name them
abbrev pub notes_for : Command → Layout → Question → List ℕ
notes_for (Rules f list b) layout q = rule_notes list.name layout list.rules
notes_for (WriteBaseline format list name) layout q = rule_notes list.name layout list.rules
notes_for (Cost format top) layout q = header_notes layout q
notes_for (Tree format) layout q = header_notes layout q
notes_for Folded layout q = header_notes layout q
notes_for command layout q = end_notes layout q

-- the words of a question name no sources and headers, or no directives, for this reason
abbrev pub IsUnplaced : Command → Layout → Question → Limits → (without fixed : List Mark) → Report → Type 0
IsUnplaced command layout q l without fixed r =
    (ends_for command layout q ≡ Err r) ⊎ ((ends : EndPaths) × (ends_for command layout q ≡ Ok ends) × (places_of layout q l without fixed ≡ Err r))

-- what texts and words hold, whatever the project
pub record Opened : Type 0 where
  -- the paths of the files as they are written
  pub paths : List (List ℕ)
  pub costs : List EdgeCost
  -- the names that no build defines
  pub undefined : List (List ℕ)
  -- whether a header that is not found is refused, and the globs of those that are not
  pub is_strict : Bool
  pub external : List (List ℕ)
  -- the include path
  pub path : NamedPath
  -- where the lists of directives begin
  pub firsts : Firsts

-- what a build adds to a question, once the project stands: the include paths beside its own, with which of them its files are read as
-- sources, and what is noted of it and of the words and lists
pub record Built : Type 0 where
  pub others : List SearchPath
  pub read_with : List (List ℕ)
  pub notes : List ℕ

-- what is asked once sources, headers and directives are known
abbrev pub asked_for : Language → Command → Opened → Layout → Built → EndPaths → Places → (notes : List ℕ) → Asked
asked_for language command o layout b ends places notes = record {
  paths = o.paths;
  layout = layout;
  question = record {
    from = ends.from;
    to = headers_of command ends.to;
    without = places.without;
    language = language;
    undefined = o.undefined;
    others = b.others;
    read_with = b.read_with;
    is_strict = o.is_strict;
    external = o.external;
  };
  limits = record { fixed = places.fixed; kept = places.kept; costs = o.costs };
  groups = ends.groups;
  notes = notes;
}

-- what the texts hold, once the costs are known
abbrev pub opened_by : Question → Texts → List EdgeCost → Opened
opened_by q texts costs = record {
  paths = paths_in q.files texts.list;
  costs = costs;
  undefined = q.undefined;
  is_strict = q.is_strict;
  external = q.external;
  path = include_path q.files [];
  firsts = texts.firsts;
}

-- by what a build adds, with what is noted of the words and lists
abbrev pub built_by : Layout → FileWords → Opened → Added → (without fixed : List Mark) → (others : List SearchPath) → Built
built_by layout files o a without fixed others = record {
  others = others;
  read_with = read_with layout a.compiled;
  notes = a.notes ++ question_notes layout a.is_build files o.paths o.firsts without fixed o.costs;
}

-- once that is known, and all marks
abbrev pub asked_marked : {S : Type 0} → Language → Command → Question → Limits → (without fixed : List Mark) → Opened → Layout → Built → Step S Asked
asked_marked language command q l without fixed o layout b =
    then (comes_to (ends_for command layout q)) (λ ends.
    then (comes_to (places_of layout q l without fixed)) (λ places.
    comes_to (Ok (asked_for language command o layout b ends places (b.notes ++ notes_for command layout q)))))

-- the project of which a question is asked, whose files are read under the paths of the list
abbrev pub listed_by : Language → Opened → Layout → Listed
listed_by language o layout = record { layout = layout; written = o.paths; language = language }

-- once all marks are known but those of a baseline
abbrev pub asked_beside : {S : Type 0} → Gives S → Language → Command → Question → Limits → (without fixed : List Mark) → Opened → Layout → Built → Step S Asked
asked_beside gives language command q l without fixed o layout b =
    then (accepted gives (listed_by language o layout) (baseline_of command) without b.notes) (λ a.
    asked_marked language command q l a.without fixed o layout (record { others = b.others; read_with = b.read_with; notes = a.notes }))

-- once what a build adds is known; the words for places read files of the project
abbrev pub asked_built : {S : Type 0} → Gives S → Language → Command → Question → Limits → (without fixed : List Mark) → Opened → Layout → Built → Step S Asked
asked_built gives language command q l without fixed o layout b =
    then (named_places gives (listed_by language o layout) q l without fixed) (λ m. asked_beside gives language command q l m.without m.fixed o layout b)

-- once the project stands, of whose build this is added
abbrev pub asked_listed : {S : Type 0} → Gives S → Language → Command → Question → Limits → Added → (without fixed : List Mark) → Opened → Layout → Step S Asked
asked_listed gives language command q l a without fixed o layout =
    then (comes_to (include_paths_of a.others)) (λ others. asked_built gives language command q l without fixed o layout (built_by layout q.files o a without fixed others))

-- once the texts are opened
abbrev pub asked_opened : {S : Type 0} → Gives S → Language → Command → Question → Limits → Added → (without fixed : List Mark) → Opened → Step S Asked
asked_opened gives language command q l a without fixed o =
    then (comes_to (named_layout q.files o.paths o.path)) (λ layout. asked_listed gives language command q l a without fixed o layout)

-- by the texts
abbrev pub asked_by : {S : Type 0} → Gives S → Language → Command → Question → Limits → Added → Texts → Step S Asked
asked_by gives language command q l a texts =
    then (judged (AreCosts (unwrap_or l.costs []) texts.costs)) (λ costs.
    asked_opened gives language command q l a texts.without texts.fixed (opened_by q texts costs))

-- the words that name what is read for a question, with those of a certificate, of rules and of a baseline
abbrev pub list_names : Command → Question → Limits → List (Option (List ℕ))
list_names command q l = q.files.list ∷ q.without ∷ l.fixed ∷ l.costs ∷ certificate_of command ∷ rules_name command ∷ (baseline_of command).name ∷ []

-- of the project that a build names, with its words in place of those of the question
abbrev pub asked_found : {S : Type 0} → Gives S → Language → Command → Question → Limits → Found → Step S Asked
asked_found gives language command q l f =
    unless_reported (words_fault f)
    (then (texts_beside gives f.list (found_question f q) l) (λ texts. asked_by gives language command (found_question f q) l f.added texts))

-- the same where no word names a build: the words of the question stand
abbrev pub asked_with : {S : Type 0} → Gives S → Language → Command → Question → Limits → Option Found → Step S Asked
asked_with gives language command q l None = then (texts_of gives q l) (λ texts. asked_by gives language command q l none_added texts)
asked_with gives language command q l (Some f) = asked_found gives language command q l f

-- where the words name sources and headers
abbrev pub asked_named : {S : Type 0} → Gives S → Language → Command → Question → Limits → Step S Asked
asked_named gives language command q l =
    unless (are_twice (list_names command q l)) input_twice
    (then (found_if gives q.files (words_of_question q)) (λ f. asked_with gives language command q l f))

-- where it is about headers, the words must name both
abbrev pub asked_of : {S : Type 0} → Gives S → Language → Command → Question → Limits → Step S Asked
asked_of gives language command q l =
    unless (has_headers command && not (are_ends q)) no_ends
    (unless_reported (named_report language q) (asked_named gives language command q l))

-- a question that nothing limits
abbrev pub no_limits : Limits
no_limits = record { fixed = None; keep = []; only = []; costs = None }
