-- Which texts are read for a question about a project, in which order, and what they come to.
use Rattle.std.specs.Prelude.{◌≡◌, ◌++◌, ℕ, Bool, true, false, List, [], Option, Some, None, Result, Ok, Err, bytes_eq, codes, count_by, nat_lt}
use Rattle.std.specs.Option.{option_map_or}
use Rattle.inc_lookup.specs.IncludePath.{NamedPath}
use Rattle.inc_lookup.specs.Projects.{Layout, project_of}
use Rattle.inc_lookup.specs.declared.projects.ProjectFault.{ProjectFault}
use Rattle.inc_graph.specs.Marks.{Cost, Mark}
use Rattle.inc_check.specs.Texts.{CostsFormat, IsCostsText, IsMalformed, whole_lines}
use Rattle.inc_args.specs.Meaning.{Limits, Question}
use Rattle.inc_inputs.specs.IncludePath.{dir_names}
use Rattle.inc_inputs.specs.Inputs.{Gives}
use Rattle.inc_inputs.specs.MarkLists.{MarkList, first_listed, listed_marks, no_marks}
use Rattle.inc_inputs.specs.ProjectLists.{list_of}
use Rattle.inc_inputs.specs.Reports.{IsListReport, Report, project_report}
use Rattle.inc_inputs.specs.Steps.{Step, comes_to, judged, reads, reads_if, then}
use Rattle.inc_inputs.specs.declared.texts.Firsts.{Firsts}

---- words

-- standard input is named
abbrev pub names_input : Option (List ℕ) → Bool
names_input name = option_map_or (λ word. bytes_eq word (codes "-")) name false

-- standard input can be read once only
abbrev pub are_twice : List (Option (List ℕ)) → Bool
are_twice names = nat_lt 1 (count_by names_input names)

-- two words for files are the same
abbrev pub are_one : (first second : Option (List ℕ)) → Bool
are_one (Some a) (Some b) = bytes_eq a b
are_one None second = false
are_one (Some a) None = false

-- the step, or the failure in its place
abbrev pub unless : {S A : Type 0} → Bool → Report → Step S A → Step S A
unless true report step = comes_to (Err report)
unless false report step = step

-- the step, where nothing is to be reported
abbrev pub unless_reported : {S A : Type 0} → Option Report → Step S A → Step S A
unless_reported (Some report) step = comes_to (Err report)
unless_reported None step = step

---- lists

-- the directives of the text of a list of this name, or where it is malformed
abbrev pub AreMarks : (name text : List ℕ) → Result MarkList Report → Type 0
AreMarks name text (Ok list) = (listed_marks text ≡ Ok list.marks) × (list.first ≡ first_listed text)
AreMarks name text (Err r) = IsListReport (λ line. listed_marks text ≡ Err line) name r

-- none where no list is named
abbrev pub marks_of : {S : Type 0} → Gives S → Option (List ℕ) → Step S MarkList
marks_of gives None = comes_to (Ok no_marks)
marks_of gives (Some name) = then (reads gives name) (λ text. judged (AreMarks name text))

-- the costs of the text of a list of this name, or where it is malformed
abbrev pub AreCosts : (name text : List ℕ) → Result (List Cost) Report → Type 0
AreCosts name text (Ok costs) = IsCostsText text costs
AreCosts name text (Err r) = IsListReport (IsMalformed CostsFormat text) name r

-- what a question about a project rests on
pub record Texts : Type 0 where
  -- the text of the list of files
  pub list : List ℕ
  pub fixed : List Mark
  pub without : List Mark
  -- that of the costs, each line ended by LF alone
  pub costs : List ℕ
  -- the lines of the first directives of these lists
  pub firsts : Firsts

abbrev pub texts_by : (list : List ℕ) → (fixed without : MarkList) → (costs : List ℕ) → Texts
texts_by list fixed without costs = record {
  list = list;
  fixed = fixed.marks;
  without = without.marks;
  costs = whole_lines costs;
  firsts = record { without = without.first; fixed = fixed.first };
}

-- where the list of files is known
abbrev pub texts_beside : {S : Type 0} → Gives S → (list : List ℕ) → Question → Limits → Step S Texts
texts_beside gives list q l =
    then (marks_of gives l.fixed) (λ fixed.
    then (marks_of gives q.without) (λ without.
    then (reads_if gives l.costs) (λ costs.
    comes_to (Ok (texts_by list fixed without costs)))))

abbrev pub texts_of : {S : Type 0} → Gives S → Question → Limits → Step S Texts
texts_of gives q l = then (list_of gives q.files) (λ list. texts_beside gives list q l)

abbrev pub layout_or : (written : List (List ℕ)) → Result Layout ProjectFault → Result Layout Report
layout_or written (Ok layout) = Ok layout
layout_or written (Err fault) = Err (project_report fault written)

-- the project of files with these paths and of this include path, or why there is none
abbrev pub listed_layout : (paths : List (List ℕ)) → NamedPath → Result Layout Report
listed_layout paths path = layout_or (paths ++ dir_names path.dirs) (project_of paths path.quoted (dir_names path.dirs))
