-- Which texts are read for a preprocessing, in which order, and what they come to.
use Rattle.std.specs.Prelude.{◌≡◌, ℕ, Bool, true, false, List, [], Option, Some, None, Result, Ok, Err}
use Rattle.inc_graph.specs.Marks.{Mark}
use Rattle.inc_args.specs.Meaning.{Preprocessing}
use Rattle.inc_text.specs.declared.languages.Language.{Language}
use Rattle.inc_inputs.specs.Defines.{defined_words}
use Rattle.inc_inputs.specs.Inputs.{Gives}
use Rattle.inc_inputs.specs.ProjectLists.{list_of}
use Rattle.inc_inputs.specs.Reports.{IsReportBy, Report, definitions_report}
use Rattle.inc_inputs.specs.Steps.{Step, comes_to, judged, reads, then}
use Rattle.inc_inputs.specs.Texts.{marks_of}

-- the words of the text of a list of this name, which may describe a compiler, or where it is malformed
abbrev pub AreWords : Language → (is_compiler : Bool) → (name text : List ℕ) → Result (List (List ℕ)) Report → Type 0
AreWords language is_compiler name text (Ok words) = defined_words language is_compiler text ≡ Ok words
AreWords language is_compiler name text (Err r) = IsReportBy (definitions_report is_compiler) (λ line. defined_words language is_compiler text ≡ Err line) name r

-- a list of definitions that was read: its text, and its words
pub record Defined : Type 0 where
  pub text : List ℕ
  pub words : List (List ℕ)

-- a list that is read; an empty one where none is named
abbrev pub defined_by : {S : Type 0} → Gives S → Language → (is_compiler : Bool) → Option (List ℕ) → Step S Defined
defined_by gives language is_compiler None = comes_to (Ok (record { text = []; words = [] }))
defined_by gives language is_compiler (Some name) =
    then (reads gives name) (λ text.
    then (judged (AreWords language is_compiler name text)) (λ words.
    comes_to (Ok (record { text = text; words = words }))))

-- what a preprocessing rests on
pub record PpTexts : Type 0 where
  -- the text of the list of files
  pub list : List ℕ
  -- what describes a compiler
  pub compiler : Defined
  -- the words of the list of definitions
  pub defines : List (List ℕ)
  pub without : List Mark

-- where the list of files is known
abbrev pub pp_texts_beside : {S : Type 0} → Gives S → Language → (list : List ℕ) → Preprocessing → Step S PpTexts
pp_texts_beside gives language list p =
    then (defined_by gives language true p.compiler) (λ compiler.
    then (defined_by gives language false p.defines) (λ defines.
    then (marks_of gives p.without) (λ without.
    comes_to (Ok (record { list = list; compiler = compiler; defines = defines.words; without = without.marks })))))

abbrev pub pp_texts : {S : Type 0} → Gives S → Language → Preprocessing → Step S PpTexts
pp_texts gives language p = then (list_of gives p.files) (λ list. pp_texts_beside gives language list p)
