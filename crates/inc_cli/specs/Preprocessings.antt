-- What a run comes to that preprocesses sources.
use Rattle.std.specs.Prelude.{◌≡◌, ◌++◌, ◌&&◌, ◌||◌, ℕ, Bool, true, false, List, [], ◌∷◌, Option, Some, None, Result, Ok, IfErr, IfSome, is_none, is_some, option_and_then}
use Rattle.std.specs.Io.KnownBytes.{Appends}
use Rattle.inc_text.specs.declared.languages.Language.{Language}
use Rattle.inc_text.specs.declared.devices.ReadFault.{ReadFault}
use Rattle.inc_lookup.specs.Given.{FailsAfter, HoldsOfGiven}
use Rattle.inc_lookup.specs.IncludePath.{NamedPath}
use Rattle.inc_lookup.specs.Projects.{Layout}
use Rattle.inc_check.specs.Reading.{number_in}
use Rattle.inc_pp.specs.Settings.{bounded_settings, found_in_settings, limited_settings, marked_settings, usual_settings}
use Rattle.inc_pp.specs.declared.settings.Missing.{Missing}
use Rattle.inc_pp.specs.declared.settings.Missing.TheVariants.{Empty, Stop}
use Rattle.inc_report.specs.PpTexts.{IsNextPp, IsPpBy, wanted_of}
use Rattle.inc_answers.specs.Printed.{Printed}
use Rattle.inc_answers.specs.Terms.{named_directives}
use Rattle.inc_report.specs.PpTerms.{PpQuestion}
use Rattle.inc_answers.specs.Writing.{WritesEach, is_of_certificate, unread_of}
use Rattle.inc_answers.specs.declared.outcome.End.{End}
use Rattle.inc_answers.specs.declared.outcome.RunFault.{RunFault}
use Rattle.inc_args.specs.Meaning.{Preprocessing}
use Rattle.inc_inputs.specs.Defines.{described_dirs}
use Rattle.inc_inputs.specs.IncludePath.{include_path}
use Rattle.inc_inputs.specs.GlobWords.{exclude_report}
use Rattle.inc_inputs.specs.Inputs.{Gives, Puts, listed}
use Rattle.inc_cli.specs.Outputs.{Answer, Following, Output, ended}
use Rattle.inc_inputs.specs.ListNotes.{named_layout}
use Rattle.inc_inputs.specs.PpTexts.{PpTexts, pp_texts, pp_texts_beside}
use Rattle.inc_inputs.specs.BuildProjects.{Found, found_preprocessing, with_macros, words_fault, words_of_pp}
use Rattle.inc_inputs.specs.BuildSteps.{found_if}
use Rattle.inc_build.specs.declared.compiler_words.Kind.{Kind}
use Rattle.inc_inputs.specs.Questions.{with_questions}
use Rattle.inc_inputs.specs.Reports.{Report, input_twice, no_file, no_most_output, no_most_read, one_file}
use Rattle.inc_inputs.specs.Steps.{Step, comes_to, next_of, then, writes_if}
use Rattle.inc_inputs.specs.ProjectLists.{paths_in}
use Rattle.inc_inputs.specs.Texts.{are_one, are_twice, names_input, unless, unless_reported}

-- with --missing-empty
abbrev pub missing_of : (is_empty : Bool) → Missing
missing_of true = Empty
missing_of false = Stop

-- the number that a word is that bounds a preprocessing, if it is given
abbrev pub bound_of : (word : Option (List ℕ)) → Option ℕ
bound_of word = option_and_then number_in word

-- such a word is given that is no number
abbrev pub is_no_bound : (word : Option (List ℕ)) → Bool
is_no_bound word = is_some word && is_none (bound_of word)

-- what is preprocessed
pub record PpAsked : Type 0 where
  -- the paths of the files as they are written
  pub paths : List (List ℕ)
  pub layout : Layout
  pub question : PpQuestion
  -- what is noted of a build
  pub notes : List ℕ

-- the include path by the words and by what describes a compiler
abbrev pub searched : Preprocessing → PpTexts → NamedPath
searched p texts = include_path p.files (described_dirs texts.compiler.text)

-- the words that define macros: those of the compiler come first, and those of the command line last. Those of the entry of a build stand between,
-- each of which may take away what was defined before it. The questions of the language that no word defines come after all
abbrev pub all_words : Language → Preprocessing → (macros : List (Kind × List ℕ)) → PpTexts → List (List ℕ)
all_words language p macros texts = with_questions language macros (with_macros (texts.compiler.words ++ texts.defines) macros ++ p.words)

-- what is asked of a project
abbrev pub pp_asked_for : Language → Preprocessing → (macros : List (Kind × List ℕ)) → (notes : List ℕ) → PpTexts → Layout → PpAsked
pp_asked_for language p macros notes texts layout = record {
  paths = paths_in p.files texts.list;
  layout = layout;
  question = record {
    sources = p.sources;
    words = all_words language p macros texts;
    settings = found_in_settings (searched p texts).dirs
        (bounded_settings (bound_of p.most_output)
        (limited_settings (bound_of p.most_read) (marked_settings p.has_markers (usual_settings language (missing_of p.is_missing_empty)))));
    without = texts.without;
    has_rules = is_some p.deps;
    has_endings = is_some p.status;
  };
  notes = notes;
}

-- by the texts, nothing more being read
abbrev pub pp_asked : {S : Type 0} → Language → Preprocessing → (macros : List (Kind × List ℕ)) → (notes : List ℕ) → PpTexts → Step S PpAsked
pp_asked language p macros notes texts =
    then (comes_to (named_layout p.files (paths_in p.files texts.list) (searched p texts))) (λ layout. comes_to (Ok (pp_asked_for language p macros notes texts layout)))

-- a project with this list and these notes
abbrev pub with_texts : (list notes : List ℕ) → Found → Found
with_texts list notes f = record {
  list = list;
  dirs = f.dirs;
  quoted = f.quoted;
  system = f.system;
  last = f.last;
  sources = f.sources;
  headers = f.headers;
  macros = f.macros;
  added = record { is_build = f.added.is_build; notes = notes; others = f.added.others; compiled = f.added.compiled };
}

-- of the project that a build names, with its words in place of those of the command line
abbrev pub pp_found : {S : Type 0} → Gives S → Language → Preprocessing → Found → Step S PpAsked
pp_found gives language p f =
    unless_reported (words_fault f)
    (then (pp_texts_beside gives language f.list (found_preprocessing f p)) (λ texts. pp_asked language (found_preprocessing f p) f.macros f.added.notes texts))

-- the same where no word names a build
abbrev pub pp_with : {S : Type 0} → Gives S → Language → Preprocessing → Option Found → Step S PpAsked
pp_with gives language p None = then (pp_texts gives language p) (λ texts. pp_asked language p [] [] texts)
pp_with gives language p (Some f) = pp_found gives language p f

abbrev pub pp_named : {S : Type 0} → Gives S → Language → Preprocessing → Step S PpAsked
pp_named gives language p =
    unless (are_twice (p.files.list ∷ p.without ∷ p.compiler ∷ p.defines ∷ [])) input_twice
    (then (found_if gives p.files (words_of_pp p)) (λ f. pp_with gives language p f))

-- the words for files that are left out are globs
abbrev pub pp_without : {S : Type 0} → Gives S → Language → Preprocessing → Step S PpAsked
pp_without gives language p = unless_reported (exclude_report p.files) (pp_named gives language p)

-- no two texts go to one file
abbrev pub pp_apart : {S : Type 0} → Gives S → Language → Preprocessing → Step S PpAsked
pp_apart gives language p = unless (are_one p.deps p.status) one_file (pp_without gives language p)

-- what is written beside the answer goes to files
abbrev pub pp_bounded : {S : Type 0} → Gives S → Language → Preprocessing → Step S PpAsked
pp_bounded gives language p = unless (names_input p.deps || names_input p.status) no_file (pp_apart gives language p)

-- what bounds its output is a number
abbrev pub pp_limited : {S : Type 0} → Gives S → Language → Preprocessing → Step S PpAsked
pp_limited gives language p = unless (is_no_bound p.most_output) no_most_output (pp_bounded gives language p)

-- what bounds what is read for it is a number
abbrev pub pp_of : {S : Type 0} → Gives S → Language → Preprocessing → Step S PpAsked
pp_of gives language p = unless (is_no_bound p.most_read) no_most_read (pp_limited gives language p)

---- what is printed

-- of the first of these sources p is printed, once their files were read on the way from one state to another
abbrev pub IsPpOf : {S : Type 0} → Gives S → PpAsked → (old new : S) → (done : List (List ℕ)) → Printed → Type 0
IsPpOf gives a old new done p =
    let q : PpQuestion = a.question in
    HoldsOfGiven (listed gives a.paths) old new a.layout
    (IsPpBy (wanted_of q) done q.words q.settings (named_directives a.layout q.without) p)

-- a file was not read that is the next for a source, after what is printed of those before it
abbrev pub FailsFor : {S : Type 0} → Gives S → PpAsked → (old new : S) → Output → ℕ × ReadFault → Type 0
FailsFor gives a old new out r =
    let q : PpQuestion = a.question in
    (done more : List (List ℕ)) × (source : List ℕ) × (p : Printed) × (q.sources ≡ done ++ source ∷ more) × Appends out.before out.after p.text
    × FailsAfter (listed gives a.paths) old new a.layout r.0 r.1
    (IsNextPp (wanted_of q) done source q.words q.settings (named_directives a.layout q.without) p r.0)

-- the sources were preprocessed one after the other, or a file could not be read
pub record PrintsEach {S : Type 0} (gives : Gives S) (a : PpAsked) (old new : S) (out : Output) (result : Result End RunFault) : Type 0 where
  pub writes : WritesEach (IsPpOf gives a old) a.question.sources new out.before out.after out.failed result
  pub unread : IfErr result (λ fault. IfSome (unread_of fault) (FailsFor gives a old new out))
  -- there is no certificate
  pub certificate : IfErr result (λ fault. is_of_certificate fault ≡ false)

---- what is written beside it

-- the texts that stand beside an answer are written, each to the file that a word names
abbrev pub writes_texts : {S : Type 0} → Puts S → Preprocessing → Answer → Step S (Unit {0})
writes_texts puts p answer = then (writes_if puts p.deps answer.end.rules) (λ written. writes_if puts p.status answer.end.endings)

-- they are after an answer, and after a failure none
abbrev pub writes_beside : {S : Type 0} → Puts S → Preprocessing → Result Answer Report → Step S Answer
writes_beside puts p told = next_of (λ answer. then (writes_texts puts p answer) (λ written. comes_to (Ok answer))) told

-- sources were preprocessed, and what stands beside the answer was written
abbrev pub IsPreprocessed : {S : Type 0} → Gives S → Puts S → Preprocessing → Following S PpAsked
IsPreprocessed {S} gives puts p a old out answer =
    (result : Result End RunFault) × (mid new : S) × PrintsEach gives a old mid out result
    × writes_beside puts p (ended a.notes a.paths [] result) mid answer new
