-- The text that `pp` prints of its sources: what it prints of each, one under the other, and under a line with its path where there are several.
use Rattle.std.specs.Prelude.{◌≡◌, ◌≢◌, ℕ, Bool, true, false, List, [], ◌∷◌, ◌++◌, Option, Some, None, Result, Ok, Err, length, map, flat_map, nat_lt, codes}
use Rattle.std.specs.List.{All}
use Rattle.inc_lookup.specs.declared.projects.DirectiveId.{DirectiveId}
use Rattle.inc_lookup.specs.Given.{Given}
use Rattle.inc_lookup.specs.Projects.{Layout, Listing, layout_of}
use Rattle.inc_macro.specs.declared.faults.DefineFault.{DefineFault}
use Rattle.inc_check.specs.Texts.{line_text}
use Rattle.inc_pp.specs.Preprocessing.{Outcome, preprocessing}
use Rattle.inc_pp.specs.Readings.{IsOfReadsAfter}
use Rattle.inc_pp.specs.Settings.{Settings, sourced_settings}
use Rattle.inc_answers.specs.declared.outcome.EndKind.{EndKind}
use Rattle.inc_answers.specs.declared.outcome.EndKind.TheVariants.{Answered, Negative, Refused}
use Rattle.inc_answers.specs.NamedFiles.{file_at}
use Rattle.inc_answers.specs.NearNames.{source_notes}
use Rattle.inc_report.specs.PpText.{define_number, outcome_printed}
use Rattle.inc_report.specs.MakeRules.{outcome_rule}
use Rattle.inc_answers.specs.Printed.{Printed, end_of, with_texts}
use Rattle.inc_answers.specs.Refusals.{NoSuchSource, BadDefinition, refusal}
use Rattle.inc_report.specs.SourceEndings.{ending_text, outcome_ending}
use Rattle.inc_report.specs.StopReasons.{stop_reasons}
use Rattle.inc_report.specs.PpTerms.{PpQuestion}
use Rattle.inc_report.specs.declared.pp.Wanted.{Wanted}

---- one source

-- what is printed of a source, the files that are read for it, in order, its rule for make, how it ended, and why it stopped, if it did
pub record Section : Type 0 where
  pub printed : Printed
  pub reads : List ℕ
  pub rule : List ℕ
  pub ending : List ℕ
  pub stop : List ℕ

-- a refusal says itself how it ended
abbrev pub refused_section : Printed → Section
refused_section p = record { printed = p; reads = []; rule = []; ending = p.text; stop = [] }

-- of its outcome, or of the word that makes no definition
abbrev pub section_of : Layout → Result Outcome (ℕ × DefineFault) → Section
section_of layout (Ok o) = record {
  printed = outcome_printed layout o;
  reads = o.reads;
  rule = outcome_rule layout o;
  ending = outcome_ending layout o;
  stop = stop_reasons layout o.stop;
}
section_of layout (Err b) = refused_section (refusal (BadDefinition b.0 (define_number b.1)))

-- of its file, if there is one: the source is called by this path
abbrev pub section_at : Listing → (words : List (List ℕ)) → Settings → (without : List DirectiveId) → (source : List ℕ) → Option ℕ → Section
section_at listing words settings without source None = refused_section (refusal NoSuchSource)
section_at listing words settings without source (Some file) =
    section_of (layout_of listing) (preprocessing listing file words (sourced_settings source settings) without)

abbrev pub section : Listing → (words : List (List ℕ)) → Settings → (without : List DirectiveId) → (source : List ℕ) → Section
section listing words settings without source = section_at listing words settings without source (file_at (layout_of listing) source)

---- all sources

-- whether each has a line above it
abbrev pub are_several : {X : Type 0} → List X → Bool
are_several xs = nat_lt 1 (length xs)

-- that line
abbrev pub title : Bool → (source : List ℕ) → List ℕ
title true source = line_text (codes "source " ++ source)
title false source = []

-- the worse of two ends
abbrev pub worse : EndKind → EndKind → EndKind
worse Answered e = e
worse Negative Answered = Negative
worse Negative Negative = Negative
worse Negative Refused = Refused
worse Refused e = Refused

abbrev pub worst : List EndKind → EndKind
worst [] = Answered
worst (e ∷ es) = worse e (worst es)

-- what is asked for of each source: a line above it, if there are several, and texts for files, its rule for make and how it ended
abbrev pub wanted_of : PpQuestion → Wanted
wanted_of q = record { titles = are_several q.sources; rules = q.has_rules; endings = q.has_endings }

-- a text that is asked for
abbrev pub if_wanted : Bool → List ℕ → List ℕ
if_wanted true text = text
if_wanted false text = []

-- what is printed of a source below its line, and told beside it
abbrev pub shown : Wanted → (source : List ℕ) → Section → Printed
shown wanted source s = record {
  text = title wanted.titles source ++ s.printed.text;
  end = with_texts (if_wanted wanted.rules s.rule)
      (if_wanted wanted.endings (ending_text source (title wanted.titles source ++ s.printed.text) s.ending)) s.stop (end_of [] s.printed.end.kind);
}

-- what is printed of sources, by what is shown of each, and what is said beside it
abbrev pub all_shown : (List ℕ → Printed) → (notes : List (List ℕ) → List ℕ) → (sources : List (List ℕ)) → Printed
all_shown of notes sources = record {
  text = flat_map (λ s. (of s).text) sources;
  end = with_texts (flat_map (λ s. (of s).end.rules) sources) (flat_map (λ s. (of s).end.endings) sources) (flat_map (λ s. (of s).end.stops) sources)
      (end_of (notes sources) (worst (map (λ s. (of s).end.kind) sources)));
}

-- by the section of each
abbrev pub all_printed : Wanted → (List ℕ → Section) → (notes : List (List ℕ) → List ℕ) → (sources : List (List ℕ)) → Printed
all_printed wanted of notes sources = all_shown (λ s. shown wanted s (of s)) notes sources

-- the files that are read for them, in order
abbrev pub all_reads : (List ℕ → Section) → (sources : List (List ℕ)) → List ℕ
all_reads of sources = flat_map (λ s. (of s).reads) sources

---- what is printed and read of a listing

-- p is printed of the sources, and of the files of the listing those were read that are read for them, each once
pub record IsPpBy (wanted : Wanted) (sources words : List (List ℕ)) (settings : Settings) (without : List DirectiveId) (p : Printed) (given : List Given) (listing : Listing) : Type 0 where
  pub is : p ≡ all_printed wanted (section listing words settings without) (source_notes (layout_of listing)) sources
  pub read : IsOfReadsAfter [] (all_reads (section listing words settings without) sources) given

-- of the files that are to be read the first were, after earlier readings, and this file is the next
pub record IsNextOf (reads : List ℕ) (file : ℕ) (earlier given : List Given) : Type 0 where
  -- the files before it
  pub before : List ℕ
  -- those after it
  pub more : List ℕ
  -- together they are the reads
  pub is : reads ≡ before ++ file ∷ more
  -- those before were read, and no others
  pub read : IsOfReadsAfter earlier before given
  -- this file was not read
  pub fresh : All (λ (g : Given). g.file ≢ file) given

-- p is printed of the first sources, their files were read, and of those of the source after them the first, and this file is the next of these
pub record IsNextPp (wanted : Wanted) (done : List (List ℕ)) (source : List ℕ) (words : List (List ℕ)) (settings : Settings) (without : List DirectiveId) (p : Printed) (file : ℕ)
    (given : List Given) (listing : Listing) : Type 0 where
  pub is : p ≡ all_printed wanted (section listing words settings without) (source_notes (layout_of listing)) done
  pub earlier : List Given
  pub read : IsOfReadsAfter [] (all_reads (section listing words settings without) done) earlier
  pub next : IsNextOf (section listing words settings without source).reads file earlier given
