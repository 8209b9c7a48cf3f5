-- The steps by which words name directives in the files of a project.
use Rattle.std.proofs.Common.{◌≡◌, ◌≢◌, ◌++◌, ℕ, Bool, true, false, List, [], ◌∷◌, Option, Some, None, Result, Ok, Err, is_some, length, refl, sym, ap, subst, ◌∙◌}
use Rattle.std.specs.Prelude.{◌==◌}
use Rattle.inc_text.specs.declared.devices.ReadFault.{ReadFault}
use Rattle.inc_text.specs.declared.languages.Language.{Language}
use Rattle.inc_graph.specs.Marks.{Mark}
use Rattle.inc_inputs.specs.Ends.{word_paths}
use Rattle.inc_inputs.specs.Inputs.{Gives, ListedAt}
use Rattle.inc_inputs.specs.NamedPlaces.{Listed, bytes_marks, more_marks, with_file, with_glob, with_name, with_path, with_word}
use Rattle.inc_inputs.specs.PlaceWords.{line_colon, name_colon}
use Rattle.inc_inputs.specs.Reports.{Report, no_directive, read_report}
use Rattle.inc_inputs.specs.Steps.{Comes, Step, comes_to, each, reads_as}
use Rattle.inc_inputs.specs.declared.sides.Side.{Side}
use Rattle.inc_inputs.proofs.StepLemmas.{then_err, then_ok}

---- a file

module _ {S : Type 0} (gives : Gives S) (language : Language) (name : Option (List ℕ)) (path written : List ℕ) (ms : List Mark) (old new : S) where
  abbrev with_bytes : List ℕ → Step S (List Mark)
  with_bytes bytes = comes_to (Ok (ms ++ bytes_marks language name path bytes))

  -- one that is read
  pub file_read : (bytes : List ℕ) (all : List Mark) → gives old (ListedAt written) (Ok bytes) new → all ≡ ms ++ bytes_marks language name path bytes
      → with_file gives language name path (Some written) ms old (Ok all) new
  file_read bytes all given is =
      then_ok (reads_as gives written (ListedAt written)) with_bytes old new new bytes (Ok all) (Ok bytes, given, refl) (ap (λ xs. Ok xs) is, refl)

  -- one that is not
  pub file_unread : (fault : ReadFault) → gives old (ListedAt written) (Err fault) new
      → with_file gives language name path (Some written) ms old (Err (read_report fault written)) new
  file_unread fault given =
      then_err (reads_as gives written (ListedAt written)) with_bytes old new (read_report fault written) (Err fault, given, refl)

---- a word

module _ {S : Type 0} (gives : Gives S) (p : Listed) (side : Side) (word : List ℕ) (ms : List Mark) where
  -- one with a line
  pub word_lined : (old : S) → is_some (line_colon word) ≡ true → with_word gives p side word ms old (Ok ms) old
  word_lined old some = by (line_colon word) some
    where
      by : (o : Option ℕ) → is_some o ≡ true
          → (elim o as (λ _. Step S (List Mark)) [ Some n ↦ comes_to (Ok ms) | None ↦ with_name gives p side word (name_colon word) ms ]) old (Ok ms) old
      by (Some n) is = (refl, refl)
      by None is = cc

  -- one without
  pub word_unlined : (old new : S) (x : Result (List Mark) Report) → is_some (line_colon word) ≡ false
      → with_name gives p side word (name_colon word) ms old x new → with_word gives p side word ms old x new
  word_unlined old new x none named = by (line_colon word) none
    where
      by : (o : Option ℕ) → is_some o ≡ false
          → (elim o as (λ _. Step S (List Mark)) [ Some n ↦ comes_to (Ok ms) | None ↦ with_name gives p side word (name_colon word) ms ]) old x new
      by (Some n) is = cc
      by None is = named

-- the files for which a glob stands
pub glob_known : {S : Type 0} (gives : Gives S) (p : Listed) (side : Side) (name : Option (List ℕ)) (glob : List ℕ) (ms : List Mark) (old new : S) (x : Result (List Mark) Report)
    (paths : List (List ℕ)) → word_paths p.layout side glob ≡ Ok paths → each (with_path gives p name) paths ms old x new → with_glob gives p side name glob ms old x new
glob_known gives p side name glob ms old new x paths is rest =
    then_ok (comes_to (word_paths p.layout side glob)) (λ ps. each (with_path gives p name) ps ms) old old new paths x (sym is, refl) rest

pub glob_unknown : {S : Type 0} (gives : Gives S) (p : Listed) (side : Side) (name : Option (List ℕ)) (glob : List ℕ) (ms : List Mark) (old : S) (r : Report)
    → word_paths p.layout side glob ≡ Err r → with_glob gives p side name glob ms old (Err r) old
glob_unknown gives p side name glob ms old r is =
    then_err (comes_to (word_paths p.layout side glob)) (λ ps. each (with_path gives p name) ps ms) old old r (sym is, refl)

-- there are more marks than before, or not
pub no_more : (option word : List ℕ) (before ms : List Mark) → (length ms == length before) ≡ true → Err (no_directive option word) ≡ more_marks option word before ms
no_more option word before ms same = sym (ap (λ b. elim b as (λ _. Result (List Mark) Report) [ true ↦ Err (no_directive option word) | false ↦ Ok ms ]) same)

pub some_more : (option word : List ℕ) (before ms : List Mark) → (length ms == length before) ≡ false → Ok ms ≡ more_marks option word before ms
some_more option word before ms other = sym (ap (λ b. elim b as (λ _. Result (List Mark) Report) [ true ↦ Err (no_directive option word) | false ↦ Ok ms ]) other)
