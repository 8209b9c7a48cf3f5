-- The text that `cut --blank` prints: the files that hold a directive of the cut, with these directives blanked.
use Rattle.std.specs.Prelude.{◌≡◌, ◌⊎◌, ℕ, List, ◌++◌, length, codes, decimal, flat_map}
use Rattle.inc_text.specs.declared.languages.Language.{Language}
use Rattle.inc_lookup.specs.Given.{Given}
use Rattle.inc_lookup.specs.Projects.{Layout, Listing}
use Rattle.inc_graph.specs.Cuts.{fixed_by, costs_by, directives_of, IsNearest}
use Rattle.inc_graph.specs.IncludeGraph.{Graph}
use Rattle.inc_check.specs.Texts.{line_text}
use Rattle.inc_answers.specs.AnswerNotes.{empty_notes}
use Rattle.inc_answers.specs.Changes.{Change, changes}
use Rattle.inc_answers.specs.CutText.{WithAmounts, IsFixedPrinted}
use Rattle.inc_answers.specs.Numbers.{count_text}
use Rattle.inc_answers.specs.PatchText.{patch_text}
use Rattle.inc_answers.specs.Printed.{Printed, answered_of}
use Rattle.inc_answers.specs.Questions.{IsAnswerBy}
use Rattle.inc_answers.specs.Strictness.{Strict, open_strays_of}
use Rattle.inc_answers.specs.Terms.{Question, Limits}

-- a changed file: how many bytes it has and its path, then its bytes as they are, and LF
abbrev pub file_text : Change → List ℕ
file_text c = line_text (codes "file " ++ decimal (length c.after) ++ codes " " ++ c.path) ++ line_text c.after

-- how many files change, and each
abbrev pub files_text : List Change → List ℕ
files_text cs = count_text (codes "files") (length cs) ++ flat_map file_text cs

-- printed is a text of the files that the nearest cut changes, or a chain of fixed edges alone
abbrev pub AreChangesOf : (List Change → List ℕ) → Language → Listing → Layout → Graph → (amounts : List ℕ) → Printed → Type 0
AreChangesOf text language listing layout g amounts p =
    ((set : List ℕ) × IsNearest g (fixed_by amounts) (costs_by amounts) set
    × (p ≡ answered_of (empty_notes layout g) (text (changes language listing (directives_of g set)))))
    ⊎ IsFixedPrinted layout g amounts p

-- the same of a question, and which files are read for that
abbrev pub AreChangesBy : (List Change → List ℕ) → Question → Limits → Printed → List Given → Listing → Type 0
AreChangesBy text q l p given listing = IsAnswerBy (Strict (open_strays_of q) (WithAmounts l (AreChangesOf text q.language listing))) q p given listing

-- what `cut --blank` prints, and which files are read for that
abbrev pub IsBlankBy : Question → Limits → Printed → List Given → Listing → Type 0
IsBlankBy q l p given listing = AreChangesBy files_text q l p given listing

-- what `cut --patch` prints, and which files are read for that
abbrev pub IsPatchBy : Question → Limits → Printed → List Given → Listing → Type 0
IsPatchBy q l p given listing = AreChangesBy patch_text q l p given listing
