-- Walks over the tokens that are put out, and what one more token changes in the text.
use Rattle.std.specs.Prelude.{◌≡◌, ℕ, Bool, List, [], ◌∷◌, ◌++◌, Option, Some, None, if◌then◌else◌, map}
use Rattle.inc_text.specs.Ascii.{line_feed, blank}
use Rattle.inc_expand.specs.Expansion.{Item}
use Rattle.inc_pp.specs.declared.labels.Label.{Label}
use Rattle.inc_pp.specs.declared.output.OutTokenRef.{OutTokenRef}
use Rattle.inc_pp.specs.Labels.{label_of, tokens_in}
use Rattle.inc_pp.specs.Printed.{printed}
use Rattle.inc_pp.specs.Tasks.{OutToken}

-- the labels are those of these tokens, and the text is theirs
pub record IsKept (labels : List Label) (text : List ℕ) : Type 0 where
  pub marked : map label_of (tokens_in labels text) ≡ labels
  pub printed : printed (tokens_in labels text) ≡ text

abbrev pub seen_token : OutTokenRef → OutToken
seen_token t = record { kind = t.kind; spelling = t.spelling.now; starts = t.starts }

-- the walk gives the first of what is left, or nothing is left
abbrev pub GoesOn : List OutToken → Option OutToken → List OutToken → Type 0
GoesOn old None new = (old ≡ []) × (new ≡ [])
GoesOn old (Some t) new = old ≡ t ∷ new

-- with another last byte
abbrev pub ended : ℕ → List ℕ → List ℕ
ended s [] = []
ended s (b ∷ []) = s ∷ []
ended s (b ∷ c ∷ bs) = b ∷ ended s (c ∷ bs)

-- what is before a token
abbrev pub separator : Bool → ℕ
separator starts = if starts then line_feed else blank

-- the text with one more token
abbrev pub with_token : Bool → List ℕ → List ℕ → List ℕ
with_token starts spelling text = ended (separator starts) text ++ (spelling ++ (line_feed ∷ []))

-- one more token of an expansion is put out
abbrev pub takes_item : List OutToken → Bool → Item → List OutToken → Type 0
takes_item old first i new = new ≡ old ++ record { kind = i.kind; spelling = i.spelling; starts = first } ∷ []
