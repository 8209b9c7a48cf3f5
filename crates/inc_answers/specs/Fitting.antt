-- Cuts whose certificates a text can hold.
use Rattle.std.specs.Prelude.{◌≡◌, ◌⊎◌, ℕ, ◌≤◌, ◌&&◌, Bool, true, List, length, map, nat_le}
use Rattle.std.specs.List.{list_all}
use Rattle.inc_lookup.specs.Projects.{Layout}
use Rattle.inc_graph.specs.Cuts.{Counted, fixed_by, costs_by, IsCut}
use Rattle.inc_graph.specs.IncludeGraph.{Graph}
use Rattle.inc_check.specs.Certificates.{marks_of, chain_marks, certificate_of}
use Rattle.inc_check.specs.Texts.{greatest_number, is_short_mark, certificate_text}
use Rattle.inc_check.specs.declared.certificates.CountedMarks.{CountedMarks}
use Rattle.inc_answers.specs.AnswerNotes.{empty_notes}
use Rattle.inc_answers.specs.CutText.{IsFixedPrinted}
use Rattle.inc_answers.specs.Printed.{Printed, answered_of}

-- a chain that counts so often
abbrev pub counted_as : (chain : List ℕ) → (count : ℕ) → Counted
counted_as chain count = record { chain = chain; count = count }

-- a chain whose marks and count a text can hold
abbrev pub is_fit_chain : CountedMarks → Bool
is_fit_chain k = list_all is_short_mark k.marks && nat_le k.count greatest_number

-- marks and counts that a text can hold, and no more chains than edges
pub record IsFit (layout : Layout) (g : Graph) (set : List ℕ) (chains : List Counted) : Type 0 where
  pub marks : list_all is_short_mark (marks_of layout g set) ≡ true
  pub counted : list_all is_fit_chain (map (chain_marks layout g) chains) ≡ true
  pub few : length chains ≤ length g.edges

-- printed is the nearest cut, with chains that show that none is cheaper, and a text can hold them
abbrev pub IsFitCutPrinted : Layout → Graph → (amounts : List ℕ) → Printed → Type 0
IsFitCutPrinted layout g amounts p =
    (set : List ℕ) × (chains : List Counted) × IsCut g (fixed_by amounts) (costs_by amounts) set chains × IsFit layout g set chains
    × (p ≡ answered_of (empty_notes layout g) (certificate_text (certificate_of layout g set chains)))

-- what `cut` prints of a graph: such a cut, or why there is none
abbrev pub IsFitCutOf : Layout → Graph → (amounts : List ℕ) → Printed → Type 0
IsFitCutOf layout g amounts p = IsFitCutPrinted layout g amounts p ⊎ IsFixedPrinted layout g amounts p
