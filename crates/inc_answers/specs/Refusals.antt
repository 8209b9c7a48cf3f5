-- Refusals, which are printed in place of an answer.
use Rattle.std.specs.Prelude.{ℕ, List, ◌++◌, codes, decimal, map}
use Rattle.inc_lookup.specs.Projects.{Layout}
use Rattle.inc_graph.specs.declared.graphs.Blocker.{Blocker}
use Rattle.inc_graph.specs.Marks.{Mark}
use Rattle.inc_graph.specs.MissingLists.{Missing}
use Rattle.inc_check.specs.Texts.{line_text, marks_text}
use Rattle.inc_answers.specs.MarkTexts.{mark_text, missing_mark, blockers_text}
use Rattle.inc_answers.specs.Numbers.{point_text}
use Rattle.inc_answers.specs.Printed.{Printed, refused, refused_for}

pub data Refusal : Type 0 where
  NoSuchSource : Refusal
  NoSuchHeader : Refusal
  -- at the first fault of a file
  BadFile : Mark → Refusal
  TooManyDirectives : Refusal
  -- by all of these, whose files are those of the layout
  Blocked : Layout → List Blocker → Refusal
  -- by all of these, whose files are those of the layout
  NotFound : Layout → List Missing → Refusal
  NoSuchDirective : Mark → Refusal
  NoSuchCost : Mark → Refusal
  CostTwice : Mark → Refusal
  -- a certificate, at this line
  Malformed : (line : ℕ) → Refusal
  -- the word at this place from 0, by the number of its fault
  BadDefinition : (index fault : ℕ) → Refusal
  TooLong : Refusal

abbrev pub refusal_text : Refusal → List ℕ
refusal_text NoSuchSource = line_text (codes "refused 1 no such source")
refusal_text NoSuchHeader = line_text (codes "refused 2 no such header")
refusal_text (BadFile at) = line_text (codes "refused 3 bad file") ++ mark_text at
refusal_text TooManyDirectives = line_text (codes "refused 4 too many directives")
refusal_text (Blocked layout blockers) = line_text (codes "refused 5 blocked") ++ blockers_text layout blockers
refusal_text (NotFound layout ms) = line_text (codes "refused 12 missing") ++ marks_text (map (missing_mark layout) ms)
refusal_text (NoSuchDirective mark) = line_text (codes "refused 6 no such directive") ++ mark_text mark
refusal_text (Malformed line) = line_text (codes "refused 7 malformed " ++ decimal line)
refusal_text (BadDefinition index fault) = line_text (codes "refused 8 bad definition " ++ point_text (index, fault))
refusal_text TooLong = line_text (codes "refused 9 too long")
refusal_text (NoSuchCost mark) = line_text (codes "refused 10 no such cost") ++ mark_text mark
refusal_text (CostTwice mark) = line_text (codes "refused 11 cost twice") ++ mark_text mark

abbrev pub refusal : Refusal → Printed
refusal r = refused (refusal_text r)

-- with a reason beside it
abbrev pub refusal_for : (reason : List ℕ) → Refusal → Printed
refusal_for reason r = refused_for reason (refusal_text r)
