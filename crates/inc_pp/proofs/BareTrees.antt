-- Trees without the places of their lines and without empty text lines: what preprocessing sees of a tree.
use Rattle.std.proofs.Common.{◌≡◌, ℕ, ◌+◌, ◌&&◌, ◌||◌, Bool, true, false, not, cond, List, [], ◌∷◌, ◌++◌, Result, Ok, Err, refl, sym, ap, ◌∙◌}
use Rattle.inc_text.specs.declared.languages.Language.{Language}
use Rattle.inc_token.specs.BlankedLines.{AreReplaced, all_done, stays, empty_before, empty_last}
use Rattle.inc_token.specs.LineWalk.{spaced_first}
use Rattle.inc_token.specs.TokenLines.{Tok, TokenLine}
use Rattle.inc_directive.specs.declared.kinds.Role.{Role}
use Rattle.inc_directive.specs.declared.kinds.Role.TheVariants.{IfGroup, ElifGroup, ElseGroup, EndifLine, TextLine, ControlLine}
use Rattle.inc_directive.specs.declared.sections.BalanceFault.{BalanceFault}
use Rattle.inc_directive.specs.Groups.{FileLine, Group, Empty, Run, Control, Section, Branches, Branch, Otherwise, Close, Ending, FileEnd, Faulty, AtElif, AtElse, AtEndif, Closed, branches, directive_line, else_branch, file_lines_from, file_tree, group_at, role, whole, with_branch, with_line, with_section, with_text}
use Rattle.inc_directive.specs.LineKinds.{Text, line_kind, line_of_tokens}
use Rattle.inc_directive.specs.Removal.{is_include, is_removed, with_line_removed, with_removed}
use Rattle.inc_directive.specs.Runs.{run_tokens}

---- bare trees

abbrev pub unplaced : FileLine → FileLine
unplaced l = record { place = 0; kind = l.kind; tokens = l.tokens; last_line = l.last_line }

-- a line before others, if it has tokens
abbrev pub kept_line : List Tok → FileLine → List FileLine → List FileLine
kept_line [] l ls = ls
kept_line (t ∷ ts) l ls = l ∷ ls

abbrev pub bare_run : List FileLine → List FileLine
bare_run [] = []
bare_run (l ∷ ls) = kept_line l.tokens (unplaced l) (bare_run ls)

abbrev mutual
  pub bare : Group → Group
  bare Empty = Empty
  bare (Run ls g) = Run (bare_run ls) (bare g)
  bare (Control l g) = Control (unplaced l) (bare g)
  bare (Section bs g) = Section (bare_branches bs) (bare g)

  pub bare_branches : Branches → Branches
  bare_branches (Branch l g bs) = Branch (unplaced l) (bare g) (bare_branches bs)
  bare_branches (Otherwise l g e) = Otherwise (unplaced l) (bare g) (unplaced e)
  bare_branches (Close e) = Close (unplaced e)

abbrev pub bare_ending : Ending → Ending
bare_ending FileEnd = FileEnd
bare_ending (Faulty fault) = Faulty fault
bare_ending (AtElif l g e) = AtElif (unplaced l) (bare g) (bare_ending e)
bare_ending (AtElse l g e) = AtElse (unplaced l) (bare g) (bare_ending e)
bare_ending (AtEndif l g e) = AtEndif (unplaced l) (bare g) (bare_ending e)

abbrev pub bare_both : Group × Ending → Group × Ending
bare_both x = (bare x.0, bare_ending x.1)

abbrev bare_closed : Closed → Closed
bare_closed (Ok x) = Ok (bare_branches x.0, bare x.1, bare_ending x.2)
bare_closed (Err fault) = Err fault

abbrev pub bare_tree : Result Group BalanceFault → Result Group BalanceFault
bare_tree (Ok g) = Ok (bare g)
bare_tree (Err fault) = Err fault

---- the tree of bare lines

-- the group with an empty text line before it, which counts for nothing in a run
abbrev pub with_empty : Group → Group
with_empty (Run ls g) = Run ls g
with_empty g = Run [] g

-- a line by its tokens before what follows it
abbrev pub bare_line : Language → ℕ → List Tok → Group × Ending → Group × Ending
bare_line language n [] x = (with_empty x.0, x.1)
bare_line language n (t ∷ ts) x =
    let kind = line_kind language (t ∷ ts) in
    with_line (role kind) (record { place = 0; kind = kind; tokens = t ∷ ts; last_line = n }) x

abbrev pub bare_lines : Language → List TokenLine → Group × Ending
bare_lines language [] = (Empty, FileEnd)
bare_lines language (l ∷ ls) = bare_line language l.last_line l.tokens (bare_lines language ls)

branch_bare : (l : FileLine) (g : Group) (c : Closed)
    → bare_closed (with_branch l g c) ≡ with_branch (unplaced l) (bare g) (bare_closed c)
branch_bare l g (Ok x) = refl
branch_bare l g (Err fault) = refl

else_bare : (o : ℕ) (l : FileLine) (g : Group) (e : Ending)
    → bare_closed (else_branch o l g e) ≡ else_branch o (unplaced l) (bare g) (bare_ending e)
else_bare o l g FileEnd = refl
else_bare o l g (Faulty fault) = refl
else_bare o l g (AtElif m h e) = refl
else_bare o l g (AtElse m h e) = refl
else_bare o l g (AtEndif m h e) = refl

branches_bare : (o : ℕ) (l : FileLine) (g : Group) (e : Ending)
    → bare_closed (branches o l g e) ≡ branches o (unplaced l) (bare g) (bare_ending e)
branches_bare o l g FileEnd = refl
branches_bare o l g (Faulty fault) = refl
branches_bare o l g (AtElif m h e) = branch_bare l g (branches o m h e)
    ∙ ap (with_branch (unplaced l) (bare g)) (branches_bare o m h e)
branches_bare o l g (AtElse m h e) = branch_bare l g (else_branch o m h e)
    ∙ ap (with_branch (unplaced l) (bare g)) (else_bare o m h e)
branches_bare o l g (AtEndif m h e) = refl

section_bare : (c : Closed) → bare_both (with_section c) ≡ with_section (bare_closed c)
section_bare (Ok x) = refl
section_bare (Err fault) = refl

-- a text line that has tokens
text_bare : (l : FileLine) (t : Tok) (ts : List Tok) → l.tokens ≡ t ∷ ts → (g : Group)
    → bare (with_text l g) ≡ with_text (unplaced l) (bare g)
text_bare l t ts has (Run ls g) = ap (λ us. Run (kept_line us (unplaced l) (bare_run ls)) (bare g)) has
text_bare l t ts has Empty = ap (λ us. Run (kept_line us (unplaced l) []) Empty) has
text_bare l t ts has (Control m g) = ap (λ us. Run (kept_line us (unplaced l) []) (bare (Control m g))) has
text_bare l t ts has (Section bs g) = ap (λ us. Run (kept_line us (unplaced l) []) (bare (Section bs g))) has

-- and one that has none
empty_bare : (l : FileLine) → l.tokens ≡ [] → (g : Group) → bare (with_text l g) ≡ with_empty (bare g)
empty_bare l none (Run ls g) = ap (λ us. Run (kept_line us (unplaced l) (bare_run ls)) (bare g)) none
empty_bare l none Empty = ap (λ us. Run (kept_line us (unplaced l) []) Empty) none
empty_bare l none (Control m g) = ap (λ us. Run (kept_line us (unplaced l) []) (bare (Control m g))) none
empty_bare l none (Section bs g) = ap (λ us. Run (kept_line us (unplaced l) []) (bare (Section bs g))) none

line_bare : (r : Role) (l : FileLine) (t : Tok) (ts : List Tok) → l.tokens ≡ t ∷ ts → (x : Group × Ending)
    → bare_both (with_line r l x) ≡ with_line r (unplaced l) (bare_both x)
line_bare TextLine l t ts has x = ap (λ g. (g, bare_ending x.1)) (text_bare l t ts has x.0)
line_bare IfGroup l t ts has x = section_bare (branches (directive_line l) l x.0 x.1)
    ∙ ap with_section (branches_bare (directive_line l) l x.0 x.1)
line_bare ElifGroup l t ts has x = refl
line_bare ElseGroup l t ts has x = refl
line_bare EndifLine l t ts has x = refl
line_bare ControlLine l t ts has x = refl

group_bare : (language : Language) (place : ℕ) (ls : List TokenLine)
    → bare_both (group_at (file_lines_from language place ls)) ≡ bare_lines language ls
group_bare language place [] = refl
group_bare language place (l ∷ ls) = by l.tokens (group_bare language (place + 1) ls) where
  by : (ts : List Tok) → bare_both (group_at (file_lines_from language (place + 1) ls)) ≡ bare_lines language ls
      → bare_both (with_line (role (line_kind language ts))
      (record { place = place; kind = line_kind language ts; tokens = ts; last_line = l.last_line })
      (group_at (file_lines_from language (place + 1) ls)))
      ≡ bare_line language l.last_line ts (bare_lines language ls)
  by [] same =
      let here : FileLine = record { place = place; kind = Text; tokens = []; last_line = l.last_line } in
      ap (λ g. (g, bare_ending (group_at (file_lines_from language (place + 1) ls)).1))
      (empty_bare here refl (group_at (file_lines_from language (place + 1) ls)).0)
      ∙ ap (λ (x : Group × Ending). (with_empty x.0, x.1)) same
  by (t ∷ ts) same =
      let here : FileLine = record {
        place = place;
        kind = line_kind language (t ∷ ts);
        tokens = t ∷ ts;
        last_line =
            l.last_line;
      } in
      line_bare (role (line_kind language (t ∷ ts))) here t ts refl
      (group_at (file_lines_from language (place + 1) ls))
      ∙ ap (with_line (role (line_kind language (t ∷ ts))) (unplaced here)) same

whole_bare : (g : Group) (e : Ending) → bare_tree (whole g e) ≡ whole (bare g) (bare_ending e)
whole_bare g FileEnd = refl
whole_bare g (Faulty fault) = refl
whole_bare g (AtElif m h e) = refl
whole_bare g (AtElse m h e) = refl
whole_bare g (AtEndif m h e) = refl

-- the bare tree of lines rests on their tokens, and on no empty line but the first of several
pub tree_bare : (language : Language) (ls : List TokenLine)
    → bare_tree (file_tree language ls) ≡ whole (bare_lines language ls).0 (bare_lines language ls).1
tree_bare language ls =
    let x = group_at (file_lines_from language 0 ls) in
    whole_bare x.0 x.1 ∙ ap (λ (y : Group × Ending). whole y.0 y.1) (group_bare language 0 ls)

---- lines that are replaced by empty ones

empty_twice : (g : Group) → with_empty (with_empty g) ≡ with_empty g
empty_twice (Run ls g) = refl
empty_twice Empty = refl
empty_twice (Control l g) = refl
empty_twice (Section bs g) = refl

module _ (language : Language) (removed others : ℕ → Bool) where
  abbrev either : ℕ → Bool
  either n = removed n || others n

  -- a directive that is removed, and one that is not
  gone : (l : TokenLine) → is_removed language removed l.tokens ≡ true
      → with_line_removed language either l ≡ record { tokens = []; last_line = l.last_line }
  gone l is =
      ap (λ t. cond t (record { tokens = []; last_line = l.last_line }) l)
      (by (is_include (line_kind language l.tokens)) (removed (line_of_tokens l.tokens))
      (others (line_of_tokens l.tokens)) is)
    where
      by : (i r o : Bool) → (i && r) ≡ true → (i && (r || o)) ≡ true
      by true true o is = refl
      by true false o is = cc
      by false r o is = cc

  there : (l : TokenLine) → not (is_removed language removed l.tokens) ≡ true
      → with_line_removed language either l ≡ with_line_removed language others l
  there l is =
      ap (λ t. cond t (record { tokens = []; last_line = l.last_line }) l)
      (by (is_include (line_kind language l.tokens)) (removed (line_of_tokens l.tokens))
      (others (line_of_tokens l.tokens)) is)
    where
      by : (i r o : Bool) → not (i && r) ≡ true → (i && (r || o)) ≡ (i && o)
      by true true o is = cc
      by true false o is = refl
      by false r o is = refl

  -- the lines of one list, and of another in which some are replaced
  pub lines_replaced : {ls ms : List TokenLine} → AreReplaced (is_removed language removed) ls ms
      → bare_lines language (with_removed language either ls) ≡ bare_lines language (with_removed language others ms)
  lines_replaced all_done = refl
  lines_replaced (stays {l = l} {ls = ls} {ms = ms} fails rest) =
      ap (λ (k : TokenLine). bare_line language k.last_line k.tokens
      (bare_lines language (with_removed language either ls)))
      (there l fails)
      ∙ ap (λ (x : Group × Ending).
      bare_line language (with_line_removed language others l).last_line
      (with_line_removed language others l).tokens x)
      (lines_replaced rest)
  lines_replaced (empty_last {l = l} {ls = ls} passes rest) =
      ap (λ (k : TokenLine). bare_line language k.last_line k.tokens
      (bare_lines language (with_removed language either ls)))
      (gone l passes)
      ∙ ap (λ (x : Group × Ending). (with_empty x.0, x.1)) (lines_replaced rest)
  lines_replaced (empty_before {l = l} {ls = ls} passes before rest) =
      let x = bare_lines language (with_removed language either ls) in
      let one : bare_lines language (with_removed language either (l ∷ ls)) ≡ (with_empty x.0, x.1) =
      ap (λ (k : TokenLine). bare_line language k.last_line k.tokens x) (gone l passes) in
      one ∙ ap (λ g. (g, x.1)) (sym (empty_twice x.0))
      ∙ ap (λ (y : Group × Ending). (with_empty y.0, y.1)) (sym one ∙ lines_replaced rest)

---- runs

pub run_bare : (ls : List FileLine) → run_tokens (bare_run ls) ≡ run_tokens ls
run_bare [] = refl
run_bare (l ∷ ls) = by l.tokens refl (run_bare ls) where
  by : (ts : List Tok) → l.tokens ≡ ts → run_tokens (bare_run ls) ≡ run_tokens ls
      → run_tokens (kept_line ts (unplaced l) (bare_run ls)) ≡ spaced_first true l.tokens ++ run_tokens ls
  by [] has same = same ∙ sym (ap (λ us. spaced_first true us ++ run_tokens ls) has)
  by (t ∷ ts) has same = ap (λ us. spaced_first true l.tokens ++ us) same
