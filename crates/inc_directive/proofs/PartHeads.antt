-- Parts as lines of which each stands for a part: the groups of a file are those of these lines, with each in place of its part.
use Rattle.std.proofs.Common.{◌≡◌, ℕ, zero, suc, ◌+◌, List, [], ◌∷◌, ◌++◌, Option, Some, None, Result, Ok, Err, length, drop, slice_get, refl, sym, ap, ◌∙◌, arith, false}
use Rattle.std.specs.Prelude.{flat_map}
use Rattle.std.specs.List.{All}
use Rattle.std.specs.Option.{option_map_or}
use Rattle.std.proofs.lemmas.List.Elements.{All-head, All-tail}
use Rattle.inc_token.specs.TokenLines.{Tok}
use Rattle.inc_token.specs.declared.kinds.Kind.TheVariants.{Punct}
use Rattle.inc_directive.specs.Groups.{FileLine, Group, Empty, Run, Control, Section, Branches, Branch, Otherwise, Close, Ending, FileEnd, Faulty, AtElif, AtElse, AtEndif, Closed, directive_line, with_text, with_branch, with_section, role, with_line, branches, else_branch, whole, group_at, group_tree}
use Rattle.inc_directive.specs.Jumps.{closing, fault_in}
use Rattle.inc_directive.specs.LineKinds.{Text, line_of_tokens}
use Rattle.inc_directive.specs.Parts.{FilePart, TextPart, DirectivePart, AreNumbered, IsPart, first_tokens, lines_in, lines_from, lines_of_parts, part_kind, part_line, part_role}
use Rattle.inc_directive.specs.declared.kinds.Role.{Role}
use Rattle.inc_directive.specs.declared.kinds.Role.TheVariants.{IfGroup, ElifGroup, ElseGroup, EndifLine, TextLine, ControlLine}
use Rattle.inc_directive.specs.declared.sections.BalanceFault.{BalanceFault}
use Rattle.inc_directive.specs.declared.sections.BalanceFault.TheVariants.{StrayBranch, AfterElse}

---- the line that stands for a part has the number of the part as its place and its line

abbrev token_on : ℕ → Tok
token_on i = record { kind = Punct; spelling = []; first = 0; last = 0; line = i; space = false }

abbrev pub head_of : ℕ → FilePart → FileLine
head_of i p = record { place = i; kind = part_kind p; tokens = token_on i ∷ []; last_line = 0 }

abbrev pub heads_from : ℕ → List FilePart → List FileLine
heads_from i [] = []
heads_from i (p ∷ ps) = head_of i p ∷ heads_from (i + 1) ps

pub length-heads : (i : ℕ) (ps : List FilePart) → length (heads_from i ps) ≡ length ps
length-heads i [] = refl
length-heads i (p ∷ ps) = ap suc (length-heads (i + 1) ps)

pub numbered-heads : (i : ℕ) (ps : List FilePart) → AreNumbered i (heads_from i ps)
numbered-heads i [] = tt
numbered-heads i (p ∷ ps) = (refl, numbered-heads (i + 1) ps)

pub drop-heads : (n i : ℕ) (ps : List FilePart) → drop n (heads_from i ps) ≡ heads_from (i + n) (drop n ps)
drop-heads zero i ps = let e : i ≡ i + 0 = omega arith in ap (λ k. heads_from k ps) e
drop-heads (suc n) i [] = refl
drop-heads (suc n) i (p ∷ ps) = let e : i + 1 + n ≡ i + suc n = omega arith in drop-heads n (i + 1) ps ∙ ap (λ k. heads_from k (drop n ps)) e

pub head_at : (n i at : ℕ) (ps : List FilePart) (p : FilePart) → slice_get ps n ≡ Some p → at ≡ i + n → slice_get (heads_from i ps) n ≡ Some (head_of at p)
head_at n i at [] p is e = cc
head_at zero i at (q ∷ ps) p is e =
    let same : q ≡ p = cc in
    let here : i ≡ at = omega (arith, e) in
    ap (λ (x : FilePart). Some (head_of i x)) same ∙ ap (λ k. Some (head_of k p)) here
head_at (suc n) i at (q ∷ ps) p is e = head_at n (i + 1) at ps p is (omega (arith, e))

---- lines in place of those that stand for parts

abbrev first_of : FilePart → FileLine
first_of (TextPart []) = record { place = 0; kind = Text; tokens = []; last_line = 0 }
first_of (TextPart (l ∷ ls)) = l
first_of (DirectivePart l) = l

abbrev lines_by : List FilePart → FileLine → List FileLine
lines_by ps h = option_map_or lines_in (slice_get ps (directive_line h)) []

abbrev line_by : List FilePart → ℕ → FileLine
line_by ps i = option_map_or first_of (slice_get ps i) (record { place = 0; kind = Text; tokens = []; last_line = 0 })

line_first : (p : FilePart) → line_of_tokens (first_of p).tokens ≡ line_of_tokens (first_tokens p)
line_first (TextPart []) = refl
line_first (TextPart (l ∷ ls)) = refl
line_first (DirectivePart l) = refl

line_number : (ps : List FilePart) (i : ℕ) → directive_line (line_by ps i) ≡ part_line ps i
line_number ps i = by (slice_get ps i)
  where
    by : (o : Option FilePart) → directive_line (option_map_or first_of o (record { place = 0; kind = Text; tokens = []; last_line = 0 }))
        ≡ option_map_or (λ (p : FilePart). line_of_tokens (first_tokens p)) o 0
    by None = refl
    by (Some p) = line_first p

abbrev mutual
  pub expanded : List FilePart → Group → Group
  expanded ps Empty = Empty
  expanded ps (Run hs g) = Run (flat_map (lines_by ps) hs) (expanded ps g)
  expanded ps (Control h g) = Control (line_by ps (directive_line h)) (expanded ps g)
  expanded ps (Section bs g) = Section (expanded_branches ps bs) (expanded ps g)

  pub expanded_branches : List FilePart → Branches → Branches
  expanded_branches ps (Branch h g bs) = Branch (line_by ps (directive_line h)) (expanded ps g) (expanded_branches ps bs)
  expanded_branches ps (Otherwise h g e) = Otherwise (line_by ps (directive_line h)) (expanded ps g) (line_by ps (directive_line e))
  expanded_branches ps (Close e) = Close (line_by ps (directive_line e))

abbrev pub expanded_ending : List FilePart → Ending → Ending
expanded_ending ps FileEnd = FileEnd
expanded_ending ps (Faulty fault) = Faulty (fault_in ps fault)
expanded_ending ps (AtElif h g e) = AtElif (line_by ps (directive_line h)) (expanded ps g) (expanded_ending ps e)
expanded_ending ps (AtElse h g e) = AtElse (line_by ps (directive_line h)) (expanded ps g) (expanded_ending ps e)
expanded_ending ps (AtEndif h g e) = AtEndif (line_by ps (directive_line h)) (expanded ps g) (expanded_ending ps e)

abbrev pub expanded_pair : List FilePart → Group × Ending → Group × Ending
expanded_pair ps x = (expanded ps x.0, expanded_ending ps x.1)

abbrev expanded_closed : List FilePart → Closed → Closed
expanded_closed ps (Ok x) = Ok (expanded_branches ps x.0, expanded ps x.1, expanded_ending ps x.2)
expanded_closed ps (Err fault) = Err (fault_in ps fault)

abbrev pub expanded_tree : List FilePart → Result Group BalanceFault → Result Group BalanceFault
expanded_tree ps (Ok g) = Ok (expanded ps g)
expanded_tree ps (Err fault) = Err (fault_in ps fault)

---- the groups are made alike

branch-expanded : (ps : List FilePart) (h : FileLine) (g : Group) (r : Closed)
    → with_branch (line_by ps (directive_line h)) (expanded ps g) (expanded_closed ps r) ≡ expanded_closed ps (with_branch h g r)
branch-expanded ps h g (Ok x) = refl
branch-expanded ps h g (Err fault) = refl

else-expanded : (ps : List FilePart) (o : ℕ) (h : FileLine) (g : Group) (e : Ending)
    → else_branch (part_line ps o) (line_by ps (directive_line h)) (expanded ps g) (expanded_ending ps e) ≡ expanded_closed ps (else_branch o h g e)
else-expanded ps o h g FileEnd = refl
else-expanded ps o h g (Faulty fault) = refl
else-expanded ps o h g (AtElif k a e) = let C : ℕ → Closed = λ n. Err (AfterElse n) in ap C (line_number ps (directive_line k))
else-expanded ps o h g (AtElse k a e) = let C : ℕ → Closed = λ n. Err (AfterElse n) in ap C (line_number ps (directive_line k))
else-expanded ps o h g (AtEndif k a e) = refl

branches-expanded : (ps : List FilePart) (o : ℕ) (h : FileLine) (g : Group) (e : Ending)
    → branches (part_line ps o) (line_by ps (directive_line h)) (expanded ps g) (expanded_ending ps e) ≡ expanded_closed ps (branches o h g e)
branches-expanded ps o h g FileEnd = refl
branches-expanded ps o h g (Faulty fault) = refl
branches-expanded ps o h g (AtElif k a e) =
    ap (with_branch (line_by ps (directive_line h)) (expanded ps g)) (branches-expanded ps o k a e) ∙ branch-expanded ps h g (branches o k a e)
branches-expanded ps o h g (AtElse k a e) =
    ap (with_branch (line_by ps (directive_line h)) (expanded ps g)) (else-expanded ps o k a e) ∙ branch-expanded ps h g (else_branch o k a e)
branches-expanded ps o h g (AtEndif k a e) = refl

section-expanded : (ps : List FilePart) (r : Closed) → with_section (expanded_closed ps r) ≡ expanded_pair ps (with_section r)
section-expanded ps (Ok x) = refl
section-expanded ps (Err fault) = refl

-- a line that stands for a directive, in front of what follows it
directive-expanded : (ps : List FilePart) (r : Role) (h : FileLine) (x : Group × Ending) → (r ≡ TextLine → ⊥)
    → with_line r (line_by ps (directive_line h)) (expanded_pair ps x) ≡ expanded_pair ps (with_line r h x)
directive-expanded ps IfGroup h x other =
    ap (λ n. with_section (branches n (line_by ps (directive_line h)) (expanded ps x.0) (expanded_ending ps x.1))) (line_number ps (directive_line h))
    ∙ ap with_section (branches-expanded ps (directive_line h) h x.0 x.1) ∙ section-expanded ps (branches (directive_line h) h x.0 x.1)
directive-expanded ps ElifGroup h x other = refl
directive-expanded ps ElseGroup h x other = refl
directive-expanded ps EndifLine h x other = refl
directive-expanded ps ControlLine h x other = refl
directive-expanded ps TextLine h x other = absurd (other refl)

-- lines of text in front of a group
abbrev with_texts : List FileLine → Group → Group
with_texts [] g = g
with_texts (l ∷ ls) g = with_text l (with_texts ls g)

texts-at : (ls rest : List FileLine) → All (λ (l : FileLine). role l.kind ≡ TextLine) ls → group_at (ls ++ rest) ≡ (with_texts ls (group_at rest).0, (group_at rest).1)
texts-at [] rest h = refl
texts-at (l ∷ ls) rest h =
    let more = texts-at ls rest (All-tail (λ (k : FileLine). role k.kind ≡ TextLine) l ls h) in
    ap (λ (r : Role). with_line r l (group_at (ls ++ rest))) (All-head (λ (k : FileLine). role k.kind ≡ TextLine) l ls h)
    ∙ ap (λ (x : Group × Ending). (with_text l x.0, x.1)) more

texts-run : (ls ms : List FileLine) (g : Group) → with_texts ls (Run ms g) ≡ Run (ls ++ ms) g
texts-run [] ms g = refl
texts-run (l ∷ ls) ms g = ap (with_text l) (texts-run ls ms g)

texts-other : (l : FileLine) (ls : List FileLine) (g : Group) → ((k : FileLine) → with_text k g ≡ Run (k ∷ []) g) → with_texts (l ∷ ls) g ≡ Run ((l ∷ ls) ++ []) g
texts-other l [] g alone = alone l
texts-other l (m ∷ ls) g alone = ap (with_text l) (texts-other m ls g alone)

texts-expanded : (ps : List FilePart) (l : FileLine) (ls : List FileLine) (h : FileLine) (g : Group) → lines_by ps h ≡ l ∷ ls → with_texts (l ∷ ls) (expanded ps g) ≡ expanded ps (with_text h g)
texts-expanded ps l ls h Empty is = texts-other l ls Empty (λ k. refl) ∙ ap (λ (ks : List FileLine). Run (ks ++ []) Empty) (sym is)
texts-expanded ps l ls h (Run hs g) is =
    texts-run (l ∷ ls) (flat_map (lines_by ps) hs) (expanded ps g) ∙ ap (λ (ks : List FileLine). Run (ks ++ flat_map (lines_by ps) hs) (expanded ps g)) (sym is)
texts-expanded ps l ls h (Control k g) is =
    texts-other l ls (expanded ps (Control k g)) (λ k. refl) ∙ ap (λ (ks : List FileLine). Run (ks ++ []) (expanded ps (Control k g))) (sym is)
texts-expanded ps l ls h (Section bs g) is =
    texts-other l ls (expanded ps (Section bs g)) (λ k. refl) ∙ ap (λ (ks : List FileLine). Run (ks ++ []) (expanded ps (Section bs g))) (sym is)

---- the groups of parts

part-expanded : (ps : List FilePart) (i : ℕ) (p : FilePart) (rest : List FileLine) (x : Group × Ending) → slice_get ps i ≡ Some p → IsPart p → group_at rest ≡ expanded_pair ps x
    → group_at (lines_in p ++ rest) ≡ expanded_pair ps (with_line (part_role p) (head_of i p) x)
part-expanded ps i (TextPart []) rest x is h below = absurd h
part-expanded ps i (TextPart (l ∷ ls)) rest x is h below =
    let lines : lines_by ps (head_of i (TextPart (l ∷ ls))) ≡ l ∷ ls = ap (λ (o : Option FilePart). option_map_or lines_in o []) is in
    texts-at (l ∷ ls) rest h
    ∙ ap (λ (y : Group × Ending). (with_texts (l ∷ ls) y.0, y.1)) below
    ∙ ap (λ (g : Group). (g, expanded_ending ps x.1)) (texts-expanded ps l ls (head_of i (TextPart (l ∷ ls))) x.0 lines)
part-expanded ps i (DirectivePart l) rest x is h below =
    let line : line_by ps i ≡ l = ap (λ (o : Option FilePart). option_map_or first_of o (record { place = 0; kind = Text; tokens = []; last_line = 0 })) is in
    ap (with_line (role l.kind) l) below
    ∙ ap (λ (k : FileLine). with_line (role l.kind) k (expanded_pair ps x)) (sym line)
    ∙ directive-expanded ps (role l.kind) (head_of i (DirectivePart l)) x h

-- all parts from one on
suffix-expanded : (ps qs : List FilePart) (i : ℕ) → ((k : ℕ) → slice_get ps (i + k) ≡ slice_get qs k) → All IsPart qs → group_at (lines_of_parts qs) ≡ expanded_pair ps (group_at (heads_from i qs))
suffix-expanded ps [] i same h = refl
suffix-expanded ps (q ∷ qs) i same h =
    let here : i + 0 ≡ i = omega arith in
    let is : slice_get ps i ≡ Some q = ap (slice_get ps) (sym here) ∙ same 0 in
    let next : (k : ℕ) → slice_get ps (i + 1 + k) ≡ slice_get qs k = λ k. (let e : i + 1 + k ≡ i + suc k = omega arith in ap (slice_get ps) e ∙ same (suc k)) in
    part-expanded ps i q (lines_of_parts qs) (group_at (heads_from (i + 1) qs)) is (All-head IsPart q qs h) (suffix-expanded ps qs (i + 1) next (All-tail IsPart q qs h))

get-drop : {X : Type 0} (n k : ℕ) (xs : List X) → slice_get xs (n + k) ≡ slice_get (drop n xs) k
get-drop zero k xs = let e : 0 + k ≡ k = omega arith in ap (slice_get xs) e
get-drop (suc n) k [] = refl
get-drop (suc n) k (x ∷ xs) = let e : suc n + k ≡ suc (n + k) = omega arith in ap (slice_get (x ∷ xs)) e ∙ get-drop n k xs

all-drop : (n : ℕ) (ps : List FilePart) → All IsPart ps → All IsPart (drop n ps)
all-drop zero ps h = h
all-drop (suc n) [] h = h
all-drop (suc n) (p ∷ ps) h = all-drop n ps (All-tail IsPart p ps h)

pub group-from : (ps : List FilePart) (n : ℕ) → All IsPart ps → group_at (lines_from n ps) ≡ expanded_pair ps (group_at (drop n (heads_from 0 ps)))
group-from ps n h =
    let e : 0 + n ≡ n = omega arith in
    suffix-expanded ps (drop n ps) n (λ k. get-drop n k ps) (all-drop n ps h)
    ∙ ap (λ (ls : List FileLine). expanded_pair ps (group_at ls)) (ap (λ k. heads_from k (drop n ps)) (sym e) ∙ sym (drop-heads n 0 ps))

whole-expanded : (ps : List FilePart) (g : Group) (e : Ending) → whole (expanded ps g) (expanded_ending ps e) ≡ expanded_tree ps (whole g e)
whole-expanded ps g FileEnd = refl
whole-expanded ps g (Faulty fault) = refl
whole-expanded ps g (AtElif k a e) = let R : ℕ → Result Group BalanceFault = λ n. Err (StrayBranch n) in ap R (line_number ps (directive_line k))
whole-expanded ps g (AtElse k a e) = let R : ℕ → Result Group BalanceFault = λ n. Err (StrayBranch n) in ap R (line_number ps (directive_line k))
whole-expanded ps g (AtEndif k a e) = let R : ℕ → Result Group BalanceFault = λ n. Err (StrayBranch n) in ap R (line_number ps (directive_line k))

-- the tree of the lines of parts, or its fault
pub tree-of_parts : (ps : List FilePart) → All IsPart ps → group_tree (lines_of_parts ps) ≡ expanded_tree ps (group_tree (heads_from 0 ps))
tree-of_parts ps h =
    ap (λ (x : Group × Ending). whole x.0 x.1) (suffix-expanded ps ps 0 (λ k. (let e : 0 + k ≡ k = omega arith in ap (slice_get ps) e)) h)
    ∙ whole-expanded ps (group_at (heads_from 0 ps)).0 (group_at (heads_from 0 ps)).1

pub closing-expanded : (ps : List FilePart) (e : Ending) → closing (expanded_ending ps e) ≡ expanded_ending ps (closing e)
closing-expanded ps FileEnd = refl
closing-expanded ps (Faulty fault) = refl
closing-expanded ps (AtElif k a e) = closing-expanded ps e
closing-expanded ps (AtElse k a e) = closing-expanded ps e
closing-expanded ps (AtEndif k a e) = refl
