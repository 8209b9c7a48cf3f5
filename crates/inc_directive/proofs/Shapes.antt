-- The tree of a file is well formed, and a well-formed tree is that of its lines.
use Rattle.std.proofs.Common.{◌≡◌, ℕ, List, [], ◌∷◌, ◌++◌, Result, Ok, Err, IfOk, refl, ap, sym, ◌∙◌, append_assoc, append-nil}
use Rattle.inc_directive.specs.Groups.{FileLine, Group, Empty, Run, Control, Section, Branches, Branch, Otherwise, Close, Ending, FileEnd, Faulty, AtElif, AtElse, AtEndif, Closed, directive_line, with_branch, with_text, with_section, role, with_line, branches, else_branch, whole, group_at, group_tree, lines_of, lines_of_branches}
use Rattle.inc_directive.specs.WellFormed.{Acts, AreText, BeginsWithNoRun, IsWellFormed, AreBranches}
use Rattle.inc_directive.specs.declared.kinds.Role.{Role}
use Rattle.inc_directive.specs.declared.sections.BalanceFault.{BalanceFault}
use Rattle.inc_directive.specs.declared.kinds.Role.TheVariants.{IfGroup, ElifGroup, ElseGroup, EndifLine, TextLine, ControlLine}

no_else : IfGroup ≡ ElifGroup → ⊥
no_else h = cc

---- the tree of a file is well formed

-- what ends a group has lines of the right roles, and well-formed groups after them
abbrev IsWellEnded : Ending → Type 0
IsWellEnded FileEnd = Unit {0}
IsWellEnded (Faulty fault) = Unit {0}
IsWellEnded (AtElif l g e) = Acts ElifGroup l × IsWellFormed g × IsWellEnded e
IsWellEnded (AtElse l g e) = Acts ElseGroup l × IsWellFormed g × IsWellEnded e
IsWellEnded (AtEndif l g e) = Acts EndifLine l × IsWellFormed g × IsWellEnded e

record IsFormed (g : Group) (e : Ending) : Type 0 where
  group : IsWellFormed g
  ending : IsWellEnded e

-- branches that begin with a line of this role, and what comes after the section
record IsClosed (r : Role) (bs : Branches) (g : Group) (e : Ending) : Type 0 where
  branches : AreBranches r bs
  after : IsFormed g e

abbrev AreClosed : Role → Closed → Type 0
AreClosed r closed = IfOk closed (λ x. IsClosed r x.0 x.1 x.2)

closed-with_branch : (r : Role) (l : FileLine) (g : Group) (closed : Closed) → Acts r l → IsWellFormed g → AreClosed ElifGroup closed → AreClosed r (with_branch l g closed)
closed-with_branch r l g (Err fault) a w h = tt
closed-with_branch r l g (Ok x) a w h = record { branches = (a, w, h.branches); after = h.after }

closed-else : (opening : ℕ) (l : FileLine) (g : Group) (e : Ending) → Acts ElseGroup l → IsFormed g e → AreClosed ElifGroup (else_branch opening l g e)
closed-else opening l g FileEnd a f = tt
closed-else opening l g (Faulty fault) a f = tt
closed-else opening l g (AtElif n k e) a f = tt
closed-else opening l g (AtElse n k e) a f = tt
closed-else opening l g (AtEndif n k e) a f =
    record { branches = (refl, a, f.group, f.ending.0); after = record { group = f.ending.1; ending = f.ending.2 } }

closed-branches : (r : Role) (opening : ℕ) (l : FileLine) (g : Group) (e : Ending) → Acts r l → IsFormed g e → AreClosed r (branches opening l g e)
closed-branches r opening l g FileEnd a f = tt
closed-branches r opening l g (Faulty fault) a f = tt
closed-branches r opening l g (AtElif n k e) a f =
    closed-with_branch r l g (branches opening n k e) a f.group (closed-branches ElifGroup opening n k e f.ending.0 (record { group = f.ending.1; ending = f.ending.2 }))
closed-branches r opening l g (AtElse n k e) a f =
    closed-with_branch r l g (else_branch opening n k e) a f.group (closed-else opening n k e f.ending.0 (record { group = f.ending.1; ending = f.ending.2 }))
closed-branches r opening l g (AtEndif n k e) a f =
    record { branches = (a, f.group, (refl, f.ending.0)); after = record { group = f.ending.1; ending = f.ending.2 } }

formed-with_section : (closed : Closed) → AreClosed IfGroup closed → IsFormed (with_section closed).0 (with_section closed).1
formed-with_section (Ok x) h = record { group = (h.branches, h.after.group); ending = h.after.ending }
formed-with_section (Err fault) h = record { group = tt; ending = tt }

formed-with_text : (l : FileLine) (g : Group) → Acts TextLine l → IsWellFormed g → IsWellFormed (with_text l g)
formed-with_text l Empty a w = ((a, tt), tt, tt)
formed-with_text l (Run [] g) a w = absurd w.0
formed-with_text l (Run (m ∷ ls) g) a w = ((a, w.0), w.1, w.2)
formed-with_text l (Control m g) a w = ((a, tt), tt, w)
formed-with_text l (Section bs g) a w = ((a, tt), tt, w)

formed-with_line : (r : Role) (l : FileLine) (g : Group) (e : Ending) → Acts r l → IsFormed g e → IsFormed (with_line r l (g, e)).0 (with_line r l (g, e)).1
formed-with_line TextLine l g e a f = record { group = formed-with_text l g a f.group; ending = f.ending }
formed-with_line IfGroup l g e a f = formed-with_section (branches (directive_line l) l g e) (closed-branches IfGroup (directive_line l) l g e a f)
formed-with_line ElifGroup l g e a f = record { group = tt; ending = (a, f.group, f.ending) }
formed-with_line ElseGroup l g e a f = record { group = tt; ending = (a, f.group, f.ending) }
formed-with_line EndifLine l g e a f = record { group = tt; ending = (a, f.group, f.ending) }
formed-with_line ControlLine l g e a f = record { group = (a, f.group); ending = f.ending }

formed-group_at : (ls : List FileLine) → IsFormed (group_at ls).0 (group_at ls).1
formed-group_at [] = record { group = tt; ending = tt }
formed-group_at (l ∷ ls) = formed-with_line (role l.kind) l (group_at ls).0 (group_at ls).1 refl (formed-group_at ls)

formed-whole : (g : Group) (e : Ending) (tree : Group) → IsWellFormed g → whole g e ≡ Ok tree → IsWellFormed tree
formed-whole g FileEnd tree w t =
    let same : g ≡ tree = cc in
    rw (← same) w
formed-whole g (Faulty fault) tree w t = cc
formed-whole g (AtElif l k e) tree w t = cc
formed-whole g (AtElse l k e) tree w t = cc
formed-whole g (AtEndif l k e) tree w t = cc

pub formed-group_tree : (ls : List FileLine) (tree : Group) → group_tree ls ≡ Ok tree → IsWellFormed tree
formed-group_tree ls tree t = formed-whole (group_at ls).0 (group_at ls).1 tree (formed-group_at ls).group t

---- a well-formed tree is that of its lines

-- what the branches are to the lines before them, where this group and this ending come after the section
abbrev ending_of : Branches → Group → Ending → Ending
ending_of (Branch l g bs) k e = AtElif l g (ending_of bs k e)
ending_of (Otherwise l g n) k e = AtElse l g (AtEndif n k e)
ending_of (Close n) k e = AtEndif n k e

branches-ending_of : (opening : ℕ) (l : FileLine) (g : Group) (bs : Branches) (k : Group) (e : Ending) → branches opening l g (ending_of bs k e) ≡ Ok (Branch l g bs, k, e)
branches-ending_of opening l g (Branch m h bs) k e = ap (with_branch l g) (branches-ending_of opening m h bs k e)
branches-ending_of opening l g (Otherwise m h n) k e = refl
branches-ending_of opening l g (Close n) k e = refl

-- a line of a role before what follows it
line-before : (r : Role) (l : FileLine) (ls : List FileLine) (g : Group) (e : Ending) → Acts r l → group_at ls ≡ (g, e) → group_at (l ∷ ls) ≡ with_line r l (g, e)
line-before r l ls g e a h = ap (λ (q : Role). with_line q l (group_at ls)) a ∙ ap (with_line r l) h

-- a run before a group that begins with none
with_text-run : (l : FileLine) (g : Group) → BeginsWithNoRun g → with_text l g ≡ Run (l ∷ []) g
with_text-run l Empty h = refl
with_text-run l (Run ls g) h = absurd h
with_text-run l (Control m g) h = refl
with_text-run l (Section bs g) h = refl

run-before : (l : FileLine) (ls more : List FileLine) (g : Group) (e : Ending) → Acts TextLine l → AreText ls → BeginsWithNoRun g → group_at more ≡ (g, e)
    → group_at (l ∷ (ls ++ more)) ≡ (Run (l ∷ ls) g, e)
run-before l [] more g e a t none h = line-before TextLine l more g e a h ∙ ap (λ (k : Group). (k, e)) (with_text-run l g none)
run-before l (m ∷ ls) more g e a t none h = line-before TextLine l (m ∷ (ls ++ more)) (Run (m ∷ ls) g) e a (run-before m ls more g e t.0 t.1 none h)

mutual
  group-again : (g : Group) (more : List FileLine) (e : Ending) → IsWellFormed g → group_at more ≡ (Empty, e) → group_at (lines_of g ++ more) ≡ (g, e)
  group-again Empty more e w h = h
  group-again (Run [] g) more e w h = absurd w.0
  group-again (Run (l ∷ ls) g) more e w h =
      ap group_at (append_assoc (l ∷ ls) (lines_of g) more) ∙ run-before l ls (lines_of g ++ more) g e w.0.0 w.0.1 w.1 (group-again g more e w.2 h)
  group-again (Control l g) more e w h = line-before ControlLine l (lines_of g ++ more) g e w.0 (group-again g more e w.1 h)
  group-again (Section (Branch l k bs) g) more e w h =
      let after = group-again g more e w.1 h in
      let rest = branches-again bs (lines_of g ++ more) g e w.0.2 after in
      let first = group-again k (lines_of_branches bs ++ (lines_of g ++ more)) (ending_of bs g e) w.0.1 rest in
      let moved : (lines_of (Section (Branch l k bs) g) ++ more) ≡ l ∷ (lines_of k ++ (lines_of_branches bs ++ (lines_of g ++ more))) =
      append_assoc (l ∷ (lines_of k ++ lines_of_branches bs)) (lines_of g) more ∙ append_assoc (l ∷ lines_of k) (lines_of_branches bs) (lines_of g ++ more) in
      ap group_at moved
      ∙ line-before IfGroup l (lines_of k ++ (lines_of_branches bs ++ (lines_of g ++ more))) k (ending_of bs g e) w.0.0 first
      ∙ ap with_section (branches-ending_of (directive_line l) l k bs g e)
  group-again (Section (Otherwise l k n) g) more e w h = absurd (no_else w.0.0)
  group-again (Section (Close n) g) more e w h = absurd (no_else w.0.0)

  branches-again : (bs : Branches) (more : List FileLine) (g : Group) (e : Ending) → AreBranches ElifGroup bs → group_at more ≡ (g, e) → group_at (lines_of_branches bs ++ more) ≡ (Empty, ending_of bs g e)
  branches-again (Branch l k bs) more g e w h =
      let rest = branches-again bs more g e w.2 h in
      let first = group-again k (lines_of_branches bs ++ more) (ending_of bs g e) w.1 rest in
      ap group_at (append_assoc (l ∷ lines_of k) (lines_of_branches bs) more)
      ∙ line-before ElifGroup l (lines_of k ++ (lines_of_branches bs ++ more)) k (ending_of bs g e) w.0 first
  branches-again (Otherwise l k n) more g e w h =
      let last = line-before EndifLine n more g e w.3 h in
      let first = group-again k (n ∷ more) (AtEndif n g e) w.2 last in
      ap group_at (append_assoc (l ∷ lines_of k) (n ∷ []) more)
      ∙ line-before ElseGroup l (lines_of k ++ (n ∷ more)) k (AtEndif n g e) w.1 first
  branches-again (Close n) more g e w h = line-before EndifLine n more g e w.1 h

pub tree-again : (tree : Group) → IsWellFormed tree → group_tree (lines_of tree) ≡ Ok tree
tree-again tree w =
    let at : group_at (lines_of tree) ≡ (tree, FileEnd) = ap group_at (sym (append-nil (lines_of tree))) ∙ group-again tree [] FileEnd w refl in
    ap (λ (x : Group × Ending). whole x.0 x.1) at

same_tree : (s t : Group) (r : Result Group BalanceFault) → r ≡ Ok s → r ≡ Ok t → s ≡ t
same_tree s t r p q = cc

pub one-tree : (s t : Group) → IsWellFormed s → IsWellFormed t → lines_of s ≡ lines_of t → s ≡ t
one-tree s t v w h = same_tree s t (group_tree (lines_of t)) (sym (ap group_tree h) ∙ tree-again s v) (tree-again t w)
