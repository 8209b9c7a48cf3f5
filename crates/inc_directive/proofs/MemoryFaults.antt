-- No file is refused for want of memory: the definitions know none.
use Rattle.std.proofs.Common.{ℕ, List, [], ◌∷◌, Ok, Err}
use Rattle.std.specs.Prelude.{◌≢◌, ⊤, IfErr}
use Rattle.inc_directive.specs.Groups.{FileLine, Group, Ending, FileEnd, Faulty, AtElif, AtElse, AtEndif, Closed, directive_line, with_branch, else_branch, branches, with_section, role, with_line, group_at, whole, group_tree}
use Rattle.inc_directive.specs.declared.kinds.Role.{Role}
use Rattle.inc_directive.specs.declared.kinds.Role.TheVariants.{IfGroup, ElifGroup, ElseGroup, EndifLine, TextLine, ControlLine}
use Rattle.inc_directive.specs.declared.sections.BalanceFault.TheVariants.{NoMemory}

-- no fault in what ends a group
abbrev Has : Ending → Type 0
Has FileEnd = ⊤
Has (Faulty fault) = fault ≢ NoMemory
Has (AtElif l g ending) = Has ending
Has (AtElse l g ending) = Has ending
Has (AtEndif l g ending) = Has ending

-- nor in the branches of a section, and what ends the group after it
abbrev ClosedHas : Closed → Type 0
ClosedHas (Ok x) = Has x.2
ClosedHas (Err fault) = fault ≢ NoMemory

branch_has : (l : FileLine) (g : Group) (r : Closed) → ClosedHas r → ClosedHas (with_branch l g r)
branch_has l g (Ok x) h = h
branch_has l g (Err fault) h = h

else_has : (opening : ℕ) (l : FileLine) (g : Group) (e : Ending) → Has e → ClosedHas (else_branch opening l g e)
else_has opening l g FileEnd h = λ e. cc
else_has opening l g (Faulty fault) h = h
else_has opening l g (AtElif next after ending) h = λ e. cc
else_has opening l g (AtElse next after ending) h = λ e. cc
else_has opening l g (AtEndif endif after ending) h = h

branches_have : (opening : ℕ) (l : FileLine) (g : Group) (e : Ending) → Has e → ClosedHas (branches opening l g e)
branches_have opening l g FileEnd h = λ e. cc
branches_have opening l g (Faulty fault) h = h
branches_have opening l g (AtElif next after ending) h = branch_has l g (branches opening next after ending) (branches_have opening next after ending h)
branches_have opening l g (AtElse next after ending) h = branch_has l g (else_branch opening next after ending) (else_has opening next after ending h)
branches_have opening l g (AtEndif endif after ending) h = h

section_has : (r : Closed) → ClosedHas r → Has (with_section r).1
section_has (Ok x) h = h
section_has (Err fault) h = h

line_has : (r : Role) (l : FileLine) (x : Group × Ending) → Has x.1 → Has (with_line r l x).1
line_has TextLine l x h = h
line_has IfGroup l x h = section_has (branches (directive_line l) l x.0 x.1) (branches_have (directive_line l) l x.0 x.1 h)
line_has ElifGroup l x h = h
line_has ElseGroup l x h = h
line_has EndifLine l x h = h
line_has ControlLine l x h = h

lines_have : (ls : List FileLine) → Has (group_at ls).1
lines_have [] = tt
lines_have (l ∷ ls) = line_has (role l.kind) l (group_at ls) (lines_have ls)

whole_has : (g : Group) (e : Ending) → Has e → IfErr (whole g e) (λ fault. fault ≢ NoMemory)
whole_has g FileEnd h = tt
whole_has g (Faulty fault) h = h
whole_has g (AtElif l after ending) h = λ e. cc
whole_has g (AtElse l after ending) h = λ e. cc
whole_has g (AtEndif l after ending) h = λ e. cc

pub trees_have : (ls : List FileLine) → IfErr (group_tree ls) (λ fault. fault ≢ NoMemory)
trees_have ls = whole_has (group_at ls).0 (group_at ls).1 (lines_have ls)
