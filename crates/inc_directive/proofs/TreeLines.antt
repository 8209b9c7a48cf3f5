-- The lines of a tree are those of its file.
use Rattle.std.proofs.Common.{◌≡◌, ℕ, List, [], ◌∷◌, ◌++◌, None, Ok, Err, IfOk, refl, ap, sym, ◌∙◌, append_assoc, append-nil}
use Rattle.inc_directive.specs.declared.kinds.Role.{Role}
use Rattle.inc_directive.specs.declared.kinds.Role.TheVariants.{IfGroup, TextLine}
use Rattle.inc_directive.specs.Groups.{FileLine, Group, Empty, Run, Control, Section, Ending, FileEnd, Faulty, AtElif, AtElse, AtEndif, Closed, directive_line, with_branch, with_text, with_section, role, with_line, branches, else_branch, whole, group_at, group_tree, lines_of, lines_of_branches}
use Rattle.inc_directive.proofs.EndingPlans.{outlook}
use Rattle.inc_directive.proofs.Endings.{fault_before}

-- the lines from an ending on
abbrev pub ending_lines : Ending → List FileLine
ending_lines FileEnd = []
ending_lines (Faulty fault) = []
ending_lines (AtElif l g e) = l ∷ (lines_of g ++ ending_lines e)
ending_lines (AtElse l g e) = l ∷ (lines_of g ++ ending_lines e)
ending_lines (AtEndif l g e) = l ∷ (lines_of g ++ ending_lines e)

-- branches, the group after them and the rest of the file have these lines
abbrev HaveLines : List FileLine → Closed → Type 0
HaveLines ls r = IfOk r (λ x. lines_of_branches x.0 ++ (lines_of x.1 ++ ending_lines x.2) ≡ ls)

lines-with_branch : (l : FileLine) (g : Group) (ls : List FileLine) (r : Closed) → HaveLines ls r → HaveLines (l ∷ (lines_of g ++ ls)) (with_branch l g r)
lines-with_branch l g ls (Err fault) h = tt
lines-with_branch l g ls (Ok x) h =
    ap (λ (ks : List FileLine). l ∷ ks) (append_assoc (lines_of g) (lines_of_branches x.0) (lines_of x.1 ++ ending_lines x.2) ∙ ap (λ (ks : List FileLine). lines_of g ++ ks) h)

lines-else_branch : (opening : ℕ) (l : FileLine) (g : Group) (e : Ending) → HaveLines (l ∷ (lines_of g ++ ending_lines e)) (else_branch opening l g e)
lines-else_branch opening l g FileEnd = tt
lines-else_branch opening l g (Faulty fault) = tt
lines-else_branch opening l g (AtElif n k e) = tt
lines-else_branch opening l g (AtElse n k e) = tt
lines-else_branch opening l g (AtEndif n k e) =
    ap (λ (ks : List FileLine). l ∷ ks) (append_assoc (lines_of g) (n ∷ []) (lines_of k ++ ending_lines e))

lines-branches : (opening : ℕ) (l : FileLine) (g : Group) (e : Ending) → HaveLines (l ∷ (lines_of g ++ ending_lines e)) (branches opening l g e)
lines-branches opening l g FileEnd = tt
lines-branches opening l g (Faulty fault) = tt
lines-branches opening l g (AtElif n k e) = lines-with_branch l g (ending_lines (AtElif n k e)) (branches opening n k e) (lines-branches opening n k e)
lines-branches opening l g (AtElse n k e) = lines-with_branch l g (ending_lines (AtElse n k e)) (else_branch opening n k e) (lines-else_branch opening n k e)
lines-branches opening l g (AtEndif n k e) =
    ap (λ (ks : List FileLine). l ∷ ks) (append_assoc (lines_of g) (n ∷ []) (lines_of k ++ ending_lines e))

-- a group and what ends it have these lines, if no fault ends it
abbrev HasLines : List FileLine → Group × Ending → Type 0
HasLines ls x = (outlook x.1).fault ≡ None → lines_of x.0 ++ ending_lines x.1 ≡ ls

lines-with_section : (ls : List FileLine) (r : Closed) → HaveLines ls r → HasLines ls (with_section r)
lines-with_section ls (Ok x) h _ = append_assoc (lines_of_branches x.0) (lines_of x.1) (ending_lines x.2) ∙ h
lines-with_section ls (Err fault) h e = cc

lines-with_text : (l : FileLine) (g : Group) → lines_of (with_text l g) ≡ l ∷ lines_of g
lines-with_text l Empty = refl
lines-with_text l (Run ls g) = refl
lines-with_text l (Control m g) = refl
lines-with_text l (Section bs g) = refl

lines-with_line : (k : Role) (l : FileLine) (x : Group × Ending) → HasLines (l ∷ (lines_of x.0 ++ ending_lines x.1)) (with_line k l x)
lines-with_line TextLine l x = λ _. ap (λ (ks : List FileLine). ks ++ ending_lines x.1) (lines-with_text l x.0)
lines-with_line IfGroup l x = lines-with_section _ (branches (directive_line l) l x.0 x.1) (lines-branches (directive_line l) l x.0 x.1)
lines-with_line k l x = λ _. refl

lines-group_at : (ls : List FileLine) → HasLines ls (group_at ls)
lines-group_at [] _ = refl
lines-group_at (l ∷ ls) h =
    lines-with_line (role l.kind) l (group_at ls) h ∙ ap (λ (ks : List FileLine). l ∷ ks) (lines-group_at ls (fault_before (role l.kind) l (group_at ls) h))

lines-whole : (ls : List FileLine) (g : Group) (e : Ending) (tree : Group) → HasLines ls (g, e) → whole g e ≡ Ok tree → lines_of tree ≡ ls
lines-whole ls g FileEnd tree h t =
    let same : g ≡ tree = cc in
    ap lines_of (sym same) ∙ sym (append-nil (lines_of g)) ∙ h refl
lines-whole ls g (Faulty fault) tree h t = cc
lines-whole ls g (AtElif l k e) tree h t = cc
lines-whole ls g (AtElse l k e) tree h t = cc
lines-whole ls g (AtEndif l k e) tree h t = cc

pub lines-group_tree : (ls : List FileLine) (tree : Group) → group_tree ls ≡ Ok tree → lines_of tree ≡ ls
lines-group_tree ls tree h = lines-whole ls (group_at ls).0 (group_at ls).1 tree (lines-group_at ls) h
