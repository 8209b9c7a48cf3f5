-- Once directives are removed, the include lines of a file's tree are those of its include directives that stay, and each line of the tree
-- is one of the file or has no token.
use Rattle.std.proofs.Common.{◌≡◌, ℕ, ◌+◌, Bool, true, false, cond, ◌&&◌, List, [], ◌∷◌, ◌++◌, Option, Some, None, Result, Ok, Err, inl, inr, refl, ap, sym, ◌∙◌, subst}
use Rattle.std.specs.Prelude.{Contains, ◌⊎◌}
use Rattle.std.specs.List.{cons_option}
use Rattle.inc_token.specs.LineWalk.{lines_or_none}
use Rattle.inc_token.specs.TokenLines.{Tok, TokenLine}
use Rattle.inc_text.specs.declared.languages.Language.{Language}
use Rattle.inc_token.specs.declared.lines.LexFault.{LexFault}
use Rattle.inc_directive.specs.declared.sections.BalanceFault.{BalanceFault}
use Rattle.inc_directive.specs.FileDirectives.{Directive, directive_of, directives_in, tree_directives, line_directives}
use Rattle.inc_directive.specs.Groups.{FileLine, Group, directive_line, file_lines, file_lines_from, file_tree, lines_of}
use Rattle.inc_directive.specs.LineKinds.{LineKind, Include, line_kind, line_of_tokens}
use Rattle.inc_directive.specs.Removal.{is_include, is_removed, with_removed}
use Rattle.inc_directive.proofs.TreeLines.{lines-group_tree}
use Rattle.inc_macro.specs.Results.{◌>>=◌}
use Rattle.inc_graph.proofs.ClosureWalks.{contains_head, contains_tail}
use Rattle.inc_pp.specs.Files.{FileFault, lines_or_fault, of_balance, tree_of_lines}

---- lists

-- P of each
abbrev pub Each : {X : Type 0} → (X → Type 0) → List X → Type 0
Each P [] = Unit {0}
Each P (x ∷ xs) = P x × Each P xs

pub each_before : {X : Type 0} (P : X → Type 0) (xs ys : List X) → Each P (xs ++ ys) → Each P xs
each_before P [] ys h = tt
each_before P (x ∷ xs) ys h = (h.0, each_before P xs ys h.1)

pub each_behind : {X : Type 0} (P : X → Type 0) (xs ys : List X) → Each P (xs ++ ys) → Each P ys
each_behind P [] ys h = h
each_behind P (x ∷ xs) ys h = each_behind P xs ys h.1

pub each_push : {X : Type 0} (P : X → Type 0) (xs : List X) (x : X) → Each P xs → P x → Each P (xs ++ x ∷ [])
each_push P [] x h p = (p, tt)
each_push P (y ∷ ys) x h p = (h.0, each_push P ys x h.1 p)

pub each_weaker : {X : Type 0} (P Q : X → Type 0) → ((x : X) → P x → Q x) → (xs : List X) → Each P xs → Each Q xs
each_weaker P Q weaker [] h = tt
each_weaker P Q weaker (x ∷ xs) h = (weaker x h.0, each_weaker P Q weaker xs h.1)

pub each_both : {X : Type 0} (P Q : X → Type 0) → (xs : List X) → Each P xs → Each Q xs → Each (λ x. P x × Q x) xs
each_both P Q [] h k = tt
each_both P Q (x ∷ xs) h k = ((h.0, k.0), each_both P Q xs h.1 k.1)

pub contains_more : {X : Type 0} (o : Option X) (xs : List X) (x : X) → Contains xs x → Contains (cons_option o xs) x
contains_more None xs x c = c
contains_more (Some y) xs x c = contains_tail y xs x c

---- the lines of a file

abbrev pub directive_at : LineKind → ℕ → Directive
directive_at kind line = record { kind = kind; line = line }

-- an include line is one of these directives, and is not removed
abbrev pub Stays : (removed : ℕ → Bool) → List Directive → LineKind → (line : ℕ) → Type 0
Stays removed ds (Include by target) line = Contains ds (directive_at (Include by target) line) × (removed line ≡ false)
Stays removed ds _ line = Unit {0}

abbrev pub LineStays : (removed : ℕ → Bool) → List Directive → FileLine → Type 0
LineStays removed ds l = Stays removed ds l.kind (directive_line l)

stays_more : (removed : ℕ → Bool) (o : Option Directive) (ds : List Directive) (kind : LineKind) (line : ℕ) → Stays removed ds kind line → Stays removed (cons_option o ds) kind line
stays_more removed o ds (Include by target) line h = (contains_more o ds (directive_at (Include by target) line) h.0, h.1)
stays_more removed o ds kind line h = tt

stays_here : (removed : ℕ → Bool) (kind : LineKind) (line : ℕ) (ds : List Directive) → (is_include kind && removed line) ≡ false → Stays removed (cons_option (directive_of kind line) ds) kind line
stays_here removed (Include by target) line ds off = (contains_head (directive_at (Include by target) line) ds, off)
stays_here removed kind line ds off = tt

-- of a line, whether it is removed or not
line_stays : (language : Language) (removed : ℕ → Bool) (ts : List Tok) (last : ℕ) (ds : List Directive) (b : Bool) → is_removed language removed ts ≡ b
    → let m : TokenLine = cond b (record { tokens = []; last_line = last }) (record { tokens = ts; last_line = last }) in
    Stays removed (cons_option (directive_of (line_kind language ts) (line_of_tokens ts)) ds) (line_kind language m.tokens) (line_of_tokens m.tokens)
line_stays language removed ts last ds true is = tt
line_stays language removed ts last ds false is = stays_here removed (line_kind language ts) (line_of_tokens ts) ds is

lines_stay : (language : Language) (removed : ℕ → Bool) (place : ℕ) (ls : List TokenLine)
    → Each (LineStays removed (directives_in (file_lines_from language place ls))) (file_lines_from language place (with_removed language removed ls))
lines_stay language removed place [] = tt
lines_stay language removed place (l ∷ ls) =
    let more : List Directive = directives_in (file_lines_from language (place + 1) ls) in
    let first : Option Directive = directive_of (line_kind language l.tokens) (line_of_tokens l.tokens) in (
      line_stays language removed l.tokens l.last_line more (is_removed language removed l.tokens) refl,
      each_weaker (LineStays removed more) (LineStays removed (cons_option first more)) (λ x. stays_more removed first more x.kind (directive_line x))
          (file_lines_from language (place + 1) (with_removed language removed ls)) (lines_stay language removed (place + 1) ls),
    )

-- a line is of the kind that its tokens give, which are those of one of these lines, or none
abbrev pub IsLineOf : Language → List TokenLine → FileLine → Type 0
IsLineOf language ls l = (l.kind ≡ line_kind language l.tokens) × ((l.tokens ≡ []) ⊎ ((m : TokenLine) × Contains ls m × (m.tokens ≡ l.tokens)))

later_line : (language : Language) (m : TokenLine) (ls : List TokenLine) (l : FileLine) → IsLineOf language ls l → IsLineOf language (m ∷ ls) l
later_line language m ls l h = (h.0, elim h.1 [ inl none ↦ inl none | inr there ↦ inr (there.0, contains_tail m ls there.0 there.1, there.2) ])

-- of a line, whether it is removed or not
first_line : (language : Language) (place : ℕ) (l : TokenLine) (ls : List TokenLine) (b : Bool)
    → let m : TokenLine = cond b (record { tokens = []; last_line = l.last_line }) l in
    IsLineOf language (l ∷ ls) (record { place = place; kind = line_kind language m.tokens; tokens = m.tokens; last_line = m.last_line })
first_line language place l ls true = (refl, inl refl)
first_line language place l ls false = (refl, inr (l, contains_head l ls, refl))

lines_of_file : (language : Language) (removed : ℕ → Bool) (place : ℕ) (ls : List TokenLine) → Each (IsLineOf language ls) (file_lines_from language place (with_removed language removed ls))
lines_of_file language removed place [] = tt
lines_of_file language removed place (l ∷ ls) = (
  first_line language place l ls (is_removed language removed l.tokens),
  each_weaker (IsLineOf language ls) (IsLineOf language (l ∷ ls)) (λ x. later_line language l ls x) (file_lines_from language (place + 1) (with_removed language removed ls))
      (lines_of_file language removed (place + 1) ls),
)

---- the tree of a file

tree_is : (r : Result Group BalanceFault) (tree : Group) → (elim r as (λ _. Result Group FileFault) [ Ok t ↦ Ok t | Err fault ↦ Err (of_balance fault) ]) ≡ Ok tree → r ≡ Ok tree
tree_is (Ok t) tree e = cc
tree_is (Err fault) tree e = cc

directives_are : (ls : List FileLine) (r : Result Group BalanceFault) (ds : List Directive) → ((tree : Group) → r ≡ Ok tree → lines_of tree ≡ ls) → tree_directives r ≡ Ok ds → directives_in ls ≡ ds
directives_are ls (Ok tree) ds keep e =
    let same : directives_in (lines_of tree) ≡ ds = cc in
    ap directives_in (sym (keep tree refl)) ∙ same
directives_are ls (Err fault) ds keep e = cc

-- the include lines of the tree without what is removed
pub tree_stays : (language : Language) (removed : ℕ → Bool) (r : Result (List TokenLine) LexFault) (tree : Group) (ds : List Directive)
    → (lines_or_fault r >>= λ ls. tree_of_lines language (with_removed language removed ls)) ≡ Ok tree → line_directives language r ≡ Ok ds
    → Each (LineStays removed ds) (lines_of tree)
tree_stays language removed (Ok ls) tree ds e d =
    let kept = lines-group_tree (file_lines language (with_removed language removed ls)) tree (tree_is (file_tree language (with_removed language removed ls)) tree e) in
    let same = directives_are (file_lines language ls) (file_tree language ls) ds (lines-group_tree (file_lines language ls)) d in
    subst (λ es. Each (LineStays removed es) (lines_of tree)) same
    (subst (λ ms. Each (LineStays removed (directives_in (file_lines language ls))) ms) (sym kept) (lines_stay language removed 0 ls))
tree_stays language removed (Err fault) tree ds e d = cc

-- each line of the tree is of the file
pub tree_lines : (language : Language) (removed : ℕ → Bool) (r : Result (List TokenLine) LexFault) (tree : Group)
    → (lines_or_fault r >>= λ ls. tree_of_lines language (with_removed language removed ls)) ≡ Ok tree
    → Each (IsLineOf language (lines_or_none r)) (lines_of tree)
tree_lines language removed (Ok ls) tree e =
    let kept = lines-group_tree (file_lines language (with_removed language removed ls)) tree (tree_is (file_tree language (with_removed language removed ls)) tree e) in
    subst (λ ms. Each (IsLineOf language ls) ms) (sym kept) (lines_of_file language removed 0 ls)
tree_lines language removed (Err fault) tree e = cc
