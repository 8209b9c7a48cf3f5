-- The links of a tree are those of the lines of its file that open a section or a branch.
use Rattle.std.proofs.Common.{◌≡◌, ℕ, Bool, true, false, cond, List, [], ◌∷◌, ◌++◌, None, Ok, Err, IfOk, refl, ap, sym, ◌∙◌, append_assoc, append-nil}
use Rattle.std.specs.Prelude.{map}
use Rattle.std.proofs.lemmas.List.{map-append}
use Rattle.inc_directive.specs.declared.kinds.Role.{Role}
use Rattle.inc_directive.specs.declared.kinds.Role.TheVariants.{IfGroup, TextLine}
use Rattle.inc_directive.specs.Groups.{FileLine, Group, Empty, Run, Control, Section, Ending, FileEnd, Faulty, AtElif, AtElse, AtEndif, Closed, Link, directive_line, with_branch, with_text, with_section, role, with_line, branches, else_branch, whole, group_at, group_tree, links, links_of_branches}
use Rattle.inc_directive.proofs.EndingPlans.{outlook}
use Rattle.inc_directive.specs.TreeLaws.{is_opening, opening_places}
use Rattle.inc_directive.proofs.Endings.{fault_before}

-- where links begin
abbrev pub origins : List Link → List ℕ
origins ks = map (λ (k : Link). k.from) ks

-- where the links from an ending on begin
abbrev pub ending_origins : Ending → List ℕ
ending_origins FileEnd = []
ending_origins (Faulty fault) = []
ending_origins (AtElif l g e) = l.place ∷ (origins (links g) ++ ending_origins e)
ending_origins (AtElse l g e) = l.place ∷ (origins (links g) ++ ending_origins e)
ending_origins (AtEndif l g e) = origins (links g) ++ ending_origins e

-- the links of branches, of the group after them and of the rest of the file begin here
abbrev BeginAt : List ℕ → Closed → Type 0
BeginAt ns r = IfOk r (λ x. origins (links_of_branches x.0) ++ (origins (links x.1) ++ ending_origins x.2) ≡ ns)

-- the links of a group before others
origins-before : (ks more : List Link) (ns : List ℕ) → origins (ks ++ more) ++ ns ≡ origins ks ++ (origins more ++ ns)
origins-before ks more ns =
    ap (λ (ms : List ℕ). ms ++ ns) (map-append (λ (k : Link). k.from) ks more) ∙ append_assoc (origins ks) (origins more) ns

origins-with_branch : (l : FileLine) (g : Group) (ns : List ℕ) (r : Closed) → BeginAt ns r → BeginAt (l.place ∷ (origins (links g) ++ ns)) (with_branch l g r)
origins-with_branch l g ns (Err fault) h = tt
origins-with_branch l g ns (Ok x) h =
    ap
    (λ (ms : List ℕ). l.place ∷ ms)
    (origins-before (links g) (links_of_branches x.0) (origins (links x.1) ++ ending_origins x.2) ∙ ap (λ (ms : List ℕ). origins (links g) ++ ms) h)

origins-else_branch : (opening : ℕ) (l : FileLine) (g : Group) (e : Ending) → BeginAt (l.place ∷ (origins (links g) ++ ending_origins e)) (else_branch opening l g e)
origins-else_branch opening l g FileEnd = tt
origins-else_branch opening l g (Faulty fault) = tt
origins-else_branch opening l g (AtElif n k e) = tt
origins-else_branch opening l g (AtElse n k e) = tt
origins-else_branch opening l g (AtEndif n k e) = refl

origins-branches : (opening : ℕ) (l : FileLine) (g : Group) (e : Ending) → BeginAt (l.place ∷ (origins (links g) ++ ending_origins e)) (branches opening l g e)
origins-branches opening l g FileEnd = tt
origins-branches opening l g (Faulty fault) = tt
origins-branches opening l g (AtElif n k e) = origins-with_branch l g (ending_origins (AtElif n k e)) (branches opening n k e) (origins-branches opening n k e)
origins-branches opening l g (AtElse n k e) = origins-with_branch l g (ending_origins (AtElse n k e)) (else_branch opening n k e) (origins-else_branch opening n k e)
origins-branches opening l g (AtEndif n k e) =
    ap (λ (ms : List ℕ). l.place ∷ ms) (origins-before (links g) [] (origins (links k) ++ ending_origins e))

-- the links of a group and of what ends it begin here, if no fault ends it
abbrev GroupBeginsAt : List ℕ → Group × Ending → Type 0
GroupBeginsAt ns x = (outlook x.1).fault ≡ None → origins (links x.0) ++ ending_origins x.1 ≡ ns

origins-with_section : (ns : List ℕ) (r : Closed) → BeginAt ns r → GroupBeginsAt ns (with_section r)
origins-with_section ns (Ok x) h _ = origins-before (links_of_branches x.0) (links x.1) (ending_origins x.2) ∙ h
origins-with_section ns (Err fault) h e = cc

links-with_text : (l : FileLine) (g : Group) → links (with_text l g) ≡ links g
links-with_text l Empty = refl
links-with_text l (Run ls g) = refl
links-with_text l (Control m g) = refl
links-with_text l (Section bs g) = refl

-- the places from a line on, where those after it are known
abbrev places_from : Bool → ℕ → List ℕ → List ℕ
places_from opens place ns = cond opens (place ∷ ns) ns

origins-with_line : (k : Role) (l : FileLine) (x : Group × Ending) → GroupBeginsAt (places_from (is_opening k) l.place (origins (links x.0) ++ ending_origins x.1)) (with_line k l x)
origins-with_line TextLine l x = λ _. ap (λ (ks : List Link). origins ks ++ ending_origins x.1) (links-with_text l x.0)
origins-with_line IfGroup l x = origins-with_section _ (branches (directive_line l) l x.0 x.1) (origins-branches (directive_line l) l x.0 x.1)
origins-with_line k l x = λ _. refl

places-cons : (opens : Bool) (l : FileLine) (ls : List FileLine) → places_from opens l.place (map (λ (m : FileLine). m.place) ls) ≡ map (λ (m : FileLine). m.place) (cond opens (l ∷ ls) ls)
places-cons true l ls = refl
places-cons false l ls = refl

origins-group_at : (ls : List FileLine) → GroupBeginsAt (opening_places ls) (group_at ls)
origins-group_at [] _ = refl
origins-group_at (l ∷ ls) h =
    origins-with_line (role l.kind) l (group_at ls) h
    ∙ ap (places_from (is_opening (role l.kind)) l.place) (origins-group_at ls (fault_before (role l.kind) l (group_at ls) h))
    ∙ places-cons (is_opening (role l.kind)) l _

origins-whole : (ls : List FileLine) (g : Group) (e : Ending) (tree : Group) → GroupBeginsAt (opening_places ls) (g, e) → whole g e ≡ Ok tree → origins (links tree) ≡ opening_places ls
origins-whole ls g FileEnd tree h t =
    let same : g ≡ tree = cc in
    ap (λ (k : Group). origins (links k)) (sym same) ∙ sym (append-nil (origins (links g))) ∙ h refl
origins-whole ls g (Faulty fault) tree h t = cc
origins-whole ls g (AtElif l k e) tree h t = cc
origins-whole ls g (AtElse l k e) tree h t = cc
origins-whole ls g (AtEndif l k e) tree h t = cc

pub links-group_tree : (ls : List FileLine) (tree : Group) → group_tree ls ≡ Ok tree → origins (links tree) ≡ opening_places ls
links-group_tree ls tree h = origins-whole ls (group_at ls).0 (group_at ls).1 tree (origins-group_at ls) h
