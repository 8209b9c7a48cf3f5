-- How a section closes before an ending, by what the ending shows of itself.
use Rattle.std.proofs.Common.{◌≡◌, ℕ, false, List, ◌∷◌, ◌++◌, Option, Some, None, MatchOption, Ok, Err, subst, refl, ap, sym, ◌∙◌, append_assoc, append-nil}
use Rattle.inc_directive.specs.declared.kinds.Role.{Role}
use Rattle.inc_directive.specs.declared.kinds.Role.TheVariants.{IfGroup, ElifGroup, ElseGroup, TextLine}
use Rattle.inc_directive.specs.Groups.{FileLine, Group, Empty, Run, Control, Section, Branches, Branch, Otherwise, Close, Ending, FileEnd, Faulty, AtElif, AtElse, AtEndif, Closed, Link, link_to, links, links_of_branches, first_line, endif_of, directive_line, with_branch, with_text, with_section, role, with_line, branches, else_branch, whole, links_of_tree}
use Rattle.inc_directive.specs.Plans.{Outlook, condition_closing, else_closing, rest_of, jump_to, jump_of, before_line, before_opening, first_fault}
use Rattle.inc_directive.proofs.EndingPlans.{IsBelow, outlook, ending_links, link_of_jump}
use Rattle.inc_directive.specs.declared.sections.BalanceFault.TheVariants.{OpenIf}
use Rattle.inc_directive.specs.declared.sections.Closing.{Closing}
use Rattle.inc_directive.specs.declared.sections.Closing.TheVariants.{At, Missing, Refused}
use Rattle.inc_directive.specs.declared.sections.Pending.{Pending}
use Rattle.inc_directive.specs.declared.sections.Jump.{Jump}

-- branches from a line on that close at a place: the outlook `o` is that of the ending after the line, and `list` has the
-- links from the line on
record AreClosed (place : ℕ) (l : FileLine) (list : List Link) (o : Outlook) (r : Closed) : Type 0 where
  -- the branches
  parts : Branches
  -- the group after the line that closes them
  after : Group
  -- what ends that group
  ending : Ending
  -- they are what was found
  is : r ≡ Ok (parts, after, ending)
  -- the first branch begins with this line
  first : first_line parts ≡ l
  -- the line that closes them is at this place
  end : (endif_of parts).place ≡ place
  -- the ending's outlook is that after the line
  same : outlook ending ≡ record { pending = rest_of o.pending; fault = o.fault }
  -- their links come first
  linked : list ≡ links_of_branches parts ++ (links after ++ ending_links ending)

abbrev Closes : Closing → ℕ → FileLine → List Link → Outlook → Closed → Type 0
Closes (At place) opening l list o r = AreClosed place l list o r
Closes Missing opening l list o r = r ≡ Err (OpenIf opening)
Closes (Refused fault) opening l list o r = r ≡ Err fault

-- one more branch before them
closes_more : (closing : Closing) (opening : ℕ) (l : FileLine) (g : Group) (m : FileLine) (p : Pending) (list : List Link) (o : Outlook) (r : Closed)
    → p.place ≡ m.place → Closes closing opening m list o r
    → Closes closing opening l (link_of_jump (jump_to l.place (Some p) closing) ++ (links g ++ list)) (record { pending = p ∷ rest_of o.pending; fault = o.fault }) (with_branch l g r)
closes_more Missing opening l g m p list o r e h = ap (with_branch l g) h
closes_more (Refused fault) opening l g m p list o r e h = ap (with_branch l g) h
closes_more (At place) opening l g m p list o r e h =
    let branch : p.place ≡ (first_line h.parts).place = e ∙ sym (ap (λ (f : FileLine). f.place) h.first) in
    let after : links g ++ list ≡ (links g ++ links_of_branches h.parts) ++ (links h.after ++ ending_links h.ending) =
    ap (λ (ks : List Link). links g ++ ks) h.linked ∙ sym (append_assoc (links g) (links_of_branches h.parts) (links h.after ++ ending_links h.ending)) in
    record {
      parts = Branch l g h.parts;
      after = h.after;
      ending = h.ending;
      is = ap (with_branch l g) h.is;
      first = refl;
      end = h.end;
      same = h.same;
      linked = cc (branch, h.end, after);
    }

else_closes : (opening : ℕ) (l : FileLine) (g : Group) (e : Ending)
    → Closes (else_closing (outlook e)) opening l (link_of_jump (jump_of ElseGroup l.place (outlook e)) ++ (links g ++ ending_links e)) (outlook e) (else_branch opening l g e)
else_closes opening l g FileEnd = refl
else_closes opening l g (Faulty fault) = refl
else_closes opening l g (AtElif n k e) = refl
else_closes opening l g (AtElse n k e) = refl
else_closes opening l g (AtEndif n k e) =
    record {
      parts = Otherwise l g n;
      after = k;
      ending = e;
      is = refl;
      first = refl;
      end = refl;
      same = refl;
      linked = refl;
    }

closes : (opening : ℕ) (l : FileLine) (g : Group) (e : Ending)
    → Closes (condition_closing (outlook e)) opening l (link_of_jump (jump_of ElifGroup l.place (outlook e)) ++ (links g ++ ending_links e)) (outlook e) (branches opening l g e)
closes opening l g FileEnd = refl
closes opening l g (Faulty fault) = refl
closes opening l g (AtElif m h e) =
    closes_more (condition_closing (outlook e)) opening l g m (record { place = m.place; line = directive_line m; is_endif = false; closing = condition_closing (outlook e) })
    (ending_links (AtElif m h e)) (outlook e) (branches opening m h e) refl (closes opening m h e)
closes opening l g (AtElse m h e) =
    closes_more (else_closing (outlook e)) opening l g m (record { place = m.place; line = directive_line m; is_endif = false; closing = else_closing (outlook e) })
    (ending_links (AtElse m h e)) (outlook e) (else_branch opening m h e) refl (else_closes opening m h e)
closes opening l g (AtEndif n k e) =
    record {
      parts = Branch l g (Close n);
      after = k;
      ending = e;
      is = refl;
      first = refl;
      end = refl;
      same = refl;
      linked = ap (λ (ks : List Link). link_to l (Close n) ∷ ks ++ (links k ++ ending_links e)) (sym (append-nil (links g)));
    }

-- the line l, which opens a section, before x
record AreOpened (l : FileLine) (closing : Closing) (jump : Option Jump) (list : List Link) (o : Outlook) (x : Group × Ending) : Type 0 where
  same : before_opening closing (directive_line l) o ≡ outlook x.1
  linked : (before_opening closing (directive_line l) o).fault ≡ None → link_of_jump jump ++ list ≡ links x.0 ++ ending_links x.1

opened : (closing : Closing) (l : FileLine) (jump : Option Jump) (list : List Link) (o : Outlook) (r : Closed)
    → Closes closing (directive_line l) l (link_of_jump jump ++ list) o r → AreOpened l closing jump list o (with_section r)
opened Missing l jump list o r h = rw h (record { same = refl; linked = λ e. cc })
opened (Refused fault) l jump list o r h = rw h (record { same = refl; linked = λ e. cc })
opened (At place) l jump list o r h =
    rw h.is (record { same = sym h.same; linked = λ _. h.linked ∙ sym (append_assoc (links_of_branches h.parts) (links h.after) (ending_links h.ending)) })

-- an opening line
below_opening : (l : FileLine) (x : Group × Ending) → AreOpened l (condition_closing (outlook x.1)) (jump_of IfGroup l.place (outlook x.1)) (links x.0 ++ ending_links x.1) (outlook x.1)
    (with_section (branches (directive_line l) l x.0 x.1))
below_opening l x =
    opened (condition_closing (outlook x.1)) l (jump_of IfGroup l.place (outlook x.1)) (links x.0 ++ ending_links x.1) (outlook x.1) (branches (directive_line l) l x.0 x.1)
    (closes (directive_line l) l x.0 x.1)

-- what a line leaves as it was, or adds
record AreBefore (k : Role) (l : FileLine) (x : Group × Ending) : Type 0 where
  same : before_line k l.place (directive_line l) (outlook x.1) ≡ outlook (with_line k l x).1
  fault : (before_line k l.place (directive_line l) (outlook x.1)).fault ≡ None → (outlook x.1).fault ≡ None
  linked : (before_line k l.place (directive_line l) (outlook x.1)).fault ≡ None
      → link_of_jump (jump_of k l.place (outlook x.1)) ++ (links x.0 ++ ending_links x.1) ≡ links (with_line k l x).0 ++ ending_links (with_line k l x).1

fault_kept : (closing : Closing) (line : ℕ) (o : Outlook) → (before_opening closing line o).fault ≡ None → o.fault ≡ None
fault_kept (At place) line o h = h
fault_kept Missing line o h = cc
fault_kept (Refused fault) line o h = cc

links-with_text : (l : FileLine) (g : Group) → links (with_text l g) ≡ links g
links-with_text l Empty = refl
links-with_text l (Run ls g) = refl
links-with_text l (Control m g) = refl
links-with_text l (Section bs g) = refl

before : (k : Role) (l : FileLine) (x : Group × Ending) → AreBefore k l x
before TextLine l x = record { same = refl; fault = λ h. h; linked = λ _. ap (λ (ks : List Link). ks ++ ending_links x.1) (sym (links-with_text l x.0)) }
before IfGroup l x = let h = below_opening l x in record { same = h.same; fault = fault_kept (condition_closing (outlook x.1)) (directive_line l) (outlook x.1); linked = h.linked }
before k l x = record { same = refl; fault = λ h. h; linked = λ _. refl }

-- a line before what is below it
below_at : (l : FileLine) (x : Group × Ending) (list : List Link) → ((outlook x.1).fault ≡ None → list ≡ links x.0 ++ ending_links x.1)
    → IsBelow (link_of_jump (jump_of (role l.kind) l.place (outlook x.1)) ++ list) (before_line (role l.kind) l.place (directive_line l) (outlook x.1)) (with_line (role l.kind) l x)
below_at l x list h =
    let b = before (role l.kind) l x in
    record {
      same = b.same;
      linked = λ e. ap (λ (ks : List Link). link_of_jump (jump_of (role l.kind) l.place (outlook x.1)) ++ ks) (h (b.fault e)) ∙ b.linked e;
    }

pub below_line : (l : FileLine) (x : Group × Ending) (list : List Link) (o : Outlook) → IsBelow list o x
    → IsBelow (link_of_jump (jump_of (role l.kind) l.place o) ++ list) (before_line (role l.kind) l.place (directive_line l) o) (with_line (role l.kind) l x)
below_line l x list o h =
    let P : Outlook → Type 0 = λ o. IsBelow (link_of_jump (jump_of (role l.kind) l.place o) ++ list) (before_line (role l.kind) l.place (directive_line l) o) (with_line (role l.kind) l x) in
    subst P (sym h.same) (below_at l x list (λ e. h.linked (ap (λ (o : Outlook). o.fault) h.same ∙ e)))

-- what the outlook says of the whole file
abbrev pub FileAnswer : List Link → Outlook → Group × Ending → Type 0
FileAnswer list o x = MatchOption (first_fault o.pending o.fault) (links_of_tree (whole x.0 x.1) ≡ Ok list) (λ fault. whole x.0 x.1 ≡ Err fault)

answer_at : (list : List Link) (g : Group) (e : Ending) → ((outlook e).fault ≡ None → list ≡ links g ++ ending_links e) → FileAnswer list (outlook e) (g, e)
answer_at list g FileEnd h = ap Ok (sym (h refl ∙ append-nil (links g)))
answer_at list g (Faulty fault) h = refl
answer_at list g (AtElif l k e) h = refl
answer_at list g (AtElse l k e) h = refl
answer_at list g (AtEndif l k e) h = refl

pub answer_below : (list : List Link) (o : Outlook) (x : Group × Ending) → IsBelow list o x → FileAnswer list o x
answer_below list o x h =
    let P : Outlook → Type 0 = λ o. FileAnswer list o x in
    subst P (sym h.same) (answer_at list x.0 x.1 (λ e. h.linked (ap (λ (o : Outlook). o.fault) h.same ∙ e)))

-- where no fault is after the line and what follows it, none is after that
pub fault_before : (k : Role) (l : FileLine) (x : Group × Ending) → (outlook (with_line k l x).1).fault ≡ None → (outlook x.1).fault ≡ None
fault_before k l x h =
    let b = before k l x in
    b.fault (ap (λ (o : Outlook). o.fault) b.same ∙ h)

-- the outlook at the end of a group that begins with the line
pub before-outlook : (k : Role) (l : FileLine) (x : Group × Ending) → before_line k l.place (directive_line l) (outlook x.1) ≡ outlook (with_line k l x).1
before-outlook k l x = let b = before k l x in b.same
