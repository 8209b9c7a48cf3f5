-- In lines that have a tree each section closes, and each ending is that of a section.
use Rattle.std.proofs.Common.{◌≡◌, ℕ, zero, suc, Bool, true, false, List, [], ◌∷◌, Option, Some, None, Ok, Err, if◌then◌else◌, drop, slice_get, refl, sym, subst}
use Rattle.inc_directive.specs.Groups.{FileLine, Group, Ending, FileEnd, Faulty, AtElif, AtElse, AtEndif, Closed, directive_line, with_section, role, with_line, branches, whole, group_at, group_tree}
use Rattle.inc_directive.specs.Jumps.{Closes}
use Rattle.inc_directive.specs.Plans.{Outlook, first_of, rest_of, closing_at, else_closing_at, condition_closing, before_line, before_opening}
use Rattle.inc_directive.proofs.EndingPlans.{outlook}
use Rattle.inc_directive.specs.declared.kinds.Role.{Role}
use Rattle.inc_directive.specs.declared.kinds.Role.TheVariants.{IfGroup, ElifGroup, ElseGroup, EndifLine}
use Rattle.inc_directive.specs.declared.sections.BalanceFault.{BalanceFault}
use Rattle.inc_directive.specs.declared.sections.BalanceFault.TheVariants.{AfterElse}
use Rattle.inc_directive.specs.declared.sections.Closing.{Closing}
use Rattle.inc_directive.specs.declared.sections.Closing.TheVariants.{At, Missing, Refused}
use Rattle.inc_directive.specs.declared.sections.Pending.{Pending}
use Rattle.inc_directive.proofs.Endings.{before-outlook, fault_before}

-- the end of the file ends the group of lines with a tree
pub end-whole : (g : Group) (e : Ending) (tree : Group) → whole g e ≡ Ok tree → e ≡ FileEnd
end-whole g FileEnd tree h = refl
end-whole g (Faulty fault) tree h = cc
end-whole g (AtElif l k e) tree h = cc
end-whole g (AtElse l k e) tree h = cc
end-whole g (AtEndif l k e) tree h = cc

---- each section closes

closes_as : (l : FileLine) (x : Group × Ending) (r : Closed) → branches (directive_line l) l x.0 x.1 ≡ r → (outlook (with_section r).1).fault ≡ None → Closes l x
closes_as l x (Ok section) is h = record { section = section; whole = is }
closes_as l x (Err fault) is h = cc

closes_opening : (k : Role) (l : FileLine) (x : Group × Ending) → k ≡ IfGroup → (outlook (with_line k l x).1).fault ≡ None → Closes l x
closes_opening k l x is h =
    let P : Role → Type 0 = λ k. (outlook (with_line k l x).1).fault ≡ None in
    closes_as l x (branches (directive_line l) l x.0 x.1) refl (subst P is h)

closes_at : (lines : List FileLine) (i : ℕ) (l : FileLine) → (outlook (group_at lines).1).fault ≡ None → slice_get lines i ≡ Some l → role l.kind ≡ IfGroup
    → Closes l (group_at (drop (suc i) lines))
closes_at [] i l h is opens = cc
closes_at (m ∷ lines) zero l h is opens =
    let same : m ≡ l = cc in
    let P : FileLine → Type 0 = λ x. (outlook (with_line (role x.kind) x (group_at lines)).1).fault ≡ None in
    closes_opening (role l.kind) l (group_at lines) opens (subst P same h)
closes_at (m ∷ lines) (suc i) l h is opens = closes_at lines i l (fault_before (role m.kind) m (group_at lines) h) is opens

pub closes-group_tree : (lines : List FileLine) (tree : Group) → group_tree lines ≡ Ok tree → (i : ℕ) (l : FileLine) → slice_get lines i ≡ Some l → role l.kind ≡ IfGroup
    → Closes l (group_at (drop (suc i) lines))
closes-group_tree lines tree h i l is opens =
    let x = group_at lines in
    let P : Ending → Type 0 = λ e. (outlook e).fault ≡ None in
    closes_at lines i l (subst P (sym (end-whole x.0 x.1 tree h)) refl) is opens

---- each ending is that of a section

abbrev pub IsAt : Closing → Type 0
IsAt (At place) = Unit
IsAt Missing = ⊥
IsAt (Refused fault) = ⊥

abbrev pub AreAt : List Pending → Type 0
AreAt [] = Unit
AreAt (p ∷ ps) = IsAt p.closing × AreAt ps

-- no fault comes, and the section of each ending closes
pub record IsSound (o : Outlook) : Type 0 where
  pub fault : o.fault ≡ None
  pub pending : AreAt o.pending

first_at : (ps : List Pending) (fault : Option BalanceFault) → IsAt (closing_at (first_of ps) fault) → AreAt (rest_of ps) → AreAt ps
first_at [] fault here rest = tt
first_at (p ∷ ps) fault here rest = (here, rest)

chosen_at : (x : Bool) (closing : Closing) (fault : BalanceFault) → IsAt (if x then closing else Refused fault) → IsAt closing
chosen_at true closing fault h = h
chosen_at false closing fault h = absurd h

first_at_else : (ps : List Pending) (fault : Option BalanceFault) → IsAt (else_closing_at (first_of ps) fault) → AreAt (rest_of ps) → AreAt ps
first_at_else [] fault here rest = tt
first_at_else (p ∷ ps) fault here rest = (chosen_at p.is_endif p.closing (AfterElse p.line) here, rest)

pub opening_at : (closing : Closing) (line : ℕ) (o : Outlook) → IsSound (before_opening closing line o) → IsAt closing
opening_at (At place) line o h = tt
opening_at Missing line o h = let f = h.fault in cc
opening_at (Refused fault) line o h = let f = h.fault in cc

opening_after : (closing : Closing) (line : ℕ) (o : Outlook) → condition_closing o ≡ closing → IsSound (before_opening closing line o) → IsSound o
opening_after (At place) line o is h = record { fault = h.fault; pending = first_at o.pending o.fault (subst IsAt (sym is) tt) h.pending }
opening_after Missing line o is h = absurd (opening_at Missing line o h)
opening_after (Refused fault) line o is h = absurd (opening_at (Refused fault) line o h)

-- what is below a line is sound where the whole is
sound_after : (k : Role) (place line : ℕ) (o : Outlook) → IsSound (before_line k place line o) → IsSound o
sound_after IfGroup place line o h = opening_after (condition_closing o) line o refl h
sound_after ElifGroup place line o h = record { fault = h.fault; pending = first_at o.pending o.fault h.pending.0 h.pending.1 }
sound_after ElseGroup place line o h = record { fault = h.fault; pending = first_at_else o.pending o.fault h.pending.0 h.pending.1 }
sound_after EndifLine place line o h = record { fault = h.fault; pending = h.pending.1 }
sound_after k place line o h = h

sound_at : (lines : List FileLine) (i : ℕ) (l : FileLine) → IsSound (outlook (group_at lines).1) → slice_get lines i ≡ Some l
    → IsSound (before_line (role l.kind) l.place (directive_line l) (outlook (group_at (drop (suc i) lines)).1))
sound_at [] i l h is = cc
sound_at (m ∷ lines) zero l h is =
    let same : m ≡ l = cc in
    let P : FileLine → Type 0 = λ x. IsSound (before_line (role x.kind) x.place (directive_line x) (outlook (group_at lines).1)) in
    subst P same (subst IsSound (sym (before-outlook (role m.kind) m (group_at lines))) h)
sound_at (m ∷ lines) (suc i) l h is =
    sound_at lines i l
    (sound_after (role m.kind) m.place (directive_line m) (outlook (group_at lines).1) (subst IsSound (sym (before-outlook (role m.kind) m (group_at lines))) h)) is

pub sound-group_tree : (lines : List FileLine) (tree : Group) → group_tree lines ≡ Ok tree → (i : ℕ) (l : FileLine) → slice_get lines i ≡ Some l
    → IsSound (before_line (role l.kind) l.place (directive_line l) (outlook (group_at (drop (suc i) lines)).1))
sound-group_tree lines tree h i l is =
    let x = group_at lines in
    let P : Ending → Type 0 = λ e. IsSound (outlook e) in
    sound_at lines i l (subst P (sym (end-whole x.0 x.1 tree h)) (record { fault = refl; pending = tt })) is
