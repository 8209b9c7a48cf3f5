-- The walk over a file's lines, from the last one on.
use Rattle.std.proofs.Common.{◌≡◌, ℕ, zero, suc, ◌+◌, ◌≤◌, List, [], ◌∷◌, ◌++◌, Option, Some, None, IfSome, option_to_list, slice_get, map, reverse, refl, sym, ap, ◌∙◌, arith, subst}
use Rattle.inc_directive.specs.LineKinds.{line_of_tokens}
use Rattle.inc_directive.specs.declared.kinds.Role.{Role}
use Rattle.inc_directive.specs.declared.kinds.Role.TheVariants.{IfGroup, ElifGroup, ElseGroup}
use Rattle.inc_directive.specs.Groups.{FileLine, Group, Ending, role, with_line, group_at}
use Rattle.inc_directive.specs.Plans.{Outlook, AscendFrom, link_of, before_line, jump_of, jump_to, first_of, condition_closing, else_closing}
use Rattle.inc_directive.proofs.EndingPlans.{IsBelow, link_of_jump}
use Rattle.inc_directive.specs.declared.sections.Closing.{Closing}
use Rattle.inc_directive.specs.declared.sections.Closing.TheVariants.{At, Missing, Refused}
use Rattle.inc_directive.specs.declared.sections.Pending.{Pending}
use Rattle.inc_directive.specs.declared.sections.Jump.{Jump}
use Rattle.inc_directive.specs.Parts.{AreNumbered}
use Rattle.inc_directive.proofs.Endings.{below_line}

-- the walk over the lines from a place on has these jumps
pub record AreWalked (place : ℕ) (jumps : List Jump) (o : Outlook) (x : Group × Ending) : Type 0 where
  pub below : IsBelow (map link_of jumps) o x
  pub ascend : AscendFrom place jumps

pub walked_none : (n : ℕ) (jumps : List Jump) (o : Outlook) (fl : List FileLine) → jumps ≡ [] → o ≡ record { pending = []; fault = None } → fl ≡ []
    → AreWalked n (reverse jumps) o (group_at fl)
walked_none n jumps o fl s p e = rw (s, p, e) (record { below = record { same = refl; linked = λ _. refl }; ascend = tt })

-- from a place further up
ascend_lower : (jumps : List Jump) (first place : ℕ) → first ≤ place → AscendFrom place jumps → AscendFrom first jumps
ascend_lower [] first place h a = tt
ascend_lower (s ∷ jumps) first place h a = (omega arith, a.1)

place-jump_to : (place : ℕ) (next : Option Pending) (closing : Closing) → IfSome (jump_to place next closing) (λ s. s.place ≡ place)
place-jump_to place None closing = tt
place-jump_to place (Some p) (At end) = refl
place-jump_to place (Some p) Missing = tt
place-jump_to place (Some p) (Refused fault) = tt

pub place-jump_of : (k : Role) (place : ℕ) (o : Outlook) → IfSome (jump_of k place o) (λ s. s.place ≡ place)
place-jump_of IfGroup place o = place-jump_to place (first_of o.pending) (condition_closing o)
place-jump_of ElifGroup place o = place-jump_to place (first_of o.pending) (condition_closing o)
place-jump_of ElseGroup place o = place-jump_to place (first_of o.pending) (else_closing o)
place-jump_of k place o = tt

-- the jump of one line more, if it leads to a branch
with_jump : (jumps : List Jump) (new : Option Jump) (place : ℕ) (o : Outlook) (x : Group × Ending) → IfSome new (λ s. s.place ≡ place) → AscendFrom (place + 1) jumps
    → IsBelow (link_of_jump new ++ map link_of jumps) o x → AreWalked place (option_to_list new ++ jumps) o x
with_jump jumps None place o x at a h = record { below = h; ascend = ascend_lower jumps place (place + 1) (omega arith) a }
with_jump jumps (Some s) place o x at a h =
    let here : place ≤ s.place = omega arith in
    let P : ℕ → Type 0 = λ n. AscendFrom (n + 1) jumps in
    record { below = h; ascend = (here, subst P (sym at) a) }

pub walked_line : (l : FileLine) (jumps : List Jump) (o : Outlook) (x : Group × Ending) (new : Option Jump) (p : Outlook) → new ≡ jump_of (role l.kind) l.place o
    → p ≡ before_line (role l.kind) l.place (line_of_tokens l.tokens) o → AreWalked (l.place + 1) jumps o x → AreWalked l.place (option_to_list new ++ jumps) p (with_line (role l.kind) l x)
walked_line l jumps o x new p e f h =
    rw (e, f) (with_jump jumps (jump_of (role l.kind) l.place o) l.place _ _ (place-jump_of (role l.kind) l.place o) h.ascend (below_line l x (map link_of jumps) o h.below))

-- the line at a place is numbered so
pub place_at : (first : ℕ) (lines : List FileLine) (i at : ℕ) (l : FileLine) → AreNumbered first lines → at ≡ first + i → slice_get lines i ≡ Some l → l.place ≡ at
place_at first [] i at l h e is = cc
place_at first (m ∷ lines) zero at l h e is =
    let same : m ≡ l = cc in
    let here : first ≡ at = omega arith in
    ap (λ (x : FileLine). x.place) (sym same) ∙ h.0 ∙ here
place_at first (m ∷ lines) (suc i) at l h e is = place_at (first + 1) lines i at l h.1 (omega arith) is
