-- What `balance` keeps of the lines after a line: the first ending of each section that begins before, and the links. It is
-- what the tree from that line on shows of itself to the lines before.
use Rattle.std.specs.Prelude.{ℕ, ◌+◌, ◌≤◌, true, false, List, [], ◌∷◌, if◌then◌else◌, Option, Some, None}
use Rattle.inc_directive.specs.Groups.{Link}
use Rattle.inc_directive.specs.declared.kinds.Role.{Role}
use Rattle.inc_directive.specs.declared.kinds.Role.TheVariants.{IfGroup, ElifGroup, ElseGroup, EndifLine}
use Rattle.inc_directive.specs.declared.sections.BalanceFault.{BalanceFault}
use Rattle.inc_directive.specs.declared.sections.BalanceFault.TheVariants.{OpenIf, StrayBranch, AfterElse}
use Rattle.inc_directive.specs.declared.sections.Closing.{Closing}
use Rattle.inc_directive.specs.declared.sections.Closing.TheVariants.{At, Missing, Refused}
use Rattle.inc_directive.specs.declared.sections.Pending.{Pending}
use Rattle.inc_directive.specs.declared.sections.Jump.{Jump}
use Rattle.inc_directive.specs.declared.sections.Lead.{Lead}

-- the link of a line that leads to a branch
abbrev pub link_of : Jump → Link
link_of s = record { from = s.place; branch = s.branch; end = s.end }

-- each is after the one before it, and the first not before `place`
abbrev pub AscendFrom : ℕ → List Jump → Type 0
AscendFrom place [] = Unit
AscendFrom place (s ∷ ss) = (place ≤ s.place) × AscendFrom (s.place + 1) ss

-- the first endings of the sections that begin before a line, the innermost first, and the first fault after them
pub record Outlook : Type 0 where
  pub pending : List Pending
  pub fault : Option BalanceFault

-- the ending that a line looks at
abbrev pub first_of : List Pending → Option Pending
first_of [] = None
first_of (p ∷ ps) = Some p

abbrev pub rest_of : List Pending → List Pending
rest_of [] = []
rest_of (p ∷ ps) = ps

-- how a section closes that holds a line with a condition before the ending
abbrev pub closing_at : Option Pending → Option BalanceFault → Closing
closing_at (Some p) fault = p.closing
closing_at None None = Missing
closing_at None (Some fault) = Refused fault

-- the same for an #else, after which only the #endif may come
abbrev pub else_closing_at : Option Pending → Option BalanceFault → Closing
else_closing_at (Some p) fault = if p.is_endif then p.closing else Refused (AfterElse p.line)
else_closing_at None None = Missing
else_closing_at None (Some fault) = Refused fault

-- where a line before the ending leads
abbrev pub jump_to : ℕ → Option Pending → Closing → Option Jump
jump_to place None closing = None
jump_to place (Some p) (At end) = Some (record { place = place; branch = p.place; end = end })
jump_to place (Some p) Missing = None
jump_to place (Some p) (Refused fault) = None

-- a branch as the first ending of its section, in place of the one after it
abbrev pub before_branch : Closing → ℕ → ℕ → Outlook → Outlook
before_branch closing place line o =
    record { pending = record { place = place; line = line; is_endif = false; closing = closing } ∷ rest_of o.pending; fault = o.fault }

abbrev pub before_endif : ℕ → ℕ → Outlook → Outlook
before_endif place line o =
    record { pending = record { place = place; line = line; is_endif = true; closing = At place } ∷ o.pending; fault = o.fault }

-- the line that opens a section, which closes so
abbrev pub before_opening : Closing → ℕ → Outlook → Outlook
before_opening (At end) line o = record { pending = rest_of o.pending; fault = o.fault }
before_opening Missing line o = record { pending = []; fault = Some (OpenIf line) }
before_opening (Refused fault) line o = record { pending = []; fault = Some fault }

abbrev pub condition_closing : Outlook → Closing
condition_closing o = closing_at (first_of o.pending) o.fault

abbrev pub else_closing : Outlook → Closing
else_closing o = else_closing_at (first_of o.pending) o.fault

-- the outlook from a line on, by that from the next one
abbrev pub before_line : Role → ℕ → ℕ → Outlook → Outlook
before_line IfGroup place line o = before_opening (condition_closing o) line o
before_line ElifGroup place line o = before_branch (condition_closing o) place line o
before_line ElseGroup place line o = before_branch (else_closing o) place line o
before_line EndifLine place line o = before_endif place line o
before_line _ place line o = o

-- where a line leads, by the outlook after it
abbrev pub jump_of : Role → ℕ → Outlook → Option Jump
jump_of IfGroup place o = jump_to place (first_of o.pending) (condition_closing o)
jump_of ElifGroup place o = jump_to place (first_of o.pending) (condition_closing o)
jump_of ElseGroup place o = jump_to place (first_of o.pending) (else_closing o)
jump_of _ place o = None

-- the first fault of a file with this outlook at its beginning
abbrev pub first_fault : List Pending → Option BalanceFault → Option BalanceFault
first_fault [] fault = fault
first_fault (p ∷ ps) fault = Some (StrayBranch p.line)

---- what is kept of the jumps of parts

abbrev pub lead_of : Jump → Lead
lead_of j = record { branch = j.branch; end = j.end }

abbrev pub link_by : ℕ → Lead → Link
link_by i d = record { from = i; branch = d.branch; end = d.end }

-- the links of parts from one on
abbrev pub links_from : ℕ → List (Option Lead) → List Link
links_from i [] = []
links_from i (None ∷ ds) = links_from (i + 1) ds
links_from i (Some d ∷ ds) = link_by i d ∷ links_from (i + 1) ds
