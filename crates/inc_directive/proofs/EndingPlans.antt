-- The outlook and the links of an ending.
use Rattle.std.specs.Prelude.{◌≡◌, List, [], ◌∷◌, ◌++◌, Option, Some, None}
use Rattle.inc_directive.specs.Groups.{Group, Ending, FileEnd, Faulty, AtElif, AtElse, AtEndif, Link, links, directive_line}
use Rattle.inc_directive.specs.declared.kinds.Role.TheVariants.{ElifGroup, ElseGroup}
use Rattle.inc_directive.specs.declared.sections.Jump.{Jump}
use Rattle.inc_directive.specs.Plans.{Outlook, before_branch, before_endif, condition_closing, else_closing, link_of, jump_of}

-- that of a line, where it leads to one
abbrev pub link_of_jump : Option Jump → List Link
link_of_jump None = []
link_of_jump (Some s) = link_of s ∷ []

-- the outlook at an ending
abbrev pub outlook : Ending → Outlook
outlook FileEnd = record { pending = []; fault = None }
outlook (Faulty fault) = record { pending = []; fault = Some fault }
outlook (AtElif l g e) = before_branch (condition_closing (outlook e)) l.place (directive_line l) (outlook e)
outlook (AtElse l g e) = before_branch (else_closing (outlook e)) l.place (directive_line l) (outlook e)
outlook (AtEndif l g e) = before_endif l.place (directive_line l) (outlook e)

-- the links from an ending on
abbrev pub ending_links : Ending → List Link
ending_links FileEnd = []
ending_links (Faulty fault) = []
ending_links (AtElif l g e) = link_of_jump (jump_of ElifGroup l.place (outlook e)) ++ (links g ++ ending_links e)
ending_links (AtElse l g e) = link_of_jump (jump_of ElseGroup l.place (outlook e)) ++ (links g ++ ending_links e)
ending_links (AtEndif l g e) = links g ++ ending_links e

-- the outlook of lines and their links are those of the group that begins there, and of what ends it
pub record IsBelow (list : List Link) (o : Outlook) (x : Group × Ending) : Type 0 where
  pub same : o ≡ outlook x.1
  pub linked : o.fault ≡ None → list ≡ links x.0 ++ ending_links x.1
