-- Which directives can be taken as removed. A directive that is removed is a line of text with no token, in
-- whatever group it is.
use Rattle.std.specs.Prelude.{ℕ, ◌==◌, ◌&&◌, not, Bool, true, false, List, [], Result, Ok, Err, if◌then◌else◌, filter, map}
use Rattle.std.specs.List.{list_any}
use Rattle.inc_text.specs.declared.languages.Language.{Language}
use Rattle.inc_token.specs.TokenLines.{Tok, TokenLine}
use Rattle.inc_directive.specs.LineKinds.{LineKind, Include, Other, line_kind, line_of_tokens}
use Rattle.inc_directive.specs.declared.kinds.DirectiveKind.TheVariants.{Foreign}
use Rattle.inc_directive.specs.FileDirectives.{Directive}
use Rattle.inc_directive.specs.declared.files.FileFault.{FileFault}

-- an include directive of any form
abbrev pub is_include : LineKind → Bool
is_include (Include name target) = true
is_include _ = false

-- an include directive of any form, or a directive that is none of C
abbrev pub is_removable : LineKind → Bool
is_removable (Other Foreign) = true
is_removable kind = is_include kind

-- a directive that stays, where those on these lines are removed
abbrev pub stays : (removed : ℕ → Bool) → Directive → Bool
stays removed d = not (is_removable d.kind && removed d.line)

-- the directives of a file without those that are removed; a fault stays
abbrev pub without : (removed : ℕ → Bool) → Result (List Directive) FileFault → Result (List Directive) FileFault
without removed (Ok directives) = Ok (filter (stays removed) directives)
without removed (Err fault) = Err fault

-- the number is in the list
abbrev pub is_among : List ℕ → ℕ → Bool
is_among ns n = list_any (λ k. k == n) ns

-- the line is an include directive that is removed
abbrev pub is_removed : Language → (removed : ℕ → Bool) → List Tok → Bool
is_removed language removed ts = is_include (line_kind language ts) && removed (line_of_tokens ts)

-- without its tokens, where it is removed
abbrev pub with_line_removed : Language → (removed : ℕ → Bool) → TokenLine → TokenLine
with_line_removed language removed l =
    if is_removed language removed l.tokens then record { tokens = []; last_line = l.last_line } else l

-- removed include directives are text lines without tokens, in whatever group they are
abbrev pub with_removed : Language → (removed : ℕ → Bool) → List TokenLine → List TokenLine
with_removed language removed ls = map (with_line_removed language removed) ls
