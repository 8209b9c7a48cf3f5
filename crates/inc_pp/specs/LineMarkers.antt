-- Line markers: lines that say which line of which file the next one is, as compilers read them in a text that was preprocessed. They are
-- put out where the caller asks for them.
use Rattle.std.specs.Prelude.{ℕ, ◌+◌, ◌==◌, Bool, true, false, List, [], ◌∷◌, ◌++◌, Option, Some, None, if◌then◌else◌, codes, decimal}
use Rattle.inc_token.specs.declared.kinds.Kind.TheVariants.{Number, Punct, Str}
use Rattle.inc_text.specs.declared.languages.Language.{Language}
use Rattle.inc_expand.specs.Expansion.{Item, Place, presumed_line}
use Rattle.inc_pp.specs.Settings.{Settings}
use Rattle.inc_pp.specs.Tasks.{OutToken, line_tokens}

-- where tokens are whose lines are marked
abbrev pub marks_of : Settings → Place → Option Place
marks_of settings place = if settings.has_markers then Some place else None

-- the flag that says that a line is of a system header
abbrev pub flags : (is_system : Bool) → List OutToken
flags true = record { kind = Number; spelling = codes "3"; starts = false } ∷ []
flags false = []

-- the marker of a physical line: the presumed one, the name of the file, and perhaps the flag
abbrev pub marker : Language → Place → (line : ℕ) → List OutToken
marker language place line =
    record { kind = Punct; spelling = codes "#"; starts = true }
    ∷ record { kind = Number; spelling = decimal (presumed_line language place line); starts = false }
    ∷ record { kind = Str; spelling = place.name; starts = false } ∷ flags place.is_system

-- tokens that are put out as a line of their own, which come from a physical line
abbrev pub own_line : Language → (marks : Option Place) → (line : ℕ) → List Item → List OutToken
own_line language marks line [] = []
own_line language None line (i ∷ is) = line_tokens true (i ∷ is)
own_line language (Some place) line (i ∷ is) = marker language place line ++ line_tokens true (i ∷ is)

-- a token, where lines are marked, after one that is from a line: it goes on with the line that is put out, is the first of the next one,
-- or of another one behind a marker
abbrev pub after_line : Language → Place → (last : ℕ) → Item → List OutToken
after_line language place last i =
    if i.line == last then line_tokens false (i ∷ [])
    else if i.line == last + 1 then line_tokens true (i ∷ [])
    else own_line language (Some place) i.line (i ∷ [])

-- a token, after one that is from a line, or after none
abbrev pub next_token : Language → (marks : Option Place) → (last : Option ℕ) → Item → List OutToken
next_token language marks None i = own_line language marks i.line (i ∷ [])
next_token language None (Some last) i = line_tokens false (i ∷ [])
next_token language (Some place) (Some last) i = after_line language place last i
