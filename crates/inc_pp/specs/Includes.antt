-- Include directives (ISO/IEC 9899:2018, 6.10.2). Choices of this profile: how expanded tokens name a header, the limits, what an include
-- does whose file is not found, and `#pragma once`. In GNU C `#import` has the file that it finds read once, and an `#include_next` begins
-- after the directory of the include path in which its file was found.
use Rattle.std.specs.Prelude.{ℕ, ◌==◌, ◌&&◌, ◌||◌, Bool, true, false, List, [], ◌∷◌, ◌++◌, Option, Some, None, Result, Ok, Err, if◌then◌else◌, length, nat_eq, nat_le, codes, bytes_eq, option_map, option_and_then, ok_or, slice_index}
use Rattle.std.specs.List.{list_any}
use Rattle.inc_text.specs.Ascii.{quotation_mark}
use Rattle.inc_token.specs.declared.kinds.Kind.{Kind}
use Rattle.inc_token.specs.declared.kinds.Kind.TheVariants.{Str}
use Rattle.inc_token.specs.declared.kinds.IncludeName.{IncludeName}
use Rattle.inc_token.specs.declared.kinds.IncludeName.TheVariants.{Import}
use Rattle.inc_directive.specs.LineKinds.{Target, Quoted, Angled, Nothing, inner_bytes, line_of_tokens, search_after}
use Rattle.inc_directive.specs.Groups.{FileLine}
use Rattle.inc_lookup.specs.declared.projects.DirectiveId.{DirectiveId}
use Rattle.inc_lookup.specs.declared.projects.Form.{Form}
use Rattle.inc_lookup.specs.declared.projects.Form.TheVariants as form
use Rattle.inc_lookup.specs.declared.projects.Found.{Found}
use Rattle.inc_lookup.specs.Projects.{Layout, found_place, path_at}
use Rattle.inc_macro.specs.Results.{◌>>=◌}
use Rattle.inc_expand.specs.Expansion.{Item}
use Rattle.inc_pp.specs.declared.causes.Cause.{Cause}
use Rattle.inc_pp.specs.declared.causes.Cause.TheVariants.{NoSuchHeader, BadInclude, TooDeep, TooManyReads}
use Rattle.inc_pp.specs.declared.settings.Missing.{Missing}
use Rattle.inc_pp.specs.declared.settings.Missing.TheVariants as missing
use Rattle.inc_pp.specs.FileNames.{included_standing}
use Rattle.inc_pp.specs.Runs.{expanded}
pub use Rattle.inc_pp.specs.Runs.{with_once}
use Rattle.inc_pp.specs.Sections.{operands}
use Rattle.inc_pp.specs.Settings.{Settings}
use Rattle.inc_pp.specs.Tasks.{File, State, Entry, Here, Halt, Deeper, layout_in, shown_path}
use Rattle.inc_pp.specs.declared.includes.TheConstants.{MOST_READS}

-- what an include names
pub record Header : Type 0 where
  pub form : Form
  pub name : List ℕ

abbrev pub is_str_kind : Kind → Bool
is_str_kind Str = true
is_str_kind _ = false

-- a string literal without a prefix
abbrev pub is_plain_string : Item → Bool
is_plain_string i = is_str_kind i.kind && (slice_index i.spelling 0 == quotation_mark)

-- the spellings before the first `>`, one after the other
abbrev pub name_before_close : List Item → Option (List ℕ)
name_before_close [] = None
name_before_close (i ∷ is) =
    if bytes_eq i.spelling (codes ">") then Some [] else option_map (λ n. i.spelling ++ n) (name_before_close is)

-- a header with a name of one or more bytes
abbrev pub not_empty : Form → List ℕ → Option Header
not_empty form [] = None
not_empty form (b ∷ bs) = Some (record { form = form; name = b ∷ bs })

-- the header that expanded tokens name: a string, or what is between `<` and `>`
abbrev pub header_in : List Item → Option Header
header_in [] = None
header_in (i ∷ is) =
    if is_plain_string i then not_empty form.Quoted (inner_bytes i.spelling) else
    if bytes_eq i.spelling (codes "<") then option_and_then (not_empty form.Angled) (name_before_close is) else None

-- the header that a target names, and the state after its expansion
abbrev pub header_of : Target → File → FileLine → State → Here → Result (Header × State) Cause
header_of (Quoted name) f l s h = Ok (record { form = form.Quoted; name = name }, s)
header_of (Angled name) f l s h = Ok (record { form = form.Angled; name = name }, s)
header_of Nothing f l s h = Err BadInclude
header_of _ f l s h = expanded f h s (operands l) >>= λ r. ok_or (header_in r.0) BadInclude >>= λ header. Ok (header, r.1)

-- at most so many files are read, the source among them
abbrev pub most_reads : ℕ
most_reads = MOST_READS

-- an include whose file is not found
abbrev pub not_found : Missing → Result (Option Found) Cause
not_found missing.Stop = Err NoSuchHeader
not_found missing.Empty = Ok None

abbrev pub is_import : IncludeName → Bool
is_import Import = true
is_import _ = false

-- nothing happens at a file that is read once, nor by `#import` at one that was read before
abbrev pub is_done : IncludeName → State → ℕ → Bool
is_done by s i = s.once i || (is_import by && list_any (nat_eq i) s.reads)

-- the file that is to be read, or none where nothing happens
abbrev pub wanted : IncludeName → File → State → Option Found → Result (Option Found) Cause
wanted by f s None = not_found f.task.settings.missing
wanted by f s (Some at) =
    if is_done by s at.file then Ok None else
    elim f.deeper [
      | None ↦ Err TooDeep
      | Some read ↦ if nat_le most_reads (length s.reads) then Err TooManyReads else Ok (Some at)
    ]

-- the state after an include directive that finds this file, or none
abbrev pub after_found : IncludeName → Option Found → State → State
after_found by None s = s
after_found by (Some at) s = if is_import by then with_once at.file s else s

-- the file that an include directive leads to where it finds this one, or none, and the state after it
abbrev pub led_to : IncludeName → File → State → Option Found → Result (Option Found × State) Cause
led_to by f s found = wanted by f s found >>= λ at. Ok (at, after_found by found s)

-- the file that a header names in a directive of the file at hand
abbrev pub found_from : File → IncludeName → Header → Option Found
found_from f by header =
    found_place (layout_in f.task) (path_at (layout_in f.task) f.index) header.form (search_after by f.next) header.name

-- the file that a name has found in a directive
abbrev pub entry_in : Layout → Settings → (by : DirectiveId) → Here → (name : List ℕ) → Found → Entry
entry_in layout settings by h name at = record {
  at = at;
  standing = included_standing settings (shown_path layout by.file h.standing.spelled) h.standing name at.next;
  by = by;
}

-- the same in a directive of the file at hand that is on this line
abbrev pub entered : File → (line : ℕ) → Here → (name : List ℕ) → Found → Entry
entered f line h name at = entry_in (layout_in f.task) f.task.settings (record { file = f.index; line = line }) h name at

-- the file that an include directive leads to, and the state after it
abbrev pub include_target : IncludeName → Target → File → FileLine → State → Here → Result (Option Entry × State) Cause
include_target by target f l s h =
    header_of target f l s h >>= λ r. led_to by f r.1 (found_from f by r.0) >>= λ q.
    Ok (option_map (entered f (line_of_tokens l.tokens) h r.0.name) q.0, q.1)

-- the file is read with the shift and name of its own, and those of the including file come back
abbrev pub included : Deeper → Option Entry → State → Here → Result (State × Here) Halt
included (Some read) (Some e) s h = read e s >>= λ after. Ok (after, h)
included _ _ s h = Ok (s, h)
