-- The steps of directives that are of no section by what they read, whatever the file at hand.
use Rattle.std.specs.Prelude.{ℕ, Bool, List, length, drop, nat_le, if◌then◌else◌, Option, Some, None, Result, Ok, Err, ok_or}
use Rattle.inc_token.specs.declared.kinds.IncludeName.{IncludeName}
use Rattle.inc_text.specs.declared.languages.Language.{Language}
use Rattle.inc_token.specs.TokenLines.{Tok}
use Rattle.inc_directive.specs.LineKinds.{Target, Quoted, Angled, Nothing, line_of_tokens}
use Rattle.inc_directive.specs.declared.kinds.DirectiveKind.{DirectiveKind}
use Rattle.inc_directive.specs.declared.kinds.DirectiveKind.TheVariants.{Define, Undef, Error, Pragma, Foreign, Unknown}
use Rattle.inc_lookup.specs.declared.projects.Form.TheVariants as form
use Rattle.inc_lookup.specs.declared.projects.Found.{Found}
use Rattle.inc_macro.specs.Results.{◌>>=◌}
use Rattle.inc_macro.specs.Macros.{Table, define, undef}
use Rattle.inc_expand.specs.Expansion.{Place, Meter}
use Rattle.inc_pp.specs.declared.causes.Cause.{Cause}
use Rattle.inc_pp.specs.declared.causes.Cause.TheVariants as cause
use Rattle.inc_pp.specs.declared.settings.Missing.{Missing}
use Rattle.inc_pp.specs.Directives.{Numbering, counted, line_operands, names_once, put_pragma, names_poison, poisoned_by, renumbered, with_system, with_table, is_stacking, restacked}
use Rattle.inc_pp.specs.Includes.{Header, header_in, is_done, most_reads, not_found, with_once}
use Rattle.inc_pp.specs.Runs.{bounded, put_out}
use Rattle.inc_pp.specs.Steps.{expansion_at}
use Rattle.inc_pp.specs.Tasks.{State, Here, caused}

---- include directives

-- the header that a target names, and the meter after it
abbrev pub header_at : Target → Place → Table → Meter → List Tok → Result (Header × Meter) Cause
header_at (Quoted name) place table meter ts = Ok (record { form = form.Quoted; name = name }, meter)
header_at (Angled name) place table meter ts = Ok (record { form = form.Angled; name = name }, meter)
header_at Nothing place table meter ts = Err cause.BadInclude
header_at _ place table meter ts =
    expansion_at place table meter ts >>= λ r. ok_or (header_in r.0) cause.BadInclude >>= λ header. Ok (header, r.1)

-- the file that is to be read of one that is found, where includes may nest one deeper or not
abbrev pub wanted_at : IncludeName → Missing → (nests : Bool) → State → Option Found → Result (Option Found) Cause
wanted_at by missing nests s None = not_found missing
wanted_at by missing nests s (Some at) =
    if is_done by s at.file then Ok None else
    if nests then (if nat_le most_reads (length s.reads) then Err cause.TooManyReads else Ok (Some at)) else Err cause.TooDeep

---- other directives

-- what `#line` or a line marker with these tokens makes of the numbers of lines, and the meter after it
abbrev pub renumbered_at : Here → (last : ℕ) → Place → Table → Meter → List Tok → Result (Numbering × Meter) Cause
renumbered_at h last place table meter ts =
    expansion_at place table meter (line_operands ts) >>= λ r.
    ok_or (renumbered table.language h last (counted ts r.0)) cause.BadLine >>= λ n. Ok (n, r.1)

-- what a pragma changes that puts a definition aside, or takes it back
abbrev pub restacked_by : List Tok → State → Result State Cause
restacked_by ts s = restacked (drop 2 ts) s.table >>= λ t. Ok (with_table t s)

-- what a pragma changes that is put out as it is, or not at all
abbrev pub put_by : (most : Option ℕ) → (marks : Option Place) → List Tok → State → Result State Cause
put_by most marks ts s = bounded most (put_out (put_pragma s.table.language marks (line_of_tokens ts) ts) s)

-- what a pragma changes
abbrev pub pragma_by : (most : Option ℕ) → (marks : Option Place) → ℕ → List Tok → State → Result State Cause
pragma_by most marks file ts s =
    if names_once (drop 2 ts) then Ok (with_once file s) else
    if is_stacking s.table.language (drop 2 ts) then restacked_by ts s else
    if names_poison s.table.language (drop 2 ts) then poisoned_by (drop 2 (drop 2 ts)) s
    else put_by most marks ts s

abbrev pub define_by : List Tok → State → Result State Cause
define_by ts s = caused cause.Define (define (drop 2 ts) s.table) >>= λ t. Ok (with_table t s)

abbrev pub undef_by : List Tok → State → Result State Cause
undef_by ts s = caused cause.Define (undef (drop 2 ts) s.table) >>= λ r. Ok (with_table r.1 s)

-- what a directive makes of what is known of the file at hand that is no include, no `#line` and of no section
abbrev pub here_by : DirectiveKind → Language → List Tok → Here → Here
here_by Pragma language ts h = with_system language (drop 2 ts) h
here_by _ language ts h = h

-- what it changes else
abbrev pub changed_by : (most : Option ℕ) → (marks : Option Place) → DirectiveKind → ℕ → List Tok → State → Result State Cause
changed_by most marks Define file ts s = define_by ts s
changed_by most marks Undef file ts s = undef_by ts s
changed_by most marks Error file ts s = Err cause.ErrorDirective
changed_by most marks Pragma file ts s = pragma_by most marks file ts s
changed_by most marks Foreign file ts s = Err cause.UnknownDirective
changed_by most marks Unknown file ts s = Err cause.UnknownDirective
changed_by most marks _ file ts s = Ok s
