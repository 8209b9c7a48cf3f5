-- The steps of a preprocessing by what they read, whatever the file at hand.
use Rattle.std.specs.Prelude.{ℕ, Bool, not, List, ◌++◌, Option, None, Result, Ok, Err, if◌then◌else◌, length}
use Rattle.inc_token.specs.TokenLines.{Tok}
use Rattle.inc_directive.specs.LineKinds.{LineKind, Other}
use Rattle.inc_directive.specs.declared.kinds.DirectiveKind.TheVariants.{Ifdef, Ifndef, Elifdef, Elifndef}
use Rattle.inc_macro.specs.Results.{◌>>=◌}
use Rattle.inc_macro.specs.Macros.{Table, is_defined}
use Rattle.inc_expand.specs.declared.places.Mode.TheVariants.{Plain}
use Rattle.inc_expand.specs.Expansion.{Place, Item, Meter, expansion}
use Rattle.inc_expand.specs.Openings.{Held, opening}
use Rattle.inc_cond.specs.Conditions.{condition}
use Rattle.inc_cond.specs.Headers.{HeaderSearch}
use Rattle.inc_pp.specs.declared.causes.Cause.{Cause}
use Rattle.inc_pp.specs.declared.causes.Cause.TheVariants.{Expand, Condition, TooMuchOutput}
use Rattle.inc_pp.specs.declared.conditions.Test.{Test}
use Rattle.inc_pp.specs.declared.conditions.Test.TheVariants.{Defined, Undefined, Value}
use Rattle.inc_pp.specs.Pragmas.{Laid, laid}
use Rattle.inc_pp.specs.Printed.{printed}
use Rattle.inc_pp.specs.Sections.{first_name, is_true}
use Rattle.inc_pp.specs.Settings.{Settings, base_of, is_too_much}
use Rattle.inc_pp.specs.Tasks.{OutToken, Here, caused}

-- where the tokens of a file are that is read under these settings
abbrev pub place_under : Settings → Here → Place
place_under settings h = record {
  name = h.name;
  base = base_of settings;
  shift = h.shift;
  level = h.standing.level;
  is_system = h.standing.is_system;
  date = settings.date;
  time = settings.time;
  timestamp = settings.timestamp;
}

-- expanded tokens, and the meter after them
abbrev pub expansion_at : Place → Table → Meter → List Tok → Result (List Item × Meter) Cause
expansion_at place table meter ts = caused Expand (expansion (record { table = table; mode = Plain; place = place }) meter ts)

-- what a run of tokens puts out, and the meter after it
abbrev pub laid_at : (marks : Option Place) → Place → Table → Meter → List Tok → Result (Laid × Meter) Cause
laid_at marks place table meter ts =
    expansion_at place table meter ts >>= λ r. laid table.language marks None r.0 >>= λ l. Ok (l, r.1)

-- expanded tokens before the call that is open at the end of a run, that call, and the meter after them; those that wait come first
abbrev pub open_expansion_at : Place → Table → Meter → List Held → List Tok → Result (List Item × List Held × Meter) Cause
open_expansion_at place table meter waiting ts = caused Expand (opening (record { table = table; mode = Plain; place = place }) meter waiting ts)

-- what is before the call that is open at the end of a run puts out, that call, and the meter after it; those that wait come first
abbrev pub opened_at : (marks : Option Place) → Place → Table → Meter → List Held → List Tok → Result (Laid × List Held × Meter) Cause
opened_at marks place table meter waiting ts =
    open_expansion_at place table meter waiting ts >>= λ r. laid table.language marks None r.0 >>= λ l. Ok (l, r.1, r.2)

-- what is put out after other tokens, if the text of all is not too long
abbrev pub short : (most : Option ℕ) → (already : List OutToken) → Laid → Result Laid Cause
short most already l = if is_too_much most (length (printed (already ++ l.tokens))) then Err TooMuchOutput else Ok l

-- the same of tokens that may have a fault
abbrev pub short_of : (most : Option ℕ) → (already : List OutToken) → Result Laid Cause → Result Laid Cause
short_of most already r = r >>= short most already

-- the same with the meter after it
abbrev pub fitting : (most : Option ℕ) → (already : List OutToken) → Result (Laid × Meter) Cause → Result (Laid × Meter) Cause
fitting most already r = r >>= λ x. short most already x.0 >>= λ l. Ok (l, x.1)

-- the same before a call that is open
abbrev pub fitting_open : (most : Option ℕ) → (already : List OutToken) → Result (Laid × List Held × Meter) Cause → Result (Laid × List Held × Meter) Cause
fitting_open most already r = r >>= λ x. short most already x.0 >>= λ l. Ok (l, x.1, x.2)

-- what a line of this kind asks
abbrev pub test_of : LineKind → Test
test_of (Other Ifdef) = Defined
test_of (Other Elifdef) = Defined
test_of (Other Ifndef) = Undefined
test_of (Other Elifndef) = Undefined
test_of _ = Value

-- whether the name that tokens begin with is defined
abbrev pub name_defined : Table → List Tok → Result Bool Cause
name_defined table ts = first_name ts >>= λ n. Ok (is_defined n table)

-- whether the value of tokens is not 0, and the meter after them
abbrev pub value_true : HeaderSearch → Place → Table → Meter → List Tok → Result (Bool × Meter) Cause
value_true search place table meter ts =
    caused Condition (condition search table place meter ts) >>= λ r. Ok (is_true r.0, r.1)

abbrev pub opposite : Result Bool Cause → Result Bool Cause
opposite r = r >>= λ b. Ok (not b)
