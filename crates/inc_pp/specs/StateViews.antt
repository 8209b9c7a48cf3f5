-- What the program carries as the definitions see it.
use Rattle.inc_text.specs.Flags.{flag_at}
use Rattle.inc_macro.specs.Macros.{is_among}
use Rattle.inc_macro.specs.Tables.{table_of}
use Rattle.inc_pp.specs.declared.states.State.{State as StateValue}
use Rattle.inc_pp.specs.Tasks.{State}
use Rattle.inc_pp.specs.declared.headers.HeaderName.{HeaderName}
use Rattle.inc_pp.specs.declared.headers.HeaderName.TheVariants.{Written, Made}
use Rattle.std.specs.Prelude.{ℕ, Bool, List, [], ◌∷◌, Option, Some, None}
use Rattle.inc_token.specs.TokenLines.{Tok}

-- whether names have one among them
unfoldable pub among : (names : List (List ℕ)) → List ℕ → Bool
among names name = is_among name names

abbrev pub state_of : StateValue → State
state_of s =
    record {
      table = table_of s.macros;
      once = flag_at s.once.items;
      poisoned = among s.poisoned;
      meter = s.budget;
      reads = s.reads;
      bytes_read = s.bytes_read;
      output = s.output;
    }

-- the bytes of a header's name
abbrev pub name_of : HeaderName → List ℕ
name_of (Written name) = name.now
name_of (Made name) = name.items

-- a token, if it is there, as a list
abbrev pub only : Option Tok → List Tok
only None = []
only (Some t) = t ∷ []
