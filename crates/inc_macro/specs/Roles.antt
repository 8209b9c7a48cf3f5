-- What each token of a body is for the expansion of its macro (ISO/IEC 9899:2018, 6.10.3.1 to 6.10.3.3). Choice of this
-- profile: the token right after a ## that pastes is its operand whatever it is, so that of ## ## the second is one. In GNU
-- C a `,` before a ## before the variable arguments goes with them, and the ## pastes nothing.
use Rattle.std.specs.Prelude.{ℕ, ◌&&◌, ◌||◌, Bool, true, false, List, [], ◌∷◌, Option, Some, None, if◌then◌else◌, length, bytes_eq, position}
use Rattle.inc_token.specs.TokenLines.{is_hash}
use Rattle.inc_macro.specs.declared.roles.Before.{Before}
use Rattle.inc_macro.specs.declared.roles.Before.TheVariants.{Neither, AfterHash, AfterPaste, AfterPastedPaste, AfterComma}
use Rattle.inc_macro.specs.declared.roles.Role.{Role}
use Rattle.inc_macro.specs.declared.roles.Role.TheVariants.{Itself, Paste, Hash, AsWritten, Expanded, Comma, Nothing, Optional}
use Rattle.inc_macro.specs.Macros.{Params, Definition, parameter_names, is_paste, begins_with_paste, begins_with_taken, spellings, takes_comma, va_opt}

-- the place of the parameter with this name, counted from 0: the variable arguments are the last
abbrev pub parameter_at : Option Params → List ℕ → Option ℕ
parameter_at given name = position (bytes_eq name) (parameter_names given)

-- `#` is an operator in function-like macros alone
abbrev pub is_hash_operator : Option Params → List ℕ → Bool
is_hash_operator None spelling = false
is_hash_operator (Some params) spelling = is_hash spelling

-- a `##` that is itself an operand is no operator, nor is one after a `,` that goes with the variable arguments
abbrev pub paste_role : Before → Role
paste_role AfterPaste = Itself
paste_role AfterComma = Nothing
paste_role _ = Paste

-- the token is right after an operator, or a token spelled as one
abbrev pub is_operand : Before → Bool
is_operand Neither = false
is_operand _ = true

-- a token that is no operator, by its place among the parameters
abbrev pub word_role : Bool → Option ℕ → Role
word_role is_written None = Itself
word_role is_written (Some n) = if is_written then AsWritten n else Expanded n

-- the place of the variable arguments, where the token is the `__VA_OPT__` of GNU C
abbrev pub optional_at : Option Params → List ℕ → Option ℕ
optional_at None spelling = None
optional_at (Some p) spelling = if takes_comma p && bytes_eq va_opt spelling then Some (length p.names) else None

-- a token that is no operator, by what of the arguments it stands for
abbrev pub name_role : Bool → Option ℕ → (optional : Option ℕ) → Role
name_role is_written parameter None = word_role is_written parameter
name_role is_written parameter (Some n) = Optional n

-- a token by what is before it; `ends`: a `##` comes next
abbrev pub role_at : Option Params → Before → (ends : Bool) → List ℕ → Role
role_at given AfterHash ends spelling = name_role true (parameter_at given spelling) (optional_at given spelling)
role_at given before ends spelling =
    if is_paste spelling then paste_role before else
    if is_hash_operator given spelling then Hash else name_role (is_operand before || ends) (parameter_at given spelling) (optional_at given spelling)

-- a token that stands for itself, or a parameter whose argument is expanded
abbrev pub is_plain_role : Role → Bool
is_plain_role Itself = true
is_plain_role (Expanded n) = true
is_plain_role _ = false

-- what is before the next token
abbrev pub paste_before : Before → Before
paste_before AfterPaste = AfterPastedPaste
paste_before _ = AfterPaste

abbrev pub before_next : Option Params → Before → List ℕ → Before
before_next given before spelling =
    if is_paste spelling then paste_before before else if is_hash_operator given spelling then AfterHash else Neither

-- the place of the variable arguments, where a `,` that goes with them is what these spellings begin with
abbrev pub comma_at : Option Params → List (List ℕ) → Option ℕ
comma_at None texts = None
comma_at (Some p) texts = if begins_with_taken p texts then Some (length p.names) else None

-- the role of such a `,`, and that of any other token
abbrev pub comma_role : Option ℕ → Role → Role
comma_role None role = role
comma_role (Some n) role = Comma n

abbrev pub before_after : Option ℕ → Before → Before
before_after None before = before
before_after (Some n) before = AfterComma

-- the roles of tokens with these spellings
abbrev pub roles_from : Option Params → Before → List (List ℕ) → List Role
roles_from given before [] = []
roles_from given before (text ∷ texts) =
    let comma = comma_at given (text ∷ texts) in
    comma_role comma (role_at given before (begins_with_paste texts) text) ∷ roles_from given (before_after comma (before_next given before text)) texts

-- the role of each token of the body
abbrev pub roles_of : Definition → List Role
roles_of d = roles_from d.params Neither (spellings d.body)
