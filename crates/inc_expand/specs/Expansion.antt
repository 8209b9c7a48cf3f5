-- Macro expansion (ISO/IEC 9899:2018, 6.10.3.1 to 6.10.3.4 and 6.10.8). Which names a token hides is after Prosser, and in GNU C after gcc.
-- Choices of this profile: the order of faults, the order in which arguments are expanded, `##` from left to right, white space and lines of what replaces, what
-- `__STDC_HOSTED__` is, `defined` in a controlling expression, the budget and the limits.
use Rattle.std.specs.Prelude.{ℕ, zero, suc, ◌+◌, ◌-◌, ◌%◌, ◌==◌, ◌&&◌, ◌||◌, not, Bool, true, false, List, [], ◌∷◌, ◌++◌, Option, Some, None, Result, Ok, Err, if◌then◌else◌, length, map, take, drop, nat_lt, get_or, codes, bytes_eq, decimal, ℤ, pos, ◌+ℤ◌, nat_abs, is_some, option_map, find}
use Rattle.inc_text.specs.Ascii.{quotation_mark, backslash, blank}
use Rattle.inc_token.specs.declared.kinds.Kind.{Kind}
use Rattle.inc_token.specs.declared.kinds.Kind.TheVariants.{Number, Char, Str}
use Rattle.inc_token.specs.Spellings.{class_of}
use Rattle.inc_token.specs.TokenLines.{Tok}
use Rattle.inc_macro.specs.Results.{◌>>=◌}
use Rattle.inc_text.specs.declared.languages.Language.{Language}
use Rattle.inc_text.specs.declared.languages.Language.TheVariants.{C17, Gnu}
use Rattle.inc_macro.specs.Macros.{asks_headers, BodyToken, Params, Definition, Table, definition_of, is_among, is_match, depth_at, parameter_names, is_identifier_kind, predefined_names}
use Rattle.inc_expand.specs.declared.faults.ExpandFault.{ExpandFault}
use Rattle.inc_expand.specs.declared.faults.ExpandFault.TheVariants.{UnclosedCall, ArgumentCount, BadString, BadPaste, TokenTooLong, OverBudget}
use Rattle.inc_expand.specs.declared.places.Mode.{Mode}
use Rattle.inc_expand.specs.declared.places.Mode.TheVariants.{Plain, Condition}
use Rattle.inc_expand.specs.Elements.{Element, Word, Glue, Silent, StringOf, AsWritten, Expanded, Comma, Optional, Kept, Empty, Made, elements_of}
use Rattle.inc_expand.specs.declared.rules.Rule.{Rule}
use Rattle.inc_expand.specs.declared.rules.Rule.TheVariants.{BySets, ByContexts}
use Rattle.inc_expand.specs.declared.strings.TheConstants.{LONGEST}

-- where the tokens are, and when
pub record Place : Type 0 where
  -- the literal for `__FILE__`
  pub name : List ℕ
  -- what `__BASE_FILE__` names: the source
  pub base : List ℕ
  -- presumed minus physical line
  pub shift : ℤ
  -- how many includes they are below the source
  pub level : ℕ
  -- whether they are those of a system header
  pub is_system : Bool
  -- the text of `__DATE__`
  pub date : List ℕ
  -- the text of `__TIME__`
  pub time : List ℕ
  -- the text of `__TIMESTAMP__`
  pub timestamp : List ℕ

-- what an expansion reads and never changes
pub record Surroundings : Type 0 where
  pub table : Table
  pub mode : Mode
  pub place : Place

-- a token of the result
pub record Item : Type 0 where
  -- its class
  pub kind : Kind
  -- its bytes
  pub spelling : List ℕ
  -- the physical line that it counts on
  pub line : ℕ
  -- whether white space is before it
  pub space : Bool

-- a set of names
abbrev pub Names : Type 0
Names = List ℕ → Bool

-- a token on the way, with the set of names that it hides
pub record Carrier : Type 0 where
  -- its class
  pub kind : Kind
  -- its bytes
  pub spelling : List ℕ
  -- the physical line that it counts on
  pub line : ℕ
  -- whether white space is before it
  pub space : Bool
  -- the names that it hides
  pub hidden : Names

---- sets of names

-- the empty set
abbrev pub no_names : Names
no_names n = false

-- the names of one set or the other
abbrev pub union : Names → Names → Names
union a b n = a n || b n

-- the names of both sets
abbrev pub intersection : Names → Names → Names
intersection a b n = a n && b n

-- the set of one name
abbrev pub only : List ℕ → Names
only m n = bytes_eq n m

---- which names a token hides (6.10.3.4)

-- the rule of a language. By sets a token hides each name whose replacement it came from, for good. By contexts, as in gcc, it hides the names
-- in whose replacement it stands, and for good only its own: where that is met in its own replacement the token is painted. The two part
-- where a call ends behind the replacement that its name is in, and where an argument is taken out of a replacement
abbrev pub rule_of : Language → Rule
rule_of Gnu = ByContexts
rule_of _ = BySets

abbrev pub rule_in : Surroundings → Rule
rule_in s = rule_of s.table.language

-- an identifier that hides its own name is not replaced
abbrev pub is_painted : Carrier → Bool
is_painted t = is_identifier_kind t.kind && t.hidden t.spelling

-- what a token hides that goes to a place where these names are hidden
abbrev pub hidden_at : Rule → Names → Carrier → Names
hidden_at BySets names t = union names t.hidden
hidden_at ByContexts names t = if is_painted t then t.hidden else names

-- what a token hides that `##` makes of two which hide these
abbrev pub hidden_by_paste : Rule → Names → Names → Names
hidden_by_paste BySets a b = intersection a b
hidden_by_paste ByContexts a b = no_names

---- tests of a token

-- a string or character constant
abbrev pub is_literal : Kind → Bool
is_literal Char = true
is_literal Str = true
is_literal _ = false

-- the class of a string literal
abbrev pub is_str : Option Kind → Bool
is_str (Some Str) = true
is_str _ = false

-- `(`
abbrev pub is_open : Carrier → Bool
is_open t = bytes_eq t.spelling (codes "(")

-- `)`
abbrev pub is_close : Carrier → Bool
is_close t = bytes_eq t.spelling (codes ")")

-- `,`
abbrev pub is_comma : Carrier → Bool
is_comma t = bytes_eq t.spelling (codes ",")

---- names that are always defined (6.10.8)

-- the line number that `__LINE__` gives; by the caller's condition it is not below 0. In GNU C 0 follows 4294967295
abbrev pub presumed_line : Language → Place → ℕ → ℕ
presumed_line Gnu place line = nat_abs (pos line +ℤ place.shift) % 4_294_967_296
presumed_line _ place line = nat_abs (pos line +ℤ place.shift)

-- `\` before each `"` and `\`
abbrev pub escaped : List ℕ → List ℕ
escaped [] = []
escaped (b ∷ bs) = if (b == quotation_mark) || (b == backslash) then backslash ∷ b ∷ escaped bs else b ∷ escaped bs

-- bytes between double quotes
abbrev pub in_quotes : List ℕ → List ℕ
in_quotes text = quotation_mark ∷ text ++ quotation_mark ∷ []

-- what the token has for bytes that replaces a predefined name
pub data Content : Type 0 where
  -- these
  Fixed : List ℕ → Content
  -- the number of counts that were given before, in decimal
  Count : Content

-- names that are predefined in some language, each with the token that replaces it on a physical line
abbrev pub predefined_tokens : Language → Place → ℕ → List (List ℕ × Kind × Content)
predefined_tokens language place line =
    (codes "__LINE__", Number, Fixed (decimal (presumed_line language place line)))
    ∷ (codes "__FILE__", Str, Fixed place.name)
    ∷ (codes "__DATE__", Str, Fixed (in_quotes place.date))
    ∷ (codes "__TIME__", Str, Fixed (in_quotes place.time))
    ∷ (codes "__STDC__", Number, Fixed (codes "1"))
    ∷ (codes "__STDC_HOSTED__", Number, Fixed (codes "1"))
    ∷ (codes "__STDC_VERSION__", Number, Fixed (codes "201710L"))
    ∷ (codes "__BASE_FILE__", Str, Fixed (in_quotes (escaped place.base)))
    ∷ (codes "__INCLUDE_LEVEL__", Number, Fixed (decimal place.level))
    ∷ (codes "__TIMESTAMP__", Str, Fixed (in_quotes place.timestamp))
    ∷ (codes "__COUNTER__", Number, Count)
    ∷ []

-- the entry of such a name, with the token that replaces it
abbrev pub predefined_token : Language → Place → ℕ → List ℕ → Option (List ℕ × Kind × Content)
predefined_token language place line name = find (λ p. bytes_eq name p.0) (predefined_tokens language place line)

-- the same of a name that is predefined in the table's language
abbrev pub predefined : Surroundings → ℕ → List ℕ → Option (List ℕ × Kind × Content)
predefined s line name =
    if is_among name (predefined_names s.table.language) then predefined_token s.table.language s.place line name else None

---- the arguments of a call (6.10.3 paragraphs 4, 10 to 12)

-- the call after its `(`: what is inside, the matching `)`, and the rest of the list
pub record Call : Type 0 where
  pub inside : List Carrier
  pub close : Carrier
  pub rest : List Carrier

-- the tokens of a call whose `)` hides these names. By contexts they are taken to where the `)` is
abbrev pub taken : Rule → Names → List Carrier → List Carrier
taken BySets names ts = ts
taken ByContexts names ts = map (λ (t : Carrier). record t { hidden = hidden_at ByContexts names t }) ts

-- how many parentheses are open after a token
abbrev pub depth_after : ℕ → Carrier → ℕ
depth_after deep t = if is_open t then deep + 1 else if is_close t then deep - 1 else deep

-- the call after its `(`, where its matching `)` is in the list; deep: how many inner parentheses are open
abbrev pub call_behind : ℕ → List Carrier → Option Call
call_behind deep [] = None
call_behind deep (t ∷ ts) =
    let more = option_map (λ (c : Call). record c { inside = t ∷ c.inside }) (call_behind (depth_after deep t) ts) in
    if is_close t && (deep == 0) then Some (record { inside = []; close = t; rest = ts }) else more

-- a token before the first of several lists
abbrev pub onto_first : Carrier → List (List Carrier) → List (List Carrier)
onto_first t [] = (t ∷ []) ∷ []
onto_first t (a ∷ as') = (t ∷ a) ∷ as'

-- the list split at its commas outside inner parentheses, at the first so many of them
abbrev pub split_at_commas : (most deep : ℕ) → List Carrier → List (List Carrier)
split_at_commas most deep [] = [] ∷ []
split_at_commas most deep (t ∷ ts) =
    let splits = is_comma t && ((deep == 0) && nat_lt 0 most) in
    let others = split_at_commas (if splits then most - 1 else most) (depth_after deep t) ts in
    if splits then [] ∷ others else onto_first t others

-- `()` is no argument where there is no parameter but the variable arguments; a variadic macro's further ones are the
-- last argument
abbrev pub arguments : Params → List Carrier → List (List Carrier)
arguments p [] = if length p.names == 0 then [] else [] ∷ []
arguments p (t ∷ ts) = split_at_commas (if is_some p.variable then length p.names else length (t ∷ ts)) 0 (t ∷ ts)

-- an argument, as written and expanded, and whether it is in the call
pub record Argument : Type 0 where
  pub written : List Carrier
  pub expanded : List Carrier
  pub given : Bool

-- an argument that is not expanded yet
abbrev pub unexpanded : List Carrier → Argument
unexpanded written = record { written = written; expanded = []; given = true }

-- variable arguments that are left out
abbrev pub left_out : Argument
left_out = record { written = []; expanded = []; given = false }

-- the variable arguments may be left out
abbrev pub filled_up : Params → List Argument → List Argument
filled_up p args = if is_some p.variable && (length args == length p.names) then args ++ left_out ∷ [] else args

-- the arguments of a call in the order of the parameters, not expanded yet
abbrev pub bound : Params → List Carrier → Result (List Argument) ExpandFault
bound p inside =
    let args = filled_up p (map unexpanded (arguments p inside)) in
    if length args == length (parameter_names (Some p)) then Ok args else Err ArgumentCount

-- the argument of a parameter, counted from 0
abbrev pub argument_at : List Argument → ℕ → Argument
argument_at args n = get_or args n (unexpanded [])

---- substitution: `#` operands, pastes with placemarkers, placemarkers dropped (6.10.3.1 to 6.10.3.3)

-- a part of a replacement: a token, or none for a placemarker; or a `##`
pub data Part : Type 0 where
  Piece : Option Carrier → Part
  Paste : Part

-- a token as a part
abbrev pub as_part : Carrier → Part
as_part t = Piece (Some t)

-- the first token's white space as given
abbrev pub spaced : Bool → List Carrier → List Carrier
spaced space [] = []
spaced space (t ∷ ts) = record t { space = space } ∷ ts

-- a token of a body hides nothing; its line is set when it replaces
abbrev pub of_body : BodyToken → Carrier
of_body b = record { kind = b.kind; spelling = b.spelling; line = 0; space = b.space; hidden = no_names }

-- the spelling of a token in a string
abbrev pub spelled_token : Carrier → List ℕ
spelled_token t = if is_literal t.kind then escaped t.spelling else t.spelling

-- spellings, one space where white space is before a token
abbrev pub spelled : List Carrier → List ℕ
spelled [] = []
spelled (t ∷ ts) = (if t.space then blank ∷ [] else []) ++ spelled_token t ++ spelled ts

-- the most bytes of a token that `#` or `##` makes
abbrev pub longest_made : ℕ
longest_made = LONGEST

-- a made token is not too long
abbrev pub fits : List ℕ → Result (List ℕ) ExpandFault
fits text = if nat_lt longest_made (length text) then Err TokenTooLong else Ok text

-- the string that `#` makes of an argument; space: white space is before the `#`
abbrev pub string_of : (space : Bool) → List Carrier → Result Carrier ExpandFault
string_of space written =
    fits (in_quotes (spelled (spaced false written))) >>= λ text.
    if is_str (class_of C17 text)
    then Ok (record { kind = Str; spelling = text; line = 0; space = space; hidden = no_names })
    else Err BadString

-- a string that was made before
abbrev pub made_string : (space : Bool) → List ℕ → Carrier
made_string space text = record { kind = Str; spelling = text; line = 0; space = space; hidden = no_names }

-- the language whose tokens `##` makes: in GNU C they may have a $ outside of literals
abbrev pub spoken : Rule → Language
spoken BySets = C17
spoken ByContexts = Gnu

-- the class of a token that `##` makes
abbrev pub kind_or_bad : Option Kind → Result Kind ExpandFault
kind_or_bad None = Err BadPaste
kind_or_bad (Some kind) = Ok kind

abbrev pub made_kind : Rule → List ℕ → Result Kind ExpandFault
made_kind rule text = fits text >>= λ t. kind_or_bad (class_of (spoken rule) t)

-- the token that `##` makes of two
abbrev pub pasted_token : Rule → Carrier → Carrier → Result Carrier ExpandFault
pasted_token rule a b =
    made_kind rule (a.spelling ++ b.spelling) >>= λ kind.
    Ok (record { kind = kind; spelling = a.spelling ++ b.spelling; line = 0; space = a.space; hidden = hidden_by_paste rule a.hidden b.hidden })

-- an argument beside `##`
abbrev pub operand : List Carrier → List Part
operand [] = Piece None ∷ []
operand (t ∷ ts) = map as_part (t ∷ ts)

-- a `,` before the variable arguments, or a placemarker where they are left out
abbrev pub comma_part : (given : Bool) → BodyToken → Part
comma_part true b = as_part (of_body b)
comma_part false b = Piece None

-- the parts that stand for an element
abbrev pub parts_of : List Argument → Element → Result (List Part) ExpandFault
parts_of args (Word b) = Ok (as_part (of_body b) ∷ [])
parts_of args Glue = Ok (Paste ∷ [])
parts_of args Silent = Ok []
parts_of args (StringOf space n) = string_of space (argument_at args n).written >>= λ t. Ok (as_part t ∷ [])
parts_of args (AsWritten space n) = Ok (operand (spaced space (argument_at args n).written))
parts_of args (Expanded space n) = Ok (map as_part (spaced space (argument_at args n).expanded))
parts_of args (Comma b n) = Ok (comma_part (argument_at args n).given b ∷ [])
parts_of args (Optional hash n) = Ok []
parts_of args (Kept space n) = Ok (operand (spaced space (argument_at args n).expanded))
parts_of args Empty = Ok (Piece None ∷ [])
parts_of args (Made space text) = Ok (as_part (made_string space text) ∷ [])

-- the `#` operands made and the parameters replaced, from left to right
abbrev pub all_parts : List Argument → List Element → Result (List Part) ExpandFault
all_parts args [] = Ok []
all_parts args (e ∷ es) = parts_of args e >>= λ ps. all_parts args es >>= λ rest. Ok (ps ++ rest)

-- the tokens of a part that is no `##`
abbrev pub tokens_of : Option Carrier → List Carrier
tokens_of None = []
tokens_of (Some t) = t ∷ []

-- one `##`: a placemarker leaves the other side as it is
abbrev pub pasted : Rule → Option Carrier → Option Carrier → Result (Option Carrier) ExpandFault
pasted rule None b = Ok b
pasted rule (Some a) None = Ok (Some a)
pasted rule (Some a) (Some b) = pasted_token rule a b >>= λ t. Ok (Some t)

-- each `##` from left to right, then placemarkers dropped; p: the part before, joins: a `##` is right after it
abbrev pub paste_from : Rule → (joins : Bool) (p : Option Carrier) → List Part → Result (List Carrier) ExpandFault
paste_from rule joins p [] = Ok (tokens_of p)
paste_from rule joins p (Paste ∷ rest) = paste_from rule true p rest
paste_from rule false p (Piece q ∷ rest) = paste_from rule false q rest >>= λ ts. Ok (tokens_of p ++ ts)
paste_from rule true p (Piece q ∷ rest) = pasted rule p q >>= λ r. paste_from rule false r rest

-- these steps one after the other, each on the whole list
abbrev pub joined : Rule → List Argument → List Element → Result (List Carrier) ExpandFault
joined rule args es = all_parts args es >>= λ ps. paste_from rule false None ps

---- `__VA_OPT__( )` of GNU C (ISO/IEC 9899:2024, 6.10.5.1)

-- the spelling of a token that stands for itself
abbrev pub own_spelling : Element → List ℕ
own_spelling (Word b) = b.spelling
own_spelling _ = []

-- a place of its parentheses. As in gcc an argument that expands to nothing is a placemarker there
abbrev pub kept : Element → Element
kept (Expanded space n) = Kept space n
kept e = e

-- the places after its `(`, up to the matching `)`; deep: how many inner parentheses are open
abbrev pub inside : (deep : ℕ) → List Element → List Element
inside deep [] = []
inside deep (e ∷ es) = if is_match deep (own_spelling e) then [] else kept e ∷ inside (depth_at deep (own_spelling e)) es

-- the argument expands to some tokens
abbrev pub has_tokens : List Argument → ℕ → Bool
has_tokens args n = nat_lt 0 (length (argument_at args n).expanded)

-- no places are a placemarker
abbrev pub or_empty : List Element → List Element
or_empty [] = Empty ∷ []
or_empty (e ∷ es) = e ∷ es

-- what stands for these places: for `#` before `__VA_OPT__` a string, in which it does not matter what a token hides
abbrev pub standing : List Argument → (hash : Option Bool) → List Element → Result (List Element) ExpandFault
standing args None es = Ok (or_empty es)
standing args (Some space) es = joined ByContexts args es >>= λ ts. string_of space ts >>= λ t. Ok (Made space t.spelling ∷ [])

-- what stands for the first of some places, where these come after it
abbrev pub stands : List Argument → Element → List Element → Result (List Element) ExpandFault
stands args (Optional hash n) es = standing args hash (if has_tokens args n then inside 0 (drop 1 es) else [])
stands args e es = Ok (e ∷ [])

-- how many of those after it go with it
abbrev pub goes_with : Element → List Element → ℕ
goes_with (Optional hash n) es = 2 + length (inside 0 (drop 1 es))
goes_with e es = 0

-- the places that stand; skip: how many of the next ones went with one before
abbrev pub chosen : List Argument → (skip : ℕ) → List Element → Result (List Element) ExpandFault
chosen args skip [] = Ok []
chosen args (suc k) (e ∷ es) = chosen args k es
chosen args zero (e ∷ es) = stands args e es >>= λ cs. chosen args (goes_with e es) es >>= λ rest. Ok (cs ++ rest)

-- the steps one after the other, each on the whole list
abbrev pub substituted : Rule → List Argument → List Element → Result (List Carrier) ExpandFault
substituted rule args es = chosen args 0 es >>= λ cs. joined rule args cs

-- as what replaces t: the first token spaced as t, each on its line and with these names hidden
abbrev pub replacing : Rule → Carrier → Names → List Carrier → List Carrier
replacing rule t names ts = spaced t.space (map (λ (p : Carrier). record p { line = t.line; hidden = hidden_at rule names p }) ts)

---- the front token's six cases

-- what happens at the front of a list
pub data Case : Type 0 where
  -- these pass, before that rest
  Passes : (front rest : List Carrier) → Case
  -- a predefined name, of which this one token is made
  IsPredefined : Kind → Content → Case
  IsObject : Definition → Case
  -- a function-like macro's name, and the list after the `(` that follows it
  IsCall : Definition → Params → (behind : List Carrier) → Case

-- how many tokens `defined` takes with it: an identifier, or one in parentheses
abbrev pub asked_count : List Carrier → ℕ
asked_count [] = 0
asked_count (a ∷ b ∷ c ∷ rest) =
    if is_identifier_kind a.kind then 1 else
    if is_open a && (is_identifier_kind b.kind && is_close c) then 3 else 0
asked_count (a ∷ rest) = if is_identifier_kind a.kind then 1 else 0

-- the tokens up to the first `>`, with it, or all where there is none
abbrev pub through_close : List Carrier → ℕ
through_close [] = 0
through_close (t ∷ ts) = if bytes_eq t.spelling (codes ">") then 1 else 1 + through_close ts

-- how many tokens `__has_include` takes with it: where `(` and `<` come next, these and the header's name
abbrev pub header_count : List Carrier → ℕ
header_count (a ∷ b ∷ rest) = if is_open a && bytes_eq b.spelling (codes "<") then 2 + through_close rest else 0
header_count _ = 0

-- how many tokens a name takes with it that asks
abbrev pub taken_count : (name : List ℕ) → List Carrier → ℕ
taken_count name rest = if bytes_eq name (codes "defined") then asked_count rest else header_count rest

-- `defined` in a controlling expression, and in GNU C `__has_include`
abbrev pub is_asking : Mode → Language → Carrier → Bool
is_asking Plain language t = false
is_asking Condition language t =
    is_identifier_kind t.kind && (bytes_eq t.spelling (codes "defined") || asks_headers language t.spelling)

-- a function-like macro's name is a call where `(` comes next, and else passes
abbrev pub function_case : Definition → Params → Carrier → List Carrier → Case
function_case d p t (u ∷ us) = if is_open u then IsCall d p us else Passes (t ∷ []) (u ∷ us)
function_case d p t [] = Passes (t ∷ []) []

-- a name with or without a definition
abbrev pub macro_case : Carrier → List Carrier → Option Definition → Case
macro_case t rest None = Passes (t ∷ []) rest
macro_case t rest (Some d) = elim d.params [ None ↦ IsObject d | Some p ↦ function_case d p t rest ]

-- a predefined name, or another one
abbrev pub name_case : Surroundings → Carrier → List Carrier → Option (List ℕ × Kind × Content) → Case
name_case s t rest (Some p) = IsPredefined p.1 p.2
name_case s t rest None = macro_case t rest (definition_of t.spelling s.table)

-- the first case that fits
abbrev pub case_of : Surroundings → Carrier → List Carrier → Case
case_of s t rest =
    if is_asking s.mode s.table.language t
    then Passes (t ∷ take (taken_count t.spelling rest) rest) (drop (taken_count t.spelling rest) rest) else
    if not (is_identifier_kind t.kind) || t.hidden t.spelling then Passes (t ∷ []) rest else
    name_case s t rest (predefined s t.line t.spelling)

---- expansion of a list

-- the work units that are left for expansions at first
abbrev pub first_units : ℕ
first_units = 4000000

-- what goes on over all expansions of a preprocessing
pub record Meter : Type 0 where
  -- the work units that are left
  pub units : ℕ
  -- how many counts were given: the number that `__COUNTER__` gives next
  pub counter : ℕ

-- nothing is spent, and no count was given
abbrev pub first_meter : Meter
first_meter = record { units = first_units; counter = 0 }

-- with so many units less
abbrev pub spent : ℕ → Meter → Meter
spent n meter = record { units = meter.units - n; counter = meter.counter }

-- with one count more, where one is given
abbrev pub counted : Content → Meter → Meter
counted (Fixed text) meter = meter
counted Count meter = record { units = meter.units; counter = meter.counter + 1 }

-- the bytes of the token that replaces a predefined name
abbrev pub text_of : Meter → Content → List ℕ
text_of meter (Fixed text) = text
text_of meter Count = decimal meter.counter

-- what a list of tokens gives with this meter: tokens and the meter after them, or the first fault
abbrev pub Expander : Type 0
Expander = Meter → List Carrier → Result (List Carrier × Meter) ExpandFault

-- the parameter is at an ordinary place of the body, or `__VA_OPT__` asks whether it has tokens
abbrev pub is_expanded_in : List Element → ℕ → Bool
is_expanded_in [] n = false
is_expanded_in (Expanded space m ∷ es) n = (m == n) || is_expanded_in es n
is_expanded_in (Optional hash m ∷ es) n = (m == n) || is_expanded_in es n
is_expanded_in (e ∷ es) n = is_expanded_in es n

-- the argument of parameter n, expanded where the body asks for it
abbrev pub expanded_argument : Expander → List Element → Meter → ℕ → Argument → Result (Argument × Meter) ExpandFault
expanded_argument deeper es meter n a =
    elim (is_expanded_in es n) [
      | true ↦ deeper meter a.written >>= λ e. Ok (record a { expanded = e.0 }, e.1)
      | false ↦ Ok (a, meter)
    ]

-- each argument that an ordinary place asks for is expanded once, as a list by itself, in the order of the parameters
-- from n on
abbrev pub expanded_arguments : Expander → List Element → Meter → ℕ → List Argument → Result (List Argument × Meter) ExpandFault
expanded_arguments deeper es meter n [] = Ok ([], meter)
expanded_arguments deeper es meter n (a ∷ as') =
    expanded_argument deeper es meter n a >>= λ e.
    expanded_arguments deeper es e.1 (suc n) as' >>= λ rest.
    Ok (e.0 ∷ rest.0, rest.1)

-- a replacement costs one unit and one for each of its tokens; it is before the rest and is treated again
abbrev pub replaced : Expander → Meter → (new rest : List Carrier) → Result (List Carrier × Meter) ExpandFault
replaced again meter new rest =
    elim (nat_lt meter.units (1 + length new)) [ true ↦ Err OverBudget | false ↦ again (spent (1 + length new) meter) (new ++ rest) ]

-- a call: its arguments bound, expanded, substituted, and the replacement put before the rest; deeper is one level up
abbrev pub called : Rule → Expander → Expander → Carrier → Meter → Definition → Params → Option Call → Result (List Carrier × Meter) ExpandFault
called rule deeper again t meter d p None = Err UnclosedCall
called rule deeper again t meter d p (Some c) =
    bound p (taken rule c.close.hidden c.inside) >>= λ args.
    expanded_arguments deeper (elements_of d) meter 0 args >>= λ e.
    substituted rule e.0 (elements_of d) >>= λ new.
    replaced again e.1 (replacing rule t (union (only d.name) (intersection t.hidden c.close.hidden)) new) c.rest

-- the front token by its case; again goes on with the list after it
abbrev pub treated : Rule → Expander → Expander → Carrier → Meter → (rest : List Carrier) → Case → Result (List Carrier × Meter) ExpandFault
treated rule deeper again t meter _ (Passes front rest) = again meter rest >>= λ r. Ok (front ++ r.0, r.1)
treated rule deeper again t meter rest (IsPredefined kind content) =
    replaced again (counted content meter) (record t { kind = kind; spelling = text_of meter content; hidden = union (only t.spelling) t.hidden } ∷ []) rest
treated rule deeper again t meter rest (IsObject d) =
    substituted rule [] (elements_of d) >>= λ new.
    replaced again meter (replacing rule t (union (only d.name) t.hidden) new) rest
treated rule deeper again t meter rest (IsCall d p behind) = called rule deeper again t meter d p (call_behind 0 behind)

-- one level. Each step takes a token away, or spends more units than it adds tokens, so that steps above
-- tokens plus units never run out
abbrev pub level : Surroundings → Expander → ℕ → Expander
level s deeper zero meter ts = Err OverBudget
level s deeper (suc steps) meter [] = Ok ([], meter)
level s deeper (suc steps) meter (t ∷ ts) = treated (rule_in s) deeper (level s deeper steps) t meter ts (case_of s t ts)

-- so many levels: an argument is one level above its call
abbrev pub levels : Surroundings → ℕ → Expander
levels s zero meter ts = Err OverBudget
levels s (suc n) meter ts = level s (levels s n) (length ts + meter.units + 1) meter ts

-- how many levels there are: a list that is handed in is at level 0, and the last one is 1,000
unfoldable pub all_levels : ℕ
all_levels = 1001

-- a token of a list that is handed in hides nothing
abbrev pub of_source : Tok → Carrier
of_source t = record { kind = t.kind; spelling = t.spelling; line = t.line; space = t.space; hidden = no_names }

-- a token of the result
abbrev pub item_of : Carrier → Item
item_of t = record { kind = t.kind; spelling = t.spelling; line = t.line; space = t.space }

-- the expansion of a list: its items and the meter after it, or the first fault
abbrev pub expansion : Surroundings → (meter : Meter) → List Tok → Result (List Item × Meter) ExpandFault
expansion s meter ts = levels s all_levels meter (map of_source ts) >>= λ r. Ok (map item_of r.0, r.1)
