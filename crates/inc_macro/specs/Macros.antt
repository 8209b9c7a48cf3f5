-- Macro definitions and the macro table (ISO/IEC 9899:2018, 6.10.3, 6.10.3.1 to 6.10.3.3, 6.10.3.5, 6.10.8).
-- Choices of this profile: the limit of 255 parameters, __VA_ARGS__ is no macro name, and a body may follow an
-- object-like name without white space.
use Rattle.std.specs.Prelude.{ℕ, ◌+◌, ◌-◌, ◌==◌, ◌&&◌, ◌||◌, not, Bool, true, false, List, [], ◌∷◌, ◌++◌, Option, Some, None, Result, Ok, Err, if◌then◌else◌, length, map, drop, is_some, option_map, nat_lt, codes, bytes_eq}
use Rattle.std.specs.List.{list_any}
use Rattle.inc_text.specs.PhaseText.{phase_text, is_too_long}
use Rattle.inc_token.specs.declared.kinds.Kind.{Kind}
use Rattle.inc_token.specs.declared.kinds.Kind.TheVariants.{Identifier}
use Rattle.inc_text.specs.declared.languages.Language.{Language}
pub use Rattle.inc_text.specs.Languages.{is_gnu}
use Rattle.inc_text.specs.declared.languages.Language.TheVariants.{Gnu}
use Rattle.inc_token.specs.TokenLines.{Tok, TokenLine, token_lines, is_hash}
use Rattle.inc_token.specs.declared.lines.LexFault.{LexFault}
use Rattle.inc_macro.specs.declared.faults.DefineFault.{DefineFault}
use Rattle.inc_macro.specs.declared.faults.DefineFault.TheVariants.{NoName, ReservedName, BadParameters, TooManyParameters, StrayVaArgs, HashWithoutParameter, PasteAtEnd, Redefinition, BadWord, BadOptional, BadComma}
use Rattle.inc_macro.specs.Results.{◌>>=◌}
use Rattle.inc_macro.specs.declared.parameters.TheConstants.{MOST_NAMES}
use Rattle.inc_text.specs.Ascii.{blank, equals, line_feed}

-- the variable arguments of a macro: what they are called, and whether a `,` before a `##` before them goes with them, as
-- in GNU C
pub record Variable : Type 0 where
  pub name : List ℕ
  pub takes_comma : Bool

-- the parameters of a function-like macro: the names of the others, and the variable arguments, where it has some
pub record Params : Type 0 where
  pub names : List (List ℕ)
  pub variable : Option Variable

pub record BodyToken : Type 0 where
  pub kind : Kind
  pub spelling : List ℕ
  pub space : Bool

-- an object-like macro has no parameters
pub record Definition : Type 0 where
  pub name : List ℕ
  pub params : Option Params
  pub body : List BodyToken

-- a finite map: the definition of each name that has one, and how many have one. It has no order
pub record Table : Type 0 where
  -- which names are predefined or reserved, and whether a definition may take the place of another
  pub language : Language
  pub find : List ℕ → Option Definition
  pub size : ℕ
  -- what `#pragma push_macro` put aside of each name, the last first: a definition, or that it had none
  pub aside : List ℕ → List (Option Definition)

abbrev pub no_macros : Language → Table
no_macros language = record { language = language; find = λ n. None; size = 0; aside = λ n. [] }

-- the definition of a name
abbrev pub definition_of : List ℕ → Table → Option Definition
definition_of name table = table.find name

-- the name is one of these
abbrev pub is_among : List ℕ → List (List ℕ) → Bool
is_among name names = list_any (bytes_eq name) names

-- where and when a token is read
abbrev pub place_names : List (List ℕ)
place_names = codes "__LINE__" ∷ codes "__FILE__" ∷ codes "__DATE__" ∷ codes "__TIME__" ∷ []

-- names that GNU C adds: of the source, of how deep a file is included, of when it was written, and of a number that is another one at
-- each place
abbrev pub gnu_names : List (List ℕ)
gnu_names = codes "__BASE_FILE__" ∷ codes "__INCLUDE_LEVEL__" ∷ codes "__TIMESTAMP__" ∷ codes "__COUNTER__" ∷ []

-- 6.10.8. In GNU C the names that say what an implementation conforms to are those of ordinary definitions
abbrev pub predefined_names : Language → List (List ℕ)
predefined_names Gnu = place_names ++ gnu_names
predefined_names _ = place_names ++ codes "__STDC__" ∷ codes "__STDC_HOSTED__" ∷ codes "__STDC_VERSION__" ∷ []

-- __VA_ARGS__, the name of the variable arguments
abbrev pub va_args : List ℕ
va_args = codes "__VA_ARGS__"

-- names by which `#if` asks in GNU C whether a header is found
abbrev pub header_questions : List (List ℕ)
header_questions = codes "__has_include" ∷ codes "__has_include_next" ∷ []

-- the name is one of them
abbrev pub asks_headers : Language → List ℕ → Bool
asks_headers Gnu name = is_among name header_questions
asks_headers _ name = false

-- names by which `#if` or a replacement list asks
abbrev pub asked_names : Language → List (List ℕ)
asked_names Gnu = codes "defined" ∷ va_args ∷ codes "__VA_OPT__" ∷ header_questions
asked_names _ = codes "defined" ∷ va_args ∷ []

-- names that may not be defined or undefined
abbrev pub reserved_names : Language → List (List ℕ)
reserved_names language = asked_names language ++ predefined_names language

abbrev pub is_reserved : Language → List ℕ → Bool
is_reserved language name = is_among name (reserved_names language)

abbrev pub is_defined : List ℕ → Table → Bool
is_defined name table =
    is_among name (predefined_names table.language) || (is_some (definition_of name table) || asks_headers table.language name)

abbrev pub is_identifier_kind : Kind → Bool
is_identifier_kind Identifier = true
is_identifier_kind _ = false

-- the token is spelled so
abbrev pub is_spelled : List ℕ → Tok → Bool
is_spelled text t = bytes_eq t.spelling text

-- the first token is spelled so
abbrev pub stands_first : List ℕ → List Tok → Bool
stands_first text [] = false
stands_first text (t ∷ ts) = is_spelled text t

-- the variable arguments that `...` alone stands for
abbrev pub unnamed : Language → Variable
unnamed language = record { name = va_args; takes_comma = is_gnu language }

-- those that a name before the `...` stands for, in GNU C
abbrev pub named : List ℕ → Variable
named name = record { name = name; takes_comma = true }

-- a `...` after a name, in GNU C
abbrev pub is_dots : Language → Tok → Bool
is_dots Gnu t = is_spelled (codes "...") t
is_dots _ t = false

-- a name for the variable arguments
abbrev pub is_variable_name : Tok → Bool
is_variable_name t = is_identifier_kind t.kind && not (bytes_eq t.spelling va_args)

-- a name with a `...` after it, and the tokens after both, which begin with the `)`
abbrev pub named_last : Tok → List Tok → Option (Params × List Tok)
named_last t rest =
    if is_variable_name t && stands_first (codes ")") rest then Some (record { names = []; variable = Some (named t.spelling) }, drop 1 rest) else None

-- one more name before these parameters
abbrev pub with_name : List ℕ → Params × List Tok → Params × List Tok
with_name name (params, rest) = (record { names = name ∷ params.names; variable = params.variable }, rest)

-- one or more parameters and the `)`, with the tokens after it: names with `,` between them, the last of which may be
-- `...`, or have a `...` after it
abbrev pub parameters : Language → List Tok → Option (Params × List Tok)
parameters language (t ∷ u ∷ rest) =
    if is_spelled (codes "...") t then (if is_spelled (codes ")") u then Some (record { names = []; variable = Some (unnamed language) }, rest) else None) else
    if is_dots language u then named_last t rest else
    if not (is_identifier_kind t.kind) then None else
    if is_spelled (codes ")") u then Some (record { names = t.spelling ∷ []; variable = None }, rest) else
    if is_spelled (codes ",") u then option_map (with_name t.spelling) (parameters language rest) else None
parameters language _ = None

-- the tokens after the `(`: `)` alone, or parameters
abbrev pub parameter_list : Language → List Tok → Option (Params × List Tok)
parameter_list language [] = None
parameter_list language (t ∷ rest) = if is_spelled (codes ")") t then Some (record { names = []; variable = None }, rest) else parameters language (t ∷ rest)

-- no name twice
abbrev pub is_distinct : List (List ℕ) → Bool
is_distinct [] = true
is_distinct (name ∷ names) = not (is_among name names) && is_distinct names

abbrev pub are_good_names : List (List ℕ) → Bool
are_good_names names = is_distinct names && not (is_among va_args names)

-- the name of the variable arguments is none of these
abbrev pub is_other : Option Variable → List (List ℕ) → Bool
is_other None names = true
is_other (Some v) names = not (is_among v.name names)

-- no name twice, and `__VA_ARGS__` is that of the variable arguments alone
abbrev pub are_good : Params → Bool
are_good p = are_good_names p.names && is_other p.variable p.names

abbrev pub body_token : Tok → BodyToken
body_token t = record { kind = t.kind; spelling = t.spelling; space = t.space }

-- the rest of the line as a body: white space before its first token is not kept
abbrev pub body_of : List Tok → List BodyToken
body_of [] = []
body_of (t ∷ ts) = record { kind = t.kind; spelling = t.spelling; space = false } ∷ map body_token ts

-- an object-like macro has no names and no variable arguments
abbrev pub params_or_none : Option Params → Params
params_or_none None = record { names = []; variable = None }
params_or_none (Some params) = params

abbrev pub has_variable : Option Params → Bool
has_variable given = is_some (params_or_none given).variable

-- names, with that of the variable arguments as the last
abbrev pub with_variable : List (List ℕ) → Option Variable → List (List ℕ)
with_variable names None = names
with_variable names (Some v) = names ++ v.name ∷ []

-- the names that stand for arguments in the body (6.10.3.1 paragraph 2)
abbrev pub parameter_names : Option Params → List (List ℕ)
parameter_names given = let params = params_or_none given in with_variable params.names params.variable

-- the spellings of a body
abbrev pub spellings : List BodyToken → List (List ℕ)
spellings body = map (λ (b : BodyToken). b.spelling) body

-- ## or %:%:
abbrev pub is_paste : List ℕ → Bool
is_paste text = bytes_eq text (codes "##") || bytes_eq text (codes "%:%:")

-- the next spelling is the name of a parameter
abbrev pub parameter_follows : List (List ℕ) → List (List ℕ) → Bool
parameter_follows names [] = false
parameter_follows names (text ∷ texts) = is_among text names

-- some # has none of these names after it
abbrev pub has_lone_hash : List (List ℕ) → List (List ℕ) → Bool
has_lone_hash names [] = false
has_lone_hash names (text ∷ texts) = (is_hash text && not (parameter_follows names texts)) || has_lone_hash names texts

-- the last spelling is ##
abbrev pub ends_in_paste : List (List ℕ) → Bool
ends_in_paste [] = false
ends_in_paste (text ∷ []) = is_paste text
ends_in_paste (text ∷ next ∷ texts) = ends_in_paste (next ∷ texts)

abbrev pub begins_with_paste : List (List ℕ) → Bool
begins_with_paste [] = false
begins_with_paste (text ∷ texts) = is_paste text

-- __VA_ARGS__ is in the body of a macro without variable arguments; in GNU C it is an ordinary identifier there
abbrev pub has_stray_va_args : Language → Option Params → List (List ℕ) → Bool
has_stray_va_args language given texts = not (is_gnu language) && (list_any (bytes_eq va_args) texts && not (has_variable given))

abbrev pub is_comma : List ℕ → Bool
is_comma text = bytes_eq text (codes ",")

abbrev pub begins_with_comma : List (List ℕ) → Bool
begins_with_comma [] = false
begins_with_comma (text ∷ texts) = is_comma text

-- the variable arguments that take a `,` with them are called so
abbrev pub is_taker : Option Variable → List ℕ → Bool
is_taker None text = false
is_taker (Some v) text = v.takes_comma && bytes_eq text v.name

abbrev pub begins_with_taker : Params → List (List ℕ) → Bool
begins_with_taker p [] = false
begins_with_taker p (text ∷ texts) = is_taker p.variable text

-- a `,`, a `##` and the variable arguments that take this `,` with them
abbrev pub begins_with_taken : Params → List (List ℕ) → Bool
begins_with_taken p texts = begins_with_comma texts && (begins_with_paste (drop 1 texts) && begins_with_taker p (drop 2 texts))

-- a `,`, a ##, a parameter and another ##
abbrev pub begins_with_chain : Params → List (List ℕ) → Bool
begins_with_chain p texts =
    begins_with_comma texts && (begins_with_paste (drop 1 texts) && (parameter_follows (parameter_names (Some p)) (drop 2 texts) && begins_with_paste (drop 3 texts)))

-- these, or a ## and a `,` that goes with the variable arguments
abbrev pub begins_with_bad_comma : Params → List (List ℕ) → Bool
begins_with_bad_comma p texts = begins_with_chain p texts || (begins_with_paste texts && begins_with_taken p (drop 1 texts))

abbrev pub has_bad_comma : Params → List (List ℕ) → Bool
has_bad_comma p [] = false
has_bad_comma p (text ∷ texts) = begins_with_bad_comma p (text ∷ texts) || has_bad_comma p texts

-- the variable arguments are those of GNU C: they take a `,` with them
abbrev pub takes_comma : Params → Bool
takes_comma p = elim p.variable [ None ↦ false | Some v ↦ v.takes_comma ]

---- `__VA_OPT__( )`, which GNU C has in a macro with variable arguments as later editions of C (ISO/IEC 9899:2024, 6.10.5.1)

abbrev pub va_opt : List ℕ
va_opt = codes "__VA_OPT__"

-- the names that may stand after a `#`
abbrev pub operand_names : Option Params → List (List ℕ)
operand_names None = []
operand_names (Some p) = if takes_comma p then va_opt ∷ parameter_names (Some p) else parameter_names (Some p)

abbrev pub is_left : List ℕ → Bool
is_left text = bytes_eq text (codes "(")

abbrev pub is_right : List ℕ → Bool
is_right text = bytes_eq text (codes ")")

-- how many parentheses are open after a spelling
abbrev pub depth_at : ℕ → List ℕ → ℕ
depth_at deep text = if is_left text then deep + 1 else if is_right text then deep - 1 else deep

-- the `)` is here to the last `(` before, where so many are open behind it
abbrev pub is_match : ℕ → List ℕ → Bool
is_match deep text = is_right text && (deep == 0)

-- behind a `(` is its `)`, and before that no `__VA_OPT__`, and right before no ##; pastes: a ## is right before these
abbrev pub is_closed : (deep : ℕ) → (pastes : Bool) → List (List ℕ) → Bool
is_closed deep pastes [] = false
is_closed deep pastes (text ∷ texts) =
    if is_match deep text then not pastes else
    if bytes_eq va_opt text then false else is_closed (depth_at deep text) (is_paste text) texts

abbrev pub begins_with_left : List (List ℕ) → Bool
begins_with_left [] = false
begins_with_left (text ∷ texts) = is_left text

-- what is after a `__VA_OPT__`: parentheses, with no ## first or last in them, and no other `__VA_OPT__`
abbrev pub follows_optional : List (List ℕ) → Bool
follows_optional texts = begins_with_left texts && (not (begins_with_paste (drop 1 texts)) && is_closed 0 false (drop 1 texts))

-- some `__VA_OPT__` has something else after it
abbrev pub has_bad_optional : List (List ℕ) → Bool
has_bad_optional [] = false
has_bad_optional (text ∷ texts) = (bytes_eq va_opt text && not (follows_optional texts)) || has_bad_optional texts

-- the rule for variable arguments that a macro breaks in GNU C
abbrev pub variable_fault : Option Params → List (List ℕ) → Option DefineFault
variable_fault None texts = None
variable_fault (Some p) texts =
    if not (takes_comma p) then None else
    if is_among va_opt (parameter_names (Some p)) || has_bad_optional texts then Some BadOptional else
    if has_bad_comma p texts then Some BadComma else None

-- the rule that a body with these spellings breaks (6.10.3, 6.10.3.2, 6.10.3.3)
abbrev pub body_fault : Language → Option Params → List (List ℕ) → Option DefineFault
body_fault language given texts =
    if has_stray_va_args language given texts then Some StrayVaArgs else
    if is_some given && has_lone_hash (operand_names given) texts then Some HashWithoutParameter else
    if begins_with_paste texts || ends_in_paste texts then Some PasteAtEnd else variable_fault given texts

abbrev pub or_fault : Definition → Option DefineFault → Result Definition DefineFault
or_fault d None = Ok d
or_fault d (Some fault) = Err fault

-- the definition, unless a rule for parameters or bodies refuses it
abbrev pub checked : Language → Definition → Result Definition DefineFault
checked language d =
    let params = params_or_none d.params in
    if not (are_good params) then Err BadParameters else
    if nat_lt MOST_NAMES (length params.names) then Err TooManyParameters else or_fault d (body_fault language d.params (spellings d.body))

abbrev pub object_like : Language → List ℕ → List Tok → Result Definition DefineFault
object_like language name rest = checked language (record { name = name; params = None; body = body_of rest })

-- the tokens after the name and the `(`
abbrev pub function_like : Language → List ℕ → Option (Params × List Tok) → Result Definition DefineFault
function_like language name None = Err BadParameters
function_like language name (Some x) = checked language (record { name = name; params = Some x.0; body = body_of x.1 })

-- a `(` directly after the name makes the macro function-like (6.10.3 paragraph 10)
abbrev pub is_open : Tok → Bool
is_open t = is_spelled (codes "(") t && not t.space

abbrev pub definition_after : Language → List ℕ → List Tok → Result Definition DefineFault
definition_after language name [] = object_like language name []
definition_after language name (t ∷ ts) = if is_open t then function_like language name (parameter_list language ts) else object_like language name (t ∷ ts)

-- the name that tokens begin with
abbrev pub name_at : Language → List Tok → Result (List ℕ) DefineFault
name_at language [] = Err NoName
name_at language (t ∷ ts) =
    if not (is_identifier_kind t.kind) then Err NoName else
    if is_reserved language t.spelling then Err ReservedName else Ok t.spelling

-- the tokens but for the first
abbrev pub after_first : List Tok → List Tok
after_first [] = []
after_first (t ∷ ts) = ts

-- the definition that the tokens after `define` give
abbrev pub definition_in : Language → List Tok → Result Definition DefineFault
definition_in language tokens = do
  name ← name_at language tokens
  definition_after language name (after_first tokens)

abbrev pub same_bool : Bool → Bool → Bool
same_bool true b = b
same_bool false b = not b

abbrev pub same_names : List (List ℕ) → List (List ℕ) → Bool
same_names [] [] = true
same_names (a ∷ as') (b ∷ bs) = bytes_eq a b && same_names as' bs
same_names _ _ = false

-- the same name for the variable arguments, or none
abbrev pub same_variables : Option Variable → Option Variable → Bool
same_variables None None = true
same_variables (Some v) (Some w) = bytes_eq v.name w.name
same_variables _ _ = false

abbrev pub same_params : Option Params → Option Params → Bool
same_params None None = true
same_params (Some p) (Some q) = same_names p.names q.names && same_variables p.variable q.variable
same_params _ _ = false

-- the same spellings, and white space at the same places
abbrev pub same_body : List BodyToken → List BodyToken → Bool
same_body [] [] = true
same_body (a ∷ as') (b ∷ bs) = bytes_eq a.spelling b.spelling && same_bool a.space b.space && same_body as' bs
same_body _ _ = false

-- 6.10.3 paragraphs 1 and 2
abbrev pub same_definition : Definition → Definition → Bool
same_definition d e = same_params d.params e.params && same_body d.body e.body

-- the table with a definition of one more name
abbrev pub with_new : Definition → Table → Table
with_new d table = record table { find = λ n. if bytes_eq n d.name then Some d else table.find n; size = table.size + 1 }

-- the table with a definition in place of the one that its name has
abbrev pub with_other : Definition → Table → Table
with_other d table = record table { find = λ n. if bytes_eq n d.name then Some d else table.find n }

-- the table with a definition that is not the one that its name has: GNU C takes the new one
abbrev pub redefined : Language → Definition → Table → Result Table DefineFault
redefined Gnu d table = Ok (with_other d table)
redefined _ d table = Err Redefinition

-- the table with a definition, where its name has this one before: an equal one changes nothing
abbrev pub with_definition : Definition → Table → Option Definition → Result Table DefineFault
with_definition d table None = Ok (with_new d table)
with_definition d table (Some old) = if same_definition old d then Ok table else redefined table.language d table

-- the table after #define with these tokens after `define`
abbrev pub define : List Tok → Table → Result Table DefineFault
define tokens table = do
  d ← definition_in table.language tokens
  with_definition d table (definition_of d.name table)

-- the table without a name, where it has this definition (6.10.3.5)
abbrev pub without : List ℕ → Table → Option Definition → Table
without name table None = table
without name table (Some d) = record table { find = λ n. if bytes_eq n name then None else table.find n; size = table.size - 1 }

-- whether #undef with these tokens removes a definition, and the table after it
abbrev pub undef : List Tok → Table → Result (Bool × Table) DefineFault
undef tokens table = do
  name ← name_at table.language tokens
  Ok (is_some (definition_of name table), without name table (definition_of name table))

-- how many names have a definition, where a name that had `old` has `new`
abbrev pub resized : (old new : Option Definition) → ℕ → ℕ
resized None (Some d) size = size + 1
resized (Some d) None size = size - 1
resized old new size = size

-- the table in which a name has this definition, or none
abbrev pub with_found : List ℕ → Option Definition → Table → Table
with_found name o table =
    record table { find = λ n. if bytes_eq n name then o else table.find n; size = resized (definition_of name table) o table.size }

-- the table after `#pragma push_macro` of a name: its definition, or that it has none, is put aside
abbrev pub push_macro : List ℕ → Table → Table
push_macro name table = record table { aside = λ n. if bytes_eq n name then definition_of name table ∷ table.aside name else table.aside n }

-- the table in which a name has the first of these again, and the others are put aside
abbrev pub popped : List ℕ → List (Option Definition) → Table → Table
popped name [] table = table
popped name (o ∷ os) table = record (with_found name o table) { aside = λ n. if bytes_eq n name then os else table.aside n }

-- the table after `#pragma pop_macro` of a name: it has again what was put aside last; where nothing was, nothing changes
abbrev pub pop_macro : List ℕ → Table → Table
pop_macro name table = popped name (table.aside name) table

-- a word of the command line as the text after `define`: its first = becomes a space; without one, 1 is the body
abbrev pub word_text : List ℕ → List ℕ
word_text [] = codes " 1"
word_text (b ∷ bs) = if b == equals then blank ∷ bs else b ∷ word_text bs

-- the tokens of a text without LF, which has one line
abbrev pub first_tokens : List TokenLine → List Tok
first_tokens [] = []
first_tokens (l ∷ ls) = l.tokens

abbrev pub tokens_or_bad : Result (List TokenLine) LexFault → Result (List Tok) DefineFault
tokens_or_bad (Ok lines) = Ok (first_tokens lines)
tokens_or_bad (Err fault) = Err BadWord

-- the word holds LF, or its text is too long
abbrev pub is_bad_word : List ℕ → Bool
is_bad_word word = list_any (λ b. b == line_feed) word || is_too_long (word_text word)

-- the tokens of a word
abbrev pub word_tokens : Language → List ℕ → Result (List Tok) DefineFault
word_tokens language word = if is_bad_word word then Err BadWord else tokens_or_bad (token_lines language (phase_text language (word_text word)))

-- the table after a word of the command line
abbrev pub define_word : List ℕ → Table → Result Table DefineFault
define_word word table = do
  tokens ← word_tokens table.language word
  define tokens table

-- the table with the words from place i on, each as a definition, or the place of the first that is none, and why
abbrev pub with_words : ℕ → List (List ℕ) → Table → Result Table (ℕ × DefineFault)
with_words i [] table = Ok table
with_words i (word ∷ words) table =
    elim (define_word word table) [ Ok t ↦ with_words (i + 1) words t | Err fault ↦ Err (i, fault) ]
