-- No definition is refused for want of memory: the definitions know none.
use Rattle.std.proofs.Common.{ℕ, ◌&&◌, ◌||◌, not, Bool, true, false, List, [], ◌∷◌, Option, Some, None, Result, Ok, Err, length, nat_lt}
use Rattle.std.specs.Prelude.{◌≢◌, IfErr, IfSome, is_some, if◌then◌else◌}
use Rattle.inc_text.specs.PhaseText.{phase_text}
use Rattle.inc_text.specs.declared.languages.Language.{Language}
use Rattle.inc_text.specs.declared.languages.Language.TheVariants.{C17, Extended, Gnu}
use Rattle.inc_token.specs.TokenLines.{Tok, TokenLine, token_lines}
use Rattle.inc_token.specs.declared.lines.LexFault.{LexFault}
use Rattle.inc_macro.specs.Macros.{Definition, Params, Table, after_first, are_good, begins_with_paste, body_fault, body_of, checked, define, define_word, definition_after, definition_in, definition_of, ends_in_paste, function_like, has_bad_comma, has_bad_optional, has_lone_hash, has_stray_va_args, is_among, is_bad_word, is_identifier_kind, is_open, is_reserved, name_at, object_like, operand_names, or_fault, parameter_list, parameter_names, params_or_none, redefined, same_definition, spellings, takes_comma, tokens_or_bad, undef, va_opt, variable_fault, with_definition, word_text, word_tokens}
use Rattle.inc_macro.specs.Results.{◌>>=◌}
use Rattle.inc_macro.specs.declared.faults.DefineFault.{DefineFault}
use Rattle.inc_macro.specs.declared.faults.DefineFault.TheVariants.{NoName, ReservedName, BadParameters, TooManyParameters, PasteAtEnd, BadWord, BadComma, NoMemory}

abbrev Has : {A : Type 0} → Result A DefineFault → Type 0
Has r = IfErr r (λ fault. fault ≢ NoMemory)

then_has : {A B : Type 0} (r : Result A DefineFault) (f : A → Result B DefineFault) → Has r → ((a : A) → Has (f a)) → Has (r >>= f)
then_has (Ok a) f h k = k a
then_has (Err fault) f h k = h

if_has : {A : Type 0} (b : Bool) (r s : Result A DefineFault) → Has r → Has s → Has (if b then r else s)
if_has true r s h k = h
if_has false r s h k = k

if_some : (b : Bool) (o p : Option DefineFault) → IfSome o (λ f. f ≢ NoMemory) → IfSome p (λ f. f ≢ NoMemory) → IfSome (if b then o else p) (λ f. f ≢ NoMemory)
if_some true o p h k = h
if_some false o p h k = k

variable_has : (given : Option Params) (texts : List (List ℕ)) → IfSome (variable_fault given texts) (λ f. f ≢ NoMemory)
variable_has None texts = tt
variable_has (Some p) texts =
    if_some (not (takes_comma p)) None _ tt
    (if_some (is_among va_opt (parameter_names (Some p)) || has_bad_optional texts) _ _ (λ e. cc) (if_some (has_bad_comma p texts) (Some BadComma) None (λ e. cc) tt))

body_has : (language : Language) (given : Option Params) (texts : List (List ℕ)) → IfSome (body_fault language given texts) (λ f. f ≢ NoMemory)
body_has language given texts =
    if_some (has_stray_va_args language given texts) _ _ (λ e. cc)
    (if_some (is_some given && has_lone_hash (operand_names given) texts) _ _ (λ e. cc)
    (if_some (begins_with_paste texts || ends_in_paste texts) (Some PasteAtEnd) _ (λ e. cc) (variable_has given texts)))

or_has : (d : Definition) (fault : Option DefineFault) → IfSome fault (λ f. f ≢ NoMemory) → Has (or_fault d fault)
or_has d None h = tt
or_has d (Some fault) h = h

checked_has : (language : Language) (d : Definition) → Has (checked language d)
checked_has language d =
    let params : Params = params_or_none d.params in
    if_has (not (are_good params)) (Err BadParameters) _ (λ e. cc)
    (if_has (nat_lt 255 (length params.names)) (Err TooManyParameters) _ (λ e. cc)
    (or_has d (body_fault language d.params (spellings d.body)) (body_has language d.params (spellings d.body))))

function_has : (language : Language) (name : List ℕ) (x : Option (Params × List Tok)) → Has (function_like language name x)
function_has language name None = λ e. cc
function_has language name (Some x) = checked_has language (record { name = name; params = Some x.0; body = body_of x.1 })

after_has : (language : Language) (name : List ℕ) (ts : List Tok) → Has (definition_after language name ts)
after_has language name [] = checked_has language (record { name = name; params = None; body = body_of [] })
after_has language name (t ∷ ts) =
    if_has (is_open t) (function_like language name (parameter_list language ts)) (object_like language name (t ∷ ts)) (function_has language name (parameter_list language ts))
    (checked_has language (record { name = name; params = None; body = body_of (t ∷ ts) }))

name_has : (language : Language) (ts : List Tok) → Has (name_at language ts)
name_has language [] = λ e. cc
name_has language (t ∷ ts) =
    if_has (not (is_identifier_kind t.kind)) (Err NoName) _ (λ e. cc) (if_has (is_reserved language t.spelling) (Err ReservedName) (Ok t.spelling) (λ e. cc) tt)

redefined_has : (language : Language) (d : Definition) (table : Table) → Has (redefined language d table)
redefined_has C17 d table = λ e. cc
redefined_has Extended d table = λ e. cc
redefined_has Gnu d table = tt

with_has : (d : Definition) (table : Table) (old : Option Definition) → Has (with_definition d table old)
with_has d table None = tt
with_has d table (Some old) = if_has (same_definition old d) (Ok table) (redefined table.language d table) tt (redefined_has table.language d table)

pub define_has : (tokens : List Tok) (table : Table) → Has (define tokens table)
define_has tokens table =
    then_has (definition_in table.language tokens) _
    (then_has (name_at table.language tokens) _ (name_has table.language tokens) (λ name. after_has table.language name (after_first tokens)))
    (λ d. with_has d table (definition_of d.name table))

pub undef_has : (tokens : List Tok) (table : Table) → Has (undef tokens table)
undef_has tokens table = then_has (name_at table.language tokens) _ (name_has table.language tokens) (λ name. tt)

tokens_have : (lines : Result (List TokenLine) LexFault) → Has (tokens_or_bad lines)
tokens_have (Ok lines) = tt
tokens_have (Err fault) = λ e. cc

pub define_word_has : (word : List ℕ) (table : Table) → Has (define_word word table)
define_word_has word table =
    let lines = token_lines table.language (phase_text table.language (word_text word)) in
    then_has (word_tokens table.language word) _
    (if_has (is_bad_word word) (Err BadWord) (tokens_or_bad lines) (λ e. cc) (tokens_have lines))
    (λ tokens. define_has tokens table)
