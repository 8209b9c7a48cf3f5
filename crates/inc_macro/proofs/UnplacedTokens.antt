-- A definition does not rest on the places of its tokens.
use Rattle.std.proofs.Common.{◌≡◌, ℕ, Bool, true, false, List, [], ◌∷◌, Option, Some, None, Result, Ok, Err, codes, map, not, ◌&&◌, option_map, refl, sym, ap, ◌∙◌}
use Rattle.std.specs.Bool.{if◌then◌else◌}
use Rattle.inc_text.specs.declared.languages.Language.{Language}
use Rattle.inc_text.specs.declared.languages.Language.TheVariants.{C17, Extended, Gnu}
use Rattle.inc_token.specs.TokenLines.{Tok}
use Rattle.inc_token.proofs.OwnLines.{unplaced}
use Rattle.inc_macro.specs.Macros.{BodyToken, Definition, Params, Table, Variable, body_of, body_token, checked, define, definition_after, definition_in, definition_of, function_like, is_dots, is_identifier_kind, is_open, is_spelled, is_variable_name, name_at, named, named_last, object_like, parameter_list, parameters, unnamed, with_definition, with_name}
use Rattle.inc_macro.specs.Results.{◌>>=◌}
use Rattle.inc_macro.specs.declared.faults.DefineFault.{DefineFault}

body-tokens : (ts : List Tok) → map body_token (map unplaced ts) ≡ map body_token ts
body-tokens [] = refl
body-tokens (t ∷ ts) = ap (λ bs. body_token t ∷ bs) (body-tokens ts)

body-unplaced : (ts : List Tok) → body_of (map unplaced ts) ≡ body_of ts
body-unplaced [] = refl
body-unplaced (t ∷ ts) = ap (λ bs. record { kind = t.kind; spelling = t.spelling; space = false } ∷ bs) (body-tokens ts)

-- parameters, and the tokens after them
abbrev rest_unplaced : Params × List Tok → Params × List Tok
rest_unplaced (params, rest) = (params, map unplaced rest)

named-unplaced : (name : List ℕ) (found : Option (Params × List Tok)) → option_map (with_name name) (option_map rest_unplaced found) ≡ option_map rest_unplaced (option_map (with_name name) found)
named-unplaced name None = refl
named-unplaced name (Some (params, rest)) = refl

last-unplaced : (t : Tok) (rest : List Tok) → named_last t (map unplaced rest) ≡ option_map rest_unplaced (named_last t rest)
last-unplaced t [] = by (is_variable_name t)
  where
    by : (a : Bool) → (if a && false then Some (record { names = []; variable = Some (named t.spelling) }, []) else None)
        ≡ option_map rest_unplaced (if a && false then Some (record { names = []; variable = Some (named t.spelling) }, []) else None)
    by true = refl
    by false = refl
last-unplaced t (u ∷ rest) = by (is_variable_name t && is_spelled (codes ")") u)
  where
    by : (a : Bool) → (if a then Some (record { names = []; variable = Some (named t.spelling) }, map unplaced rest) else None)
        ≡ option_map rest_unplaced (if a then Some (record { names = []; variable = Some (named t.spelling) }, rest) else None)
    by true = refl
    by false = refl

parameters-step : (v : Variable) (dots own other close comma : Bool) (name : List ℕ) (rest : List Tok) (last ended more found : Option (Params × List Tok))
    → last ≡ option_map rest_unplaced ended → more ≡ option_map rest_unplaced found
    → (if dots then (if close then Some (record { names = []; variable = Some v }, map unplaced rest) else None) else
    if own then last else
    if other then None else
    if close then Some (record { names = name ∷ []; variable = None }, map unplaced rest) else
    if comma then option_map (with_name name) more else None)
    ≡ option_map rest_unplaced (if dots then (if close then Some (record { names = []; variable = Some v }, rest) else None) else
    if own then ended else
    if other then None else
    if close then Some (record { names = name ∷ []; variable = None }, rest) else
    if comma then option_map (with_name name) found else None)
parameters-step v true own other true comma name rest last ended more found ends is = refl
parameters-step v true own other false comma name rest last ended more found ends is = refl
parameters-step v false true other close comma name rest last ended more found ends is = ends
parameters-step v false false true close comma name rest last ended more found ends is = refl
parameters-step v false false false true comma name rest last ended more found ends is = refl
parameters-step v false false false false true name rest last ended more found ends is = ap (option_map (with_name name)) is ∙ named-unplaced name found
parameters-step v false false false false false name rest last ended more found ends is = refl

dots-unplaced : (language : Language) (t : Tok) → is_dots language (unplaced t) ≡ is_dots language t
dots-unplaced C17 t = refl
dots-unplaced Extended t = refl
dots-unplaced Gnu t = refl

parameters-unplaced : (language : Language) (ts : List Tok) → parameters language (map unplaced ts) ≡ option_map rest_unplaced (parameters language ts)
parameters-unplaced language [] = refl
parameters-unplaced language (t ∷ []) = refl
parameters-unplaced language (t ∷ u ∷ rest) =
    rw (dots-unplaced language u)
    (parameters-step (unnamed language) (is_spelled (codes "...") t) (is_dots language u) (not (is_identifier_kind t.kind)) (is_spelled (codes ")") u) (is_spelled (codes ",") u) t.spelling rest
    (named_last t (map unplaced rest)) (named_last t rest) (parameters language (map unplaced rest)) (parameters language rest) (last-unplaced t rest) (parameters-unplaced language rest))

list-step : (close : Bool) (rest : List Tok) (more found : Option (Params × List Tok)) → more ≡ option_map rest_unplaced found
    → (if close then Some (record { names = []; variable = None }, map unplaced rest) else more)
    ≡ option_map rest_unplaced (if close then Some (record { names = []; variable = None }, rest) else found)
list-step true rest more found is = refl
list-step false rest more found is = is

list-unplaced : (language : Language) (ts : List Tok) → parameter_list language (map unplaced ts) ≡ option_map rest_unplaced (parameter_list language ts)
list-unplaced language [] = refl
list-unplaced language (t ∷ rest) =
    list-step (is_spelled (codes ")") t) rest (parameters language (map unplaced (t ∷ rest))) (parameters language (t ∷ rest)) (parameters-unplaced language (t ∷ rest))

function-unplaced : (language : Language) (name : List ℕ) (found : Option (Params × List Tok)) → function_like language name (option_map rest_unplaced found) ≡ function_like language name found
function-unplaced language name None = refl
function-unplaced language name (Some (params, rest)) =
    ap (λ (body : List BodyToken). checked language (record { name = name; params = Some params; body = body })) (body-unplaced rest)

object-unplaced : (language : Language) (name : List ℕ) (ts : List Tok) → object_like language name (map unplaced ts) ≡ object_like language name ts
object-unplaced language name ts = ap (λ (body : List BodyToken). checked language (record { name = name; params = None; body = body })) (body-unplaced ts)

either : (x : Bool) (a b c d : Result Definition DefineFault) → a ≡ c → b ≡ d → (if x then a else b) ≡ (if x then c else d)
either true a b c d e f = e
either false a b c d e f = f

after-unplaced : (language : Language) (name : List ℕ) (ts : List Tok) → definition_after language name (map unplaced ts) ≡ definition_after language name ts
after-unplaced language name [] = refl
after-unplaced language name (t ∷ ts) =
    either (is_open t) (function_like language name (parameter_list language (map unplaced ts))) (object_like language name (map unplaced (t ∷ ts)))
    (function_like language name (parameter_list language ts)) (object_like language name (t ∷ ts))
    (ap (function_like language name) (list-unplaced language ts) ∙ function-unplaced language name (parameter_list language ts))
    (object-unplaced language name (t ∷ ts))

definition-by : (language : Language) (name : Result (List ℕ) DefineFault) (ts : List Tok)
    → (name >>= (λ n. definition_after language n (map unplaced ts))) ≡ (name >>= (λ n. definition_after language n ts))
definition-by language (Ok name) ts = after-unplaced language name ts
definition-by language (Err fault) ts = refl

definition-unplaced : (language : Language) (ts : List Tok) → definition_in language (map unplaced ts) ≡ definition_in language ts
definition-unplaced language [] = refl
definition-unplaced language (t ∷ ts) = definition-by language (name_at language (t ∷ ts)) ts

pub define-unplaced : (ts us : List Tok) (table : Table) → map unplaced ts ≡ map unplaced us → define ts table ≡ define us table
define-unplaced ts us table same =
    let by : Result Definition DefineFault → Result Table DefineFault = λ r. r >>= (λ d. with_definition d table (definition_of d.name table)) in
    ap by (sym (definition-unplaced table.language ts) ∙ ap (definition_in table.language) same ∙ definition-unplaced table.language us)
