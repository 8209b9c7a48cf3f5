-- A definition that is read part by part.
use Rattle.std.proofs.Common.{◌≡◌, ℕ, true, false, List, [], ◌∷◌, Option, Some, None, Result, Ok, Err, length, nat_lt, refl, sym, ap, ◌∙◌, ⊎_elim}
use Rattle.std.proofs.lemmas.Bool.{cases_Bool}
use Rattle.inc_text.specs.declared.languages.Language.{Language}
use Rattle.inc_token.specs.TokenLines.{Tok}
use Rattle.inc_macro.specs.Macros.{Params, Definition, Table, are_good, body_fault, body_of, define, definition_after, definition_in, function_like, is_open, or_fault, parameter_list, redefined, same_definition, spellings, with_definition, with_new}
use Rattle.inc_macro.specs.NameLists.{counted, signature_of, with_parameters}
use Rattle.inc_macro.specs.Results.{◌>>=◌}
use Rattle.inc_macro.specs.declared.faults.DefineFault.{DefineFault}
use Rattle.inc_macro.proofs.GoodNames.{good, names_in-good}

-- the definition with these parameters and the body that the tokens make
abbrev pub with_body : Language → List ℕ → Option Params × List Tok → Result Definition DefineFault
with_body language name s = or_fault (record { name = name; params = s.0; body = body_of s.1 }) (body_fault language s.0 (spellings (body_of s.1)))

function_like-is : (language : Language) (name : List ℕ) (o : Option (Params × List Tok)) → function_like language name o ≡ (with_parameters (counted (good o)) >>= with_body language name)
function_like-is language name None = refl
function_like-is language name (Some x) =
    ⊎_elim
    (λ (is : are_good x.0 ≡ true).
    ⊎_elim (λ (many : nat_lt 255 (length x.0.names) ≡ true). rw (is, many) refl)
    (λ (few : nat_lt 255 (length x.0.names) ≡ false). rw (is, few) refl)
    (cases_Bool (nat_lt 255 (length x.0.names))))
    (λ (bad : are_good x.0 ≡ false). rw bad refl)
    (cases_Bool (are_good x.0))

pub definition_after-is : (language : Language) (name : List ℕ) (ts : List Tok) → definition_after language name ts ≡ (signature_of language ts >>= with_body language name)
definition_after-is language name [] = refl
definition_after-is language name (t ∷ ts) =
    ⊎_elim
    (λ (is : is_open t ≡ true).
    rw is (function_like-is language name (parameter_list language ts) ∙ ap (λ o. with_parameters (counted o) >>= with_body language name) (sym (names_in-good language ts))))
    (λ (other : is_open t ≡ false). rw other refl)
    (cases_Bool (is_open t))

module _ (language : Language) (name : List ℕ) (ts : List Tok) where
  pub no_signature : (fault : DefineFault) → signature_of language ts ≡ Err fault → definition_after language name ts ≡ Err fault
  no_signature fault is = definition_after-is language name ts ∙ ap (λ r. r >>= with_body language name) is

  pub bad_body : (rest : List Tok) (params : Option Params) (fault : DefineFault) → signature_of language ts ≡ Ok (params, rest)
      → body_fault language params (spellings (body_of rest)) ≡ Some fault → definition_after language name ts ≡ Err fault
  bad_body rest params fault is bad =
      definition_after-is language name ts ∙ ap (λ r. r >>= with_body language name) is
      ∙ ap (or_fault (record { name = name; params = params; body = body_of rest })) bad

  pub good_body : (rest : List Tok) (params : Option Params) → signature_of language ts ≡ Ok (params, rest)
      → body_fault language params (spellings (body_of rest)) ≡ None → definition_after language name ts ≡ Ok (record { name = name; params = params; body = body_of rest })
  good_body rest params is good' =
      definition_after-is language name ts ∙ ap (λ r. r >>= with_body language name) is
      ∙ ap (or_fault (record { name = name; params = params; body = body_of rest })) good'

-- a definition and the table

defined : (ts : List Tok) (table : Table) (d : Definition) (o : Option Definition) → definition_in table.language ts ≡ Ok d → table.find d.name ≡ o
    → define ts table ≡ with_definition d table o
defined ts table d o is finds =
    ap (λ (r : Result Definition DefineFault). r >>= (λ e. with_definition e table (table.find e.name))) is ∙ ap (with_definition d table) finds

pub define-same : (ts : List Tok) (table : Table) (d old : Definition) → definition_in table.language ts ≡ Ok d → table.find d.name ≡ Some old → same_definition old d ≡ true
    → define ts table ≡ Ok table
define-same ts table d old is finds same = defined ts table d (Some old) is finds ∙ rw same refl

pub define-other : (ts : List Tok) (table : Table) (d old : Definition) → definition_in table.language ts ≡ Ok d → table.find d.name ≡ Some old → same_definition old d ≡ false
    → define ts table ≡ redefined table.language d table
define-other ts table d old is finds other = defined ts table d (Some old) is finds ∙ rw other refl

pub define-new : (ts : List Tok) (table : Table) (d : Definition) → definition_in table.language ts ≡ Ok d → table.find d.name ≡ None → define ts table ≡ Ok (with_new d table)
define-new ts table d is finds = defined ts table d None is finds
