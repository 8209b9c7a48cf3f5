-- A name that is not defined stays so where another is defined, and where any is removed.
use Rattle.std.proofs.Common.{◌≡◌, ◌≢◌, ℕ, Bool, true, false, List, [], ◌∷◌, Option, Some, None, Result, Ok, Err, IfOk, cond, is_some, bytes_eq, option_map, slice_get, if◌then◌else◌, refl, sym, ap, ◌∙◌, subst}
use Rattle.std.specs.Prelude.{◌||◌, ◌+◌, not}
use Rattle.std.specs.List.{AllByRecursion}
use Rattle.std.proofs.lemmas.Bool.{cond_both, or_parts}
use Rattle.std.proofs.lemmas.Slice.Eq.{bytes_eq-Decides}
use Rattle.inc_text.specs.declared.languages.Language.{Language}
use Rattle.inc_text.specs.declared.languages.Language.TheVariants.{C17, Extended, Gnu}
use Rattle.inc_token.specs.TokenLines.{Tok}
use Rattle.inc_macro.specs.Macros.{Definition, Table, after_first, asks_headers, define, definition_after, definition_in, definition_of, is_among, is_defined, is_identifier_kind, is_reserved, name_at, pop_macro, popped, predefined_names, push_macro, redefined, same_definition, undef, with_definition, with_found, with_words, define_word, word_tokens, without}
use Rattle.inc_macro.specs.Results.{◌>>=◌}
use Rattle.inc_macro.specs.declared.faults.DefineFault.{DefineFault}
use Rattle.inc_macro.specs.declared.faults.DefineFault.TheVariants.{NoName, ReservedName}
use Rattle.inc_macro.proofs.TableLaws.{differ, named}

-- the name is not predefined and has no definition
abbrev pub Lacks : List ℕ → Table → Type 0
Lacks name table = (is_among name (predefined_names table.language) ≡ false) × (definition_of name table ≡ None)

no_definition : (o : Option Definition) → is_some o ≡ false → o ≡ None
no_definition None h = refl
no_definition (Some d) h = cc

pub lacks_undefined : (name : List ℕ) (table : Table) → is_defined name table ≡ false → Lacks name table
lacks_undefined name table h =
    let outer = or_parts (is_among name (predefined_names table.language)) (is_some (definition_of name table) || asks_headers table.language name) h in
    let inner = or_parts (is_some (definition_of name table)) (asks_headers table.language name) outer.1 in
    (outer.0, no_definition (definition_of name table) inner.0)

---- after a definition

module _ (name : List ℕ) (table : Table) (lacks : Lacks name table) where
  other_lacks : (language : Language) (d : Definition) → bytes_eq name d.name ≡ false → IfOk (redefined language d table) (Lacks name)
  other_lacks C17 d apart = tt
  other_lacks Extended d apart = tt
  other_lacks Gnu d apart = (lacks.0, rw apart lacks.1)

  one_more_lacks : (d : Definition) (o : Option Definition) → bytes_eq name d.name ≡ false → IfOk (with_definition d table o) (Lacks name)
  one_more_lacks d None apart = (lacks.0, rw apart lacks.1)
  one_more_lacks d (Some old) apart =
      cond_both (same_definition old d) (Ok table) (redefined table.language d table) (λ r. IfOk r (Lacks name)) (λ _. lacks) (λ _. other_lacks table.language d apart)

  defined_lacks : (r : Result Definition DefineFault) (other : List ℕ) → ((d : Definition) → r ≡ Ok d → d.name ≡ other) → name ≢ other
      → IfOk (r >>= (λ d. with_definition d table (table.find d.name))) (Lacks name)
  defined_lacks (Err fault) other named' apart = tt
  defined_lacks (Ok d) other named' apart = one_more_lacks d (table.find d.name) (differ name d.name (λ is. apart (is ∙ named' d refl)))

-- the spelling that tokens begin with
abbrev pub first_spelling : List Tok → Option (List ℕ)
first_spelling ts = option_map (λ (t : Tok). t.spelling) (slice_get ts 0)

name_is_first : (language : Language) (ts : List Tok) (name : List ℕ) → name_at language ts ≡ Ok name → first_spelling ts ≡ Some name
name_is_first language [] name is = cc
name_is_first language (t ∷ ts) name is = by (not (is_identifier_kind t.kind)) (is_reserved language t.spelling) is
  where
    by : (a b : Bool) → (if a then Err NoName else if b then Err ReservedName else Ok t.spelling) ≡ Ok name → Some t.spelling ≡ Some name
    by true b is' = cc
    by false true is' = cc
    by false false is' = cc

-- a line that defines another name
pub define_lacks : (ts : List Tok) (name : List ℕ) (table : Table) → first_spelling ts ≢ Some name → Lacks name table → IfOk (define ts table) (Lacks name)
define_lacks ts name table apart lacks = by (name_at table.language ts) refl
  where
    by : (r : Result (List ℕ) DefineFault) → name_at table.language ts ≡ r → IfOk (define ts table) (Lacks name)
    by (Ok other) is =
        defined_lacks name table lacks (definition_in table.language ts) other (λ d. named table.language ts other d is)
        (λ same. apart (name_is_first table.language ts other is ∙ ap Some (sym same)))
    by (Err fault) is =
        subst (λ (n : Result (List ℕ) DefineFault). IfOk ((n >>= (λ m. definition_after table.language m (after_first ts))) >>= (λ d. with_definition d table (table.find d.name))) (Lacks name)) (sym is) tt

---- after a removal

without_lacks : (name other : List ℕ) (table : Table) (o : Option Definition) → Lacks name table → Lacks name (without other table o)
without_lacks name other table None lacks = lacks
without_lacks name other table (Some d) lacks =
    (lacks.0, cond_both (bytes_eq name other) None (table.find name) (λ o. o ≡ None) (λ _. refl) (λ _. lacks.1))

-- a line that removes any name
pub undef_lacks : (ts : List Tok) (name : List ℕ) (table : Table) → Lacks name table → IfOk (undef ts table) (λ (r : Bool × Table). Lacks name r.1)
undef_lacks ts name table lacks = by (name_at table.language ts)
  where
    by : (r : Result (List ℕ) DefineFault) → IfOk (r >>= (λ m. Ok (is_some (table.find m), without m table (table.find m)))) (λ (x : Bool × Table). Lacks name x.1)
    by (Ok other) = without_lacks name other table (table.find other) lacks
    by (Err fault) = tt

---- what is put aside

-- what is put aside stays where a macro is defined

same_redefined : (language : Language) (d : Definition) (table : Table) → IfOk (redefined language d table) (λ after. after.aside ≡ table.aside)
same_redefined C17 d table = tt
same_redefined Extended d table = tt
same_redefined Gnu d table = refl

same_defined : (d : Definition) (table : Table) (o : Option Definition) → IfOk (with_definition d table o) (λ after. after.aside ≡ table.aside)
same_defined d table None = refl
same_defined d table (Some old) =
    cond_both (same_definition old d) (Ok table) (redefined table.language d table) (λ r. IfOk r (λ after. after.aside ≡ table.aside)) (λ _. refl)
    (λ _. same_redefined table.language d table)

define_same : (ts : List Tok) (table : Table) → IfOk (define ts table) (λ after. after.aside ≡ table.aside)
define_same ts table = by (definition_in table.language ts)
  where
    by : (r : Result Definition DefineFault) → IfOk (r >>= (λ d. with_definition d table (table.find d.name))) (λ after. after.aside ≡ table.aside)
    by (Ok d) = same_defined d table (table.find d.name)
    by (Err fault) = tt

word_same : (word : List ℕ) (table : Table) → IfOk (define_word word table) (λ after. after.aside ≡ table.aside)
word_same word table = by (word_tokens table.language word)
  where
    by : (r : Result (List Tok) DefineFault) → IfOk (r >>= (λ ts. define ts table)) (λ after. after.aside ≡ table.aside)
    by (Ok ts) = define_same ts table
    by (Err fault) = tt

-- words of the command line put nothing aside
pub words_same : (i : ℕ) (words : List (List ℕ)) (table : Table) → IfOk (with_words i words table) (λ after. after.aside ≡ table.aside)
words_same i [] table = refl
words_same i (word ∷ words) table = by (define_word word table) (word_same word table) (λ t. words_same (i + 1) words t)
  where
    after : (t : Table) (r : Result Table (ℕ × DefineFault)) → t.aside ≡ table.aside → IfOk r (λ u. u.aside ≡ t.aside) → IfOk r (λ u. u.aside ≡ table.aside)
    after t (Ok u) same is = is ∙ same
    after t (Err fault) same is = tt

    by : (r : Result Table DefineFault) → IfOk r (λ t. t.aside ≡ table.aside) → ((t : Table) → IfOk (with_words (i + 1) words t) (λ u. u.aside ≡ t.aside))
        → IfOk (elim r as (λ _. Result Table (ℕ × DefineFault)) [ Ok t ↦ with_words (i + 1) words t | Err fault ↦ Err (i, fault) ]) (λ u. u.aside ≡ table.aside)
    by (Ok t) same more = after t (with_words (i + 1) words t) same (more t)
    by (Err fault) same more = tt

-- each time that something of a name was put aside, it had no definition
abbrev pub AreNone : List (Option Definition) → Type 0
AreNone os = AllByRecursion (λ (o : Option Definition). o ≡ None) os

-- the name has no definition, and gets none back
abbrev pub IsAbsent : List ℕ → Table → Type 0
IsAbsent name table = Lacks name table × AreNone (table.aside name)

-- it is absent where nothing is put aside
pub absent_undefined : (name : List ℕ) (table : Table) → is_defined name table ≡ false → table.aside name ≡ [] → IsAbsent name table
absent_undefined name table undefined none = (lacks_undefined name table undefined, subst AreNone (sym none) tt)

if_both : {A E : Type 0} (P Q : A → Type 0) (r : Result A E) → IfOk r P → IfOk r Q → IfOk r (λ x. P x × Q x)
if_both P Q (Ok x) p q = (p, q)
if_both P Q (Err e) p q = tt

if_same : {A E : Type 0} (f : A → Table) (table : Table) (name : List ℕ) (r : Result A E) → IfOk r (λ x. (f x).aside ≡ table.aside) → AreNone (table.aside name)
    → IfOk r (λ x. AreNone ((f x).aside name))
if_same f table name (Ok x) same none = subst (λ (a : List ℕ → List (Option Definition)). AreNone (a name)) (sym same) none
if_same f table name (Err e) same none = tt

pub define_absent : (ts : List Tok) (name : List ℕ) (table : Table) → first_spelling ts ≢ Some name → IsAbsent name table → IfOk (define ts table) (IsAbsent name)
define_absent ts name table apart absent =
    if_both (Lacks name) (λ after. AreNone (after.aside name)) (define ts table) (define_lacks ts name table apart absent.0)
    (if_same (λ t. t) table name (define ts table) (define_same ts table) absent.1)

without_same : (name : List ℕ) (table : Table) (o : Option Definition) → (without name table o).aside ≡ table.aside
without_same name table None = refl
without_same name table (Some d) = refl

undef_same : (ts : List Tok) (table : Table) → IfOk (undef ts table) (λ (r : Bool × Table). r.1.aside ≡ table.aside)
undef_same ts table = by (name_at table.language ts)
  where
    by : (r : Result (List ℕ) DefineFault) → IfOk (r >>= (λ m. Ok (is_some (table.find m), without m table (table.find m)))) (λ (x : Bool × Table). x.1.aside ≡ table.aside)
    by (Ok other) = without_same other table (table.find other)
    by (Err fault) = tt

pub undef_absent : (ts : List Tok) (name : List ℕ) (table : Table) → IsAbsent name table → IfOk (undef ts table) (λ (r : Bool × Table). IsAbsent name r.1)
undef_absent ts name table absent =
    if_both (λ (r : Bool × Table). Lacks name r.1) (λ (r : Bool × Table). AreNone (r.1.aside name)) (undef ts table) (undef_lacks ts name table absent.0)
    (if_same (λ (r : Bool × Table). r.1) table name (undef ts table) (undef_same ts table) absent.1)

-- after something of any name is put aside
pub push_absent : (other name : List ℕ) (table : Table) → IsAbsent name table → IsAbsent name (push_macro other table)
push_absent other name table absent = (absent.0, by (bytes_eq name other) refl)
  where
    by : (b : Bool) → bytes_eq name other ≡ b → AreNone (cond b (table.find other ∷ table.aside other) (table.aside name))
    by true same = subst (λ n. AreNone (table.find n ∷ table.aside n)) ((bytes_eq-Decides name other).0 same) (absent.0.1, absent.1)
    by false apart = absent.1

-- after any name has no definition any more
pub none_absent : (other name : List ℕ) (table : Table) → IsAbsent name table → IsAbsent name (with_found other None table)
none_absent other name table absent = ((absent.0.0, there (bytes_eq name other)), absent.1)
  where
    there : (b : Bool) → cond b None (table.find name) ≡ None
    there true = refl
    there false = absent.0.1

popped_absent : (other name : List ℕ) (table : Table) (os : List (Option Definition)) → IsAbsent name table → (name ≡ other → AreNone os) → IsAbsent name (popped other os table)
popped_absent other name table [] absent all = absent
popped_absent other name table (o ∷ os) absent all = ((absent.0.0, there (bytes_eq name other) refl), left (bytes_eq name other) refl)
  where
    there : (b : Bool) → bytes_eq name other ≡ b → cond b o (table.find name) ≡ None
    there true same = (all ((bytes_eq-Decides name other).0 same)).0
    there false apart = absent.0.1

    left : (b : Bool) → bytes_eq name other ≡ b → AreNone (cond b os (table.aside name))
    left true same = (all ((bytes_eq-Decides name other).0 same)).1
    left false apart = absent.1

-- after something of any name is taken back
pub pop_absent : (other name : List ℕ) (table : Table) → IsAbsent name table → IsAbsent name (pop_macro other table)
pop_absent other name table absent = popped_absent other name table (table.aside other) absent (λ same. subst (λ n. AreNone (table.aside n)) same absent.1)
