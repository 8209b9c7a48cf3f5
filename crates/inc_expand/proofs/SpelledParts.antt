-- Substitution keeps the bytes of tokens in their classes.
use Rattle.std.proofs.Common.{◌≤◌, arith, ◌≡◌, ℕ, suc, ◌-◌, ◌==◌, ◌&&◌, Bool, true, false, List, [], ◌∷◌, ◌++◌, Option, Some, None, Result, Ok, Err, IfOk, length, map, take, drop, refl, subst, nat_lt, zero}
use Rattle.std.specs.Prelude.{if◌then◌else◌, is_some, option_map}
use Rattle.inc_macro.specs.Results.{◌>>=◌}
use Rattle.inc_macro.specs.Macros.{BodyToken, Definition, Params, depth_at, is_match, parameter_names}
use Rattle.inc_macro.specs.declared.roles.Role.{Role}
use Rattle.inc_macro.specs.declared.roles.Role.TheVariants.{Itself, Paste as PasteRole, Hash as HashRole, AsWritten as WrittenRole, Expanded as ExpandedRole, Comma as CommaRole, Nothing as NothingRole, Optional as OptionalRole}
use Rattle.inc_macro.specs.Roles.{roles_of}
use Rattle.std.specs.List.{list_all}
use Rattle.inc_token.specs.declared.kinds.Kind.{Kind}
use Rattle.inc_token.specs.declared.kinds.Kind.TheVariants.{HeaderName, Identifier, Number, Char, Str, Punct, Other}
use Rattle.inc_token.specs.Spellings.{class_of, is_spelling}
use Rattle.inc_token.proofs.Spelled.{LiesIn, class_of-lies}
use Rattle.inc_token.proofs.Dollars.{spelled_anywhere, spelled_some}
use Rattle.std.proofs.lemmas.List.{length-append}
use Rattle.inc_expand.specs.SpelledItems.{is_spelled_word}
use Rattle.inc_expand.specs.declared.faults.ExpandFault.{ExpandFault}
use Rattle.inc_expand.specs.declared.faults.ExpandFault.TheVariants.{ArgumentCount, BadString, TokenTooLong}
use Rattle.inc_expand.specs.declared.rules.Rule.{Rule}
use Rattle.inc_expand.specs.declared.rules.Rule.TheVariants.{BySets, ByContexts}
use Rattle.inc_expand.specs.Elements.{Element, Word, Glue, Silent, StringOf, AsWritten, Expanded, Comma, Optional, Kept, Empty, Made, element, hash_of, elements_from, elements_of}
use Rattle.inc_expand.specs.Expansion.{Carrier, Call, Argument, Part, Piece, Paste, Names, no_names, call_behind, depth_after, is_close, is_comma, onto_first, split_at_commas, arguments, filled_up, left_out, unexpanded, bound, argument_at, comma_part, as_part, spaced, in_quotes, spelled, longest_made, fits, is_str, string_of, kind_or_bad, made_kind, pasted_token, operand, parts_of, all_parts, tokens_of, pasted, paste_from, chosen, goes_with, has_tokens, inside, joined, kept, own_spelling, standing, stands, substituted, replacing, rule_of, hidden_at, spoken, taken}
use Rattle.inc_text.specs.declared.languages.Language.{Language}
use Rattle.inc_text.specs.declared.languages.Language.TheVariants.{C17, Extended, Gnu}

-- the bytes of a token lie in its class
abbrev pub IsSpelled : Language → Carrier → Type 0
IsSpelled language t = is_spelling language t.kind t.spelling ≡ true

-- those of each token
abbrev pub AreSpelled : Language → List Carrier → Type 0
AreSpelled language [] = Unit {0}
AreSpelled language (t ∷ ts) = IsSpelled language t × AreSpelled language ts

pub spelled-append : (language : Language) (ts us : List Carrier) → AreSpelled language ts → AreSpelled language us → AreSpelled language (ts ++ us)
spelled-append language [] us h k = k
spelled-append language (t ∷ ts) us h k = (h.0, spelled-append language ts us h.1 k)

pub spelled-take : (language : Language) (n : ℕ) (ts : List Carrier) → AreSpelled language ts → AreSpelled language (take n ts)
spelled-take language zero ts h = tt
spelled-take language (suc n) [] h = tt
spelled-take language (suc n) (t ∷ ts) h = (h.0, spelled-take language n ts h.1)

pub spelled-drop : (language : Language) (n : ℕ) (ts : List Carrier) → AreSpelled language ts → AreSpelled language (drop n ts)
spelled-drop language zero ts h = h
spelled-drop language (suc n) [] h = tt
spelled-drop language (suc n) (t ∷ ts) h = spelled-drop language n ts h.1

spelled-spaced : (language : Language) (space : Bool) (ts : List Carrier) → AreSpelled language ts → AreSpelled language (spaced space ts)
spelled-spaced language space [] h = tt
spelled-spaced language space (t ∷ ts) h = h

-- a step after one that gives what it needs
pub then_spelled : {A B : Type 0} (r : Result A ExpandFault) (P : A → Type 0) (Q : B → Type 0) (f : A → Result B ExpandFault) →
    IfOk r P → ((x : A) → P x → IfOk (f x) Q) → IfOk (r >>= f) Q
then_spelled (Ok x) P Q f h k = k x h
then_spelled (Err e) P Q f h k = tt

---- the arguments of a call

abbrev pub IsSpelledCall : Language → Option Call → Type 0
IsSpelledCall language None = Unit {0}
IsSpelledCall language (Some c) = AreSpelled language c.inside × AreSpelled language c.rest

pub spelled-call : (language : Language) (deep : ℕ) (ts : List Carrier) → AreSpelled language ts → IsSpelledCall language (call_behind deep ts)
spelled-call language deep [] h = tt
spelled-call language deep (t ∷ ts) h =
    go (is_close t && (deep == 0)) (call_behind (depth_after deep t) ts) (spelled-call language (depth_after deep t) ts h.1)
  where
    go : (b : Bool) (more : Option Call) → IsSpelledCall language more
        → IsSpelledCall language (if b then Some (record { inside = []; close = t; rest = ts }) else option_map (λ (c : Call). record c { inside = t ∷ c.inside }) more)
    go true more k = (tt, h.1)
    go false None k = tt
    go false (Some c) k = ((h.0, k.0), k.1)

abbrev AreLists : Language → List (List Carrier) → Type 0
AreLists language [] = Unit {0}
AreLists language (ts ∷ others) = AreSpelled language ts × AreLists language others

lists-split : (language : Language) (most deep : ℕ) (ts : List Carrier) → AreSpelled language ts → AreLists language (split_at_commas most deep ts)
lists-split language most deep [] h = (tt, tt)
lists-split language most deep (t ∷ ts) h =
    let splits : Bool = is_comma t && ((deep == 0) && nat_lt 0 most) in
    go splits _ (lists-split language (if splits then most - 1 else most) (depth_after deep t) ts h.1)
  where
    go : (b : Bool) (others : List (List Carrier)) → AreLists language others → AreLists language (if b then [] ∷ others else onto_first t others)
    go true others k = (tt, k)
    go false [] k = ((h.0, tt), tt)
    go false (us ∷ others) k = ((h.0, k.0), k.1)

lists-arguments : (language : Language) (p : Params) (ts : List Carrier) → AreSpelled language ts → AreLists language (arguments p ts)
lists-arguments language p [] h = go (length p.names == 0)
  where
    go : (b : Bool) → AreLists language (if b then [] else [] ∷ [])
    go true = tt
    go false = (tt, tt)
lists-arguments language p (t ∷ ts) h = lists-split language (if is_some p.variable then length p.names else length (t ∷ ts)) 0 (t ∷ ts) h

-- an argument as written and expanded
abbrev pub IsArgument : Language → Argument → Type 0
IsArgument language a = AreSpelled language a.written × AreSpelled language a.expanded

abbrev pub AreArguments : Language → List Argument → Type 0
AreArguments language [] = Unit {0}
AreArguments language (a ∷ as') = IsArgument language a × AreArguments language as'

arguments-lists : (language : Language) (lists : List (List Carrier)) → AreLists language lists → AreArguments language (map unexpanded lists)
arguments-lists language [] h = tt
arguments-lists language (ts ∷ lists) h = ((h.0, tt), arguments-lists language lists h.1)

arguments-more : (language : Language) (as' : List Argument) → AreArguments language as' → AreArguments language (as' ++ left_out ∷ [])
arguments-more language [] h = ((tt, tt), tt)
arguments-more language (a ∷ as') h = (h.0, arguments-more language as' h.1)

arguments-filled : (language : Language) (p : Params) (as' : List Argument) → AreArguments language as' → AreArguments language (filled_up p as')
arguments-filled language p as' h = go (is_some p.variable && (length as' == length p.names))
  where
    go : (b : Bool) → AreArguments language (if b then as' ++ left_out ∷ [] else as')
    go true = arguments-more language as' h
    go false = h

pub spelled-bound : (language : Language) (p : Params) (inside : List Carrier) → AreSpelled language inside → IfOk (bound p inside) (AreArguments language)
spelled-bound language p inside h = go (length (filled_up p (map unexpanded (arguments p inside))) == length (parameter_names (Some p)))
  where
    go : (b : Bool) → IfOk {T = List Argument} {E = ExpandFault} (if b then Ok (filled_up p (map unexpanded (arguments p inside))) else Err ArgumentCount) (AreArguments language)
    go true = arguments-filled language p (map unexpanded (arguments p inside)) (arguments-lists language (arguments p inside) (lists-arguments language p inside h))
    go false = tt

spelled-argument : (language : Language) (args : List Argument) (n : ℕ) → AreArguments language args → IsArgument language (argument_at args n)
spelled-argument language [] n h = (tt, tt)
spelled-argument language (a ∷ as') zero h = h.0
spelled-argument language (a ∷ as') (suc n) h = spelled-argument language as' n h.1

---- substitution

fits-same : (text : List ℕ) → IfOk (fits text) (λ t. t ≡ text)
fits-same text = go (nat_lt longest_made (length text))
  where
    go : (b : Bool) → IfOk {T = List ℕ} {E = ExpandFault} (if b then Err TokenTooLong else Ok text) (λ t. t ≡ text)
    go true = tt
    go false = refl

string-class : (language : Language) (space : Bool) (text : List ℕ) (class : Option Kind) → LiesIn C17 text class →
    IfOk {T = Carrier} {E = ExpandFault} (if is_str class then Ok (record { kind = Str; spelling = text; line = 0; space = space; hidden = no_names }) else Err BadString) (IsSpelled language)
string-class language space text None h = tt
string-class language space text (Some HeaderName) h = tt
string-class language space text (Some Identifier) h = tt
string-class language space text (Some Number) h = tt
string-class language space text (Some Char) h = tt
string-class language space text (Some Str) h = h
string-class language space text (Some Punct) h = tt
string-class language space text (Some Other) h = tt

spelled-string : (language : Language) (space : Bool) (written : List Carrier) → IfOk (string_of space written) (IsSpelled language)
spelled-string language space written =
    then_spelled (fits (in_quotes (spelled (spaced false written)))) (λ t. t ≡ in_quotes (spelled (spaced false written))) (IsSpelled language) _
    (fits-same (in_quotes (spelled (spaced false written)))) (λ text _. string-class language space text (class_of C17 text) (class_of-lies C17 text))

-- it is one of a string
made_string-class : (language : Language) (space : Bool) (text : List ℕ) (class : Option Kind) → LiesIn C17 text class →
    IfOk {T = Carrier} {E = ExpandFault} (if is_str class then Ok (record { kind = Str; spelling = text; line = 0; space = space; hidden = no_names }) else Err BadString)
    (λ t. is_spelling language Str t.spelling ≡ true)
made_string-class language space text None h = tt
made_string-class language space text (Some HeaderName) h = tt
made_string-class language space text (Some Identifier) h = tt
made_string-class language space text (Some Number) h = tt
made_string-class language space text (Some Char) h = tt
made_string-class language space text (Some Str) h = h
made_string-class language space text (Some Punct) h = tt
made_string-class language space text (Some Other) h = tt

spelled-made_string : (language : Language) (space : Bool) (written : List Carrier) → IfOk (string_of space written) (λ t. is_spelling language Str t.spelling ≡ true)
spelled-made_string language space written =
    then_spelled (fits (in_quotes (spelled (spaced false written)))) (λ t. t ≡ in_quotes (spelled (spaced false written))) (λ t. is_spelling language Str t.spelling ≡ true) _
    (fits-same (in_quotes (spelled (spaced false written)))) (λ text _. made_string-class language space text (class_of C17 text) (class_of-lies C17 text))

-- what `##` makes by the rule is a token of the language
abbrev pub IsSpoken : Rule → Language → Type 0
IsSpoken BySets language = Unit {0}
IsSpoken ByContexts Gnu = Unit {0}
IsSpoken ByContexts _ = ⊥

pub spoken_own : (language : Language) → IsSpoken (rule_of language) language
spoken_own C17 = tt
spoken_own Extended = tt
spoken_own Gnu = tt

class-made : (rule : Rule) (language : Language) → IsSpoken rule language → (text : List ℕ) (class : Option Kind) → 2 ≤ length text → LiesIn (spoken rule) text class
    → IfOk (kind_or_bad class) (λ kind. is_spelling language kind text ≡ true)
class-made rule language o text None some h = tt
class-made BySets language o text (Some kind) some h = spelled_anywhere language kind text some h
class-made ByContexts C17 o text (Some kind) some h = absurd o
class-made ByContexts Extended o text (Some kind) some h = absurd o
class-made ByContexts Gnu o text (Some kind) some h = h

spelled-made : (rule : Rule) (language : Language) → IsSpoken rule language → (text : List ℕ) → 2 ≤ length text → IfOk (made_kind rule text) (λ kind. is_spelling language kind text ≡ true)
spelled-made rule language o text some =
    let l = spoken rule in
    then_spelled (fits text) (λ t. t ≡ text) (λ kind. is_spelling language kind text ≡ true) _ (fits-same text)
    (λ t same. class-made rule language o text (class_of l t) some (subst (λ u. LiesIn l u (class_of l t)) same (class_of-lies l t)))

-- a part of a replacement
abbrev IsPart : Language → Part → Type 0
IsPart language (Piece None) = Unit {0}
IsPart language (Piece (Some t)) = IsSpelled language t
IsPart language Paste = Unit {0}

abbrev AreParts : Language → List Part → Type 0
AreParts language [] = Unit {0}
AreParts language (p ∷ ps) = IsPart language p × AreParts language ps

parts-append : (language : Language) (ps qs : List Part) → AreParts language ps → AreParts language qs → AreParts language (ps ++ qs)
parts-append language [] qs h k = k
parts-append language (p ∷ ps) qs h k = (h.0, parts-append language ps qs h.1 k)

parts-map : (language : Language) (ts : List Carrier) → AreSpelled language ts → AreParts language (map as_part ts)
parts-map language [] h = tt
parts-map language (t ∷ ts) h = (h.0, parts-map language ts h.1)

parts-operand : (language : Language) (ts : List Carrier) → AreSpelled language ts → AreParts language (operand ts)
parts-operand language [] h = (tt, tt)
parts-operand language (t ∷ ts) h = parts-map language (t ∷ ts) h

-- a place of a body
abbrev IsElement : Language → Element → Type 0
IsElement language (Word b) = is_spelled_word language b ≡ true
IsElement language Glue = Unit {0}
IsElement language Silent = Unit {0}
IsElement language (StringOf space n) = Unit {0}
IsElement language (AsWritten space n) = Unit {0}
IsElement language (Expanded space n) = Unit {0}
IsElement language (Comma b n) = is_spelled_word language b ≡ true
IsElement language (Optional hash n) = Unit {0}
IsElement language (Kept space n) = Unit {0}
IsElement language Empty = Unit {0}
IsElement language (Made space text) = is_spelling language Str text ≡ true

abbrev pub AreElements : Language → List Element → Type 0
AreElements language [] = Unit {0}
AreElements language (e ∷ es) = IsElement language e × AreElements language es

element-of : (language : Language) (hash : Option Bool) (b : BodyToken) (r : Role) → is_spelled_word language b ≡ true → IsElement language (element hash b r)
element-of language hash b Itself h = h
element-of language hash b PasteRole h = tt
element-of language hash b HashRole h = tt
element-of language None b (WrittenRole n) h = tt
element-of language (Some space) b (WrittenRole n) h = tt
element-of language hash b (ExpandedRole n) h = tt
element-of language hash b (CommaRole n) h = h
element-of language hash b NothingRole h = tt
element-of language hash b (OptionalRole n) h = tt

both : (a b : Bool) → (a && b) ≡ true → (a ≡ true) × (b ≡ true)
both true b h = (refl, h)
both false b h = cc

elements-from : (language : Language) (hash : Option Bool) (bs : List BodyToken) (rs : List Role) → list_all (is_spelled_word language) bs ≡ true → AreElements language (elements_from hash bs rs)
elements-from language hash [] rs h = tt
elements-from language hash (b ∷ bs) [] h = tt
elements-from language hash (b ∷ bs) (r ∷ rs) h =
    let parts = both (is_spelled_word language b) (list_all (is_spelled_word language) bs) h in
    (element-of language hash b r parts.0, elements-from language (hash_of b r) bs rs parts.1)

pub spelled-elements : (language : Language) (d : Definition) → list_all (is_spelled_word language) d.body ≡ true → AreElements language (elements_of d)
spelled-elements language d h = elements-from language None d.body (roles_of d) h

parts-element : (language : Language) (args : List Argument) (e : Element) → AreArguments language args → IsElement language e → IfOk (parts_of args e) (AreParts language)
parts-element language args (Word b) h k = (k, tt)
parts-element language args Glue h k = (tt, tt)
parts-element language args Silent h k = tt
parts-element language args (StringOf space n) h k =
    then_spelled (string_of space (argument_at args n).written) (IsSpelled language) (AreParts language) _ (spelled-string language space (argument_at args n).written) (λ t is. (is, tt))
parts-element language args (AsWritten space n) h k =
    parts-operand language (spaced space (argument_at args n).written) (spelled-spaced language space (argument_at args n).written (spelled-argument language args n h).0)
parts-element language args (Expanded space n) h k =
    parts-map language (spaced space (argument_at args n).expanded) (spelled-spaced language space (argument_at args n).expanded (spelled-argument language args n h).1)
parts-element language args (Optional hash n) h k = tt
parts-element language args (Kept space n) h k =
    parts-operand language (spaced space (argument_at args n).expanded) (spelled-spaced language space (argument_at args n).expanded (spelled-argument language args n h).1)
parts-element language args Empty h k = (tt, tt)
parts-element language args (Made space text) h k = (k, tt)
parts-element language args (Comma b n) h k = (comma-part (argument_at args n).given, tt)
  where
    comma-part : (given : Bool) → IsPart language (comma_part given b)
    comma-part true = k
    comma-part false = tt

parts-all : (language : Language) (args : List Argument) (es : List Element) → AreArguments language args → AreElements language es → IfOk (all_parts args es) (AreParts language)
parts-all language args [] h k = tt
parts-all language args (e ∷ es) h k =
    let rest = parts-all language args es h k.1 in
    then_spelled (parts_of args e) (AreParts language) (AreParts language) _ (parts-element language args e h k.0) (λ ps is.
    then_spelled (all_parts args es) (AreParts language) (AreParts language) _ rest (λ more are. parts-append language ps more is are))

spelled-tokens : (language : Language) (p : Option Carrier) → IsPart language (Piece p) → AreSpelled language (tokens_of p)
spelled-tokens language None h = tt
spelled-tokens language (Some t) h = (h, tt)

part-pasted : (rule : Rule) (language : Language) → IsSpoken rule language → (a b : Option Carrier) → IsPart language (Piece a) → IsPart language (Piece b) → IfOk (pasted rule a b) (λ r. IsPart language (Piece r))
part-pasted rule language o None b h k = k
part-pasted rule language o (Some a) None h k = h
part-pasted rule language o (Some a) (Some b) h k =
    then_spelled (pasted_token rule a b) (IsSpelled language) (λ r. IsPart language (Piece r)) _
    (then_spelled (made_kind rule (a.spelling ++ b.spelling)) (λ kind. is_spelling language kind (a.spelling ++ b.spelling) ≡ true) (IsSpelled language) _ (spelled-made rule language o (a.spelling ++ b.spelling)
    (omega (arith, length-append a.spelling b.spelling, spelled_some language a.kind a.spelling h, spelled_some language b.kind b.spelling k))) (λ kind is. is))
    (λ t is. is)

spelled-pasted : (rule : Rule) (language : Language) → IsSpoken rule language → (joins : Bool) (p : Option Carrier) (ps : List Part) → IsPart language (Piece p) → AreParts language ps → IfOk (paste_from rule joins p ps) (AreSpelled language)
spelled-pasted rule language o joins p [] h k = spelled-tokens language p h
spelled-pasted rule language o joins p (Paste ∷ rest) h k = spelled-pasted rule language o true p rest h k.1
spelled-pasted rule language o false p (Piece q ∷ rest) h k =
    let after = spelled-pasted rule language o false q rest k.0 k.1 in
    then_spelled (paste_from rule false q rest) (AreSpelled language) (AreSpelled language) _ after (λ ts are. spelled-append language (tokens_of p) ts (spelled-tokens language p h) are)
spelled-pasted rule language o true p (Piece q ∷ rest) h k =
    then_spelled (pasted rule p q) (λ r. IsPart language (Piece r)) (AreSpelled language) _ (part-pasted rule language o p q h k.0) (λ r is. spelled-pasted rule language o false r rest is k.1)

spelled-joined : (rule : Rule) (language : Language) → IsSpoken rule language → (args : List Argument) (es : List Element) → AreArguments language args → AreElements language es → IfOk (joined rule args es) (AreSpelled language)
spelled-joined rule language o args es h k =
    then_spelled (all_parts args es) (AreParts language) (AreSpelled language) _ (parts-all language args es h k) (λ ps are. spelled-pasted rule language o false None ps tt are)

---- what is in the parentheses after `__VA_OPT__`

element-kept : (language : Language) (e : Element) → IsElement language e → IsElement language (kept e)
element-kept language (Word b) h = h
element-kept language Glue h = h
element-kept language Silent h = h
element-kept language (StringOf space n) h = h
element-kept language (AsWritten space n) h = h
element-kept language (Expanded space n) h = h
element-kept language (Comma b n) h = h
element-kept language (Optional hash n) h = h
element-kept language (Kept space n) h = h
element-kept language Empty h = h
element-kept language (Made space text) h = h

elements-inside : (language : Language) (deep : ℕ) (es : List Element) → AreElements language es → AreElements language (inside deep es)
elements-inside language deep [] h = tt
elements-inside language deep (e ∷ es) h = go (is_match deep (own_spelling e)) (elements-inside language (depth_at deep (own_spelling e)) es h.1)
  where
    go : (b : Bool) → AreElements language (inside (depth_at deep (own_spelling e)) es) → AreElements language (if b then [] else kept e ∷ inside (depth_at deep (own_spelling e)) es)
    go true more = tt
    go false more = (element-kept language e h.0, more)

elements-later : (language : Language) (es : List Element) → AreElements language es → AreElements language (drop 1 es)
elements-later language [] h = tt
elements-later language (e ∷ es) h = h.1

elements-append : (language : Language) (ds es : List Element) → AreElements language ds → AreElements language es → AreElements language (ds ++ es)
elements-append language [] es h k = k
elements-append language (d ∷ ds) es h k = (h.0, elements-append language ds es h.1 k)

-- nothing is asked of tokens of which a string is made
any_joined : (r : Result (List Carrier) ExpandFault) → IfOk r (λ ts. Unit {0})
any_joined (Ok ts) = tt
any_joined (Err fault) = tt

elements-standing : (language : Language) (args : List Argument) (hash : Option Bool) (es : List Element) → AreArguments language args → AreElements language es → IfOk (standing args hash es) (AreElements language)
elements-standing language args None [] h k = (tt, tt)
elements-standing language args None (e ∷ es) h k = k
elements-standing language args (Some space) es h k =
    then_spelled (joined ByContexts args es) (λ ts. Unit {0}) (AreElements language) _ (any_joined (joined ByContexts args es)) (λ ts any.
    then_spelled (string_of space ts) (λ t. is_spelling language Str t.spelling ≡ true) (AreElements language) _ (spelled-made_string language space ts) (λ t is. (is, tt)))

elements-stands : (language : Language) (args : List Argument) (e : Element) (es : List Element) → AreArguments language args → IsElement language e → AreElements language es → IfOk (stands args e es) (AreElements language)
elements-stands language args (Word b) es h k l = (k, tt)
elements-stands language args Glue es h k l = (tt, tt)
elements-stands language args Silent es h k l = (tt, tt)
elements-stands language args (StringOf space n) es h k l = (tt, tt)
elements-stands language args (AsWritten space n) es h k l = (tt, tt)
elements-stands language args (Expanded space n) es h k l = (tt, tt)
elements-stands language args (Comma b n) es h k l = (k, tt)
elements-stands language args (Kept space n) es h k l = (tt, tt)
elements-stands language args Empty es h k l = (tt, tt)
elements-stands language args (Made space text) es h k l = (k, tt)
elements-stands language args (Optional hash n) es h k l = elements-standing language args hash _ h (go (has_tokens args n))
  where
    go : (b : Bool) → AreElements language (if b then inside 0 (drop 1 es) else [])
    go true = elements-inside language 0 (drop 1 es) (elements-later language es l)
    go false = tt

elements-chosen : (language : Language) (args : List Argument) (skip : ℕ) (es : List Element) → AreArguments language args → AreElements language es → IfOk (chosen args skip es) (AreElements language)
elements-chosen language args skip [] h k = tt
elements-chosen language args (suc n) (e ∷ es) h k = elements-chosen language args n es h k.1
elements-chosen language args zero (e ∷ es) h k =
    let rest = elements-chosen language args (goes_with e es) es h k.1 in
    then_spelled (stands args e es) (AreElements language) (AreElements language) _ (elements-stands language args e es h k.0 k.1) (λ cs are.
    then_spelled (chosen args (goes_with e es) es) (AreElements language) (AreElements language) _ rest (λ more all. elements-append language cs more are all))

pub spelled-substituted : (rule : Rule) (language : Language) → IsSpoken rule language → (args : List Argument) (es : List Element) → AreArguments language args → AreElements language es → IfOk (substituted rule args es) (AreSpelled language)
spelled-substituted rule language o args es h k =
    then_spelled (chosen args 0 es) (AreElements language) (AreSpelled language) _ (elements-chosen language args 0 es h k) (λ cs are. spelled-joined rule language o args cs h are)

pub spelled-replacing : (rule : Rule) (language : Language) (t : Carrier) (names : Names) (ts : List Carrier) → AreSpelled language ts → AreSpelled language (replacing rule t names ts)
spelled-replacing rule language t names ts h = spelled-spaced language t.space _ (moved ts h)
  where
    moved : (us : List Carrier) → AreSpelled language us → AreSpelled language (map (λ (p : Carrier). record p { line = t.line; hidden = hidden_at rule names p }) us)
    moved [] k = tt
    moved (u ∷ us) k = (k.0, moved us k.1)

-- the tokens of a call as they are taken
pub spelled-taken : (rule : Rule) (language : Language) (names : Names) (ts : List Carrier) → AreSpelled language ts → AreSpelled language (taken rule names ts)
spelled-taken BySets language names ts h = h
spelled-taken ByContexts language names [] h = tt
spelled-taken ByContexts language names (t ∷ ts) h = (h.0, spelled-taken ByContexts language names ts h.1)
