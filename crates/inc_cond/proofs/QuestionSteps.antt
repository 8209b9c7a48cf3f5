-- Questions whether a header is found, a token at a time.
use Rattle.std.proofs.Common.{◌≡◌, refl, ap, ap₂, sym, ◌∙◌, ℕ, ◌<◌, Bool, true, false, List, [], ◌∷◌, ◌++◌, Option, Some, None, Result, Ok, Err, arith, codes, drop, length, if◌then◌else◌, map}
use Rattle.std.specs.Prelude.{OnOk, Vec, bytes_eq, is_some, slice_index_or}
use Rattle.std.specs.Global.{Global}
use Rattle.std.proofs.lemmas.List.{append_assoc, map-append}
use Rattle.inc_macro.specs.Macros.{Table}
use Rattle.inc_expand.specs.Expansion.{Item}
use Rattle.inc_expand.specs.Items.{seen_item}
use Rattle.inc_expand.specs.declared.items.Item.{Item as ItemValue}
use Rattle.inc_lookup.specs.declared.projects.Form.TheVariants.{Quoted}
use Rattle.inc_cond.specs.declared.faults.CondFault.{CondFault}
use Rattle.inc_cond.specs.declared.questions.Progress.{Progress}
use Rattle.inc_cond.specs.declared.questions.Progress.TheVariants.{More}
use Rattle.inc_cond.specs.declared.questions.Stage.TheVariants.{Angled, Name}
use Rattle.inc_cond.specs.Constants.{unquoted}
use Rattle.inc_cond.specs.Headers.{Header, HeaderSearch, angled, asked_angled, closed, is_plain_string, one_more, with_space}
use Rattle.inc_cond.specs.declared.operands.Operands.{Operands}
use Rattle.inc_cond.specs.Operands.{first_symbol, given, outcome}
use Rattle.inc_cond.specs.Questions.{answer_after, answer_at, answer_of}
use Rattle.inc_cond.specs.Symbols.{Symbol, symbol}

answer-more : (s : HeaderSearch) (n : Bool) (r : Option (Header × ℕ)) → answer_of s n (one_more r) ≡ one_more (answer_of s n r)
answer-more s n None = refl
answer-more s n (Some h) = refl

-- a `<`
pub begun-angled : (s : HeaderSearch) (n : Bool) (i : Item) (is : List Item) (name : Vec ℕ Global) (p : Progress) → is_plain_string i ≡ false → bytes_eq i.spelling (codes "<") ≡ true
    → name.items ≡ [] → p ≡ More (record { is_next = n; stage = Angled name }) → answer_at s n Name (i ∷ is) ≡ answer_after s p is
begun-angled s n i is name p other opens empty same =
    ap (λ b. answer_of s n (one_more (if b then closed (record { form = Quoted; name = unquoted i.spelling }) is else if bytes_eq i.spelling (codes "<") then asked_angled [] is else None))) other
    ∙ ap (λ b. answer_of s n (one_more (if b then asked_angled [] is else None))) opens
    ∙ answer-more s n (asked_angled [] is)
    ∙ ap (λ (bs : List ℕ). one_more (answer_of s n (asked_angled bs is))) (sym empty)
    ∙ ap (λ (q : Progress). answer_after s q is) (sym same)

-- a token of a name
pub gone-on : (s : HeaderSearch) (n : Bool) (i : Item) (is : List Item) (old : List ℕ) (name : Vec ℕ Global) (p : Progress) → bytes_eq i.spelling (codes ">") ≡ false
    → name.items ≡ with_space old i ++ i.spelling → p ≡ More (record { is_next = n; stage = Angled name }) → answer_of s n (asked_angled old (i ∷ is)) ≡ answer_after s p is
gone-on s n i is old name p other items same =
    ap (λ b. answer_of s n (one_more (if b then closed (angled (with_space old i)) is else asked_angled (with_space old i ++ i.spelling) is))) other
    ∙ answer-more s n (asked_angled (with_space old i ++ i.spelling) is)
    ∙ ap (λ (bs : List ℕ). one_more (answer_of s n (asked_angled bs is))) (sym items)
    ∙ ap (λ (q : Progress). answer_after s q is) (sym same)

---- tokens that wait

pub popped : (w v : List ItemValue) (x : ItemValue) → 0 < length w → x ≡ slice_index_or w 0 x → v ≡ drop 1 w → w ≡ x ∷ v
popped [] v x some e f = absurd (omega (arith, some))
popped (y ∷ ys) v x some e f = ap₂ (λ a as'. a ∷ as') (sym e) (sym f)

pub first-is : (s : HeaderSearch) (t : Table) (w rest : List ItemValue) (x : ItemValue) (text : List ℕ) → 0 < length w → x ≡ slice_index_or w 0 x → text ≡ (seen_item x).spelling → rest ≡ drop 1 w
    → (r : Result (Symbol × ℕ) CondFault) → symbol s t x.kind text (map seen_item rest) ≡ r → first_symbol s t (map seen_item w) ≡ r
first-is s t [] rest x text some e f g r is = absurd (omega (arith, some))
first-is s t (y ∷ ys) rest x text some e f g r is =
    ap (λ z. symbol s t z.kind (seen_item z).spelling (map seen_item ys)) (sym e) ∙ ap (λ bs. symbol s t x.kind bs (map seen_item ys)) (sym f)
    ∙ ap (λ (zs : List ItemValue). symbol s t x.kind text (map seen_item zs)) (sym g) ∙ is

-- one more token waits
pub pushed : (o : Operands) (w : List ItemValue) (x : ItemValue) (i : Item) (is : List Item) → w ≡ o.waiting.items ++ x ∷ [] → seen_item x ≡ i
    → given o (map seen_item w ++ is) ≡ outcome o (i ∷ is)
pushed o w x i is e f =
    ap (λ (v : List ItemValue). given o (map seen_item v ++ is)) e
    ∙ ap (λ (js : List Item). given o (js ++ is)) (map-append seen_item o.waiting.items (x ∷ []))
    ∙ ap (given o) (append_assoc (map seen_item o.waiting.items) (seen_item x ∷ []) is)
    ∙ ap (λ (j : Item). given o (map seen_item o.waiting.items ++ j ∷ is)) f

---- options and results

pub some-of : {A : Type 0} (o : Option A) → is_some o ≡ true → (a : A) × (o ≡ Some a)
some-of None e = cc
some-of (Some a) e = (a, refl)

pub none-of : {A : Type 0} (o : Option A) → is_some o ≡ false → o ≡ None
none-of None e = refl
none-of (Some a) e = cc

pub on-both : {A E : Type 0} (r : Result A E) (P Q R : Type 0) → OnOk r P → OnOk r Q → (P → Q → R) → OnOk r R
on-both (Ok a) P Q R p q f = f p q
on-both (Err e) P Q R p q f = tt
