-- Bodies that are kept as one buffer of spellings and the places where they end.
use Rattle.std.proofs.Common.{◌≡◌, ℕ, zero, suc, ◌-◌, ◌<◌, ◌≤◌, ◌&&◌, Bool, List, [], ◌∷◌, ◌++◌, Some, length, drop, take, refl, sym, ap, ◌∙◌, subst, arith, slice_get, slice_range, get_or, map}
use Rattle.std.specs.List.{list_all}
use Rattle.std.proofs.Math.Bool.{and-true}
use Rattle.std.proofs.lemmas.List.{take-append-le, drop-append-le, length-drop, length-append, map-append, take_all}
use Rattle.std.proofs.lemmas.List.Folds.{list_all-append}
use Rattle.std.proofs.lemmas.Option.{slice_get-get_or}
use Rattle.inc_macro.specs.Bodies.{Kept, tokens_from, start_of, role_of, EndAt}
use Rattle.inc_macro.specs.Macros.{BodyToken}
use Rattle.inc_macro.specs.Roles.{is_plain_role}
use Rattle.inc_macro.specs.declared.bodies.Part.{Part}

pub length-tokens_from : (text : List ℕ) (from : ℕ) (ps : List Part) → length (tokens_from text from ps) ≡ length ps
length-tokens_from text from [] = refl
length-tokens_from text from (p ∷ ps) = ap suc (length-tokens_from text p.end ps)

-- a token begins where the one before it ends
pub start_of-after : (from : ℕ) (ps : List Part) (i : ℕ) (p : Part) → slice_get ps i ≡ Some p → start_of from ps (suc i) ≡ p.end
start_of-after from [] i p is = cc
start_of-after from (q ∷ ps) zero p is = let same : q ≡ p = cc in ap (λ (x : Part). x.end) same
start_of-after from (q ∷ ps) (suc i) p is = start_of-after q.end ps i p is

-- token i
pub token-tokens_from : (text : List ℕ) (from : ℕ) (ps : List Part) (i : ℕ) (p : Part) → slice_get ps i ≡ Some p
    → slice_get (tokens_from text from ps) i ≡ Some (record { kind = p.kind; spelling = slice_range text (start_of from ps i) p.end; space = p.space })
token-tokens_from text from [] i p is = cc
token-tokens_from text from (q ∷ ps) zero p is =
    let same : q ≡ p = cc in
    ap (λ (x : Part). Some (record { kind = x.kind; spelling = slice_range text from x.end; space = x.space })) same
token-tokens_from text from (q ∷ ps) (suc i) p is = token-tokens_from text q.end ps i p is

pub EndAt-le : (from : ℕ) (ps : List Part) (n : ℕ) → EndAt from ps n → from ≤ n
EndAt-le from [] n h = omega arith
EndAt-le from (p ∷ ps) n h = let below = EndAt-le p.end ps n h.1 in omega (arith, h.0)

-- a token lies within the buffer
pub bounds : (from : ℕ) (ps : List Part) (n i : ℕ) (p : Part) → EndAt from ps n → slice_get ps i ≡ Some p → (start_of from ps i ≤ p.end) × (p.end ≤ n)
bounds from [] n i p h is = cc
bounds from (q ∷ ps) n zero p h is =
    let same : q ≡ p = cc in
    subst (λ (x : Part). (from ≤ x.end) × (x.end ≤ n)) same (h.0, EndAt-le q.end ps n h.1)
bounds from (q ∷ ps) n (suc i) p h is = bounds q.end ps n i p h.1 is

-- with one more token

pub EndAt-push : (from : ℕ) (ps : List Part) (p : Part) (n m : ℕ) → EndAt from ps n → n ≤ m → p.end ≡ m → EndAt from (ps ++ p ∷ []) m
EndAt-push from [] p n m h le is = (omega (arith, h), is)
EndAt-push from (q ∷ ps) p n m h le is = (h.0, EndAt-push q.end ps p n m h.1 le is)

slice_range-append : (xs ys : List ℕ) (a b : ℕ) → a ≤ b → b ≤ length xs → slice_range (xs ++ ys) a b ≡ slice_range xs a b
slice_range-append xs ys a b le within =
    ap (take (b - a)) (drop-append-le a xs ys (omega arith)) ∙ take-append-le (b - a) (drop a xs) ys (omega (arith, length-drop a xs))

drop-whole : (xs ys : List ℕ) → drop (length xs) (xs ++ ys) ≡ ys
drop-whole [] ys = refl
drop-whole (x ∷ xs) ys = drop-whole xs ys

slice_range-last : (xs ys : List ℕ) (a b : ℕ) → a ≡ length xs → b ≡ length (xs ++ ys) → slice_range (xs ++ ys) a b ≡ ys
slice_range-last xs ys a b is end =
    ap (λ n. take (b - n) (drop n (xs ++ ys))) is ∙ ap (take (b - length xs)) (drop-whole xs ys)
    ∙ take_all (b - length xs) ys (omega (arith, length-append xs ys))

pub tokens_from-push : (text more : List ℕ) (from : ℕ) (ps : List Part) (p : Part) → EndAt from ps (length text) → p.end ≡ length (text ++ more)
    → tokens_from (text ++ more) from (ps ++ p ∷ [])
    ≡ tokens_from text from ps ++ record { kind = p.kind; spelling = more; space = p.space } ∷ []
tokens_from-push text more from [] p h is =
    ap (λ s. record { kind = p.kind; spelling = s; space = p.space } ∷ []) (slice_range-last text more from p.end h is)
tokens_from-push text more from (q ∷ ps) p h is =
    let le = EndAt-le q.end ps (length text) h.1 in
    ap (λ s. record { kind = q.kind; spelling = s; space = q.space } ∷ tokens_from (text ++ more) q.end (ps ++ p ∷ []))
    (slice_range-append text more from q.end h.0 le)
    ∙ ap (λ (bs : List BodyToken). record { kind = q.kind; spelling = slice_range text from q.end; space = q.space } ∷ bs) (tokens_from-push text more q.end ps p h.1 is)

pub pushed_end : (from : ℕ) (text more text' : List ℕ) (ps ps' : List Part) (p : Part) → EndAt from ps (length text) → text' ≡ text ++ more → ps' ≡ ps ++ p ∷ []
    → p.end ≡ length text' → EndAt from ps' (length text')
pushed_end from text more text' ps ps' p h texts parts end =
    subst (λ (qs : List Part). EndAt from qs (length text')) (sym parts)
    (EndAt-push from ps p (length text) (length text') h (omega (arith, ap length texts, length-append text more)) end)

pub pushed_tokens : (from : ℕ) (text more text' : List ℕ) (ps ps' : List Part) (p : Part) → EndAt from ps (length text) → text' ≡ text ++ more → ps' ≡ ps ++ p ∷ []
    → p.end ≡ length text' → tokens_from text' from ps' ≡ tokens_from text from ps ++ record { kind = p.kind; spelling = more; space = p.space } ∷ []
pushed_tokens from text more text' ps ps' p h texts parts end =
    ap (λ t. tokens_from t from ps') texts ∙ ap (tokens_from (text ++ more) from) parts ∙ tokens_from-push text more from ps p h (end ∙ ap length texts)

pub pushed_name : (from : ℕ) (text more text' : List ℕ) (ps : List Part) → EndAt from ps (length text) → text' ≡ text ++ more → take from text' ≡ take from text
pushed_name from text more text' ps h texts = ap (take from) texts ∙ take-append-le from text more (EndAt-le from ps (length text) h)

pub pushed_plain : (ps ps' : List Part) (p : Part) (was is : Bool) → ps' ≡ ps ++ p ∷ [] → was ≡ list_all is_plain_role (map role_of ps)
    → is ≡ (was && is_plain_role p.role) → is ≡ list_all is_plain_role (map role_of ps')
pushed_plain ps ps' p was is parts plain step =
    step ∙ ap (λ b. b && is_plain_role p.role) plain
    ∙ sym (ap (list_all is_plain_role) (map-append role_of ps (p ∷ [])) ∙ list_all-append is_plain_role (map role_of ps) (p.role ∷ [])
    ∙ ap (λ b. list_all is_plain_role (map role_of ps) && b) (and-true (is_plain_role p.role)))
    ∙ ap (λ (qs : List Part). list_all is_plain_role (map role_of qs)) (sym parts)

-- what a body shows of the part at i

pub within : (from : ℕ) (text : List ℕ) (ps : List Part) (k : Kept) (i : ℕ) → record { name = take from text; tokens = tokens_from text from ps; roles = map role_of ps } ≡ k
    → i < length k.tokens → i < length ps
within from text ps k i view less = omega (arith, length-tokens_from text from ps, ap (λ (b : Kept). length b.tokens) view)

pub part_at : (ps : List Part) (i : ℕ) (p : Part) → i < length ps → p ≡ get_or ps i p → slice_get ps i ≡ Some p
part_at ps i p less is = slice_get-get_or ps i p less ∙ ap (λ (q : Part). Some q) (sym is)

pub token_at : (from : ℕ) (text : List ℕ) (ps : List Part) (k : Kept) (i : ℕ) (p : Part) → record { name = take from text; tokens = tokens_from text from ps; roles = map role_of ps } ≡ k
    → i < length k.tokens → p ≡ get_or ps i p
    → slice_get k.tokens i ≡ Some (record { kind = p.kind; spelling = slice_range text (start_of from ps i) p.end; space = p.space })
token_at from text ps k i p view less is =
    ap (λ (b : Kept). slice_get b.tokens i) (sym view) ∙ token-tokens_from text from ps i p (part_at ps i p (within from text ps k i view less) is)
