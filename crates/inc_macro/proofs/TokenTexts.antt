-- The tokens of a directive from one place on.
use Rattle.std.proofs.Common.{◌≡◌, ℕ, zero, suc, ◌+◌, ◌-◌, ◌<◌, ◌||◌, Bool, false, List, [], ◌∷◌, length, drop, take, map, get_or, refl, ap, ◌∙◌, arith}
use Rattle.std.specs.List.{list_any}
use Rattle.std.proofs.lemmas.List.{take_rest}
use Rattle.inc_token.specs.Views.{seen}
use Rattle.inc_token.specs.declared.kinds.Kind.TheVariants.{HeaderName}
use Rattle.inc_token.specs.declared.lines.Token.{Token}
use Rattle.inc_macro.specs.Macros.{body_of, body_token, spellings, is_paste, ends_in_paste}
use Rattle.inc_macro.specs.Views.{spellings_in}

-- what a read past the end of a list of tokens gives
abbrev pub no_token : Token
no_token = record { spelling = record { ref_ptr = (0, 0); now = [] }; first = 0; last = 0; line = 0; kind = HeaderName; space = false }

pub length-texts : (ts : List Token) → length (spellings_in ts) ≡ length ts
length-texts [] = refl
length-texts (t ∷ ts) = ap suc (length-texts ts)

texts_next : (ts : List Token) (i : ℕ) (t : Token) → i < length ts → drop i (spellings_in ts) ≡ (get_or ts i t).spelling.now ∷ drop (suc i) (spellings_in ts)
texts_next [] i t less = absurd (omega arith)
texts_next (x ∷ ts) zero t less = refl
texts_next (x ∷ ts) (suc i) t less = texts_next ts i t (omega arith)

pub texts_at : (ts : List Token) (i : ℕ) (t : Token) → i < length ts → drop i (spellings_in ts) ≡ (get_or ts i t).spelling.now ∷ drop (i + 1) (spellings_in ts)
texts_at ts i t less =
    let next : suc i ≡ i + 1 = omega arith in
    texts_next ts i t less ∙ ap (λ n. (get_or ts i t).spelling.now ∷ drop n (spellings_in ts)) next

seen_next : (ts : List Token) (i : ℕ) (t : Token) → i < length ts → drop i (map seen ts) ≡ seen (get_or ts i t) ∷ drop (suc i) (map seen ts)
seen_next [] i t less = absurd (omega arith)
seen_next (x ∷ ts) zero t less = refl
seen_next (x ∷ ts) (suc i) t less = seen_next ts i t (omega arith)

pub seen_at : (ts : List Token) (i : ℕ) (t : Token) → i < length ts → drop i (map seen ts) ≡ seen (get_or ts i t) ∷ drop (i + 1) (map seen ts)
seen_at ts i t less =
    let next : suc i ≡ i + 1 = omega arith in
    seen_next ts i t less ∙ ap (λ n. seen (get_or ts i t) ∷ drop n (map seen ts)) next

-- a token and the one after it
pub pair_at : (ts : List Token) (i : ℕ) (t u : Token) → i + 1 < length ts
    → drop i (map seen ts) ≡ seen (get_or ts i t) ∷ seen (get_or ts (i + 1) u) ∷ drop (i + 2) (map seen ts)
pair_at ts i t u less =
    let two : i + 1 + 1 ≡ i + 2 = omega arith in
    seen_at ts i t (omega arith) ∙ ap (λ rest. seen (get_or ts i t) ∷ rest) (seen_at ts (i + 1) u less)
    ∙ ap (λ n. seen (get_or ts i t) ∷ seen (get_or ts (i + 1) u) ∷ drop n (map seen ts)) two

-- a body has the spellings of its tokens

spellings-map : (ts : List Token) → spellings (map body_token (map seen ts)) ≡ spellings_in ts
spellings-map [] = refl
spellings-map (t ∷ ts) = ap (λ texts. t.spelling.now ∷ texts) (spellings-map ts)

pub spellings-body_of : (ts : List Token) → spellings (body_of (map seen ts)) ≡ spellings_in ts
spellings-body_of [] = refl
spellings-body_of (t ∷ ts) = ap (λ texts. t.spelling.now ∷ texts) (spellings-map ts)

-- tests of all tokens

pub any_text : (p : List ℕ → Bool) (ts : List Token) → list_any (λ (t : Token). p t.spelling.now) ts ≡ list_any p (spellings_in ts)
any_text p [] = refl
any_text p (t ∷ ts) = ap (λ b. p t.spelling.now || b) (any_text p ts)

pub last_text : (ts : List Token) (n : ℕ) (t : Token) → length ts ≡ suc n → is_paste (get_or ts n t).spelling.now ≡ ends_in_paste (spellings_in ts)
last_text [] n t len = absurd (omega arith)
last_text (x ∷ []) zero t len = refl
last_text (x ∷ []) (suc n) t len = absurd (omega arith)
last_text (x ∷ y ∷ ts) zero t len = absurd (omega arith)
last_text (x ∷ y ∷ ts) (suc n) t len = last_text (y ∷ ts) n t (omega arith)

map_drop : (ts : List Token) (at : ℕ) → map seen (drop at ts) ≡ drop at (map seen ts)
map_drop ts zero = refl
map_drop [] (suc at) = refl
map_drop (t ∷ ts) (suc at) = map_drop ts at

-- the tokens from one place on
pub seen_rest : (ts : List Token) (at : ℕ) → map seen (take (length ts - at) (drop at ts)) ≡ drop at (map seen ts)
seen_rest ts at = ap (map seen) (take_rest ts at) ∙ map_drop ts at
