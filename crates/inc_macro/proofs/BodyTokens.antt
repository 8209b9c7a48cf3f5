-- A body that is read token by token.
use Rattle.std.proofs.Common.{◌≡◌, ℕ, zero, suc, ◌+◌, ◌<◌, ◌&&◌, Bool, true, false, List, [], ◌∷◌, Option, length, drop, map, get_or, nat_lt, refl, sym, ap, ◌∙◌, arith, append_assoc, ◌++◌}
use Rattle.std.proofs.lemmas.Bool.{lt-ltb}
use Rattle.inc_token.specs.Views.{seen}
use Rattle.inc_token.specs.TokenLines.{Tok}
use Rattle.inc_token.specs.declared.lines.Token.{Token}
use Rattle.inc_macro.specs.Macros.{BodyToken, Params, body_of, body_token, begins_with_paste}
use Rattle.inc_macro.specs.Roles.{roles_from, role_at, before_after, before_next, comma_at, comma_role}
use Rattle.inc_macro.specs.Views.{spellings_in}
use Rattle.inc_macro.specs.declared.roles.Before.{Before}
use Rattle.inc_macro.specs.declared.roles.Role.{Role}
use Rattle.inc_macro.proofs.TokenTexts.{texts_at, seen_at}

-- the tokens of the body from place n on
abbrev pub body_rest : ℕ → List Tok → List BodyToken
body_rest zero ts = body_of ts
body_rest (suc n) ts = map body_token ts

and_true : (t : Bool) → (t && true) ≡ t
and_true true = refl
and_true false = refl

and_false : (t : Bool) → (t && false) ≡ false
and_false true = refl
and_false false = refl

-- a token of the body as it is kept
abbrev pub kept_token : ℕ → Tok → BodyToken
kept_token i t = record { kind = t.kind; spelling = t.spelling; space = t.space && nat_lt 0 i }

body_rest-cons : (i : ℕ) (t : Tok) (ts : List Tok) → body_rest i (t ∷ ts) ≡ kept_token i t ∷ body_rest (i + 1) ts
body_rest-cons zero t ts = ap (λ s. record { kind = t.kind; spelling = t.spelling; space = s } ∷ map body_token ts) (sym (and_false t.space))
body_rest-cons (suc n) t ts =
    let after : suc (suc n) ≡ suc n + 1 = omega arith in
    let some : nat_lt 0 (suc n) ≡ true = lt-ltb 0 (suc n) (omega arith) in
    ap (λ s. record { kind = t.kind; spelling = t.spelling; space = s } ∷ map body_token ts) (sym (and_true t.space))
    ∙ ap (λ b. record { kind = t.kind; spelling = t.spelling; space = t.space && b } ∷ map body_token ts) (sym some)
    ∙ ap (λ m. kept_token (suc n) t ∷ body_rest m ts) after

pub body_rest-at : (ts : List Token) (i : ℕ) (t : Token) (space : Bool) → i < length ts → space ≡ ((get_or ts i t).space && nat_lt 0 i)
    → body_rest i (drop i (map seen ts))
    ≡ record { kind = (get_or ts i t).kind; spelling = (get_or ts i t).spelling.now; space = space } ∷ body_rest (i + 1) (drop (i + 1) (map seen ts))
body_rest-at ts i t space less is =
    ap (body_rest i) (seen_at ts i t less) ∙ body_rest-cons i (seen (get_or ts i t)) (drop (i + 1) (map seen ts))
    ∙ ap (λ (s : Bool). record { kind = (get_or ts i t).kind; spelling = (get_or ts i t).spelling.now; space = s } ∷ body_rest (i + 1) (drop (i + 1) (map seen ts))) (sym is)

pub roles_from-at : (given : Option Params) (before next : Before) (ends : Bool) (comma : Option ℕ) (role kept : Role) (ts : List Token) (i : ℕ) (t : Token) → i < length ts
    → comma ≡ comma_at given (drop i (spellings_in ts)) → ends ≡ begins_with_paste (drop (i + 1) (spellings_in ts)) → role ≡ role_at given before ends (get_or ts i t).spelling.now
    → kept ≡ comma_role comma role → next ≡ before_after comma (before_next given before (get_or ts i t).spelling.now)
    → roles_from given before (drop i (spellings_in ts)) ≡ kept ∷ roles_from given next (drop (i + 1) (spellings_in ts))
roles_from-at given before next ends comma role kept ts i t less comma_is ends_is role_is kept_is next_is =
    let text = (get_or ts i t).spelling.now in
    let rest = drop (i + 1) (spellings_in ts) in
    let here : comma_at given (text ∷ rest) ≡ comma = ap (comma_at given) (sym (texts_at ts i t less)) ∙ sym comma_is in
    ap (roles_from given before) (texts_at ts i t less)
    ∙ ap (λ o. comma_role o (role_at given before (begins_with_paste rest) text) ∷ roles_from given (before_after o (before_next given before text)) rest) here
    ∙ ap (λ e. comma_role comma (role_at given before e text) ∷ roles_from given (before_after comma (before_next given before text)) rest) (sym ends_is)
    ∙ ap (λ (r : Role). comma_role comma r ∷ roles_from given (before_after comma (before_next given before text)) rest) (sym role_is)
    ∙ ap (λ (r : Role). r ∷ roles_from given (before_after comma (before_next given before text)) rest) (sym kept_is)
    ∙ ap (λ (b : Before). kept ∷ roles_from given b rest) (sym next_is)

-- a list that is read up to one more element, and what is read so far with it
pub snoc : {X : Type 0} (so_far more : List X) (x : X) (all rest left : List X) → all ≡ so_far ++ rest → rest ≡ x ∷ left → more ≡ so_far ++ x ∷ [] → all ≡ more ++ left
snoc so_far more x all rest left is step one =
    is ∙ ap (λ ys. so_far ++ ys) step ∙ sym (append_assoc so_far (x ∷ []) left) ∙ ap (λ ys. ys ++ left) (sym one)
