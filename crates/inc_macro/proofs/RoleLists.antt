-- The roles of the tokens of a body.
use Rattle.std.proofs.Common.{◌≡◌, ℕ, suc, List, [], ◌∷◌, Option, length, refl, ap}
use Rattle.inc_macro.specs.Macros.{BodyToken, Params, spellings}
use Rattle.inc_macro.specs.Roles.{roles_from, before_after, before_next, comma_at}
use Rattle.inc_macro.specs.declared.roles.Before.{Before}

-- each token has one role
pub length-roles_from : (given : Option Params) (before : Before) (texts : List (List ℕ)) → length (roles_from given before texts) ≡ length texts
length-roles_from given before [] = refl
length-roles_from given before (text ∷ texts) = ap suc (length-roles_from given (before_after (comma_at given (text ∷ texts)) (before_next given before text)) texts)

pub length-spellings : (body : List BodyToken) → length (spellings body) ≡ length body
length-spellings [] = refl
length-spellings (b ∷ bs) = ap suc (length-spellings bs)
