-- How a body is kept: the name of its macro and the spellings of its tokens in one buffer, and for each token where its spelling ends.
use Rattle.std.specs.Prelude.{◌≡◌, ℕ, zero, suc, ◌≤◌, List, [], ◌∷◌, slice_range}
use Rattle.inc_macro.specs.Macros.{BodyToken}
use Rattle.inc_macro.specs.declared.bodies.Part.{Part}
use Rattle.inc_macro.specs.declared.roles.Role.{Role}

-- a body: the name of its macro, its tokens, and the role of each
pub record Kept : Type 0 where
  pub name : List ℕ
  pub tokens : List BodyToken
  pub roles : List Role

-- the tokens with these ends in the buffer, the first of which begins at `from`
abbrev pub tokens_from : List ℕ → ℕ → List Part → List BodyToken
tokens_from text from [] = []
tokens_from text from (p ∷ ps) =
    record { kind = p.kind; spelling = slice_range text from p.end; space = p.space } ∷ tokens_from text p.end ps

abbrev pub role_of : Part → Role
role_of p = p.role

-- where the spelling of token i begins
abbrev pub start_of : ℕ → List Part → ℕ → ℕ
start_of from ps zero = from
start_of from [] (suc i) = from
start_of from (p ∷ ps) (suc i) = start_of p.end ps i

-- no token ends before it begins, and the last where the buffer does
abbrev pub EndAt : ℕ → List Part → ℕ → Type 0
EndAt from [] n = from ≡ n
EndAt from (p ∷ ps) n = (from ≤ p.end) × EndAt p.end ps n
