-- The body of a macro as its expansion reads it: its operators and parameters, by the roles of its tokens
-- (ISO/IEC 9899:2018, 6.10.3.1 to 6.10.3.3).
use Rattle.std.specs.Prelude.{ℕ, Bool, List, [], ◌∷◌, Option, Some, None}
use Rattle.inc_macro.specs.declared.roles.Role.{Role}
use Rattle.inc_macro.specs.declared.roles.Role.TheVariants.{Itself, Paste as PasteRole, Hash as HashRole, AsWritten as WrittenRole, Expanded as ExpandedRole, Comma as CommaRole, Nothing as NothingRole, Optional as OptionalRole}
use Rattle.inc_macro.specs.Macros.{BodyToken, Definition}
use Rattle.inc_macro.specs.Roles.{roles_of}

-- a place of a body. Parameters are counted from 0
pub data Element : Type 0 where
  -- a token that stands for itself
  Word : BodyToken → Element
  -- the operator `##`
  Glue : Element
  -- an operator for which nothing stands by itself: `#`, which goes with the place after it, or a `##` after a `,` of GNU C
  Silent : Element
  -- the parameter after a `#`, and whether white space is before the `#`
  StringOf : (space : Bool) → ℕ → Element
  -- a parameter right after or right before `##`, and whether white space is before it
  AsWritten : (space : Bool) → ℕ → Element
  -- a parameter at any other place, and whether white space is before it
  Expanded : (space : Bool) → ℕ → Element
  -- a `,` that stands unless these variable arguments are left out
  Comma : BodyToken → ℕ → Element
  -- `__VA_OPT__` of GNU C, with whether white space is before the `#`, where one is right before it: what is in the parentheses after it
  -- stands where these variable arguments have tokens. The places below stand for it, and for what is in its parentheses
  Optional : (hash : Option Bool) → ℕ → Element
  -- a parameter at an ordinary place of these parentheses: a placemarker, where its argument expands to nothing
  Kept : (space : Bool) → ℕ → Element
  -- a placemarker
  Empty : Element
  -- a string that `#` made of what is in the parentheses
  Made : (space : Bool) → List ℕ → Element

-- the element at a place by the role of its token; hash: whether white space is before the operator `#`, where it
-- is right before
abbrev pub element : (hash : Option Bool) → BodyToken → Role → Element
element hash b Itself = Word b
element hash b PasteRole = Glue
element hash b HashRole = Silent
element None b (WrittenRole n) = AsWritten b.space n
element (Some space) b (WrittenRole n) = StringOf space n
element hash b (ExpandedRole n) = Expanded b.space n
element hash b (CommaRole n) = Comma b n
element hash b NothingRole = Silent
element hash b (OptionalRole n) = Optional hash n

-- whether white space is before the token, where it is the operator `#`
abbrev pub hash_of : BodyToken → Role → Option Bool
hash_of b HashRole = Some b.space
hash_of b _ = None

-- the places of a body, from the front
abbrev pub elements_from : (hash : Option Bool) → List BodyToken → List Role → List Element
elements_from hash (b ∷ bs) (r ∷ rs) = element hash b r ∷ elements_from (hash_of b r) bs rs
elements_from hash _ _ = []

-- the places of a definition's body
abbrev pub elements_of : Definition → List Element
elements_of d = elements_from None d.body (roles_of d)
