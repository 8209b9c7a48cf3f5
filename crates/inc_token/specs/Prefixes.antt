-- What the kind of a directive rests on (ISO/IEC 9899:2018, 6.10): its name and, where that includes, the next token. A
-- directive is a line whose first token is # or the digraph %:.
use Rattle.std.specs.Prelude.{ℕ, List, [], ◌∷◌, Option, Some, None, if◌then◌else◌}
use Rattle.inc_token.specs.TokenLines.{Tok, is_hash, is_include_name}
use Rattle.inc_text.specs.declared.languages.Language.{Language}
use Rattle.inc_token.specs.declared.kinds.Kind.{Kind}

-- the token after the name of an include directive: its class and its bytes
pub record Operand : Type 0 where
  pub kind : Kind
  pub spelling : List ℕ

pub record Prefix : Type 0 where
  -- the physical line of the #
  pub line : ℕ
  -- the token after the #; a null directive has none
  pub name : Option (List ℕ)
  -- the token after the name of an include directive, and of no other directive
  pub operand : Option Operand

abbrev pub first_operand : List Tok → Option Operand
first_operand [] = None
first_operand (t ∷ ts) = Some (record { kind = t.kind; spelling = t.spelling })

abbrev pub operand_after : Language → List ℕ → List Tok → Option Operand
operand_after language name ts = if is_include_name language name then first_operand ts else None

-- the prefix of a directive whose # is on this line, by the tokens after it
abbrev pub prefix_after : Language → ℕ → List Tok → Prefix
prefix_after language line [] = record { line = line; name = None; operand = None }
prefix_after language line (t ∷ ts) = record { line = line; name = Some t.spelling; operand = operand_after language t.spelling ts }

-- a line of text has none
abbrev pub prefix_of : Language → List Tok → Option Prefix
prefix_of language [] = None
prefix_of language (t ∷ ts) = if is_hash t.spelling then Some (prefix_after language t.line ts) else None
