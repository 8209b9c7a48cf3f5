-- Tokens and directives of the program as the definitions see them.
use Rattle.std.specs.Prelude.{ℕ, List, option_map, slice_get}
use Rattle.std.specs.Option.{option_map_or}
use Rattle.inc_text.specs.PhaseText.{Cell}
use Rattle.inc_token.specs.declared.lines.Token.{Token}
use Rattle.inc_token.specs.declared.lines.fronts.Operand.{Operand as OperandValue}
use Rattle.inc_token.specs.declared.lines.fronts.Prefix.{Prefix as PrefixValue}
use Rattle.inc_token.specs.Prefixes.{Operand, Prefix}
use Rattle.inc_token.specs.TokenLines.{Tok}

abbrev pub seen : Token → Tok
seen t = record { kind = t.kind; spelling = t.spelling.now; first = t.first; last = t.last; line = t.line; space = t.space }

abbrev pub seen_operand : OperandValue → Operand
seen_operand o = record { kind = o.kind; spelling = o.spelling.now }

-- the physical line of the cell at a place of a text, 0 after the last
abbrev pub line_in : List Cell → ℕ → ℕ
line_in cells at = option_map_or (λ (c : Cell). c.line) (slice_get cells at) 0

-- the # is in this text
abbrev pub seen_prefix : List Cell → PrefixValue → Prefix
seen_prefix cells p = record { line = line_in cells p.hash; name = option_map (λ name. name.now) p.name; operand = option_map seen_operand p.operand }
