-- The tokens of an expansion of the program as the definitions see them.
use Rattle.std.specs.Prelude.{ℕ, List}
use Rattle.inc_expand.specs.declared.items.Spelling.{Spelling}
use Rattle.inc_expand.specs.declared.items.Spelling.TheVariants.{Source, Made}
use Rattle.inc_expand.specs.declared.items.Item.{Item as ItemValue}
use Rattle.inc_expand.specs.Expansion.{Item}

-- the bytes of a token
abbrev pub spelling_bytes : Spelling → List ℕ
spelling_bytes (Source bytes) = bytes.now
spelling_bytes (Made bytes) = bytes.items

abbrev pub seen_item : ItemValue → Item
seen_item i = record { kind = i.kind; spelling = spelling_bytes i.spelling; line = i.line; space = i.space }
