-- Places of the program, and the tokens of predefined names, as the definitions see them.
use Rattle.std.specs.Prelude.{ℕ, List}
use Rattle.inc_token.specs.declared.kinds.Kind.{Kind}
use Rattle.inc_expand.specs.declared.places.Place.{Place as PlaceValue}
use Rattle.inc_expand.specs.declared.predefined.Content.{Content as ContentValue}
use Rattle.inc_expand.specs.declared.predefined.Content.TheVariants.{Fixed as FixedBytes, Count as CountValue}
use Rattle.inc_expand.specs.declared.predefined.Predefined.{Predefined}
use Rattle.inc_macro.specs.Tables.{Kept, table_of}
use Rattle.inc_expand.specs.declared.places.Mode.{Mode}
use Rattle.inc_expand.specs.Expansion.{Content, Count, Fixed, Place, Surroundings}
use Rattle.inc_expand.specs.Carriers.{bytes_in}

abbrev pub place_value : PlaceValue → Place
place_value p = record {
  name = p.name.now;
  base = p.base.now;
  shift = p.shift;
  level = p.level;
  is_system = p.is_system;
  date = p.date;
  time = p.time;
  timestamp = p.timestamp;
}

-- what an expansion reads: the macros, what it is for, and where the tokens are
abbrev pub surroundings : Kept → Mode → PlaceValue → Surroundings
surroundings macros mode place = record { table = table_of macros; mode = mode; place = place_value place }

-- what the token has for bytes that replaces a predefined name
abbrev pub content_value : ContentValue → Content
content_value (FixedBytes text) = Fixed (bytes_in text)
content_value CountValue = Count

-- a predefined name with the token that replaces it
abbrev pub predefined_value : Predefined → List ℕ × Kind × Content
predefined_value p = (p.name.now, p.kind, content_value p.content)
