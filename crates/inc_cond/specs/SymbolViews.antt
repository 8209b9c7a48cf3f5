-- Symbols of the program as the definitions see them.
use Rattle.std.specs.Prelude.{ℕ, List, [], ◌∷◌, Option, Some, None}
use Rattle.inc_cond.specs.declared.symbols.Symbol.{Symbol as SymbolValue}
use Rattle.inc_cond.specs.declared.symbols.Symbol.TheVariants as value
use Rattle.inc_cond.specs.Symbols.{Symbol, Constant, Sign, Stray}

abbrev pub seen_symbol : SymbolValue → Symbol
seen_symbol (value.Constant v) = Constant v
seen_symbol (value.Sign s) = Sign s.now
seen_symbol value.Stray = Stray

-- a symbol, where there is one, as a list
abbrev pub symbols_in : Option SymbolValue → List Symbol
symbols_in None = []
symbols_in (Some s) = seen_symbol s ∷ []

-- a symbol, and how many tokens go with it
abbrev pub seen_taken : SymbolValue × ℕ → Symbol × ℕ
seen_taken s = (seen_symbol s.0, s.1)
