-- The classes of tokens as numbers below 8, for tables that keep a token in few bits.
use Rattle.std.specs.Prelude.{ℕ, ◌==◌, if◌then◌else◌}
use Rattle.inc_token.specs.declared.kinds.Kind.{Kind}
use Rattle.inc_token.specs.declared.kinds.Kind.TheVariants.{HeaderName, Identifier, Number, Char, Str, Punct, Other}

-- the number of a class
abbrev pub code_of : Kind → ℕ
code_of HeaderName = 0
code_of Identifier = 1
code_of Number = 2
code_of Char = 3
code_of Str = 4
code_of Punct = 5
code_of Other = 6

-- the class with a number
abbrev pub kind_of : ℕ → Kind
kind_of code =
    if code == 0 then HeaderName else if code == 1 then Identifier else if code == 2 then Number else if code == 3 then Char
    else if code == 4 then Str else if code == 5 then Punct else Other
