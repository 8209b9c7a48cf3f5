-- The number of a class gives the class, and is below 8.
use Rattle.std.proofs.Common.{◌≡◌, ◌<◌, refl, arith}
use Rattle.inc_token.specs.declared.kinds.Kind.{Kind}
use Rattle.inc_token.specs.declared.kinds.Kind.TheVariants.{HeaderName, Identifier, Number, Char, Str, Punct, Other}
use Rattle.inc_token.specs.KindCodes.{code_of, kind_of}

pub kind_of-code : (kind : Kind) → kind_of (code_of kind) ≡ kind
kind_of-code HeaderName = refl
kind_of-code Identifier = refl
kind_of-code Number = refl
kind_of-code Char = refl
kind_of-code Str = refl
kind_of-code Punct = refl
kind_of-code Other = refl

pub code_of-few : (kind : Kind) → code_of kind < 8
code_of-few HeaderName = omega arith
code_of-few Identifier = omega arith
code_of-few Number = omega arith
code_of-few Char = omega arith
code_of-few Str = omega arith
code_of-few Punct = omega arith
code_of-few Other = omega arith
