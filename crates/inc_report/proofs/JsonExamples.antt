-- How some bytes and directives are written as JSON.
use Rattle.std.proofs.Common.{◌≡◌, [], ◌∷◌, ◌++◌, None, Some, refl, codes}
use Rattle.std.specs.Fmt.{digits}
use Rattle.std.specs.Str.{chars, is_utf8}
use lib.Utf8.{encode}
use Rattle.inc_token.specs.declared.kinds.IncludeName.TheVariants as by
use Rattle.inc_directive.specs.LineKinds.{Angled, ByName, Computed, Include, Nothing, Other, Quoted, Text}
use Rattle.inc_directive.specs.declared.kinds.DirectiveKind.TheVariants.{Foreign}
use Rattle.inc_answers.specs.JsonDirectives.{directive_text}
use Rattle.inc_answers.specs.JsonTexts.{bytes_item, bytes_member, list_of, number_member, string_text}

-- `"` and `\` have a `\` before them
pub quotes_are_escaped : string_text (codes "a\"b\\c.h") ≡ codes "\"a\\\"b\\\\c.h\""
quotes_are_escaped = refl

-- control bytes are escaped by their number, LF and TAB too; 127 is no control byte of JSON
pub control_bytes_are_escaped : string_text (9 ∷ 10 ∷ 0 ∷ 31 ∷ 32 ∷ 127 ∷ []) ≡ codes "\"\\u0009\\u000a\\u0000\\u001f " ++ 127 ∷ 34 ∷ []
control_bytes_are_escaped = refl

-- characters beyond ASCII stand as they are
pub characters_stand : bytes_member (codes "path") (195 ∷ 164 ∷ []) ≡ codes "\"path\":\"" ++ 195 ∷ 164 ∷ 34 ∷ []
unfolding is_utf8 chars encode
characters_stand = refl

-- bytes that are no UTF-8 are written in base 16, under a key of another name
pub others_are_digits : bytes_member (codes "path") (97 ∷ 255 ∷ 10 ∷ []) ≡ codes "\"path_hex\":\"61ff0a\""
unfolding is_utf8 chars encode
others_are_digits = refl

-- in a list each in an object
pub others_are_objects : list_of (bytes_item (codes "a.c") ∷ bytes_item (255 ∷ []) ∷ bytes_item [] ∷ []) ≡ codes "[\"a.c\",{\"path_hex\":\"ff\"},\"\"]"
unfolding is_utf8 chars encode
others_are_objects = refl

pub nothing_is_listed : list_of [] ≡ codes "[]"
nothing_is_listed = refl

pub numbers_are_decimal : number_member (codes "line") 120 ≡ codes "\"line\":120"
unfolding digits
numbers_are_decimal = refl

---- directives

-- a directive, and where it leads
pub directives_are_objects : directive_text (Include by.Include (Quoted (codes "b.h"))) 3 (codes "s/a.c") (Some (codes "s/b.h"))
    ≡ codes "{\"form\":\"quoted\",\"line\":3,\"name\":\"b.h\",\"path\":\"s/a.c\",\"to\":\"s/b.h\"}"
unfolding digits is_utf8 chars encode
directives_are_objects = refl

-- a name of bytes that are no UTF-8 in a file whose path holds a `"`
pub names_are_bytes : directive_text (Include by.Import (Angled (255 ∷ 46 ∷ []))) 12 (codes "a\".c") None
    ≡ codes "{\"by\":\"import\",\"form\":\"angled\",\"line\":12,\"name_hex\":\"ff2e\",\"path\":\"a\\\".c\"}"
unfolding digits is_utf8 chars encode
names_are_bytes = refl

-- a name that a macro makes, one that other tokens make, and none
pub macros_are_named : directive_text (Include by.IncludeNext (ByName (codes "M"))) 1 (codes "a") None
    ≡ codes "{\"by\":\"include_next\",\"form\":\"computed\",\"line\":1,\"macro\":\"M\",\"path\":\"a\"}"
unfolding digits is_utf8 chars encode
macros_are_named = refl

pub tokens_are_not : directive_text (Include by.Include Computed) 1 (codes "a") None ≡ codes "{\"form\":\"computed\",\"line\":1,\"path\":\"a\"}"
unfolding digits is_utf8 chars encode
tokens_are_not = refl

pub nothing_is_named : directive_text (Include by.Include Nothing) 1 (codes "a") None ≡ codes "{\"form\":\"nothing\",\"line\":1,\"path\":\"a\"}"
unfolding digits is_utf8 chars encode
nothing_is_named = refl

-- a directive that is none of C, and a place of which nothing else is known
pub others_are_foreign : directive_text (Other Foreign) 1 (codes "a") None ≡ codes "{\"form\":\"foreign\",\"line\":1,\"path\":\"a\"}"
unfolding digits is_utf8 chars encode
others_are_foreign = refl

pub places_alone : directive_text Text 1 (codes "a") None ≡ codes "{\"line\":1,\"path\":\"a\"}"
unfolding digits is_utf8 chars encode
places_alone = refl
