-- The bytes that definitions and clauses name.
use Rattle.std.specs.Prelude.{ℕ}

-- b'\0'
abbrev pub nul : ℕ
nul = 0

-- b'\x07'
abbrev pub alert : ℕ
alert = 7

-- b'\x08'
abbrev pub backspace : ℕ
backspace = 8

-- b'\t'
abbrev pub tab : ℕ
tab = 9

-- b'\n'
abbrev pub line_feed : ℕ
line_feed = 10

-- b'\x0b'
abbrev pub vertical_tab : ℕ
vertical_tab = 11

-- b'\x0c'
abbrev pub form_feed : ℕ
form_feed = 12

-- b'\r'
abbrev pub carriage_return : ℕ
carriage_return = 13

-- b' '
abbrev pub blank : ℕ
blank = 32

-- b'!'
abbrev pub exclamation_mark : ℕ
exclamation_mark = 33

-- b'"'
abbrev pub quotation_mark : ℕ
quotation_mark = 34

-- b'#'
abbrev pub hash : ℕ
hash = 35

-- b'$'
abbrev pub dollar : ℕ
dollar = 36

-- b'%'
abbrev pub percent : ℕ
percent = 37

-- b'&'
abbrev pub ampersand : ℕ
ampersand = 38

-- b'\''
abbrev pub apostrophe : ℕ
apostrophe = 39

-- b'('
abbrev pub open_parenthesis : ℕ
open_parenthesis = 40

-- b')'
abbrev pub close_parenthesis : ℕ
close_parenthesis = 41

-- b'*'
abbrev pub asterisk : ℕ
asterisk = 42

-- b'+'
abbrev pub plus : ℕ
plus = 43

-- b','
abbrev pub comma : ℕ
comma = 44

-- b'-'
abbrev pub minus : ℕ
minus = 45

-- b'.'
abbrev pub full_stop : ℕ
full_stop = 46

-- b'/'
abbrev pub slash : ℕ
slash = 47

-- b'0'
abbrev pub digit_zero : ℕ
digit_zero = 48

-- b'8'
abbrev pub digit_eight : ℕ
digit_eight = 56

-- b'9'
abbrev pub digit_nine : ℕ
digit_nine = 57

-- b':'
abbrev pub colon : ℕ
colon = 58

-- b';'
abbrev pub semicolon : ℕ
semicolon = 59

-- b'<'
abbrev pub less_than : ℕ
less_than = 60

-- b'='
abbrev pub equals : ℕ
equals = 61

-- b'>'
abbrev pub greater_than : ℕ
greater_than = 62

-- b'?'
abbrev pub question_mark : ℕ
question_mark = 63

-- b'A'
abbrev pub capital_a : ℕ
capital_a = 65

-- b'E'
abbrev pub capital_e : ℕ
capital_e = 69

-- b'F'
abbrev pub capital_f : ℕ
capital_f = 70

-- b'L'
abbrev pub capital_l : ℕ
capital_l = 76

-- b'P'
abbrev pub capital_p : ℕ
capital_p = 80

-- b'U'
abbrev pub capital_u : ℕ
capital_u = 85

-- b'Z'
abbrev pub capital_z : ℕ
capital_z = 90

-- b'['
abbrev pub open_bracket : ℕ
open_bracket = 91

-- b'\\'
abbrev pub backslash : ℕ
backslash = 92

-- b']'
abbrev pub close_bracket : ℕ
close_bracket = 93

-- b'^'
abbrev pub caret : ℕ
caret = 94

-- b'_'
abbrev pub underscore : ℕ
underscore = 95

-- b'a'
abbrev pub small_a : ℕ
small_a = 97

-- b'b'
abbrev pub small_b : ℕ
small_b = 98

-- b'e'
abbrev pub small_e : ℕ
small_e = 101

-- b'f'
abbrev pub small_f : ℕ
small_f = 102

-- b'n'
abbrev pub small_n : ℕ
small_n = 110

-- b'p'
abbrev pub small_p : ℕ
small_p = 112

-- b'r'
abbrev pub small_r : ℕ
small_r = 114

-- b't'
abbrev pub small_t : ℕ
small_t = 116

-- b'u'
abbrev pub small_u : ℕ
small_u = 117

-- b'v'
abbrev pub small_v : ℕ
small_v = 118

-- b'x'
abbrev pub small_x : ℕ
small_x = 120

-- b'z'
abbrev pub small_z : ℕ
small_z = 122

-- b'{'
abbrev pub open_brace : ℕ
open_brace = 123

-- b'|'
abbrev pub vertical_bar : ℕ
vertical_bar = 124

-- b'}'
abbrev pub close_brace : ℕ
close_brace = 125

-- b'~'
abbrev pub tilde : ℕ
tilde = 126
