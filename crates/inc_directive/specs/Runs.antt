-- Runs of text lines, as one list of tokens (ISO/IEC 9899:2018, 6.10.3 paragraph 10: in a call a new-line is white space).
use Rattle.std.specs.Prelude.{true, List, flat_map}
use Rattle.inc_token.specs.LineWalk.{spaced_first}
use Rattle.inc_token.specs.TokenLines.{Tok}
use Rattle.inc_directive.specs.Groups.{FileLine}

-- the tokens of a run, as one list
abbrev pub run_tokens : List FileLine → List Tok
run_tokens ls = flat_map (λ (l : FileLine). spaced_first true l.tokens) ls
