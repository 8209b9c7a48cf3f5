-- How the tokens that a preprocessing puts out are kept: a text, and a label for each token.
use Rattle.std.specs.Prelude.{ℕ, ◌+◌, ◌*◌, ◌/◌, ◌%◌, ◌==◌, Bool, List, [], ◌∷◌, length, take, drop, if◌then◌else◌}
use Rattle.inc_token.specs.declared.kinds.Kind.{Kind}
use Rattle.inc_token.specs.KindCodes.{code_of, kind_of}
use Rattle.inc_pp.specs.declared.labels.Label.{Label}
use Rattle.inc_pp.specs.Tasks.{OutToken}

-- length, class and whether the token begins a line, in one number, and each of them from it
abbrev pub label_with : ℕ → Kind → Bool → Label
label_with len kind starts = record { word = len * 16 + code_of kind * 2 + (if starts then 1 else 0) }

abbrev pub len_in : Label → ℕ
len_in m = m.word / 16

abbrev pub kind_in : Label → Kind
kind_in m = kind_of (m.word / 2 % 8)

abbrev pub starts_in : Label → Bool
starts_in m = m.word % 2 == 1

abbrev pub label_of : OutToken → Label
label_of t = label_with (length t.spelling) t.kind t.starts

-- the tokens of a text, one after the other, with one byte after each
abbrev pub tokens_in : List Label → List ℕ → List OutToken
tokens_in [] text = []
tokens_in (m ∷ ms) text =
    record { kind = kind_in m; spelling = take (len_in m) text; starts = starts_in m } ∷ tokens_in ms (drop (len_in m + 1) text)
