-- A question about the sources that words name, or about all where none does.
use Rattle.std.proofs.Common.{◌≡◌, ℕ, Bool, true, false, List, [], ◌∷◌, ◌++◌, Option, Some, None, codes, length, refl, sym, ap, subst, ◌∙◌, arith}
use Rattle.std.specs.Prelude.{◌==◌, ◌&&◌, is_none}
use Rattle.clap.specs.Words.{Row, Text, first_of}
use Rattle.inc_args.specs.Meaning.{Question, all_sources, ends_in, has_build, or_all, or_built, question_in, values_of, who_in}

or_all-some : (is_built : Bool) (words : List Text) → (length words == 0) ≡ false → or_all is_built words ≡ words
or_all-some is_built [] some = cc
or_all-some is_built (w ∷ ws) some = refl

none_there : (words : List Text) → length words ≡ 0 → words ≡ []
none_there [] none = refl
none_there (w ∷ ws) none = absurd (omega (arith, none))

-- some word names a source
pub from_words : (q : Question) (rows : List Row) (command : List Text) → q ≡ question_in rows command → (length q.from == 0) ≡ false → q ≡ who_in rows command
from_words q rows command is some =
    let there : (length (values_of (codes "from") rows) == 0) ≡ false = subst (λ (r : Question). (length r.from == 0) ≡ false) is some in
    is
    ∙ sym (ap (λ (words : List Text). record (question_in rows command) { from = words })
    (or_all-some (has_build (first_of (codes "build") rows) command) (values_of (codes "from") rows) there))

-- none does
pub from_all : (q : Question) (rows : List Row) (command from : List Text) → q ≡ question_in rows command → length q.from ≡ 0
    → from ≡ q.from ++ all_sources (has_build q.files.build command) ∷ [] → record q { from = from } ≡ who_in rows command
from_all q rows command from is none all =
    let empty : q.from ≡ [] = none_there q.from none in
    let words : values_of (codes "from") rows ≡ [] = sym (ap (λ (r : Question). r.from) is) ∙ empty in
    ap (λ (ws : List Text). record q { from = ws }) (all ∙ ap (λ (ws : List Text). ws ++ all_sources (has_build q.files.build command) ∷ []) empty)
    ∙ ap (λ (r : Question). record r { from = all_sources (has_build r.files.build command) ∷ [] }) is
    ∙ sym (ap (λ (ws : List Text). record (question_in rows command) { from = or_all (has_build (first_of (codes "build") rows) command) ws }) words)

-- with a build each of its sources is one, where no word names one
pub ends_all : (rows : List Row) (command : List Text) → has_build (first_of (codes "build") rows) command ≡ true → first_of (codes "SOURCE") rows ≡ None
    → who_in rows command ≡ ends_in rows command
ends_all rows command built none =
    ap (λ (b : Bool). record (question_in rows command) { from = or_all b (values_of (codes "from") rows) }) built
    ∙ sym (ap (λ (b : Bool). record (question_in rows command) { from = or_built b (first_of (codes "SOURCE") rows) (values_of (codes "from") rows) }) built
    ∙ ap (λ (o : Option Text). record (question_in rows command) { from = or_built true o (values_of (codes "from") rows) }) none)

or_built-words : (is_built : Bool) (source : Option Text) (words : List Text) → (is_built && is_none source) ≡ false → or_built is_built source words ≡ words
or_built-words false source words not = refl
or_built-words true (Some s) words not = refl
or_built-words true None words not = cc

pub ends_words : (rows : List Row) (command : List Text) → (has_build (first_of (codes "build") rows) command && is_none (first_of (codes "SOURCE") rows)) ≡ false
    → question_in rows command ≡ ends_in rows command
ends_words rows command not =
    sym (ap (λ (words : List Text). record (question_in rows command) { from = words })
    (or_built-words (has_build (first_of (codes "build") rows) command) (first_of (codes "SOURCE") rows) (values_of (codes "from") rows) not))
