use Rattle.std.proofs.Common.{◌≡◌, ◌≢◌, ◌+◌, ◌++◌, ◌∙◌, ℕ, List, Option, Some, None, drop, length, option_map, sym, ap}
use Rattle.std.specs.Borrow.{Bor}
use Rattle.std.specs.Option.{MatchOption}
use Rattle.std.specs.Str.{IsCharBoundary}
use Rattle.inc_args.specs.CompilerWords as spec
use Rattle.inc_args.proofs.OptionWords.{value_missing, value_there}
use Rattle.inc_args.proofs.compiler_words.value_after.Goals as goal

stripped : (option word : List ℕ) (r : Option (Bor (List ℕ)))
    → MatchOption r ((rest : List ℕ) → word ≢ option ++ rest)
    (λ x. (n : ℕ) × ((n ≡ length option) × (word ≡ option ++ drop n word) × IsCharBoundary word (length option)) × (x.now ≡ drop n word) × (length x.now + n ≡ length word))
    → option_map (λ v. v.now) r ≡ spec.value_after option word
stripped option word None missing = sym (value_missing option word missing)
stripped option word (Some x) (n, (_, is, _), value, _) = sym (value_there option word x.now (is ∙ ap (λ (v : List ℕ). option ++ v) (sym value)))

pub returns : goal.returns
returns c = stripped c.args.option.now c.args.word.now c.strip_prefix.result c.strip_prefix.ensures.cases
