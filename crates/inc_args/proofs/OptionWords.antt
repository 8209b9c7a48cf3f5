-- The words of compilers: what follows an option.
use Rattle.std.proofs.Common.{◌≡◌, ◌≢◌, ◌∙◌, ◌++◌, ℕ, Bool, true, false, List, Some, None, drop, length, refl, sym, ap, take}
use Rattle.std.proofs.Math.Seq.{drop-append_seam, take-append_seam}
use Rattle.std.proofs.lemmas.List.{take-append-drop}
use Rattle.std.proofs.lemmas.Slice.Eq.{bytes_eq-Decides}
use Rattle.std.specs.Str.{bytes_eq}
use Rattle.inc_args.specs.CompilerWords.{value_after}

-- a word that begins with an option, and what follows it
pub value_there : (option word value : List ℕ) → word ≡ option ++ value → value_after option word ≡ Some value
value_there option word value is =
    rw is (rw (take-append_seam option value, (bytes_eq-Decides option option).1 refl, drop-append_seam option value) refl)

-- a word that does not
pub value_missing : (option word : List ℕ) → ((rest : List ℕ) → word ≢ option ++ rest) → value_after option word ≡ None
value_missing option word not = by (bytes_eq (take (length option) word) option) refl
  where
    by : (b : Bool) → bytes_eq (take (length option) word) option ≡ b → value_after option word ≡ None
    by true is =
        absurd (not (drop (length option) word)
        (sym (take-append-drop (length option) word) ∙ ap (λ (front : List ℕ). front ++ drop (length option) word) ((bytes_eq-Decides (take (length option) word) option).0 is)))
    by false is = rw is refl
