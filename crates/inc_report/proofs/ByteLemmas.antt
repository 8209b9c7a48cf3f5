-- What holds of all bytes of a source.
use Rattle.std.proofs.Common.{ℕ, List, [], Option, Some, None}
use Rattle.inc_check.specs.Texts.{OfBytes}

-- what holds of each text
pub any_bytes : (left : Option (List ℕ)) (P : List ℕ → Type 0) → ((text : List ℕ) → P text) → OfBytes left P
any_bytes (Some text) P holds = holds text
any_bytes None P holds = ([], holds [])

pub bytes_all : (left : Option (List ℕ)) (P Q : List ℕ → Type 0) → ((text : List ℕ) → P text → Q text) → OfBytes left P → OfBytes left Q
bytes_all (Some text) P Q step is = step text is
bytes_all None P Q step is = (is.0, step is.0 is.1)
