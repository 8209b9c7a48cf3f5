-- The paths of a list of files: one a line, or each ended by NUL.
use Rattle.std.specs.Prelude.{ℕ, ◌==◌, not, Bool, List, [], ◌∷◌, ◌++◌, if◌then◌else◌}
use Rattle.std.specs.List.{slice_split}
use Rattle.inc_text.specs.Ascii.{nul, carriage_return, line_feed}
use Rattle.inc_inputs.specs.declared.file_lists.PathEnd.{PathEnd}
use Rattle.inc_inputs.specs.declared.file_lists.PathEnd.TheVariants.{LineFeed, Nul}

-- the byte that ends a path
abbrev pub end_byte : PathEnd → ℕ
end_byte LineFeed = line_feed
end_byte Nul = nul

-- the byte does not end a path
abbrev pub is_inside : (end b : ℕ) → Bool
is_inside end b = not (b == end)

-- a line without the CR at its end, where it has one
abbrev pub without_return : List ℕ → List ℕ
without_return [] = []
without_return (b ∷ []) = if b == carriage_return then [] else b ∷ []
without_return (b ∷ c ∷ bs) = b ∷ without_return (c ∷ bs)

-- what is before the end of a path, as a path
abbrev pub piece_of : PathEnd → List ℕ → List ℕ
piece_of LineFeed line = without_return line
piece_of Nul piece = piece

-- an empty one is none
abbrev pub path_on : List ℕ → List (List ℕ)
path_on [] = []
path_on (b ∷ bs) = (b ∷ bs) ∷ []

-- the paths of pieces, of which each but the last is ended
abbrev pub paths_on : PathEnd → List (List ℕ) → List (List ℕ)
paths_on end [] = []
paths_on end (last ∷ []) = path_on last
paths_on end (piece ∷ next ∷ pieces) = path_on (piece_of end piece) ++ paths_on end (next ∷ pieces)

abbrev pub list_paths : PathEnd → List ℕ → List (List ℕ)
list_paths end list = paths_on end (slice_split (λ b. b == end_byte end) list)
