-- What the getters of matches read, by their rows.
use Rattle.std.proofs.Common.{◌≡◌, ◌∙◌, Option, Some, None, refl, ap, ap₂, sym, option_map, find, is_some, true≢false, unwrap_or}
use Rattle.std.specs.Str.{bytes_eq}
use Rattle.clap.proofs.WalkLemmas.{find_row}
use Rattle.clap.specs.Facts.{Entry}
use Rattle.clap.specs.Matches.{matched_of, raw_values}
use Rattle.clap.specs.Walk.{Row, Text, all_of, row_of, rows_of}
use Rattle.clap.specs.declared.parser.matches.Found.{Found}

-- the values of a row are those of its entry
pub raw_values-rows : (f : Found) (id : Text) → option_map raw_values (matched_of f id) ≡ all_of id (rows_of f)
raw_values-rows f id =
    go (find (λ (e : Entry). bytes_eq e.0.now id) f.entries.items) ∙ ap (option_map (λ (r : Row). r.values)) (sym (find_row f.entries.items id))
  where
    go : (o : Option Entry) → option_map raw_values (option_map (λ e. e.1) o) ≡ option_map (λ (r : Row). r.values) (option_map row_of o)
    go None = refl
    go (Some e) = refl

-- a pair that may be there, by its parts
pub both_parts : {A B C : Type 0} (o : Option C) (f : C → A × B) (a : A) (b : B) → Some a ≡ option_map (λ c. (f c).0) o
    → Some b ≡ option_map (λ p. p.1) (option_map f o) → option_map f o ≡ Some (a, b)
both_parts None f a b first second = absurd (true≢false (ap is_some first))
both_parts (Some c) f a b first second =
    ap₂ (λ x y. Some (x, y)) (sym (ap (λ o. unwrap_or o a) first)) (sym (ap (λ o. unwrap_or o b) second))
