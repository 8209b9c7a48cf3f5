-- All that is known of a byte's source bytes, by parts of it.
use Rattle.std.proofs.Common.{◌≡◌, ℕ, Option, Some, None, ap, option_map}
use Rattle.inc_text.specs.PhaseText.{Cell, first_and_line, range_and_line}

pub with_last : (x : Option Cell) (first line : ℕ) → option_map first_and_line x ≡ Some (first, line) → (last : ℕ) × (option_map range_and_line x ≡ Some (first, last, line))
with_last None first line e = (0, ap (option_map {U = ℕ × ℕ × ℕ} (λ (p : ℕ × ℕ). (p.0, 0, p.1))) e)
with_last (Some c) first line e = (c.last, ap (option_map {U = ℕ × ℕ × ℕ} (λ (p : ℕ × ℕ). (p.0, c.last, p.1))) e)

pub with_first : (x : Option Cell) (last : ℕ) → option_map (λ (c : Cell). c.last) x ≡ Some last → (first : ℕ) × (line : ℕ) × (option_map range_and_line x ≡ Some (first, last, line))
with_first None last e = (0, 0, ap (option_map {U = ℕ × ℕ × ℕ} (λ (l : ℕ). (0, l, 0))) e)
with_first (Some c) last e = (c.first, c.line, ap (option_map {U = ℕ × ℕ × ℕ} (λ (l : ℕ). (c.first, l, c.line))) e)
