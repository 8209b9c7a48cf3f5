-- How tokens are written, one more at a time.
use Rattle.std.proofs.Common.{◌≡◌, ℕ, suc, ◌+◌, Bool, true, false, List, [], ◌∷◌, cond, drop, length, take, refl, sym, ap, ◌∙◌, arith}
use Rattle.std.specs.Prelude.{◌==◌, ◌&&◌, bytes_eq}
use Rattle.std.specs.List.{prefix_len}
use Rattle.inc_token.specs.TokenLines.{Tok}
use Rattle.inc_inputs.specs.NamedPlaces.{are_written}
use Rattle.inc_inputs.specs.PlaceWords.{is_space, unspaced}

-- without white space nothing is taken away
pub unspaced_again : (text : List ℕ) → unspaced (unspaced text) ≡ unspaced text
unspaced_again [] = refl
unspaced_again (b ∷ bs) = by (is_space b) refl (unspaced_again bs)
  where
    by : (s : Bool) → is_space b ≡ s → unspaced (unspaced bs) ≡ unspaced bs
        → unspaced (drop (cond s (1 + prefix_len is_space bs) 0) (b ∷ bs)) ≡ drop (cond s (1 + prefix_len is_space bs) 0) (b ∷ bs)
    by true is rest =
        let one : 1 + prefix_len is_space bs ≡ suc (prefix_len is_space bs) = omega arith in
        let e : drop (1 + prefix_len is_space bs) (b ∷ bs) ≡ unspaced bs = ap (λ k. drop k (b ∷ bs)) one in
        ap unspaced e ∙ rest ∙ sym e
    by false is rest = ap (λ s. drop (cond s (1 + prefix_len is_space bs) 0) (b ∷ bs)) is

pub written_unspaced : (ts : List Tok) (name : List ℕ) → are_written ts (unspaced name) ≡ are_written ts name
written_unspaced [] name = ap (λ (n : List ℕ). length n == 0) (unspaced_again name)
written_unspaced (t ∷ ts) name =
    ap (λ (n : List ℕ). bytes_eq (take (length t.spelling) n) t.spelling && are_written ts (drop (length t.spelling) n)) (unspaced_again name)

module _ (t : Tok) (ts : List Tok) (left : List ℕ) (all : Bool) (clean : unspaced left ≡ left) (is : are_written (t ∷ ts) left ≡ all) where
  here : (bytes_eq (take (length t.spelling) left) t.spelling && are_written ts (drop (length t.spelling) left)) ≡ all
  here = ap (λ (n : List ℕ). bytes_eq (take (length t.spelling) n) t.spelling && are_written ts (drop (length t.spelling) n)) (sym clean) ∙ is

  -- the token is written there
  pub written_next : (rest : List ℕ) → bytes_eq (take (length t.spelling) left) t.spelling ≡ true → rest ≡ drop (length t.spelling) left → are_written ts (unspaced rest) ≡ all
  written_next rest yes' is_rest =
      written_unspaced ts rest ∙ ap (λ (n : List ℕ). are_written ts n) is_rest
      ∙ sym (ap (λ b. b && are_written ts (drop (length t.spelling) left)) yes') ∙ here

  -- or it is not
  pub written_not : bytes_eq (take (length t.spelling) left) t.spelling ≡ false → false ≡ all
  written_not no' = sym (ap (λ b. b && are_written ts (drop (length t.spelling) left)) no') ∙ here

-- no token is left
pub written_end : (left : List ℕ) (all : Bool) → unspaced left ≡ left → are_written [] left ≡ all → (length left == 0) ≡ all
written_end left all clean is = ap (λ (n : List ℕ). length n == 0) (sym clean) ∙ is
