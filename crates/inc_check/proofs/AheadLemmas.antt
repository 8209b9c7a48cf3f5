-- What is read of a source, and what holds of all of its bytes.
use Rattle.std.proofs.Common.{◌≡◌, ℕ, ◌<◌, ◌≤◌, true, false, List, [], ◌++◌, Option, Some, None, length, take, ◌⊎◌, inl, inr, sym, ap, subst, ◌∙◌, arith}
use Rattle.std.specs.Prelude.{nat_lt}
use Rattle.std.specs.Io.KnownBytes.{Consumes, IsAtEnd}
use Rattle.std.proofs.KnownBytes.{Consumes-nil, Consumes-trans}
use Rattle.std.proofs.lemmas.Bool.{cases_Bool, ltb-true, ltb-false}
use Rattle.std.proofs.lemmas.List.{append-nil, append_assoc, length-append, length-take-le}
use Rattle.inc_check.specs.Ahead.{IsReadOn, IsEnough}
use Rattle.inc_check.specs.declared.ahead.TheConstants.{PIECE_LEN}
use Rattle.inc_check.specs.Reading.{State}
use Rattle.inc_check.specs.Texts.{OfBytes, lines_text}
use Rattle.inc_check.proofs.CertificateTexts.{HasRead}

pub none_read : (left : Option (List ℕ)) (held : List ℕ) → IsReadOn left left held held
none_read left held = ([], sym (append-nil held), Consumes-nil left)

pub read_twice : (a b c : Option (List ℕ)) (x y z : List ℕ) → IsReadOn a b x y → IsReadOn b c y z → IsReadOn a c x z
read_twice a b c x y z p q =
    (p.0 ++ q.0, q.1 ∙ ap (λ t. t ++ q.0) p.1 ∙ append_assoc x p.0 q.0, Consumes-trans a b c p.0 q.0 p.2 q.2)

-- a piece is longer than a line
pub enough : (left : Option (List ℕ)) (held room now : List ℕ) (count : ℕ) → length room ≡ PIECE_LEN
    → count ≤ length room → (count < length room → IsAtEnd left) → now ≡ held ++ take count room → IsEnough left now
enough left held room now count whole within end is = when (cases_Bool (nat_lt count (length room)))
  where
    when : (nat_lt count (length room) ≡ true) ⊎ (nat_lt count (length room) ≡ false) → IsEnough left now
    when (inl low) = inl (end (ltb-true count (length room) low))
    when (inr high) =
        let all = ltb-false count (length room) high in
        let size = ap length is ∙ length-append held (take count room) in
        let piece = length-take-le count room within in
        inr (omega arith)

-- where nothing is held the source has ended
pub ended_empty : (left : Option (List ℕ)) (held : List ℕ) → IsEnough left held → held ≡ [] → IsAtEnd left
ended_empty left held (inl end) none = end
ended_empty left held (inr long) none = let size = ap length none in absurd (omega arith)

-- what holds whatever comes after the bytes that were read
pub of_front : (old new : Option (List ℕ)) (front : List ℕ) (P : List ℕ → Type 0) → Consumes old new front → ((more : List ℕ) → P (front ++ more)) → OfBytes old P
of_front None new front P read holds = (front ++ [], holds [])
of_front (Some xs) None front P read holds = absurd read
of_front (Some xs) (Some ys) front P read holds = subst P (sym read) (holds ys)

-- what holds of these bytes where no more come
pub of_whole : (old new : Option (List ℕ)) (front : List ℕ) (P : List ℕ → Type 0) → Consumes old new front → IsAtEnd new → P front → OfBytes old P
of_whole None new front P read end holds = (front, holds)
of_whole (Some xs) None front P read end holds = absurd read
of_whole (Some xs) (Some ys) front P read end holds = subst P (sym (read ∙ ap (λ t. front ++ t) end ∙ append-nil front)) holds

-- more of the text is read
pub has_read_more : (text : List ℕ) (s : State) (line : ℕ) (rest more : List ℕ) → HasRead text s line rest → HasRead (text ++ more) s line (rest ++ more)
has_read_more text s line rest more h = record {
  done = h.done;
  ran = h.ran;
  read = h.read;
  clean = h.clean;
  lines = ap (λ t. t ++ more) h.lines ∙ append_assoc (lines_text h.done) rest more;
  counted = h.counted;
}

-- a piece is read after the text, and held after what is left of it
pub read_piece : (a b c : Option (List ℕ)) (front held now : List ℕ) (s : State) (line : ℕ) → Consumes a b front → HasRead front s line held → IsReadOn b c held now
    → (text : List ℕ) × Consumes a c text × HasRead text s line now
read_piece a b c front held now s line before has on = (
  front ++ on.0,
  Consumes-trans a b c front on.0 before on.2,
  subst (HasRead (front ++ on.0) s line) (sym on.1) (has_read_more front s line held on.0 has),
)
