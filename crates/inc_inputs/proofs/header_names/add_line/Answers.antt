use Rattle.std.proofs.Common.{◌≡◌, ◌∙◌, ℕ, List, [], ◌∷◌, ◌++◌, ap, ap₂, codes}
use Rattle.std.proofs.lemmas.List.{append_assoc}
use Rattle.inc_inputs.proofs.header_names.add_line.Goals as goal

-- texts that are added one after the other
joined : (n a w b p q : List ℕ) → ((((n ++ a) ++ w) ++ b) ++ p) ++ q ≡ n ++ (a ++ (((w ++ b) ++ p) ++ q))
joined n a w b p q =
    ap (λ (l : List ℕ). l ++ q) (ap (λ (l : List ℕ). l ++ p) (append_assoc (n ++ a) w b) ∙ append_assoc (n ++ a) (w ++ b) p)
    ∙ append_assoc (n ++ a) ((w ++ b) ++ p) q ∙ append_assoc n a (((w ++ b) ++ p) ++ q)

pub returns : goal.returns
returns c =
    let one = c.in_ok-extend_from_slice.ensures.items in
    let two = c.in_ok-extend_from_slice-2.ensures.items ∙ ap₂ (λ (l m : List ℕ). l ++ m) one c.as_bytes.ensures.value in
    let three = c.in_ok-extend_from_slice-3.ensures.items ∙ ap (λ (l : List ℕ). l ++ codes " is ") two in
    let four = c.in_ok-extend_from_slice-4.ensures.items ∙ ap (λ (l : List ℕ). l ++ c.args.path.now) three in
    c.in_ok-push.ensures.items ∙ ap (λ (l : List ℕ). l ++ 10 ∷ []) four
    ∙ joined c.args.notes.now.items (codes "incut: note: ") c.args.word.now (codes " is ") c.args.path.now (10 ∷ [])
