use Rattle.std.proofs.Common.{◌≡◌, ◌≤◌, ℕ, List, take, ap, ◌∙◌, subst, sym, refl, rules}
use Rattle.std.specs.Bool.{IsTrue}
use Rattle.std.proofs.lemmas.List.{take-take}
use Rattle.inc_graph.specs.Marks.{Mark, is_mark}
use Rattle.inc_graph.specs.declared.marks.TheConstants.{SHORT_PATH}
use Rattle.inc_graph.proofs.marks.Mark.short_in_front.Goals as goal

same_mark : (len line : ℕ) (bytes text : List ℕ) → bytes ≡ take SHORT_PATH text → len ≤ SHORT_PATH
    → ◌≡◌ {A = Mark} (record { path = take len bytes; line = line }) (record { path = take len text; line = line })
same_mark len line bytes text is low = let same : take len bytes ≡ take len text = ap (take len) is ∙ take-take len SHORT_PATH text low in rw same refl

pub invariant_of-result : goal.invariant_of-result
invariant_of-result c =
    let same = same_mark c.args.len c.args.line c.first_bytes.result c.args.text.now c.first_bytes.ensures c.requires.short in
    (subst (λ m. IsTrue (is_mark m)) (sym same) (search rules), c.requires.short)

pub returns : goal.returns
returns c = same_mark c.args.len c.args.line c.first_bytes.result c.args.text.now c.first_bytes.ensures c.requires.short
