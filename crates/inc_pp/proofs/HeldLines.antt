-- The lines of a file that is held: their kinds, and where its sections lead.
use Rattle.std.proofs.Common.{◌≡◌, ℕ, ◌+◌, suc, List, [], ◌∷◌, ◌++◌, Some, Ok, refl, sym, ap, ◌∙◌, subst, length, take, arith}
use Rattle.std.proofs.Math.Seq.{drop-append-add}
use Rattle.std.specs.Prelude.{slice_get, drop}
use Rattle.std.proofs.lemmas.List.Elements.{All-nil, All-cons}
use Rattle.inc_token.specs.TokenLines.{TokenLine}
use Rattle.inc_text.specs.declared.languages.Language.{Language}
use Rattle.inc_directive.specs.Groups.{FileLine, Group, Link, role, group_at, group_tree, file_lines, file_lines_from}
use Rattle.inc_directive.specs.Jumps.{IsPlanOf, Closes}
use Rattle.inc_directive.specs.Parts.{FilePart, lines_from, lines_of_parts}
use Rattle.inc_directive.specs.LineKinds.{line_kind}
use Rattle.inc_directive.specs.declared.kinds.Role.TheVariants.{IfGroup}
use Rattle.inc_pp.proofs.LineSteps.{around-line}
use Rattle.inc_pp.specs.HeldFiles.{IsPlanned}
use Rattle.inc_pp.specs.Stops.{AreOf}

-- the kinds of a file's lines are those of its language
kinds_from : (language : Language) (place : ℕ) (ls : List TokenLine) → AreOf language (file_lines_from language place ls)
kinds_from language place [] = All-nil (λ (l : FileLine). l.kind ≡ line_kind language l.tokens)
kinds_from language place (l ∷ ls) =
    All-cons (λ (l : FileLine). l.kind ≡ line_kind language l.tokens)
    (record { place = place; kind = line_kind language l.tokens; tokens = l.tokens; last_line = l.last_line })
    (file_lines_from language (place + 1) ls) refl (kinds_from language (place + 1) ls)

pub kinds_are : (language : Language) (ls : List TokenLine) (held : List FileLine) → held ≡ file_lines language ls → AreOf language held
kinds_are language ls held is = subst (AreOf language) (sym is) (kinds_from language 0 ls)

-- each section of a file's parts closes, as those of its lines do
pub planned :
    (closes : (lines : List FileLine) (tree : Group) → group_tree lines ≡ Ok tree → (i : ℕ) (l : FileLine) → slice_get lines i ≡ Some l
    → role l.kind ≡ IfGroup → Closes l (group_at (drop (suc i) lines)))
    (ps : List FilePart) (list : List Link) → IsPlanOf ps list → IsPlanned ps list
planned closes ps list plan = record {
  plan = plan;
  closes = λ i l at opens.
      let before : List FileLine = lines_of_parts (take i ps) in
      let rest : List FileLine = lines_from (suc i) ps in
      let whole : lines_of_parts ps ≡ before ++ l ∷ rest = around-line ps i (suc i) l at (omega arith) in
      let tree : group_tree (before ++ l ∷ rest) ≡ Ok plan.tree.0 = ap group_tree (sym whole) ∙ plan.tree.1 in
      let more : suc (length before) ≡ length before + 1 = omega arith in
      let past : drop (suc (length before)) (before ++ l ∷ rest) ≡ rest =
      ap (λ n. drop n (before ++ l ∷ rest)) more ∙ drop-append-add before (l ∷ rest) 1 in
      subst (λ ls. Closes l (group_at ls)) past (closes (before ++ l ∷ rest) plan.tree.0 tree (length before) l (found before rest l) opens);
}
  where
    found : (before rest : List FileLine) (l : FileLine) → slice_get (before ++ l ∷ rest) (length before) ≡ Some l
    found [] rest l = refl
    found (k ∷ before) rest l = found before rest l
