use Rattle.inc_directive.specs.Removal.{is_among}
use Rattle.std.proofs.Common.{◌≡◌, ◌&&◌, false, [], Option, IfSome, unwrap_or, ap, sym, refl, ◌∙◌, subst}
use Rattle.inc_text.specs.PhaseText.{bytes_of}
use Rattle.inc_token.specs.LineWalk.{IsPrefixIn, line_in}
use Rattle.inc_token.specs.declared.lines.fronts.Prefix.{Prefix as PrefixValue}
use Rattle.inc_directive.specs.LineKinds.{LineKind}
use Rattle.inc_directive.specs.Parts.{IsTagOf, is_include_tag, name_of}
use Rattle.inc_directive.proofs.SplitParts.{included_line, plain_line, removed_line, short_operand}
use Rattle.inc_directive.proofs.file_lines.part_of.Goals as goal
use Rattle.inc_directive.proofs.file_lines.part_of.Goals.{else-is_include-via-then-is_include+else-is_among, else-is_include-via-else-is_include}

pub returns-then-not-is_removable-clause-part : goal.returns-then-not-is_removable-clause-part
returns-then-not-is_removable-clause-part c = λ l h.
    let is = subst (λ (k : LineKind). IsTagOf k c.tag_of-tag.result (unwrap_or (name_of k) [])) c.prefix_kind.ensures c.tag_of-tag.ensures in
    plain_line c.args.language c.args.walk.now.text (is_among c.args.removed.now) l c.args.line h c.in-Some.prefix c.in-Some.is c.tag_of-tag.result is _ refl refl
    (sym c.is_removable.ensures ∙ c.if-not-is_removable.true)

pub returns-then-is_among-clause-part : goal.returns-then-is_among-clause-part
returns-then-is_among-clause-part c = λ l h.
    let removed = is_among c.args.removed.now in
    let is = subst (λ (k : LineKind). IsTagOf k c.tag_of-tag.result (unwrap_or (name_of k) [])) c.prefix_kind.ensures c.tag_of-tag.ensures in
    removed_line c.args.language c.args.walk.now.text removed l c.args.line h c.in-Some.prefix c.in-Some.is c.tag_of-tag.result is _ refl refl
    (sym c.is_include.ensures ∙ c.if-is_include.true) (ap removed (sym c.line_of-line.ensures.line) ∙ sym c.is_among.ensures ∙ c.if-is_among.true)

pub name_place-at-requires : goal.name_place-at-requires
name_place-at-requires c =
    let places = subst (λ (o : Option PrefixValue). IfSome o (IsPrefixIn c.args.walk.now.text)) c.in-Some.is c.requires.places in
    short_operand c.args.walk.now.text c.in-Some.prefix places c.requires.short

pub returns-clause-part : goal.returns-clause-part
returns-clause-part c = λ l h.
    let removed = is_among c.args.removed.now in
    let cells = c.args.walk.now.text in
    let t = c.tag_of-tag.result in
    let q = c.in-Some.prefix in
    let is = subst (λ (k : LineKind). IsTagOf k t (unwrap_or (name_of k) [])) c.prefix_kind.ensures c.tag_of-tag.ensures in
    let places = subst (λ (o : Option PrefixValue). IfSome o (IsPrefixIn cells)) c.in-Some.is c.requires.places in
    let line = c.line_of-line.ensures.line in
    let stays : is_include_tag t && removed (line_in cells q.hash) ≡ false =
    elim c.else-is_include.branch [
      | else-is_include-via-then-is_include+else-is_among w ↦
          ap (λ x. x && removed (line_in cells q.hash)) (sym c.is_include.ensures ∙ w.if-is_include.true) ∙ ap removed (sym line) ∙ sym w.is_among.ensures ∙ w.if-is_among.false
      | else-is_include-via-else-is_include w ↦ ap (λ x. x && removed (line_in cells q.hash)) (sym c.is_include.ensures ∙ w.if-is_include.false)
    ] in
    included_line c.args.language cells removed l c.args.line h q c.in-Some.is t is _ _ refl refl (sym c.is_removable.ensures ∙ c.if-not-is_removable.false) stays line
    (c.name_place-at.ensures (bytes_of cells) places.operand)
