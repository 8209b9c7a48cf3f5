use Rattle.std.proofs.Common.{ℕ, Bool, List, ap, ◌∙◌}
use Rattle.std.proofs.Math.Path.{fun_ext}
use Rattle.inc_token.specs.LineWalk.{lines_or_none}
use Rattle.inc_token.specs.TokenLines.{TokenLine}
use Rattle.inc_directive.specs.Groups.{file_lines}
use Rattle.inc_directive.specs.Parts.{lines_of_parts, parts_from}
use Rattle.inc_directive.specs.Removal.{is_among, with_removed}
use Rattle.inc_directive.proofs.PartFiles.{lines-parts}
use Rattle.inc_directive.proofs.file_lines.FileLines.new.Goals as goal

pub returns-clause-lines : goal.returns-clause-lines
returns-clause-lines c =
    let found = c.in_ok-parts.ensures.lines in
    let parts = c.in_ok-parts.parts.items in
    let language = c.args.language in (
      found.0,
      found.1.whole,
      ap (λ (ls : List TokenLine). lines_of_parts (parts_from language 0 parts ls)) (ap lines_or_none found.1.whole)
          ∙ lines-parts language c.args.text 0 parts found.0 found.1.lines.kept ∙ ap (file_lines language) (found.1.removals ∙ ap (λ (lines : List ℕ). with_removed language (is_among lines) found.0) c.deref.ensures.value
          ∙ ap (λ (removed : ℕ → Bool). with_removed language removed found.0) (fun_ext c.in_ok-removed.ensures.same)),
    )
