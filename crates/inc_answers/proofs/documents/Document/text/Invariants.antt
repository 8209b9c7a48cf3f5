use Rattle.std.proofs.Common.{◌≡◌, map, take}
use Rattle.inc_answers.specs.DirectiveNames.{kept_name}
use Rattle.inc_answers.specs.Documents.{document_text, seen_block}
use Rattle.inc_answers.proofs.documents.Document.text.Given as goal

-- the text of those so far, by the same names
abbrev pub invariant-loop-block : goal.invariant-loop-block
invariant-loop-block l = record {
  text : l.text.items ≡ document_text (kept_name l.fn.language l.files) l.project (map seen_block (take l.block-index l.block-items));
  same : l.names ≡ record { kept = l.files; language = l.fn.language };
}
