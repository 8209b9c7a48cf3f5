-- The texts of changed files.
use Rattle.std.specs.Prelude.{ℕ, List}
use Rattle.inc_answers.specs.BlankText.{files_text}
use Rattle.inc_answers.specs.Changes.{Change}
use Rattle.inc_answers.specs.PatchText.{patch_text}
use Rattle.inc_report.specs.declared.edits.Form.{Form}
use Rattle.inc_report.specs.declared.edits.Form.TheVariants.{Files, Patch}

-- the text in a form
abbrev pub text_in : Form → List Change → List ℕ
text_in Files cs = files_text cs
text_in Patch cs = patch_text cs
