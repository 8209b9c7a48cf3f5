-- The forms in which `scan` prints the directives of a file.
use Rattle.std.specs.Prelude.{ℕ, List, [], ◌++◌, None, Result, Ok, Err, if◌then◌else◌, codes, decimal, filter, flat_map, map}
use Rattle.inc_text.specs.PhaseText.{phase_text, is_too_long}
use Rattle.inc_text.specs.declared.languages.Language.{Language}
use Rattle.inc_directive.specs.FileDirectives.{Directive, bad_line, file_directives}
use Rattle.inc_directive.specs.Parts.{is_inclusion}
use Rattle.inc_directive.specs.declared.files.FileFault.{FileFault}
use Rattle.inc_check.specs.Texts.{line_text}
use Rattle.inc_answers.specs.DirectiveNames.{written}
use Rattle.inc_answers.specs.FaultReasons.{bad_file_line}
use Rattle.inc_answers.specs.JsonDirectives.{directive_text}
use Rattle.inc_answers.specs.JsonRefusals.{mark_items, refusal_object}
use Rattle.inc_answers.specs.JsonTexts.{bytes_member, list_of}
use Rattle.inc_answers.specs.MissingNotes.{shown}
use Rattle.inc_answers.specs.Printed.{Printed, answered, refused_for}
use Rattle.inc_answers.specs.Refusals.{BadFile, Refusal, TooLong, refusal_text}
use Rattle.inc_answers.specs.ScanText.{scan_text}
use Rattle.inc_answers.specs.declared.scan.ScanForm.{ScanForm}
use Rattle.inc_answers.specs.declared.scan.ScanForm.TheVariants as form

-- a directive at its file and line, as it is written
abbrev pub place_line : (path : List ℕ) → Directive → List ℕ
place_line path d = line_text (shown path ++ codes ":" ++ decimal d.line ++ codes ": " ++ shown (written d.kind))

-- one after the other
abbrev pub place_lines : (path : List ℕ) → List Directive → List ℕ
place_lines path ds = flat_map (place_line path) ds

-- as an object, which says nothing of where it leads
abbrev pub directive_item : (path : List ℕ) → Directive → List ℕ
directive_item path d = directive_text d.kind d.line path None

abbrev pub directives_text : (path : List ℕ) → List Directive → List ℕ
directives_text path ds = list_of (map (directive_item path) ds)

-- an object on one line, with its keys in the order of their bytes
abbrev pub scan_json : (path : List ℕ) → List Directive → List ℕ
scan_json path ds =
    codes "{\"command\":\"scan\",\"directives\":" ++ directives_text path ds ++ codes ",\"format\":1," ++ bytes_member (codes "path") path
    ++ codes ",\"status\":0}\n"

-- the text for a file with these directives, of which those are printed that include
abbrev pub form_text : ScanForm → (path : List ℕ) → List Directive → List ℕ
form_text form.Text path ds = scan_text ds
form_text form.Gcc path ds = place_lines path (filter is_inclusion ds)
form_text form.Json path ds = scan_json path (filter is_inclusion ds)

abbrev pub refusal_form : ScanForm → Refusal → List ℕ
refusal_form form.Json r = refusal_object (codes "scan") r (mark_items r)
refusal_form _ r = refusal_text r

-- a file is refused where it has a fault: an unterminated comment, or conditionals that are not balanced
abbrev pub scan_result : ScanForm → (path title : List ℕ) → Result (List Directive) FileFault → Printed
scan_result form path title (Ok ds) = answered (form_text form path ds)
scan_result form path title (Err fault) =
    refused_for (bad_file_line title fault) (refusal_form form (BadFile (record { path = path; line = bad_line fault })))

-- one that is too long, without a reason beside it
abbrev pub too_long : ScanForm → Printed
too_long form = refused_for [] (refusal_form form TooLong)

-- what `scan` prints for a source, under a path that is only printed, and under what it is called beside it
abbrev pub scan : ScanForm → Language → (path title source : List ℕ) → Printed
scan form language path title source =
    if is_too_long source then too_long form else scan_result form path title (file_directives language (phase_text language source))
