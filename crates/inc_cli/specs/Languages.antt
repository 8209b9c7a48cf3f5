-- The language of the files, of which flags of the command line may ask for one.
use Rattle.std.specs.Prelude.{Result, Ok, Err, if◌then◌else◌}
use Rattle.inc_text.specs.declared.languages.Language.{Language}
use Rattle.inc_text.specs.declared.languages.Language.TheVariants.{C17, Extended, Gnu}
use Rattle.inc_args.specs.Meaning.{Languages}
use Rattle.inc_inputs.specs.Reports.{Report, two_languages}

abbrev pub language_of : Languages → Result Language Report
language_of l = if l.is_extended then (if l.is_gnu then Err two_languages else Ok Extended) else if l.is_gnu then Ok Gnu else Ok C17
