-- The blanked files of a cut preprocess as the old ones do without its directives, and so the header is not read.
use Rattle.std.proofs.Common.{sym, ap, ◌∙◌}
use Rattle.inc_graph.specs.Settings.{listing_in}
use Rattle.inc_text.specs.declared.languages.Language.{Language}
use Rattle.inc_graph.specs.Cuts.{directives_of}
use Rattle.inc_pp.specs.BlankedProjects.{blanked_listing}
use Rattle.inc_pp.specs.Preprocessing.{preprocessing}
use Rattle.inc_pp.proofs.BlankedReadings.{blanking-some}
use Rattle.inc_report.specs.BlankedCuts.{BlankedCutKeepsHeadersOut}
use Rattle.inc_report.proofs.KeptOut.{answered_cut_keeps_headers_out}

pub blanked_cut_keeps_headers_out : BlankedCutKeepsHeadersOut
blanked_cut_keeps_headers_out setting listing sources headers g answer clear fixed set apart source header begins ends ws settings outcome same none is =
    let ds = directives_of g set in
    answered_cut_keeps_headers_out setting listing sources headers g answer clear fixed set apart source header begins ends ws settings outcome same none
    (sym (blanking-some (listing_in setting.others listing source.path) source.file ws settings ds setting.removed)
    ∙ ap (λ (l : Language). preprocessing (blanked_listing l (listing_in setting.others listing source.path) ds) source.file ws settings setting.removed) same
    ∙ is)
