use Rattle.std.proofs.Common.{◌≡◌, ◌≤◌, Some, length, slice_get, option_map, arith, ap, refl, ◌∙◌, List, Option}
use Rattle.std.proofs.lemmas.Grind.{common_steps}
use Rattle.std.proofs.lemmas.Option.{slice_get_read}
use Rattle.inc_directive.specs.Groups.{Link, link_at}
use Rattle.inc_directive.specs.Plans.{link_by, links_from}
use Rattle.inc_directive.specs.declared.sections.Lead.{Lead}
use Rattle.inc_directive.proofs.PartPlans.{lead_at, lead_past}
use Rattle.inc_directive.proofs.sections.Plan.lead.Goals as goal

pub returns-in_err-get : goal.returns-in_err-get
returns-in_err-get c =
    let leads = c.deref.result.now in
    let past : length leads ≤ c.args.part = grind (arith, common_steps) in
    ap (option_map (link_by c.args.part)) c.from_residual.ensures
    ∙ lead_past leads 0 c.args.part c.args.part past (omega arith)
    ∙ ap (λ (ds : List (Option Lead)). link_at (links_from 0 ds) c.args.part) c.deref.ensures.value ∙ ap (λ (ks : List Link). link_at ks c.args.part) c.self.view_is

pub returns : goal.returns
returns c =
    let leads = c.deref.result.now in
    let d = c.in_ok-get.field-0.now in
    let read : slice_get leads c.args.part ≡ Some d = slice_get_read leads (length leads) c.args.part d refl (grind (arith, common_steps)) (grind (arith, common_steps)) in
    lead_at leads 0 c.args.part c.args.part d read (omega arith)
    ∙ ap (λ (ds : List (Option Lead)). link_at (links_from 0 ds) c.args.part) c.deref.ensures.value ∙ ap (λ (ks : List Link). link_at ks c.args.part) c.self.view_is
