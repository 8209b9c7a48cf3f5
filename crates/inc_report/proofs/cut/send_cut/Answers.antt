use Rattle.std.proofs.Common.{◌≡◌, ℕ, ◌<◌, ◌≤◌, List, length, get_or, sym, ap, subst, ◌∙◌, arith}
use Rattle.std.specs.List.{All}
use Rattle.std.proofs.lemmas.List.{take_all}
use Rattle.std.proofs.lemmas.Option.{get_or_from_slice_get}
use Rattle.inc_graph.specs.Cuts.{Counted}
use Rattle.inc_check.specs.Certificates.{chain_marks}
use Rattle.inc_check.specs.Texts.{lines_text, chain_lines}
use Rattle.inc_answers.specs.Fitting.{is_fit_chain}
use Rattle.inc_answers.specs.Sending.{Sends}
use Rattle.inc_answers.proofs.CutLemmas.{certificate_sent, chain_at, chain_is}
use Rattle.inc_answers.proofs.FitLemmas.{fit_more}
use Rattle.inc_answers.proofs.SendingLemmas.{sends_then}
use Rattle.inc_answers.proofs.WhyLemmas.{flat_map-more}
use Rattle.inc_report.proofs.cut.send_cut.Goals as goal

pub send_counted-requires-clause-edges : goal.send_counted-requires-clause-edges
send_counted-requires-clause-edges g c =
    let chains = c.args.chains.now in
    let i = c.loop-index.index in
    let low : i < length chains = omega (arith, c.loop-index-test.true, c.len-index-end.ensures) in
    let x = chain_at chains i low in
    let P : Counted → Type 0 = λ k. All (λ (j : ℕ). j < length c.args.graph.now.edges) k.chain in
    let Q : List ℕ → Type 0 = λ es. All (λ (j : ℕ). j < length c.args.graph.now.edges) es in
    subst Q (sym (c.edges.ensures x.0 x.1)) (subst P (get_or_from_slice_get chains i x.0 x.0 x.1) (c.requires.chains i x.0 low))

pub loop-index-preserved : goal.loop-index-preserved
loop-index-preserved g c =
    let layout = c.args.project.now in
    let graph = c.args.graph.now in
    let chains = c.args.chains.now in
    let i = c.loop-index.index in
    let low : i < length chains = omega (arith, c.loop-index-test.true, c.len-index-end.ensures) in
    let x = chain_at chains i low in
    let there : x.0 ≡ get_or chains i x.0 = sym (get_or_from_slice_get chains i x.0 x.0 x.1) in
    let same = chain_is c.edges.result.now c.count.result x.0 (c.edges.ensures x.0 x.1) (c.count.ensures x.0 x.1) in
    let P : Counted → Type 0 = λ k.
    Sends c.loop-index.out c.send_counted.new.out
    (lines_text (chain_lines (chain_marks layout graph k))) in
    let sent = subst P same c.send_counted.ensures.sent in
    let more = flat_map-more (λ (k : Counted). lines_text (chain_lines (chain_marks layout graph k))) chains i x.0 low there in
    let so_far = c.loop-index.invariant in
    let fit = fit_more is_fit_chain (chain_marks layout graph) chains i x.0 low there so_far.1
    (ap (λ (k : Counted). is_fit_chain (chain_marks layout graph k)) (sym same) ∙ c.send_counted.ensures.fit) in
    (rw more (sends_then _ _ _ _ _ so_far.0 sent), fit)

pub returns-clause-sent : goal.returns-clause-sent
returns-clause-sent g c =
    let chains = c.args.chains.now in
    let done : length chains ≤ c.loop-index.index = omega (arith, c.loop-index-test.false, c.len-index-end.ensures) in
    let all = rw (take_all c.loop-index.index chains done) at c.loop-index.invariant.0 in
    rw (certificate_sent c.args.project.now c.args.graph.now c.args.cut.now chains, ← c.len.ensures)
    (sends_then _ _ _ _ _ c.send_list.ensures.sent (sends_then _ _ _ _ _ c.send_count_line.ensures all))

pub returns-clause-fit : goal.returns-clause-fit
returns-clause-fit g c =
    let chains = c.args.chains.now in
    let done : length chains ≤ c.loop-index.index = omega (arith, c.loop-index-test.false, c.len-index-end.ensures) in
    rw (take_all c.loop-index.index chains done) at c.loop-index.invariant.1
