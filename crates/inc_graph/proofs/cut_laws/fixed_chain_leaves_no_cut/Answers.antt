use Rattle.inc_graph.proofs.CertificateLemmas.{fixed_chain_leaves_no_cut}
use Rattle.inc_graph.proofs.cut_laws.fixed_chain_leaves_no_cut.Goals as goal

pub returns : goal.returns
returns c = fixed_chain_leaves_no_cut
