use Rattle.ioa_rules.proofs.TupleLemmas.{made-counted}
use Rattle.ioa_rules.proofs.limits.+nodes.Goals as goal

pub nodes-returns-in-Make : goal.nodes-returns-in-Make
nodes-returns-in-Make t c = made-counted _ _ _ _ _ _ c.in-Make.is c.deref-in-Make.ensures.value c.nodes_of_all.ensures c.min-in-Make.ensures
