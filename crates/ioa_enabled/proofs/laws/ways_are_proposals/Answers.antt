use Rattle.ioa_enabled.proofs.Numbering.{proposals_are_ways, ways_are_proposals}
use Rattle.ioa_enabled.proofs.laws.ways_are_proposals.Goals as goal

pub returns-clause-ways : goal.returns-clause-ways
returns-clause-ways _ = proposals_are_ways

pub returns-clause-proposals : goal.returns-clause-proposals
returns-clause-proposals _ = ways_are_proposals
