use Rattle.ioa_system.proofs.PrintedBytes as printed
use Rattle.ioa_picture.proofs.laws.labels_need_no_escape.Goals as goal

pub returns-clause-names : goal.returns-clause-names
returns-clause-names c = printed.name_printed

pub returns-clause-actions : goal.returns-clause-actions
returns-clause-actions c = λ types a declared legal. printed.action_printed types declared a legal

pub returns-clause-ends : goal.returns-clause-ends
returns-clause-ends c = printed.ending_printed
