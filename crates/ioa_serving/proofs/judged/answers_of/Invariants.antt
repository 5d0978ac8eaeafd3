use Rattle.std.proofs.Common.{◌≡◌, map, option_map, take}
use Rattle.ioa_system.specs.Logs.{logged}
use Rattle.ioa_system.specs.Outcomes.{ending_of}
use Rattle.ioa_serving.specs.SeedRuns.{table_answer}
use Rattle.ioa_serving.proofs.judged.answers_of.Given as goal

-- the answers of the first ones
abbrev pub invariant-loop-specification : goal.invariant-loop-specification
invariant-loop-specification l = map (option_map ending_of) l.answers.items ≡ map (table_answer (logged l.log)) (take l.specification-index l.specifications)
