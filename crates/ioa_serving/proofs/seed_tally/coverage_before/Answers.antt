use Rattle.std.specs.Option.{option_copied}
use Rattle.ioa_serving.proofs.SeedsCovered.{none_before, some_before}
use Rattle.ioa_serving.proofs.seed_tally.coverage_before.Goals as goal

pub returns-then-not-covers : goal.returns-then-not-covers
returns-then-not-covers c = none_before c.args.program.now (option_copied c.args.source) c.args.covers c.if-not-covers.true

pub returns : goal.returns
returns c = some_before c.args.program.now (option_copied c.args.source) c.args.covers c.in_ok-coverage.coverage c.if-not-covers.false c.in_ok-coverage.ensures
