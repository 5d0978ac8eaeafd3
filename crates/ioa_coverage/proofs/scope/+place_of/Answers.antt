use Rattle.std.proofs.Common.{◌+◌, ◌<◌, rules}
use Rattle.ioa_coverage.proofs.Bound.{next_fits}
use Rattle.ioa_coverage.proofs.scope.+place_of.Goals as goal

pub overflow_add-result : goal.overflow_add-result
overflow_add-result t c =
    let lt : c.in-Some.place + 1 < 18446744073709551616 = next_fits c.args.scope.now c.args.name.now c.in-Some.place c.in-len1-up.len_at_least c.well_formed.0.0 c.in-Some.ensures in
    search rules
