use Rattle.std.proofs.Common.{map}
use Rattle.ioa_value.specs.Plain.{plain}
use Rattle.ioa_value.proofs.ActionLemmas.{after_open, only_after_open}
use Rattle.ioa_value.proofs.reading.read_arguments.Goals as goal

pub returns-in-Some-clause-read : goal.returns-in-Some-clause-read
returns-in-Some-clause-read c =
    after_open c.args.types.now c.args.text.now c.in-Some.inner.now (map plain c.read_values.new.vals.items) c.read_values.result c.in-Some.ensures.found c.read_values.ensures.read

pub returns-in-Some-clause-only : goal.returns-in-Some-clause-only
returns-in-Some-clause-only c =
    only_after_open c.args.types.now c.args.text.now c.in-Some.inner.now (map plain c.read_values.new.vals.items) c.read_values.result c.in-Some.ensures.found c.read_values.ensures.only
