use Rattle.std.proofs.Common.{map}
use Rattle.std.proofs.lemmas.List.{length-map}
use Rattle.ioa_value.specs.Plain.{plain}
use Rattle.ioa_value.specs.Positions.{domain_of}
use Rattle.ioa_value.proofs.PositionLemmas.{uneven_take}
use Rattle.ioa_value.proofs.positions.all_take.Goals as goal

pub returns-then-positions-values : goal.returns-then-positions-values
returns-then-positions-values c =
    uneven_take c.args.types.now (map domain_of c.args.positions.now) (map plain c.args.values.now) (λ e. c.if-positions-values.true (simp length-map at e))
