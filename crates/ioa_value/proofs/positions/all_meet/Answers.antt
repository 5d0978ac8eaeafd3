use Rattle.std.proofs.Common.{map}
use Rattle.std.proofs.lemmas.List.{length-map}
use Rattle.ioa_value.specs.Positions.{domain_of}
use Rattle.ioa_value.proofs.PositionLemmas.{uneven_meet}
use Rattle.ioa_value.proofs.positions.all_meet.Goals as goal

pub returns-then-a-b : goal.returns-then-a-b
returns-then-a-b c =
    uneven_meet c.args.types.now (map domain_of c.args.a.now) (map domain_of c.args.b.now) (λ e. c.if-a-b.true (simp length-map at e))
