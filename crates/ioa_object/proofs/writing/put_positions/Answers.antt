use Rattle.ioa_value.specs.Positions.{IsDomain, domain_of}
use Rattle.ioa_object.proofs.Written.{at_item}
use Rattle.ioa_object.proofs.writing.put_positions.Goals as goal

pub put_position-requires : goal.put_position-requires
put_position-requires c =
    let (types, are, domains) = c.requires.typed in
    (types, are, at_item (IsDomain types) domain_of c.args.positions.now c.loop-position.position-index c.position-item.result c.loop-position-test.true c.position-item.is domains)
