use Rattle.std.specs.Option.{option_copied}
use Rattle.ioac.proofs.ToldObjects.{object_gives}
use Rattle.ioac.proofs.remarks.nameless.program_in.Goals as goal

pub returns-in-Ok : goal.returns-in-Ok
returns-in-Ok c = object_gives c.args.object.now (option_copied c.args.name) c.in-Ok.program c.requires c.in-Ok.ensures.gives
