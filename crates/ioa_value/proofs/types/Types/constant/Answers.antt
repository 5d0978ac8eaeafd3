use Rattle.std.proofs.Common.{◌≡◌, rules}
use Rattle.std.specs.Option.{option_map}
use Rattle.ioa_value.specs.Table.{constant_named, AreTypes}
use Rattle.ioa_value.specs.Shapes.{place}
use Rattle.ioa_value.proofs.NamedLemmas.{constant_within}
use Rattle.ioa_value.proofs.types.Types.constant.Goals as goal

pub returns-clause-within : goal.returns-clause-within
returns-clause-within c =
    let e : option_map place c.copied.result ≡ constant_named c.args.self.now c.args.name.now = search rules in
    let t : AreTypes c.args.self.now = search rules in
    constant_within c.args.self.now t c.args.name.now c.copied.result e
