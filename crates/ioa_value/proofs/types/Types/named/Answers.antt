use Rattle.std.proofs.Common.{◌≡◌, rules}
use Rattle.std.specs.Option.{option_map}
use Rattle.ioa_value.specs.Plain.{number}
use Rattle.ioa_value.specs.Table.{type_named}
use Rattle.ioa_value.proofs.NamedLemmas.{type_within}
use Rattle.ioa_value.proofs.types.Types.named.Goals as goal

pub returns-clause-within : goal.returns-clause-within
returns-clause-within c =
    let e : option_map number c.copied.result ≡ type_named c.args.self.now c.args.name.now = search rules in
    type_within c.args.self.now c.args.name.now c.copied.result e
