use Rattle.std.proofs.Common.{◌≡◌, rules}
use Rattle.std.specs.Option.{option_map}
use Rattle.ioa_value.specs.Plain.{number}
use Rattle.ioa_value.specs.Table.{type_named, AreTypes}
use Rattle.ioa_value.proofs.NamedLemmas.{type_within, no_type_spelled}
use Rattle.ioa_value.proofs.types.Types.spelled.Goals as goal

pub returns-in-Ok-clause-within : goal.returns-in-Ok-clause-within
returns-in-Ok-clause-within c =
    let e : option_map number c.copied.result ≡ type_named c.args.self.now c.args.word.now = search rules in
    type_within c.args.self.now c.args.word.now c.copied.result e

pub returns-in-Err-clause-place : goal.returns-in-Err-clause-place
returns-in-Err-clause-place c =
    let t : AreTypes c.args.self.now = search rules in
    no_type_spelled c.args.self.now t c.args.word.now c.in-Err.ensures.cases.0
