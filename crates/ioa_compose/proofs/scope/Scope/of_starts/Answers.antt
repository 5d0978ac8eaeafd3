use Rattle.std.proofs.Common.{map}
use Rattle.ioa_value.specs.Plain.{plain}
use Rattle.ioa_tree.specs.View.{field_of}
use Rattle.ioa_tree.proofs.Starts.{suits_of_fit}
use Rattle.ioa_compose.proofs.scope.Scope.of_starts.Goals as goal

pub returns-clause-suits : goal.returns-clause-suits
returns-clause-suits c = suits_of_fit c.args.types.now (map field_of c.args.formals.now) (map plain c.args.arguments.now) c.requires
