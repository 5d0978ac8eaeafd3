use Rattle.std.proofs.Common.{arith}
use Rattle.std.proofs.lemmas.Map.Text.{text_keys}
use Rattle.ioa_value.proofs.declarations.add_name.Goals as goal

pub returns : goal.returns
returns c = λ x. grind (arith, text_keys)
