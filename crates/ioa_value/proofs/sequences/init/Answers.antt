use Rattle.std.proofs.Common.{ap, ◌∙◌}
use Rattle.ioa_value.specs.Operators.{gives}
use Rattle.ioa_value.proofs.PlainLemmas.{plain-Items}
use Rattle.ioa_value.proofs.SequenceLemmas.{init_given}
use Rattle.ioa_value.proofs.sequences.init.Goals as goal

pub returns-in-Some : goal.returns-in-Some
returns-in-Some c =
    ap gives (plain-Items c.args.ty c.pop.new.self) ∙ init_given c.args.ty.0 c.args.items.items c.pop.new.self.items c.in-Some.field-0 c.in-Some.ensures.items
