use Rattle.std.proofs.Common.{map}
use Rattle.ioa_value.specs.Table.{basic}
use Rattle.ioa_tree.specs.View.{declaration_of}
use Rattle.ioa_tree.specs.WellFormed.{declared_names}
use Rattle.ioa_rules.proofs.GlobalLemmas.{adds-fails, adds-say, all_declared, declared-append, declared-one}
use Rattle.ioa_rules.proofs.globals.global_names.Goals as goal

pub returns-in_err-add_declared-clause-distinct : goal.returns-in_err-add_declared-clause-distinct
returns-in_err-add_declared-clause-distinct c =
    let start = map (λ d. d.name) basic in
    let ds = c.args.declarations.now in
    adds-say c.from_residual-in_err-add_declared.result start (all_declared ds) c.loop-declaration.names c.from_residual-in_err-add_declared.ensures.0
    (adds-fails all_declared declared-append c.add_declared.result c.from_residual-in_err-add_declared.result _ start c.loop-declaration.names
    c.add_declared.new.names c.loop-declaration.names
    (declared_names (declaration_of c.declaration-item.result)) ds c.loop-declaration.declaration-index c.declaration-item.result
    c.loop-declaration-test.true c.declaration-item.is (declared-one c.declaration-item.result)
    c.loop-declaration.invariant c.in_err-add_declared.was c.from_residual-in_err-add_declared.ensures.1 c.add_declared.ensures)
