use Rattle.ioa_value.specs.Shapes.{shape}
use Rattle.ioa_tree.specs.View.{type_declaration_of}
use Rattle.ioa_rules.proofs.TypeLemmas.{next, next_named}
use Rattle.ioa_rules.proofs.types.with_declared.Goals as goal

pub width-requires : goal.width-requires
width-requires c = (next c.args.types (type_declaration_of c.args.declared.now) (shape c.in_ok-form.form) c.requires c.in_ok-form.ensures.says
    c.in_ok-form.ensures.shape).stands

pub push-requires : goal.push-requires
push-requires c =
    let d = type_declaration_of c.args.declared.now in
    let n = next c.args.types d (shape c.in_ok-form.form) c.requires c.in_ok-form.ensures.says c.in_ok-form.ensures.shape in
    next_named c.args.types d (shape c.in_ok-form.form) _ c.width.result c.in_ok-name.ensures.cases n c.width.ensures c.if-width.false
