use Rattle.std.proofs.Common.{◌||◌, is_some, sym, ap, ◌∙◌}
use Rattle.ioa_value.specs.Plain.{number}
use Rattle.ioa_value.specs.Shapes.{place}
use Rattle.ioa_value.specs.Table.{type_named, constant_named}
use Rattle.ioa_compile.proofs.Given.{found, is_given}
use Rattle.ioa_compile.proofs.named.is_given.Goals as goal

pub returns-then-is_some-clause-given : goal.returns-then-is_some-clause-given
returns-then-is_some-clause-given c =
    let types = c.args.types.now in
    let x = c.args.name.now in
    c.if-is_some.true ∙ ap (λ b. b || is_some (constant_named types x)) (sym (found number c.named.result (type_named types x) c.named.ensures.place ∙ sym c.is_some.ensures ∙ c.if-is_some.true))
    ∙ is_given types x

pub returns-else-is_some-clause-given : goal.returns-else-is_some-clause-given
returns-else-is_some-clause-given c =
    let types = c.args.types.now in
    let x = c.args.name.now in
    c.is_some-else-is_some.ensures ∙ sym (found place c.constant.result (constant_named types x) c.constant.ensures.place)
    ∙ ap (λ b. b || is_some (constant_named types x)) (sym (found number c.named.result (type_named types x) c.named.ensures.place ∙ sym c.is_some.ensures ∙ c.if-is_some.false))
    ∙ is_given types x
