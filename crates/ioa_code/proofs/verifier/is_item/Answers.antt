use Rattle.std.proofs.Common.{◌≡◌, ◌==◌, Some, None, refl, sym, ap, ◌∙◌}
use Rattle.std.specs.Option.{option_map}
use Rattle.ioa_value.specs.Plain.{number}
use Rattle.ioa_value.specs.Table.{item_type}
use Rattle.ioa_code.proofs.Starting.{item_there, item_none, item_empty}
use Rattle.ioa_code.proofs.verifier.is_item.Goals as goal

pub returns-in-Some-item_type : goal.returns-in-Some-item_type
returns-in-Some-item_type c us h =
    let types = c.args.types.now in
    let some : item_type types c.in-Some.ty ≡ Some (number c.in-Some-item_type.found) = sym c.item_type.ensures ∙ ap (option_map number) c.in-Some-item_type.is in
    item_there types c.args.stacks.now.nodes c.args.list c.args.item (c.in-Some.field-0-0, c.in-Some.ty) (number c.in-Some-item_type.found) (number c.in-Some-item_type.found == c.args.item) (sym c.top.ensures.node ∙ c.in-Some.is) some refl us h

pub returns-in-None-item_type : goal.returns-in-None-item_type
returns-in-None-item_type c us h =
    let types = c.args.types.now in
    let none : item_type types c.in-Some.ty ≡ None = sym c.item_type.ensures ∙ ap (option_map number) c.in-None-item_type.is in
    item_none types c.args.stacks.now.nodes c.args.list c.args.item (c.in-Some.field-0-0, c.in-Some.ty) (sym c.top.ensures.node ∙ c.in-Some.is) none us h

pub returns-in-None : goal.returns-in-None
returns-in-None c us h = item_empty c.args.types.now c.args.stacks.now.nodes c.args.list c.args.item (sym c.top.ensures.node ∙ c.in-None.is) us h
