use Rattle.std.proofs.Common.{Some, sym, ap, ◌∙◌}
use Rattle.std.specs.Option.{option_map}
use Rattle.ioa_value.specs.Plain.{number, items, plain_all}
use Rattle.ioa_value.proofs.PlainLemmas.{plain-Items}
use Rattle.ioa_value.specs.Table.{type_named}
use Rattle.ioa_tree.specs.View.{name_of}
use Rattle.ioa_compose.proofs.EvaluateLemmas.{empty_there}
use Rattle.ioa_compose.proofs.constants.empty.Goals as goal

pub returns : goal.returns
returns c =
    let types = c.args.types.now in
    let named = sym (ap (option_map number) (sym c.in-Some.is) ∙ c.named.ensures.place ∙ ap (λ x. type_named types x) c.as_str.ensures.value) in
    empty_there types (name_of c.args.name.now) c.in-Some.ty.0 named c.requires
    ∙ ap Some (sym (plain-Items c.in-Some.ty c.new.result ∙ ap (λ l. items c.in-Some.ty.0 (plain_all l)) c.new.ensures.items))
