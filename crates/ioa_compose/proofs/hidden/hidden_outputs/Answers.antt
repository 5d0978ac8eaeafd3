use Rattle.std.proofs.Common.{◌≤◌, map, sym, ap, subst, ◌∙◌}
use Rattle.std.proofs.lemmas.List.{length-map, take_all}
use Rattle.std.specs.List.{list_all}
use Rattle.std.specs.String.{string_bytes}
use Rattle.ioa_value.specs.Actions.{Name}
use Rattle.ioa_tree.specs.View.{name_of}
use Rattle.ioa_tree.specs.Compositions.{is_output_of}
use Rattle.ioa_compose.specs.Bindings.{plain_in}
use Rattle.ioa_compose.specs.Refusals.{IsFirstUnknown}
use Rattle.ioa_clash.proofs.SearchLemmas.{one-more}
use Rattle.ioa_value.proofs.ItemLemmas.{at_map, map_push}
use Rattle.ioa_compose.proofs.hidden.hidden_outputs.Goals as goal

pub returns-then-not-is_output_of-clause-refused : goal.returns-then-not-is_output_of-clause-refused
returns-then-not-is_output_of-clause-refused c = λ types.
    subst (λ (x : Name). IsFirstUnknown (map (plain_in types) c.args.bindings.now) (map name_of c.args.hidden.now) x) (sym (c.in_ok-text.ensures.ok ∙ c.as_str.ensures.value)) (
      c.loop-name.name-index,
      at_map name_of c.args.hidden.now c.loop-name.name-index c.name-item.result c.loop-name-test.true c.name-item.is,
      sym (c.is_output_of.ensures types) ∙ c.if-not-is_output_of.true,
      c.loop-name.invariant.outputs types,
    )

pub loop-name-preserved : goal.loop-name-preserved
loop-name-preserved c = record {
  names = map_push string_bytes name_of c.loop-name.names.items _ c.in_ok-text.text c.args.hidden.now c.loop-name.name-index c.name-item.result c.loop-name-test.true c.name-item.is c.in_ok-push.ensures.items
      c.loop-name.invariant.names (c.in_ok-text.ensures.ok ∙ c.as_str.ensures.value);
  outputs = λ types. one-more (is_output_of (map (plain_in types) c.args.bindings.now)) (map name_of c.args.hidden.now) c.loop-name.name-index (name_of c.name-item.result)
      (at_map name_of c.args.hidden.now c.loop-name.name-index c.name-item.result c.loop-name-test.true c.name-item.is)
      (c.loop-name.invariant.outputs types) (sym (c.is_output_of.ensures types) ∙ c.if-not-is_output_of.false);
}

pub returns-clause-outputs : goal.returns-clause-outputs
returns-clause-outputs c = λ types.
    let whole = take_all c.loop-name.name-index (map name_of c.args.hidden.now) (subst (λ n. n ≤ c.loop-name.name-index) (sym (length-map c.args.hidden.now name_of)) c.loop-name-test.false) in
    sym (ap (list_all (is_output_of (map (plain_in types) c.args.bindings.now))) whole) ∙ c.loop-name.invariant.outputs types
