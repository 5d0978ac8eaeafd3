use Rattle.std.proofs.Common.{map, length, sym, ap, ◌∙◌, ◌++◌}
use Rattle.std.proofs.lemmas.List.{length-map}
use Rattle.ioa_value.specs.Plain.{plain}
use Rattle.ioa_tree.specs.View.{name_of, automaton_of, variable_of}
use Rattle.ioa_compose.specs.Bindings.{crash_in}
use Rattle.ioa_crash.specs.Rewriting.{added_arguments}
use Rattle.ioa_compose.proofs.StartLemmas.{member-made}
use Rattle.ioa_compose.proofs.starts.member.Goals as goal

pub returns-clause-value : goal.returns-clause-value
returns-clause-value c =
    let b = c.args.binding in
    let a = automaton_of b.automaton.now in
    let given = map plain b.arguments.items in
    let starts = map plain c.args.starts.items in
    member-made c.args.types.now (name_of b.name.now) a given starts (crash_in b) _ c.in_ok-share.field-0 c.len.result (automaton_of b.own)
    (map plain c.in_ok-arguments.arguments.items) (map plain c.in_ok-own_starts.field-0.items)
    (c.in_ok-from_str.ensures.ok ∙ c.as_str.ensures.value) c.in_ok-share.ensures.same (c.len.ensures ∙ sym c.deref.ensures.len ∙ ap length c.deref.ensures.value ∙ sym (length-map b.automaton.now.variables.items variable_of))
    c.requires.own
    (c.in_ok-arguments.ensures ∙ ap (λ us. given ++ added_arguments (crash_in b) (map variable_of us) (map plain c.deref-2.result.now)) c.deref.ensures.value
    ∙ ap (λ us. given ++ added_arguments (crash_in b) a.variables (map plain us)) c.deref-2.ensures.value)
    c.in_ok-own_starts.ensures
