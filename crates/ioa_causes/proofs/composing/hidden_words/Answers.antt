use Rattle.std.proofs.Common.{◌≡◌, Some, inl, string_bytes, subst, sym}
use Rattle.ioa_causes.specs.Entries.{named}
use Rattle.ioa_causes.specs.Composing.{TellsHidden, TellsNoOutput}
use Rattle.ioa_causes.proofs.Found.{if_ok, if_some}
use Rattle.ioa_causes.proofs.composing.hidden_words.Goals as goal

-- the entry is this component's
pub returns-in-loop-component : goal.returns-in-loop-component
returns-in-loop-component c =
    let ts = c.args.tokens.now in
    let n = c.in-Some.instance.now in
    let a = c.in-Some.automaton.now in
    let e = c.in-Some-entry_named.entry.now in
    if_ok _ _ c.no_output_words.result
    (λ found. if_some (λ words. TellsNoOutput ts n e c.args.name.now (string_bytes words))
    (λ words. TellsHidden ts c.args.declarations.now c.args.assembly.now c.args.name.now (string_bytes words)) found
    (λ words tells. inl (c.loop-component.component, n, a, e, c.in-Some.ensures, subst (λ es. named c.args.name.now es ≡ Some e) c.deref.ensures.value (sym c.in-Some-entry_named.ensures), tells)))
    c.no_output_words.ensures
