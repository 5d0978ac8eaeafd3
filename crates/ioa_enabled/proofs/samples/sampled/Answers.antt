use Rattle.std.proofs.Common.{◌≡◌, ◌∙◌, List, Some, ap, map, subst, rules}
use Rattle.std.specs.Option.{option_map}
use Rattle.std.specs.String.{string_bytes}
use Rattle.ioa_value.specs.Actions.{Act, Name, act_of}
use Rattle.ioa_value.specs.Plain.{Val, plain}
use Rattle.ioa_value.specs.Positions.{domain_of}
use Rattle.ioa_parts.specs.Proposals.{values_in}
use Rattle.ioa_compile.specs.Programs.{EntryCode}
use Rattle.ioa_compile.specs.Shown.{entry_code}
use Rattle.ioa_run.specs.Proposers.{action_with, filled}
use Rattle.ioa_enabled.specs.Sampled.{sampled}
use Rattle.ioa_enabled.proofs.Giving.{sampled_is}
use Rattle.ioa_enabled.proofs.samples.sampled.Goals as goal

pub returns-in_default-2 : goal.returns-in_default-2
returns-in_default-2 c =
    let e : EntryCode = entry_code c.args.entry.now in
    let s = c.args.state.now.values in
    subst (λ o. option_map (action_with e) (option_map values_in o) ≡ sampled e s c.args.word) c.in_default-2.is
    (sampled_is e c.in-Some.code s c.args.word (option_map values_in c.in_ok-values.field-0) c.in-Some.is c.in_ok-values.ensures.value)

pub returns : goal.returns
returns c =
    let e : EntryCode = entry_code c.args.entry.now in
    let s = c.args.state.now.values in
    let made : Name → List Val → Act = λ n vs. record { name = n; vals = vs } in
    let name : string_bytes c.in_ok-clone.field-0 ≡ string_bytes c.args.entry.now.name = search rules in
    let vals : map plain c.in_ok-fill.field-0.items ≡ filled (map domain_of c.args.entry.now.positions.items) (map plain c.in-Some-2.values.items) =
    c.in_ok-fill.ensures ∙ ap (λ ps. filled (map domain_of ps) (map plain c.in-Some-2.values.items)) c.deref.ensures.value in
    let action : act_of (record { name = c.in_ok-clone.field-0; vals = c.in_ok-fill.field-0 }) ≡ action_with e (values_in c.in-Some-2.values) =
    ap (λ n. made n (map plain c.in_ok-fill.field-0.items)) name ∙ ap (made (string_bytes c.args.entry.now.name)) vals in
    ap Some action
    ∙ subst (λ o. option_map (action_with e) (option_map values_in o) ≡ sampled e s c.args.word) c.in-Some-2.is
    (sampled_is e c.in-Some.code s c.args.word (option_map values_in c.in_ok-values.field-0) c.in-Some.is c.in_ok-values.ensures.value)
