use Rattle.std.proofs.Common.{◌≡◌, ◌<◌, true, length, map, Option, Some, None, IfNone, is_some, Bor, sym, ap, ◌∙◌, arith}
use Rattle.std.specs.Prelude.{nat_lt}
use Rattle.std.proofs.lemmas.Bool.Decides.{nat_tests}
use Rattle.std.proofs.lemmas.List.{length-map}
use Rattle.ioa_value.specs.declared.value.Value.{Value}
use Rattle.ioa_value.specs.Plain.{plain}
use Rattle.ioa_tree.specs.View.{name_of, field_of}
use Rattle.ioa_tree.specs.Instances.{field_names}
use Rattle.ioa_value.proofs.PlaceLemmas.{place_below}
use Rattle.ioa_emit.proofs.scope.Scope.formal.Goals as goal

-- what is there is not missing
not_none : (o : Option (Bor Value)) (P : Type 0) → is_some o ≡ true → IfNone o P
not_none (Some v) P e = tt
not_none None P e = absurd (cc)

pub returns-in-Some-clause-missing : goal.returns-in-Some-clause-missing
returns-in-Some-clause-missing c =
    let i = c.in-Some.place in
    let names = field_names (map field_of c.self.inside.formals.now) in
    let values = c.self.inside.arguments.now in
    let below : i < length names = place_below names (name_of c.args.name.now) i (sym c.field_place.ensures ∙ c.in-Some.is) in
    let long : length names ≡ length (map plain values) = c.self.invariant.given in
    let within : i < length values = omega (arith, below, long, length-map values plain) in
    let there : nat_lt i (length values) ≡ true = grind (arith, nat_tests) in
    not_none c.get.result _ (c.get.ensures.lookup.0 ∙ there)
