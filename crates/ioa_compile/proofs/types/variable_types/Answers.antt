use Rattle.std.proofs.Common.{◌<◌, length, map, IsTrue, sym, subst, refl, arith, ◌∙◌, ap}
use Rattle.std.specs.List.{list_all}
use Rattle.std.specs.Option.{option_map}
use Rattle.std.proofs.lemmas.Option.{slice_get-map, slice_get_read}
use Rattle.ioa_value.specs.Plain.{number}
use Rattle.ioa_tree.specs.View.{field_of, variable_of}
use Rattle.ioa_tree.specs.WellFormed.{is_type}
use Rattle.ioa_compile.specs.Matching.{IsTypeOf, AreTypesOf}
use Rattle.std.proofs.lemmas.Simd.{map-map}
use Rattle.ioa_value.proofs.ItemLemmas.{all_at}
use Rattle.ioa_compile.proofs.Paired.{paired_next, paired_all}
use Rattle.ioa_compile.proofs.types.variable_types.Goals as goal

pub type_of-requires : goal.type_of-requires
type_of-requires c =
    let xs = c.args.variables.now in
    let i = c.loop-variable.variable-index in
    let x = c.variable-item.result in
    let lt : i < length xs = omega arith in
    let all = subst (λ l. IsTrue (list_all (is_type c.args.types.now) l)) (map-map (λ v. v.field) variable_of xs) c.requires in
    all_at (is_type c.args.types.now) (map (λ v. field_of v.field) xs) i (field_of x.field) all
    (slice_get-map (λ v. field_of v.field) xs i ∙ ap (option_map (λ v. field_of v.field)) (slice_get_read xs (length xs) i x refl lt c.variable-item.is))

pub loop-variable-preserved : goal.loop-variable-preserved
loop-variable-preserved c =
    let xs = c.args.variables.now in
    paired_next (IsTypeOf c.args.types.now) (λ v. field_of v.field) number xs c.loop-variable.variable-index c.variable-item.result c.loop-variable.found.items c.push.new.self.items c.type_of.result (omega arith) c.variable-item.is c.in_ok-push.ensures.items c.type_of.ensures c.loop-variable.invariant

pub returns : goal.returns
returns c =
    let xs = c.args.variables.now in
    let all = paired_all (IsTypeOf c.args.types.now) (λ v. field_of v.field) xs c.loop-variable.variable-index (map number c.loop-variable.found.items) (omega arith) c.loop-variable.invariant in
    subst (λ l. AreTypesOf c.args.types.now l (map number c.loop-variable.found.items)) (sym (map-map (λ v. v.field) variable_of xs)) all
