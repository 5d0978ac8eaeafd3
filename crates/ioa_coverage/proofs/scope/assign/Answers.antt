use Rattle.std.proofs.Common.{◌≡◌, ◌∙◌, List, Some, ap, arith, refl, sym}
use Rattle.ioa_coverage.specs.declared.scope.Binding.{Binding}
use Rattle.ioa_coverage.specs.Known.{known, place_in}
use Rattle.ioa_coverage.proofs.Bound.{known_nowhere, place_within, renewed, renewed_names, same_name}
use Rattle.ioa_coverage.proofs.scope.assign.Goals as goal

pub index_mut-requires : goal.index_mut-requires
index_mut-requires c =
    let within = place_within c.deref.result.now c.args.name.now c.in-Some.place (sym c.in-Some.ensures) in
    omega (arith, within, c.deref.ensures.len)

pub unreachable-requires : goal.unreachable-requires
unreachable-requires c =
    c.requires (ap (λ (bs : List Binding). known bs c.args.name.now) (sym c.deref.ensures.value) ∙ known_nowhere c.deref.result.now c.args.name.now (sym c.in-None.ensures))

pub returns-clause-known : goal.returns-clause-known
returns-clause-known c =
    let bs = c.args.scope.now.items in
    let i = c.in-Some.place in
    let old = c.index_mut.result.now in
    let at : place_in bs c.args.name.now ≡ Some i = ap (λ (ds : List Binding). place_in ds c.args.name.now) (sym c.deref.ensures.value) ∙ sym c.in-Some.ensures in
    let new : Binding = record { name = old.name; value = c.args.value } in
    renewed bs c.args.name.now i new at (same_name bs i new old (place_within bs c.args.name.now i at) c.index_mut.ensures.value refl)

pub returns-clause-names : goal.returns-clause-names
returns-clause-names c =
    let bs = c.args.scope.now.items in
    let i = c.in-Some.place in
    let old = c.index_mut.result.now in
    let at : place_in bs c.args.name.now ≡ Some i = ap (λ (ds : List Binding). place_in ds c.args.name.now) (sym c.deref.ensures.value) ∙ sym c.in-Some.ensures in
    let new : Binding = record { name = old.name; value = c.args.value } in
    renewed_names bs i new (same_name bs i new old (place_within bs c.args.name.now i at) c.index_mut.ensures.value refl)
