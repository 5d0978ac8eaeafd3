use Rattle.std.proofs.Common.{◌<◌, ◌∙◌, Some, ap, length, rules, sym}
use Rattle.ioa_value.specs.Plain.{plain}
use Rattle.ioa_coverage.specs.declared.scope.Binding.{Binding}
use Rattle.ioa_coverage.proofs.Bound.{known_at, known_nowhere, place_within}
use Rattle.ioa_coverage.proofs.scope.value_of.Goals as goal

pub bounds-scope-place : goal.bounds-scope-place
bounds-scope-place c = place_within c.args.scope.now c.args.name.now c.in-Some.place (sym c.in-Some.ensures)

pub offset_bounds-scope-place : goal.offset_bounds-scope-place
offset_bounds-scope-place c =
    let lt : c.in-Some.place < length c.args.scope.now = place_within c.args.scope.now c.args.name.now c.in-Some.place (sym c.in-Some.ensures) in
    search rules

pub returns-in-Some-clause-found : goal.returns-in-Some-clause-found
returns-in-Some-clause-found c =
    known_at c.args.scope.now c.args.name.now c.in-Some.place c.index-scope-place.result (sym c.in-Some.ensures) c.index-scope-place.is
    ∙ ap (λ (b : Binding). Some (plain b.value)) c.index-scope-place.is

pub returns-in-None-clause-missing : goal.returns-in-None-clause-missing
returns-in-None-clause-missing c = known_nowhere c.args.scope.now c.args.name.now (sym c.in-None.ensures)
