use Rattle.std.proofs.Common.{◌≡◌, true, sym, subst}
use Rattle.std.specs.Prelude.{option_copied}
use Rattle.ioa_tree.specs.View.{tree_of, assembly_of}
use Rattle.ioa_tree.specs.Names.{LegalNames}
use Rattle.ioa_syntax.specs.Source.{IsSource}
use Rattle.ioa_tree.specs.WellFormed.{well_formed}
use Rattle.ioa_compose.proofs.SourceLemmas.{picked_composable}
use Rattle.ioa_compose.proofs.RefusalLemmas.{clash-from, exact-from, refused-from}
use Rattle.ioa_compose.proofs.composition.compose.Goals as goal

pub composed-requires-clause-composable : goal.composed-requires-clause-composable
composed-requires-clause-composable c =
    picked_composable (tree_of c.declarations-declarations.result.now) (option_copied c.args.name) (assembly_of c.in-Some.assembly.now)
    (subst (λ ds. IsSource (tree_of ds)) (sym c.declarations-declarations.ensures.value) c.declarations-declarations.ensures.kept)
    (subst (λ ds. well_formed (tree_of ds) ≡ true) (sym c.declarations-declarations.ensures.value) c.declarations-declarations.ensures.well_formed)
    (subst (λ ds. LegalNames (tree_of ds)) (sym c.declarations-declarations.ensures.value) c.declarations-declarations.ensures.legal) (sym c.in-Some.ensures)

pub returns-in-Some-clause-exact : goal.returns-in-Some-clause-exact
returns-in-Some-clause-exact c =
    exact-from c.composed.result c.declarations-declarations.result.now c.args.checked.now (option_copied c.args.name) (assembly_of c.in-Some.assembly.now)
    c.declarations-declarations.ensures.value c.in-Some.ensures c.composed.ensures.refused

pub returns-in-Some-clause-refused : goal.returns-in-Some-clause-refused
returns-in-Some-clause-refused c =
    refused-from c.composed.result c.declarations-declarations.result.now c.args.checked.now (option_copied c.args.name) (assembly_of c.in-Some.assembly.now)
    c.declarations-declarations.ensures.value c.in-Some.ensures c.composed.ensures.refused

pub returns-in-Some-clause-clash : goal.returns-in-Some-clause-clash
returns-in-Some-clause-clash c =
    clash-from c.composed.result c.declarations-declarations.result.now c.args.checked.now (option_copied c.args.name) (assembly_of c.in-Some.assembly.now)
    c.declarations-declarations.ensures.value c.in-Some.ensures c.composed.ensures.refused
