-- Compositions that hide names: each answer is computed.
use Rattle.std.proofs.Common.{◌≡◌, List, [], ◌∷◌, true, false, refl, codes}
use Rattle.ioa_value.specs.Actions.{Name}
use Rattle.ioa_value.specs.Table.{basic}
use Rattle.ioa_tree.specs.Tree.{number, automaton, composition, SourceTree}
use Rattle.ioa_tree.specs.Instances.{Instance}
use Rattle.ioa_tree.specs.Compositions.{is_output_of}
use Rattle.ioa_tree.specs.WellFormed.{well_formed}
use Rattle.ioa_examples.proofs.SmallSources.{counter, one}
use Rattle.ioa_examples.proofs.DeclaredTypes.{names_from}

-- the counter's source, which hides these names
abbrev pub hiding : List Name → SourceTree
hiding names = automaton counter ∷ composition (record (one (number 5 ∷ [])) { hidden = names }) ∷ []

hides_an_output : well_formed (hiding (codes "tick" ∷ [])) ≡ true
hides_an_output = refl

-- that the names are outputs is asked when components are put together
hides_any_name : well_formed (hiding (codes "tock" ∷ [])) ≡ true
hides_any_name = refl

hides_twice : well_formed (hiding (codes "tick" ∷ codes "tick" ∷ [])) ≡ false
hides_twice = refl

hides_many : well_formed (hiding (names_from 64 0)) ≡ true
hides_many = refl

hides_too_many : well_formed (hiding (names_from 65 0)) ≡ false
hides_too_many = refl

abbrev pub counters : List Instance
counters = record { types = basic; automaton = counter; arguments = [] } ∷ []

is_an_output : is_output_of counters (codes "tick") ≡ true
is_an_output = refl

is_an_input : is_output_of counters (codes "reset") ≡ false
is_an_input = refl

is_none : is_output_of counters (codes "tock") ≡ false
is_none = refl
