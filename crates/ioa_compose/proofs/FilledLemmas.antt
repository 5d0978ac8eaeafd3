-- What tokens spell is not empty: an automaton has an entry, and a composition a component.
use Rattle.std.proofs.Common.{◌≡◌, ℕ, ◌<◌, Bool, true, nat_lt, List, [], ◌∷◌, length, refl, arith}
use Rattle.std.specs.List.{list_all}
use Rattle.std.proofs.lemmas.Bool.{and_from}
use Rattle.std.proofs.lemmas.Bool.Decides.{nat_tests}
use Rattle.std.proofs.lemmas.List.Elements.{All-nil, All-cons}
use Rattle.ioa_value.specs.declared.terminal.Terminal.{Terminal}
use Rattle.ioa_lex.specs.Tokens.{Tok}
use Rattle.ioa_tree.specs.Tree.{AutomatonTree, CompositionTree, declared_type, automaton, composition, invariant, SourceTree}
use Rattle.ioa_tree.specs.Compositions.{automata, compositions}
use Rattle.ioa_compose.specs.Bindings.{HaveEntries}
use Rattle.ioa_grammar.specs.Grammar.{Language, separated, SpellsEntry, SpellsAutomaton, SpellsInstance, SpellsComposition, SpellsSource}

separated_some : {A : Type 0} (t : Terminal) (L : A → Language) (xs : List A) (ts : List Tok) → separated t L xs ts → 0 < length xs
separated_some t L [] ts h = absurd h
separated_some t L (x ∷ xs) ts h = omega arith

automaton_some : (a : AutomatonTree) (ts : List Tok) → SpellsAutomaton a ts → 0 < length a.entries
automaton_some a ts h = let entries = h.3.3.3 in separated_some _ SpellsEntry a.entries _ entries.2.2

composition_some : (c : CompositionTree) (ts : List Tok) → SpellsComposition c ts → 0 < length c.instances
composition_some c ts h = let instances = h.3.3 in separated_some _ SpellsInstance c.instances _ instances.2.2

-- in every automaton
pub entries_spelled : (s : SourceTree) (ts : List Tok) → SpellsSource s ts → HaveEntries s
entries_spelled [] ts h = All-nil (λ (a : AutomatonTree). 0 < length a.entries)
entries_spelled (declared_type t ∷ ds) ts h = entries_spelled ds _ h.3
entries_spelled (automaton a ∷ ds) ts h =
    All-cons (λ (b : AutomatonTree). 0 < length b.entries) a (automata ds) (automaton_some a _ h.2.3) (entries_spelled ds _ h.3)
entries_spelled (composition c ∷ ds) ts h = entries_spelled ds _ h.3
entries_spelled (invariant v ∷ ds) ts h = entries_spelled ds _ h.3

abbrev pub has_instance : CompositionTree → Bool
has_instance c = nat_lt 0 (length c.instances)

is_some : (n : ℕ) → 0 < n → nat_lt 0 n ≡ true
is_some n h = grind (arith, nat_tests)

-- in every composition
pub instances_spelled : (s : SourceTree) (ts : List Tok) → SpellsSource s ts → list_all has_instance (compositions s) ≡ true
instances_spelled [] ts h = refl
instances_spelled (declared_type t ∷ ds) ts h = instances_spelled ds _ h.3
instances_spelled (automaton a ∷ ds) ts h = instances_spelled ds _ h.3
instances_spelled (composition c ∷ ds) ts h =
    and_from (has_instance c) (list_all has_instance (compositions ds)) (is_some (length c.instances) (composition_some c _ h.2.3)) (instances_spelled ds _ h.3)
instances_spelled (invariant v ∷ ds) ts h = instances_spelled ds _ h.3
