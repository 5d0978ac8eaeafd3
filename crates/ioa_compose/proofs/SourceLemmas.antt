-- What a well formed source says of the declarations that are picked from it.
use Rattle.std.proofs.Common.{◌≡◌, ◌&&◌, ◌||◌, Bool, true, false, List, [], ◌∷◌, ◌++◌, Option, Some, None, refl, subst, ◌∙◌, cond, map, length, nat_le, nat_lt, ℕ, ◌<◌, arith}
use Rattle.std.specs.List.{list_any, list_all, flat_map}
use Rattle.std.specs.Str.{bytes_eq}
use Rattle.std.proofs.lemmas.List.Elements.{All-head}
use Rattle.ioa_value.specs.Names.{IsName}
use Rattle.ioa_tree.specs.Names.{LegalNames, names_of_instance}
use Rattle.ioa_tree.proofs.FineParts.{source_parts, at_most}
use Rattle.ioa_tree.proofs.Declared.{automata_fine, compositions_fine}
use Rattle.ioa_tree.proofs.PartNames.{legal_composition, legal_instances, legal_crashes}
use Rattle.std.proofs.lemmas.Bool.{and_from, and_parts}
use Rattle.std.proofs.lemmas.Bool.Decides.{nat_tests}
use Rattle.ioa_value.specs.Actions.{Name}
use Rattle.ioa_value.specs.Table.{basic}
use Rattle.ioa_syntax.specs.Source.{IsSource}
use Rattle.ioa_tree.specs.Tree.{AutomatonTree, InstanceTree, CompositionTree, declared_type, automaton, composition, invariant, SourceTree}
use Rattle.ioa_tree.specs.Types.{types_of}
use Rattle.ioa_value.specs.declared.limits.TheConstants.{LIMITS}
use Rattle.ioa_tree.specs.Compositions.{automata, compositions, picked, automaton_named}
use Rattle.ioa_compose.specs.Bindings.{closed, AllReady, IsComposable}
use Rattle.ioa_compose.proofs.PickLemmas.{last_or, last-first}
use Rattle.ioa_compose.proofs.FilledLemmas.{has_instance, entries_spelled, instances_spelled}
use Rattle.ioa_compose.proofs.ApartLemmas.{is_apart, compositions_apart}
use Rattle.ioa_value.proofs.ItemLemmas.{find_both}
use Rattle.ioa_tree.specs.WellFormed.{distinct, form_within, automaton_within, composition_within, declaration_within, automaton_fine, is_automaton_of, instance_fine, composition_fine, global_names, well_formed}

-- each declaration keeps within the limits
declared_within : (s : SourceTree) → well_formed s ≡ true → list_all (declaration_within LIMITS) s ≡ true
declared_within s h = (source_parts s h).within

-- so does each automaton
automata_small : (ds : SourceTree) → list_all (declaration_within LIMITS) ds ≡ true → list_all (automaton_within LIMITS) (automata ds) ≡ true
automata_small [] h = refl
automata_small (declared_type t ∷ ds) h =
    let hs = and_parts (form_within LIMITS t.form) (list_all (declaration_within LIMITS) ds) h in automata_small ds hs.1
automata_small (automaton a ∷ ds) h =
    let hs = and_parts (automaton_within LIMITS a) (list_all (declaration_within LIMITS) ds) h in and_from _ _ hs.0 (automata_small ds hs.1)
automata_small (composition c ∷ ds) h =
    let hs = and_parts (composition_within LIMITS c) (list_all (declaration_within LIMITS) ds) h in automata_small ds hs.1
automata_small (invariant v ∷ ds) h = automata_small ds h

-- and each composition
compositions_small : (ds : SourceTree) → list_all (declaration_within LIMITS) ds ≡ true → list_all (composition_within LIMITS) (compositions ds) ≡ true
compositions_small [] h = refl
compositions_small (declared_type t ∷ ds) h =
    let hs = and_parts (form_within LIMITS t.form) (list_all (declaration_within LIMITS) ds) h in compositions_small ds hs.1
compositions_small (automaton a ∷ ds) h =
    let hs = and_parts (automaton_within LIMITS a) (list_all (declaration_within LIMITS) ds) h in compositions_small ds hs.1
compositions_small (composition c ∷ ds) h =
    let hs = and_parts (composition_within LIMITS c) (list_all (declaration_within LIMITS) ds) h in and_from _ _ hs.0 (compositions_small ds hs.1)
compositions_small (invariant v ∷ ds) h = compositions_small ds h

-- what all automata pass, one that is found passes
named_passes : (p : AutomatonTree → Bool) (s : SourceTree) (x : Name) (a : AutomatonTree) → list_all p (automata s) ≡ true → automaton_named s x ≡ Some a → p a ≡ true
named_passes p s x a h e = (find_both (λ b. bytes_eq b.name x) p (automata s) a e h).1

-- an automaton of a well formed source is well formed, and keeps within the limits
pub named_fine : (s : SourceTree) (x : Name) (a : AutomatonTree) → well_formed s ≡ true → automaton_named s x ≡ Some a → automaton_fine (types_of s) (types_of s) (global_names s) a ≡ true
named_fine s x a h e = named_passes (automaton_fine (types_of s) (types_of s) (global_names s)) s x a (automata_fine s h) e

pub named_within : (s : SourceTree) (x : Name) (a : AutomatonTree) → well_formed s ≡ true → automaton_named s x ≡ Some a → automaton_within LIMITS a ≡ true
named_within s x a h e = named_passes (automaton_within LIMITS) s x a (automata_small s (declared_within s h)) e

some_automaton : (x : Name) (b : Bool) (a : AutomatonTree) (o : Option AutomatonTree) (t : Bool) → (b || t) ≡ true → (t ≡ true → (c : AutomatonTree) × (o ≡ Some c)) → (c : AutomatonTree) × (cond b (Some a) o ≡ Some c)
some_automaton x true a o t h k = (a, refl)
some_automaton x false a o t h k = k h

-- an automaton that is declared is found
pub declared_found : (s : SourceTree) (x : Name) → list_any (is_automaton_of x) s ≡ true → (a : AutomatonTree) × (automaton_named s x ≡ Some a)
declared_found [] x h = absurd (cc)
declared_found (declared_type t ∷ ds) x h = declared_found ds x h
declared_found (automaton a ∷ ds) x h = some_automaton x (bytes_eq a.name x) a (automaton_named ds x) (list_any (is_automaton_of x) ds) h (declared_found ds x)
declared_found (composition c ∷ ds) x h = declared_found ds x h
declared_found (invariant v ∷ ds) x h = declared_found ds x h

all_ready : (s : SourceTree) (is : List InstanceTree) → list_all (instance_fine (types_of s) (types_of s) s) is ≡ true → AllReady s is
all_ready s [] h = tt
all_ready s (i ∷ is) h =
    let hs = and_parts (instance_fine (types_of s) (types_of s) s i) (list_all (instance_fine (types_of s) (types_of s) s) is) h in
    let parts = and_parts (list_any (is_automaton_of i.automaton) s) (list_all (closed (types_of s)) i.arguments) hs.0 in
    (record { automaton = declared_found s i.automaton parts.0; arguments = parts.1 }, all_ready s is hs.1)

-- what all compositions pass, the one that is picked passes
last_passes : (p : CompositionTree → Bool) (cs : List CompositionTree) (o : Option CompositionTree) (c : CompositionTree) → list_all p cs ≡ true → (o ≡ Some c → p c ≡ true) → last_or o cs ≡ Some c → p c ≡ true
last_passes p [] o c h k e = k e
last_passes p (x ∷ xs) o c h k e =
    let hs = and_parts (p x) (list_all p xs) h in
    last_passes p xs (Some x) c hs.1 (λ q. let same : x ≡ c = cc in subst (λ y. p y ≡ true) same hs.0) e

picked_passes : (p : CompositionTree → Bool) (s : SourceTree) (name : Option Name) (c : CompositionTree) → list_all p (compositions s) ≡ true → picked s name ≡ Some c → p c ≡ true
picked_passes p s (Some n) c h e = (find_both (λ d. bytes_eq d.name n) p (compositions s) c e h).1
picked_passes p s None c h e = last_passes p (compositions s) None c h (λ q. absurd (cc)) (last-first (compositions s) ∙ e)

is_positive : (n : ℕ) → nat_lt 0 n ≡ true → 0 < n
is_positive n h = grind (arith, nat_tests)

-- a composition that is picked from a well formed source which some tokens spell
pub picked_composable : (s : SourceTree) (name : Option Name) (c : CompositionTree) → IsSource s → well_formed s ≡ true → LegalNames s → picked s name ≡ Some c → IsComposable s c
picked_composable s name c kept h legal e =
    let fine = picked_passes (composition_fine (types_of s) (types_of s) s) s name c (compositions_fine s h) e in
    let inner = and_parts (distinct (map (λ i. i.name) c.instances) && distinct c.hidden) (list_all (instance_fine (types_of s) (types_of s) s) c.instances) fine in
    let named = and_parts (distinct (map (λ i. i.name) c.instances)) (distinct c.hidden) inner.0 in
    let test = picked_passes (composition_within LIMITS) s name c (compositions_small s (declared_within s h)) e in
    let few = and_parts (nat_le (length c.instances) LIMITS.components) (nat_le (length c.hidden) LIMITS.hidden) test in
    let names = legal_composition s name c legal e in
    record {
      legal = All-head IsName c.name (flat_map names_of_instance c.instances ++ c.hidden) names;
      apart = picked_passes (is_apart (types_of s)) s name c (compositions_apart basic s (source_parts s h).distinct_names) e;
      legal_names = legal_instances c names;
      legal_crashes = legal_crashes c names;
      names = named.0;
      some = is_positive (length c.instances) (picked_passes has_instance s name c (instances_spelled s kept.0.0 kept.0.2) e);
      few = at_most (length c.instances) LIMITS.components few.0;
      ready = all_ready s c.instances inner.1;
      hidden = named.1;
      few_hidden = at_most (length c.hidden) LIMITS.hidden few.1;
      entries = entries_spelled s kept.0.0 kept.0.2;
    }
