-- What the bindings of a well formed source keep.
use Rattle.std.proofs.Common.{◌≡◌, ℕ, true, List, [], ◌∷◌, map, take, Option, Some, sym, ap, subst, ◌∙◌}
use Rattle.std.specs.List.{AllZip, list_all}
use Rattle.std.proofs.lemmas.List.{take-map}
use Rattle.std.proofs.lemmas.List.Elements.{All-nil, All-cons}
use Rattle.ioa_value.specs.Actions.{Name}
use Rattle.ioa_value.specs.Table.{Table}
use Rattle.ioa_tree.specs.declared.tree.Instance.{Instance as TreeInstance}
use Rattle.ioa_tree.specs.Tree.{AutomatonTree, CrashTree, SourceTree}
use Rattle.ioa_tree.specs.View.{instance_of, automaton_of}
use Rattle.ioa_tree.specs.Types.{types_of}
use Rattle.ioa_tree.specs.Compositions.{automaton_named}
use Rattle.ioa_tree.specs.Hosts.{crash_fine}
use Rattle.ioa_tree.specs.Instances.{Fit}
use Rattle.ioa_tree.specs.WellFormed.{position_fine, formals, automaton_fine, global_names, well_formed}
use Rattle.ioa_tree.proofs.FineParts.{fine_parts}
use Rattle.ioa_compose.specs.declared.binding.Binding.{Binding}
use Rattle.ioa_compose.specs.Bindings.{crash_in, plain_in, instance_in, Binds, AreBound, StartsWell, AllStartable, AllSound, AllApart, IsOwn, AllOwn, HasPositions, AllPositioned}
use Rattle.ioa_compose.specs.Refusals.{AllBound}
use Rattle.ioa_crash.specs.Rewriting.{with_signals, own_automaton}
use Rattle.ioa_compose.proofs.SourceLemmas.{named_fine}
use Rattle.ioa_compose.proofs.WithSignals.{positions_fine, own_positions}

-- bindings to instances in order
abbrev pub AllBind : SourceTree → List TreeInstance → List Binding → Type 0
AllBind s is bs = AllZip (λ i b. Binds s (instance_of i) b) is bs

starts-well : (types : Table) (g : List Name) (a : AutomatonTree) → automaton_fine types types g a ≡ true → StartsWell types a
starts-well types g a h = let p = fine_parts types types g a h in record { fine = p.starts; known = p.variable_types }

module _ (s : SourceTree) (types : Table) (h : well_formed s ≡ true) (same : types ≡ types_of s) where
  bound-fine : (i : TreeInstance) (b : Binding) → Binds s (instance_of i) b → automaton_fine types types (global_names s) (automaton_of b.automaton.now) ≡ true
  bound-fine i b k =
      subst (λ t. automaton_fine t t (global_names s) (automaton_of b.automaton.now) ≡ true) (sym same)
      (named_fine s (instance_of i).automaton (automaton_of b.automaton.now) h k.automaton)

  -- the positions of its own entries are fine
  pub own-fine : (x : Name) (a own : AutomatonTree) (crash : Option CrashTree) → automaton_named s x ≡ Some a → own ≡ own_automaton crash a
      → list_all (λ e. list_all (position_fine types (formals types types [] a)) e.positions) own.entries ≡ true
  own-fine x a own crash named made =
      let fine = subst (λ t. automaton_fine t t (global_names s) a ≡ true) (sym same) (named_fine s x a h named) in
      ap (λ (t : AutomatonTree). list_all (λ e. list_all (position_fine types (formals types types [] a)) e.positions) t.entries) made
      ∙ own_positions types crash a (positions_fine types (global_names s) a fine)

  pub all-sound : (is : List TreeInstance) (bs : List Binding) → AllBind s is bs → AllSound (map (plain_in types) bs)
  all-sound [] [] k = tt
  all-sound [] (b ∷ bs) k = absurd k
  all-sound (i ∷ is) [] k = absurd k
  all-sound (i ∷ is) (b ∷ bs) k = ((global_names s, bound-fine i b k.0), all-sound is bs k.1)

  -- they can start
  pub all-startable : (is : List TreeInstance) (bs : List Binding) → AllBind s is bs → AllStartable (map (plain_in types) bs)
  all-startable [] [] k = tt
  all-startable [] (b ∷ bs) k = absurd k
  all-startable (i ∷ is) [] k = absurd k
  all-startable (i ∷ is) (b ∷ bs) k = (
    record {
      fit = subst (λ t. Fit t (plain_in types b).automaton.formals (plain_in types b).arguments) (sym same) k.0.fit;
      well = starts-well types (global_names s) (automaton_of b.automaton.now) (bound-fine i b k.0);
    },
    all-startable is bs k.1,
  )

-- crash and recover have names of their own
pub all-apart : (s : SourceTree) (is : List TreeInstance) (bs : List Binding) → AllBind s is bs → AllApart bs
all-apart s [] [] k = All-nil (λ (b : Binding). crash_fine (crash_in b) (automaton_of b.automaton.now) ≡ true)
all-apart s [] (b ∷ bs) k = absurd k
all-apart s (i ∷ is) [] k = absurd k
all-apart s (i ∷ is) (b ∷ bs) k =
    All-cons (λ (c : Binding). crash_fine (crash_in c) (automaton_of c.automaton.now) ≡ true) b bs
    (ap (λ o. crash_fine o (automaton_of b.automaton.now)) k.0.crash ∙ k.0.fine) (all-apart s is bs k.1)

-- their positions are those of their entries
pub all-positioned : (s : SourceTree) (types : Table) (is : List TreeInstance) (bs : List Binding) → types ≡ types_of s → AllBind s is bs → AllPositioned types bs
all-positioned s types [] [] e k = All-nil (HasPositions types)
all-positioned s types [] (b ∷ bs) e k = absurd k
all-positioned s types (i ∷ is) [] e k = absurd k
all-positioned s types (i ∷ is) (b ∷ bs) e k =
    All-cons (HasPositions types) b bs (subst (λ t. HasPositions t b) (sym e) k.0.positions) (all-positioned s types is bs e k.1)

-- their own automata are made of those that are declared
pub all-own : (s : SourceTree) (is : List TreeInstance) (bs : List Binding) → AllBind s is bs → AllOwn bs
all-own s [] [] k = All-nil IsOwn
all-own s [] (b ∷ bs) k = absurd k
all-own s (i ∷ is) [] k = absurd k
all-own s (i ∷ is) (b ∷ bs) k = All-cons IsOwn b bs k.0.own (all-own s is bs k.1)

-- they are bound to the instances with inputs for crash and recover
pub all-bound : (s : SourceTree) (types : Table) (is : List TreeInstance) (bs : List Binding) → types ≡ types_of s → AllBind s is bs → AreBound s (map instance_of is) (map (instance_in types) bs)
all-bound s types [] [] e z = tt
all-bound s types [] (b ∷ bs) e z = absurd z
all-bound s types (i ∷ is) [] e z = absurd z
all-bound s types (i ∷ is) (b ∷ bs) e z = (
  record {
    declared = automaton_of b.automaton.now;
    types = e;
    named = z.0.automaton;
    automaton = ap (λ o. with_signals o (automaton_of b.automaton.now)) z.0.crash;
    arguments = z.0.arguments;
    fit = z.0.fit;
    fine = z.0.fine;
  },
  all-bound s types is bs e z.1,
)

-- so each of those that came before the one at hand has its instance
pub bound-before : (s : SourceTree) (types : Table) (is : List TreeInstance) (k : ℕ) (bs : List Binding) → types ≡ types_of s → AllBind s (take k is) bs → AllBound s (take k (map instance_of is))
bound-before s types is k bs e z = subst (AllBound s) (sym (take-map instance_of k is)) (map (instance_in types) bs, all-bound s types (take k is) bs e z)
