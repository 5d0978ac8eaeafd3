-- Components on the way.
use Rattle.std.proofs.Common.{◌≡◌, ℕ, zero, suc, ◌<◌, true, false, List, [], ◌∷◌, map, take, length, get_or, IfErr, Bor, Option, Some, None, Result, Ok, Err, refl, sym, ap, subst, ◌∙◌, arith, slice_get}
use Rattle.std.specs.Prelude.{option_copied}
use Rattle.std.specs.Option.{option_map, option_map_or}
use Rattle.ioa_value.specs.declared.value.Value.{Value}
use Rattle.std.proofs.lemmas.Bool.{and_parts, and_from, both_ways}
use Rattle.ioa_value.specs.Actions.{Name}
use Rattle.ioa_value.specs.Plain.{Val, plain}
use Rattle.ioa_value.specs.Table.{Table, type_named}
use Rattle.ioa_value.specs.Typing.{is_of}
use Rattle.ioa_lex.specs.declared.refusal.Refusal.{Refusal}
use Rattle.ioa_tree.specs.declared.tree.Crash.{Crash}
use Rattle.ioa_tree.specs.declared.tree.Field.{Field}
use Rattle.ioa_tree.specs.declared.tree.Instance.{Instance as TreeInstance}
use Rattle.ioa_tree.specs.Tree.{FieldTree, AutomatonTree, InstanceTree, SourceTree}
use Rattle.ioa_tree.specs.View.{field_of, crash_of, instance_of}
use Rattle.ioa_tree.specs.Types.{types_of, is_named}
use Rattle.ioa_tree.specs.Instances.{Instance, Fit, argument_values}
use Rattle.ioa_tree.specs.Compositions.{automaton_named}
use Rattle.ioa_compose.specs.Bindings.{fit, plain_in, IsReady, AllReady, IsStartable, AllStartable, AllSound}
use Rattle.ioa_compose.specs.declared.binding.Binding.{Binding}
use Rattle.ioa_tree.specs.WellFormed.{automaton_fine}
use Rattle.ioa_compose.specs.Refusals.{Reason, misfit, faulty, misnamed, clashing, hiding, no_memory, other, reason_of, AllBound, IsUnbound, IsRefusedAt, FaultsAt, NoneFaults, FaultsIn, Misfits}
use Rattle.ioa_value.proofs.SameLemmas.{both_false}

pub uneven-fit : (types : Table) (fs : List Field) (vs : List Value) → (length fs ≡ length vs → ⊥) → false ≡ fit types (map field_of fs) (map plain vs)
uneven-fit types [] [] e = absurd (e refl)
uneven-fit types [] (v ∷ vs) e = refl
uneven-fit types (f ∷ fs) [] e = refl
uneven-fit types (f ∷ fs) (v ∷ vs) e = both_false _ _ (uneven-fit types fs vs (λ q. e (ap suc q)))

-- the test that values fit, and the fact
pub fit-Fit : (types : Table) (fs : List FieldTree) (vs : List Val) → fit types fs vs ≡ true → Fit types fs vs
fit-Fit types [] [] h = tt
fit-Fit types [] (v ∷ vs) h = absurd (cc)
fit-Fit types (f ∷ fs) [] h = absurd (cc)
fit-Fit types (f ∷ fs) (v ∷ vs) h =
    let hs = and_parts (is_named types f.ty v) (fit types fs vs) h in
    let n = named v (type_named types f.ty) hs.0 in
    (n.0, n.1, n.2, fit-Fit types fs vs hs.1)
  where
    named : (v : Val) (o : Option ℕ) → option_map_or (λ n. is_of types v n) o false ≡ true → (n : ℕ) × (o ≡ Some n) × (is_of types v n ≡ true)
    named v (Some n) e = (n, refl, e)
    named v None e = absurd (cc)

pub Fit-fit : (types : Table) (fs : List FieldTree) (vs : List Val) → Fit types fs vs → fit types fs vs ≡ true
Fit-fit types [] [] h = refl
Fit-fit types [] (v ∷ vs) h = absurd h
Fit-fit types (f ∷ fs) [] h = absurd h
Fit-fit types (f ∷ fs) (v ∷ vs) h = and_from _ _ (ap (λ o. option_map_or (λ n. is_of types v n) o false) h.1 ∙ h.2) (Fit-fit types fs vs h.3)

pub misfit-at : (s : SourceTree) (i : InstanceTree) (a : AutomatonTree) (vs : List Val) → automaton_named s i.automaton ≡ Some a → argument_values (types_of s) i.arguments ≡ Ok vs → fit (types_of s) a.formals vs ≡ false → Misfits s i
misfit-at s i a vs d v u = record { automaton = a; declared = d; arguments = vs; valued = v; unfit = λ h. both_ways (fit (types_of s) a.formals vs) u (Fit-fit (types_of s) a.formals vs h) }

-- names that are lent are those of the tree
pub crash-lent : (r : Option (Bor Crash)) (o : Option Crash) → option_copied r ≡ o → option_map (λ c. crash_of c.now) r ≡ option_map crash_of o
crash-lent (Some c) o e = ap (option_map crash_of) e
crash-lent None o e = ap (option_map crash_of) e

-- one of many
pub ready-at : (s : SourceTree) (is : List TreeInstance) (k : ℕ) (i : TreeInstance) → AllReady s (map instance_of is) → k < length is → i ≡ get_or is k i → IsReady s (instance_of i)
ready-at s [] k i h l e = absurd (omega arith)
ready-at s (j ∷ js) zero i h l e = subst (λ x. IsReady s (instance_of x)) (sym e) h.0
ready-at s (j ∷ js) (suc k) i h l e = ready-at s js k i h.1 (omega arith) e

pub startable-at : (types : Table) (bs : List Binding) (k : ℕ) (b : Binding) → AllStartable (map (plain_in types) bs) → k < length bs → b ≡ get_or bs k b → IsStartable (plain_in types b)
startable-at types [] k b h l e = absurd (omega arith)
startable-at types (c ∷ cs) zero b h l e = subst (λ x. IsStartable (plain_in types x)) (sym e) h.0
startable-at types (c ∷ cs) (suc k) b h l e = startable-at types cs k b h.1 (omega arith) e

-- refused in its place, where each before it has its instance: so it is the first without one
unbound-one : (s : SourceTree) (is : List InstanceTree) (k : ℕ) (n : InstanceTree) (r : Reason) → slice_get is k ≡ Some n → AllBound s (take k is) → IsRefusedAt s k n r → IsUnbound s is r
unbound-one s is k n (misfit i) e b h = (n, ap (slice_get is) h.0 ∙ e, h.1, subst (λ j. AllBound s (take j is)) (sym h.0) b)
unbound-one s is k n (faulty i f) e b h = (n, ap (slice_get is) h.0 ∙ e, h.1, subst (λ j. AllBound s (take j is)) (sym h.0) b)
unbound-one s is k n (misnamed i) e b h = (n, ap (slice_get is) h.0 ∙ e, h.1, subst (λ j. AllBound s (take j is)) (sym h.0) b)
unbound-one s is k n (clashing i j m) e b h = absurd h
unbound-one s is k n (hiding x) e b h = absurd h
unbound-one s is k n no_memory e b h = tt
unbound-one s is k n other e b h = absurd h

pub unbound-in : {X : Type 0} (r : Result X Refusal) (s : SourceTree) (is : List InstanceTree) (k : ℕ) (n : InstanceTree) → slice_get is k ≡ Some n → AllBound s (take k is)
    → IfErr r (λ e. IsRefusedAt s k n (reason_of e)) → IfErr r (λ e. IsUnbound s is (reason_of e))
unbound-in (Ok x) s is k n e b h = tt
unbound-in (Err x) s is k n e b h = unbound-one s is k n (reason_of x) e b h

faults-one : (ns : List Instance) (k : ℕ) (n : Instance) (r : Reason) → slice_get ns k ≡ Some n → NoneFaults ns k → FaultsAt k n r → FaultsIn ns r
faults-one ns k n (misfit i) e b h = absurd h
faults-one ns k n (faulty i f) e b h = (n, ap (slice_get ns) h.0 ∙ e, h.1, subst (NoneFaults ns) (sym h.0) b)
faults-one ns k n (misnamed i) e b h = absurd h
faults-one ns k n (clashing i j m) e b h = absurd h
faults-one ns k n (hiding x) e b h = absurd h
faults-one ns k n no_memory e b h = tt
faults-one ns k n other e b h = absurd h

pub faults-in : {X : Type 0} (r : Result X Refusal) (ns : List Instance) (k : ℕ) (n : Instance) → slice_get ns k ≡ Some n → NoneFaults ns k
    → IfErr r (λ e. FaultsAt k n (reason_of e)) → IfErr r (λ e. FaultsIn ns (reason_of e))
faults-in (Ok x) ns k n e b h = tt
faults-in (Err x) ns k n e b h = faults-one ns k n (reason_of x) e b h

pub sound-at : (types : Table) (bs : List Binding) (k : ℕ) (b : Binding) → AllSound (map (plain_in types) bs) → k < length bs → b ≡ get_or bs k b → (g : List Name) × (automaton_fine types types g (plain_in types b).automaton ≡ true)
sound-at types [] k b h l e = absurd (omega arith)
sound-at types (c ∷ cs) zero b h l e = subst (λ x. (g : List Name) × (automaton_fine types types g (plain_in types x).automaton ≡ true)) (sym e) h.0
sound-at types (c ∷ cs) (suc k) b h l e = sound-at types cs k b h.1 (omega arith) e
