-- The invariants of a well formed source, over the components of its compositions.
use Rattle.std.proofs.Common.{◌≡◌, ◌≤◌, ℕ, zero, suc, true, false, List, [], ◌∷◌, filter, length, Some, refl, sym, ap, subst, ◌∙◌}
use Rattle.std.specs.Prelude.{slice_get}
use Rattle.std.specs.List.{list_all}
use Rattle.std.specs.Option.{option_map_or}
use Rattle.std.specs.Str.{bytes_eq}
use Rattle.std.proofs.lemmas.Slice.Eq.{bytes_eq-Decides}
use Rattle.ioa_value.specs.Actions.{Name}
use Rattle.ioa_value.specs.declared.limits.TheConstants.{LIMITS}
use Rattle.ioa_value.proofs.ItemLemmas.{all_at, find_both}
use Rattle.ioa_tree.specs.Tree.{AutomatonTree, InstanceTree, InvariantTree, declared_type, automaton, composition, invariant, SourceTree}
use Rattle.ioa_tree.specs.Types.{types_of}
use Rattle.ioa_tree.specs.Compositions.{automata, invariants, automaton_named}
use Rattle.ioa_tree.specs.Hosts.{Host, IsHost, AreHosts}
use Rattle.ioa_tree.specs.WellFormed.{held, has_ty, is_invariant, invariant_fine, well_formed}
use Rattle.ioa_tree.proofs.FineParts.{source_parts}
use Rattle.ioa_tree.proofs.KeptInvariants.{invariants_fine}
use Rattle.ioa_compose.specs.Fine.{IsTyped}

-- they are as many as their declarations
counted : (s : SourceTree) → length (invariants s) ≡ length (filter is_invariant s)
counted [] = refl
counted (declared_type t ∷ ds) = counted ds
counted (automaton a ∷ ds) = counted ds
counted (composition c ∷ ds) = counted ds
counted (invariant v ∷ ds) = ap suc (counted ds)

pub invariants-few : (s : SourceTree) → well_formed s ≡ true → length (invariants s) ≤ LIMITS.invariants
invariants-few s h = subst (λ n. n ≤ LIMITS.invariants) (sym (counted s)) (source_parts s h).few_invariants

-- an automaton has the name that it is found by
found-by : (s : SourceTree) (x : Name) (a : AutomatonTree) → automaton_named s x ≡ Some a → a.name ≡ x
found-by s x a e = (bytes_eq-Decides a.name x).0 (find_both (λ b. bytes_eq b.name x) (λ b. true) (automata s) a e (all-pass (automata s))).0
  where
    all-pass : (xs : List AutomatonTree) → list_all (λ b. true) xs ≡ true
    all-pass [] = refl
    all-pass (x ∷ xs) = all-pass xs

-- an invariant of a host's automaton is a Bool
pub host-typed : (s : SourceTree) (i : InstanceTree) (p : Host) (v : InvariantTree) → IsHost s i p → invariant_fine (types_of s) (types_of s) s v ≡ true → IsTyped p.instance v
host-typed s i p v b h about =
    let a = p.instance.automaton in
    let same : v.automaton ≡ i.automaton = (bytes_eq-Decides v.automaton a.name).0 about ∙ found-by s i.automaton a b.automaton in
    let there : automaton_named s v.automaton ≡ Some a = ap (automaton_named s) same ∙ b.automaton in
    subst (λ t. has_ty t t (held t t [] a) v.condition 0 ≡ true) (sym b.types)
    (sym (ap (λ o. option_map_or (λ c. has_ty (types_of s) (types_of s) (held (types_of s) (types_of s) [] c) v.condition 0) o false) there) ∙ h)

each-typed : (s : SourceTree) (is : List InstanceTree) (hosts : List Host) (v : InvariantTree) → AreHosts s is hosts → invariant_fine (types_of s) (types_of s) s v ≡ true
    → (j : ℕ) (p : Host) → slice_get hosts j ≡ Some p → IsTyped p.instance v
each-typed s [] [] v b h j p e = absurd (cc)
each-typed s [] (n ∷ ns) v b h j p e = absurd b
each-typed s (i ∷ is) [] v b h j p e = absurd b
each-typed s (i ∷ is) (n ∷ ns) v b h zero p e = let same : n ≡ p = cc in subst (λ (o : Host). IsTyped o.instance v) same (host-typed s i n v b.0 h)
each-typed s (i ∷ is) (n ∷ ns) v b h (suc j) p e = each-typed s is ns v b.1 h j p e

-- the invariants are well typed over the hosts
pub hosts-typed : (s : SourceTree) (is : List InstanceTree) (hosts : List Host) → well_formed s ≡ true → AreHosts s is hosts
    → (j k : ℕ) (p : Host) (v : InvariantTree) → slice_get hosts j ≡ Some p → slice_get (invariants s) k ≡ Some v → IsTyped p.instance v
hosts-typed s is hosts h b j k p v e at =
    each-typed s is hosts v b (all_at (invariant_fine (types_of s) (types_of s) s) (invariants s) k v (invariants_fine s h) at) j p e
