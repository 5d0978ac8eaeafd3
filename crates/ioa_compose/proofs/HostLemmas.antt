-- The hosts of a well formed source, and the components that stand for them.
use Rattle.std.proofs.Common.{◌≡◌, ◌<◌, ◌≤◌, ℕ, arith, drop, length, length-append, zero, suc, Bool, true, ◌&&◌, ◌||◌, List, [], ◌∷◌, ◌++◌, map, All, Option, Some, None, slice_get, refl, sym, ap, subst, ◌∙◌}
use Rattle.std.specs.List.{list_all, list_any}
use Rattle.std.specs.Str.{bytes_eq}
use Rattle.std.proofs.lemmas.Bool.{and_from}
use Rattle.std.proofs.lemmas.List.{drop_all}
use Rattle.std.proofs.lemmas.List.Elements.{All-head, All-tail, All-weaker}
use Rattle.std.proofs.lemmas.List.Folds.{list_any-append, list_all-append}
use Rattle.ioa_value.specs.Actions.{Name}
use Rattle.ioa_value.specs.Names.{IsName}
use Rattle.ioa_value.specs.Table.{AreTypes}
use Rattle.ioa_value.specs.declared.limits.TheConstants.{LIMITS}
use Rattle.ioa_value.proofs.ItemLemmas.{find_at}
use Rattle.ioa_tree.specs.Tree.{AutomatonTree, CrashTree, EntryTree, VariableTree, InstanceTree, InvariantTree, SourceTree}
use Rattle.ioa_tree.specs.Names.{names_of_expr, names_of_crash, names_of_automaton, names_of_invariant, LegalNames}
use Rattle.ioa_tree.specs.Types.{types_of}
use Rattle.ioa_tree.specs.Components.{is_output}
use Rattle.ioa_tree.specs.Instances.{Instance, Fit}
use Rattle.ioa_tree.specs.Compositions.{Member, automata, has_output, is_output_of, invariants}
use Rattle.ioa_tree.specs.Hosts.{crash_fine, Host, IsHost, AreHosts}
use Rattle.ioa_tree.specs.WellFormed.{is_some_of, held, has_ty, automaton_fine, entry_within, automaton_within, global_names, well_formed}
use Rattle.ioa_tree.proofs.PartNames.{legal_automaton, legal_entries, legal_invariants}
use Rattle.ioa_tree.proofs.Starts.{starts_fit}
use Rattle.ioa_tree.proofs.FineParts.{fine_parts, within_parts}
use Rattle.ioa_tree.proofs.TypeAgreement.{type_same}
use Rattle.ioa_compose.specs.Bindings.{HaveEntries}
use Rattle.ioa_crash.specs.Rewriting.{spelled, up_variable, signals, rewritten}
use Rattle.ioa_crash.specs.Crashes.{MayCrash}
use Rattle.ioa_compose.specs.Fine.{IsFine, AllFine, AreOver, IsTyped}
use Rattle.ioa_crash.specs.Limits.{component_limits}
use Rattle.ioa_compose.specs.Simulates.{member_by, member_for, MayStand, AllNamed, HostsAreSimulated}
use Rattle.ioa_compose.proofs.FirstVariables.{is_added}
use Rattle.ioa_crash.proofs.SpelledNames.{all_spelled, or_false}
use Rattle.ioa_crash.proofs.SpelledTrees.{automaton_spelled}
use Rattle.ioa_crash.proofs.RewrittenTypes.{held_same}
use Rattle.ioa_crash.proofs.RewrittenLimits.{within_wider}
use Rattle.ioa_crash.proofs.CrashLemmas.{means_crash}
use Rattle.ioa_crash.proofs.StaysLemmas.{stays_fine}
use Rattle.ioa_compose.proofs.StandLemmas.{AreSpelled, rewriting_stands}
use Rattle.ioa_clash.proofs.ZipLemmas.{all_found}
use Rattle.ioa_compose.proofs.SourceLemmas.{named_fine, named_within}

-- ---- names and outputs

pub same_names : (hosts : List Host) → map (λ (m : Member). m.name) (map member_for hosts) ≡ map (λ (p : Host). p.name) hosts
same_names [] = refl
same_names (p ∷ ps) = ap (λ (x : Name). x ∷ map (λ (m : Member). m.name) (map member_for ps)) (one p.crash) ∙ ap (λ (ns : List Name). p.name ∷ ns) (same_names ps)
  where
    one : (o : Option CrashTree) → (member_by o p).name ≡ p.name
    one None = refl
    one (Some n) = refl

-- crash and recover are no outputs
one_output : (x : Name) (o : Option CrashTree) (p : Host) → has_output x (member_by o p).instance.automaton ≡ has_output x p.instance.automaton
one_output x None p = refl
one_output x (Some n) p =
    let test : EntryTree → Bool = λ e. is_output (Some e.kind) && bytes_eq e.name x in
    list_any-append test p.instance.automaton.entries (signals n) ∙ or_false (list_any test p.instance.automaton.entries)

pub same_outputs : (hosts : List Host) (x : Name)
    → is_output_of (map (λ (m : Member). m.instance) (map member_for hosts)) x ≡ is_output_of (map (λ (p : Host). p.instance) hosts) x
same_outputs [] x = refl
same_outputs (p ∷ ps) x =
    ap (λ b. b || is_output_of (map (λ (m : Member). m.instance) (map member_for ps)) x) (one_output x p.crash p)
    ∙ ap (λ b. has_output x p.instance.automaton || b) (same_outputs ps x)

-- ---- conditions

-- a condition over variables and formals is still a Bool
pub typed_still : (n : CrashTree) (i : Instance) (v : InvariantTree) → AreTypes i.types → All IsName (names_of_automaton i.automaton)
    → list_all spelled (names_of_expr v.condition) ≡ true → has_ty i.types i.types (held i.types i.types [] i.automaton) v.condition 0 ≡ true
    → has_ty i.types i.types (held i.types i.types [] (rewritten n i.automaton)) v.condition 0 ≡ true
typed_still n i v d legal s h =
    let names = automaton_spelled i.automaton legal in
    sym (ap (λ (o : Option ℕ). is_some_of o 0)
    (type_same i.types i.types spelled (held i.types i.types [] i.automaton) (held i.types i.types [] (rewritten n i.automaton)) (held_same i.types d [] n i.automaton names) v.condition s)) ∙ h

-- so an invariant is typed of the component that stands for a host
pub typed_for : (o : Option CrashTree) (p : Host) (v : InvariantTree) → AreTypes p.instance.types → MayStand o p → list_all spelled (names_of_expr v.condition) ≡ true
    → IsTyped p.instance v → IsTyped (member_by o p).instance v
typed_for None p v d may s h = h
typed_for (Some n) p v d may s h = λ own. typed_still n p.instance v d may.legal s (h own)

-- ---- variables that are added

first_so_many : (vs more : List VariableTree) → length vs ≤ length (vs ++ more)
first_so_many vs more = let long = length-append vs more in omega (arith, long)

added_behind : (vs more : List VariableTree) → list_all is_added more ≡ true → list_all is_added (drop (length vs) (vs ++ more)) ≡ true
added_behind [] more h = h
added_behind (v ∷ vs) more h = added_behind vs more h

-- ---- hosts of sources

module _ (s : SourceTree) (fine : well_formed s ≡ true) (legal : LegalNames s) where
  host_automaton : (i : InstanceTree) (p : Host) → IsHost s i p → automaton_fine p.instance.types p.instance.types (global_names s) p.instance.automaton ≡ true
  host_automaton i p b =
      subst (λ t. automaton_fine t t (global_names s) p.instance.automaton ≡ true) (sym b.types) (named_fine s i.automaton p.instance.automaton fine b.automaton)

  host_arguments : (i : InstanceTree) (p : Host) → IsHost s i p → Fit p.instance.types p.instance.automaton.formals p.instance.arguments
  host_arguments i p b = subst (λ t. Fit t p.instance.automaton.formals p.instance.arguments) (sym b.types) b.fit

  -- a host that crashes can be rewritten
  host_crashes : (i : InstanceTree) (p : Host) (n : CrashTree) → IsHost s i p → p.crash ≡ Some n → MayCrash n p.instance p.starts
  host_crashes i p n b e = record {
    automaton = (global_names s, host_automaton i p b);
    legal = legal_automaton s i.automaton p.instance.automaton legal b.automaton;
    arguments = host_arguments i p b;
    started = b.starts;
    signals = subst (λ o. crash_fine o p.instance.automaton ≡ true) (sym b.crash ∙ e) b.fine;
  }

  pub host_may : (i : InstanceTree) (p : Host) → IsHost s i p → MayStand p.crash p
  host_may i p b = go p.crash refl
    where
      go : (o : Option CrashTree) → p.crash ≡ o → MayStand o p
      go None e = tt
      go (Some n) e = host_crashes i p n b e

  pub hosts_may : (is : List InstanceTree) (hosts : List Host) → AreHosts s is hosts → (k : ℕ) (p : Host) → slice_get hosts k ≡ Some p → MayStand p.crash p
  hosts_may [] [] b k p e = absurd (cc)
  hosts_may [] (h ∷ hs) b k p e = absurd b
  hosts_may (i ∷ is) [] b k p e = absurd b
  hosts_may (i ∷ is) (h ∷ hs) b zero p e = let same : h ≡ p = cc in subst (λ (q : Host). MayStand q.crash q) same (host_may i h b.0)
  hosts_may (i ∷ is) (h ∷ hs) b (suc k) p e = hosts_may is hs b.1 k p e

  pub conditions_spelled : AreSpelled (invariants s)
  conditions_spelled =
      All-weaker (λ (v : InvariantTree). All IsName (names_of_invariant v)) (λ v. list_all spelled (names_of_expr v.condition) ≡ true)
      (λ v k. all_spelled (names_of_expr v.condition) (All-tail IsName v.automaton (names_of_expr v.condition) k)) (invariants s) (legal_invariants s legal)

  -- the component that stands for a host is fine
  pub host_fine : (i : InstanceTree) (p : Host) → AreTypes (types_of s) → HaveEntries s → IsName i.name → All IsName (names_of_crash i.crash) → IsHost s i p → IsFine component_limits (member_for p)
  host_fine i p d filled named signalled b = go p.crash refl
    where
      types : AreTypes p.instance.types
      types = subst AreTypes (sym b.types) d

      within : automaton_within LIMITS p.instance.automaton ≡ true
      within = named_within s i.automaton p.instance.automaton fine b.automaton

      narrow : list_all (entry_within LIMITS) p.instance.automaton.entries ≡ true
      narrow = (within_parts LIMITS p.instance.automaton within).each_entry

      some : 0 < length p.instance.automaton.entries
      some =
          let r = find_at (λ a. bytes_eq a.name i.automaton) (automata s) p.instance.automaton b.automaton in
          all_found (λ (a : AutomatonTree). 0 < length a.entries) (automata s) r.0 p.instance.automaton filled r.1

      go : (o : Option CrashTree) → p.crash ≡ o → IsFine component_limits (member_by o p)
      go None e =
          let parts = fine_parts p.instance.types p.instance.types (global_names s) p.instance.automaton (host_automaton i p b) in
          record {
            legal = subst IsName (sym b.name) named;
            some_entries = some;
            legal_entries = legal_entries p.instance.automaton (legal_automaton s i.automaton p.instance.automaton legal b.automaton);
            automaton = (global_names s, host_automaton i p b);
            within = within_wider p.instance.automaton within;
            narrow = narrow;
            arguments = host_arguments i p b;
            starts = starts_fit p.instance.types types (global_names s) p.instance.automaton p.instance.arguments (host_arguments i p b) p.instance.automaton.variables p.starts parts.starts parts.variable_types b.starts;
            started = b.starts;
            declared = omega arith;
            added = ap (list_all is_added) (drop_all (length p.instance.automaton.variables) p.instance.automaton.variables (omega arith));
          }
      go (Some n) e =
          let may = host_crashes i p n b e in
          let names : All IsName (n.crash ∷ n.recover ∷ []) = subst (λ o. All IsName (names_of_crash o)) (sym b.crash ∙ e) signalled in
          let k = stays_fine n p.instance p.starts types (All-head IsName n.crash (n.recover ∷ []) names)
          (All-head IsName n.recover [] (All-tail IsName n.crash (n.recover ∷ []) names)) may in
          record {
            legal = subst IsName (sym b.name) named;
            some_entries = let more = length-append p.instance.automaton.entries (signals n) in omega (arith, some, more);
            legal_entries = k.legal_entries;
            automaton = k.automaton;
            within = k.within within;
            narrow = list_all-append (entry_within LIMITS) p.instance.automaton.entries (signals n)
                ∙ and_from (list_all (entry_within LIMITS) p.instance.automaton.entries) (list_all (entry_within LIMITS) (signals n)) narrow refl;
            arguments = k.arguments;
            starts = k.values;
            started = (means_crash n p.instance p.starts may).started;
            declared = first_so_many p.instance.automaton.variables (up_variable ∷ []);
            added = added_behind p.instance.automaton.variables (up_variable ∷ []) refl;
          }

  pub hosts_fine : (is : List InstanceTree) (hosts : List Host) → AreTypes (types_of s) → HaveEntries s → All (λ i. IsName i.name) is → All (λ i. All IsName (names_of_crash i.crash)) is
      → AreHosts s is hosts → AllFine component_limits (map member_for hosts)
  hosts_fine [] [] d f n c b = tt
  hosts_fine [] (h ∷ hs) d f n c b = absurd b
  hosts_fine (i ∷ is) [] d f n c b = absurd b
  hosts_fine (i ∷ is) (h ∷ hs) d f n c b =
      let crashes = λ (j : InstanceTree). All IsName (names_of_crash j.crash) in (
        host_fine i h d f (All-head (λ (j : InstanceTree). IsName j.name) i is n) (All-head crashes i is c) b.0,
        hosts_fine is hs d f (All-tail (λ (j : InstanceTree). IsName j.name) i is n) (All-tail crashes i is c) b.1,
      )

over_by : (o : Option CrashTree) (p : Host) → (member_by o p).instance.types ≡ p.instance.types
over_by None p = refl
over_by (Some n) p = refl

pub hosts_over : (s : SourceTree) (is : List InstanceTree) (hosts : List Host) → AreHosts s is hosts → AreOver (types_of s) (map member_for hosts)
hosts_over s [] [] b = tt
hosts_over s [] (h ∷ hs) b = absurd b
hosts_over s (i ∷ is) [] b = absurd b
hosts_over s (i ∷ is) (h ∷ hs) b = (over_by h.crash h ∙ b.0.types, hosts_over s is hs b.1)

pub hosts_types : (s : SourceTree) (is : List InstanceTree) (hosts : List Host) → AreHosts s is hosts → (k : ℕ) (p : Host) → slice_get hosts k ≡ Some p → p.instance.types ≡ types_of s
hosts_types s [] [] b k p e = absurd (cc)
hosts_types s [] (h ∷ hs) b k p e = absurd b
hosts_types s (i ∷ is) [] b k p e = absurd b
hosts_types s (i ∷ is) (h ∷ hs) b zero p e = let same : h ≡ p = cc in subst (λ (q : Host). q.instance.types ≡ types_of s) same b.0.types
hosts_types s (i ∷ is) (h ∷ hs) b (suc k) p e = hosts_types s is hs b.1 k p e

pub hosts_called : (s : SourceTree) (is : List InstanceTree) (hosts : List Host) → AreHosts s is hosts → map (λ (p : Host). p.name) hosts ≡ map (λ (i : InstanceTree). i.name) is
hosts_called s [] [] b = refl
hosts_called s [] (h ∷ hs) b = absurd b
hosts_called s (i ∷ is) [] b = absurd b
hosts_called s (i ∷ is) (h ∷ hs) b =
    ap (λ ns. h.name ∷ ns) (hosts_called s is hs b.1) ∙ ap (λ n. n ∷ map (λ (j : InstanceTree). j.name) is) b.0.name

-- crash and recover have names of their own
pub hosts_named : (s : SourceTree) (is : List InstanceTree) (hosts : List Host) → AreHosts s is hosts → AllNamed hosts
hosts_named s [] [] b k p e = absurd (cc)
hosts_named s [] (h ∷ hs) b k p e = absurd b
hosts_named s (i ∷ is) [] b k p e = absurd b
hosts_named s (i ∷ is) (h ∷ hs) b zero p e =
    let same : h ≡ p = cc in
    subst (λ (q : Host). crash_fine q.crash q.instance.automaton ≡ true) same (ap (λ o. crash_fine o h.instance.automaton) b.0.crash ∙ b.0.fine)
hosts_named s (i ∷ is) (h ∷ hs) b (suc k) p e = hosts_named s is hs b.1 k p e

pub hosts_stand : HostsAreSimulated
hosts_stand s t h fine legal b =
    rewriting_stands h (hosts_may s fine legal t.instances h.hosts b.hosts)
    (subst AreSpelled (sym b.invariants) (conditions_spelled s fine legal))
