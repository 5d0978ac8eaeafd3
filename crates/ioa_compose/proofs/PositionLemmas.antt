-- The positions of entries, with the values of their constants, in the component that stands for a host.
use Rattle.std.proofs.Common.{◌≡◌, Bool, true, List, [], ◌∷◌, map, Option, Some, None, refl, sym, ap, subst, ◌∙◌}
use Rattle.std.specs.List.{AllZip, list_all, flat_map}
use Rattle.std.proofs.lemmas.Bool.{and_parts, and_from}
use Rattle.std.proofs.lemmas.List.Elements.{All-nil, All-cons}
use Rattle.std.proofs.lemmas.List.Folds.{list_all-append}
use Rattle.ioa_value.specs.Plain.{Val}
use Rattle.ioa_value.specs.Positions.{Domain, every, single}
use Rattle.ioa_value.specs.Table.{Table}
use Rattle.ioa_tree.specs.declared.tree.Instance.{Instance as TreeInstance}
use Rattle.ioa_tree.specs.Tree.{CrashTree, PositionTree, typed, only, EntryTree, AutomatonTree, SourceTree}
use Rattle.ioa_tree.specs.Names.{names_of_position, names_of_entry, LegalNames}
use Rattle.ioa_tree.specs.View.{instance_of, automaton_of}
use Rattle.ioa_tree.specs.Types.{types_of}
use Rattle.ioa_tree.specs.Domains.{IsDomainOf, AreDomainsOf}
use Rattle.ioa_tree.specs.Instances.{Instance}
use Rattle.ioa_tree.specs.Compositions.{Member}
use Rattle.ioa_tree.specs.Hosts.{Host, IsHost}
use Rattle.ioa_tree.specs.WellFormed.{well_formed}
use Rattle.ioa_tree.proofs.Early.{each_implies}
use Rattle.ioa_compose.specs.declared.binding.Binding.{Binding}
use Rattle.ioa_compose.specs.declared.member.Member as held
use Rattle.ioa_compose.specs.Bindings.{crash_in, host_in, Binds, IsStarted}
use Rattle.ioa_crash.specs.Crashes.{MayCrash}
use Rattle.ioa_compose.specs.Held.{member_of, HoldsPositions, AllHoldPositions, KeepsPositions}
use Rattle.ioa_crash.specs.Rewriting.{spelled, signals, with_signals, crashing}
use Rattle.ioa_compose.specs.Signatures.{domains_in, ArePositionsOf}
use Rattle.ioa_compose.specs.Simulates.{member_by, MayStand}
use Rattle.ioa_compose.proofs.FineLemmas.{AllBind}
use Rattle.ioa_compose.proofs.HostLemmas.{host_may}
use Rattle.ioa_crash.proofs.RewrittenEntries.{all_flat_at, constant_same}
use Rattle.ioa_crash.proofs.RewrittenNames.{names}
use Rattle.ioa_compose.proofs.WithSignals.{own_entries}

-- a text can spell the names in the entry's positions
abbrev are_spelled : EntryTree → Bool
are_spelled e = list_all spelled (flat_map names_of_position e.positions)

-- ---- the rewritten instance

module _ (n : CrashTree) (i : Instance) (starts : List Val) (h : MayCrash n i starts) where
  domain_same : (p : PositionTree) (d : Domain) → list_all spelled (names_of_position p) ≡ true → IsDomainOf i p d → IsDomainOf (crashing n i starts) p d
  domain_same (typed f) (every ty) s k = k
  domain_same (typed f) (single v) s k = k
  domain_same (only c) (every ty) s k = k
  domain_same (only c) (single v) s k = constant_same n i starts h c s ∙ k

  domains_same : (ps : List PositionTree) (ds : List Domain) → list_all spelled (flat_map names_of_position ps) ≡ true → AreDomainsOf i ps ds
      → AreDomainsOf (crashing n i starts) ps ds
  domains_same [] [] s k = tt
  domains_same [] (d ∷ ds) s k = absurd k
  domains_same (p ∷ ps) [] s k = absurd k
  domains_same (p ∷ ps) (d ∷ ds) s k = let both = all_flat_at p ps s in (domain_same p d both.0 k.0, domains_same ps ds both.1 k.1)

  positions_same : (es : List EntryTree) (dss : List (List Domain)) → list_all are_spelled es ≡ true → ArePositionsOf i es dss
      → ArePositionsOf (crashing n i starts) es dss
  positions_same [] [] s k = tt
  positions_same [] (ds ∷ dss) s k = absurd k
  positions_same (e ∷ es) [] s k = absurd k
  positions_same (e ∷ es) (ds ∷ dss) s k =
      let both = and_parts (are_spelled e) (list_all are_spelled es) s in (domains_same e.positions ds both.0 k.0, positions_same es dss both.1 k.1)

  declared_spelled : list_all are_spelled i.automaton.entries ≡ true
  declared_spelled =
      each_implies (λ e. list_all spelled (names_of_entry e)) are_spelled i.automaton.entries
      (λ e k. (and_parts (spelled e.name) (are_spelled e) k).1) (names n i starts h).entries

  entries_spelled : list_all are_spelled (with_signals (Some n) i.automaton).entries ≡ true
  entries_spelled =
      list_all-append are_spelled i.automaton.entries (signals n)
      ∙ and_from (list_all are_spelled i.automaton.entries) (list_all are_spelled (signals n)) declared_spelled refl

-- the component's entries have the positions that the host's have, and signals have none
stands_positioned : (o : Option CrashTree) (p : Host) → MayStand o p → (dss : List (List Domain)) → ArePositionsOf p.instance (with_signals o p.instance.automaton).entries dss
    → ArePositionsOf (member_by o p).instance (member_by o p).instance.automaton.entries dss
stands_positioned None p may dss h = h
stands_positioned (Some n) p may dss h =
    positions_same n p.instance p.starts may (with_signals (Some n) p.instance.automaton).entries dss (entries_spelled n p.instance p.starts may) h

-- ---- components of a source

-- what is bound and started is a host of the source
pub host_of_started : (s : SourceTree) (types : Table) (i : TreeInstance) (b : Binding) (m : Member) → types ≡ types_of s → Binds s (instance_of i) b
    → (u : IsStarted types b m) → IsHost s (instance_of i) (host_in types b u.0)
host_of_started s types i b m e z u = record {
  name = z.name;
  types = e;
  automaton = z.automaton;
  arguments = z.arguments;
  fit = z.fit;
  starts = u.1;
  crash = z.crash;
  fine = z.fine;
}

module _ (s : SourceTree) (types : Table) (fine : well_formed s ≡ true) (legal : LegalNames s) (same : types ≡ types_of s) where
  -- a component that keeps the positions of its binding holds those of its own entries
  one_holds : (i : TreeInstance) (b : Binding) (m : held.Member) → Binds s (instance_of i) b → IsStarted types b (member_of m) → KeepsPositions b m → HoldsPositions m
  one_holds i b m z u k =
      let p = host_in types b u.0 in
      let a = automaton_of b.automaton.now in
      let dss = map domains_in b.positions.items in
      let may = host_may s fine legal (instance_of i) p (host_of_started s types i b (member_of m) same z u) in
      let own = ap (λ (t : AutomatonTree). t.entries) z.own ∙ own_entries (crash_in b) a in
      let bound = subst (λ t. ArePositionsOf (record p.instance { types = t }) (automaton_of b.own).entries dss) (sym same) z.positions in
      let host = subst (λ es. ArePositionsOf p.instance es dss) own bound in
      subst (λ (n : Member). ArePositionsOf n.instance n.instance.automaton.entries (map domains_in m.positions.items)) (sym u.2)
      (subst (λ pss. ArePositionsOf (member_by p.crash p).instance (member_by p.crash p).instance.automaton.entries (map domains_in pss.items)) (sym k)
      (stands_positioned p.crash p may dss host))

  pub all_hold : (is : List TreeInstance) (bs : List Binding) (ms : List held.Member) → AllBind s is bs → AllZip (λ b m. IsStarted types b (member_of m)) bs ms
      → AllZip KeepsPositions bs ms → AllHoldPositions ms
  all_hold [] [] [] z u k = All-nil HoldsPositions
  all_hold [] [] (m ∷ ms) z u k = absurd u
  all_hold [] (b ∷ bs) ms z u k = absurd z
  all_hold (i ∷ is) [] ms z u k = absurd z
  all_hold (i ∷ is) (b ∷ bs) [] z u k = absurd u
  all_hold (i ∷ is) (b ∷ bs) (m ∷ ms) z u k =
      All-cons HoldsPositions m ms (one_holds i b m z.0 u.0 k.0) (all_hold is bs ms z.1 u.1 k.1)
