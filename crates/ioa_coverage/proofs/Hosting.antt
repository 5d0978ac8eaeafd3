-- The entries of a program's table are performed as often as those of the hosts.
use Rattle.std.proofs.Common.{◌≡◌, ◌++◌, ◌∷◌, ℕ, zero, suc, Bool, List, [], Option, Some, None, ◌&&◌, ap, ap₂, map, refl, subst, sym, ◌∙◌}
use Rattle.std.specs.Prelude.{count_by, slice_get}
use Rattle.std.specs.List.{AllZip, flat_map}
use Rattle.std.specs.Str.{bytes_eq}
use mathlib.Core.Path.{fun_ext}
use Rattle.ioa_value.specs.Actions.{Act, Name}
use Rattle.ioa_value.specs.Table.{Table}
use Rattle.ioa_tree.specs.Compositions.{Member}
use Rattle.ioa_tree.specs.Hosts.{Host}
use Rattle.ioa_tree.specs.Instances.{entry_has, positions_have}
use Rattle.ioa_tree.specs.Tree.{CrashTree, EntryTree}
use Rattle.ioa_tree.proofs.Domains.{domains_have}
use Rattle.ioa_crash.specs.Rewriting.{signal_entry, signals, with_signals}
use Rattle.ioa_compose.specs.Simulates.{IsMadeBy, IsMadeOf}
use Rattle.ioa_crash.proofs.RewrittenEntries.{signal_same}
use Rattle.ioa_compile.specs.Matching.{MatchesEntry, MatchesMember}
use Rattle.ioa_compile.specs.Programs.{EntryCode, MemberCode}
use Rattle.ioa_compile.specs.Tables.{is_in}
use Rattle.ioa_coverage.specs.Performed.{Counted, CoverageIsTheHosts, how_often, of_code, of_entry, of_host, of_member}

-- the table's entry has the actions of the automaton's
pub in_table : (m : Member) (types : Table) (e : EntryTree) (c : EntryCode) (a : Act) → types ≡ m.instance.types → MatchesEntry m e c → is_in types a c ≡ entry_has m.instance a e
in_table m types e c a same h =
    ap (λ (l : Table). is_in l a c) same
    ∙ sym (ap (λ (b : Bool). bytes_eq c.name a.name && b) (domains_have m.instance e.positions c.positions a.vals h.positions))
    ∙ ap (λ (n : Name). bytes_eq n a.name && positions_have m.instance e.positions a.vals) h.name

-- the component's entry has those of the host's, also where it is the one by which this crashes or recovers
module _ (p : Host) (m : Member) (a : Act) (e : EntryTree) where
  abbrev Alike : Type 0
  Alike = entry_has m.instance a e ≡ entry_has p.instance a e

  signal_alike : (x : Name) → signal_entry x ≡ e → Alike
  signal_alike x is = subst (λ (d : EntryTree). entry_has m.instance a d ≡ entry_has p.instance a d) is (signal_same m.instance x a ∙ sym (signal_same p.instance x a))

  of_signals : (n : CrashTree) (j : ℕ) → slice_get (signals n) j ≡ Some e → Alike
  of_signals n zero s = let q : signal_entry n.crash ≡ e = cc in signal_alike n.crash q
  of_signals n (suc zero) s = let q : signal_entry n.recover ≡ e = cc in signal_alike n.recover q
  of_signals n (suc (suc j)) s = absurd (cc)

  with_those : (n : CrashTree) (es : List EntryTree) (k : ℕ) → slice_get (es ++ signals n) k ≡ Some e → ((j : ℕ) → slice_get es j ≡ Some e → Alike) → Alike
  with_those n [] k s own = of_signals n k s
  with_those n (x ∷ es) zero s own = own zero s
  with_those n (x ∷ es) (suc k) s own = with_those n es k s (λ j q. own (suc j) q)

  pub host_alike : (crash : Option CrashTree) (k : ℕ) → IsMadeBy crash p m → slice_get (with_signals crash p.instance.automaton).entries k ≡ Some e → Alike
  host_alike None k made s = made.actions k e a s
  host_alike (Some n) k made s = with_those n p.instance.automaton.entries k s (λ j q. made.actions j e a q)

-- ---- entry by entry

module _ (acts : List Act) (p : Host) (m : Member) (c : MemberCode) (named : c.name ≡ p.name) (types : c.start.table ≡ m.instance.types) where
  entry_same : (e : EntryTree) (d : EntryCode) → MatchesEntry m e d → ((a : Act) → entry_has m.instance a e ≡ entry_has p.instance a e) → of_code acts c d ≡ of_entry acts p e
  entry_same e d h alike =
      let test : (λ (a : Act). is_in c.start.table a d) ≡ (λ (a : Act). entry_has p.instance a e) = fun_ext (λ a. in_table m c.start.table e d a types h ∙ alike a) in
      ap (λ (x : Name). how_often x d.name (count_by (λ a. is_in c.start.table a d) acts)) named
      ∙ ap (λ (x : Name). how_often p.name x (count_by (λ a. is_in c.start.table a d) acts)) h.name
      ∙ ap (λ (t : Act → Bool). how_often p.name e.name (count_by t acts)) test

  entries_same : (es : List EntryTree) (ds : List EntryCode) → AllZip (MatchesEntry m) es ds
      → ((k : ℕ) (e : EntryTree) → slice_get es k ≡ Some e → (a : Act) → entry_has m.instance a e ≡ entry_has p.instance a e) → map (of_code acts c) ds ≡ map (of_entry acts p) es
  entries_same [] [] h alike = refl
  entries_same [] (d ∷ ds) h alike = absurd h
  entries_same (e ∷ es) [] h alike = absurd h
  entries_same (e ∷ es) (d ∷ ds) h alike =
      ap₂ (λ (x : Counted) (xs : List Counted). x ∷ xs) (entry_same e d h.0 (alike zero e refl)) (entries_same es ds h.1 (λ k x s. alike (suc k) x s))

member_same : (acts : List Act) (p : Host) (m : Member) (c : MemberCode) → IsMadeOf p m → MatchesMember m c → of_member acts c ≡ of_host acts p
member_same acts p m c made matches =
    entries_same acts p m c (matches.name ∙ made.name) matches.types (with_signals p.crash p.instance.automaton).entries c.entries
    (subst (λ (es : List EntryTree). AllZip (MatchesEntry m) es c.entries) made.entries matches.entries) (λ k e s a. host_alike p m a e p.crash k made s)

-- ---- component by component

members_same : (acts : List Act) (hs : List Host) (ms : List Member) (cs : List MemberCode) → AllZip IsMadeOf hs ms → AllZip MatchesMember ms cs
    → flat_map (of_member acts) cs ≡ flat_map (of_host acts) hs
members_same acts [] [] [] made matches = refl
members_same acts [] [] (c ∷ cs) made matches = absurd matches
members_same acts [] (m ∷ ms) cs made matches = absurd made
members_same acts (h ∷ hs) [] cs made matches = absurd made
members_same acts (h ∷ hs) (m ∷ ms) [] made matches = absurd matches
members_same acts (h ∷ hs) (m ∷ ms) (c ∷ cs) made matches =
    ap₂ (λ (x y : List Counted). x ++ y) (member_same acts h m c made.0 matches.0) (members_same acts hs ms cs made.1 matches.1)

pub coverage_is_the_hosts : CoverageIsTheHosts
coverage_is_the_hosts p h acts runs = members_same acts h.hosts runs.0.members p.members runs.1.members runs.2.tables
