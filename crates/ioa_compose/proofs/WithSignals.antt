-- An automaton with inputs for crash and recover.
use Rattle.std.proofs.Common.{◌≡◌, Bool, true, ◌&&◌, List, [], ◌∷◌, map, Option, Some, None, refl, ◌∙◌}
use Rattle.std.specs.List.{list_all, list_any}
use Rattle.std.specs.Str.{bytes_eq}
use Rattle.std.proofs.lemmas.Bool.{and_from}
use Rattle.std.proofs.lemmas.List.Folds.{list_any-append, list_all-append}
use Rattle.ioa_value.specs.Actions.{Name}
use Rattle.ioa_value.specs.Plain.{Val}
use Rattle.ioa_value.specs.Positions.{Domain, every, single}
use Rattle.ioa_value.specs.Table.{Table, distinct}
use Rattle.ioa_tree.specs.Tree.{CrashTree, ConstantTree, positive, negative, truth_literal, reference, PositionTree, typed, only, EntryTree, AutomatonTree}
use Rattle.ioa_tree.specs.Components.{is_output}
use Rattle.ioa_tree.specs.Compositions.{has_output}
use Rattle.ioa_tree.specs.Domains.{IsDomainOf, AreDomainsOf}
use Rattle.ioa_tree.specs.Hosts.{crash_fine}
use Rattle.ioa_tree.specs.Instances.{Instance, constant_value, start_values}
use Rattle.ioa_tree.specs.WellFormed.{position_fine, formals, entry_fine, automaton_fine}
use Rattle.ioa_tree.proofs.Early.{each_implies}
use Rattle.ioa_tree.proofs.FineParts.{fine_parts, entry_parts}
use Rattle.ioa_compose.specs.Bindings.{instance_with}
use Rattle.ioa_crash.specs.Rewriting.{signals, with_signals, own_automaton}
use Rattle.ioa_compose.specs.Signatures.{ArePositionsOf}
use Rattle.ioa_crash.proofs.SpelledNames.{or_false}
use Rattle.ioa_crash.proofs.RewrittenEntries.{apart_of}
use Rattle.ioa_crash.proofs.RewrittenFine.{signals_distinct}

pub more_formals : (o : Option CrashTree) (a : AutomatonTree) → (with_signals o a).formals ≡ a.formals
more_formals None a = refl
more_formals (Some n) a = refl

-- it starts with the same values
pub more_starts : (types : Table) (o : Option CrashTree) (a : AutomatonTree) (vs : List Val) → start_values (instance_with types (with_signals o a) vs) ≡ start_values (instance_with types a vs)
more_starts types None a vs = refl
more_starts types (Some n) a vs = refl

-- it has the same outputs
pub more_outputs : (x : Name) (o : Option CrashTree) (a : AutomatonTree) → has_output x (with_signals o a) ≡ has_output x a
more_outputs x None a = refl
more_outputs x (Some n) a =
    let test : EntryTree → Bool = λ e. is_output (Some e.kind) && bytes_eq e.name x in
    list_any-append test a.entries (signals n) ∙ or_false (list_any test a.entries)

pub more_names : (o : Option CrashTree) (a : AutomatonTree) → crash_fine o a ≡ true → distinct (map (λ e. e.name) a.entries) ≡ true → distinct (map (λ e. e.name) (with_signals o a).entries) ≡ true
more_names None a h d = d
more_names (Some n) a h d = signals_distinct n a (apart_of n a h) d

-- the positions of its entries are fine
abbrev pub PositionsFine : Table → AutomatonTree → Type 0
PositionsFine types a = list_all (λ e. list_all (position_fine types (formals types types [] a)) e.positions) a.entries ≡ true

pub positions_fine : (types : Table) (g : List Name) (a : AutomatonTree) → automaton_fine types types g a ≡ true → PositionsFine types a
positions_fine types g a h =
    each_implies (entry_fine types types g a) (λ e. list_all (position_fine types (formals types types [] a)) e.positions) a.entries
    (λ e k. (entry_parts types types g a e k).positions) (fine_parts types types g a h).entries

pub more_positions : (types : Table) (o : Option CrashTree) (a : AutomatonTree) → PositionsFine types a → PositionsFine types (with_signals o a)
more_positions types None a h = h
more_positions types (Some n) a h =
    let test : EntryTree → Bool = λ e. list_all (position_fine types (formals types types [] a)) e.positions in
    list_all-append test a.entries (signals n) ∙ and_from (list_all test a.entries) (list_all test (signals n)) h refl

module _ (types : Table) (n : CrashTree) (a : AutomatonTree) (vs : List Val) where
  abbrev old : Instance
  old = instance_with types a vs

  abbrev new : Instance
  new = instance_with types (with_signals (Some n) a) vs

  constant_more : (c : ConstantTree) → constant_value new c ≡ constant_value old c
  constant_more (positive k) = refl
  constant_more (negative k) = refl
  constant_more (truth_literal b) = refl
  constant_more (reference x) = refl

  domain_more : (p : PositionTree) (d : Domain) → IsDomainOf old p d → IsDomainOf new p d
  domain_more (typed f) (every ty) h = h
  domain_more (typed f) (single v) h = h
  domain_more (only c) (every ty) h = h
  domain_more (only c) (single v) h = constant_more c ∙ h

  domains_more : (ps : List PositionTree) (ds : List Domain) → AreDomainsOf old ps ds → AreDomainsOf new ps ds
  domains_more [] [] h = tt
  domains_more [] (d ∷ ds) h = absurd h
  domains_more (p ∷ ps) [] h = absurd h
  domains_more (p ∷ ps) (d ∷ ds) h = (domain_more p d h.0, domains_more ps ds h.1)

-- positions mean the same
domains_signed : (types : Table) (o : Option CrashTree) (a : AutomatonTree) (vs : List Val) (ps : List PositionTree) (ds : List Domain)
    → AreDomainsOf (instance_with types a vs) ps ds → AreDomainsOf (instance_with types (with_signals o a) vs) ps ds
domains_signed types None a vs ps ds h = h
domains_signed types (Some n) a vs ps ds h = domains_more types n a vs ps ds h

-- so do those of each entry
pub all_signed : (types : Table) (o : Option CrashTree) (a : AutomatonTree) (vs : List Val) (es : List EntryTree) (dss : List (List Domain))
    → ArePositionsOf (instance_with types a vs) es dss → ArePositionsOf (instance_with types (with_signals o a) vs) es dss
all_signed types o a vs [] [] h = tt
all_signed types o a vs [] (ds ∷ dss) h = absurd h
all_signed types o a vs (e ∷ es) [] h = absurd h
all_signed types o a vs (e ∷ es) (ds ∷ dss) h = (domains_signed types o a vs e.positions ds h.0, all_signed types o a vs es dss h.1)

-- ---- a component's own automaton

-- it has the entries with these inputs
pub own_entries : (o : Option CrashTree) (a : AutomatonTree) → (own_automaton o a).entries ≡ (with_signals o a).entries
own_entries None a = refl
own_entries (Some n) a = refl

-- their positions are fine where those that are declared are
pub own_positions : (types : Table) (o : Option CrashTree) (a : AutomatonTree) → PositionsFine types a
    → list_all (λ e. list_all (position_fine types (formals types types [] a)) e.positions) (own_automaton o a).entries ≡ true
own_positions types None a h = h
own_positions types (Some n) a h = more_positions types (Some n) a h
