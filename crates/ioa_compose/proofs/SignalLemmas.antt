-- Hosts are compatible just where their automata with inputs for crash and recover are.
use Rattle.std.proofs.Common.{◌≡◌, suc, Bool, true, false, cond, ◌&&◌, ◌||◌, List, [], ◌∷◌, map, find, Option, Some, None, refl, sym, ap, ◌∙◌}
use Rattle.std.specs.Option.{option_map, option_map_or, option_or}
use Rattle.std.specs.Str.{bytes_eq}
use Rattle.std.proofs.lemmas.List.Folds.{find-append}
use Rattle.ioa_value.specs.Actions.{Act}
use Rattle.ioa_value.specs.Plain.{Val}
use Rattle.ioa_value.specs.Same.{same}
use Rattle.ioa_value.proofs.ItemLemmas.{find_at}
use Rattle.ioa_tree.specs.declared.tree.Kind.{Kind}
use Rattle.ioa_tree.specs.declared.tree.Kind.TheVariants.{Input}
use Rattle.ioa_tree.specs.Tree.{CrashTree, ConstantTree, positive, negative, truth_literal, reference, PositionTree, typed, only, EntryTree}
use Rattle.ioa_tree.specs.Instances.{Instance, constant_value, position_has, positions_have, entry_has, entry_for, component_of}
use Rattle.ioa_tree.specs.Hosts.{is_signal, hosted, crash_fine, reset_to, Host, host_of, hosts_of}
use Rattle.ioa_tree.proofs.Alike.{SameKinds, kinds_back, same_compatible}
use Rattle.ioa_crash.specs.Rewriting.{signal_entry, signals, with_signals}
use Rattle.ioa_compose.specs.Simulates.{signalled, AllNamed, SignalsDecide}
use Rattle.ioa_crash.proofs.RewrittenEntries.{Apart, apart_of, found_other, not_signal, signal_same}

module _ (n : CrashTree) (i : Instance) (free : crash_fine (Some n) i.automaton ≡ true) where
  abbrev more : Instance
  more = record i { automaton = with_signals (Some n) i.automaton }

  constant_same : (c : ConstantTree) → constant_value more c ≡ constant_value i c
  constant_same (positive k) = refl
  constant_same (negative k) = refl
  constant_same (truth_literal b) = refl
  constant_same (reference x) = refl

  position_same : (p : PositionTree) (v : Val) → position_has more p v ≡ position_has i p v
  position_same (typed f) v = refl
  position_same (only c) v = ap (λ o. option_map_or (λ w. same w v) o false) (constant_same c)

  positions_same : (ps : List PositionTree) (vs : List Val) → positions_have more ps vs ≡ positions_have i ps vs
  positions_same [] [] = refl
  positions_same [] (v ∷ vs) = refl
  positions_same (p ∷ ps) [] = refl
  positions_same (p ∷ ps) (v ∷ vs) =
      ap (λ b. b && positions_have more ps vs) (position_same p v) ∙ ap (λ b. position_has i p v && b) (positions_same ps vs)

  found_same : (a : Act) (es : List EntryTree) → find (entry_has more a) es ≡ find (entry_has i a) es
  found_same a [] = refl
  found_same a (e ∷ es) =
      ap (λ b. cond (bytes_eq e.name a.name && b) (Some e) (find (entry_has more a) es)) (positions_same e.positions a.vals)
      ∙ ap (λ o. cond (entry_has i a e) (Some e) o) (found_same a es)

  -- the kind of what is found: of an entry, or of a signal
  abbrev told : Option EntryTree → Bool → Bool → Option Kind
  told o c r = option_map (λ e. e.kind) (option_or o (cond c (Some (signal_entry n.crash)) (cond r (Some (signal_entry n.recover)) None)))

  kind_more : (a : Act) → (component_of more).kind_of a ≡ told (entry_for i a) (is_signal n.crash a) (is_signal n.recover a)
  kind_more a =
      ap (option_map (λ (e : EntryTree). e.kind)) (find-append (entry_has more a) i.automaton.entries (signals n))
      ∙ ap (λ o. option_map (λ (e : EntryTree). e.kind) (option_or o (find (entry_has more a) (signals n)))) (found_same a i.automaton.entries)
      ∙ ap (λ b. told (entry_for i a) b (entry_has more a (signal_entry n.recover))) (signal_same more n.crash a)
      ∙ ap (λ b. told (entry_for i a) (is_signal n.crash a) b) (signal_same more n.recover a)

  apart : Apart n i.automaton.entries
  apart = apart_of n i.automaton free

  pub kind_same : (a : Act) → (component_of more).kind_of a ≡ cond (is_signal n.crash a || is_signal n.recover a) (Some Input) ((component_of i).kind_of a)
  kind_same a = kind_more a ∙ go (entry_for i a) refl
    where
      none : (c r : Bool) → told None c r ≡ cond (c || r) (Some Input) None
      none true r = refl
      none false true = refl
      none false false = refl

      go : (o : Option EntryTree) → entry_for i a ≡ o
          → told o (is_signal n.crash a) (is_signal n.recover a) ≡ cond (is_signal n.crash a || is_signal n.recover a) (Some Input) (option_map (λ (e : EntryTree). e.kind) o)
      go None q = none (is_signal n.crash a) (is_signal n.recover a)
      go (Some e) q =
          let own : entry_has i a e ≡ true = (find_at (entry_has i a) i.automaton.entries e q).2 in
          let c = not_signal i n.crash e a (found_other (λ (x : EntryTree). x.name) (entry_has i a) i.automaton.entries e n.crash q apart.crash) own in
          let r = not_signal i n.recover e a (found_other (λ (x : EntryTree). x.name) (entry_has i a) i.automaton.entries e n.recover q apart.recover) own in
          sym (ap (λ b. cond (b || is_signal n.recover a) (Some Input) (Some e.kind)) c ∙ ap (λ b. cond b (Some Input) (Some e.kind)) r)

one_kind : (o : Option CrashTree) (p : Host) → crash_fine o p.instance.automaton ≡ true → (a : Act)
    → (component_of (record p.instance { automaton = with_signals o p.instance.automaton })).kind_of a
    ≡ (hosted o (reset_to p.instance.automaton.variables p.starts) (component_of p.instance)).kind_of a
one_kind None p h a = refl
one_kind (Some n) p h a = kind_same n p.instance h a

same_kinds : (hosts : List Host) → AllNamed hosts → SameKinds (map (λ (p : Host). component_of (signalled p)) hosts) (map host_of hosts)
same_kinds [] h = tt
same_kinds (p ∷ ps) h = (one_kind p.crash p (h 0 p refl), same_kinds ps (λ i q e. h (suc i) q e))

pub signals_decide : SignalsDecide
signals_decide h named =
    let ps = map (λ (p : Host). component_of (signalled p)) h.hosts in
    let k = same_kinds h.hosts named in
    (same_compatible ps (hosts_of h) k, same_compatible (hosts_of h) ps (kinds_back ps (hosts_of h) k))
