-- What a rewritten automaton proposes is what the host does.
use Rattle.std.proofs.Common.{◌≡◌, ℕ, true, false, not, List, Option, Some, None, slice_get, refl, sym, ap, ◌∙◌}
use Rattle.std.specs.List.{list_all}
use Rattle.std.specs.Option.{option_map, option_map_or}
use Rattle.std.specs.Str.{bytes_eq}
use Rattle.ioa_value.specs.Actions.{Name}
use Rattle.ioa_value.specs.Plain.{Val}
use Rattle.ioa_value.specs.Table.{contains}
use Rattle.ioa_value.proofs.ItemLemmas.{all_at, find_both}
use Rattle.ioa_value.proofs.NameLemmas.{not_true}
use Rattle.ioa_tree.specs.Tree.{CrashTree, EntryTree, TransitionTree}
use Rattle.ioa_tree.specs.Names.{names_of_transition}
use Rattle.ioa_tree.specs.Meaning.{Env, or_else, over}
use Rattle.ioa_tree.specs.Instances.{Instance, formal_values, transition_for}
use Rattle.ioa_tree.specs.Proposing.{Words, Tried, idle, parameters, proposed}
use Rattle.ioa_tree.specs.Hosts.{HostState}
use Rattle.ioa_tree.proofs.TryAgreement.{parameters_same}
use Rattle.ioa_crash.specs.Rewriting.{spelled, guarded, crashing}
use Rattle.ioa_crash.specs.Crashes.{Corresponds, MayCrash}
use Rattle.ioa_crash.proofs.SpelledTrees.{parts_spelled}
use Rattle.ioa_crash.proofs.RewrittenNames.{names, formals_same}
use Rattle.ioa_crash.proofs.RewrittenEntries.{entry_names, all_others, signals_apart, others_found}
use Rattle.ioa_crash.proofs.SpelledNames.{other_way}

-- an entry does not have a name that none of them has
other_at : (es : List EntryTree) (k : ℕ) (e : EntryTree) (x : Name) → slice_get es k ≡ Some e → contains (entry_names es) x ≡ false → bytes_eq x e.name ≡ false
other_at es k e x at none =
    other_way e.name x (not_true (bytes_eq e.name x) (all_at (λ (d : EntryTree). not (bytes_eq d.name x)) es k e (all_others (λ (d : EntryTree). d.name) es x none) at))

module _ (n : CrashTree) (i : Instance) (starts : List Val) (may : MayCrash n i starts) (h : HostState Env) (s : Env) (r : Corresponds i.automaton h s)
    (words : Words) (taken : ℕ) (e : EntryTree) where
  agree : (x : Name) → spelled x ≡ true → or_else (formal_values (crashing n i starts) x) (s x) ≡ or_else (formal_values i x) (h.inner x)
  agree x k =
      ap (λ (u : Option Val). or_else u (s x)) (formals_same n i starts may x k)
      ∙ ap (λ (u : Option Val). or_else (formal_values i x) u) (sym (r.agree x k))

  abbrev proposes : Instance → Env → Option TransitionTree → Tried (List Val)
  proposes j t o = option_map_or (λ u. parameters words j.types (over (formal_values j) t) u.proposals e.positions taken) o (idle taken)

  spelled_parts : (u : TransitionTree) → transition_for i.automaton e ≡ Some u → list_all spelled (names_of_transition u) ≡ true
  spelled_parts u f = (find_both (λ v. bytes_eq v.name e.name) (λ v. list_all spelled (names_of_transition v)) i.automaton.transitions u f (names n i starts may).transitions).1

  alike : (o : Option TransitionTree) → transition_for i.automaton e ≡ o → proposes (crashing n i starts) s (option_map guarded o) ≡ proposes i h.inner o
  alike None f = refl
  alike (Some u) f =
      parameters_same words i.types spelled (over (formal_values (crashing n i starts)) s) (over (formal_values i) h.inner) agree u.proposals
      (parts_spelled u (spelled_parts u f)).proposals e.positions taken

  -- of an entry of the host
  pub proposed_alike : (k : ℕ) → slice_get i.automaton.entries k ≡ Some e → proposed (crashing n i starts) e s words taken ≡ proposed i e h.inner words taken
  proposed_alike k at =
      let apart = signals_apart n i starts may in
      let found = others_found n i starts may e (other_at i.automaton.entries k e n.crash at apart.crash) (other_at i.automaton.entries k e n.recover at apart.recover) in
      ap (proposes (crashing n i starts) s) found ∙ alike (transition_for i.automaton e) refl
