-- What is asked of a composition, over what it holds.
use Rattle.std.proofs.Common.{◌≡◌, ℕ, ◌<◌, length, get_or, true, List, [], ◌∷◌, ◌++◌, map, take, Some, Result, Ok, Err, IfOk, sym, ap, subst, ◌∙◌}
use Rattle.std.specs.Prelude.{slice_get}
use Rattle.std.specs.List.{list_all}
use Rattle.std.specs.Str.{bytes_eq}
use Rattle.std.proofs.lemmas.Option.{slice_get_within}
use Rattle.std.proofs.lemmas.List.{length-map}
use Rattle.ioa_value.specs.declared.memory.OutOfMemory.{OutOfMemory}
use Rattle.ioa_value.specs.Operators.{Answer}
use Rattle.ioa_value.specs.Plain.{Val}
use Rattle.ioa_value.proofs.ItemLemmas.{at_map}
use Rattle.ioa_tree.specs.declared.tree.Invariant.{Invariant}
use Rattle.ioa_tree.specs.Tree.{InvariantTree}
use Rattle.ioa_tree.specs.View.{invariant_of, automaton_of}
use Rattle.ioa_tree.specs.Names.{names_of_expr}
use Rattle.ioa_tree.specs.Instances.{Fit, formal_values, state_of}
use Rattle.ioa_tree.specs.Meaning.{over, val}
use Rattle.ioa_tree.specs.WellFormed.{variable_fields, held as held_names, has_ty}
use Rattle.ioa_tree.specs.Compositions as compositions
use Rattle.ioa_compose.specs.declared.member.Member.{Member}
use Rattle.ioa_compose.specs.Held.{Held, member_of, composed_of}
use Rattle.ioa_compose.specs.Fine.{IsFine, IsSound}
use Rattle.ioa_crash.specs.Limits.{component_limits}
use Rattle.ioa_crash.specs.Rewriting.{spelled}
use Rattle.ioa_compose.specs.Questions.{OfThese, first_of, IsQuestion, IsAnswerable}
use Rattle.ioa_clash.proofs.ZipLemmas.{all_found}
use Rattle.ioa_compose.proofs.MemberLemmas.{fine_at, declared_at}
use Rattle.ioa_compose.proofs.FirstVariables.{typed_front, val_front}
use Rattle.ioa_crash.proofs.RewrittenNames.{fit_length}

-- a place that has an item is within the list
within : {X Y : Type 0} (f : X → Y) (xs : List X) (i : ℕ) (y : Y) → slice_get (map f xs) i ≡ Some y → i < length xs
within f xs i y e = subst (λ n. i < n) (length-map xs f) (slice_get_within (map f xs) i y e)

module _ (h : Held) (i k : ℕ) (values : List Val) (q : IsQuestion (composed_of h) i k values) (m : Member) (v : Invariant)
    (e : m ≡ get_or h.members i m) (at : v ≡ get_or h.invariants k v) where
  member-within : i < length h.members
  member-within = within member_of h.members i q.member q.member_there

  member-there : slice_get (map member_of h.members) i ≡ Some (member_of m)
  member-there = at_map member_of h.members i m member-within e

  invariant-there : slice_get (map invariant_of h.invariants) k ≡ Some (invariant_of v)
  invariant-there = at_map invariant_of h.invariants k v (within invariant_of h.invariants k q.invariant q.invariant_there) at

  asked-member : q.member ≡ member_of m
  asked-member = cc (member-there, q.member_there)

  asked-invariant : q.invariant ≡ invariant_of v
  asked-invariant = cc (invariant-there, q.invariant_there)

  fine : IsSound (composed_of h) → IsFine component_limits (member_of m)
  fine s = fine_at h.members i m s.members member-within e

  spells : IsSound (composed_of h) → list_all spelled (names_of_expr (invariant_of v).condition) ≡ true
  spells s = all_found (λ (u : InvariantTree). list_all spelled (names_of_expr u.condition) ≡ true) (map invariant_of h.invariants) k (invariant_of v) s.conditions invariant-there

  typed : IsSound (composed_of h) → has_ty m.types m.types (held_names m.types m.types [] (automaton_of m.automaton)) (invariant_of v).condition 0 ≡ true
  typed s =
      s.invariants i k (member_of m) (invariant_of v) member-there invariant-there
      (subst (λ u. bytes_eq u.automaton (member_of m).instance.automaton.name ≡ true) asked-invariant
      (subst (λ u. bytes_eq q.invariant.automaton u.instance.automaton.name ≡ true) asked-member q.about))

  fits : Fit m.types (variable_fields (first_of m.declared (automaton_of m.automaton))) values
  fits = subst (λ u. Fit u.instance.types (variable_fields (first_of u.declared u.instance.automaton)) values) asked-member q.fit

  -- it has an answer
  pub answerable : IsSound (composed_of h) → IsAnswerable (member_of m) (invariant_of v).condition values
  answerable s = record {
    types = declared_at h.types h.members i m s.types s.over member-within e;
    within = (fine s).declared;
    arguments = (fine s).arguments;
    state = fits;
    typed = typed_front (member_of m).instance m.declared (fine s).added (invariant_of v).condition (spells s) (typed s);
  }

  -- whatever the values of the variables behind them are
  pub whatever : {X : Type 0} (f : Answer → X) → IsSound (composed_of h) → (r : Result X OutOfMemory)
      → IfOk r (λ b. b ≡ f (val m.types (invariant_of v).condition (over (state_of (first_of m.declared (automaton_of m.automaton)) values) (formal_values (member_of m).instance))))
      → IfOk r (λ b. (more : List Val) → b ≡ f (val m.types (invariant_of v).condition (over (state_of (automaton_of m.automaton) (values ++ more)) (formal_values (member_of m).instance))))
  whatever f s (Ok b) said = λ more. said ∙ ap f (val_front (member_of m).instance m.declared (fine s).added (invariant_of v).condition (spells s) values more long)
    where
      long : length values ≡ length (take m.declared (automaton_of m.automaton).variables)
      long =
          sym (fit_length m.types (variable_fields (first_of m.declared (automaton_of m.automaton))) values fits)
          ∙ length-map (map (λ w. w.field) (take m.declared (automaton_of m.automaton).variables)) (λ f. f.name)
          ∙ length-map (take m.declared (automaton_of m.automaton).variables) (λ w. w.field)
  whatever f s (Err x) said = tt

  -- what is said of the component and the invariant that are found
  pub answers : {X : Type 0} (r : Result X OutOfMemory) (p : X → compositions.Member → InvariantTree → Type 0)
      → IfOk r (λ b. p b (member_of m) (invariant_of v)) → IfOk r (λ b. OfThese (composed_of h) i k (p b))
  answers (Ok b) p said = λ n w x y.
      let same : member_of m ≡ n = cc (member-there, x) in
      let alike : invariant_of v ≡ w = cc (invariant-there, y) in
      subst (λ u. p b n u) alike (subst (λ u. p b u (invariant_of v)) same said)
  answers (Err x) p said = tt
