-- What a source declares of an effect: its statements, its instance, and a count for each of its arms and bodies.
use Rattle.std.proofs.Common.{◌≡◌, ◌-◌, ◌≤◌, ℕ, Bool, Global, String, false, List, [], ◌∷◌, Some, ap, arith, cond, drop, find, get_or, length, map, refl, string_bytes, sym, take, ◌∙◌}
use Rattle.std.specs.Option.{option_map_or}
use Rattle.std.specs.Str.{bytes_eq}
use Rattle.std.proofs.lemmas.List.{length-map, take-map, take_all}
use Rattle.ioa_value.specs.Plain.{plain}
use Rattle.ioa_value.specs.Table.{Table}
use Rattle.ioa_value.specs.declared.value.Value.{Value}
use Rattle.ioa_tree.specs.declared.tree.Automaton.{Automaton}
use Rattle.ioa_tree.specs.declared.tree.Transition.{Transition}
use Rattle.ioa_tree.specs.Instances.{transition_for}
use Rattle.ioa_tree.specs.Tree.{AutomatonTree, EntryTree, SourceTree, Stmts, TransitionTree, stop}
use Rattle.ioa_tree.specs.View.{automaton_of, field_of, name_of, transition_of}
use Rattle.ioa_compose.specs.declared.member.Member.{Member as Component}
use Rattle.ioa_compose.specs.Held.{member_of}
use Rattle.ioa_coverage.specs.Effects.{declared_automaton, declared_instance, instance_of}
use Rattle.ioa_coverage.specs.Taken.{effect_labels, places_in}
use Rattle.ioa_coverage.proofs.Labelled.{labels_long}

-- ---- a list by its first item and the others, as a pattern takes it apart

abbrev pub others_of : {X : Type 0} → List X → List X
others_of xs = take (length xs - 1) (drop 1 xs)

pub parted : {X : Type 0} (xs : List X) (x : X) → 1 ≤ length xs → x ≡ get_or xs 0 x → xs ≡ x ∷ others_of xs
parted [] x some is = absurd (omega arith)
parted {X} (y ∷ ys) x some is =
    let rest : take (length (y ∷ ys) - 1) ys ≡ ys = take_all (length (y ∷ ys) - 1) ys (omega arith) in
    ap (λ (z : X). z ∷ ys) (sym is) ∙ ap (λ (zs : List X). x ∷ zs) (sym rest)

-- ---- the statements of an entry's effect

module _ (e : EntryTree) where
  abbrev effect_among : List TransitionTree → Stmts
  effect_among ts = option_map_or (λ (t : TransitionTree). t.effect) (find (λ (t : TransitionTree). bytes_eq t.name e.name) ts) stop

  -- by whether the first transition has the entry's name
  by_first : (ts : List Transition) (t : Transition) (b : Bool) (a : AutomatonTree) → 1 ≤ length ts → t ≡ get_or ts 0 t → bytes_eq (name_of t.name) e.name ≡ b
      → a.transitions ≡ map transition_of ts
      → effect_among a.transitions ≡ option_map_or (λ (u : TransitionTree). u.effect) (cond b (Some (transition_of t)) (find (λ (u : TransitionTree). bytes_eq u.name e.name) (map transition_of (others_of ts)))) stop
  by_first ts t b a some at test is =
      ap effect_among (is ∙ ap (map transition_of) (parted ts t some at))
      ∙ ap (λ (c : Bool). option_map_or (λ (u : TransitionTree). u.effect) (cond c (Some (transition_of t)) (find (λ (u : TransitionTree). bytes_eq u.name e.name) (map transition_of (others_of ts)))) stop) test

  pub first_lacks : (ts : List Transition) (t : Transition) (a : AutomatonTree) (found : Stmts) → 1 ≤ length ts → t ≡ get_or ts 0 t → bytes_eq (name_of t.name) e.name ≡ false
      → ((b : AutomatonTree) → b.transitions ≡ map transition_of (others_of ts) → found ≡ option_map_or (λ (u : TransitionTree). u.effect) (transition_for b e) stop)
      → a.transitions ≡ map transition_of ts → found ≡ option_map_or (λ (u : TransitionTree). u.effect) (transition_for a e) stop
  first_lacks ts t a found some at test rest is =
      rest (record a { transitions = map transition_of (others_of ts) }) refl ∙ sym (by_first ts t false a some at test is)

-- ---- what the entries of a component have in common

pub instance_same : (s : SourceTree) (types : Table) (m : Component) (a : Automaton) (n : ℕ) (given : List Value) → automaton_of a ≡ declared_automaton s (automaton_of m.automaton) → n ≡ length a.formals.items
    → given ≡ take n m.arguments.items → instance_of types a given ≡ declared_instance s types (member_of m)
instance_same s types m a n given is long first =
    let d = declared_automaton s (automaton_of m.automaton) in
    let many : n ≡ length d.formals = long ∙ sym (length-map a.formals.items field_of) ∙ ap (λ (b : AutomatonTree). length b.formals) is in
    let values : map plain given ≡ take (length d.formals) (map plain m.arguments.items) =
    ap (map plain) first ∙ sym (take-map plain n m.arguments.items) ∙ ap (λ k. take k (map plain m.arguments.items)) many in
    ap (λ (b : AutomatonTree). record (instance_of types a given) { automaton = b }) is ∙ ap (λ vs. record (declared_instance s types (member_of m)) { arguments = vs }) values

-- ---- counts

-- as many as there are labels, of which each arm and body has one
pub as_many_counts : (ls : List (String Global)) (ss : Stmts) (n : ℕ) → n ≡ length ls → map string_bytes ls ≡ effect_labels ss → n ≡ places_in ss
as_many_counts ls ss n long named = long ∙ sym (length-map ls string_bytes) ∙ ap length named ∙ labels_long ss
