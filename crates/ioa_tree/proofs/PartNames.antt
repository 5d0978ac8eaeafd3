-- The names of a source's parts, where all of the source's are legal.
use Rattle.std.proofs.Common.{◌≡◌, Bool, true, false, cond, List, [], ◌∷◌, ◌++◌, Option, Some, None, All, subst}
use Rattle.std.specs.List.{flat_map, find}
use Rattle.std.specs.Prelude.{reverse}
use Rattle.std.proofs.lemmas.List.{reverse-append}
use Rattle.std.specs.Str.{bytes_eq}
use Rattle.std.proofs.lemmas.List.Elements.{All-nil, All-cons, All-head, All-tail, All-same, All-push, All-weaker}
use Rattle.ioa_value.specs.Actions.{Name}
use Rattle.ioa_value.specs.Names.{IsName}
use Rattle.ioa_tree.specs.Tree.{EntryTree, AutomatonTree, InstanceTree, CompositionTree, DeclarationTree, declared_type, automaton, composition, invariant, SourceTree}
use Rattle.ioa_tree.specs.Compositions.{automata, compositions, invariants, first_item, picked, automaton_named}
use Rattle.ioa_tree.specs.Names.{names_of_expr, names_of_field, names_of_position, names_of_entry, names_of_variable, names_of_transition, names_of_automaton, names_of_crash, names_of_instance, names_of_composition, names_of_invariant, names_of_declaration, LegalNames}

abbrev AreNames : List Name → Type 0
AreNames ns = All IsName ns

module _ {X : Type 0} (P : X → Type 0) where
  pub all_left : (xs ys : List X) → All P (xs ++ ys) → All P xs
  all_left [] ys h = All-nil P
  all_left (x ∷ xs) ys h = All-cons P x xs (All-head P x (xs ++ ys) h) (all_left xs ys (All-tail P x (xs ++ ys) h))

  pub all_right : (xs ys : List X) → All P (xs ++ ys) → All P ys
  all_right [] ys h = h
  all_right (x ∷ xs) ys h = all_right xs ys (All-tail P x (xs ++ ys) h)

  pub all_each : {A : Type 0} (f : A → List X) (items : List A) → All P (flat_map f items) → All (λ a. All P (f a)) items
  all_each f [] h = All-nil (λ a. All P (f a))
  all_each f (a ∷ items) h = All-cons (λ a. All P (f a)) a items (all_left (f a) (flat_map f items) h) (all_each f items (all_right (f a) (flat_map f items) h))

  all_reverse : (xs : List X) → All P xs → All P (reverse xs)
  all_reverse [] h = All-nil P
  all_reverse (x ∷ xs) h =
      let rest = all_reverse xs (All-tail P x xs h) in
      All-same P (reverse (x ∷ xs)) (reverse xs ++ x ∷ []) (reverse-append (x ∷ []) xs) (All-push P (reverse xs) x rest (All-head P x xs h))

  -- what is found is one of them
  pub all_found : (test : X → Bool) (xs : List X) (x : X) → find test xs ≡ Some x → All P xs → P x
  all_found test [] x e h = absurd (cc)
  all_found test (y ∷ xs) x e h = go (test y) e (λ k. all_found test xs x k (All-tail P y xs h))
    where
      go : (b : Bool) → cond b (Some y) (find test xs) ≡ Some x → (find test xs ≡ Some x → P x) → P x
      go true e later = let same : y ≡ x = cc in subst P same (All-head P y xs h)
      go false e later = later e

legal_automata : (s : SourceTree) → All (λ d. AreNames (names_of_declaration d)) s → All (λ a. AreNames (names_of_automaton a)) (automata s)
legal_automata [] h = All-nil (λ a. AreNames (names_of_automaton a))
legal_automata (declared_type t ∷ ds) h = legal_automata ds (All-tail (λ d. AreNames (names_of_declaration d)) (declared_type t) ds h)
legal_automata (automaton a ∷ ds) h =
    let D : DeclarationTree → Type 0 = λ d. AreNames (names_of_declaration d) in
    All-cons (λ a. AreNames (names_of_automaton a)) a (automata ds) (All-head D (automaton a) ds h) (legal_automata ds (All-tail D (automaton a) ds h))
legal_automata (composition c ∷ ds) h = legal_automata ds (All-tail (λ d. AreNames (names_of_declaration d)) (composition c) ds h)
legal_automata (invariant i ∷ ds) h = legal_automata ds (All-tail (λ d. AreNames (names_of_declaration d)) (invariant i) ds h)

legal_compositions : (s : SourceTree) → All (λ d. AreNames (names_of_declaration d)) s → All (λ c. AreNames (names_of_composition c)) (compositions s)
legal_compositions [] h = All-nil (λ c. AreNames (names_of_composition c))
legal_compositions (declared_type t ∷ ds) h = legal_compositions ds (All-tail (λ d. AreNames (names_of_declaration d)) (declared_type t) ds h)
legal_compositions (automaton a ∷ ds) h = legal_compositions ds (All-tail (λ d. AreNames (names_of_declaration d)) (automaton a) ds h)
legal_compositions (composition c ∷ ds) h =
    let D : DeclarationTree → Type 0 = λ d. AreNames (names_of_declaration d) in
    All-cons (λ c. AreNames (names_of_composition c)) c (compositions ds) (All-head D (composition c) ds h) (legal_compositions ds (All-tail D (composition c) ds h))
legal_compositions (invariant i ∷ ds) h = legal_compositions ds (All-tail (λ d. AreNames (names_of_declaration d)) (invariant i) ds h)

-- the names of the invariants of declarations with legal names
each_legal_invariant : (s : SourceTree) → All (λ d. AreNames (names_of_declaration d)) s → All (λ i. AreNames (names_of_invariant i)) (invariants s)
each_legal_invariant [] h = All-nil (λ i. AreNames (names_of_invariant i))
each_legal_invariant (declared_type t ∷ ds) h = each_legal_invariant ds (All-tail (λ d. AreNames (names_of_declaration d)) (declared_type t) ds h)
each_legal_invariant (automaton a ∷ ds) h = each_legal_invariant ds (All-tail (λ d. AreNames (names_of_declaration d)) (automaton a) ds h)
each_legal_invariant (composition c ∷ ds) h = each_legal_invariant ds (All-tail (λ d. AreNames (names_of_declaration d)) (composition c) ds h)
each_legal_invariant (invariant i ∷ ds) h =
    let D : DeclarationTree → Type 0 = λ d. AreNames (names_of_declaration d) in
    All-cons (λ i. AreNames (names_of_invariant i)) i (invariants ds) (All-head D (invariant i) ds h) (each_legal_invariant ds (All-tail D (invariant i) ds h))

pub legal_invariants : (s : SourceTree) → LegalNames s → All (λ i. All IsName (names_of_invariant i)) (invariants s)
legal_invariants s h = each_legal_invariant s (all_each IsName names_of_declaration s h)

pub legal_automaton : (s : SourceTree) (x : Name) (a : AutomatonTree) → LegalNames s → automaton_named s x ≡ Some a → All IsName (names_of_automaton a)
legal_automaton s x a h e =
    all_found (λ a. AreNames (names_of_automaton a)) (λ a. bytes_eq a.name x) (automata s) a e (legal_automata s (all_each IsName names_of_declaration s h))

-- the names of an automaton's entries
pub legal_entries : (a : AutomatonTree) → All IsName (names_of_automaton a) → All (λ e. IsName e.name) a.entries
legal_entries a h =
    let formals = flat_map names_of_field a.formals in
    let entries = flat_map names_of_entry a.entries in
    let variables = flat_map names_of_variable a.variables in
    let transitions = flat_map names_of_transition a.transitions in
    let inside = All-tail IsName a.name (formals ++ (entries ++ (variables ++ transitions))) h in
    let of_entries = all_left IsName entries (variables ++ transitions) (all_right IsName formals (entries ++ (variables ++ transitions)) inside) in
    All-weaker (λ (e : EntryTree). AreNames (names_of_entry e)) (λ e. IsName e.name) (λ e k. All-head IsName e.name (flat_map names_of_position e.positions) k) a.entries
    (all_each IsName names_of_entry a.entries of_entries)

pub legal_composition : (s : SourceTree) (o : Option Name) (c : CompositionTree) → LegalNames s → picked s o ≡ Some c → All IsName (names_of_composition c)
legal_composition s (Some x) c h e =
    all_found (λ c. AreNames (names_of_composition c)) (λ c. bytes_eq c.name x) (compositions s) c e (legal_compositions s (all_each IsName names_of_declaration s h))
legal_composition s None c h e =
    let all = legal_compositions s (all_each IsName names_of_declaration s h) in
    first_legal (reverse (compositions s)) c e (all_reverse (λ c. AreNames (names_of_composition c)) (compositions s) all)
  where
    first_legal : (cs : List CompositionTree) (c : CompositionTree) → first_item cs ≡ Some c → All (λ c. AreNames (names_of_composition c)) cs → AreNames (names_of_composition c)
    first_legal [] c e h = absurd (cc)
    first_legal (d ∷ cs) c e h =
        let same : d ≡ c = cc in
        subst (λ c. AreNames (names_of_composition c)) same (All-head (λ c. AreNames (names_of_composition c)) d cs h)

-- the names of a composition's components
pub legal_instances : (c : CompositionTree) → All IsName (names_of_composition c) → All (λ i. IsName i.name) c.instances
legal_instances c h =
    let of_instances = flat_map names_of_instance c.instances in
    let inside = all_left IsName of_instances c.hidden (All-tail IsName c.name (of_instances ++ c.hidden) h) in
    All-weaker (λ (i : InstanceTree). AreNames (names_of_instance i)) (λ i. IsName i.name) (λ i k. All-head IsName i.name (i.automaton ∷ (flat_map names_of_expr i.arguments ++ names_of_crash i.crash)) k) c.instances
    (all_each IsName names_of_instance c.instances inside)

-- the names by which they crash and recover
pub legal_crashes : (c : CompositionTree) → All IsName (names_of_composition c) → All (λ i. All IsName (names_of_crash i.crash)) c.instances
legal_crashes c h =
    let of_instances = flat_map names_of_instance c.instances in
    let inside = all_left IsName of_instances c.hidden (All-tail IsName c.name (of_instances ++ c.hidden) h) in
    All-weaker (λ (i : InstanceTree). AreNames (names_of_instance i)) (λ i. All IsName (names_of_crash i.crash))
    (λ i k. all_right IsName (i.name ∷ i.automaton ∷ flat_map names_of_expr i.arguments) (names_of_crash i.crash) k) c.instances
    (all_each IsName names_of_instance c.instances inside)

-- the names that a composition hides
pub legal_hidden : (c : CompositionTree) → All IsName (names_of_composition c) → All IsName c.hidden
legal_hidden c h =
    let of_instances = flat_map names_of_instance c.instances in
    all_right IsName of_instances c.hidden (All-tail IsName c.name (of_instances ++ c.hidden) h)
