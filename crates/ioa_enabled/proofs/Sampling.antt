-- An entry's proposals by equal words, by its ways.
use Rattle.std.proofs.Common.{◌≡◌, ℕ, zero, suc, ◌+◌, ◌*◌, ◌<◌, ◌≤◌, List, [], ◌∷◌, length, find, map, All, Option, Some, None, pos, negsuc, refl, sym, ap, ap₂, subst, ◌∙◌, arith}
use Rattle.std.specs.Prelude.{◌≢◌, ◌==◌, ◌%◌, slice_get}
use Rattle.std.specs.Option.{option_map, option_map_or}
use Rattle.std.specs.Str.{bytes_eq}
use Rattle.std.proofs.lemmas.List.Elements.{All-cons, All-nil}
use Rattle.ioa_value.specs.Actions.{Act, Name}
use Rattle.ioa_value.specs.Operators.{Answer, gives, faults, nothing}
use Rattle.ioa_value.specs.Plain.{Val, truth, num, name, tuple, items}
use Rattle.ioa_value.specs.Table.{AreTypes, Table, Shape, truths, numbers, names, fields, sequence, shape_at, type_named}
use Rattle.ioa_value.proofs.TableLemmas.{stands}
use Rattle.ioa_tree.specs.Instances.{Instance, constant_value, formal_values, transition_for}
use Rattle.ioa_tree.specs.Meaning.{Env, over, val}
use Rattle.ioa_tree.specs.Proposing.{Words, Tried, tries, idle, then_try, exact, below, numbered, choice, parameter, parameters, proposed}
use Rattle.ioa_tree.specs.Tree.{FieldTree, PositionTree, typed, only, EntryTree, ChoiceTree, exactly, any_below, ProposalTree, TransitionTree}
use Rattle.ioa_run.specs.Proposers.{by_entry, filled_in}
use Rattle.ioa_enabled.specs.Ways.{Values, all_below, all_of, none, of_choice, of_parameter, of_positions, one, the_value, ways}
use Rattle.ioa_enabled.specs.Sampled.{NeverAgain, all_by_word, both, by_count, by_word, each_word, named}

-- what is tried, if something is
abbrev pub tried_of : {X : Type 0} → Tried X → Option X
tried_of (tries x n) = Some x
tried_of (idle n) = None

-- each enumeration has a name
abbrev pub HaveNames : Table → Type 0
HaveNames types = (ty : ℕ) (ns : List Name) → shape_at types ty ≡ Some (names ns) → 0 < length ns

pub have_names : (types : Table) → AreTypes types → HaveNames types
have_names types declared ty ns at = (stands types ty (names ns) declared at).0

module _ (word : ℕ) where
  exactly_one : (a : Answer) (k : ℕ) → tried_of (exact a k) ≡ by_word word (the_value a)
  exactly_one (gives v) k = refl
  exactly_one (faults f) k = refl
  exactly_one nothing k = refl

  one_below : (a : Answer) (k : ℕ) → tried_of (then_try (exact a k) (below (each_word word))) ≡ by_word word (all_below a)
  one_below (gives (num (pos zero))) k = refl
  one_below (gives (num (pos (suc n)))) k = refl
  one_below (gives (num (negsuc n))) k = refl
  one_below (gives (truth b)) k = refl
  one_below (gives (name ty n)) k = refl
  one_below (gives (tuple ty vs)) k = refl
  one_below (gives (items ty vs)) k = refl
  one_below (faults f) k = refl
  one_below nothing k = refl

  named_one : (ty : ℕ) (ns : List Name) (k : ℕ) → 0 < length ns → tried_of (numbered (each_word word) ty (Some (names ns)) k) ≡ by_word word (all_of ty (Some (names ns)))
  named_one ty [] k there = absurd (omega (arith, there))
  named_one ty (n ∷ ns) k there = refl

  numbered_one : (ty : ℕ) (o : Option Shape) (k : ℕ) → ((ns : List Name) → o ≡ Some (names ns) → 0 < length ns) → tried_of (numbered (each_word word) ty o k) ≡ by_word word (all_of ty o)
  numbered_one ty (Some truths) k there = refl
  numbered_one ty (Some numbers) k there = refl
  numbered_one ty (Some (names ns)) k there = named_one ty ns k (there ns refl)
  numbered_one ty (Some (fields fs)) k there = refl
  numbered_one ty (Some (sequence most of)) k there = refl
  numbered_one ty None k there = refl

  module _ (types : Table) (env : Env) (there : HaveNames types) where
    chosen_one : (c : ChoiceTree) (k : ℕ) → tried_of (choice (each_word word) types env c k) ≡ by_word word (of_choice types env c)
    chosen_one (exactly e) k = exactly_one (val types e env) k
    chosen_one (any_below e) k = one_below (val types e env) k

    typed_one : (o : Option ℕ) (k : ℕ) → tried_of (option_map_or (λ ty. numbered (each_word word) ty (shape_at types ty) k) o (idle k)) ≡ by_word word (option_map_or (λ ty. all_of ty (shape_at types ty)) o none)
    typed_one (Some ty) k = numbered_one ty (shape_at types ty) k (λ ns at. there ty ns at)
    typed_one None k = refl

    parameter_one : (ps : List ProposalTree) (f : FieldTree) (k : ℕ) → tried_of (parameter (each_word word) types env ps f k) ≡ by_word word (of_parameter types env ps f)
    parameter_one ps f k = go (find (λ p. bytes_eq p.name f.name) ps)
      where
        go : (o : Option ProposalTree)
            → tried_of (option_map_or (λ p. choice (each_word word) types env p.choice k) o (option_map_or (λ ty. numbered (each_word word) ty (shape_at types ty) k) (type_named types f.ty) (idle k)))
            ≡ by_word word (option_map_or (λ p. of_choice types env p.choice) o (option_map_or (λ ty. all_of ty (shape_at types ty)) (type_named types f.ty) none))
        go (Some p) = chosen_one p.choice k
        go None = typed_one (type_named types f.ty) k

  -- the values of all places
  module _ (i : Instance) (env : Env) (there : HaveNames i.types) (ps : List ProposalTree) where
    filled_one : (f : FieldTree) (qs : List PositionTree) (v : Val) (y : Tried (List Val))
        → option_map (filled_in i (typed f ∷ qs)) (tried_of (then_try y (λ vs. tries (v ∷ vs)))) ≡ both (Some v) (option_map (filled_in i qs) (tried_of y))
    filled_one f qs v (tries vs n) = refl
    filled_one f qs v (idle n) = refl

    constant_one : (v : Val) (qs : List PositionTree) (o : Option (List Val)) → option_map (λ vs. v ∷ filled_in i qs vs) o ≡ both (Some v) (option_map (filled_in i qs) o)
    constant_one v qs (Some vs) = refl
    constant_one v qs None = refl

    parameters_one : (qs : List PositionTree) (k : ℕ)
        → option_map (filled_in i qs) (tried_of (parameters (each_word word) i.types env ps qs k)) ≡ all_by_word word (of_positions i env ps qs)
    parameters_one [] k = refl
    parameters_one (typed f ∷ qs) k = go (λ m. parameters_one qs m) (parameter (each_word word) i.types env ps f k) (by_word word (of_parameter i.types env ps f)) (parameter_one i.types env there ps f k)
      where
        go : ((m : ℕ) → option_map (filled_in i qs) (tried_of (parameters (each_word word) i.types env ps qs m)) ≡ all_by_word word (of_positions i env ps qs))
            → (x : Tried Val) (o : Option Val) → tried_of x ≡ o
            → option_map (filled_in i (typed f ∷ qs)) (tried_of (then_try x (λ v m. then_try (parameters (each_word word) i.types env ps qs m) (λ vs. tries (v ∷ vs)))))
            ≡ both o (all_by_word word (of_positions i env ps qs))
        go rest (tries v m) o e =
            filled_one f qs v (parameters (each_word word) i.types env ps qs m) ∙ ap (both (Some v)) (rest m)
            ∙ ap (λ x. both x (all_by_word word (of_positions i env ps qs))) e
        go rest (idle m) o e = ap (λ x. both x (all_by_word word (of_positions i env ps qs))) e
    parameters_one (only c ∷ qs) k = go (parameters_one qs k) (constant_value i c)
      where
        go : option_map (filled_in i qs) (tried_of (parameters (each_word word) i.types env ps qs k)) ≡ all_by_word word (of_positions i env ps qs)
            → (o : Option Val)
            → option_map (λ vs. option_map_or (λ v. v ∷ filled_in i qs vs) o (filled_in i qs vs)) (tried_of (parameters (each_word word) i.types env ps qs k))
            ≡ all_by_word word (option_map_or (λ v. one v ∷ of_positions i env ps qs) o (of_positions i env ps qs))
        go rest (Some v) = constant_one v qs (tried_of (parameters (each_word word) i.types env ps qs k)) ∙ ap (both (Some v)) rest
        go rest None = rest

  entry_tried : (i : Instance) (e : EntryTree) (x : Tried (List Val))
      → tried_of (then_try x (λ vs. tries (record { name = e.name; vals = filled_in i e.positions vs }))) ≡ option_map (named e.name) (option_map (filled_in i e.positions) (tried_of x))
  entry_tried i e (tries vs n) = refl
  entry_tried i e (idle n) = refl

  -- what the entry proposes
  pub entry_one : (i : Instance) (e : EntryTree) (s : Env) → AreTypes i.types → tried_of (by_entry i e s (each_word word) 0) ≡ option_map (named e.name) (all_by_word word (ways i e s))
  entry_one i e s declared = entry_tried i e (proposed i e s (each_word word) 0) ∙ ap (option_map (named e.name)) (go (transition_for i.automaton e))
    where
      go : (o : Option TransitionTree)
          → option_map (filled_in i e.positions) (tried_of (option_map_or (λ r. parameters (each_word word) i.types (over (formal_values i) s) r.proposals e.positions 0) o (idle 0)))
          ≡ all_by_word word (option_map_or (λ t. of_positions i (over (formal_values i) s) t.proposals e.positions) o (none ∷ []))
      go (Some t) = parameters_one i (over (formal_values i) s) (have_names i.types declared) t.proposals e.positions 0
      go None = refl

-- ---- no later value of a way is its first one again

none_apart : NeverAgain none
none_apart k more less = absurd (omega (arith, less))

one_apart : (v : Val) → NeverAgain (one v)
one_apart v k more less = absurd (omega (arith, more, less))

value_apart : (a : Answer) → NeverAgain (the_value a)
value_apart (gives v) = one_apart v
value_apart (faults f) = none_apart
value_apart nothing = none_apart

below_apart : (a : Answer) → NeverAgain (all_below a)
below_apart (gives (num (pos n))) = λ k more less e. let q : k ≡ 0 = cc in absurd (omega (arith, more, q))
below_apart (gives (num (negsuc n))) = none_apart
below_apart (gives (truth b)) = none_apart
below_apart (gives (name ty n)) = none_apart
below_apart (gives (tuple ty vs)) = none_apart
below_apart (gives (items ty vs)) = none_apart
below_apart (faults f) = none_apart
below_apart nothing = none_apart

truths_apart : (k : ℕ) → 0 < k → k < 2 → truth (k == 1) ≡ truth (0 == 1) → ⊥
truths_apart zero more less e = absurd (omega (arith, more))
truths_apart (suc zero) more less e = absurd (cc)
truths_apart (suc (suc k)) more less e = absurd (omega (arith, less))

all_apart : (ty : ℕ) (o : Option Shape) → NeverAgain (all_of ty o)
all_apart ty (Some truths) = truths_apart
all_apart ty (Some numbers) = none_apart
all_apart ty (Some (names ns)) = λ k more less e. let q : k ≡ 0 = cc in absurd (omega (arith, more, q))
all_apart ty (Some (fields fs)) = none_apart
all_apart ty (Some (sequence most of)) = none_apart
all_apart ty None = none_apart

module _ (types : Table) (env : Env) where
  choice_apart : (c : ChoiceTree) → NeverAgain (of_choice types env c)
  choice_apart (exactly e) = value_apart (val types e env)
  choice_apart (any_below e) = below_apart (val types e env)

  parameter_apart : (ps : List ProposalTree) (f : FieldTree) → NeverAgain (of_parameter types env ps f)
  parameter_apart ps f = go (find (λ p. bytes_eq p.name f.name) ps)
    where
      of_type : (o : Option ℕ) → NeverAgain (option_map_or (λ ty. all_of ty (shape_at types ty)) o none)
      of_type (Some ty) = all_apart ty (shape_at types ty)
      of_type None = none_apart

      go : (o : Option ProposalTree) → NeverAgain (option_map_or (λ p. of_choice types env p.choice) o (option_map_or (λ ty. all_of ty (shape_at types ty)) (type_named types f.ty) none))
      go (Some p) = choice_apart p.choice
      go None = of_type (type_named types f.ty)

positions_apart : (i : Instance) (env : Env) (ps : List ProposalTree) (qs : List PositionTree) → All NeverAgain (of_positions i env ps qs)
positions_apart i env ps [] = All-nil NeverAgain
positions_apart i env ps (typed f ∷ qs) =
    All-cons NeverAgain (of_parameter i.types env ps f) (of_positions i env ps qs) (parameter_apart i.types env ps f) (positions_apart i env ps qs)
positions_apart i env ps (only c ∷ qs) = go (positions_apart i env ps qs) (constant_value i c)
  where
    go : All NeverAgain (of_positions i env ps qs) → (o : Option Val) → All NeverAgain (option_map_or (λ v. one v ∷ of_positions i env ps qs) o (of_positions i env ps qs))
    go rest (Some v) = All-cons NeverAgain (one v) (of_positions i env ps qs) (one_apart v) rest
    go rest None = rest

pub ways_apart : (i : Instance) (e : EntryTree) (s : Env) → All NeverAgain (ways i e s)
ways_apart i e s = go (transition_for i.automaton e)
  where
    go : (o : Option TransitionTree) → All NeverAgain (option_map_or (λ t. of_positions i (over (formal_values i) s) t.proposals e.positions) o (none ∷ []))
    go (Some t) = positions_apart i (over (formal_values i) s) t.proposals e.positions
    go None = All-cons NeverAgain none [] none_apart (All-nil NeverAgain)
