-- A program's entries propose what those of its hosts propose.
use Rattle.std.proofs.Common.{◌≡◌, ℕ, zero, suc, ◌+◌, ◌%◌, ◌==◌, true, false, pos, negsuc, List, [], ◌∷◌, length, find, All, Option, Some, None, refl, sym, ap, ◌∙◌, arith, inl, inr}
use Rattle.std.specs.Option.{option_map, option_map_or}
use Rattle.std.specs.Str.{bytes_eq}
use Rattle.std.proofs.lemmas.Bool.{and_parts, and_from}
use Rattle.std.proofs.lemmas.List.Elements.{All-head, All-tail}
use Rattle.ioa_value.specs.Actions.{Act}
use Rattle.ioa_value.specs.Operators.{Answer, gives, faults, nothing}
use Rattle.ioa_value.specs.Plain.{Val, truth, num, name, tuple, items}
use Rattle.ioa_value.specs.Positions.{Domain, every, single, IsDomain, all_take, takes}
use Rattle.ioa_value.specs.Same.{same}
use Rattle.ioa_value.specs.Table.{Table, AreTypes, Shape, truths, numbers, names, fields, sequence, shape_at, type_named}
use Rattle.ioa_value.specs.Typing.{first_of}
use Rattle.ioa_value.proofs.FirstLemmas.{first_of_typed}
use Rattle.ioa_value.proofs.NameLemmas.{own_name}
use Rattle.ioa_value.proofs.SameLemmas.{same_equal, same-refl}
use Rattle.ioa_code.specs.Machine.{State, End, done, fault}
use Rattle.ioa_code.specs.Machine as machine
use Rattle.ioa_code.specs.Outcome.{outcome}
use Rattle.ioa_code.specs.Bound.{bound}
use Rattle.ioa_code.specs.Valid.{Part}
use Rattle.ioa_code.proofs.Ends.{computed}
use Rattle.ioa_parts.specs.Proposals.{proposed_at, proposing, words_at}
use Rattle.ioa_parts.specs.Runs.{Comes}
use Rattle.ioa_tree.specs.Instances.{Instance, constant_value, entry_has, formal_values, positions_have, transition_for}
use Rattle.ioa_tree.specs.Domains.{AreDomainsOf}
use Rattle.ioa_tree.specs.Meaning.{Env, over, val}
use Rattle.ioa_tree.specs.Proposing.{Words, Tried, tries, idle, then_try, exact, below, numbered, choice, parameter, parameters, proposed}
use Rattle.ioa_tree.specs.Tree.{FieldTree, PositionTree, typed, only, EntryTree, ChoiceTree, exactly, any_below, ProposalTree, TransitionTree}
use Rattle.ioa_tree.proofs.Domains.{domains_have}
use Rattle.ioa_compile.specs.CodeEnds.{ProposalEnds}
use Rattle.ioa_compile.specs.Programs.{EntryCode}
use Rattle.ioa_run.specs.Proposers.{action_with, by_code, filled, filled_in, tried}
use Rattle.ioa_run.specs.Turns.{after}

-- ---- words that were taken before

-- as many more words taken
abbrev later : {X : Type 0} → ℕ → Tried X → Tried X
later n (tries x taken) = tries x (n + taken)
later n (idle taken) = idle (n + taken)

module _ (n : ℕ) (words : Words) where
  word_later : (k : ℕ) → words (n + k) ≡ after n words k
  word_later k = let e : n + k ≡ k + n = omega arith in ap words e

  one_later : (k : ℕ) → n + k + 1 ≡ n + (k + 1)
  one_later k = omega arith

  exact_later : (a : Answer) (k : ℕ) → exact a (n + k) ≡ later n (exact a k)
  exact_later (gives v) k = refl
  exact_later (faults f) k = refl
  exact_later nothing k = refl

  below_later : (v : Val) (k : ℕ) → below words v (n + k) ≡ later n (below (after n words) v k)
  below_later (num (pos zero)) k = refl
  below_later (num (pos (suc m))) k =
      ap (λ x. tries (num (pos (x % suc m))) (n + k + 1)) (word_later k) ∙ ap (tries (num (pos (after n words k % suc m)))) (one_later k)
  below_later (num (negsuc m)) k = refl
  below_later (truth b) k = refl
  below_later (name ty m) k = refl
  below_later (tuple ty vs) k = refl
  below_later (items ty vs) k = refl

  numbered_later : (ty : ℕ) (o : Option Shape) (k : ℕ) → numbered words ty o (n + k) ≡ later n (numbered (after n words) ty o k)
  numbered_later ty (Some truths) k = ap (λ x. tries (truth (x % 2 == 1)) (n + k + 1)) (word_later k) ∙ ap (tries (truth (after n words k % 2 == 1))) (one_later k)
  numbered_later ty (Some numbers) k = refl
  numbered_later ty (Some (names ns)) k = ap (λ x. tries (name ty (x % length ns)) (n + k + 1)) (word_later k) ∙ ap (tries (name ty (after n words k % length ns))) (one_later k)
  numbered_later ty (Some (fields fs)) k = refl
  numbered_later ty (Some (sequence most of)) k = refl
  numbered_later ty None k = refl

  then_later : {X Y : Type 0} (x : Tried X) (f g : X → ℕ → Tried Y) → ((v : X) (k : ℕ) → f v (n + k) ≡ later n (g v k)) → then_try (later n x) f ≡ later n (then_try x g)
  then_later (tries v k) f g h = h v k
  then_later (idle k) f g h = refl

  module _ (types : Table) (env : Env) where
    choice_later : (c : ChoiceTree) (k : ℕ) → choice words types env c (n + k) ≡ later n (choice (after n words) types env c k)
    choice_later (exactly e) k = exact_later (val types e env) k
    choice_later (any_below e) k =
        ap (λ x. then_try x (below words)) (exact_later (val types e env) k) ∙ then_later (exact (val types e env) k) (below words) (below (after n words)) below_later

    found_later : (o : Option ProposalTree) (k : ℕ) (x y : Tried Val) → x ≡ later n y
        → option_map_or (λ p. choice words types env p.choice (n + k)) o x ≡ later n (option_map_or (λ p. choice (after n words) types env p.choice k) o y)
    found_later (Some p) k x y h = choice_later p.choice k
    found_later None k x y h = h

    typed_later : (o : Option ℕ) (k : ℕ) → option_map_or (λ ty. numbered words ty (shape_at types ty) (n + k)) o (idle (n + k))
        ≡ later n (option_map_or (λ ty. numbered (after n words) ty (shape_at types ty) k) o (idle k))
    typed_later (Some ty) k = numbered_later ty (shape_at types ty) k
    typed_later None k = refl

    parameter_later : (ps : List ProposalTree) (f : FieldTree) (k : ℕ) → parameter words types env ps f (n + k) ≡ later n (parameter (after n words) types env ps f k)
    parameter_later ps f k =
        found_later (find (λ p. bytes_eq p.name f.name) ps) k
        (option_map_or (λ ty. numbered words ty (shape_at types ty) (n + k)) (type_named types f.ty) (idle (n + k)))
        (option_map_or (λ ty. numbered (after n words) ty (shape_at types ty) k) (type_named types f.ty) (idle k))
        (typed_later (type_named types f.ty) k)

    parameters_later : (ps : List ProposalTree) (qs : List PositionTree) (k : ℕ) → parameters words types env ps qs (n + k) ≡ later n (parameters (after n words) types env ps qs k)
    parameters_later ps [] k = refl
    parameters_later ps (typed f ∷ qs) k =
        ap (λ x. then_try x (λ v m. then_try (parameters words types env ps qs m) (λ vs. tries (v ∷ vs)))) (parameter_later ps f k)
        ∙ then_later (parameter (after n words) types env ps f k)
        (λ v m. then_try (parameters words types env ps qs m) (λ vs. tries (v ∷ vs)))
        (λ v m. then_try (parameters (after n words) types env ps qs m) (λ vs. tries (v ∷ vs)))
        (λ v m. ap (λ x. then_try x (λ vs. tries (v ∷ vs))) (parameters_later ps qs m)
        ∙ then_later (parameters (after n words) types env ps qs m) (λ vs. tries (v ∷ vs)) (λ vs. tries (v ∷ vs)) (λ vs j. refl))
    parameters_later ps (only c ∷ qs) k = parameters_later ps qs k

  -- what an entry proposes depends on the words after those that were taken
  proposed_later : (i : Instance) (e : EntryTree) (s : Env) → proposed i e s words n ≡ later n (proposed i e s (after n words) 0)
  proposed_later i e s =
      let none : n ≡ n + 0 = omega arith in
      ap (proposed i e s words) none ∙ go (transition_for i.automaton e)
    where
      go : (o : Option TransitionTree) → option_map_or (λ (r : TransitionTree). parameters words i.types (over (formal_values i) s) r.proposals e.positions (n + 0)) o (idle (n + 0))
          ≡ later n (option_map_or (λ (r : TransitionTree). parameters (after n words) i.types (over (formal_values i) s) r.proposals e.positions 0) o (idle 0))
      go (Some r) = parameters_later i.types (over (formal_values i) s) r.proposals e.positions 0
      go None = refl

-- ---- constants of positions

-- there are values in positions
some_take : (types : Table) → AreTypes types → (ds : List Domain) → All (IsDomain types) ds → (vs : List Val) × (all_take types ds vs ≡ true)
some_take types a [] i = ([], refl)
some_take types a (every ty ∷ ds) i =
    let rest = some_take types a ds (All-tail (IsDomain types) (every ty) ds i) in
    let first : takes types (every ty) (first_of types ty) ≡ true = first_of_typed types a ty (All-head (IsDomain types) (every ty) ds i) in
    (first_of types ty ∷ rest.0, and_from (takes types (every ty) (first_of types ty)) (all_take types ds rest.0) first rest.1)
some_take types a (single w ∷ ds) i =
    let rest = some_take types a ds (All-tail (IsDomain types) (single w) ds i) in
    (w ∷ rest.0, and_from (same w w) (all_take types ds rest.0) (same-refl w) rest.1)

-- a constant that equals a value stands for it
stands_for : (o : Option Val) (w : Val) → option_map_or (λ x. same x w) o false ≡ true → o ≡ Some w
stands_for (Some x) w h = ap Some (same_equal x w h)
stands_for None w h = absurd (cc)

-- constants stand for the same values in two instances, of which some values stand in the same positions
same_filled : (i j : Instance) (types : Table) (ps : List PositionTree) (ds : List Domain) (ws vs : List Val) → AreDomainsOf i ps ds → all_take types ds ws ≡ true
    → positions_have j ps ws ≡ true → filled_in j ps vs ≡ filled ds vs
same_filled i j types [] [] ws vs d t h = refl
same_filled i j types [] (e ∷ ds) ws vs d t h = absurd d
same_filled i j types (p ∷ ps) [] ws vs d t h = absurd d
same_filled i j types (p ∷ ps) (e ∷ ds) [] vs d t h = absurd (cc)
same_filled i j types (typed f ∷ ps) (every ty ∷ ds) (w ∷ ws) [] d t h =
    same_filled i j types ps ds ws [] d.1 (and_parts (takes types (every ty) w) (all_take types ds ws) t).1 (and_parts _ (positions_have j ps ws) h).1
same_filled i j types (typed f ∷ ps) (every ty ∷ ds) (w ∷ ws) (v ∷ vs) d t h =
    ap (λ us. v ∷ us) (same_filled i j types ps ds ws vs d.1 (and_parts (takes types (every ty) w) (all_take types ds ws) t).1 (and_parts _ (positions_have j ps ws) h).1)
same_filled i j types (typed f ∷ ps) (single u ∷ ds) (w ∷ ws) vs d t h = absurd d.0
same_filled i j types (only c ∷ ps) (every ty ∷ ds) (w ∷ ws) vs d t h = absurd d.0
same_filled i j types (only c ∷ ps) (single u ∷ ds) (w ∷ ws) vs d t h =
    let ts = and_parts (same u w) (all_take types ds ws) t in
    let hs = and_parts (option_map_or (λ x. same x w) (constant_value j c) false) (positions_have j ps ws) h in
    let there : constant_value j c ≡ Some w = stands_for (constant_value j c) w hs.0 in
    let rest : filled_in j ps vs ≡ filled ds vs = same_filled i j types ps ds ws vs d.1 ts.1 hs.1 in
    ap (λ o. option_map_or (λ v. v ∷ filled_in j ps vs) o (filled_in j ps vs)) there ∙ ap (λ x. x ∷ filled_in j ps vs) (sym (same_equal u w ts.0)) ∙ ap (λ us. u ∷ us) rest

-- the positions of an entry that has the same actions in two instances are filled alike
pub filled_alike : (i j : Instance) (e : EntryTree) (ds : List Domain) (vs : List Val) → AreTypes i.types → All (IsDomain i.types) ds → AreDomainsOf i e.positions ds
    → ((a : Act) → entry_has i a e ≡ entry_has j a e) → filled_in j e.positions vs ≡ filled ds vs
filled_alike i j e ds vs a is d h =
    let some = some_take i.types a ds is in
    let act : Act = record { name = e.name; vals = some.0 } in
    let have : positions_have i e.positions some.0 ≡ true = domains_have i e.positions ds some.0 d ∙ some.1 in
    let has : entry_has j act e ≡ true = sym (h act) ∙ and_from (bytes_eq e.name e.name) (positions_have i e.positions some.0) (own_name e.name) have in
    same_filled i j i.types e.positions ds some.0 vs d some.1 (and_parts (bytes_eq e.name e.name) (positions_have j e.positions some.0) has).1

-- ---- what the code gives

outcome_is : (part : Part) (s : State) (r : End) → Comes part s r → outcome part s ≡ Some r
outcome_is part s r h = computed part.code h.0 (bound part) s r h.1 h.2

-- what is tried becomes an action
abbrev acting : (List Val → Act) → Tried (List Val) → Tried Act
acting f x = then_try x (λ vs. tries (f vs))

code_gives : (d : EntryCode) (part : Part) (slots : List Val) (words : Words) (n : ℕ) (x : Tried (List Val)) → ProposalEnds part slots (after n words) x
    → acting (action_with d) (later n x) ≡ by_code d (Some part) slots words n
code_gives d part slots words n (tries vs taken) c =
    let e : outcome part (proposing slots (after n words)) ≡ Some (done vs slots taken) = outcome_is part (proposing slots (after n words)) (done vs slots taken) c in
    sym (ap (λ o. tried (option_map (action_with d) (proposed_at o)) (n + words_at o)) e)
code_gives d part slots words n (idle taken) (inl c) =
    let e : outcome part (proposing slots (after n words)) ≡ Some (machine.idle taken) = outcome_is part (proposing slots (after n words)) (machine.idle taken) c in
    sym (ap (λ o. tried (option_map (action_with d) (proposed_at o)) (n + words_at o)) e)
code_gives d part slots words n (idle taken) (inr (f, c)) =
    let e : outcome part (proposing slots (after n words)) ≡ Some (fault f taken) = outcome_is part (proposing slots (after n words)) (fault f taken) c in
    sym (ap (λ o. tried (option_map (action_with d) (proposed_at o)) (n + words_at o)) e)

acting_alike : (f g : List Val → Act) (x : Tried (List Val)) → ((vs : List Val) → f vs ≡ g vs) → acting f x ≡ acting g x
acting_alike f g (tries vs taken) h = ap (λ a. tries a taken) (h vs)
acting_alike f g (idle taken) h = refl

-- an entry's code gives what the host's entry proposes, with its constants
pub by_alike : (i : Instance) (e : EntryTree) (d : EntryCode) (part : Part) (env : Env) (slots : List Val) (words : Words) (n : ℕ)
    → d.name ≡ e.name → ((vs : List Val) → filled_in i e.positions vs ≡ filled d.positions vs)
    → ProposalEnds part slots (after n words) (proposed i e env (after n words) 0)
    → acting (λ vs. record { name = e.name; vals = filled_in i e.positions vs }) (proposed i e env words n) ≡ by_code d (Some part) slots words n
by_alike i e d part env slots words n named fills ends =
    let host : List Val → Act = λ vs. record { name = e.name; vals = filled_in i e.positions vs } in
    let same_action : (vs : List Val) → host vs ≡ action_with d vs = λ vs. rw (named, fills vs) refl in
    ap (acting host) (proposed_later n words i e env)
    ∙ acting_alike host (action_with d) (later n (proposed i e env (after n words) 0)) same_action
    ∙ code_gives d part slots words n (proposed i e env (after n words) 0) ends
