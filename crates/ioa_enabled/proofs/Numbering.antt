-- An entry's ways are what it proposes over all words.
use Rattle.std.proofs.Common.{◌≡◌, ℕ, zero, suc, ◌+◌, ◌*◌, ◌<◌, ◌≤◌, ◌/◌, ◌%◌, List, [], ◌∷◌, ◌++◌, length, find, get_or, Option, Some, None, pos, negsuc, refl, sym, ap, ap₂, subst, ◌∙◌, arith}
use Rattle.std.specs.Prelude.{◌==◌}
use Rattle.std.specs.Option.{option_map_or}
use Rattle.std.specs.Str.{bytes_eq}
use Rattle.std.proofs.Math.Nat.{div-one, mod-eq_of_lt, mod-lt, mul_comm}
use Rattle.std.proofs.lemmas.List.{get_or-append-add, get_or_append_left, length-append}
use Rattle.std.proofs.lemmas.Nat.{div-mul-add, div_below, mod-mul-add, mul-add-lt}
use Rattle.ioa_value.specs.Actions.{Act, Name}
use Rattle.ioa_value.specs.Operators.{Answer, gives, faults, nothing}
use Rattle.ioa_value.specs.Plain.{Val, truth, num, name, tuple, items}
use Rattle.ioa_value.specs.Table.{Table, Shape, truths, numbers, names, fields, sequence, shape_at, type_named}
use Rattle.ioa_tree.specs.Instances.{Instance, constant_value, formal_values, transition_for}
use Rattle.ioa_tree.specs.Meaning.{Env, over, val}
use Rattle.ioa_tree.specs.Proposing.{Words, Tried, tries, idle, then_try, exact, below, numbered, choice, parameter, parameters, proposed}
use Rattle.ioa_tree.specs.Tree.{FieldTree, PositionTree, typed, only, EntryTree, ChoiceTree, exactly, any_below, ProposalTree, TransitionTree}
use Rattle.ioa_run.specs.Proposers.{by_entry, filled_in}
use Rattle.ioa_enabled.specs.Proposed.{ProposalsAreWays, WaysAreProposals}
use Rattle.ioa_enabled.specs.Ways.{Values, all_below, all_of, combination, none, of_choice, of_parameter, of_positions, one, the_value, total, way, ways}
use Rattle.ioa_enabled.proofs.Sampling.{HaveNames, have_names}

-- ---- what words give is one of the ways

-- what is so of what is tried
abbrev IfTried : {X : Type 0} → Tried X → (X → Type 0) → Type 0
IfTried (tries x n) P = P x
IfTried (idle n) P = Unit {0}

-- it is one of these values
abbrev IsOne : Values → Val → Type 0
IsOne c v = (j : ℕ) × (j < c.count) × (v ≡ c.value j)

-- in these places they are one of these combinations
abbrev IsCombination : List Values → List Val → Type 0
IsCombination cs vs = (k : ℕ) × (k < total cs) × (vs ≡ combination cs k)

-- a value before a combination
before : (c : Values) (cs : List Values) (v : Val) (vs : List Val) → IsOne c v → IsCombination cs vs → IsCombination (c ∷ cs) (v ∷ vs)
before c cs v vs (j, less, is) (k, fewer, are) =
    let number : ℕ = k * c.count + j in
    let here : number < c.count * total cs = mul-add-lt k c.count j (total cs) fewer less in
    let first : number % c.count ≡ j = mod-mul-add k c.count j less in
    let rest : number / c.count ≡ k = div-mul-add k c.count j less in
    (number, here, ap₂ (λ (x : Val) (xs : List Val). x ∷ xs) (is ∙ ap c.value (sym first)) (are ∙ ap (combination cs) (sym rest)))

module _ (words : Words) where
  exact_is : (a : Answer) (n : ℕ) → IfTried (exact a n) (IsOne (the_value a))
  exact_is (gives v) n = (0, omega arith, refl)
  exact_is (faults f) n = tt
  exact_is nothing n = tt

  below_is : (a : Answer) (n : ℕ) → IfTried (then_try (exact a n) (below words)) (IsOne (all_below a))
  below_is (gives (num (pos zero))) n = tt
  below_is (gives (num (pos (suc m)))) n = (words n % suc m, mod-lt (words n) (omega arith), refl)
  below_is (gives (num (negsuc m))) n = tt
  below_is (gives (truth b)) n = tt
  below_is (gives (name ty m)) n = tt
  below_is (gives (tuple ty vs)) n = tt
  below_is (gives (items ty vs)) n = tt
  below_is (faults f) n = tt
  below_is nothing n = tt

  numbered_is : (ty : ℕ) (o : Option Shape) (n : ℕ) → ((ns : List Name) → o ≡ Some (names ns) → 0 < length ns) → IfTried (numbered words ty o n) (IsOne (all_of ty o))
  numbered_is ty (Some truths) n there = (words n % 2, mod-lt (words n) (omega arith), refl)
  numbered_is ty (Some numbers) n there = tt
  numbered_is ty (Some (names ns)) n there = (words n % length ns, mod-lt (words n) (there ns refl), refl)
  numbered_is ty (Some (fields fs)) n there = tt
  numbered_is ty (Some (sequence most of)) n there = tt
  numbered_is ty None n there = tt

  module _ (types : Table) (env : Env) (there : HaveNames types) where
    choice_is : (c : ChoiceTree) (n : ℕ) → IfTried (choice words types env c n) (IsOne (of_choice types env c))
    choice_is (exactly e) n = exact_is (val types e env) n
    choice_is (any_below e) n = below_is (val types e env) n

    parameter_is : (ps : List ProposalTree) (f : FieldTree) (n : ℕ) → IfTried (parameter words types env ps f n) (IsOne (of_parameter types env ps f))
    parameter_is ps f n = go (find (λ p. bytes_eq p.name f.name) ps)
      where
        of_type : (o : Option ℕ) → IfTried (option_map_or (λ ty. numbered words ty (shape_at types ty) n) o (idle n)) (IsOne (option_map_or (λ ty. all_of ty (shape_at types ty)) o none))
        of_type (Some ty) = numbered_is ty (shape_at types ty) n (λ ns at. there ty ns at)
        of_type None = tt

        go : (o : Option ProposalTree)
            → IfTried (option_map_or (λ p. choice words types env p.choice n) o (option_map_or (λ ty. numbered words ty (shape_at types ty) n) (type_named types f.ty) (idle n)))
            (IsOne (option_map_or (λ p. of_choice types env p.choice) o (option_map_or (λ ty. all_of ty (shape_at types ty)) (type_named types f.ty) none)))
        go (Some p) = choice_is p.choice n
        go None = of_type (type_named types f.ty)

  module _ (i : Instance) (env : Env) (there : HaveNames i.types) (ps : List ProposalTree) where
    parameters_are : (qs : List PositionTree) (n : ℕ) → IfTried (parameters words i.types env ps qs n) (λ vs. IsCombination (of_positions i env ps qs) (filled_in i qs vs))
    parameters_are [] n = (0, omega arith, refl)
    parameters_are (typed f ∷ qs) n = go (λ m. parameters_are qs m) (parameter words i.types env ps f n) (parameter_is i.types env there ps f n)
      where
        rest : (v : Val) (y : Tried (List Val)) → IsOne (of_parameter i.types env ps f) v → IfTried y (λ vs. IsCombination (of_positions i env ps qs) (filled_in i qs vs))
            → IfTried (then_try y (λ vs. tries (v ∷ vs))) (λ vs. IsCombination (of_positions i env ps (typed f ∷ qs)) (filled_in i (typed f ∷ qs) vs))
        rest v (tries vs m) is are = before (of_parameter i.types env ps f) (of_positions i env ps qs) v (filled_in i qs vs) is are
        rest v (idle m) is are = tt

        go : ((m : ℕ) → IfTried (parameters words i.types env ps qs m) (λ vs. IsCombination (of_positions i env ps qs) (filled_in i qs vs)))
            → (x : Tried Val) → IfTried x (IsOne (of_parameter i.types env ps f))
            → IfTried (then_try x (λ v m. then_try (parameters words i.types env ps qs m) (λ vs. tries (v ∷ vs))))
            (λ vs. IsCombination (of_positions i env ps (typed f ∷ qs)) (filled_in i (typed f ∷ qs) vs))
        go more (tries v m) is = rest v (parameters words i.types env ps qs m) is (more m)
        go more (idle m) is = tt
    parameters_are (only c ∷ qs) n = go (constant_value i c) (parameters words i.types env ps qs n) (parameters_are qs n)
      where
        go : (o : Option Val) (y : Tried (List Val)) → IfTried y (λ vs. IsCombination (of_positions i env ps qs) (filled_in i qs vs))
            → IfTried y (λ vs. IsCombination (option_map_or (λ v. one v ∷ of_positions i env ps qs) o (of_positions i env ps qs)) (option_map_or (λ v. v ∷ filled_in i qs vs) o (filled_in i qs vs)))
        go (Some v) (tries vs m) are = before (one v) (of_positions i env ps qs) v (filled_in i qs vs) (0, omega arith, refl) are
        go None (tries vs m) are = are
        go (Some v) (idle m) are = tt
        go None (idle m) are = tt

  entry_is : (i : Instance) (e : EntryTree) (s : Env) → HaveNames i.types → IfTried (by_entry i e s words 0) (λ a. (k : ℕ) × (k < total (ways i e s)) × (a ≡ way e.name (ways i e s) k))
  entry_is i e s there = go (transition_for i.automaton e)
    where
      act : (x : Tried (List Val)) (cs : List Values) → IfTried x (λ vs. IsCombination cs (filled_in i e.positions vs))
          → IfTried (then_try x (λ vs. tries (record { name = e.name; vals = filled_in i e.positions vs }))) (λ a. (k : ℕ) × (k < total cs) × (a ≡ way e.name cs k))
      act (tries vs n) cs (k, less, are) = (k, less, ap (λ us. record { name = e.name; vals = us }) are)
      act (idle n) cs are = tt

      go : (o : Option TransitionTree)
          → IfTried (then_try (option_map_or (λ r. parameters words i.types (over (formal_values i) s) r.proposals e.positions 0) o (idle 0)) (λ vs. tries (record { name = e.name; vals = filled_in i e.positions vs })))
          (λ a. (k : ℕ) × (k < total (option_map_or (λ t. of_positions i (over (formal_values i) s) t.proposals e.positions) o (none ∷ [])))
          × (a ≡ way e.name (option_map_or (λ t. of_positions i (over (formal_values i) s) t.proposals e.positions) o (none ∷ [])) k))
      go (Some t) =
          act (parameters words i.types (over (formal_values i) s) t.proposals e.positions 0) (of_positions i (over (formal_values i) s) t.proposals e.positions)
          (parameters_are i (over (formal_values i) s) there t.proposals e.positions 0)
      go None = tt

if_tried : {X : Type 0} (x : Tried X) (P : X → Type 0) (v : X) (n : ℕ) → IfTried x P → x ≡ tries v n → P v
if_tried x P v n h e = subst (λ y. IfTried y P) e h

pub proposals_are_ways : ProposalsAreWays
proposals_are_ways i e s words a taken declared is =
    if_tried (by_entry i e s words 0) (λ a. (k : ℕ) × (k < total (ways i e s)) × (a ≡ way e.name (ways i e s) k)) a taken (entry_is words i e s (have_names i.types declared)) is

-- ---- and each of the ways is what some words give

-- the words from place n on begin with these
abbrev Begin : List ℕ → Words → ℕ → Type 0
Begin ws words n = (j : ℕ) → j < length ws → words (n + j) ≡ get_or ws j 0

-- words that begin so give the value, and are all taken
abbrev Give : (Words → ℕ → Tried Val) → Val → Type 0
Give f v = (ws : List ℕ) × ((words : Words) (n : ℕ) → Begin ws words n → f words n ≡ tries v (n + length ws))

no_word : (n : ℕ) → n ≡ n + 0
no_word n = omega arith

one_word : (f : Words → ℕ → Tried Val) (g : ℕ → Val) (count j : ℕ) → j < count → ((words : Words) (n : ℕ) → f words n ≡ tries (g (words n % count)) (n + 1)) → Give f (g j)
one_word f g count j less is = (
  j ∷ [],
  λ words n begins.
      let here : n ≡ n + 0 = no_word n in
      let word : words n ≡ j = ap words here ∙ begins 0 (omega arith) in
      is words n ∙ ap (λ w. tries (g (w % count)) (n + 1)) word ∙ ap (λ w. tries (g w) (n + 1)) (mod-eq_of_lt less),
)

exact_given : (a : Answer) (j : ℕ) → j < (the_value a).count → Give (λ words n. exact a n) ((the_value a).value j)
exact_given (gives v) j less = ([], λ words n begins. ap (tries v) (no_word n))
exact_given (faults f) j less = absurd (omega arith)
exact_given nothing j less = absurd (omega arith)

below_given : (a : Answer) (j : ℕ) → j < (all_below a).count → Give (λ words n. then_try (exact a n) (below words)) ((all_below a).value j)
below_given (gives (num (pos zero))) j less = absurd (omega arith)
below_given (gives (num (pos (suc m)))) j less = one_word (λ words n. then_try (exact (gives (num (pos (suc m)))) n) (below words)) (λ k. num (pos k)) (suc m) j less (λ words n. refl)
below_given (gives (num (negsuc m))) j less = absurd (omega arith)
below_given (gives (truth b)) j less = absurd (omega arith)
below_given (gives (name ty m)) j less = absurd (omega arith)
below_given (gives (tuple ty vs)) j less = absurd (omega arith)
below_given (gives (items ty vs)) j less = absurd (omega arith)
below_given (faults f) j less = absurd (omega arith)
below_given nothing j less = absurd (omega arith)

numbered_given : (ty : ℕ) (o : Option Shape) (j : ℕ) → j < (all_of ty o).count → Give (λ words n. numbered words ty o n) ((all_of ty o).value j)
numbered_given ty (Some truths) j less = one_word (λ words n. numbered words ty (Some truths) n) (λ k. truth (k == 1)) 2 j less (λ words n. refl)
numbered_given ty (Some numbers) j less = absurd (omega arith)
numbered_given ty (Some (names ns)) j less = one_word (λ words n. numbered words ty (Some (names ns)) n) (λ k. name ty k) (length ns) j less (λ words n. refl)
numbered_given ty (Some (fields fs)) j less = absurd (omega arith)
numbered_given ty (Some (sequence most of)) j less = absurd (omega arith)
numbered_given ty None j less = absurd (omega arith)

module _ (types : Table) (env : Env) where
  choice_given : (c : ChoiceTree) (j : ℕ) → j < (of_choice types env c).count → Give (λ words n. choice words types env c n) ((of_choice types env c).value j)
  choice_given (exactly e) j less = exact_given (val types e env) j less
  choice_given (any_below e) j less = below_given (val types e env) j less

  parameter_given : (ps : List ProposalTree) (f : FieldTree) (j : ℕ) → j < (of_parameter types env ps f).count → Give (λ words n. parameter words types env ps f n) ((of_parameter types env ps f).value j)
  parameter_given ps f j = go (find (λ p. bytes_eq p.name f.name) ps)
    where
      of_type : (o : Option ℕ) → j < (option_map_or (λ ty. all_of ty (shape_at types ty)) o none).count
          → Give (λ words n. option_map_or (λ ty. numbered words ty (shape_at types ty) n) o (idle n)) ((option_map_or (λ ty. all_of ty (shape_at types ty)) o none).value j)
      of_type (Some ty) less = numbered_given ty (shape_at types ty) j less
      of_type None less = absurd (omega arith)

      go : (o : Option ProposalTree) → j < (option_map_or (λ p. of_choice types env p.choice) o (option_map_or (λ ty. all_of ty (shape_at types ty)) (type_named types f.ty) none)).count
          → Give (λ words n. option_map_or (λ p. choice words types env p.choice n) o (option_map_or (λ ty. numbered words ty (shape_at types ty) n) (type_named types f.ty) (idle n)))
          ((option_map_or (λ p. of_choice types env p.choice) o (option_map_or (λ ty. all_of ty (shape_at types ty)) (type_named types f.ty) none)).value j)
      go (Some p) less = choice_given p.choice j less
      go None less = of_type (type_named types f.ty) less

-- words that begin so give the values that fill these places so
abbrev GiveAll : (Words → ℕ → Tried (List Val)) → (List Val → List Val) → List Val → Type 0
GiveAll f fill vs = (ws : List ℕ) × ((words : Words) (n : ℕ) → Begin ws words n → (us : List Val) × (m : ℕ) × (f words n ≡ tries us m) × (fill us ≡ vs))

begin_first : (ws us : List ℕ) (words : Words) (n : ℕ) → Begin (ws ++ us) words n → Begin ws words n
begin_first ws us words n begins = λ j less.
    let long : length (ws ++ us) ≡ length ws + length us = length-append ws us in
    begins j (omega (arith, long, less)) ∙ get_or_append_left ws us 0 j less

begin_rest : (ws us : List ℕ) (words : Words) (n : ℕ) → Begin (ws ++ us) words n → Begin us words (n + length ws)
begin_rest ws us words n begins = λ j less.
    let long : length (ws ++ us) ≡ length ws + length us = length-append ws us in
    let here : n + length ws + j ≡ n + (length ws + j) = omega arith in
    ap words here ∙ begins (length ws + j) (omega (arith, long, less)) ∙ get_or-append-add ws us j 0

module _ (i : Instance) (env : Env) (ps : List ProposalTree) where
  parameters_given : (qs : List PositionTree) (k : ℕ) → k < total (of_positions i env ps qs)
      → GiveAll (λ words n. parameters words i.types env ps qs n) (filled_in i qs) (combination (of_positions i env ps qs) k)
  parameters_given [] k less = ([], λ words n begins. ([], n, refl, refl))
  parameters_given (typed f ∷ qs) k less =
      let c : Values = of_parameter i.types env ps f in
      let cs : List Values = of_positions i env ps qs in
      let some : 0 < c.count = counted c.count (total cs) k less in
      let first = parameter_given i.types env ps f (k % c.count) (mod-lt k some) in
      let rest = parameters_given qs (k / c.count) (divided c.count (total cs) k some less) in (
        first.0 ++ rest.0,
        λ words n begins.
            let x = first.1 words n (begin_first first.0 rest.0 words n begins) in
            let y = rest.1 words (n + length first.0) (begin_rest first.0 rest.0 words n begins) in (
              c.value (k % c.count) ∷ y.0,
              y.1,
              ap (λ z. then_try z (λ v m. then_try (parameters words i.types env ps qs m) (λ vs. tries (v ∷ vs)))) x
                  ∙ ap (λ z. then_try z (λ vs. tries (c.value (k % c.count) ∷ vs))) y.2,
              ap (λ vs. c.value (k % c.count) ∷ vs) y.3,
            ),
      )
    where
      counted : (a b j : ℕ) → j < a * b → 0 < a
      counted zero b j h = absurd (omega arith)
      counted (suc a) b j h = omega arith

      divided : (a b j : ℕ) → 0 < a → j < a * b → j / a < b
      divided a b j some h = let order : a * b ≡ b * a = mul_comm a b in div_below j a b some (subst (λ t. j < t) order h)
  parameters_given (only c ∷ qs) k less = go (λ j fewer. parameters_given qs j fewer) (constant_value i c) less
    where
      go : ((j : ℕ) → j < total (of_positions i env ps qs) → GiveAll (λ words n. parameters words i.types env ps qs n) (filled_in i qs) (combination (of_positions i env ps qs) j))
          → (o : Option Val) → k < total (option_map_or (λ v. one v ∷ of_positions i env ps qs) o (of_positions i env ps qs))
          → GiveAll (λ words n. parameters words i.types env ps qs n) (λ vs. option_map_or (λ v. v ∷ filled_in i qs vs) o (filled_in i qs vs))
          (combination (option_map_or (λ v. one v ∷ of_positions i env ps qs) o (of_positions i env ps qs)) k)
      go rest_given (Some v) less =
          let whole : k / 1 ≡ k = div-one k in
          let fewer : k / 1 < total (of_positions i env ps qs) = omega (arith, whole, less) in
          let rest = rest_given (k / 1) fewer in
          (rest.0, λ words n begins. let y = rest.1 words n begins in (y.0, y.1, y.2, ap (λ vs. v ∷ vs) y.3))
      go rest_given None less = rest_given k less

-- those of the entry's transition
abbrev these : Instance → EntryTree → Env → Option TransitionTree → List Values
these i e s o = option_map_or (λ (t : TransitionTree). of_positions i (over (formal_values i) s) t.proposals e.positions) o (none ∷ [])

pub ways_are_proposals : WaysAreProposals
ways_are_proposals i e s k less = go (transition_for i.automaton e) less
  where
    go : (o : Option TransitionTree) → k < total (these i e s o)
        → (words : Words) × (taken : ℕ)
        × (then_try (option_map_or (λ (r : TransitionTree). parameters words i.types (over (formal_values i) s) r.proposals e.positions 0) o (idle 0))
        (λ vs. tries (record { name = e.name; vals = filled_in i e.positions vs })) ≡ tries (way e.name (these i e s o) k) taken)
    go (Some t) less =
        let all = parameters_given i (over (formal_values i) s) t.proposals e.positions k less in
        let words : Words = λ n. get_or all.0 n 0 in
        let y = all.1 words 0 (λ j h. let here : 0 + j ≡ j = omega arith in ap words here) in (
          words,
          y.1,
          ap (λ z. then_try z (λ vs. tries (record { name = e.name; vals = filled_in i e.positions vs }))) y.2
              ∙ ap (λ us. tries (record { name = e.name; vals = us }) y.1) y.3,
        )
    go None less = absurd (omega arith)
