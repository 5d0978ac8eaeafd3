-- Counts, one item more at a time.
use Rattle.std.proofs.Common.{◌≡◌, ◌≤◌, ℕ, suc, ◌+◌, ◌==◌, Bool, true, false, not, cond, ◌||◌, List, [], ◌∷◌, length, map, take, Some, slice_get, refl, sym, ap, ap₂, ◌∙◌, arith}
use Rattle.std.specs.Prelude.{count_by, sum_by}
use Rattle.std.specs.List.{list_any}
use Rattle.std.proofs.lemmas.Bool.Decides.{nat_tests}
use Rattle.std.proofs.lemmas.List.{take_all}
use Rattle.std.proofs.lemmas.List.Sums.{count_by_more_no, count_by_more_yes, sum_by-cons, sum_by_more}
use Rattle.std.proofs.lemmas.Option.{get_or_from_slice_get, slice_get_within}
use Rattle.ioa_value.specs.Actions.{Act}
use Rattle.ioa_tree.specs.Components.{Component, has}
use Rattle.ioa_tree.specs.Instances.{Instance}
use Rattle.ioa_tree.specs.Steps.{participants, participants_from}
use Rattle.ioa_tree.specs.Tree.{InvariantTree}
use Rattle.ioa_account.specs.Counts.{asked_invariants, asked_of, known_actions}

-- ---- one item more

module _ {X : Type 0} (p : X → Bool) (xs : List X) (i : ℕ) where
  pub counted_yes : (x : X) (n : ℕ) → slice_get xs i ≡ Some x → n ≡ count_by p (take i xs) → p x ≡ true → n + 1 ≡ count_by p (take (i + 1) xs)
  counted_yes x n at so_far test =
      ap (λ m. m + 1) so_far ∙ sym (count_by_more_yes p xs i x (slice_get_within xs i x at) (ap p (get_or_from_slice_get xs i x x at) ∙ test))

  pub counted_no : (x : X) (n : ℕ) → slice_get xs i ≡ Some x → n ≡ count_by p (take i xs) → p x ≡ false → n ≡ count_by p (take (i + 1) xs)
  counted_no x n at so_far test = so_far ∙ sym (count_by_more_no p xs i x (slice_get_within xs i x at) (ap p (get_or_from_slice_get xs i x x at) ∙ test))

  pub counted_all : (n : ℕ) → length xs ≤ i → n ≡ count_by p (take i xs) → n ≡ count_by p xs
  counted_all n long so_far = so_far ∙ ap (count_by p) (take_all i xs long)

module _ {X : Type 0} (f : X → ℕ) (xs : List X) (i : ℕ) where
  pub summed_more : (x : X) (n m : ℕ) → slice_get xs i ≡ Some x → n ≡ sum_by f (take i xs) → m ≡ f x → n + m ≡ sum_by f (take (i + 1) xs)
  summed_more x n m at so_far more =
      ap₂ (λ a b. a + b) so_far (more ∙ ap f (sym (get_or_from_slice_get xs i x x at))) ∙ sym (sum_by_more f xs i x (slice_get_within xs i x at))

  pub summed_all : (n : ℕ) → length xs ≤ i → n ≡ sum_by f (take i xs) → n ≡ sum_by f xs
  summed_all n long so_far = so_far ∙ ap (sum_by f) (take_all i xs long)

-- ---- actions that some component has

not_zero : (n : ℕ) → not (suc n == 0) ≡ true
not_zero n = ap not none
  where
    none : (suc n == 0) ≡ false
    none = grind (arith, nat_tests)

some_or_not : (b : Bool) (i : ℕ) (ns : List ℕ) (any : Bool) → not (length ns == 0) ≡ any → not (length (cond b (i ∷ ns) ns) == 0) ≡ b || any
some_or_not true i ns any e = not_zero (length ns)
some_or_not false i ns any e = e

some_participant : {S : Type 0} (i : ℕ) (ps : List (Component S)) (a : Act) → not (length (participants_from i ps a) == 0) ≡ list_any (has a) ps
some_participant i [] a = refl
some_participant i (p ∷ ps) a = some_or_not (has a p) i (participants_from (i + 1) ps a) (list_any (has a) ps) (some_participant (i + 1) ps a)

-- there are participants just where some component has the action
pub is_known : {S : Type 0} (ps : List (Component S)) (a : Act) (found : List ℕ) (none : Bool) → found ≡ participants ps a → none ≡ (length found == 0) → not none ≡ list_any (has a) ps
is_known ps a found none e empty = ap not empty ∙ ap (λ ns. not (length ns == 0)) e ∙ some_participant 0 ps a

pub known_first : {S T : Type 0} (ps : List (Component S)) (qs : List (Component T)) (a : Act) → participants ps a ≡ participants qs a → list_any (has a) ps ≡ list_any (has a) qs
known_first ps qs a same = sym (some_participant 0 ps a) ∙ ap (λ ns. not (length ns == 0)) same ∙ some_participant 0 qs a

-- the same where the same components take part in each action
pub known_alike : {S T : Type 0} (ps : List (Component S)) (qs : List (Component T)) (acts : List Act) → ((a : Act) → participants ps a ≡ participants qs a)
    → known_actions ps acts ≡ known_actions qs acts
known_alike ps qs [] same = refl
known_alike ps qs (a ∷ acts) same =
    sum_by-cons (λ b. cond (list_any (has b) ps) 1 0) a acts
    ∙ ap₂ (λ b n. cond b 1 0 + n) (known_first ps qs a (same a)) (known_alike ps qs acts same)
    ∙ sym (sum_by-cons (λ b. cond (list_any (has b) qs) 1 0) a acts)

-- ---- invariants

-- those that are asked depend on the automata's names alone
by_names : (vs : List InvariantTree) (is : List Instance) → asked_invariants vs is ≡ sum_by (asked_of vs) (map (λ (i : Instance). i.automaton.name) is)
by_names vs [] = refl
by_names vs (i ∷ is) =
    sum_by-cons (λ (j : Instance). asked_of vs j.automaton.name) i is
    ∙ ap (λ n. asked_of vs i.automaton.name + n) (by_names vs is)
    ∙ sym (sum_by-cons (asked_of vs) i.automaton.name (map (λ (j : Instance). j.automaton.name) is))

pub asked_alike : (vs ws : List InvariantTree) (is js : List Instance) → vs ≡ ws → map (λ (i : Instance). i.automaton.name) is ≡ map (λ (i : Instance). i.automaton.name) js
    → asked_invariants vs is ≡ asked_invariants ws js
asked_alike vs ws is js same names = ap (λ us. asked_invariants us is) same ∙ by_names ws is ∙ ap (sum_by (asked_of ws)) names ∙ sym (by_names ws js)
