-- What proposals give depends on the names in them alone.
use Rattle.std.proofs.Common.{◌≡◌, ℕ, Bool, true, false, cond, List, [], ◌∷◌, find, Some, refl, ap, ◌∙◌}
use Rattle.std.specs.List.{list_all, flat_map}
use Rattle.std.specs.Option.{option_map_or}
use Rattle.std.specs.Str.{bytes_eq}
use Rattle.std.proofs.lemmas.Bool.{and_parts}
use Rattle.ioa_value.specs.Actions.{Name}
use Rattle.ioa_value.specs.Plain.{Val}
use Rattle.ioa_value.specs.Table.{Table, shape_at, type_named}
use Rattle.ioa_tree.specs.Tree.{FieldTree, PositionTree, typed, only, ChoiceTree, exactly, any_below, expr_in, ProposalTree}
use Rattle.ioa_tree.specs.Names.{names_of_expr, names_of_proposal}
use Rattle.ioa_tree.specs.Meaning.{Env}
use Rattle.ioa_tree.specs.Proposing.{Words, Tried, tries, idle, then_try, exact, below, numbered, choice, parameter, parameters}
use Rattle.ioa_tree.proofs.Agreement.{all_both, val_same}

module _ (words : Words) (types : Table) (p : Name → Bool) (m n : Env) (same : (x : Name) → p x ≡ true → m x ≡ n x) where
  choice_same : (c : ChoiceTree) (k : ℕ) → list_all p (names_of_expr (expr_in c)) ≡ true → choice words types m c k ≡ choice words types n c k
  choice_same (exactly e) k h = ap (λ a. exact a k) (val_same types p m n same e h)
  choice_same (any_below e) k h = ap (λ a. then_try (exact a k) (below words)) (val_same types p m n same e h)

  -- what is found for the name, or else the other
  found_same : (ps : List ProposalTree) (x : Name) (k : ℕ) (other : Tried Val) → list_all p (flat_map names_of_proposal ps) ≡ true
      → option_map_or (λ q. choice words types m q.choice k) (find (λ q. bytes_eq q.name x) ps) other
      ≡ option_map_or (λ q. choice words types n q.choice k) (find (λ q. bytes_eq q.name x) ps) other
  found_same [] x k other h = refl
  found_same (q ∷ ps) x k other h =
      let parts = all_both p (names_of_proposal q) (flat_map names_of_proposal ps) h in
      go (bytes_eq q.name x) (choice_same q.choice k (and_parts (p q.name) (list_all p (names_of_expr (expr_in q.choice))) parts.0).1) (found_same ps x k other parts.1)
    where
      go : (b : Bool) → choice words types m q.choice k ≡ choice words types n q.choice k
          → option_map_or (λ r. choice words types m r.choice k) (find (λ r. bytes_eq r.name x) ps) other
          ≡ option_map_or (λ r. choice words types n r.choice k) (find (λ r. bytes_eq r.name x) ps) other
          → option_map_or (λ r. choice words types m r.choice k) (cond b (Some q) (find (λ r. bytes_eq r.name x) ps)) other
          ≡ option_map_or (λ r. choice words types n r.choice k) (cond b (Some q) (find (λ r. bytes_eq r.name x) ps)) other
      go true first rest = first
      go false first rest = rest

  parameter_same : (ps : List ProposalTree) (f : FieldTree) (k : ℕ) → list_all p (flat_map names_of_proposal ps) ≡ true
      → parameter words types m ps f k ≡ parameter words types n ps f k
  parameter_same ps f k h = found_same ps f.name k (option_map_or (λ ty. numbered words ty (shape_at types ty) k) (type_named types f.ty) (idle k)) h

  pub parameters_same : (ps : List ProposalTree) → list_all p (flat_map names_of_proposal ps) ≡ true
      → (qs : List PositionTree) (k : ℕ) → parameters words types m ps qs k ≡ parameters words types n ps qs k
  parameters_same ps h [] k = refl
  parameters_same ps h (typed f ∷ qs) k =
      ap (λ x. then_try x (λ v after. then_try (parameters words types m ps qs after) (λ vs. tries (v ∷ vs)))) (parameter_same ps f k h)
      ∙ go (parameter words types n ps f k) (λ after. parameters_same ps h qs after)
    where
      go : (x : Tried Val) → ((after : ℕ) → parameters words types m ps qs after ≡ parameters words types n ps qs after)
          → then_try x (λ v after. then_try (parameters words types m ps qs after) (λ vs. tries (v ∷ vs)))
          ≡ then_try x (λ v after. then_try (parameters words types n ps qs after) (λ vs. tries (v ∷ vs)))
      go (tries v after) rest = ap (λ y. then_try y (λ vs. tries (v ∷ vs))) (rest after)
      go (idle taken) rest = refl
  parameters_same ps h (only c ∷ qs) k = parameters_same ps h qs k
