-- What arms and bodies of effects are called: as many names as there are of them.
use Rattle.std.proofs.Common.{◌≡◌, ◌+◌, ◌++◌, ℕ, List, [], ◌∷◌, arith, length, length-append, refl}
use Rattle.std.specs.Prelude.{codes}
use Rattle.std.specs.Fmt.{decimal}
use Rattle.ioa_tree.specs.Tree.{Arms, Stmt, Stmts, arm, assign, choose, each, no_arm, seq, stop}
use Rattle.ioa_coverage.specs.Taken.{dotted, effect_labels, if_any, labels, labels_in, labels_of, places, places_in, places_of}

any_long : (label : List ℕ) (more : List (List ℕ)) (ss : Stmts) → length more ≡ places_in ss → length (if_any ss (label ∷ more) []) ≡ if_any ss (1 + places_in ss) 0
any_long label more stop long = refl
any_long label more (seq s ss) long = omega (arith, long)

mutual
  one_long : (at : List ℕ) (s : Stmt) → length (labels at s) ≡ places s
  one_long at (assign x e) = refl
  one_long at (choose arms others) =
      arms_long at 1 arms (λ k. if_any others ((codes "else " ++ dotted at k) ∷ labels_in (dotted at k ++ codes ".") 1 others) []) (if_any others (1 + places_in others) 0)
      (λ k. any_long (codes "else " ++ dotted at k) (labels_in (dotted at k ++ codes ".") 1 others) others (all_long (dotted at k ++ codes ".") 1 others))
  one_long at (each x e ss) = omega (arith, all_long (dotted at 1 ++ codes ".") 1 ss)

  arms_long : (at : List ℕ) (k : ℕ) (arms : Arms) (otherwise : ℕ → List (List ℕ)) (n : ℕ) → ((j : ℕ) → length (otherwise j) ≡ n) → length (labels_of at k arms otherwise) ≡ places_of arms + n
  arms_long at k no_arm otherwise n long = omega (arith, long k)
  arms_long at k (arm c ss more) otherwise n long =
      omega
      (arith, all_long (dotted at k ++ codes ".") 1 ss, arms_long at (k + 1) more otherwise n long, length-append (labels_in (dotted at k ++ codes ".") 1 ss) (labels_of at (k + 1) more otherwise))

  all_long : (before : List ℕ) (k : ℕ) (ss : Stmts) → length (labels_in before k ss) ≡ places_in ss
  all_long before k stop = refl
  all_long before k (seq s ss) =
      omega (arith, one_long (before ++ decimal k) s, all_long before (k + 1) ss, length-append (labels (before ++ decimal k) s) (labels_in before (k + 1) ss))

-- one for each arm and body
pub labels_long : (ss : Stmts) → length (effect_labels ss) ≡ places_in ss
labels_long ss = all_long [] 1 ss
