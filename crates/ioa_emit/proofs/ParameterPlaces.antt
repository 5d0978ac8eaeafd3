-- The place of a parameter among all positions of an entry.
use Rattle.std.proofs.Common.{◌≡◌, ℕ, ◌+◌, ◌<◌, Bool, true, false, cond, List, [], ◌∷◌, length, map, Some, refl, ap, ◌∙◌, arith}
use Rattle.std.specs.List.{position, position_from}
use Rattle.std.specs.Str.{bytes_eq}
use Rattle.std.proofs.lemmas.Iterator.Adapters.{position_from-zero}
use Rattle.ioa_value.specs.Actions.{Name}
use Rattle.ioa_tree.specs.declared.tree.Position.{Position}
use Rattle.ioa_tree.specs.declared.tree.Position.TheVariants.{Typed, Constant}
use Rattle.ioa_tree.specs.Tree.{PositionTree, typed, only}
use Rattle.ioa_tree.specs.View.{name_of, position_of}
use Rattle.ioa_emit.specs.Scopes.{parameter_from}

-- the parameter has this name
abbrev pub is_called : Name → PositionTree → Bool
is_called x (typed f) = bytes_eq f.name x
is_called x (only c) = false

places : (x : Name) (i : ℕ) (ps : List Position) → position_from (λ p. is_called x (position_of p)) i ps ≡ parameter_from i (map position_of ps) x
places x i [] = refl
places x i (Typed f ∷ ps) = ap (cond (bytes_eq (name_of f.name) x) (Some i)) (places x (i + 1) ps)
places x i (Constant c ∷ ps) = places x (i + 1) ps

pub position-parameter : (x : Name) (ps : List Position) → position (λ p. is_called x (position_of p)) ps ≡ parameter_from 0 (map position_of ps) x
position-parameter x ps = position_from-zero (λ p. is_called x (position_of p)) ps ∙ places x 0 ps

parameter_from_below : (i : ℕ) (ps : List PositionTree) (x : Name) (k : ℕ) → parameter_from i ps x ≡ Some k → k < i + length ps
parameter_from_below i [] x k e = absurd (cc)
parameter_from_below i (typed f ∷ ps) x k e = go (bytes_eq f.name x) e (parameter_from_below (i + 1) ps x k)
  where
    go : (b : Bool) → cond b (Some i) (parameter_from (i + 1) ps x) ≡ Some k → (parameter_from (i + 1) ps x ≡ Some k → k < i + 1 + length ps) → k < i + length (typed f ∷ ps)
    go true e rest = let same : i ≡ k = cc in omega arith
    go false e rest = let r = rest e in omega arith
parameter_from_below i (only c ∷ ps) x k e = let r = parameter_from_below (i + 1) ps x k e in omega arith

pub parameter_below : (ps : List PositionTree) (x : Name) (k : ℕ) → parameter_from 0 ps x ≡ Some k → k < length ps
parameter_below ps x k e = let r = parameter_from_below 0 ps x k e in omega arith
