-- Where loops may stand, or there are none: of a whole exactly where of each of its parts.
use Rattle.std.proofs.Common.{◌≡◌, Bool, true, false, ◌||◌, List, [], ◌∷◌, ◌++◌, Option, Some, None, IfSome, refl, All, arith}
use Rattle.std.specs.List.{list_any}
use Rattle.std.proofs.lemmas.List.Elements.{All-nil, All-cons, All-head, All-tail}
use Rattle.ioa_code.specs.Valid.{Part}
use Rattle.ioa_tree.specs.declared.tree.Kind.{Kind}
use Rattle.ioa_tree.specs.declared.tree.Kind.TheVariants.{Input, Output, Internal}
use Rattle.ioa_compile.specs.Tables.{HasLocal}
use Rattle.ioa_object.specs.Versions.{MayStand, part_loops, local_loops, is_needless, version_byte}
use Rattle.ioa_object.proofs.Lists.{AreFine, Anywhere}

pub none_stand : (loops : Bool) → MayStand loops false
none_stand loops e = absurd (cc)

module _ (loops : Bool) where
  pub both_stand : (a b : Bool) → MayStand loops a → MayStand loops b → MayStand loops (a || b)
  both_stand true b h k = h
  both_stand false b h k = k

  pub each_stands : (a b : Bool) → MayStand loops (a || b) → MayStand loops a × MayStand loops b
  each_stands true b h = (h, λ e. h refl)
  each_stands false b h = (none_stand loops, h)

  -- ---- lists

  pub all_stand : {A : Type 0} (has : A → Bool) (xs : List A) → MayStand loops (list_any has xs) → All (λ x. MayStand loops (has x)) xs
  all_stand has [] h = All-nil (λ x. MayStand loops (has x))
  all_stand has (x ∷ xs) h =
      let p = each_stands (has x) (list_any has xs) h in All-cons (λ x. MayStand loops (has x)) x xs p.0 (all_stand has xs p.1)

  pub stand_all : {A : Type 0} (has : A → Bool) (xs : List A) → All (λ x. MayStand loops (has x)) xs → MayStand loops (list_any has xs)
  stand_all has [] h = none_stand loops
  stand_all has (x ∷ xs) h =
      both_stand (has x) (list_any has xs) (All-head (λ x. MayStand loops (has x)) x xs h) (stand_all has xs (All-tail (λ x. MayStand loops (has x)) x xs h))

  pub fine_stand : {A : Type 0} (has : A → Bool) (before xs : List A) → MayStand loops (list_any has xs) → AreFine (Anywhere (λ x. MayStand loops (has x))) before xs
  fine_stand has before [] h = tt
  fine_stand has before (x ∷ xs) h =
      let p = each_stands (has x) (list_any has xs) h in (p.0, fine_stand has (before ++ x ∷ []) xs p.1)

  pub stand_fine : {A : Type 0} (has : A → Bool) (before xs : List A) → AreFine (Anywhere (λ x. MayStand loops (has x))) before xs → MayStand loops (list_any has xs)
  stand_fine has before [] h = none_stand loops
  stand_fine has before (x ∷ xs) h = both_stand (has x) (list_any has xs) h.0 (stand_fine has (before ++ x ∷ []) xs h.1)

  -- ---- parts that an input has not

  pub some_stands : (P : Part → Type 0) (o : Option Part) → IfSome o P → MayStand loops (local_loops o) → IfSome o (λ p. P p × MayStand loops (part_loops p))
  some_stands P None h k = tt
  some_stands P (Some p) h k = (h, k)

  pub local_stands : (P : Part → Type 0) → ((p : Part) → P p → MayStand loops (part_loops p)) → (k : Kind) (o : Option Part) → HasLocal P k o → MayStand loops (local_loops o)
  local_stands P f Input None h = none_stand loops
  local_stands P f Input (Some p) h = absurd h
  local_stands P f Output None h = absurd h
  local_stands P f Output (Some p) h = f p h
  local_stands P f Internal None h = absurd h
  local_stands P f Internal (Some p) h = f p h

-- there are loops exactly where they may stand, unless that is needless
pub needed : (loops has : Bool) → MayStand loops has → is_needless loops has ≡ false → loops ≡ has
needed true true h e = refl
needed true false h e = e
needed false true h e = h refl
needed false false h e = refl

pub needless : (loops has : Bool) → is_needless loops has ≡ true → (loops ≡ true) × (has ≡ false)
needless true true e = absurd (cc)
needless true false e = (refl, refl)
needless false has e = absurd (cc)

-- a byte is of one version
pub one_version : (a b : Bool) → version_byte a ≡ version_byte b → a ≡ b
one_version true true e = refl
one_version false false e = refl
one_version true false e = absurd (omega arith)
one_version false true e = absurd (omega arith)
