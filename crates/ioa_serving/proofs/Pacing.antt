-- Who is given up is waited for no more.
use Rattle.std.proofs.Common.{◌≡◌, ◌≤◌, ◌++◌, ◌&&◌, ◌||◌, ℕ, Bool, true, false, List, [], ◌∷◌, arith, drop, length, map, not, refl, take}
use Rattle.std.proofs.lemmas.List.{append-nil, drop_all, take_all}
use Rattle.ioa_serving.specs.Pacing.{given_up, is_held}
use Rattle.ioa_serving.specs.declared.progress.Progress.{Progress}

given_up_alone : (heeded lost later far : Bool) → ((heeded && (not (lost || ((heeded && (not lost && later)) && far)) && later)) && far) ≡ false
given_up_alone false lost later far = refl
given_up_alone true true later far = refl
given_up_alone true false false far = refl
given_up_alone true false true true = refl
given_up_alone true false true false = refl

pub given_up_free : (who : Progress) (ps : List Progress) → is_held who (map (given_up who) ps) ≡ false
given_up_free who [] = refl
given_up_free who (p ∷ ps) = grind (arith, given_up_alone, given_up_free who ps)

-- as a loop leaves them that has gone over all
pub all_given_up : (who : Progress) (i : ℕ) (ps qs : List Progress) → length ps ≤ i → qs ≡ map (given_up who) (take i ps) ++ drop i ps → is_held who qs ≡ false
all_given_up who i ps qs all made = rw (made, take_all i ps all, drop_all i ps all, append-nil (map (given_up who) ps)) (given_up_free who ps)
