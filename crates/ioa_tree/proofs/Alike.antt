-- What compositions that are alike have in common besides their runs: that they are compatible, and the first broken invariant.
use Rattle.std.proofs.Common.{◌≡◌, ℕ, zero, suc, ◌+◌, List, [], ◌∷◌, Option, Some, refl, sym, ap, ◌∙◌}
use Rattle.std.specs.Prelude.{slice_get}
use Rattle.ioa_value.specs.Actions.{Act}
use Rattle.ioa_tree.specs.Meaning.{or_else}
use Rattle.ioa_tree.specs.Components.{Component, Compatible}
use Rattle.ioa_tree.specs.Steps.{Moved, next, not_an_action, not_enabled, fault, step}
use Rattle.ioa_tree.specs.Invariants.{Broken, in_next, first_from}
use Rattle.ioa_tree.specs.Likes.{AllLike, AllRelated, MovesLike}
use Rattle.ioa_tree.proofs.Simulation.{step_like}

-- the same actions, of the same kinds, by place
abbrev pub SameKinds : {S T : Type 0} → List (Component S) → List (Component T) → Type 0
SameKinds [] [] = Unit {0}
SameKinds [] (q ∷ qs) = ⊥
SameKinds (p ∷ ps) [] = ⊥
SameKinds (p ∷ ps) (q ∷ qs) = ((a : Act) → p.kind_of a ≡ q.kind_of a) × SameKinds ps qs

pub like_kinds : {S T : Type 0} (R : ℕ → S → T → Type 0) (i : ℕ) (ps : List (Component S)) (qs : List (Component T)) → AllLike R i ps qs → SameKinds ps qs
like_kinds R i [] [] h = tt
like_kinds R i [] (q ∷ qs) h = absurd h
like_kinds R i (p ∷ ps) [] h = absurd h
like_kinds R i (p ∷ ps) (q ∷ qs) h = (h.0.kinds, like_kinds R (i + 1) ps qs h.1)

pub kinds_back : {S T : Type 0} (ps : List (Component S)) (qs : List (Component T)) → SameKinds ps qs → SameKinds qs ps
kinds_back [] [] h = tt
kinds_back [] (q ∷ qs) h = absurd h
kinds_back (p ∷ ps) [] h = absurd h
kinds_back (p ∷ ps) (q ∷ qs) h = (λ a. sym (h.0 a), kinds_back ps qs h.1)

-- what stands at a place of the second stands for one of the first
kinds_at : {S T : Type 0} (ps : List (Component S)) (qs : List (Component T)) (n : ℕ) (q : Component T) → SameKinds ps qs → slice_get qs n ≡ Some q
    → (p : Component S) × (slice_get ps n ≡ Some p) × ((a : Act) → p.kind_of a ≡ q.kind_of a)
kinds_at [] [] n q h e = absurd (cc)
kinds_at [] (r ∷ qs) n q h e = absurd h
kinds_at (p ∷ ps) [] n q h e = absurd h
kinds_at {S} {T} (p ∷ ps) (r ∷ qs) zero q h e = let same : r ≡ q = cc in (p, refl, λ a. h.0 a ∙ ap (λ (c : Component T). c.kind_of a) same)
kinds_at (p ∷ ps) (r ∷ qs) (suc n) q h e = kinds_at ps qs n q h.1 e

pub same_compatible : {S T : Type 0} (ps : List (Component S)) (qs : List (Component T)) → SameKinds ps qs → Compatible ps → Compatible qs
same_compatible ps qs k c i j p q a away at there =
    let u = kinds_at ps qs i p k at in
    let v = kinds_at ps qs j q k there in
    let w = c i j u.0 v.0 a away u.1 v.1 in
    (λ e. sym (v.2 a) ∙ w.0 (u.2 a ∙ e), λ e f. w.1 (u.2 a ∙ e) (v.2 a ∙ f))

-- ---- invariants

next_like : {S T : Type 0} (R : ℕ → S → T → Type 0) (m : Moved S) (l : Moved T) (f : List S → Option Broken) (g : List T → Option Broken)
    → MovesLike R 0 m l → ((us : List S) (vs : List T) → AllRelated R 0 us vs → f us ≡ g vs) → in_next m f ≡ in_next l g
next_like R (next us) l f g (vs, e, h) k = k us vs h ∙ ap (λ x. in_next x g) (sym e)
next_like R not_an_action l f g e k = ap (λ x. in_next x g) (sym e)
next_like R not_enabled l f g e k = ap (λ x. in_next x g) (sym e)
next_like R (fault c x) l f g e k = ap (λ x. in_next x g) (sym e)

-- where related states break the same, so do runs of the same actions from related states
pub first_like : {S T : Type 0} (R : ℕ → S → T → Type 0) (ps : List (Component S)) (qs : List (Component T)) (f : ℕ → List S → Option Broken) (g : ℕ → List T → Option Broken)
    → AllLike R 0 ps qs → ((n : ℕ) (us : List S) (vs : List T) → AllRelated R 0 us vs → f n us ≡ g n vs)
    → (n : ℕ) (acts : List Act) (ss : List S) (ts : List T) → AllRelated R 0 ss ts → first_from ps f n acts ss ≡ first_from qs g n acts ts
first_like R ps qs f g h same n [] ss ts r = same n ss ts r
first_like R ps qs f g h same n (a ∷ acts) ss ts r =
    ap (λ o. or_else o (in_next (step ps a ss) (λ us. first_from ps f (n + 1) acts us))) (same n ss ts r)
    ∙ ap (or_else (g n ts))
    (next_like R (step ps a ss) (step qs a ts) (λ us. first_from ps f (n + 1) acts us) (λ vs. first_from qs g (n + 1) acts vs) (step_like R ps qs a ss ts h r)
    (λ us vs k. first_like R ps qs f g h same (n + 1) acts us vs k))
