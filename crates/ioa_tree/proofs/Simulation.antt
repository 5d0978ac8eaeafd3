-- Compositions that are alike, component by component, do the same.
use Rattle.std.proofs.Common.{◌≡◌, ℕ, ◌+◌, List, [], ◌∷◌, Bool, true, false, cond, IsTrue, Result, Ok, Err, filter, take, refl, sym, ap, subst}
use Rattle.std.specs.List.{list_any}
use Rattle.ioa_arithmetic.specs.declared.arithmetic.Fault.{Fault}
use Rattle.ioa_value.specs.Actions.{Name, Act}
use Rattle.ioa_tree.specs.Components.{Component, has, owns, is_kind, is_local}
use Rattle.ioa_tree.specs.Steps.{Moved, next, not_an_action, not_enabled, fault, Asked, free, owned, asked, effect_on, with_state, then_rest, effects, allowed, step, participants_from, owner_from}
use Rattle.ioa_tree.specs.Runs.{Reached, after, run_from, run, is_external, trace}
use Rattle.ioa_tree.specs.Likes.{AreLike, IsLike, AllLike, AllRelated, MovesLike, RunsLike}

cond_like : {X : Type 0} (b c : Bool) (x x' y y' : X) → b ≡ c → (IsTrue b → x ≡ x') → y ≡ y' → cond b x y ≡ cond c x' y'
cond_like true true x x' y y' e h k = h refl
cond_like true false x x' y y' e h k = cc
cond_like false true x x' y y' e h k = cc
cond_like false false x x' y y' e h k = k

cond_are : {S T : Type 0} (R : S → T → Type 0) (b c : Bool) (x y : Result S Fault) (x' y' : Result T Fault)
    → b ≡ c → (IsTrue b → AreLike R x x') → AreLike R y y' → AreLike R (cond b x y) (cond c x' y')
cond_are R true true x y x' y' e h k = h refl
cond_are R true false x y x' y' e h k = absurd (cc)
cond_are R false true x y x' y' e h k = absurd (cc)
cond_are R false false x y x' y' e h k = k

any_like : {S T : Type 0} (R : ℕ → S → T → Type 0) (i : ℕ) (ps : List (Component S)) (qs : List (Component T)) (a : Act)
    → AllLike R i ps qs → list_any (has a) ps ≡ list_any (has a) qs
any_like R i [] [] a h = refl
any_like R i [] (q ∷ qs) a h = absurd h
any_like R i (p ∷ ps) [] a h = absurd h
any_like R i (p ∷ ps) (q ∷ qs) a h =
    let e : p.kind_of a ≡ q.kind_of a = h.0.kinds a in
    let k : list_any (has a) ps ≡ list_any (has a) qs = any_like R (i + 1) ps qs a h.1 in
    rw (e, k) refl

pub asked_like : {S T : Type 0} (R : ℕ → S → T → Type 0) (i : ℕ) (ps : List (Component S)) (qs : List (Component T)) (a : Act) (ss : List S) (ts : List T)
    → AllLike R i ps qs → AllRelated R i ss ts → asked i ps a ss ≡ asked i qs a ts
asked_like R i [] [] a ss ts h r = refl
asked_like R i [] (q ∷ qs) a ss ts h r = absurd h
asked_like R i (p ∷ ps) [] a ss ts h r = absurd h
asked_like R i (p ∷ ps) (q ∷ qs) a [] [] h r = refl
asked_like R i (p ∷ ps) (q ∷ qs) a [] (t ∷ ts) h r = absurd r
asked_like R i (p ∷ ps) (q ∷ qs) a (s ∷ ss) [] h r = absurd r
asked_like R i (p ∷ ps) (q ∷ qs) a (s ∷ ss) (t ∷ ts) h r =
    cond_like (owns a p) (owns a q) (owned i (p.guard a s)) (owned i (q.guard a t)) (asked (i + 1) ps a ss) (asked (i + 1) qs a ts)
    (ap is_local (h.0.kinds a)) (λ o. ap (owned i) (h.0.guards a s t o r.0)) (asked_like R (i + 1) ps qs a ss ts h.1 r.1)

effect_on_like : {S T : Type 0} (R : S → T → Type 0) (p : Component S) (q : Component T) (a : Act) (s : S) (t : T)
    → IsLike R p q → R s t → AreLike R (effect_on p a s) (effect_on q a t)
effect_on_like R p q a s t h r =
    cond_are R (has a p) (has a q) (p.effect a s) (Ok s) (q.effect a t) (Ok t) (ap is_kind (h.kinds a)) (λ o. h.effects a s t o r) r

with_like : {S T : Type 0} (R : ℕ → S → T → Type 0) (i : ℕ) (s : S) (t : T) (m : Moved S) (n : Moved T)
    → R i s t → MovesLike R (i + 1) m n → MovesLike R i (with_state s m) (with_state t n)
with_like R i s t (next ss) n r (ts, e, h) = (t ∷ ts, ap (with_state t) e, (r, h))
with_like R i s t not_an_action n r e = ap (with_state t) e
with_like R i s t not_enabled n r e = ap (with_state t) e
with_like R i s t (fault c f) n r e = ap (with_state t) e

then_like : {S T : Type 0} (R : ℕ → S → T → Type 0) (i : ℕ) (x : Result S Fault) (y : Result T Fault) (m : Moved S) (n : Moved T)
    → AreLike (R i) x y → MovesLike R (i + 1) m n → MovesLike R i (then_rest i x m) (then_rest i y n)
then_like R i (Ok s) (Ok t) m n r h = with_like R i s t m n r h
then_like R i (Ok s) (Err g) m n r h = absurd r
then_like R i (Err f) (Ok t) m n r h = absurd r
then_like R i (Err f) (Err g) m n r h = ap (fault i) (sym r)

effects_like : {S T : Type 0} (R : ℕ → S → T → Type 0) (i : ℕ) (ps : List (Component S)) (qs : List (Component T)) (a : Act) (ss : List S) (ts : List T)
    → AllLike R i ps qs → AllRelated R i ss ts → MovesLike R i (effects i ps a ss) (effects i qs a ts)
effects_like R i [] [] a ss ts h r = ([], refl, tt)
effects_like R i [] (q ∷ qs) a ss ts h r = absurd h
effects_like R i (p ∷ ps) [] a ss ts h r = absurd h
effects_like R i (p ∷ ps) (q ∷ qs) a [] [] h r = ([], refl, tt)
effects_like R i (p ∷ ps) (q ∷ qs) a [] (t ∷ ts) h r = absurd r
effects_like R i (p ∷ ps) (q ∷ qs) a (s ∷ ss) [] h r = absurd r
effects_like R i (p ∷ ps) (q ∷ qs) a (s ∷ ss) (t ∷ ts) h r =
    then_like R i (effect_on p a s) (effect_on q a t) (effects (i + 1) ps a ss) (effects (i + 1) qs a ts)
    (effect_on_like (R i) p q a s t h.0 r.0) (effects_like R (i + 1) ps qs a ss ts h.1 r.1)

allowed_same : {S T : Type 0} (R : ℕ → S → T → Type 0) (g : Asked) (m : Moved S) (n : Moved T)
    → MovesLike R 0 m n → MovesLike R 0 (allowed g m) (allowed g n)
allowed_same R free m n h = h
allowed_same R (owned i (Ok true)) m n h = h
allowed_same R (owned i (Ok false)) m n h = refl
allowed_same R (owned i (Err f)) m n h = refl

cond_moves : {S T : Type 0} (R : ℕ → S → T → Type 0) (b c : Bool) (m : Moved S) (n : Moved T)
    → b ≡ c → MovesLike R 0 m n → MovesLike R 0 (cond b m not_an_action) (cond c n not_an_action)
cond_moves R true true m n e h = h
cond_moves R true false m n e h = absurd (cc)
cond_moves R false true m n e h = absurd (cc)
cond_moves R false false m n e h = refl

pub step_like : {S T : Type 0} (R : ℕ → S → T → Type 0) (ps : List (Component S)) (qs : List (Component T)) (a : Act) (ss : List S) (ts : List T)
    → AllLike R 0 ps qs → AllRelated R 0 ss ts → MovesLike R 0 (step ps a ss) (step qs a ts)
step_like R ps qs a ss ts h r =
    let P : Asked → Type 0 = λ g. MovesLike R 0 (allowed (asked 0 ps a ss) (effects 0 ps a ss)) (allowed g (effects 0 qs a ts)) in
    let k : P (asked 0 ps a ss) = allowed_same R (asked 0 ps a ss) (effects 0 ps a ss) (effects 0 qs a ts) (effects_like R 0 ps qs a ss ts h r) in
    cond_moves R (list_any (has a) ps) (list_any (has a) qs) (allowed (asked 0 ps a ss) (effects 0 ps a ss)) (allowed (asked 0 qs a ts) (effects 0 qs a ts))
    (any_like R 0 ps qs a h) (subst P (asked_like R 0 ps qs a ss ts h r) k)

after_like : {S T : Type 0} (R : ℕ → S → T → Type 0) (n : ℕ) (ss : List S) (ts : List T) (m : Moved S) (m' : Moved T)
    (f : List S → Reached S) (g : List T → Reached T)
    → MovesLike R 0 m m' → AllRelated R 0 ss ts
    → ((us : List S) (vs : List T) → AllRelated R 0 us vs → RunsLike R (f us) (g vs))
    → RunsLike R (after n ss m f) (after n ts m' g)
after_like R n ss ts (next us) m' f g (vs, e, h) r k = rw e (k us vs h)
after_like R n ss ts not_an_action m' f g e r k = rw e (record { performed = refl; ending = refl; states = r })
after_like R n ss ts not_enabled m' f g e r k = rw e (record { performed = refl; ending = refl; states = r })
after_like R n ss ts (fault c x) m' f g e r k = rw e (record { performed = refl; ending = refl; states = r })

run_from_like : {S T : Type 0} (R : ℕ → S → T → Type 0) (n : ℕ) (ps : List (Component S)) (qs : List (Component T)) (acts : List Act) (ss : List S) (ts : List T)
    → AllLike R 0 ps qs → AllRelated R 0 ss ts → RunsLike R (run_from n ps acts ss) (run_from n qs acts ts)
run_from_like R n ps qs [] ss ts h r = record { performed = refl; ending = refl; states = r }
run_from_like R n ps qs (a ∷ acts) ss ts h r =
    after_like R n ss ts (step ps a ss) (step qs a ts) (λ us. run_from (n + 1) ps acts us) (λ vs. run_from (n + 1) qs acts vs)
    (step_like R ps qs a ss ts h r) r (λ us vs k. run_from_like R (n + 1) ps qs acts us vs h k)

-- the same number performed, the same end, and related states
pub run_like : {S T : Type 0} (R : ℕ → S → T → Type 0) (ps : List (Component S)) (qs : List (Component T)) (acts : List Act) (ss : List S) (ts : List T)
    → AllLike R 0 ps qs → AllRelated R 0 ss ts → RunsLike R (run ps acts ss) (run qs acts ts)
run_like R ps qs acts ss ts h r = run_from_like R 0 ps qs acts ss ts h r

pub owner_like : {S T : Type 0} (R : ℕ → S → T → Type 0) (i : ℕ) (ps : List (Component S)) (qs : List (Component T)) (a : Act)
    → AllLike R i ps qs → owner_from i ps a ≡ owner_from i qs a
owner_like R i [] [] a h = refl
owner_like R i [] (q ∷ qs) a h = absurd h
owner_like R i (p ∷ ps) [] a h = absurd h
owner_like R i (p ∷ ps) (q ∷ qs) a h =
    let e : p.kind_of a ≡ q.kind_of a = h.0.kinds a in
    let k : owner_from (i + 1) ps a ≡ owner_from (i + 1) qs a = owner_like R (i + 1) ps qs a h.1 in
    rw (e, k) refl

pub participants_like : {S T : Type 0} (R : ℕ → S → T → Type 0) (i : ℕ) (ps : List (Component S)) (qs : List (Component T)) (a : Act)
    → AllLike R i ps qs → participants_from i ps a ≡ participants_from i qs a
participants_like R i [] [] a h = refl
participants_like R i [] (q ∷ qs) a h = absurd h
participants_like R i (p ∷ ps) [] a h = absurd h
participants_like R i (p ∷ ps) (q ∷ qs) a h =
    let e : p.kind_of a ≡ q.kind_of a = h.0.kinds a in
    let k : participants_from (i + 1) ps a ≡ participants_from (i + 1) qs a = participants_like R (i + 1) ps qs a h.1 in
    rw (e, k) refl

pub external_like : {S T : Type 0} (R : ℕ → S → T → Type 0) (i : ℕ) (hidden : List Name) (ps : List (Component S)) (qs : List (Component T)) (a : Act)
    → AllLike R i ps qs → is_external hidden ps a ≡ is_external hidden qs a
external_like R i hidden [] [] a h = refl
external_like R i hidden [] (q ∷ qs) a h = absurd h
external_like R i hidden (p ∷ ps) [] a h = absurd h
external_like R i hidden (p ∷ ps) (q ∷ qs) a h =
    let e : p.kind_of a ≡ q.kind_of a = h.0.kinds a in
    let k : is_external hidden ps a ≡ is_external hidden qs a = external_like R (i + 1) hidden ps qs a h.1 in
    rw (e, k) refl

filter_like : (f g : Act → Bool) (xs : List Act) → ((a : Act) → f a ≡ g a) → filter f xs ≡ filter g xs
filter_like f g [] h = refl
filter_like f g (x ∷ xs) h = rw (h x, filter_like f g xs h) refl

pub trace_like : {S T : Type 0} (R : ℕ → S → T → Type 0) (hidden : List Name) (ps : List (Component S)) (qs : List (Component T)) (acts : List Act) (n : ℕ)
    → AllLike R 0 ps qs → trace hidden ps acts n ≡ trace hidden qs acts n
trace_like R hidden ps qs acts n h =
    filter_like (is_external hidden ps) (is_external hidden qs) (take n acts) (λ a. external_like R 0 hidden ps qs a h)
