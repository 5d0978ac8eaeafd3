-- A step is its participants' step.
use Rattle.std.proofs.Common.{◌≡◌, ℕ, zero, suc, ◌+◌, ◌<◌, List, [], ◌∷◌, ◌++◌, length, get_or, take, drop, map, filter, All, append_assoc, Bool, true, false, cond, Option, None, Some, Result, Ok, Err, refl, sym, ◌∙◌, ap, subst, arith, length-append}
use Rattle.std.specs.Prelude.{nat_eq, slice_get, slice_index, slice_set}
use Rattle.std.specs.List.{AllByRecursion, IsDistinct, list_any}
use Rattle.std.proofs.lemmas.Bool.Decides.{nat_tests}
use Rattle.std.proofs.Math.Seq.{set-append_seam}
use Rattle.std.proofs.lemmas.List.{append-nil, drop_all, map-set, take_all}
use Rattle.std.proofs.lemmas.List.Elements.{All-head, All-tail}
use Rattle.ioa_arithmetic.specs.declared.arithmetic.Fault.{Fault}
use Rattle.ioa_value.specs.Actions.{Act}
use Rattle.ioa_value.proofs.ItemLemmas.{item_there}
use Rattle.ioa_tree.specs.declared.tree.Kind.{Kind}
use Rattle.ioa_tree.specs.Components.{Component, has, owns, is_kind, is_local}
use Rattle.ioa_tree.specs.Steps.{Moved, next, not_an_action, not_enabled, fault, Asked, free, owned, asked, with_state, then_rest, effect_on, effects, allowed, step, participants_from, participants}
use Rattle.ioa_system.specs.Participants.{taken, put_back, renumbered, all_back, step_from}

-- ---- items and their places

pub taken_some : {X : Type 0} (n : ℕ) (ns : List ℕ) (xs : List X) (x : X) → slice_get xs n ≡ Some x → taken (n ∷ ns) xs ≡ x ∷ taken ns xs
taken_some n ns xs x e = rw e refl

set_got : {X : Type 0} (xs : List X) (n : ℕ) (x : X) → slice_get xs n ≡ Some x → slice_set xs n x ≡ xs
set_got [] n x e = refl
set_got (y ∷ ys) zero x e = cc
set_got (y ∷ ys) (suc n) x e = ap (λ zs. y ∷ zs) (set_got ys n x e)

-- what was taken, put back
pub put_back-taken : {X : Type 0} (ns : List ℕ) (xs : List X) → All (λ n. n < length xs) ns → put_back ns (taken ns xs) xs ≡ xs
put_back-taken [] xs h = refl
put_back-taken (n ∷ ns) xs h =
    let g = item_there xs n (All-head (λ k. k < length xs) n ns h) in
    rw (taken_some n ns xs g.0 g.1, set_got xs n g.0 g.1) (put_back-taken ns xs (All-tail (λ k. k < length xs) n ns h))

pub map_put_back : {X Y : Type 0} (f : X → Y) (ns : List ℕ) (ys xs : List X) → map f (put_back ns ys xs) ≡ put_back ns (map f ys) (map f xs)
map_put_back f [] ys xs = refl
map_put_back f (n ∷ ns) [] xs = refl
map_put_back f (n ∷ ns) (y ∷ ys) xs = map_put_back f ns ys (slice_set xs n y) ∙ ap (put_back ns (map f ys)) (map-set f xs n y)

-- a vector whose items are all written anew
pub written_anew : {X : Type 0} (n : ℕ) (xs ys : List X) → length xs ≡ length ys → n ≡ length ys → take n (xs ++ drop (length xs) ys) ≡ xs
written_anew n xs ys e l =
    let d : drop (length xs) ys ≡ [] = drop_all (length xs) ys (omega arith) in
    rw (d, append-nil xs) (take_all n xs (omega arith))

-- the item at k, and those after it
pub record ItemAt {X : Type 0} (xs : List X) (k : ℕ) (x : X) (more : List X) : Type 0 where
  pub within : k < length xs
  pub is : (d : X) → get_or xs k d ≡ x
  pub rest : drop (k + 1) xs ≡ more

pub item_at : {X : Type 0} (xs : List X) (k : ℕ) (x : X) (more : List X) → drop k xs ≡ x ∷ more → ItemAt xs k x more
item_at [] zero x more e = absurd (cc)
item_at [] (suc k) x more e = absurd (cc)
item_at (y ∷ ys) zero x more e = record { within = omega arith; is = λ d. cc; rest = cc }
item_at (y ∷ ys) (suc k) x more e =
    let r : ItemAt ys k x more = item_at ys k x more e in
    let w : k < length ys = r.within in
    let l : suc (k + 1) ≡ suc k + 1 = omega arith in
    record { within = omega arith; is = r.is; rest = subst (λ j. drop j (y ∷ ys) ≡ more) l r.rest }

-- ---- which components participate

none_is_local : (k : Option Kind) → is_kind k ≡ false → is_local k ≡ false
none_is_local None h = refl
none_is_local (Some k) h = cc

pub owns_none : {S : Type 0} (p : Component S) (a : Act) → has a p ≡ false → owns a p ≡ false
owns_none p a h = none_is_local (p.kind_of a) h

-- a component has the action or not, and its number and place among the participants are told so
pub data Takes {S : Type 0} (a : Act) (p : Component S) (i : ℕ) (ps : List (Component S)) : Type 0 where
  participates : has a p ≡ true → participants_from i (p ∷ ps) a ≡ i ∷ participants_from (i + 1) ps a → filter (has a) (p ∷ ps) ≡ p ∷ filter (has a) ps → Takes a p i ps
  stays : has a p ≡ false → participants_from i (p ∷ ps) a ≡ participants_from (i + 1) ps a → filter (has a) (p ∷ ps) ≡ filter (has a) ps → Takes a p i ps

pub takes : {S : Type 0} (a : Act) (p : Component S) (i : ℕ) (ps : List (Component S)) → Takes a p i ps
takes a p i ps = by (has a p) refl
  where
    by : (b : Bool) → has a p ≡ b → Takes a p i ps
    by true h = participates h (rw h refl) (rw h refl)
    by false h = stays h (rw h refl) (rw h refl)

any_filtered : {S : Type 0} (a : Act) (ps : List (Component S)) → list_any (has a) (filter (has a) ps) ≡ list_any (has a) ps
any_filtered a [] = refl
any_filtered a (p ∷ ps) = elim (takes a p 0 ps) [
  | participates h n f ↦ rw (f, h) refl
  | stays h n f ↦ rw (f, h) (any_filtered a ps)
]

-- participants have numbers of their own, from i on
apart_from : {S : Type 0} (a : Act) (n i : ℕ) (ps : List (Component S)) → n < i → AllByRecursion (λ m. nat_eq n m ≡ false) (participants_from i ps a)
apart_from a n i [] l = tt
apart_from a n i (p ∷ ps) l =
    let more : AllByRecursion (λ m. nat_eq n m ≡ false) (participants_from (i + 1) ps a) = apart_from a n (i + 1) ps (omega arith) in
    elim (takes a p i ps) [
      | participates h e f ↦ subst (AllByRecursion (λ m. nat_eq n m ≡ false)) (sym e) (grind (arith, nat_tests), more)
      | stays h e f ↦ subst (AllByRecursion (λ m. nat_eq n m ≡ false)) (sym e) more
    ]

pub participants_differ : {S : Type 0} (a : Act) (i : ℕ) (ps : List (Component S)) → IsDistinct nat_eq (participants_from i ps a)
unfolding IsDistinct
participants_differ a i [] = tt
participants_differ a i (p ∷ ps) =
    let more : IsDistinct nat_eq (participants_from (i + 1) ps a) = participants_differ a (i + 1) ps in
    elim (takes a p i ps) [
      | participates h e f ↦ subst (IsDistinct nat_eq) (sym e) (apart_from a i (i + 1) ps (omega arith), more)
      | stays h e f ↦ subst (IsDistinct nat_eq) (sym e) more
    ]

-- the places of a list that come from i on in another
abbrev pub Stands : {X : Type 0} → List X → ℕ → List X → Type 0
Stands all i xs = (j : ℕ) → slice_get all (i + j) ≡ slice_get xs j

pub stands_rest : {X : Type 0} (all : List X) (i : ℕ) (x : X) (xs : List X) → Stands all i (x ∷ xs) → Stands all (i + 1) xs
stands_rest all i x xs h = λ j. let e : (i + 1) + j ≡ i + suc j = omega arith in ap (slice_get all) e ∙ h (suc j)

pub stands_first : {X : Type 0} (all : List X) (i : ℕ) (x : X) (xs : List X) → Stands all i (x ∷ xs) → slice_get all i ≡ Some x
stands_first all i x xs h = let e : i ≡ i + 0 = omega arith in ap (slice_get all) e ∙ h 0

-- ---- the owner's answer

abbrev pub asked_renumbered : List ℕ → Asked → Asked
asked_renumbered ns free = free
asked_renumbered ns (owned i r) = owned (slice_index ns i) r

module _ {S : Type 0} (a : Act) (all : List S) (ns : List ℕ) where
  abbrev among : ℕ → List (Component S) → List S → Asked
  among k ps ts = asked_renumbered ns (asked k (filter (has a) ps) a ts)

  asked_more : (i k : ℕ) (p : Component S) (ps : List (Component S)) (s : S) (ss ts : List S) (b : Bool) → owns a p ≡ b → slice_index ns k ≡ i
      → asked (i + 1) ps a ss ≡ asked_renumbered ns (asked (k + 1) (filter (has a) ps) a ts)
      → asked i (p ∷ ps) a (s ∷ ss) ≡ asked_renumbered ns (asked k (p ∷ filter (has a) ps) a (s ∷ ts))
  asked_more i k p ps s ss ts true o e h = rw (o, e) refl
  asked_more i k p ps s ss ts false o e h = rw o h

  asked_taken : (i k : ℕ) (ps : List (Component S)) (ss : List S) → Stands all i ss → length ss ≡ length ps → drop k ns ≡ participants_from i ps a
      → asked i ps a ss ≡ among k ps (taken (participants_from i ps a) all)
  asked_taken i k [] ss st l d = refl
  asked_taken i k (p ∷ ps) [] st l d = absurd (omega arith)
  asked_taken i k (p ∷ ps) (s ∷ ss) st l d = elim (takes a p i ps) [
    | participates h n f ↦
        let r : ItemAt ns k i (participants_from (i + 1) ps a) = item_at ns k i (participants_from (i + 1) ps a) (d ∙ n) in
        let ih = asked_taken (i + 1) (k + 1) ps ss (stands_rest all i s ss st) (omega arith) r.rest in
        rw (n, f, taken_some i (participants_from (i + 1) ps a) all s (stands_first all i s ss st))
        (asked_more i k p ps s ss (taken (participants_from (i + 1) ps a) all) (owns a p) refl (r.is 0) ih)
    | stays h n f ↦
        let o : owns a p ≡ false = owns_none p a h in
        let ih = asked_taken (i + 1) k ps ss (stands_rest all i s ss st) (omega arith) (d ∙ n) in
        rw (n, f, o) ih
  ]

-- the owner's answer depends on the participants' states alone
pub asked_from : {S : Type 0} (ps : List (Component S)) (a : Act) (ss : List S) → length ss ≡ length ps
    → asked 0 ps a ss ≡ asked_renumbered (participants ps a) (asked 0 (filter (has a) ps) a (taken (participants ps a) ss))
asked_from ps a ss h =
    let st : Stands ss 0 ss = λ j. let e : 0 + j ≡ j = omega arith in ap (slice_get ss) e in
    asked_taken a ss (participants ps a) 0 0 ps ss st h refl

-- ---- the effects' answer

-- an answer with states put before its own
abbrev pub put_before : {S : Type 0} → List S → Moved S → Moved S
put_before xs (next ts) = next (xs ++ ts)
put_before xs not_an_action = not_an_action
put_before xs not_enabled = not_enabled
put_before xs (fault c f) = fault c f

pub put_before_more : {S : Type 0} (xs : List S) (t : S) (m : Moved S) → put_before xs (with_state t m) ≡ put_before (xs ++ t ∷ []) m
put_before_more xs t (next ts) = rw append_assoc refl
put_before_more xs t not_an_action = refl
put_before_more xs t not_enabled = refl
put_before_more xs t (fault c f) = refl

pub put_before_none : {S : Type 0} (m : Moved S) → put_before [] m ≡ m
put_before_none (next ts) = refl
put_before_none not_an_action = refl
put_before_none not_enabled = refl
put_before_none (fault c f) = refl

back_more : {S : Type 0} (ns : List ℕ) (i : ℕ) (more : List ℕ) (xs ys : List S) (t : S) (m : Moved S) → slice_set xs i t ≡ ys
    → all_back (i ∷ more) xs (renumbered ns (with_state t m)) ≡ all_back more ys (renumbered ns m)
back_more ns i more xs ys t (next ts) e = ap (λ zs. next (put_back more ts zs)) e
back_more ns i more xs ys t not_an_action e = refl
back_more ns i more xs ys t not_enabled e = refl
back_more ns i more xs ys t (fault c f) e = refl

set_here : {S : Type 0} (pre ss : List S) (s t : S) (i : ℕ) → length pre ≡ i → slice_set (pre ++ s ∷ ss) i t ≡ (pre ++ t ∷ []) ++ ss
set_here pre ss s t i l =
    subst (λ j. slice_set (pre ++ s ∷ ss) j t ≡ (pre ++ t ∷ []) ++ ss) l (set-append_seam pre s ss t ∙ sym (append_assoc pre (t ∷ []) ss))

effects_more : {S : Type 0} (ns : List ℕ) (i k : ℕ) (more : List ℕ) (pre ss : List S) (s : S) (r : Result S Fault) (m n : Moved S)
    → length pre ≡ i → slice_index ns k ≡ i
    → ((t : S) → put_before (pre ++ t ∷ []) m ≡ all_back more ((pre ++ t ∷ []) ++ ss) (renumbered ns n))
    → put_before pre (then_rest i r m) ≡ all_back (i ∷ more) (pre ++ s ∷ ss) (renumbered ns (then_rest k r n))
effects_more ns i k more pre ss s (Ok t) m n l e h =
    put_before_more pre t m ∙ h t ∙ sym (back_more ns i more (pre ++ s ∷ ss) ((pre ++ t ∷ []) ++ ss) t n (set_here pre ss s t i l))
effects_more ns i k more pre ss s (Err f) m n l e h = ap (λ j. fault j f) (sym e)

module _ {S : Type 0} (a : Act) (all : List S) (ns : List ℕ) where
  longer : (i : ℕ) (pre : List S) (t : S) → length pre ≡ i → length (pre ++ t ∷ []) ≡ i + 1
  longer i pre t l = omega (arith, length-append pre (t ∷ []))

  effects_taken : (i k : ℕ) (ps : List (Component S)) (ss pre : List S) → Stands all i ss → length pre ≡ i → length ss ≡ length ps → drop k ns ≡ participants_from i ps a
      → put_before pre (effects i ps a ss)
      ≡ all_back (participants_from i ps a) (pre ++ ss) (renumbered ns (effects k (filter (has a) ps) a (taken (participants_from i ps a) all)))
  effects_taken i k [] [] pre st p l d = refl
  effects_taken i k [] (s ∷ ss) pre st p l d = absurd (omega arith)
  effects_taken i k (p ∷ ps) [] pre st e l d = absurd (omega arith)
  effects_taken i k (p ∷ ps) (s ∷ ss) pre st e l d = elim (takes a p i ps) [
    | participates h n f ↦
        let more : List ℕ = participants_from (i + 1) ps a in
        let r : ItemAt ns k i more = item_at ns k i more (d ∙ n) in
        rw (n, f, taken_some i more all s (stands_first all i s ss st))
        (effects_more ns i k more pre ss s (effect_on p a s) (effects (i + 1) ps a ss) (effects (k + 1) (filter (has a) ps) a (taken more all)) e (r.is 0)
        (λ t. effects_taken (i + 1) (k + 1) ps ss (pre ++ t ∷ []) (stands_rest all i s ss st) (longer i pre t e) (omega arith) r.rest))
    | stays h n f ↦
        let ih = effects_taken (i + 1) k ps ss (pre ++ s ∷ []) (stands_rest all i s ss st) (longer i pre s e) (omega arith) (d ∙ n) in
        let j : (pre ++ s ∷ []) ++ ss ≡ pre ++ s ∷ ss = append_assoc pre (s ∷ []) ss in
        rw (h, ← j) (put_before_more pre s (effects (i + 1) ps a ss) ∙ ih)
  ]

-- ---- the step

allowed_back : {S : Type 0} (ns ms : List ℕ) (ss : List S) (g : Asked) (m : Moved S)
    → allowed (asked_renumbered ns g) (all_back ms ss (renumbered ns m)) ≡ all_back ms ss (renumbered ns (allowed g m))
allowed_back ns ms ss free m = refl
allowed_back ns ms ss (owned i (Ok true)) m = refl
allowed_back ns ms ss (owned i (Ok false)) m = refl
allowed_back ns ms ss (owned i (Err f)) m = refl

cond_back : {S : Type 0} (ns ms : List ℕ) (ss : List S) (b c : Bool) (m : Moved S) → b ≡ c
    → cond b (all_back ms ss (renumbered ns m)) not_an_action ≡ all_back ms ss (renumbered ns (cond c m not_an_action))
cond_back ns ms ss true true m e = refl
cond_back ns ms ss true false m e = absurd (cc)
cond_back ns ms ss false true m e = absurd (cc)
cond_back ns ms ss false false m e = refl

-- a step depends on the participants' states alone
pub step_taken : {S : Type 0} (ps : List (Component S)) (a : Act) (ss : List S) → length ss ≡ length ps
    → step ps a ss ≡ all_back (participants ps a) ss (step_from ps a (taken (participants ps a) ss))
step_taken ps a ss h =
    let ns : List ℕ = participants ps a in
    let ts = taken ns ss in
    let st : Stands ss 0 ss = λ j. let e : 0 + j ≡ j = omega arith in ap (slice_get ss) e in
    let g : asked 0 ps a ss ≡ asked_renumbered ns (asked 0 (filter (has a) ps) a ts) = asked_taken a ss ns 0 0 ps ss st h refl in
    let m : effects 0 ps a ss ≡ all_back ns ss (renumbered ns (effects 0 (filter (has a) ps) a ts)) =
    sym (put_before_none (effects 0 ps a ss)) ∙ effects_taken a ss ns 0 0 ps ss [] st refl h refl in
    rw (g, m, allowed_back ns ns ss (asked 0 (filter (has a) ps) a ts) (effects 0 (filter (has a) ps) a ts))
    (cond_back ns ns ss (list_any (has a) ps) (list_any (has a) (filter (has a) ps)) (allowed (asked 0 (filter (has a) ps) a ts) (effects 0 (filter (has a) ps) a ts)) (sym (any_filtered a ps)))
