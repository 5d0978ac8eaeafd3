-- Watchers that hear an action one after another.
use Rattle.std.proofs.Common.{◌≡◌, ◌≤◌, ℕ, zero, suc, ◌+◌, Bool, true, false, ◌||◌, ◌&&◌, if◌then◌else◌, Option, None, is_some, List, [], ◌∷◌, ◌++◌, Some, length, take, flat_map, slice_get, slice_set, refl, sym, ap, subst, ◌∙◌, arith, append-nil, append_assoc}
use Rattle.std.specs.List.{list_all, list_any}
use Rattle.std.specs.Option.{option_map}
use Rattle.std.proofs.lemmas.List.{take_all}
use Rattle.ioa_value.specs.Actions.{Act}
use Rattle.ioa_value.specs.Table.{Table}
use Rattle.ioa_compile.specs.Programs.{Prog}
use Rattle.ioa_watch.specs.declared.streams.Stream.{Stream}
use Rattle.ioa_watch.specs.declared.watcher.Watcher.{Watcher}
use Rattle.ioa_system.specs.declared.outcomes.End.{End}
use Rattle.ioa_system.specs.Outcomes.{ending_of}
use Rattle.ioa_watch.specs.Streaming.{HasCome, HaveHeard, has_refused}
use Rattle.ioa_watch.specs.Streams.{is_over}
use Rattle.ioa_watch.specs.Watchers.{HasHeard, refused_by}
use Rattle.ioa_watch.proofs.Watchers.{refusal_is}

-- the first so many of them have heard one action more
abbrev pub HeardUpTo : ℕ → List Prog → List Act → Act → List Watcher → Type 0
HeardUpTo zero ps acts a ws = HaveHeard ps acts ws
HeardUpTo (suc n) [] acts a [] = Unit {0}
HeardUpTo (suc n) [] acts a (w ∷ ws) = ⊥
HeardUpTo (suc n) (p ∷ ps) acts a [] = ⊥
HeardUpTo (suc n) (p ∷ ps) acts a (w ∷ ws) = HasHeard p (acts ++ a ∷ []) w × HeardUpTo n ps acts a ws

-- the one whose turn it is
pub record InTurn (ps : List Prog) (acts : List Act) (n : ℕ) (w : Watcher) : Type 0 where
  pub program : Prog
  pub place : slice_get ps n ≡ Some program
  pub heard : HasHeard program acts w

pub in_turn : (n : ℕ) (ps : List Prog) (acts : List Act) (a : Act) (ws : List Watcher) (w : Watcher) → HeardUpTo n ps acts a ws → slice_get ws n ≡ Some w → InTurn ps acts n w
in_turn zero [] acts a [] w h e = absurd (cc)
in_turn zero [] acts a (v ∷ ws) w h e = absurd h
in_turn zero (p ∷ ps) acts a [] w h e = absurd h
in_turn zero (p ∷ ps) acts a (v ∷ ws) w h e = record { program = p; place = refl; heard = let same : v ≡ w = cc in subst (HasHeard p acts) same h.0 }
in_turn (suc n) [] acts a [] w h e = absurd (cc)
in_turn (suc n) [] acts a (v ∷ ws) w h e = absurd h
in_turn (suc n) (p ∷ ps) acts a [] w h e = absurd h
in_turn (suc n) (p ∷ ps) acts a (v ∷ ws) w h e = let t = in_turn n ps acts a ws w h.1 e in record { program = t.program; place = t.place; heard = t.heard }

pub heard_more : (n : ℕ) (ps : List Prog) (acts : List Act) (a : Act) (ws : List Watcher) (p : Prog) (w : Watcher) → HeardUpTo n ps acts a ws → slice_get ps n ≡ Some p
    → HasHeard p (acts ++ a ∷ []) w → HeardUpTo (suc n) ps acts a (slice_set ws n w)
heard_more zero [] acts a ws p w h e k = absurd (cc)
heard_more zero (q ∷ ps) acts a [] p w h e k = absurd h
heard_more zero (q ∷ ps) acts a (v ∷ ws) p w h e k = (let same : p ≡ q = cc in subst (λ x. HasHeard x (acts ++ a ∷ []) w) same k, h.1)
heard_more (suc n) [] acts a ws p w h e k = absurd (cc)
heard_more (suc n) (q ∷ ps) acts a [] p w h e k = absurd h
heard_more (suc n) (q ∷ ps) acts a (v ∷ ws) p w h e k = (h.0, heard_more n ps acts a ws p w h.1 e k)

pub all_heard : (n : ℕ) (ps : List Prog) (acts : List Act) (a : Act) (ws : List Watcher) → n ≡ length ws → HeardUpTo n ps acts a ws → HaveHeard ps (acts ++ a ∷ []) ws
all_heard zero [] acts a [] l h = tt
all_heard zero [] acts a (w ∷ ws) l h = absurd h
all_heard zero (p ∷ ps) acts a [] l h = absurd h
all_heard zero (p ∷ ps) acts a (w ∷ ws) l h = absurd (omega (arith, l))
all_heard (suc n) [] acts a [] l h = tt
all_heard (suc n) [] acts a (w ∷ ws) l h = absurd h
all_heard (suc n) (p ∷ ps) acts a [] l h = absurd h
all_heard (suc n) (p ∷ ps) acts a (w ∷ ws) l h = (h.0, all_heard n ps acts a ws (omega (arith, l)) h.1)

-- the one at a place, where all have heard the same
pub heard_at : (n : ℕ) (ps : List Prog) (acts : List Act) (ws : List Watcher) (w : Watcher) → HaveHeard ps acts ws → slice_get ws n ≡ Some w → InTurn ps acts n w
heard_at n [] acts [] w h e = absurd (cc)
heard_at n [] acts (v ∷ ws) w h e = absurd h
heard_at n (p ∷ ps) acts [] w h e = absurd h
heard_at zero (p ∷ ps) acts (v ∷ ws) w h e = record { program = p; place = refl; heard = let same : v ≡ w = cc in subst (HasHeard p acts) same h.0 }
heard_at (suc n) (p ∷ ps) acts (v ∷ ws) w h e = let t = heard_at n ps acts ws w h.1 e in record { program = t.program; place = t.place; heard = t.heard }

-- ---- how many they are, and what they tell

pub heard_count : (n : ℕ) (ps : List Prog) (acts : List Act) (a : Act) (ws : List Watcher) → HeardUpTo n ps acts a ws → length ps ≡ length ws
heard_count zero [] acts a [] h = refl
heard_count zero [] acts a (w ∷ ws) h = absurd h
heard_count zero (p ∷ ps) acts a [] h = absurd h
heard_count zero (p ∷ ps) acts a (w ∷ ws) h = ap suc (heard_count zero ps acts a ws h.1)
heard_count (suc n) [] acts a [] h = refl
heard_count (suc n) [] acts a (w ∷ ws) h = absurd h
heard_count (suc n) (p ∷ ps) acts a [] h = absurd h
heard_count (suc n) (p ∷ ps) acts a (w ∷ ws) h = ap suc (heard_count n ps acts a ws h.1)

pub flat_more : {A : Type 0} (f : A → List ℕ) (n : ℕ) (xs : List A) (x : A) → slice_get xs n ≡ Some x → flat_map f (take (suc n) xs) ≡ flat_map f (take n xs) ++ f x
flat_more f n [] x e = absurd (cc)
flat_more f zero (y ∷ xs) x e = let same : y ≡ x = cc in append-nil (f y) ∙ ap f same
flat_more f (suc n) (y ∷ xs) x e = ap (λ zs. f y ++ zs) (flat_more f n xs x e) ∙ sym (append_assoc (f y) (flat_map f (take n xs)) (f x))

-- what is told of the first so many, with what is told of one more
pub flat_up_to : {A : Type 0} (f : A → List ℕ) (xs : List A) (n : ℕ) (x : A) (old line new : List ℕ) → slice_get xs n ≡ Some x → old ≡ flat_map f (take n xs) → line ≡ f x → new ≡ old ++ line
    → new ≡ flat_map f (take (n + 1) xs)
flat_up_to f xs n x old line new at so_far is more =
    let next : suc n ≡ n + 1 = omega arith in
    more ∙ ap (λ ys. ys ++ line) so_far ∙ ap (λ ys. flat_map f (take n xs) ++ ys) is ∙ sym (flat_more f n xs x at) ∙ ap (λ (k : ℕ). flat_map f (take k xs)) next

-- all of them
pub flat_all : {A : Type 0} (f : A → List ℕ) (xs : List A) (n : ℕ) (text : List ℕ) → length xs ≤ n → text ≡ flat_map f (take n xs) → text ≡ flat_map f xs
flat_all f xs n text l e = e ∙ ap (flat_map f) (take_all n xs l)

-- ---- which refused something

some_mapped : (o : Option End) → is_some o ≡ is_some (option_map ending_of o)
some_mapped None = refl
some_mapped (Some e) = refl

refused_same : (p : Prog) (acts : List Act) (w : Watcher) → HasHeard p acts w → has_refused w ≡ is_some (refused_by p acts)
refused_same p acts w h = some_mapped w.refusal ∙ ap is_some (refusal_is p acts w h)

pub any_refused : (ps : List Prog) (acts : List Act) (ws : List Watcher) → HaveHeard ps acts ws → list_any has_refused ws ≡ list_any (λ p. is_some (refused_by p acts)) ps
any_refused [] acts [] h = refl
any_refused [] acts (w ∷ ws) h = absurd h
any_refused (p ∷ ps) acts [] h = absurd h
any_refused (p ∷ ps) acts (w ∷ ws) h =
    ap (λ b. b || list_any has_refused ws) (refused_same p acts w h.0) ∙ ap (λ b. is_some (refused_by p acts) || b) (any_refused ps acts ws h.1)

pub each_refused : (ps : List Prog) (acts : List Act) (ws : List Watcher) → HaveHeard ps acts ws → list_all has_refused ws ≡ list_all (λ p. is_some (refused_by p acts)) ps
each_refused [] acts [] h = refl
each_refused [] acts (w ∷ ws) h = absurd h
each_refused (p ∷ ps) acts [] h = absurd h
each_refused (p ∷ ps) acts (w ∷ ws) h =
    ap (λ b. b && list_all has_refused ws) (refused_same p acts w h.0) ∙ ap (λ b. is_some (refused_by p acts) && b) (each_refused ps acts ws h.1)

pub over_is : (first : Bool) (ps : List Prog) (acts : List Act) (ws : List Watcher) → HaveHeard ps acts ws
    → (if first then list_any has_refused ws else list_all has_refused ws) ≡ is_over first ps acts
over_is true ps acts ws h = any_refused ps acts ws h
over_is false ps acts ws h = each_refused ps acts ws h

-- what a stream answers to whether it is over
pub over_of : (json : Bool) (types : Table) (ps : List Prog) (first : Bool) (ls : List (List ℕ)) (acts : List Act) (s : Stream) (b : Bool) → HasCome json types ps first ls acts s
    → b ≡ (if s.first then list_any has_refused s.watchers.items else list_all has_refused s.watchers.items) → is_over first ps acts ≡ b
over_of json types ps first ls acts s b h e =
    sym (over_is first ps acts s.watchers.items h.heard)
    ∙ ap (λ f. if f then list_any has_refused s.watchers.items else list_all has_refused s.watchers.items) (sym h.first_is) ∙ sym e
