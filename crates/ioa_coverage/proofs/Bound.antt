-- What names stand for, when one is bound, when one stands for another value, and when one is taken away.
use Rattle.std.proofs.Common.{◌≡◌, ◌++◌, ◌+◌, ◌-◌, ◌<◌, ◌≤◌, ℕ, zero, suc, Bool, true, false, List, [], ◌∷◌, IsSome, Option, Some, None, ap, arith, cond, drop, get_or, length, length-drop, refl, set, subst, sym, take, ◌∙◌}
use Rattle.std.specs.Str.{bytes_eq}
use Rattle.std.specs.Option.{option_to_list}
use Rattle.std.proofs.lemmas.List.{length-take, map-append}
use Rattle.std.proofs.lemmas.Slice.Eq.{bytes_eq-Decides}
use mathlib.Core.Path.{fun_ext}
use Rattle.ioa_value.specs.Actions.{Name}
use Rattle.ioa_value.specs.Plain.{Val, plain}
use Rattle.ioa_tree.specs.Meaning.{or_else, with_name, without}
use Rattle.ioa_tree.specs.View.{name_of}
use Rattle.ioa_coverage.specs.declared.scope.Binding.{Binding}
use Rattle.ioa_coverage.specs.Known.{Unbinds, bound, here_or, known, names_in, place_in}

abbrev pub its_name : Binding → Name
its_name b = name_of b.name.now

-- ---- one binding more

bound_last : (bs : List Binding) (b : Binding) (y : Name) → known (bs ++ b ∷ []) y ≡ with_name (known bs) (its_name b) (plain b.value) y
bound_last [] b y = refl
bound_last (c ∷ cs) b y = ap (λ o. or_else o (bound c y)) (bound_last cs b y) ∙ either (bytes_eq (its_name b) y)
  where
    either : (t : Bool) → or_else (cond t (Some (plain b.value)) (known cs y)) (bound c y) ≡ cond t (Some (plain b.value)) (or_else (known cs y) (bound c y))
    either true = refl
    either false = refl

pub known_last : (bs : List Binding) (b : Binding) → known (bs ++ b ∷ []) ≡ with_name (known bs) (its_name b) (plain b.value)
known_last bs b = fun_ext (bound_last bs b)

pub pushed : (bs all : List Binding) (b : Binding) → all ≡ bs ++ b ∷ [] → known all ≡ with_name (known bs) (its_name b) (plain b.value)
pushed bs all b is = ap known is ∙ known_last bs b

pub pushed_names : (bs all : List Binding) (b : Binding) → all ≡ bs ++ b ∷ [] → names_in all ≡ names_in bs ++ its_name b ∷ []
pushed_names bs all b is = ap names_in is ∙ map-append (λ (c : Binding). name_of c.name.now) bs (b ∷ [])

-- ---- where a name is bound

-- a place is within
place_from : (o : Option ℕ) (t : Bool) (i n : ℕ) → ((j : ℕ) → o ≡ Some j → j < n) → here_or o t ≡ Some i → i < n + 1
place_from (Some j) t i n within e = let next : j + 1 ≡ i = cc in omega (arith, within j refl, next)
place_from None true i n within e = let first : 0 ≡ i = cc in omega (arith, first)
place_from None false i n within e = absurd (cc)

pub place_within : (bs : List Binding) (x : Name) (i : ℕ) → place_in bs x ≡ Some i → i < length bs
place_within [] x i e = absurd (cc)
place_within (b ∷ bs) x i e =
    let few = place_from (place_in bs x) (bytes_eq (its_name b) x) i (length bs) (λ j h. place_within bs x j h) e in
    omega (arith, few)

-- and so is the place behind it
pub next_fits : (bs : List Binding) (x : Name) (i : ℕ) → 1 ≤ length bs → length bs < 18446744073709551616 → Some i ≡ place_in (take (length bs - 1) (drop 1 bs)) x
    → i + 1 < 18446744073709551616
next_fits bs x i some few e =
    let within = place_within (take (length bs - 1) (drop 1 bs)) x i (sym e) in
    omega (arith, within, length-take (length bs - 1) (drop 1 bs), length-drop 1 bs)

-- nothing is known of a name without a place
nowhere_else : (b : Binding) (env : Option Val) (x : Name) (o : Option ℕ) (t : Bool) → bytes_eq (its_name b) x ≡ t → (o ≡ None → env ≡ None) → here_or o t ≡ None → or_else env (bound b x) ≡ None
nowhere_else b env x (Some i) t is k e = absurd (cc)
nowhere_else b env x None true is k e = absurd (cc)
nowhere_else b env x None false is k e = ap (λ o. or_else o (bound b x)) (k refl) ∙ ap (λ t. cond t (Some (plain b.value)) None) is

pub known_nowhere : (bs : List Binding) (x : Name) → place_in bs x ≡ None → known bs x ≡ None
known_nowhere [] x e = refl
known_nowhere (b ∷ bs) x e = nowhere_else b (known bs x) x (place_in bs x) (bytes_eq (its_name b) x) refl (λ h. known_nowhere bs x h) e

-- a name stands for the value at its place
first_item : (c b : Binding) (i : ℕ) (cs : List Binding) → 0 ≡ i → b ≡ get_or (c ∷ cs) i b → b ≡ c
first_item c b i cs first at = subst (λ k. b ≡ get_or (c ∷ cs) k b) (sym first) at

later_item : (c b : Binding) (i j : ℕ) (cs : List Binding) → j + 1 ≡ i → b ≡ get_or (c ∷ cs) i b → b ≡ get_or cs j b
later_item c b i j cs next at = let is : suc j ≡ i = omega (arith, next) in subst (λ k. b ≡ get_or (c ∷ cs) k b) (sym is) at

stands_here : (c b : Binding) (cs : List Binding) (x : Name) (i : ℕ) (o : Option ℕ) (t : Bool) → bytes_eq (its_name c) x ≡ t → place_in cs x ≡ o
    → ((j : ℕ) → place_in cs x ≡ Some j → b ≡ get_or cs j b → known cs x ≡ Some (plain b.value)) → here_or o t ≡ Some i → b ≡ get_or (c ∷ cs) i b
    → or_else (known cs x) (bound c x) ≡ Some (plain b.value)
stands_here c b cs x i (Some j) t is at later e here =
    let next : j + 1 ≡ i = cc in
    ap (λ o. or_else o (bound c x)) (later j at (later_item c b i j cs next here))
stands_here c b cs x i None true is at later e here =
    let first : 0 ≡ i = cc in
    ap (λ o. or_else o (bound c x)) (known_nowhere cs x at) ∙ ap (λ t. cond t (Some (plain c.value)) None) is
    ∙ ap (λ (d : Binding). Some (plain d.value)) (sym (first_item c b i cs first here))
stands_here c b cs x i None false is at later e here = absurd (cc)

pub known_at : (bs : List Binding) (x : Name) (i : ℕ) (b : Binding) → place_in bs x ≡ Some i → b ≡ get_or bs i b → known bs x ≡ Some (plain b.value)
known_at [] x i b e here = absurd (cc)
known_at (c ∷ cs) x i b e here =
    stands_here c b cs x i (place_in cs x) (bytes_eq (its_name c) x) refl refl (λ j h k. known_at cs x j b h k) e here

-- ---- another value at a name's place

pub same_name : (bs : List Binding) (i : ℕ) (b c : Binding) → i < length bs → c ≡ get_or bs i c → its_name b ≡ its_name c → its_name b ≡ its_name (get_or bs i b)
same_name [] i b c within at same = absurd (omega arith)
same_name (d ∷ ds) zero b c within at same = same ∙ ap its_name at
same_name (d ∷ ds) (suc i) b c within at same = same_name ds i b c (omega arith) at same

renewed_here : (c b : Binding) (cs : List Binding) (x y : Name) (i : ℕ) (o : Option ℕ) (t : Bool) → bytes_eq (its_name c) x ≡ t → place_in cs x ≡ o → its_name b ≡ its_name (get_or (c ∷ cs) i b)
    → ((j : ℕ) → place_in cs x ≡ Some j → its_name b ≡ its_name (get_or cs j b) → known (set cs j b) y ≡ with_name (known cs) x (plain b.value) y) → here_or o t ≡ Some i
    → known (set (c ∷ cs) i b) y ≡ with_name (known (c ∷ cs)) x (plain b.value) y
renewed_here c b cs x y i (Some j) t is at same later e =
    let next : j + 1 ≡ i = cc in
    let there : suc j ≡ i = omega (arith, next) in
    let named : its_name b ≡ its_name (get_or cs j b) = subst (λ k. its_name b ≡ its_name (get_or (c ∷ cs) k b)) (sym there) same in
    subst (λ k. known (set (c ∷ cs) k b) y ≡ with_name (known (c ∷ cs)) x (plain b.value) y) there
    (ap (λ o. or_else o (bound c y)) (later j at named) ∙ either (bytes_eq x y))
  where
    either : (t : Bool) → or_else (cond t (Some (plain b.value)) (known cs y)) (bound c y) ≡ cond t (Some (plain b.value)) (or_else (known cs y) (bound c y))
    either true = refl
    either false = refl
renewed_here c b cs x y i None true is at same later e =
    let first : 0 ≡ i = cc in
    let named : its_name b ≡ its_name c = subst (λ k. its_name b ≡ its_name (get_or (c ∷ cs) k b)) (sym first) same in
    let own : its_name c ≡ x = (bytes_eq-Decides (its_name c) x).0 is in
    let none : (t : Bool) → bytes_eq x y ≡ t → or_else (known cs y) (cond t (Some (plain b.value)) None) ≡ cond t (Some (plain b.value)) (or_else (known cs y) (cond t (Some (plain c.value)) None)) =
    either in
    subst (λ k. known (set (c ∷ cs) k b) y ≡ with_name (known (c ∷ cs)) x (plain b.value) y) first
    (ap (λ n. or_else (known cs y) (cond (bytes_eq n y) (Some (plain b.value)) None)) (named ∙ own) ∙ none (bytes_eq x y) refl
    ∙ ap (λ n. cond (bytes_eq x y) (Some (plain b.value)) (or_else (known cs y) (cond (bytes_eq n y) (Some (plain c.value)) None))) (sym own))
  where
    missing : bytes_eq x y ≡ true → known cs y ≡ None
    missing same = let names : x ≡ y = (bytes_eq-Decides x y).0 same in ap (known cs) (sym names) ∙ known_nowhere cs x at

    either : (t : Bool) → bytes_eq x y ≡ t → or_else (known cs y) (cond t (Some (plain b.value)) None) ≡ cond t (Some (plain b.value)) (or_else (known cs y) (cond t (Some (plain c.value)) None))
    either true same = ap (λ o. or_else o (Some (plain b.value))) (missing same)
    either false same = refl
renewed_here c b cs x y i None false is at same later e = absurd (cc)

renewed_at : (bs : List Binding) (x y : Name) (i : ℕ) (b : Binding) → place_in bs x ≡ Some i → its_name b ≡ its_name (get_or bs i b) → known (set bs i b) y ≡ with_name (known bs) x (plain b.value) y
renewed_at [] x y i b e same = absurd (cc)
renewed_at (c ∷ cs) x y i b e same =
    renewed_here c b cs x y i (place_in cs x) (bytes_eq (its_name c) x) refl refl same (λ j h k. renewed_at cs x y j b h k) e

pub renewed : (bs : List Binding) (x : Name) (i : ℕ) (b : Binding) → place_in bs x ≡ Some i → its_name b ≡ its_name (get_or bs i b) → known (set bs i b) ≡ with_name (known bs) x (plain b.value)
renewed bs x i b e same = fun_ext (λ y. renewed_at bs x y i b e same)

pub renewed_names : (bs : List Binding) (i : ℕ) (b : Binding) → its_name b ≡ its_name (get_or bs i b) → names_in (set bs i b) ≡ names_in bs
renewed_names [] i b same = refl
renewed_names (c ∷ cs) zero b same = ap (λ n. n ∷ names_in cs) same
renewed_names (c ∷ cs) (suc i) b same = ap (λ ns. its_name c ∷ ns) (renewed_names cs i b same)

-- ---- the last one taken away

-- nothing is known of a name that is none of theirs, whatever they stand for
either_none : (b c : Binding) (x : Name) (o p : Option Val) → its_name b ≡ its_name c → (o ≡ None → p ≡ None) → or_else o (bound b x) ≡ None → or_else p (bound c x) ≡ None
either_none b c x (Some v) p same k e = absurd (cc)
either_none b c x None p same k e = ap (λ q. or_else q (bound c x)) (k refl) ∙ go (bytes_eq (its_name b) x) refl e
  where
    go : (t : Bool) → bytes_eq (its_name b) x ≡ t → cond t (Some (plain b.value)) None ≡ None → bound c x ≡ None
    go true is e = absurd (cc)
    go false is e = ap (λ n. cond (bytes_eq n x) (Some (plain c.value)) None) (sym same) ∙ ap (λ t. cond t (Some (plain c.value)) None) is

none_known : (bs cs : List Binding) (x : Name) → names_in cs ≡ names_in bs → known bs x ≡ None → known cs x ≡ None
none_known [] [] x same e = refl
none_known [] (c ∷ cs) x same e = absurd (cc)
none_known (b ∷ bs) [] x same e = absurd (cc)
none_known (b ∷ bs) (c ∷ cs) x same e =
    let first : its_name b ≡ its_name c = cc in
    let rest : names_in cs ≡ names_in bs = cc in
    either_none b c x (known bs x) (known cs x) first (λ h. none_known bs cs x rest h) e

last_names : (ms ns : List Name) (m n : Name) → ms ++ m ∷ [] ≡ ns ++ n ∷ [] → (ms ≡ ns) × (m ≡ n)
last_names [] [] m n e = let k : m ≡ n = cc in (refl, k)
last_names [] (y ∷ []) m n e = absurd (cc)
last_names [] (y ∷ z ∷ ns) m n e = absurd (cc)
last_names (x ∷ []) [] m n e = absurd (cc)
last_names (x ∷ w ∷ ms) [] m n e = absurd (cc)
last_names (x ∷ ms) (y ∷ ns) m n e =
    let h : x ≡ y = cc in
    let t : ms ++ m ∷ [] ≡ ns ++ n ∷ [] = cc in
    let k = last_names ms ns m n t in
    (ap (λ z. z ∷ ms) h ∙ ap (λ zs. y ∷ zs) k.0, k.1)

gone : (before new : List Binding) (b : Binding) (x y : Name) → its_name b ≡ x → known new x ≡ None → known before x ≡ None → known new y ≡ without x (known before) (known (new ++ b ∷ [])) y
gone before new b x y own none was = go (bytes_eq x y) refl
  where
    go : (t : Bool) → bytes_eq x y ≡ t → known new y ≡ cond t (known before y) (known (new ++ b ∷ []) y)
    go true is = let names : x ≡ y = (bytes_eq-Decides x y).0 is in ap (known new) (sym names) ∙ none ∙ sym was ∙ ap (known before) names
    go false is =
        sym
        (bound_last new b y ∙ ap (λ n. cond (bytes_eq n y) (Some (plain b.value)) (known new y)) own ∙ ap (λ t. cond t (Some (plain b.value)) (known new y)) is)

pub unbound : (o : Option Binding) (old new : List Binding) → old ≡ new ++ option_to_list o → (o ≡ None → length old ≡ 0) → Unbinds old new
unbound (Some b) old new is none = λ before x names was.
    let both = last_names (names_in new) (names_in before) (its_name b) x (sym (map-append (λ (c : Binding). name_of c.name.now) new (b ∷ [])) ∙ ap names_in (sym is) ∙ names) in
    let here : known new x ≡ None = none_known before new x both.0 was in
    record {
      stands = fun_ext (λ y. gone before new b x y both.1 here was ∙ ap (λ (all : List Binding). without x (known before) (known all) y) (sym is));
      names = both.0;
    }
unbound None [] new is none = λ before x names was. absurd (empty (names_in before) x names)
  where
    empty : (ns : List Name) (x : Name) → [] ≡ ns ++ x ∷ [] → ⊥
    empty [] x e = cc
    empty (n ∷ ns) x e = cc
unbound None (b ∷ bs) new is none = λ before x names was. absurd (let e = none refl in omega (arith, e))

pub not_some : (o : Option Binding) (n : ℕ) → (0 < n → IsSome o) → o ≡ None → n ≡ 0
not_some o zero k e = refl
not_some None (suc n) k e = let there : IsSome {T = Binding} None = k (omega arith) in absurd (cc)
not_some (Some b) (suc n) k e = absurd (cc)
