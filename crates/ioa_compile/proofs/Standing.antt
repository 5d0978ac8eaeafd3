-- What a name of a scope stands for: an item of a loop round it, a variable's value, a formal's, a parameter's, or what the types say.
use Rattle.std.proofs.Common.{◌≡◌, ℕ, zero, suc, ◌+◌, ◌*◌, ◌<◌, ◌≤◌, inl, inr, Bool, true, false, cond, List, [], ◌∷◌, ◌++◌, length, Option, Some, None, refl, sym, ap, ◌∙◌, subst, arith, length-append}
use Rattle.std.specs.Prelude.{slice_get}
use Rattle.std.specs.Option.{option_map, option_map_or}
use Rattle.std.specs.Str.{bytes_eq}
use Rattle.ioa_value.specs.Actions.{Name}
use Rattle.ioa_value.specs.Plain.{Val}
use Rattle.ioa_value.specs.Table.{Table, place_from}
use Rattle.ioa_value.specs.Typing.{HaveTypes, own}
use Rattle.ioa_value.proofs.ItemLemmas.{item_there, get_append, get_last}
use Rattle.ioa_tree.specs.Meaning.{or_else}
use Rattle.ioa_tree.specs.Types.{constant, constant_type}
use Rattle.ioa_tree.specs.WellFormed.{Context, type_in}
use Rattle.ioa_emit.specs.Scopes.{Scope, within, Origin, on_stack, slot, formal, parameter, fixed, unknown, origin, item_place, parameter_from}
use Rattle.ioa_emit.proofs.Fixed.{own_constant}
use Rattle.ioa_compile.proofs.Looks.{look, looks, Looked, look-paired, or_else-assoc, Paired}
use Rattle.ioa_compile.proofs.Parameters.{passed, passes_at, passed-paired}

-- a stack that lies on this one
pub record LiesOn {V : Type 0} (base stack : List V) : Type 0 where
  pub low : (k : ℕ) (v : V) → slice_get base k ≡ Some v → slice_get stack k ≡ Some v
  pub high : length base ≤ length stack

pub lies_itself : {V : Type 0} (base : List V) → LiesOn base base
lies_itself base = record { low = λ k v e. e; high = omega arith }

pub lies_on_none : {V : Type 0} (stack : List V) → LiesOn [] stack
lies_on_none stack = record { low = λ k v e. absurd (cc); high = omega arith }

pub lies_below : {V : Type 0} (base stack more : List V) → LiesOn base stack → LiesOn base (stack ++ more)
lies_below base stack more h =
    let long = length-append stack more in
    let high = h.high in
    record { low = λ k v e. get_append stack more k v (h.low k v e); high = omega arith }

-- what an origin has, of what stands on the stack and for variables, formals and parameters, and of what is made of a fixed value
abbrev pub at : {V : Type 0} → (Val → V) → Origin → List V → List V → List V → List V → Option V
at of (on_stack d) bs vs fs ps = slice_get bs d
at of (slot i) bs vs fs ps = slice_get vs i
at of (formal i) bs vs fs ps = slice_get fs i
at of (parameter i) bs vs fs ps = slice_get ps i
at of (fixed v) bs vs fs ps = Some (of v)
at of unknown bs vs fs ps = None

-- what the names of loops stand for
abbrev pub item_look : {V : Type 0} → Context → List V → Name → Option V
item_look [] bs x = None
item_look (l ∷ ls) bs x = cond (bytes_eq l.0 x) (slice_get bs (2 * length ls + 1)) (item_look ls bs x)

-- what a name of the scope stands for, but for those of enumerations
abbrev pub stands : {V : Type 0} → Scope → List V → List V → List V → List V → Name → Option V
stands s bs vs fs ps x = or_else (item_look s.loops bs x) (or_else (look s.variables vs x) (or_else (look s.formals fs x) (passed s.parameters ps x)))

items_at : {V : Type 0} (ns : Context) (bs : List V) (x : Name) → 2 * length ns ≤ length bs → Looked 0 (item_place ns x) bs (item_look ns bs x)
items_at [] bs x e = inr (record { no_place = refl; no_look = refl })
items_at {V} (n ∷ ns) bs x e = go (bytes_eq n.0 x) (items_at ns bs x (omega (arith, e)))
  where
    go : (b : Bool) → Looked 0 (item_place ns x) bs (item_look ns bs x) → Looked 0 (cond b (Some (2 * length ns + 1)) (item_place ns x)) bs (cond b (slice_get bs (2 * length ns + 1)) (item_look ns bs x))
    go true h =
        let there = item_there bs (2 * length ns + 1) (omega (arith, e)) in
        let n : 2 * length ns + 1 ≡ 0 + (2 * length ns + 1) = omega arith in
        inl (record { at = 2 * length ns + 1; value = there.0; place_is = ap Some n; item_is = there.1; look_is = there.1 })
    go false h = h

-- their places are below those of any loop within them
pub item_low : (ns : Context) (x : Name) (d : ℕ) → item_place ns x ≡ Some d → d < 2 * length ns
item_low [] x d e = absurd (cc)
item_low (n ∷ ns) x d e = go (bytes_eq n.0 x) e (item_low ns x d)
  where
    go : (b : Bool) → cond b (Some (2 * length ns + 1)) (item_place ns x) ≡ Some d → (item_place ns x ≡ Some d → d < 2 * length ns) → d < 2 * length (n ∷ ns)
    go true e rest = let same : 2 * length ns + 1 ≡ d = cc in omega arith
    go false e rest = let r = rest e in omega arith

-- on a stack that lies on this one they stand for the same
pub items_low : {V : Type 0} (ns : Context) (bs cs : List V) (x : Name) → 2 * length ns ≤ length bs → LiesOn bs cs → item_look ns cs x ≡ item_look ns bs x
items_low [] bs cs x e h = refl
items_low (n ∷ ns) bs cs x e h =
    let there = item_there bs (2 * length ns + 1) (omega (arith, e)) in
    let same : slice_get cs (2 * length ns + 1) ≡ slice_get bs (2 * length ns + 1) = h.low (2 * length ns + 1) there.0 there.1 ∙ sym there.1 in
    ap (λ o. cond (bytes_eq n.0 x) o (item_look ns cs x)) same
    ∙ ap (cond (bytes_eq n.0 x) (slice_get bs (2 * length ns + 1))) (items_low ns bs cs x (omega (arith, e)) h)

step : {V : Type 0} (make : ℕ → Origin) (get : Origin → Option V) (vs : List V) (place : Option ℕ) (o rest : Option V) (other : Origin) → ((k : ℕ) → get (make k) ≡ slice_get vs k) → rest ≡ get other → Looked 0 place vs o → or_else o rest ≡ get (option_map_or make place other)
step make get vs place o rest other k e (inl r) =
    let n : 0 + r.at ≡ r.at = omega arith in
    ap (λ l. or_else l rest) r.look_is
    ∙ sym (ap (λ p. get (option_map_or make p other)) (r.place_is ∙ ap Some n) ∙ k r.at ∙ r.item_is)
step make get vs place o rest other k e (inr r) =
    ap (λ l. or_else l rest) r.no_look ∙ e ∙ sym (ap (λ p. get (option_map_or make p other)) r.no_place)

pub stands_at : {V : Type 0} (of : Val → V) (s : Scope) (bs vs fs ps : List V) (x : Name) → length bs ≡ 2 * length s.loops → length s.variables ≡ length vs → length s.formals ≡ length fs → length s.parameters ≡ length ps
    → or_else (stands s bs vs fs ps x) (option_map of (constant s.types x)) ≡ at of (origin s x) bs vs fs ps
stands_at {V} of s bs vs fs ps x lb lv lf lp =
    let get : Origin → Option V = λ o. at of o bs vs fs ps in
    let last = option_map of (constant s.types x) in
    let other : Origin = option_map_or fixed (constant s.types x) unknown in
    let three = step parameter get ps (parameter_from 0 s.parameters x) (passed s.parameters ps x) last other (λ k. refl) (kept (constant s.types x)) (passes_at 0 s.parameters ps x lp) in
    let two = step formal get fs (place_from 0 s.formals x) (look s.formals fs x) (or_else (passed s.parameters ps x) last) _ (λ k. refl) three (looks 0 s.formals fs x lf) in
    let one =
    or_else-assoc (look s.variables vs x) (or_else (look s.formals fs x) (passed s.parameters ps x)) last
    ∙ ap (or_else (look s.variables vs x)) (or_else-assoc (look s.formals fs x) (passed s.parameters ps x) last)
    ∙ step slot get vs (place_from 0 s.variables x) (look s.variables vs x) _ _ (λ k. refl) two (looks 0 s.variables vs x lv) in
    or_else-assoc (item_look s.loops bs x) (or_else (look s.variables vs x) (or_else (look s.formals fs x) (passed s.parameters ps x))) last
    ∙ step on_stack get bs (item_place s.loops x) (item_look s.loops bs x) _ _ (λ k. refl) one (items_at s.loops bs x (omega (arith, lb)))
  where
    kept : (o : Option Val) → option_map of o ≡ at of (option_map_or fixed o unknown) bs vs fs ps
    kept (Some v) = refl
    kept None = refl

or_else-paired : (types : Table) (a b : Option ℕ) (p q : Option Val) → Paired types a p → Paired types b q → Paired types (or_else a b) (or_else p q)
or_else-paired types (Some ty) b (Some v) q h k = h
or_else-paired types (Some ty) b None q h k = absurd h
or_else-paired types None b p q h k = subst (λ o. Paired types b (or_else o q)) (sym h) k

get-paired : (types : Table) (vs : List Val) (tys : List ℕ) (k : ℕ) → HaveTypes types vs tys → Paired types (slice_get tys k) (slice_get vs k)
get-paired types [] [] k h = refl
get-paired types [] (t ∷ ts) k h = absurd h
get-paired types (v ∷ vs) [] k h = absurd h
get-paired types (v ∷ vs) (t ∷ ts) zero h = h.0
get-paired types (v ∷ vs) (t ∷ ts) (suc k) h = get-paired types vs ts k h.1

items-paired : (types : Table) (ns : Context) (vs : List Val) (tys : List ℕ) (x : Name) → HaveTypes types vs tys → Paired types (item_look ns tys x) (item_look ns vs x)
items-paired types [] vs tys x h = refl
items-paired types (n ∷ ns) vs tys x h = go (bytes_eq n.0 x) (items-paired types ns vs tys x h)
  where
    go : (b : Bool) → Paired types (item_look ns tys x) (item_look ns vs x) → Paired types (cond b (slice_get tys (2 * length ns + 1)) (item_look ns tys x)) (cond b (slice_get vs (2 * length ns + 1)) (item_look ns vs x))
    go true r = get-paired types vs tys (2 * length ns + 1) h
    go false r = r

pub stands-paired : (types : Table) (s : Scope) (bs vs fs ps : List Val) (bts vts fts pts : List ℕ) (x : Name) → HaveTypes types bs bts → HaveTypes types vs vts → HaveTypes types fs fts → HaveTypes types ps pts → Paired types (stands s bts vts fts pts x) (stands s bs vs fs ps x)
stands-paired types s bs vs fs ps bts vts fts pts x hb hv hf hp =
    or_else-paired types _ _ _ _ (items-paired types s.loops bs bts x hb)
    (or_else-paired types _ _ _ _ (look-paired types s.variables vs vts x hv)
    (or_else-paired types _ _ _ _ (look-paired types s.formals fs fts x hf) (passed-paired types s.parameters ps pts x hp)))

-- ---- within a loop, whose sequence and item lie on the stack

-- the stack there
abbrev pub in_turn : {V : Type 0} → List V → V → V → List V
in_turn bs l w = (bs ++ l ∷ []) ++ w ∷ []

pub turn_long : {V : Type 0} (s : Scope) (x : Name) (ty : ℕ) (bs : List V) (l w : V) → length bs ≡ 2 * length s.loops → length (in_turn bs l w) ≡ 2 * length (within s x ty).loops
turn_long s x ty bs l w e = omega (arith, e, length-append (bs ++ l ∷ []) (w ∷ []), length-append bs (l ∷ []))

pub turn_lies : {V : Type 0} (bs : List V) (l w : V) → LiesOn bs (in_turn bs l w)
turn_lies bs l w = lies_below bs (bs ++ l ∷ []) (w ∷ []) (lies_below bs bs (l ∷ []) (lies_itself bs))

-- the item is on top
pub item_top : {V : Type 0} (n : ℕ) (bs : List V) (l w : V) → length bs ≡ n → slice_get (in_turn bs l w) (n + 1) ≡ Some w
item_top n bs l w e =
    let k : length (bs ++ l ∷ []) ≡ n + 1 = omega (arith, e, length-append bs (l ∷ [])) in
    subst (λ i. slice_get (in_turn bs l w) i ≡ Some w) k (get_last (bs ++ l ∷ []) w)

-- the loop's name stands for the item, and all others for what they stood for
pub stands_within : {V : Type 0} (s : Scope) (x : Name) (ty : ℕ) (bs : List V) (l w : V) (vs fs ps : List V) (y : Name) → length bs ≡ 2 * length s.loops → stands (within s x ty) (in_turn bs l w) vs fs ps y ≡ cond (bytes_eq x y) (Some w) (stands s bs vs fs ps y)
stands_within {V} s x ty bs l w vs fs ps y e =
    let rest = or_else (look s.variables vs y) (or_else (look s.formals fs y) (passed s.parameters ps y)) in
    ap (λ o. or_else (cond (bytes_eq x y) o (item_look s.loops (in_turn bs l w) y)) rest) (item_top (2 * length s.loops) bs l w e)
    ∙ ap (λ o. or_else (cond (bytes_eq x y) (Some w) o) rest) (items_low s.loops bs (in_turn bs l w) y (omega (arith, e)) (turn_lies bs l w))
    ∙ go (bytes_eq x y) rest
  where
    go : (b : Bool) (rest : Option V) → or_else (cond b (Some w) (item_look s.loops bs y)) rest ≡ cond b (Some w) (or_else (item_look s.loops bs y) rest)
    go true rest = refl
    go false rest = refl

-- ---- the types of names

-- of these types and this context, where loops, variables, formals and parameters have these
pub record Names (s : Scope) (types : Table) (c : Context) (bs vs fs ps : List ℕ) : Type 0 where
  pub table : s.types ≡ types
  pub context : (s.loops ++ s.context) ≡ c
  pub loops : length bs ≡ 2 * length s.loops
  pub variables : length s.variables ≡ length vs
  pub formals : length s.formals ≡ length fs
  pub parameters : length s.parameters ≡ length ps
  pub names : (x : Name) → type_in c x ≡ stands s bs vs fs ps x

-- what a name finds has its type
pub named_at : (s : Scope) (types : Table) (c : Context) (bs vs fs ps : List ℕ) → Names s types c bs vs fs ps → (x : Name) → or_else (type_in c x) (constant_type types x) ≡ at own (origin s x) bs vs fs ps
named_at s types c bs vs fs ps h x =
    ap (λ o. or_else o (constant_type types x)) (h.names x)
    ∙ ap (or_else (stands s bs vs fs ps x)) (own_constant types x)
    ∙ ap (λ (t : Table). or_else (stands s bs vs fs ps x) (option_map own (constant t x))) (sym h.table)
    ∙ stands_at own s bs vs fs ps x h.loops h.variables h.formals h.parameters

-- within a loop its name has the type of the items
pub names_within : (s : Scope) (types : Table) (c : Context) (bs vs fs ps : List ℕ) (x : Name) (ty item : ℕ) → Names s types c bs vs fs ps → Names (within s x item) types ((x, item) ∷ c) (in_turn bs ty item) vs fs ps
names_within s types c bs vs fs ps x ty item h = record {
  table = h.table;
  context = ap (λ l. (x, item) ∷ l) h.context;
  loops = turn_long s x item bs ty item h.loops;
  variables = h.variables;
  formals = h.formals;
  parameters = h.parameters;
  names = λ y. ap (cond (bytes_eq x y) (Some item)) (h.names y) ∙ sym (stands_within s x item bs ty item vs fs ps y h.loops);
}
