-- Tables of declared types.
use Rattle.std.proofs.Common.{◌≡◌, ℕ, zero, suc, ◌+◌, ◌<◌, ◌≤◌, List, [], ◌∷◌, ◌++◌, map, get_or, length, Option, Some, None, refl, sym, ap, ◌∙◌, subst, arith, All, codes, append-nil}
use Rattle.std.specs.Prelude.{slice_get}
use Rattle.std.specs.Option.{option_map}
use Rattle.std.proofs.lemmas.List.{map-append, length-append}
use Rattle.std.proofs.lemmas.List.Elements.{All-append, All-cons, All-nil}
use Rattle.std.proofs.lemmas.Grind.{flat_map-append}
use Rattle.std.proofs.lemmas.Bool.{and_parts}
use Rattle.std.proofs.lemmas.Option.{slice_get-map, slice_get-get_or, slice_get_past}
use Rattle.ioa_value.specs.declared.types.Declared.{Declared}
use Rattle.ioa_value.specs.Table.{bool, int, basic, Declaration, Table, Shape, shape_at, given_names, all_names, distinct, apart, MayStand, MayFollow, AreTypes}
use Rattle.ioa_value.specs.Names.{IsName, is_name, is_reserved, reserved}
use Rattle.ioa_value.specs.Widths.{shape_width, widths_from, widths}
use Rattle.ioa_value.specs.declared.limits.TheConstants.{LIMITS}
use Rattle.ioa_value.proofs.NameLemmas.{distinct-append}
use Rattle.ioa_value.specs.Shapes.{shape, declaration}

get_earlier : {A : Type 0} (xs : List A) (y x : A) (k : ℕ) → slice_get xs k ≡ Some x → slice_get (xs ++ y ∷ []) k ≡ Some x
get_earlier [] y x k e = absurd (cc)
get_earlier (z ∷ zs) y x zero e = e
get_earlier (z ∷ zs) y x (suc k) e = get_earlier zs y x k e

-- an entry of the longer list is an earlier one or the last
get_pushed : {A : Type 0} (P : ℕ → A → Type 0) (xs : List A) (y x : A) (k n : ℕ) → ((j : ℕ) (z : A) → slice_get xs j ≡ Some z → P (n + j) z) → P (n + length xs) y → slice_get (xs ++ y ∷ []) k ≡ Some x → P (n + k) x
get_pushed P [] y x zero n old new e = let same : y ≡ x = cc in subst (P (n + 0)) same new
get_pushed P [] y x (suc k) n old new e = absurd (cc)
get_pushed P (z ∷ zs) y x zero n old new e = old 0 x e
get_pushed P (z ∷ zs) y x (suc k) n old new e =
    let up : (j : ℕ) → n + suc j ≡ suc n + j = λ j. omega arith in
    let r = get_pushed P zs y x k (suc n) (λ j w h. subst (λ m. P m w) (up j) (old (suc j) w h)) (subst (λ m. P m y) (up (length zs)) new) e in
    subst (λ m. P m x) (sym (up k)) r

-- the widths of types that are in the limit
each_narrow : (ws : List ℕ) (w : ℕ) → All (λ v. v ≤ LIMITS.words) ws → w ≤ LIMITS.words → All (λ v. v ≤ LIMITS.words) (ws ++ w ∷ [])
each_narrow ws w h k = All-append (λ v. v ≤ LIMITS.words) ws (w ∷ []) h (All-cons (λ v. v ≤ LIMITS.words) w [] k (All-nil (λ v. v ≤ LIMITS.words)))

widths_last : (ws : List ℕ) (types : Table) (d : Declaration) → widths_from ws (types ++ d ∷ []) ≡ widths_from ws types ++ shape_width (widths_from ws types) d.shape ∷ []
widths_last ws [] d = refl
widths_last ws (t ∷ types) d = widths_last (ws ++ shape_width ws t.shape ∷ []) types d

pub widths_pushed : (types : Table) (d : Declaration) → widths (types ++ d ∷ []) ≡ widths types ++ shape_width (widths types) d.shape ∷ []
widths_pushed types d = widths_last [] types d

widths_long : (ws : List ℕ) (types : Table) → length (widths_from ws types) ≡ length ws + length types
widths_long ws [] = omega arith
widths_long ws (d ∷ ds) = widths_long (ws ++ shape_width ws d.shape ∷ []) ds ∙ omega (arith, length-append ws (shape_width ws d.shape ∷ []))

pub widths_count : (types : Table) → length (widths types) ≡ length types
widths_count types = omega (arith, widths_long [] types)

pub names_pushed : (types : Table) (d : Declaration) → all_names (types ++ d ∷ []) ≡ all_names types ++ given_names d
names_pushed types d = flat_map-append given_names types (d ∷ []) ∙ ap (λ l. all_names types ++ l) (append-nil (given_names d))

pub pushed : (types : Table) (d : Declaration) → AreTypes types → MayFollow types d → AreTypes (types ++ d ∷ [])
pushed types d t m = record {
  first = get_earlier types d bool 0 t.first;
  second = get_earlier types d int 1 t.second;
  each = λ ty e at.
      let z : (k : ℕ) → 0 + k ≡ k = λ k. omega arith in
      subst (λ k. MayStand k e.shape) (z ty)
      (get_pushed (λ k x. MayStand k x.shape) types d e ty 0 (λ j w h. subst (λ k. MayStand k w.shape) (sym (z j)) (t.each j w h)) (subst (λ k. MayStand k d.shape) (sym (z (length types))) m.stands) at);
  few = omega (arith, m.room, length-append types (d ∷ []));
  legal = subst (All IsName) (sym (names_pushed types d)) (All-append IsName (all_names types) (given_names d) t.legal m.legal);
  different =
      let new = and_parts (distinct (given_names d)) (apart (given_names d) (all_names types)) m.new in
      ap distinct (names_pushed types d) ∙ distinct-append (all_names types) (given_names d) ∙ rw (t.different, new.0, new.1) refl;
  narrow = subst (All (λ w. w ≤ LIMITS.words)) (sym (widths_pushed types d)) (each_narrow (widths types) (shape_width (widths types) d.shape) t.narrow m.narrow);
}

pub pushed_items : (xs ys : List Declared) (d : Declared) → ys ≡ xs ++ d ∷ [] → AreTypes (map declaration xs) → MayFollow (map declaration xs) (declaration d) → AreTypes (map declaration ys)
pushed_items xs ys d e t m =
    subst AreTypes (sym (ap (map declaration) e ∙ map-append declaration xs (d ∷ []))) (pushed (map declaration xs) (declaration d) t m)

bool_name : IsName (codes "Bool")
unfolding is_name is_reserved reserved
bool_name = refl

int_name : IsName (codes "Int")
unfolding is_name is_reserved reserved
int_name = refl

-- Bool and Int are types
pub basic_types : AreTypes basic
basic_types = record {
  first = refl;
  second = refl;
  each = stand;
  few = omega arith;
  legal = All-cons IsName (codes "Bool") (codes "Int" ∷ []) bool_name (All-cons IsName (codes "Int") [] int_name (All-nil IsName));
  different = refl;
  narrow = All-cons (λ w. w ≤ LIMITS.words) 1 (1 ∷ []) (omega arith) (All-cons (λ w. w ≤ LIMITS.words) 1 [] (omega arith) (All-nil (λ w. w ≤ LIMITS.words)));
}
  where
    stand : (ty : ℕ) (d : Declaration) → slice_get basic ty ≡ Some d → MayStand ty d.shape
    stand zero d e = let same : bool ≡ d = cc in subst (λ (x : Declaration). MayStand 0 x.shape) same refl
    stand (suc zero) d e = let same : int ≡ d = cc in subst (λ (x : Declaration). MayStand 1 x.shape) same refl
    stand (suc (suc k)) d e = absurd (cc)

-- what a declaration that is read from the table says
pub form_there : (ds : List Declared) (k : ℕ) (d : Declared) → k < length ds → d ≡ get_or ds k d → shape_at (map declaration ds) k ≡ Some (shape d.form)
form_there ds k d lt e =
    ap (option_map (λ x. x.shape)) (slice_get-map declaration ds k ∙ ap (option_map declaration) (slice_get-get_or ds k d lt ∙ ap Some (sym e)))

pub form_missing : (ds : List Declared) (k : ℕ) → length ds ≤ k → shape_at (map declaration ds) k ≡ None
form_missing ds k le =
    ap (option_map (λ x. x.shape)) (slice_get-map declaration ds k ∙ ap (option_map declaration) (slice_get_past ds k le))

-- what stands at a place may stand there
pub stands : (types : Table) (ty : ℕ) (s : Shape) → AreTypes types → shape_at types ty ≡ Some s → MayStand ty s
stands types ty s d e = go (slice_get types ty) refl e
  where
    go : (o : Option Declaration) → slice_get types ty ≡ o → option_map (λ x. x.shape) o ≡ Some s → MayStand ty s
    go (Some x) at e = let same : x.shape ≡ s = cc in subst (MayStand ty) same (d.each ty x at)
    go None at e = absurd (cc)

-- ---- widths in range

-- what stands in a list in range, whatever would stand past it
pub in_range : (ws : List ℕ) (i d e : ℕ) → i < length ws → get_or ws i d ≡ get_or ws i e
in_range [] i d e lt = absurd (omega arith)
in_range (w ∷ ws) zero d e lt = refl
in_range (w ∷ ws) (suc i) d e lt = in_range ws i d e (omega arith)
