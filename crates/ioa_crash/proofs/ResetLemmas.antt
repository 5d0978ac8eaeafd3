-- What the statements of a crash do.
use Rattle.std.proofs.Common.{◌≡◌, Bool, true, false, not, cond, ◌&&◌, ◌||◌, List, [], ◌∷◌, Option, Some, refl, sym, ap, ◌∙◌}
use Rattle.std.specs.Str.{bytes_eq}
use Rattle.ioa_value.specs.Actions.{Name}
use Rattle.ioa_value.specs.Plain.{Val, truth as truth_value}
use Rattle.ioa_value.specs.Table.{Table, contains}
use Rattle.ioa_value.proofs.NameLemmas.{same_name, own_name}
use Rattle.ioa_tree.specs.Tree.{VariableTree}
use Rattle.ioa_tree.specs.Meaning.{Env, values_of, or_else, becomes, with_name, eff}
use Rattle.ioa_tree.specs.Hosts.{reset_to}
use Rattle.ioa_crash.specs.Rewriting.{spelled, up_name, start_name, volatile, volatile_values, resets}
use Rattle.ioa_crash.proofs.SpelledNames.{unspelled, unspelled_too}
use Rattle.ioa_crash.proofs.RewrittenNames.{names_of}

-- the variables at their values, and the host down
pub record IsReset (vs : List VariableTree) (w m k : Env) : Type 0 where
  pub down : k up_name ≡ Some (truth_value false)
  pub values : (x : Name) → spelled x ≡ true → k x ≡ cond (contains (names_of vs) x) (w x) (m x)

abbrev pub Known : Env → Name → Type 0
Known m x = (v : Val) × (m x ≡ Some v)

step_values : (y x : Name) (w m : Env) (v : Val) (ns : List Name) (o : Option Val) → w y ≡ Some v → o ≡ cond (contains ns x) (w x) (cond (bytes_eq y x) (Some v) (m x))
    → o ≡ cond (bytes_eq y x || contains ns x) (w x) (m x)
step_values y x w m v ns o h e = e ∙ go (bytes_eq y x) (contains ns x) refl
  where
    go : (b c : Bool) → bytes_eq y x ≡ b → cond c (w x) (cond b (Some v) (m x)) ≡ cond (b || c) (w x) (m x)
    go true true q = refl
    go true false q = sym h ∙ ap w (same_name y x q)
    go false c q = refl

module _ (types : Table) where
  pub resets_do : (vs : List VariableTree) (w m : Env) → ((x : Name) → contains (names_of vs) x ≡ true → spelled x ≡ true)
      → ((x : Name) → contains (names_of vs) x ≡ true → (v : Val) × (w x ≡ Some v) × (m (start_name x) ≡ Some v))
      → ((x : Name) → contains (names_of vs) x ≡ true → Known m x) → Known m up_name
      → (k : Env) × (eff types (resets vs) m ≡ becomes k) × IsReset vs w m k
  resets_do [] w m fine stand old up =
      (with_name m up_name (truth_value false), rw up.1 refl, record { down = refl; values = λ x k. rw (unspelled _ x k) refl })
  resets_do (u ∷ vs) w m fine stand old up =
      let y : Name = u.field.name in
      let here : (bytes_eq y y || contains (names_of vs) y) ≡ true = rw (own_name y) refl in
      let v = stand y here in
      let o = old y here in
      let own : spelled y ≡ true = fine y here in
      let next : Env = with_name m y v.0 in
      let k = resets_do vs w next (λ x c. fine x (later x c)) (λ x c. let z = stand x (later x c) in (z.0, z.1, keeps (35 ∷ x) own v.0 z.0 z.2))
      (λ x c. known_still x v.0 (old x (later x c))) (up.0, keeps_up own v.0 up.0 up.1) in
      (k.0, rw (v.2, o.1) k.1, record { down = k.2.down; values = λ x c. step_values y x w m v.0 (names_of vs) (k.0 x) v.1 (k.2.values x c) })
    where
      later : (x : Name) → contains (names_of vs) x ≡ true → (bytes_eq u.field.name x || contains (names_of vs) x) ≡ true
      later x c = go (bytes_eq u.field.name x)
        where
          go : (b : Bool) → (b || contains (names_of vs) x) ≡ true
          go true = refl
          go false = c

      keeps : (x : Name) → spelled u.field.name ≡ true → (v z : Val) → m (35 ∷ x) ≡ Some z → with_name m u.field.name v (35 ∷ x) ≡ Some z
      keeps x own v z e = rw (unspelled_too x u.field.name own) e

      keeps_up : spelled u.field.name ≡ true → (v z : Val) → m up_name ≡ Some z → with_name m u.field.name v up_name ≡ Some z
      keeps_up own v z e = rw (unspelled_too _ u.field.name own) e

      known_still : (x : Name) (v : Val) → Known m x → Known (with_name m u.field.name v) x
      known_still x v k = go (bytes_eq u.field.name x)
        where
          go : (b : Bool) → (z : Val) × (cond b (Some v) (m x) ≡ Some z)
          go true = (v, refl)
          go false = k

-- a reset, by the values of the variables that are not stable
pub reset_is : (vs : List VariableTree) (ws : List Val) (s : Env) (x : Name)
    → reset_to vs ws s x ≡ or_else (values_of (names_of (volatile vs)) (volatile_values vs ws) x) (s x)
reset_is [] ws s x = refl
reset_is (v ∷ vs) [] s x = ends (names_of (volatile (v ∷ vs)))
  where
    ends : (ns : List Name) → s x ≡ or_else (values_of ns [] x) (s x)
    ends [] = refl
    ends (n ∷ ns) = refl
reset_is (v ∷ vs) (w ∷ ws) s x = go v.stable (bytes_eq v.field.name x) refl (reset_is vs ws s x)
  where
    go : (b c : Bool) → bytes_eq v.field.name x ≡ c → reset_to vs ws s x ≡ or_else (values_of (names_of (volatile vs)) (volatile_values vs ws) x) (s x)
        → cond (not b && c) (Some w) (reset_to vs ws s x)
        ≡ or_else (values_of (names_of (cond (not b) (v ∷ volatile vs) (volatile vs))) (cond b (volatile_values vs ws) (w ∷ volatile_values vs ws)) x) (s x)
    go true c e k = k
    go false true e k = rw e refl
    go false false e k = rw e k
