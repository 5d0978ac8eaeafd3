-- Whether a stack is that of a body's start.
use Rattle.std.proofs.Common.{◌≡◌, ℕ, ◌==◌, Bool, true, false, List, [], ◌∷◌, ◌++◌, length, drop, ◌-◌, Option, Some, None, refl, sym, ap, ◌∙◌, subst, arith, if◌then◌else◌}
use Rattle.std.specs.Prelude.{◌&&◌, nat_le, reverse}
use Rattle.std.specs.Option.{option_map}
use Rattle.std.proofs.lemmas.Bool.Decides.{nat_tests}
use Rattle.std.proofs.lemmas.List.{reverse-append, reverse-reverse}
use Rattle.ioa_value.specs.Table.{Table, item_type}
use Rattle.ioa_code.specs.declared.pending.Pending.{Pending}
use Rattle.ioa_code.specs.declared.pending.Pending.TheVariants.{Nothing, Stack, Clash}
use Rattle.ioa_code.specs.Valid.{item_on, body_start}
use Rattle.ioa_code.specs.Scan.{Brought, same_types, types_in, are_same}
use Rattle.ioa_code.specs.Stacks.{Numbering, node_at, Spells, IsStack}
use Rattle.ioa_code.specs.Pending.{Represents}
use Rattle.ioa_code.proofs.Same.{same_types-is, same_types-refl}
use Rattle.ioa_code.proofs.Lists.{on_top-append}
use Rattle.ioa_code.proofs.Nodes.{split_top}

same_last : (us : List ℕ) (i j : ℕ) → same_types (us ++ i ∷ []) (us ++ j ∷ []) ≡ (i == j)
same_last [] i j = go (i == j)
  where
    go : (b : Bool) → (b && true) ≡ b
    go true = refl
    go false = refl
same_last (u ∷ us) i j = let t : (u == u) ≡ true = grind (arith, nat_tests) in ap (λ b. b && same_types (us ++ i ∷ []) (us ++ j ∷ [])) t ∙ same_last us i j

pub no_top : (nodes : List (ℕ × ℕ)) (k : ℕ) (us : List ℕ) → IsStack nodes k us → node_at nodes k ≡ None → us ≡ []
no_top nodes k us h e = go (reverse us) refl h
  where
    go : (rs : List ℕ) → reverse us ≡ rs → Spells nodes k rs → us ≡ []
    go [] r x = sym (reverse-reverse us) ∙ ap reverse r
    go (t ∷ rs) r x = let a = x.1 in absurd (cc)

start_of : (types : Table) (below : List ℕ) (ty : ℕ) → body_start types (below ++ ty ∷ []) ≡ option_map (λ item. (below ++ ty ∷ []) ++ item ∷ []) (item_type types ty)
start_of types below ty =
    on_top-append 1 below (ty ∷ []) None (λ lower top. option_map (λ item. (below ++ ty ∷ []) ++ item ∷ []) (item_on types top)) refl

-- the item is that of the sequence on top
module _ (types : Table) (nodes : List (ℕ × ℕ)) (list item : ℕ) where
  pub item_there : (key : ℕ × ℕ) (i : ℕ) (b : Bool) → node_at nodes list ≡ Some key → item_type types key.1 ≡ Some i → (i == item) ≡ b → (us : List ℕ) → IsStack nodes list us → b ≡ are_same (body_start types us) (us ++ item ∷ [])
  item_there key i b e f t us h =
      let p = split_top nodes list key us h e in
      sym (ap (λ l. are_same (body_start types l) (us ++ item ∷ [])) p.1 ∙ ap (λ o. are_same o (us ++ item ∷ [])) (start_of types p.0 key.1 ∙ ap (option_map (λ x. (p.0 ++ key.1 ∷ []) ++ x ∷ [])) f)
      ∙ ap (λ l. same_types ((p.0 ++ key.1 ∷ []) ++ i ∷ []) (l ++ item ∷ [])) p.1 ∙ same_last (p.0 ++ key.1 ∷ []) i item ∙ t)

  pub item_none : (key : ℕ × ℕ) → node_at nodes list ≡ Some key → item_type types key.1 ≡ None → (us : List ℕ) → IsStack nodes list us → false ≡ are_same (body_start types us) (us ++ item ∷ [])
  item_none key e f us h =
      let p = split_top nodes list key us h e in
      sym (ap (λ l. are_same (body_start types l) (us ++ item ∷ [])) p.1 ∙ ap (λ o. are_same o (us ++ item ∷ [])) (start_of types p.0 key.1 ∙ ap (option_map (λ x. (p.0 ++ key.1 ∷ []) ++ x ∷ [])) f))

  pub item_empty : node_at nodes list ≡ None → (us : List ℕ) → IsStack nodes list us → false ≡ are_same (body_start types us) (us ++ item ∷ [])
  item_empty e us h = sym (ap (λ l. are_same (body_start types l) (us ++ item ∷ [])) (no_top nodes list us h e))

-- the start of a body has one item more
start_form : (types : Table) (us ts : List ℕ) → body_start types us ≡ Some ts → (i : ℕ) × (ts ≡ us ++ i ∷ [])
start_form types us ts h = go (nat_le 1 (length us)) h
  where
    go2 : (o : Option ℕ) → option_map (λ item. us ++ item ∷ []) o ≡ Some ts → (i : ℕ) × (ts ≡ us ++ i ∷ [])
    go2 (Some i) x = (i, cc)
    go2 None x = absurd (cc)

    go : (b : Bool) → (if b then option_map (λ item. us ++ item ∷ []) (item_on types (drop (length us - 1) us)) else None) ≡ Some ts → (i : ℕ) × (ts ≡ us ++ i ∷ [])
    go true x = go2 (item_on types (drop (length us - 1) us)) x
    go false x = absurd (cc)

same_front : (xs ys : List ℕ) (i j : ℕ) → xs ++ i ∷ [] ≡ ys ++ j ∷ [] → xs ≡ ys
same_front xs ys i j e =
    let r : i ∷ reverse xs ≡ j ∷ reverse ys = sym (reverse-append xs (i ∷ [])) ∙ ap reverse e ∙ reverse-append ys (j ∷ []) in
    let s : reverse xs ≡ reverse ys = cc in
    sym (reverse-reverse xs) ∙ ap reverse s ∙ reverse-reverse ys

same_as : (o : Option (List ℕ)) (ts : List ℕ) → are_same o ts ≡ true → o ≡ Some ts
same_as (Some us) ts h = ap Some (same_types-is us ts h)
same_as None ts h = absurd (cc)

nothing_starts : (types : Table) (ts : List ℕ) → false ≡ are_same (body_start types []) ts
nothing_starts types ts = refl

module _ (types : Table) (s : Numbering) where
  pub starts_nothing : (x : Pending) (b : Brought) (ts : List ℕ) → ((k : ℕ) → x ≡ Stack k → ⊥) → Represents s.nodes (Some x) b → false ≡ are_same (body_start types (types_in b)) ts
  starts_nothing Nothing b ts no_stack m = sym (ap (λ y. are_same (body_start types (types_in y)) ts) m)
  starts_nothing Clash b ts no_stack m = sym (ap (λ y. are_same (body_start types (types_in y)) ts) m)
  starts_nothing (Stack k) b ts no_stack m = absurd (no_stack k refl)

  module _ (list : ℕ) (b : Brought) (m : Represents s.nodes (Some (Stack list)) b) (stack : ℕ) (ts : List ℕ) (h : IsStack s.nodes stack ts) where
    pub starts_empty : node_at s.nodes stack ≡ None → false ≡ are_same (body_start types (types_in b)) ts
    starts_empty e = go (are_same (body_start types (types_in b)) ts) refl
      where
        go : (c : Bool) → are_same (body_start types (types_in b)) ts ≡ c → false ≡ c
        go false t = refl
        go true t =
            let f = start_form types (types_in b) ts (same_as (body_start types (types_in b)) ts t) in
            let g : [] ≡ types_in b ++ f.0 ∷ [] = sym (no_top s.nodes stack ts h e) ∙ f.1 in
            absurd (never (types_in b) f.0 g)
          where
            never : (us : List ℕ) (i : ℕ) → [] ≡ us ++ i ∷ [] → ⊥
            never [] i x = absurd (cc)
            never (u ∷ us) i x = absurd (cc)

    module _ (key : ℕ × ℕ) (e : node_at s.nodes stack ≡ Some key) where
      pub starts_other : ((us vs : List ℕ) → IsStack s.nodes key.0 us → IsStack s.nodes list vs → false ≡ same_types us vs) → false ≡ are_same (body_start types (types_in b)) ts
      starts_other apart = go (are_same (body_start types (types_in b)) ts) refl
        where
          go : (c : Bool) → are_same (body_start types (types_in b)) ts ≡ c → false ≡ c
          go false t = refl
          go true t =
              let f = start_form types (types_in b) ts (same_as (body_start types (types_in b)) ts t) in
              let p = split_top s.nodes stack key ts h e in
              let front : p.0 ≡ types_in b = same_front p.0 (types_in b) key.1 f.0 (sym p.1 ∙ f.1) in
              let is : types_in b ≡ m.0 = ap types_in m.1 in
              let other = apart p.0 m.0 p.2 m.2 in
              let same : same_types p.0 m.0 ≡ true = subst (λ l. same_types p.0 l ≡ true) (front ∙ is) (same_types-refl p.0) in
              absurd (cc)

      pub starts_same : (c : Bool) → ((us vs : List ℕ) → IsStack s.nodes key.0 us → IsStack s.nodes list vs → true ≡ same_types us vs) → ((us : List ℕ) → IsStack s.nodes list us → c ≡ are_same (body_start types us) (us ++ key.1 ∷ [])) → c ≡ are_same (body_start types (types_in b)) ts
      starts_same c same h2 =
          let p = split_top s.nodes stack key ts h e in
          let us : p.0 ≡ m.0 = same_types-is p.0 m.0 (sym (same p.0 m.0 p.2 m.2)) in
          let is : m.0 ≡ types_in b = sym (ap types_in m.1) in
          h2 m.0 m.2 ∙ ap (λ l. are_same (body_start types m.0) (l ++ key.1 ∷ [])) (sym us) ∙ ap (are_same (body_start types m.0)) (sym p.1) ∙ ap (λ l. are_same (body_start types l) ts) is
