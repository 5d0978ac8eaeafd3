-- The type of a tree depends on the names in it alone.
use Rattle.std.proofs.Common.{◌≡◌, ℕ, Bool, true, false, not, cond, ◌&&◌, ◌||◌, nat_lt, List, [], ◌∷◌, ◌++◌, Option, Some, None, option_and_then, refl, sym, ap, ◌∙◌, map, length}
use Rattle.std.specs.List.{list_all}
use Rattle.std.specs.Option.{option_map, option_map_or}
use Rattle.std.specs.Str.{bytes_eq}
use Rattle.std.proofs.lemmas.Bool.{and_parts, and_from}
use Rattle.std.proofs.lemmas.List.Folds.{list_any-append}
use Rattle.ioa_value.specs.Actions.{Name}
use Rattle.ioa_value.specs.Operators.{op_type}
use Rattle.ioa_value.specs.Table.{Table, type_named, item_type, contains}
use Rattle.ioa_value.proofs.NameLemmas.{outside_both, not_true}
use Rattle.ioa_tree.specs.Tree.{Expr, number, truth, named, parens, prefix, binary, empty, make, select, Exprs, no_expr, also, EntryTree, Stmt, assign, choose, each, Stmts, stop, seq, Arms, no_arm, arm, AutomatonTree}
use Rattle.ioa_tree.specs.Names.{names_of_expr, names_of_exprs, names_of_stmt, names_of_stmts, names_of_arms}
use Rattle.ioa_tree.specs.Types.{constant_type}
use Rattle.ioa_tree.specs.Meaning.{or_else}
use Rattle.ioa_tree.specs.WellFormed.{Context, type_in, type_of, types_of_all, one_type, both_types, infix_type, made_type, selected_type, is_some_of, context_of, variable_fields, parameter_names, local_names, scope, scope_in, taken, item_in, stmt_fine, stmts_fine, arms_fine}
use Rattle.ioa_value.specs.declared.limits.TheConstants.{LIMITS}
use Rattle.ioa_tree.proofs.Agreement.{all_both, two}

module _ (types early : Table) (p : Name → Bool) (c d : Context) (same : (x : Name) → p x ≡ true → type_in c x ≡ type_in d x) where
  mutual
    pub type_same : (e : Expr) → list_all p (names_of_expr e) ≡ true → type_of types early c e ≡ type_of types early d e
    type_same (number k) h = refl
    type_same (truth b) h = refl
    type_same (named x) h = ap (λ o. or_else o (constant_type early x)) (same x (and_parts (p x) true h).0)
    type_same (parens e) h = type_same e h
    type_same (prefix o e) h = ap (λ a. one_type a (op_type types o)) (type_same e h)
    type_same (binary l o r) h =
        let k = all_both p (names_of_expr l) (names_of_expr r) h in
        two (λ a b. both_types a b (infix_type types o)) (type_of types early c l) (type_of types early d l) (type_of types early c r) (type_of types early d r)
        (type_same l k.0) (type_same r k.1)
    type_same (empty x) h = refl
    type_same (make x es) h = ap (option_and_then (made_type types (type_named early x))) (types_same es (and_parts (p x) (list_all p (names_of_exprs es)) h).1)
    type_same (select e x) h = ap (option_and_then (selected_type types x)) (type_same e (all_both p (names_of_expr e) (x ∷ []) h).0)

    types_same : (es : Exprs) → list_all p (names_of_exprs es) ≡ true → types_of_all types early c es ≡ types_of_all types early d es
    types_same no_expr h = refl
    types_same (also e es) h =
        let k = all_both p (names_of_expr e) (names_of_exprs es) h in
        two (λ (s : Option ℕ) (r : Option (List ℕ)). option_and_then (λ ty. option_map (λ tys. ty ∷ tys) r) s) (type_of types early c e) (type_of types early d e)
        (types_of_all types early c es) (types_of_all types early d es) (type_same e k.0) (types_same es k.1)

-- names in front of both
pub behind_same : (c d ls : Context) (x : Name) → type_in c x ≡ type_in d x → type_in (ls ++ c) x ≡ type_in (ls ++ d) x
behind_same c d [] x h = h
behind_same c d (l ∷ ls) x h = ap (λ o. cond (bytes_eq l.0 x) (Some l.1) o) (behind_same c d ls x h)

outside : (ms bs : List Name) (x : Name) → contains ms x ≡ false → contains bs x ≡ false → contains (ms ++ bs) x ≡ false
outside ms bs x h k = list_any-append (λ m. bytes_eq m x) ms bs ∙ two (λ a b. a || b) (contains ms x) false (contains bs x) false h k

-- the second test of what is there is passed where the first is
pub some_still : {X : Type 0} (f g : X → Bool) (o q : Option X) → o ≡ q → ((x : X) → f x ≡ true → g x ≡ true) → option_map_or f o false ≡ true
    → option_map_or g q false ≡ true
some_still f g (Some x) q e k h = ap (λ o. option_map_or g o false) (sym e) ∙ k x h
some_still f g None q e k h = absurd (cc)

-- what is fine in an entry of an automaton is fine there in another one, in which the names have the same types and none more is taken
module _ (types early : Table) (g k : List Name) (a b : AutomatonTree) (e : EntryTree) (p : Name → Bool)
    (scopes : (x : Name) → p x ≡ true → type_in (scope types early g a e) x ≡ type_in (scope types early k b e) x)
    (variables : (x : Name) → p x ≡ true → type_in (context_of early (variable_fields a)) x ≡ type_in (context_of early (variable_fields b)) x)
    (free : (x : Name) → p x ≡ true → contains (g ++ local_names types early g a) x ≡ false → contains (k ++ local_names types early k b) x ≡ false) where
  abbrev A : Context → Context
  A loops = scope_in types early g a e loops

  abbrev B : Context → Context
  B loops = scope_in types early k b e loops

  expr_same : (loops : Context) (v : Expr) → list_all p (names_of_expr v) ≡ true → type_of types early (A loops) v ≡ type_of types early (B loops) v
  expr_same loops v h =
      type_same types early p (A loops) (B loops) (λ x q. behind_same (scope types early g a e) (scope types early k b e) loops x (scopes x q)) v h

  new_still : (loops : Context) (x : Name) → p x ≡ true → contains (taken types early g a e loops) x ≡ false → contains (taken types early k b e loops) x ≡ false
  new_still loops x q h =
      let l = outside_both (map (λ p. p.0) loops) (parameter_names e ++ (g ++ local_names types early g a)) x h in
      let r = outside_both (parameter_names e) (g ++ local_names types early g a) x l.1 in
      outside (map (λ p. p.0) loops) (parameter_names e ++ (k ++ local_names types early k b)) x l.0
      (outside (parameter_names e) (k ++ local_names types early k b) x r.0 (free x q r.1))

  mutual
    stmt_still : (loops : Context) (s : Stmt) → list_all p (names_of_stmt s) ≡ true → stmt_fine types early g a e loops s ≡ true → stmt_fine types early k b e loops s ≡ true
    stmt_still loops (assign x v) h f =
        let q = and_parts (p x) (list_all p (names_of_expr v)) h in
        sym (two (λ (o s : Option ℕ). option_map_or (λ ty. is_some_of s ty) o false)
        (type_in (context_of early (variable_fields a)) x) (type_in (context_of early (variable_fields b)) x)
        (type_of types early (A loops) v) (type_of types early (B loops) v) (variables x q.0) (expr_same loops v q.1)) ∙ f
    stmt_still loops (choose arms others) h f =
        let q = all_both p (names_of_arms arms) (names_of_stmts others) h in
        let c = and_parts (arms_fine types early g a e loops arms) (stmts_fine types early g a e loops others) f in
        and_from (arms_fine types early k b e loops arms) (stmts_fine types early k b e loops others) (arms_still loops arms q.0 c.0) (stmts_still loops others q.1 c.1)
    stmt_still loops (each x v ss) h f =
        let q = and_parts (p x) (list_all p (names_of_expr v ++ names_of_stmts ss)) h in
        let r = all_both p (names_of_expr v) (names_of_stmts ss) q.1 in
        let there : List Name → AutomatonTree → Option ℕ → Bool = λ g a o. option_map_or (λ item. stmts_fine types early g a e ((x, item) ∷ loops) ss) o false in
        let c = and_parts (not (contains (taken types early g a e loops) x)) (nat_lt (length loops) LIMITS.loops && there g a (item_in types early g a e loops v)) f in
        let d = and_parts (nat_lt (length loops) LIMITS.loops) (there g a (item_in types early g a e loops v)) c.1 in
        let items : item_in types early g a e loops v ≡ item_in types early k b e loops v = ap (option_and_then (item_type types)) (expr_same loops v r.0) in
        and_from (not (contains (taken types early k b e loops) x)) (nat_lt (length loops) LIMITS.loops && there k b (item_in types early k b e loops v))
        (ap not (new_still loops x q.0 (not_true (contains (taken types early g a e loops) x) c.0)))
        (and_from (nat_lt (length loops) LIMITS.loops) (there k b (item_in types early k b e loops v)) d.0
        (some_still (λ item. stmts_fine types early g a e ((x, item) ∷ loops) ss) (λ item. stmts_fine types early k b e ((x, item) ∷ loops) ss)
        (item_in types early g a e loops v) (item_in types early k b e loops v) items (λ item t. stmts_still ((x, item) ∷ loops) ss r.1 t) d.1))

    pub stmts_still : (loops : Context) (ss : Stmts) → list_all p (names_of_stmts ss) ≡ true → stmts_fine types early g a e loops ss ≡ true → stmts_fine types early k b e loops ss ≡ true
    stmts_still loops stop h f = refl
    stmts_still loops (seq s ss) h f =
        let q = all_both p (names_of_stmt s) (names_of_stmts ss) h in
        let c = and_parts (stmt_fine types early g a e loops s) (stmts_fine types early g a e loops ss) f in
        and_from (stmt_fine types early k b e loops s) (stmts_fine types early k b e loops ss) (stmt_still loops s q.0 c.0) (stmts_still loops ss q.1 c.1)

    arms_still : (loops : Context) (arms : Arms) → list_all p (names_of_arms arms) ≡ true → arms_fine types early g a e loops arms ≡ true → arms_fine types early k b e loops arms ≡ true
    arms_still loops no_arm h f = refl
    arms_still loops (arm v ss more) h f =
        let q = all_both p (names_of_expr v) (names_of_stmts ss ++ names_of_arms more) h in
        let r = all_both p (names_of_stmts ss) (names_of_arms more) q.1 in
        let c = and_parts (is_some_of (type_of types early (A loops) v) 0) (stmts_fine types early g a e loops ss && arms_fine types early g a e loops more) f in
        let d = and_parts (stmts_fine types early g a e loops ss) (arms_fine types early g a e loops more) c.1 in
        and_from (is_some_of (type_of types early (B loops) v) 0) (stmts_fine types early k b e loops ss && arms_fine types early k b e loops more)
        (ap (λ o. is_some_of o 0) (sym (expr_same loops v q.0)) ∙ c.0)
        (and_from (stmts_fine types early k b e loops ss) (arms_fine types early k b e loops more) (stmts_still loops ss r.0 d.0) (arms_still loops more r.1 d.1))
