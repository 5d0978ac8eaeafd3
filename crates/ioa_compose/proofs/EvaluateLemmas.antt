-- The parts of a well typed expression, as the evaluator meets them.
use Rattle.std.proofs.Common.{◌≡◌, ◌≢◌, ℕ, zero, suc, ◌<◌, ◌≤◌, arith, length, get_or, Bool, true, false, List, [], ◌∷◌, map, Option, Some, None, IsSome, option_and_then, Result, Ok, Err, Vec, Global, refl, sym, ap, ◌∙◌, subst}
use Rattle.std.specs.List.{list_all}
use Rattle.std.specs.Option.{option_map, option_map_or}
use Rattle.std.proofs.lemmas.Bool.{and_parts, and_from}
use Rattle.ioa_arithmetic.specs.declared.arithmetic.Fault.{Fault}
use Rattle.ioa_value.specs.Actions.{Name}
use Rattle.ioa_value.specs.Plain.{Val, truth, name, items, none}
use Rattle.ioa_value.specs.declared.operator.Op.{Op}
use Rattle.ioa_value.specs.declared.operator.Op.TheVariants.{Make, Field}
use Rattle.ioa_value.specs.Table.{Table, AreTypes, type_named, item_type, constant_named, field_place}
use Rattle.ioa_value.specs.Typing.{HasType, HaveTypes}
use Rattle.ioa_value.specs.Operators.{Answer, gives, faults, nothing, op_type, Takes, IsTypedAnswer}
use Rattle.ioa_tree.specs.declared.tree.Infix.{Infix}
use Rattle.ioa_tree.specs.declared.tree.Infix.TheVariants.{Operator, And, Or, Implies}
use Rattle.ioa_tree.specs.Tree.{Expr, named, prefix, binary, empty, make, select}
use Rattle.ioa_tree.specs.declared.tree.Expression.{Expression}
use Rattle.ioa_tree.specs.declared.tree.Expression.TheVariants as expressions
use Rattle.ioa_tree.specs.declared.tree.Name as tree
use Rattle.ioa_tree.specs.View.{name_of, expr_of, exprs_of}
use Rattle.ioa_tree.proofs.ExpressionRows.{expr_made}
use Rattle.ioa_tree.specs.Meaning.{Env, or_else, val, then_all, made, then_value, decided, combined}
use Rattle.ioa_tree.specs.Instances.{settled, with_value, all_values}
use Rattle.ioa_tree.specs.Types.{sequence_named, empty_of, constant, constant_type}
use Rattle.ioa_tree.specs.WellFormed.{Context, nodes, exprs_nodes, type_in, type_of, types_of_all, of_truths, infix_type, made_type, selected_type}
use Rattle.ioa_tree.specs.Answers.{HasValueOf, Suits}
use Rattle.ioa_tree.proofs.ValTyped.{type_of_one, types_of_both, types_of_row, type_there, are_truths, val_typed}
use Rattle.ioa_value.proofs.OperatorTyping.{op_takes}
use Rattle.ioa_value.proofs.TypingLemmas.{is_truth, own_type}
use Rattle.ioa_tree.proofs.Starts.{some_there}
use Rattle.ioa_compose.specs.Bindings.{typed, start_of}
use Rattle.ioa_compose.specs.declared.given.Given.{Given}
use Rattle.ioa_compose.specs.Givens.{given, answer_in}
use Rattle.ioa_compose.specs.Operands.{Asks, AreOperands, AreFields, HasField}

-- the expression has a type
abbrev pub HasSome : Table → Context → Expr → Type 0
HasSome types c e = (ty : ℕ) × (type_of types types c e ≡ Some ty)

pub operand_typed : (types : Table) (c : Context) (e : Expr) (o : Op) (x : Expr) → e ≡ prefix o x → HasSome types c e → HasSome types c x
operand_typed types c e o x k h =
    let t = type_of_one (type_of types types c x) (op_type types o) h.0 (subst (λ x. type_of types types c x ≡ Some h.0) k h.1) in
    (t.0, t.1)

pub left_typed : (types : Table) (c : Context) (e : Expr) (l r : Expr) (o : Infix) → e ≡ binary l o r → HasSome types c e → HasSome types c l
left_typed types c e l r o k h =
    let t = types_of_both (type_of types types c l) (type_of types types c r) (infix_type types o) h.0 (subst (λ x. type_of types types c x ≡ Some h.0) k h.1) in
    (t.0, t.2)

pub right_typed : (types : Table) (c : Context) (e : Expr) (l r : Expr) (o : Infix) → e ≡ binary l o r → HasSome types c e → HasSome types c r
right_typed types c e l r o k h =
    let t = types_of_both (type_of types types c l) (type_of types types c r) (infix_type types o) h.0 (subst (λ x. type_of types types c x ≡ Some h.0) k h.1) in
    (t.1, t.3)

value_typed : (types : Table) (ty : ℕ) (v : Val) (a : Answer) → gives v ≡ a → IsTypedAnswer types ty a → HasType types v ty
value_typed types ty v a e h = subst (IsTypedAnswer types ty) (sym e) h

pub operand_taken : (types : Table) (c : Context) (env : Env) (e : Expr) (o : Op) (x : Expr) (v : Val)
    → AreTypes types → Suits types c env → e ≡ prefix o x → HasSome types c e → gives v ≡ val types x env → Takes types o (v ∷ [])
operand_taken types c env e o x v d s k h p =
    let t = type_of_one (type_of types types c x) (op_type types o) h.0 (subst (λ x. type_of types types c x ≡ Some h.0) k h.1) in
    op_takes types d o (v ∷ []) (t.0 ∷ []) h.0 (value_typed types t.0 v (val types x env) p (val_typed types d c env x t.0 s t.1), tt) t.2

pub operands_typed : (types : Table) (c : Context) (env : Env) (e : Expr) (l r : Expr) (o : Infix) (v w : Val)
    → AreTypes types → Suits types c env → e ≡ binary l o r → HasSome types c e → gives v ≡ val types l env → gives w ≡ val types r env → AreOperands types o v w
operands_typed types c env e l r o v w d s k h p q =
    let t = types_of_both (type_of types types c l) (type_of types types c r) (infix_type types o) h.0 (subst (λ x. type_of types types c x ≡ Some h.0) k h.1) in
    (t.0, t.1, h.0, value_typed types t.0 v (val types l env) p (val_typed types d c env l t.0 s t.2), value_typed types t.1 w (val types r env) q (val_typed types d c env r t.1 s t.3), t.4)

pub operands_taken : (types : Table) (o : Op) (i : Infix) (v w : Val) → AreTypes types → i ≡ Operator o → AreOperands types i v w → Takes types o (v ∷ w ∷ [])
operands_taken types o i v w d k h =
    let t : AreOperands types (Operator o) v w = subst (λ i. AreOperands types i v w) k h in
    op_takes types d o (v ∷ w ∷ []) (t.0 ∷ t.1 ∷ []) t.2 (t.3, (t.4, tt)) t.5

-- ---- where the second operand is asked for

true_decides : (x : Val) (b : Bool) (this other : Answer) → x ≡ truth b → x ≢ truth false → decided x this other ≡ this
true_decides x true this other e n = ap (λ v. decided v this other) e
true_decides x false this other e n = absurd (n e)

false_decides : (x : Val) (b : Bool) (this other : Answer) → x ≡ truth b → x ≢ truth true → decided x this other ≡ other
false_decides x true this other e n = absurd (n e)
false_decides x false this other e n = ap (λ v. decided v this other) e

module _ (types : Table) (declared : AreTypes types) where
  truth_first : (x : Val) (a b c : ℕ) → HasType types x a → of_truths (a ∷ b ∷ []) ≡ Some c → (v : Bool) × (x ≡ truth v)
  truth_first x a b c h e = is_truth types declared x (subst (HasType types x) (are_truths a b c e).0 h)

  fault_kept : (i : Infix) (x : Val) (f : Fault) (a b c : ℕ) → HasType types x a → infix_type types i (a ∷ b ∷ []) ≡ Some c → Asks i x → combined types i x (faults f) ≡ faults f
  fault_kept (Operator o) x f a b c h e n = refl
  fault_kept And x f a b c h e n = let v = truth_first x a b c h e in true_decides x v.0 (faults f) (gives (truth false)) v.1 n
  fault_kept Or x f a b c h e n = let v = truth_first x a b c h e in false_decides x v.0 (gives (truth true)) (faults f) v.1 n
  fault_kept Implies x f a b c h e n = let v = truth_first x a b c h e in true_decides x v.0 (faults f) (gives (truth true)) v.1 n

  -- the second operand's fault is the fault of both
  pub fault_stays : (c : Context) (env : Env) (e : Expr) (l r : Expr) (o : Infix) (v : Val) (f : Fault)
      → Suits types c env → e ≡ binary l o r → HasSome types c e → gives v ≡ val types l env → Asks o v → faults f ≡ val types r env → faults f ≡ val types e env
  fault_stays c env e l r o v f s k h p n q =
      let t = types_of_both (type_of types types c l) (type_of types types c r) (infix_type types o) h.0 (subst (λ x. type_of types types c x ≡ Some h.0) k h.1) in
      let first = value_typed types t.0 v (val types l env) p (val_typed types declared c env l t.0 s t.2) in
      sym (fault_kept o v f t.0 t.1 h.0 first t.4 n)
      ∙ ap (combined types o v) q
      ∙ ap (λ a. then_value a (λ x. combined types o x (val types r env))) p
      ∙ ap (λ e. val types e env) (sym k)

-- ---- names

known_constant : (types : Table) (x : Name) (ty : ℕ) → constant_type types x ≡ Some ty → IsSome (constant types x)
known_constant types x ty e = go (constant_named types x) e
  where
    go : (o : Option (ℕ × ℕ)) → option_map (λ p. p.0) o ≡ Some ty → IsSome (option_map (λ p. name p.0 p.1) o)
    go (Some p) e = refl
    go None e = absurd (cc)

-- a name with a type that stands for nothing is an enumeration's
pub name_known : (types : Table) (c : Context) (env : Env) (x : Name) → Suits types c env → HasSome types c (named x) → env x ≡ None → IsSome (constant types x)
name_known types c env x s h missing = go (type_in c x) refl h.1
  where
    stood : (ty : ℕ) (o : Option Val) → HasValueOf types ty o → o ≡ None → ⊥
    stood ty (Some v) k e = absurd (cc)
    stood ty None k e = k

    go : (o : Option ℕ) → type_in c x ≡ o → or_else o (constant_type types x) ≡ Some h.0 → IsSome (constant types x)
    go (Some ty) at e = absurd (stood ty (env x) (s.stands x ty at) missing)
    go None at e = known_constant types x h.0 e

-- an empty sequence with a type is one of a sequence type
pub empty_known : (types : Table) (c : Context) (x : Name) → HasSome types c (empty x) → IsSome (empty_of types x)
empty_known types c x h = let there : sequence_named types x ≡ Some h.0 = h.1 in rw there refl

-- the empty sequence of a name is of the type of this name
pub empty_there : (types : Table) (x : Name) (ty : ℕ) → type_named types x ≡ Some ty → IsSome (empty_of types x) → empty_of types x ≡ Some (items ty none)
empty_there types x ty e =
    let of_named : Option ℕ → Option Val = λ o. option_map (λ n. items n none) (option_and_then (λ n. option_map (λ of. n) (item_type types n)) o) in
    subst (λ o. IsSome (of_named o) → of_named o ≡ Some (items ty none)) (sym e) (shaped (item_type types ty))
  where
    shaped : (o : Option ℕ) → IsSome (option_map (λ n. items n none) (option_map (λ of. ty) o)) → option_map (λ n. items n none) (option_map (λ of. ty) o) ≡ Some (items ty none)
    shaped (Some of) h = refl
    shaped None h = absurd (cc)

-- ---- fields

typed_there : (o : Option ℕ) (ty : ℕ) → o ≡ Some ty → option_map_or (λ n. true) o false ≡ true
typed_there (Some n) ty e = refl
typed_there None ty e = absurd (cc)

-- the types of expressions in order are those of each
each_typed : (types : Table) (c : Context) (es : List Expression) (tys : List ℕ) → types_of_all types types c (exprs_of es) ≡ Some tys → list_all (typed types c) (map expr_of es) ≡ true
each_typed types c [] tys e = refl
each_typed types c (x ∷ es) tys e =
    let t = types_of_row (type_of types types c (expr_of x)) (types_of_all types types c (exprs_of es)) tys e in
    and_from _ _ (typed_there (type_of types types c (expr_of x)) t.0 t.2) (each_typed types c es t.1 t.3)

-- a tuple's expression, and its fields as a list
pub make_shown : (e : Expression) (x : tree.Name) (fields : Vec Expression Global) (es : List Expression) → e ≡ expressions.Make x fields → es ≡ fields.items → expr_of e ≡ make (name_of x) (exprs_of es)
make_shown e x fields es is at = expr_made e x fields is ∙ ap (λ l. make (name_of x) (exprs_of l)) (sym at)

-- the fields of a tuple have types
pub parts_typed : (types : Table) (c : Context) (e : Expr) (x : Name) (es : List Expression) → e ≡ make x (exprs_of es) → HasSome types c e → list_all (typed types c) (map expr_of es) ≡ true
parts_typed types c e x es k h =
    let t = type_there (made_type types (type_named types x)) (types_of_all types types c (exprs_of es)) h.0 (subst (λ x. type_of types types c x ≡ Some h.0) k h.1) in
    each_typed types c es t.0 t.1

pub tuple_typed : (types : Table) (c : Context) (e x : Expr) (n : Name) → e ≡ select x n → HasSome types c e → HasSome types c x
tuple_typed types c e x n k h =
    let t = type_there (selected_type types n) (type_of types types c x) h.0 (subst (λ x. type_of types types c x ≡ Some h.0) k h.1) in
    (t.0, t.1)

-- one of some expressions has no more nodes than they have
pub nodes_at : (es : List Expression) (i : ℕ) (e : Expression) → i < length es → e ≡ get_or es i e → nodes (expr_of e) ≤ exprs_nodes (exprs_of es)
nodes_at [] i e l at = absurd (omega arith)
nodes_at (x ∷ es) zero e l at = let same = ap (λ y. nodes (expr_of y)) at in omega (arith, same)
nodes_at (x ∷ es) (suc i) e l at = let rest = nodes_at es i e (omega arith) at in omega (arith, rest)

-- goes on with values; a fault stays
abbrev pub with_all : Result (List Val) Fault → (List Val → Answer) → Answer
with_all (Ok vs) go = go vs
with_all (Err f) go = faults f

with_all_first : (v : Val) (r : Result (List Val) Fault) (go : List Val → Answer) → with_all r (λ vs. go (v ∷ vs)) ≡ with_all (with_value (Ok v) r) go
with_all_first v (Ok vs) go = refl
with_all_first v (Err f) go = refl

module _ (types : Table) (declared : AreTypes types) (c : Context) (env : Env) (suits : Suits types c env) where
  -- an answer that is typed, and what goes on after it
  goes_on : (a : Answer) (ty : ℕ) (rest : Result (List Val) Fault) (next : (List Val → Answer) → Answer) → IsTypedAnswer types ty a → ((go : List Val → Answer) → next go ≡ with_all rest go)
      → (go : List Val → Answer) → then_value a (λ v. next (λ vs. go (v ∷ vs))) ≡ with_all (with_value (settled a) rest) go
  goes_on (gives v) ty rest next h k go = k (λ vs. go (v ∷ vs)) ∙ with_all_first v rest go
  goes_on (faults f) ty rest next h k go = refl
  goes_on nothing ty rest next h k go = absurd h

  -- values of expressions in order, as a list and as the meaning goes on with them
  pub all_go_on : (es : List Expression) → list_all (typed types c) (map expr_of es) ≡ true → (go : List Val → Answer) → then_all types (exprs_of es) env go ≡ with_all (all_values (start_of types env) (map expr_of es)) go
  all_go_on [] h go = refl
  all_go_on (e ∷ es) h go =
      let hs = and_parts (typed types c (expr_of e)) (list_all (typed types c) (map expr_of es)) h in
      let t = some_there (type_of types types c (expr_of e)) hs.0 in
      goes_on (val types (expr_of e) env) t.0 (all_values (start_of types env) (map expr_of es)) (then_all types (exprs_of es) env) (val_typed types declared c env (expr_of e) t.0 suits t.1) (all_go_on es hs.1) go

  -- a tuple's answer, after its fields' values or a fault
  pub make_answer : (e : Expr) (x : Name) (es : List Expression) (r : Result (List Val) Fault) → e ≡ make x (exprs_of es) → HasSome types c e → r ≡ all_values (start_of types env) (map expr_of es)
      → with_all r (made types x) ≡ val types e env
  make_answer e x es r k h q =
      ap (λ o. with_all o (made types x)) q ∙ sym (all_go_on es (parts_typed types c e x es k h) (made types x)) ∙ ap (λ f. val types f env) (sym k)

  first_given : (a : Answer) (ty : ℕ) (rest : Result (List Val) Fault) (vs : List Val) → IsTypedAnswer types ty a → with_value (settled a) rest ≡ Ok vs
      → (v : Val) × (us : List Val) × HasType types v ty × (rest ≡ Ok us) × (v ∷ us ≡ vs)
  first_given (gives v) ty (Ok us) vs h e = let q : v ∷ us ≡ vs = cc in (v, us, h, refl, q)
  first_given (gives v) ty (Err f) vs h e = absurd (cc)
  first_given (faults f) ty rest vs h e = absurd (cc)
  first_given nothing ty rest vs h e = absurd h

  all_have : (es : List Expression) (tys : List ℕ) (vs : List Val) → types_of_all types types c (exprs_of es) ≡ Some tys → all_values (start_of types env) (map expr_of es) ≡ Ok vs → HaveTypes types vs tys
  all_have [] tys vs e k = let p : [] ≡ tys = cc in let q : [] ≡ vs = cc in subst (HaveTypes types vs) p (subst (λ us. HaveTypes types us []) q tt)
  all_have (x ∷ es) tys vs e k =
      let t = types_of_row (type_of types types c (expr_of x)) (types_of_all types types c (exprs_of es)) tys e in
      let w = first_given (val types (expr_of x) env) t.0 (all_values (start_of types env) (map expr_of es)) vs (val_typed types declared c env (expr_of x) t.0 suits t.2) k in
      subst (HaveTypes types vs) t.4 (subst (λ us. HaveTypes types us (t.0 ∷ t.1)) w.4 (w.2, all_have es t.1 w.1 t.3 w.3))

  pub fields_taken : (e : Expr) (x : Name) (es : List Expression) (vs : List Val) → e ≡ make x (exprs_of es) → HasSome types c e → Ok vs ≡ all_values (start_of types env) (map expr_of es) → AreFields types x vs
  fields_taken e x es vs k h q =
      let t = type_there (made_type types (type_named types x)) (types_of_all types types c (exprs_of es)) h.0 (subst (λ x. type_of types types c x ≡ Some h.0) k h.1) in
      let u = type_there (λ n. op_type types (Make (record { 0 = n })) t.0) (type_named types x) h.0 t.2 in
      (u.0, u.1, op_takes types declared (Make (record { 0 = u.0 })) vs t.0 h.0 (all_have es t.0 vs t.1 (sym q)) u.2)

  pub field_there : (e x : Expr) (n : Name) (v : Val) → e ≡ select x n → HasSome types c e → gives v ≡ val types x env → HasField types n v
  field_there e x n v k h q =
      let t = type_there (selected_type types n) (type_of types types c x) h.0 (subst (λ x. type_of types types c x ≡ Some h.0) k h.1) in
      let is = value_typed types t.0 v (val types x env) q (val_typed types declared c env x t.0 suits t.1) in
      let u = type_there (λ j. op_type types (Field j) (t.0 ∷ [])) (field_place types t.0 n) h.0 t.2 in
      (u.0, ap (λ a. field_place types a n) (own_type types v t.0 is) ∙ u.1, op_takes types declared (Field u.0) (v ∷ []) (t.0 ∷ []) h.0 (is, tt) u.2)

-- ---- what is given, lent or not

abbrev pub given_in : Result Given Fault → Result Val Fault
given_in (Ok g) = Ok (given g)
given_in (Err f) = Err f

pub settled-given : (r : Result Given Fault) → given_in r ≡ settled (answer_in r)
settled-given (Ok g) = refl
settled-given (Err f) = refl
