-- The machine follows the tree.
use Rattle.std.proofs.Common.{◌≡◌, ℕ, suc, ◌+◌, ◌*◌, ◌==◌, Bool, true, false, cond, ◌||◌, List, [], ◌∷◌, ◌++◌, length, Option, Some, None, pos, refl, sym, ap, ◌∙◌, subst, arith, append_assoc, append-nil}
use Rattle.std.specs.Prelude.{slice_get, slice_set}
use Rattle.std.specs.Option.{option_map}
use Rattle.std.specs.Str.{bytes_eq}
use Rattle.ioa_arithmetic.specs.declared.arithmetic.Fault.{Fault}
use Rattle.ioa_value.specs.declared.operator.Op.{Op}
use Rattle.ioa_value.specs.declared.operator.Op.TheVariants.{Make, Field}
use Rattle.ioa_value.specs.Actions.{Name}
use Rattle.ioa_value.specs.Operators.{Answer, gives, faults, nothing, IsTypedAnswer, operate, op_type, arity}
use Rattle.ioa_value.specs.Plain as plain
use Rattle.ioa_value.specs.Plain.{Val, Vals, none, more, items}
use Rattle.ioa_value.specs.Table.{Table, AreTypes, place_from, type_named, item_type, field_place}
use Rattle.ioa_value.specs.Typing.{HasType, HaveTypes, own}
use Rattle.ioa_value.proofs.NameLemmas.{same_name}
use Rattle.ioa_value.proofs.OperatorTyping.{takes_all}
use Rattle.ioa_value.proofs.TypingLemmas.{own_type, alike_own, is_truth, HaveTypes-length, HaveTypes-owns, HaveTypes-get, HaveTypes-set, HaveTypes-append}
use Rattle.ioa_code.specs.declared.instr.Instr.{Instr}
use Rattle.ioa_code.specs.declared.instr.Instr.TheVariants.{Const, Slot, Arg, Store, Jump, JumpIfFalse, Apply, Each, Again, Local}
use Rattle.ioa_code.specs.Machine.{Listing, State, state, End, fault, Move, goes, over, stuck, act, at_place, next, pushed, replaced, stored, decided, branched, answered, applied, each_popped, fetched, move, After, Ends}
use Rattle.ioa_code.proofs.Applied.{applied_is}
use Rattle.ioa_code.proofs.Lists.{on_top-append}
use Rattle.ioa_tree.specs.declared.tree.Infix.{Infix}
use Rattle.ioa_tree.specs.declared.tree.Infix.TheVariants.{Operator, And, Or, Implies}
use Rattle.ioa_tree.specs.Tree.{Expr, number, truth, named, parens, prefix, binary, empty, make, select, Exprs, no_expr, also, Stmt, assign, choose, each, Stmts, stop, seq, Arms, no_arm, arm}
use Rattle.ioa_tree.specs.Meaning as Meaning
use Rattle.ioa_tree.specs.Meaning.{Env, val, then_value, then_all, made, selected, combined, value_of, Outcome, becomes, breaks, nowhere, assigned, then_do, chosen, without, turns, looped, does, picks, eff, with_name, or_else}
use Rattle.ioa_tree.specs.Types.{constant, empty_of}
use Rattle.ioa_tree.specs.WellFormed.{Context, contains, type_in, type_of, types_of_all, infix_type}
use Rattle.ioa_tree.specs.Answers.{Suits}
use Rattle.ioa_tree.proofs.ValTyped.{val_typed, type_of_one, types_of_both, types_of_row}
use Rattle.ioa_emit.specs.Scopes.{Scope, within, Origin, on_stack, slot, formal, parameter, fixed, unknown, origin, item_place}
use Rattle.ioa_emit.specs.Placed.{Stretch, At, Pushes, PushesTruth, Brings, Chooses, Combines, HasExpr, HasExprs, HasStmt, HasStmts, HasArms}
use Rattle.ioa_compile.proofs.Looks.{look, look_at, look_set, look_outside, Paired}
use Rattle.ioa_compile.proofs.Parameters.{passed}
use Rattle.ioa_compile.proofs.Sequences.{list_of, one_less}
use Rattle.ioa_compile.proofs.Standing.{at, stands, stands_at, stands-paired, stands_within, item_look, LiesOn, lies_itself, lies_below, in_turn, Names, names_within}
use Rattle.ioa_compile.proofs.Tuples.{of_make, of_select, place_is, item_is, made_is, selected_is}
use Rattle.ioa_compile.proofs.Typed.{StmtTyped, StmtsTyped, ArmsTyped}

module _ (code : Listing) where
  -- the machine comes from one state to another: whatever end that comes to, this comes to
  pub record Comes (x y : State) : Type 0 where
    pub by : (r : End) (n : ℕ) → Ends code n y r → (k : ℕ) × Ends code k x r

  pub stays : (x : State) → Comes x x
  stays x = record { by = λ r n e. (n, e) }

  pub comes_on : (x y z : State) → Comes x y → Comes y z → Comes x z
  comes_on x y z a b = record { by = λ r n e. let f = b.by r n e in a.by r f.0 f.1 }

  pub step : (x y : State) → move code x ≡ goes y → Comes x y
  step x y e = record {
    by = λ r n h. (suc n, subst (λ m. After m (λ z. Ends code n z r) (λ z. (n ≡ 0) × (r ≡ z))) (sym e) h);
  }

module _ (code : Listing) (s : Scope) (args : List Val) where
  -- with these words, of which so many are taken, which stay as they are: nothing below takes one
  module _ (words : ℕ → ℕ) (taken : ℕ) where
    -- the machine at a place
    abbrev pub on : ℕ → List Val → List Val → State
    on p stack slots = state p stack slots args words taken

    pub moves : (p : ℕ) (stack slots : List Val) (i : Instr) (m : Move) → At code p i → act code i (on p stack slots) ≡ m → move code (on p stack slots) ≡ m
    moves p stack slots i m h e = ap (λ o. fetched code o (on p stack slots)) h ∙ e

    -- the machine ends by the fault
    abbrev pub Breaks : State → Fault → Type 0
    Breaks x f = (k : ℕ) × Ends code k x (fault f taken)

    breaks_on : (x y : State) (f : Fault) → Comes code x y → Breaks y f → Breaks x f
    breaks_on x y f c b = c.by (fault f taken) b.0 b.1

    -- the machine comes from x to q with the answer's value on the stack, or ends by its fault
    abbrev pub Reaches : State → ℕ → List Val → List Val → Answer → Type 0
    Reaches x q stack slots (gives v) = Comes code x (on q (stack ++ v ∷ []) slots)
    Reaches x q stack slots (faults f) = Breaks x f
    Reaches x q stack slots nothing = Unit {0}

    after_comes : (x y : State) (q : ℕ) (stack slots : List Val) (a : Answer) → Comes code x y → Reaches y q stack slots a → Reaches x q stack slots a
    after_comes x y q stack slots (gives v) c r = comes_on code x y _ c r
    after_comes x y q stack slots (faults f) c r = breaks_on x y f c r
    after_comes x y q stack slots nothing c r = tt

    -- a value of this type, and what is done with it
    then_reaches : (types : Table) (x : State) (m q ty : ℕ) (below stack slots : List Val) (a : Answer) (go : Val → Answer) → IsTypedAnswer types ty a → Reaches x m below slots a → ((v : Val) → HasType types v ty → Reaches (on m (below ++ v ∷ []) slots) q stack slots (go v)) → Reaches x q stack slots (then_value a go)
    then_reaches types x m q ty below stack slots (gives v) go t r k =
        after_comes x (on m (below ++ v ∷ []) slots) q stack slots (go v) r (k v t)
    then_reaches types x m q ty below stack slots (faults f) go t r k = r
    then_reaches types x m q ty below stack slots nothing go t r k = tt

    ends_fault : (p : ℕ) (stack slots : List Val) (f : Fault) → move code (on p stack slots) ≡ over (fault f taken) → Ends code 1 (on p stack slots) (fault f taken)
    ends_fault p stack slots f e =
        let P : Move → Type 0 = λ m. After m (λ z. Ends code 0 z (fault f taken)) (λ g. (◌≡◌ {A = ℕ} 0 0) × (fault f taken ≡ g)) in subst P (sym e) (refl, refl)

    answer_reaches : (p : ℕ) (full stack slots : List Val) (a : Answer) → move code (on p full slots) ≡ answered a (on p full slots) stack → Reaches (on p full slots) (p + 1) stack slots a
    answer_reaches p full stack slots (gives v) e = step code _ _ e
    answer_reaches p full stack slots (faults f) e = (1, ends_fault p full slots f e)
    answer_reaches p full stack slots nothing e = tt

    pub push_comes : (p : ℕ) (stack slots : List Val) (v : Val) → Pushes code p v → Comes code (on p stack slots) (on (p + 1) (stack ++ v ∷ []) slots)
    push_comes p stack slots v h =
        step code _ _ (moves p stack slots (Const h.0) _ h.1 (ap (λ o. pushed o (on p stack slots)) h.2))

    read_comes : (p : ℕ) (stack slots : List Val) (i : Instr) (o : Option Val) (v : Val) → At code p i → act code i (on p stack slots) ≡ pushed o (on p stack slots) → o ≡ Some v → Comes code (on p stack slots) (on (p + 1) (stack ++ v ∷ []) slots)
    read_comes p stack slots i o v h e k = step code _ _ (moves p stack slots i _ h (e ∙ ap (λ x. pushed x (on p stack slots)) k))

    brings_comes : (p : ℕ) (base stack slots : List Val) (o : Origin) (v : Val) → LiesOn base stack → at (λ w. w) o base slots s.arguments args ≡ Some v → Brings code s p o → Comes code (on p stack slots) (on (p + 1) (stack ++ v ∷ []) slots)
    brings_comes p base stack slots (on_stack d) v lies e h = read_comes p stack slots (Local d) (slice_get stack d) v h refl (lies.low d v e)
    brings_comes p base stack slots (slot i) v lies e h = read_comes p stack slots (Slot i) (slice_get slots i) v h refl e
    brings_comes p base stack slots (formal i) v lies e h =
        let both : Some h.0 ≡ Some v = sym h.1 ∙ e in
        let same : h.0 ≡ v = cc in
        push_comes p stack slots v (subst (Pushes code p) same h.2)
    brings_comes p base stack slots (parameter i) v lies e h = read_comes p stack slots (Arg i) (slice_get args i) v h refl e
    brings_comes p base stack slots (fixed w) v lies e h = let same : w ≡ v = cc in push_comes p stack slots v (subst (Pushes code p) same h)
    brings_comes p base stack slots unknown v lies e h = absurd h

    brings_reaches : (p : ℕ) (base stack slots : List Val) (o : Option Val) (w : Origin) → LiesOn base stack → o ≡ at (λ v. v) w base slots s.arguments args → Brings code s p w → Reaches (on p stack slots) (p + 1) stack slots (value_of o)
    brings_reaches p base stack slots None w lies e h = tt
    brings_reaches p base stack slots (Some v) w lies e h = brings_comes p base stack slots w v lies (sym e) h

    jump_comes : (p t : ℕ) (stack slots : List Val) → At code p (Jump t) → Comes code (on p stack slots) (on t stack slots)
    jump_comes p t stack slots h = step code _ _ (moves p stack slots (Jump t) _ h refl)

    branch_comes : (p t to : ℕ) (stack slots : List Val) (b : Bool) → At code p (JumpIfFalse t) → decided t (on p (stack ++ plain.truth b ∷ []) slots) stack (plain.truth b) ≡ goes (on to stack slots) → Comes code (on p (stack ++ plain.truth b ∷ []) slots) (on to stack slots)
    branch_comes p t to stack slots b h e =
        let full = stack ++ plain.truth b ∷ [] in
        step code _ _ (moves p full slots (JumpIfFalse t) _ h
        (on_top-append 1 stack (plain.truth b ∷ []) stuck (λ below top. branched t (on p full slots) below top) refl ∙ e))

    true_comes : (p t : ℕ) (stack slots : List Val) → At code p (JumpIfFalse t) → Comes code (on p (stack ++ plain.truth true ∷ []) slots) (on (p + 1) stack slots)
    true_comes p t stack slots h = branch_comes p t (p + 1) stack slots true h refl

    false_comes : (p t : ℕ) (stack slots : List Val) → At code p (JumpIfFalse t) → Comes code (on p (stack ++ plain.truth false ∷ []) slots) (on t stack slots)
    false_comes p t stack slots h = branch_comes p t t stack slots false h refl

    reaches_jump : (x : State) (n q : ℕ) (stack slots : List Val) (a : Answer) → At code n (Jump q) → Reaches x n stack slots a → Reaches x q stack slots a
    reaches_jump x n q stack slots (gives v) h r =
        comes_on code x (on n (stack ++ v ∷ []) slots) _ r (jump_comes n q (stack ++ v ∷ []) slots h)
    reaches_jump x n q stack slots (faults f) h r = r
    reaches_jump x n q stack slots nothing h r = tt

    -- a choice between two answers
    module _ (This Other : Stretch) (p q : ℕ) (stack slots : List Val) (this other : Answer) (first : (m n : ℕ) → This m n → Reaches (on m stack slots) n stack slots this) (second : (m n : ℕ) → Other m n → Reaches (on m stack slots) n stack slots other) (h : Chooses code This Other p q) where
      chooses_reaches : (v : Val) → Reaches (on p (stack ++ v ∷ []) slots) q stack slots (Meaning.decided v this other)
      chooses_reaches (plain.truth true) =
          reaches_jump _ h.0 q stack slots this h.3
          (after_comes _ (on (p + 1) stack slots) h.0 stack slots this (true_comes p (h.0 + 1) stack slots h.1) (first (p + 1) h.0 h.2))
      chooses_reaches (plain.truth false) =
          after_comes _ (on (h.0 + 1) stack slots) q stack slots other (false_comes p (h.0 + 1) stack slots h.1) (second (h.0 + 1) q h.4)
      chooses_reaches (plain.num z) = tt
      chooses_reaches (plain.name ty n) = tt
      chooses_reaches (plain.tuple ty vs) = tt
      chooses_reaches (plain.items ty vs) = tt

    truth_reaches : (b : Bool) (stack slots : List Val) (m n : ℕ) → PushesTruth code b m n → Reaches (on m stack slots) n stack slots (gives (plain.truth b))
    truth_reaches b stack slots m n h =
        subst (λ k. Comes code (on m stack slots) (on k (stack ++ plain.truth b ∷ []) slots)) (sym h.1) (push_comes m stack slots (plain.truth b) h.0)

    -- what a name stands for is where its code finds it, where the items of loops lie on the stack
    abbrev pub Agrees : Table → Env → List Val → List Val → Type 0
    Agrees types env base slots = (x : Name) → or_else (env x) (constant types x) ≡ at (λ v. v) (origin s x) base slots s.arguments args

    module _ (types : Table) (same_types : code.types ≡ types) (own_types : s.types ≡ types) where
      -- an operator that takes operands of these types
      apply_reaches : (p : ℕ) (stack operands slots : List Val) (op : Op) (tys : List ℕ) (ty : ℕ) → op_type types op tys ≡ Some ty → HaveTypes types operands tys → At code p (Apply op) → Reaches (on p (stack ++ operands) slots) (p + 1) stack slots (operate types op operands)
      apply_reaches p stack operands slots op tys ty t e h =
          let takes : length operands ≡ arity code.types op = HaveTypes-length types operands tys e ∙ sym (takes_all types op tys ty t) ∙ ap (λ l. arity l op) (sym same_types) in
          let owns = HaveTypes-owns types operands tys e in
          let is : applied code.types op operands ≡ operate types op operands =
          ap (λ l. applied l op operands) same_types ∙ applied_is types op operands ty (ap (op_type types op) owns.0 ∙ t) in
          let here : Reaches (on p (stack ++ operands) slots) (p + 1) stack slots (applied code.types op operands) =
          answer_reaches p (stack ++ operands) stack slots (applied code.types op operands)
          (moves p (stack ++ operands) slots (Apply op) _ h (on_top-append (arity code.types op) stack operands stuck (λ below top. answered (applied code.types op top) (on p (stack ++ operands) slots) below) takes)) in
          subst (Reaches (on p (stack ++ operands) slots) (p + 1) stack slots) is here

      module _ (Second : Stretch) (p q : ℕ) (base stack slots : List Val) (lies : LiesOn base stack) (x : Val) (answer : Answer) (a b ty : ℕ) (typed : HasType types x a) (answers : IsTypedAnswer types b answer) (second : (m n : ℕ) (under : List Val) → LiesOn base under → Second m n → Reaches (on m under slots) n under slots answer) where
        combines_reaches : (o : Infix) → infix_type types o (a ∷ b ∷ []) ≡ Some ty → Combines code o Second p q → Reaches (on p (stack ++ x ∷ []) slots) q stack slots (combined types o x answer)
        combines_reaches (Operator o) t h =
            let go : Val → Answer = λ y. operate types o (x ∷ y ∷ []) in
            subst (λ k. Reaches (on p (stack ++ x ∷ []) slots) k stack slots (then_value answer go)) (sym h.3)
            (then_reaches types (on p (stack ++ x ∷ []) slots) h.0 (h.0 + 1) b (stack ++ x ∷ []) stack slots answer go answers (second p h.0 (stack ++ x ∷ []) (lies_below base stack (x ∷ []) lies) h.1)
            (λ y k. subst (λ l. Reaches (on h.0 l slots) (h.0 + 1) stack slots (go y)) (sym (append_assoc stack (x ∷ []) (y ∷ []))) (apply_reaches h.0 stack (x ∷ y ∷ []) slots o (a ∷ b ∷ []) ty t (typed, (k, tt)) h.2)))
        combines_reaches And t h =
            chooses_reaches Second (PushesTruth code false) p q stack slots answer (gives (plain.truth false)) (λ m n k. second m n stack lies k) (truth_reaches false stack slots) h x
        combines_reaches Or t h =
            chooses_reaches (PushesTruth code true) Second p q stack slots (gives (plain.truth true)) answer (truth_reaches true stack slots) (λ m n k. second m n stack lies k) h x
        combines_reaches Implies t h =
            chooses_reaches Second (PushesTruth code true) p q stack slots answer (gives (plain.truth true)) (λ m n k. second m n stack lies k) (truth_reaches true stack slots) h x

      -- where each name of a context stands for a value of its type
      module _ (declared : AreTypes types) (c : Context) (own_context : (s.loops ++ s.context) ≡ c) (env : Env) (suits : Suits types c env) (base slots : List Val) (agrees : Agrees types env base slots) where
        answers_typed : (e : Expr) (ty : ℕ) → type_of types types c e ≡ Some ty → IsTypedAnswer types ty (val types e env)
        answers_typed e ty t = val_typed types declared c env e ty suits t

        mutual
          pub expr_runs : (e : Expr) (ty p q : ℕ) (stack : List Val) → LiesOn base stack → type_of types types c e ≡ Some ty → HasExpr code s e p q → Reaches (on p stack slots) q stack slots (val types e env)
          expr_runs (number n) ty p q stack lies t h =
              subst (λ k. Comes code (on p stack slots) (on k (stack ++ plain.num (pos n) ∷ []) slots)) (sym h.1) (push_comes p stack slots (plain.num (pos n)) h.0)
          expr_runs (truth b) ty p q stack lies t h = truth_reaches b stack slots p q h
          expr_runs (named x) ty p q stack lies t h =
              subst (λ k. Reaches (on p stack slots) k stack slots (value_of (or_else (env x) (constant types x)))) (sym h.1) (brings_reaches p base stack slots (or_else (env x) (constant types x)) (origin s x) lies (agrees x) h.0)
          expr_runs (parens e) ty p q stack lies t h = expr_runs e ty p q stack lies t h
          expr_runs (prefix o e) ty p q stack lies t h =
              let operand = type_of_one (type_of types types c e) (op_type types o) ty t in
              let go : Val → Answer = λ x. operate types o (x ∷ []) in
              subst (λ k. Reaches (on p stack slots) k stack slots (then_value (val types e env) go)) (sym h.3)
              (then_reaches types (on p stack slots) h.0 (h.0 + 1) operand.0 stack stack slots (val types e env) go (answers_typed e operand.0 operand.1) (expr_runs e operand.0 p h.0 stack lies operand.1 h.1)
              (λ x k. apply_reaches h.0 stack (x ∷ []) slots o (operand.0 ∷ []) ty operand.2 (k, tt) h.2))
          expr_runs (binary l o r) ty p q stack lies t h =
              let both = types_of_both (type_of types types c l) (type_of types types c r) (infix_type types o) ty t in
              let go : Val → Answer = λ x. combined types o x (val types r env) in
              then_reaches types (on p stack slots) h.0 q both.0 stack stack slots (val types l env) go (answers_typed l both.0 both.2) (expr_runs l both.0 p h.0 stack lies both.2 h.1)
              (λ x typed. combines_reaches (HasExpr code s r) h.0 q base stack slots lies x (val types r env) both.0 both.1 ty typed (answers_typed r both.1 both.3) (λ m n under above k. expr_runs r both.1 m n under above both.3 k) o both.4 h.2)
          expr_runs (empty x) ty p q stack lies t h =
              let there : empty_of types x ≡ Some h.0 = ap (λ l. empty_of l x) (sym own_types) ∙ h.1 in
              subst (λ o. Reaches (on p stack slots) q stack slots (value_of o)) (sym there)
              (subst (λ k. Comes code (on p stack slots) (on k (stack ++ h.0 ∷ []) slots)) (sym h.3) (push_comes p stack slots h.0 h.2))
          expr_runs (make x es) ty p q stack lies t h =
              let parts = of_make types c x es ty t in
              let end = h.2.0 in
              let named : type_named types x ≡ Some h.0 = ap (λ l. type_named l x) (sym own_types) ∙ h.1 in
              let both : Some parts.0 ≡ Some h.0 = sym parts.2 ∙ named in
              let same : parts.0 ≡ h.0 = cc in
              let takes = subst (λ n. op_type types (Make (record { 0 = n })) parts.1 ≡ Some ty) same parts.4 in
              subst (λ k. Reaches (on p stack slots) k stack slots (then_all types es env (made types x))) (sym h.2.3)
              (exprs_run es parts.1 p end (end + 1) stack stack lies (made types x) parts.3 h.2.1
              (λ vs typed. subst (Reaches (on end (stack ++ vs) slots) (end + 1) stack slots) (sym (made_is types x h.0 vs named)) (apply_reaches end stack vs slots (Make (record { 0 = h.0 })) parts.1 ty takes typed h.2.2)))
          expr_runs (select e x) ty p q stack lies t h =
              let parts = of_select types c e x ty t in
              let end = h.2.0 in
              let place : field_place types parts.0 x ≡ Some h.0 = sym (place_is types c s e x parts.0 own_types own_context parts.2) ∙ h.1 in
              let both : Some parts.1 ≡ Some h.0 = sym parts.3 ∙ place in
              let same : parts.1 ≡ h.0 = cc in
              let takes = subst (λ j. op_type types (Field j) (parts.0 ∷ []) ≡ Some ty) same parts.4 in
              subst (λ k. Reaches (on p stack slots) k stack slots (then_value (val types e env) (selected types x))) (sym h.2.3)
              (then_reaches types (on p stack slots) end (end + 1) parts.0 stack stack slots (val types e env) (selected types x) (answers_typed e parts.0 parts.2) (expr_runs e parts.0 p end stack lies parts.2 h.2.1)
              (λ v typed. subst (Reaches (on end (stack ++ v ∷ []) slots) (end + 1) stack slots) (sym (selected_is types x v parts.0 h.0 (own_type types v parts.0 typed) place)) (apply_reaches end stack (v ∷ []) slots (Field h.0) (parts.0 ∷ []) ty takes (typed, tt) h.2.2)))

          -- the machine pushes the values of expressions one after another, above what is under them
          exprs_run : (es : Exprs) (tys : List ℕ) (p m q : ℕ) (under stack : List Val) → LiesOn base under → (go : List Val → Answer) → types_of_all types types c es ≡ Some tys → HasExprs code s es p m → ((vs : List Val) → HaveTypes types vs tys → Reaches (on m (under ++ vs) slots) q stack slots (go vs)) → Reaches (on p under slots) q stack slots (then_all types es env go)
          exprs_run no_expr tys p m q under stack lies go t h k =
              let is : [] ≡ tys = cc in
              subst (λ l. Reaches (on p l slots) q stack slots (go [])) (append-nil under)
              (subst (λ n. Reaches (on n (under ++ []) slots) q stack slots (go [])) h (k [] (subst (HaveTypes types []) is tt)))
          exprs_run (also e es) tys p m q under stack lies go t h k =
              let parts = types_of_row (type_of types types c e) (types_of_all types types c es) tys t in
              let more : Val → Answer = λ v. then_all types es env (λ vs. go (v ∷ vs)) in
              then_reaches types (on p under slots) h.0 q parts.0 under stack slots (val types e env) more (answers_typed e parts.0 parts.2) (expr_runs e parts.0 p h.0 under lies parts.2 h.1)
              (λ v first. exprs_run es parts.1 h.0 m q (under ++ v ∷ []) stack (lies_below base under (v ∷ []) lies) (λ vs. go (v ∷ vs)) parts.3 h.2
              (λ vs rest. subst (λ l. Reaches (on m l slots) q stack slots (go (v ∷ vs))) (sym (append_assoc under (v ∷ []) vs)) (k (v ∷ vs) (subst (HaveTypes types (v ∷ vs)) parts.4 (first, rest)))))

-- what a scope's loops, variables, formals and parameters are
module _ (code : Listing) (s : Scope) (args : List Val) (words : ℕ → ℕ) (taken : ℕ) where
  -- what is known of a scope's typed code: the types of its names, that its values have them, and that no loop has a variable's name
  pub record Knows (types : Table) (c v : Context) (base : List Val) (bs vs fs ps : List ℕ) : Type 0 where
    pub same_types : code.types ≡ types
    pub declared : AreTypes types
    pub has : Names s types c bs vs fs ps
    pub stacked : HaveTypes types base bs
    pub given : HaveTypes types s.arguments fs
    pub values : HaveTypes types args ps
    pub found : (x : Name) (ty i : ℕ) → type_in v x ≡ Some ty → place_from 0 s.variables x ≡ Some i → slice_get vs i ≡ Some ty
    pub others : (x : Name) → type_in v x ≡ None → contains s.variables x ≡ false
    pub apart : (x : Name) (i : ℕ) → place_from 0 s.variables x ≡ Some i → item_place s.loops x ≡ None

  module _ (types : Table) (c v : Context) (base : List Val) (bs vs fs ps : List ℕ) (known : Knows types c v base bs vs fs ps) where
    -- each name stands for its value, and the variables have their types
    pub record Holds (env : Env) (slots : List Val) : Type 0 where
      pub agrees : (x : Name) → env x ≡ stands s base slots s.arguments args x
      pub typed : HaveTypes types slots vs

    slots_long : (env : Env) (slots : List Val) → Holds env slots → length s.variables ≡ length slots
    slots_long env slots h = known.has.variables ∙ sym (HaveTypes-length types slots vs h.typed)

    base_long : length base ≡ 2 * length s.loops
    base_long = HaveTypes-length types base bs known.stacked ∙ known.has.loops

    formals_long : length s.formals ≡ length s.arguments
    formals_long = known.has.formals ∙ sym (HaveTypes-length types s.arguments fs known.given)

    parameters_long : length s.parameters ≡ length args
    parameters_long = known.has.parameters ∙ sym (HaveTypes-length types args ps known.values)

    pub agree : (env : Env) (slots : List Val) → Holds env slots → Agrees code s args words taken types env base slots
    agree env slots h x =
        ap (λ o. or_else o (constant types x)) (h.agrees x)
        ∙ ap (or_else (stands s base slots s.arguments args x)) (itself (constant types x) ∙ ap (λ t. option_map (λ v. v) (constant t x)) (sym known.has.table))
        ∙ stands_at (λ v. v) s base slots s.arguments args x base_long (slots_long env slots h) formals_long parameters_long
      where
        itself : (o : Option Val) → o ≡ option_map (λ v. v) o
        itself (Some v) = refl
        itself None = refl

    pub suits : (env : Env) (slots : List Val) → Holds env slots → Suits types c env
    suits env slots h = record {
      stands = λ x ty t. subst (λ o. Paired types o (env x)) t (both x);
      others = λ x t. subst (λ o. Paired types o (env x)) t (both x);
    }
      where
        both : (x : Name) → Paired types (type_in c x) (env x)
        both x =
            subst (λ o. Paired types o (env x)) (sym (known.has.names x))
            (subst (Paired types (stands s bs vs fs ps x)) (sym (h.agrees x)) (stands-paired types s base slots s.arguments args bs vs fs ps x known.stacked h.typed known.given known.values))

    -- the machine comes to q with the new variables, and the stack as it was, or ends by the fault
    abbrev pub RunsTo : State → ℕ → Outcome → Type 0
    RunsTo x q (becomes env) = (slots : List Val) × Holds env slots × Comes code x (on code s args words taken q base slots)
    RunsTo x q (breaks f) = Breaks code s args words taken x f
    RunsTo x q nowhere = ⊥

    after_runs : (x y : State) (q : ℕ) (o : Outcome) → Comes code x y → RunsTo y q o → RunsTo x q o
    after_runs x y q (becomes env) k r = (r.0, r.1, comes_on code x y _ k r.2)
    after_runs x y q (breaks f) k r = breaks_on code s args words taken x y f k r
    after_runs x y q nowhere k r = absurd r

    then_runs : (x : State) (m q : ℕ) (o : Outcome) (go : Env → Outcome) → RunsTo x m o → ((env : Env) (slots : List Val) → Holds env slots → RunsTo (on code s args words taken m base slots) q (go env)) → RunsTo x q (then_do o go)
    then_runs x m q (becomes env) go r k = after_runs x _ q (go env) r.2 (k env r.0 r.1)
    then_runs x m q (breaks f) go r k = r
    then_runs x m q nowhere go r k = absurd r

    store_comes : (m i : ℕ) (slots : List Val) (w was : Val) → At code m (Store i) → slice_get slots i ≡ Some was → (own was == own w) ≡ true → Comes code (on code s args words taken m (base ++ w ∷ []) slots) (on code s args words taken (m + 1) base (slice_set slots i w))
    store_comes m i slots w was h here-is alike =
        let here = on code s args words taken m (base ++ w ∷ []) slots in
        step code _ _ (moves code s args words taken m (base ++ w ∷ []) slots (Store i) _ h
        (on_top-append 1 base (w ∷ []) stuck (λ below top. stored i here below top) refl
        ∙ ap (replaced i here base w) here-is
        ∙ ap (λ b. cond b (next here base (slice_set slots i w)) stuck) alike))

    -- no loop's item stands for a variable
    no_item : (x : Name) (i : ℕ) → place_from 0 s.variables x ≡ Some i → item_look s.loops base x ≡ None
    no_item x i place = no_place s.loops (known.apart x i place)
      where
        no_place : (ns : Context) → item_place ns x ≡ None → item_look ns base x ≡ None
        no_place [] e = refl
        no_place (n ∷ ns) e = go (bytes_eq n.0 x) e (no_place ns)
          where
            go : (b : Bool) → cond b (Some (2 * length ns + 1)) (item_place ns x) ≡ None → (item_place ns x ≡ None → item_look ns base x ≡ None) → cond b (slice_get base (2 * length ns + 1)) (item_look ns base x) ≡ None
            go true h rest = absurd (cc)
            go false h rest = rest h

    holds_set : (env : Env) (slots : List Val) (x : Name) (i ty : ℕ) (w : Val) → Holds env slots → place_from 0 s.variables x ≡ Some i → slice_get vs i ≡ Some ty → HasType types w ty → Holds (with_name env x w) (slice_set slots i w)
    holds_set env slots x i ty w h place t k =
        let long = slots_long env slots h in
        let n : i ≡ 0 + i = omega arith in
        record {
          agrees = λ y.
              go y (bytes_eq x y) refl
              ∙ sym (ap (λ o. or_else (item_look s.loops base y) (or_else o (or_else (look s.formals s.arguments y) (passed s.parameters args y)))) (look_set 0 s.variables slots x y i w long (place ∙ ap Some n)));
          typed = HaveTypes-set types slots vs i ty w h.typed t k;
        }
      where
        go : (y : Name) (b : Bool) → bytes_eq x y ≡ b → cond b (Some w) (env y) ≡ or_else (item_look s.loops base y) (or_else (cond b (Some w) (look s.variables slots y)) (or_else (look s.formals s.arguments y) (passed s.parameters args y)))
        go y true e =
            let none : item_look s.loops base y ≡ None = ap (item_look s.loops base) (sym (same_name x y e)) ∙ no_item x i place in
            sym (ap (λ o. or_else o (Some w)) none)
        go y false e = h.agrees y

    assigns : (m i ty : ℕ) (slots : List Val) (x : Name) (env : Env) (start : State) (a : Answer) (old : Option Val) (was : Val) → Holds env slots → At code m (Store i) → place_from 0 s.variables x ≡ Some i → slice_get vs i ≡ Some ty → slice_get slots i ≡ Some was → HasType types was ty → old ≡ Some was → IsTypedAnswer types ty a → Reaches code s args words taken start m base slots a → RunsTo start (m + 1) (assigned x env a old)
    assigns m i ty slots x env start (gives w) None was h k place t now kept e typed r = absurd (cc)
    assigns m i ty slots x env start (gives w) (Some old) was h k place t now kept e typed r =
        (slice_set slots i w, holds_set env slots x i ty w h place t typed, comes_on code start (on code s args words taken m (base ++ w ∷ []) slots) _ r (store_comes m i slots w was k now (alike_own types was w ty kept typed)))
    assigns m i ty slots x env start (faults f) old was h k place t now kept e typed r = r
    assigns m i ty slots x env start nothing old was h k place t now kept e typed r = absurd typed

    expr_here : (e : Expr) (ty p q : ℕ) (env : Env) (slots : List Val) → Holds env slots → type_of types types c e ≡ Some ty → HasExpr code s e p q → Reaches code s args words taken (on code s args words taken p base slots) q base slots (val types e env)
    expr_here e ty p q env slots h t k =
        expr_runs code s args words taken types known.same_types known.has.table known.declared c known.has.context env (suits env slots h) base slots (agree env slots h) e ty p q base (lies_itself base) t k

    pub assign_runs : (x : Name) (e : Expr) (p q ty : ℕ) (env : Env) (slots : List Val) → Holds env slots → type_in v x ≡ Some ty → type_of types types c e ≡ Some ty → HasStmt code s (assign x e) p q → RunsTo (on code s args words taken p base slots) q (does types (assign x e) env)
    assign_runs x e p q ty env slots h its t k =
        let m = k.0 in
        let i = k.1 in
        let slot_ty = known.found x ty i its k.4 in
        let now = HaveTypes-get types slots vs i ty h.typed slot_ty in
        let old : env x ≡ Some now.0 =
        h.agrees x
        ∙ ap (λ o. or_else o (or_else (look s.variables slots x) (or_else (look s.formals s.arguments x) (passed s.parameters args x)))) (no_item x i k.4)
        ∙ ap (λ o. or_else o (or_else (look s.formals s.arguments x) (passed s.parameters args x))) (look_at s.variables slots x i now.0 (slots_long env slots h) k.4 now.1) in
        let typed = val_typed types known.declared c env e ty (suits env slots h) t in
        let run = expr_here e ty p m env slots h t k.2 in
        subst (λ n. RunsTo (on code s args words taken p base slots) n (assigned x env (val types e env) (env x))) (sym k.5)
        (assigns m i ty slots x env (on code s args words taken p base slots) (val types e env) (env x) now.0 h k.3 k.4 slot_ty now.1 now.2 old typed run)

    runs_jump : (x : State) (n q : ℕ) (o : Outcome) → At code n (Jump q) → RunsTo x n o → RunsTo x q o
    runs_jump x n q (becomes env) h r = (r.0, r.1, comes_on code x _ _ r.2 (jump_comes code s args words taken n q base r.0 h))
    runs_jump x n q (breaks f) h r = r
    runs_jump x n q nowhere h r = absurd r

    -- a choice between two outcomes
    module _ (This Other : Stretch) (x : State) (p q : ℕ) (slots : List Val) (this other : Outcome) (first : (m n : ℕ) → This m n → RunsTo (on code s args words taken m base slots) n this) (second : (m n : ℕ) → Other m n → RunsTo (on code s args words taken m base slots) n other) (h : Chooses code This Other p q) where
      by_truth : (b : Bool) → RunsTo (on code s args words taken p (base ++ plain.truth b ∷ []) slots) q (chosen (gives (plain.truth b)) this other)
      by_truth true =
          runs_jump _ h.0 q this h.3
          (after_runs _ (on code s args words taken (p + 1) base slots) h.0 this (true_comes code s args words taken p (h.0 + 1) base slots h.1) (first (p + 1) h.0 h.2))
      by_truth false =
          after_runs _ (on code s args words taken (h.0 + 1) base slots) q other (false_comes code s args words taken p (h.0 + 1) base slots h.1) (second (h.0 + 1) q h.4)

      pub chosen_runs : (a : Answer) → IsTypedAnswer types 0 a → Reaches code s args words taken x p base slots a → RunsTo x q (chosen a this other)
      chosen_runs (gives w) typed r =
          let b = is_truth types known.declared w typed in
          after_runs x (on code s args words taken p (base ++ w ∷ []) slots) q (chosen (gives w) this other) r
          (subst (λ z. RunsTo (on code s args words taken p (base ++ z ∷ []) slots) q (chosen (gives z) this other)) (sym b.1) (by_truth b.0))
      chosen_runs (faults f) typed r = r
      chosen_runs nothing typed r = absurd typed

-- ---- loops

-- a name with a place is among the names
no_place_outside : (k : ℕ) (ns : List Name) (x : Name) (i : ℕ) → place_from k ns x ≡ Some i → contains ns x ≡ false → ⊥
no_place_outside k [] x i e h = absurd (cc)
no_place_outside k (n ∷ ns) x i e h = go (bytes_eq n x) e h (no_place_outside (k + 1) ns x i)
  where
    go : (b : Bool) → cond b (Some k) (place_from (k + 1) ns x) ≡ Some i → (b || contains ns x) ≡ false → (place_from (k + 1) ns x ≡ Some i → contains ns x ≡ false → ⊥) → ⊥
    go true e h rest = absurd (cc)
    go false e h rest = rest e h

module _ (code : Listing) (s : Scope) (args : List Val) (words : ℕ → ℕ) (taken : ℕ) (types : Table) (c v : Context) (base : List Val) (bs vs fs ps : List ℕ) (known : Knows code s args words taken types c v base bs vs fs ps) (x : Name) (ty item : ℕ) (fresh : type_in v x ≡ None) where
  -- the scope of the body, and the stack there
  abbrev inner : Scope
  inner = within s x item

  -- what is known of the body
  pub inner_knows : (us : Vals) (w : Val) → HasType types (items ty us) ty → HasType types w item → Knows code inner args words taken types ((x, item) ∷ c) v (in_turn base (items ty us) w) (in_turn bs ty item) vs fs ps
  inner_knows us w list one = record {
    same_types = known.same_types;
    declared = known.declared;
    has = names_within s types c bs vs fs ps x ty item known.has;
    stacked = HaveTypes-append types (base ++ items ty us ∷ []) (w ∷ []) (bs ++ ty ∷ []) (item ∷ []) (HaveTypes-append types base (items ty us ∷ []) bs (ty ∷ []) known.stacked (list, tt)) (one, tt);
    given = known.given;
    values = known.values;
    found = known.found;
    others = known.others;
    apart = λ y i place. go y (bytes_eq x y) refl i place (known.apart y i place);
  }
    where
      go : (y : Name) (b : Bool) → bytes_eq x y ≡ b → (i : ℕ) → place_from 0 s.variables y ≡ Some i → item_place s.loops y ≡ None → cond b (Some (2 * length s.loops + 1)) (item_place s.loops y) ≡ None
      go y true e i place h = absurd (no_place_outside 0 s.variables y i place (ap (λ (z : Name). contains s.variables z) (sym (same_name x y e)) ∙ known.others x fresh))
      go y false e i place h = h

  -- the body's names stand for their values
  module _ (us : Vals) (w : Val) (list : HasType types (items ty us) ty) (one : HasType types w item) where
    abbrev Inside : Env → List Val → Type 0
    Inside env slots = Holds code inner args words taken types ((x, item) ∷ c) v (in_turn base (items ty us) w) (in_turn bs ty item) vs fs ps (inner_knows us w list one) env slots

    abbrev Outside : Env → List Val → Type 0
    Outside env slots = Holds code s args words taken types c v base bs vs fs ps known env slots

    long : length base ≡ 2 * length s.loops
    long = base_long code s args words taken types c v base bs vs fs ps known

    enters : (env : Env) (slots : List Val) → Outside env slots → Inside (with_name env x w) slots
    enters env slots h = record {
      agrees = λ y. ap (cond (bytes_eq x y) (Some w)) (h.agrees y) ∙ sym (stands_within s x item base (items ty us) w slots s.arguments args y long);
      typed = h.typed;
    }

    leaves : (env : Env) (slots : List Val) (after : Env) (left : List Val) → Outside env slots → Inside after left → Outside (without x env after) left
    leaves env slots after left h k = record {
      agrees = λ y. go y (bytes_eq x y) refl (k.agrees y ∙ stands_within s x item base (items ty us) w left s.arguments args y long);
      typed = k.typed;
    }
      where
        -- what a loop's name stood for is no variable's value
        same : (vs ws : List Val) → stands s base vs s.arguments args x ≡ stands s base ws s.arguments args x
        same vs ws =
            let none = known.others x fresh in
            let last = or_else (look s.formals s.arguments x) (passed s.parameters args x) in
            ap (λ o. or_else (item_look s.loops base x) (or_else o last)) (look_outside s.variables vs x none ∙ sym (look_outside s.variables ws x none))

        go : (y : Name) (b : Bool) → bytes_eq x y ≡ b → after y ≡ cond b (Some w) (stands s base left s.arguments args y) → cond b (env y) (after y) ≡ stands s base left s.arguments args y
        go y true e q = subst (λ (z : Name). env z ≡ stands s base left s.arguments args z) (same_name x y e) (h.agrees x ∙ same slots left)
        go y false e q = q

  -- the turns of the loop, where the body comes from its start to its end, or ends by its fault
  module _ (m n : ℕ) (start : At code m (Each (n + 1))) (again : At code n (Again m)) (item-is : item_type types ty ≡ Some item) (body : Env → Outcome) (turn : (us : Vals) (w : Val) (list : HasType types (items ty us) ty) (one : HasType types w item) (env : Env) (slots : List Val) → Inside us w list one env slots → RunsTo code inner args words taken types ((x, item) ∷ c) v (in_turn base (items ty us) w) (in_turn bs ty item) vs fs ps (inner_knows us w list one) (on code inner args words taken (m + 1) (in_turn base (items ty us) w) slots) n (body env)) where
    abbrev here : ℕ → List Val → List Val → State
    here p stack slots = on code s args words taken p stack slots

    ends_comes : (slots : List Val) → Comes code (here m (base ++ items ty none ∷ []) slots) (here (n + 1) base slots)
    ends_comes slots =
        let full = base ++ items ty none ∷ [] in
        step code _ _ (moves code s args words taken m full slots (Each (n + 1)) _ start (on_top-append 1 base (items ty none ∷ []) stuck (λ below top. each_popped (n + 1) (here m full slots) below top) refl))

    starts_comes : (w : Val) (ws : Vals) (slots : List Val) → Comes code (here m (base ++ items ty (more w ws) ∷ []) slots) (here (m + 1) (in_turn base (items ty ws) w) slots)
    starts_comes w ws slots =
        let full = base ++ items ty (more w ws) ∷ [] in
        subst (λ l. Comes code (here m full slots) (here (m + 1) l slots)) (sym (append_assoc base (items ty ws ∷ []) (w ∷ [])))
        (step code _ _ (moves code s args words taken m full slots (Each (n + 1)) _ start (on_top-append 1 base (items ty (more w ws) ∷ []) stuck (λ below top. each_popped (n + 1) (here m full slots) below top) refl)))

    again_comes : (l w : Val) (slots : List Val) → Comes code (here n (in_turn base l w) slots) (here m (base ++ l ∷ []) slots)
    again_comes l w slots =
        let full = in_turn base l w in
        step code _ _ (moves code s args words taken n full slots (Again m) _ again (on_top-append 1 (base ++ l ∷ []) (w ∷ []) stuck (λ below top. at_place m (here n full slots) below slots) refl))

    pub turns_run : (us : Vals) (env : Env) (slots : List Val) → HasType types (items ty us) ty → Holds code s args words taken types c v base bs vs fs ps known env slots → RunsTo code s args words taken types c v base bs vs fs ps known (here m (base ++ items ty us ∷ []) slots) (n + 1) (turns body x us env)
    turns_run none env slots list h = (slots, h, ends_comes slots)
    turns_run (more w ws) env slots list h =
        let parts = one_less types ty item w ws item-is list in
        let first = turn ws w parts.1 parts.0 (with_name env x w) slots (enters ws w parts.1 parts.0 env slots h) in
        go (body (with_name env x w)) first (λ next left holds. turns_run ws (without x env next) left parts.1 holds)
      where
        go : (o : Outcome) → RunsTo code inner args words taken types ((x, item) ∷ c) v (in_turn base (items ty ws) w) (in_turn bs ty item) vs fs ps (inner_knows ws w (one_less types ty item w ws item-is list).1 (one_less types ty item w ws item-is list).0) (on code inner args words taken (m + 1) (in_turn base (items ty ws) w) slots) n o → ((next : Env) (left : List Val) → Holds code s args words taken types c v base bs vs fs ps known (without x env next) left → RunsTo code s args words taken types c v base bs vs fs ps known (here m (base ++ items ty ws ∷ []) left) (n + 1) (turns body x ws (without x env next)))
            → RunsTo code s args words taken types c v base bs vs fs ps known (here m (base ++ items ty (more w ws) ∷ []) slots) (n + 1) (then_do o (λ next. turns body x ws (without x env next)))
        go (becomes next) r rest =
            let parts = one_less types ty item w ws item-is list in
            let came = comes_on code _ _ (here m (base ++ items ty ws ∷ []) r.0) (starts_comes w ws slots) (comes_on code _ _ _ r.2 (again_comes (items ty ws) w r.0)) in
            after_runs code s args words taken types c v base bs vs fs ps known _ _ (n + 1) (turns body x ws (without x env next)) came
            (rest next r.0 (leaves ws w parts.1 parts.0 env slots next r.0 h r.1))
        go (breaks f) r rest = breaks_on code s args words taken _ _ f (starts_comes w ws slots) r
        go nowhere r rest = absurd r

    -- the loop over what the expression gave
    pub looped_runs : (a : Answer) (y : State) (env : Env) (slots : List Val) → IsTypedAnswer types ty a → Holds code s args words taken types c v base bs vs fs ps known env slots → Reaches code s args words taken y m base slots a → RunsTo code s args words taken types c v base bs vs fs ps known y (n + 1) (looped body x env a)
    looped_runs (gives l) y env slots typed h r =
        let is = list_of types known.declared ty item l item-is typed in
        let there = subst (λ z. HasType types z ty) is.1 typed in
        after_runs code s args words taken types c v base bs vs fs ps known y (here m (base ++ l ∷ []) slots) (n + 1) (looped body x env (gives l)) r
        (subst (λ z. RunsTo code s args words taken types c v base bs vs fs ps known (here m (base ++ z ∷ []) slots) (n + 1) (looped body x env (gives z))) (sym is.1) (turns_run is.0 env slots there h))
    looped_runs (faults f) y env slots typed h r = r
    looped_runs nothing y env slots typed h r = absurd typed

-- ---- statements, where the code is typed

module _ (code : Listing) (args : List Val) (words : ℕ → ℕ) (taken : ℕ) (types : Table) (c v : Context) (vs fs ps : List ℕ) where
  -- within a scope's loops
  abbrev KnowsIn : Scope → Context → List Val → List ℕ → Type 0
  KnowsIn s loops base bs = Knows code s args words taken types (loops ++ c) v base bs vs fs ps

  module _ (s : Scope) (loops : Context) (base : List Val) (bs : List ℕ) (known : KnowsIn s loops base bs) where
    abbrev HoldsIn : Env → List Val → Type 0
    HoldsIn env slots = Holds code s args words taken types (loops ++ c) v base bs vs fs ps known env slots

    abbrev RunsIn : ℕ → List Val → ℕ → Outcome → Type 0
    RunsIn p slots q o = RunsTo code s args words taken types (loops ++ c) v base bs vs fs ps known (on code s args words taken p base slots) q o

  mutual
    stmt_runs : (u : Stmt) (s : Scope) (loops : Context) (base : List Val) (bs : List ℕ) (known : KnowsIn s loops base bs) (p q : ℕ) (env : Env) (slots : List Val) → HoldsIn s loops base bs known env slots → StmtTyped types c v loops u → HasStmt code s u p q → RunsIn s loops base bs known p slots q (does types u env)
    stmt_runs (assign x e) s loops base bs known p q env slots h t k =
        assign_runs code s args words taken types (loops ++ c) v base bs vs fs ps known x e p q t.0 env slots h t.1 t.2 k
    stmt_runs (choose arms others) s loops base bs known p q env slots h t k =
        arms_run arms others s loops base bs known p q env slots h t.0 (λ m n l. stmts_run others s loops base bs known m n env slots h t.1 l) k
    stmt_runs (each x e us) s loops base bs known p q env slots h t k =
        let ty = t.0 in
        let item = t.1 in
        let m = k.0 in
        let n = k.1 in
        let both : Some k.2 ≡ Some item = sym k.4 ∙ item_is types (loops ++ c) s e ty known.has.table known.has.context t.2 ∙ t.3 in
        let same : k.2 ≡ item = cc in
        let has = subst (λ o. HasStmts code (within s x o) us (m + 1) n) same k.6 in
        let typed = val_typed types known.declared (loops ++ c) env e ty (suits code s args words taken types (loops ++ c) v base bs vs fs ps known env slots h) t.2 in
        let run = expr_here code s args words taken types (loops ++ c) v base bs vs fs ps known e ty p m env slots h t.2 k.3 in
        subst (λ o. RunsIn s loops base bs known p slots o (looped (eff types us) x env (val types e env))) (sym k.8)
        (looped_runs code s args words taken types (loops ++ c) v base bs vs fs ps known x ty item t.4 m n k.5 k.7 t.3 (eff types us)
        (λ ws w list one inner left holds. stmts_run us (within s x item) ((x, item) ∷ loops) (in_turn base (items ty ws) w) (in_turn bs ty item) (inner_knows code s args words taken types (loops ++ c) v base bs vs fs ps known x ty item t.4 ws w list one) (m + 1) n inner left holds t.6 has)
        (val types e env) (on code s args words taken p base slots) env slots typed h run)

    pub stmts_run : (us : Stmts) (s : Scope) (loops : Context) (base : List Val) (bs : List ℕ) (known : KnowsIn s loops base bs) (p q : ℕ) (env : Env) (slots : List Val) → HoldsIn s loops base bs known env slots → StmtsTyped types c v loops us → HasStmts code s us p q → RunsIn s loops base bs known p slots q (eff types us env)
    stmts_run stop s loops base bs known p q env slots h t k =
        (slots, h, subst (λ n. Comes code (on code s args words taken p base slots) (on code s args words taken n base slots)) (sym k) (stays code (on code s args words taken p base slots)))
    stmts_run (seq u us) s loops base bs known p q env slots h t k =
        then_runs code s args words taken types (loops ++ c) v base bs vs fs ps known (on code s args words taken p base slots) k.0 q (does types u env) (eff types us) (stmt_runs u s loops base bs known p k.0 env slots h t.0 k.1) (λ env2 slots2 h2. stmts_run us s loops base bs known k.0 q env2 slots2 h2 t.1 k.2)

    arms_run : (arms : Arms) (others : Stmts) (s : Scope) (loops : Context) (base : List Val) (bs : List ℕ) (known : KnowsIn s loops base bs) (p q : ℕ) (env : Env) (slots : List Val) → HoldsIn s loops base bs known env slots → ArmsTyped types c v loops arms → ((m n : ℕ) → HasStmts code s others m n → RunsIn s loops base bs known m slots n (eff types others env)) → HasArms code s arms (HasStmts code s others) p q → RunsIn s loops base bs known p slots q (picks types arms env (eff types others env))
    arms_run no_arm others s loops base bs known p q env slots h t f k = f p q k
    arms_run (arm e us rest) others s loops base bs known p q env slots h t f k =
        chosen_runs code s args words taken types (loops ++ c) v base bs vs fs ps known (HasStmts code s us) (HasArms code s rest (HasStmts code s others)) (on code s args words taken p base slots) k.0 q slots (eff types us env) (picks types rest env (eff types others env))
        (λ m n l. stmts_run us s loops base bs known m n env slots h t.1 l)
        (λ m n l. arms_run rest others s loops base bs known m n env slots h t.2 f l)
        k.2
        (val types e env)
        (val_typed types known.declared (loops ++ c) env e 0 (suits code s args words taken types (loops ++ c) v base bs vs fs ps known env slots h) t.0)
        (expr_here code s args words taken types (loops ++ c) v base bs vs fs ps known e 0 p k.0 env slots h t.0 k.1)
