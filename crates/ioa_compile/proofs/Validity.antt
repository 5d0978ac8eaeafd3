-- The code of typed trees is valid.
use Rattle.std.proofs.Common.{◌≡◌, ℕ, suc, ◌+◌, ◌==◌, Bool, true, false, cond, IsTrue, List, [], ◌∷◌, ◌++◌, length, map, Option, Some, None, Ok, pos, refl, sym, ap, ◌∙◌, subst, arith, append_assoc, append-nil, length-append}
use Rattle.std.specs.Prelude.{slice_get}
use Rattle.std.specs.Option.{option_map}
use Rattle.std.proofs.lemmas.Bool.Decides.{nat_tests}
use Rattle.std.proofs.lemmas.Option.{slice_get-map}
use Rattle.ioa_value.specs.declared.operator.Op.{Op}
use Rattle.ioa_value.specs.declared.operator.Op.TheVariants.{Make, Field}
use Rattle.ioa_value.specs.Actions.{Name}
use Rattle.ioa_arithmetic.specs.Arithmetic.{fits}
use Rattle.ioa_value.specs.Operators.{op_type, arity}
use Rattle.ioa_value.specs.Plain as plain
use Rattle.ioa_value.specs.Plain.{Val}
use Rattle.ioa_value.specs.Positions.{Domain, every, single}
use Rattle.ioa_value.specs.Table.{Shape, truths, numbers, names, fields, sequence, shape_at, place_from, type_named}
use Rattle.ioa_value.specs.Typing.{HasType, HaveTypes, own}
use Rattle.ioa_value.proofs.OperatorTyping.{takes_all}
use Rattle.ioa_value.proofs.TypingLemmas.{own_type, HaveTypes-get}
use Rattle.ioa_code.specs.declared.instr.Instr.TheVariants.{Const, Slot, Arg, Store, Any, Pick, Apply, Local}
use Rattle.ioa_code.specs.declared.instr.PartKind.{PartKind}
use Rattle.ioa_code.specs.declared.instr.PartKind.TheVariants.{Pre, Propose, Eff}
use Rattle.ioa_code.specs.Machine.{Listing}
use Rattle.ioa_code.specs.Valid.{Part, Valid, after, way, reads_arguments, writes_slots, takes_words, may_loop}
use Rattle.ioa_code.specs.Picks.{counted, counted_of}
use Rattle.ioa_code.proofs.Lists.{on_top-append}
use Rattle.ioa_tree.specs.declared.tree.Infix.{Infix}
use Rattle.ioa_tree.specs.declared.tree.Infix.TheVariants.{Operator, And, Or, Implies}
use Rattle.ioa_tree.specs.Tree.{Expr, number, truth, named, parens, prefix, binary, empty, make, select, Exprs, no_expr, also, Stmt, assign, choose, each, Stmts, stop, seq, Arms, no_arm, arm, EntryTree, FieldTree, PositionTree, typed, only, ChoiceTree, exactly, any_below, ProposalTree}
use Rattle.ioa_tree.specs.Types.{empty_of}
use Rattle.ioa_tree.specs.Compositions.{Member}
use Rattle.ioa_tree.specs.Domains.{AreDomainsOf}
use Rattle.ioa_tree.specs.Instances.{Instance}
use Rattle.ioa_tree.specs.WellFormed.{Context, type_in, type_of, types_of_all, of_truths, infix_type, held, scope, context_of, variable_fields, is_numbered}
use Rattle.ioa_tree.proofs.ValTyped.{type_of_one, types_of_both, types_of_row, are_truths}
use Rattle.ioa_emit.specs.Scopes.{Scope, within, scope_of, scope_of_proposals, proposal_for, Origin, on_stack, slot, formal, parameter, fixed, unknown, origin}
use Rattle.ioa_emit.specs.Placed.{Stretch, At, Pushes, PushesTruth, Brings, Applies, Chooses, Combines, HasExpr, HasExprs, HasGuard, HasStmt, HasStmts, HasArms, HasChoice, HasProposal, HasProposals}
use Rattle.ioa_compile.specs.Tables.{parameter_types}
use Rattle.ioa_compile.specs.Translated.{IsGuard, IsProposing, IsEffect}
use Rattle.ioa_compile.proofs.Standing.{at, LiesOn, lies_itself, lies_below, in_turn, Names, named_at, names_within}
use Rattle.ioa_compile.proofs.Fine.{Setting, bare_setting, bare, names_of, variable_at}
use Rattle.ioa_compile.proofs.Typed.{GuardTyped, StmtTyped, StmtsTyped, ArmsTyped}
use Rattle.ioa_compile.proofs.Proposed.{ChoiceTyped, ProposalTyped, ProposalsTyped, bare_typed}
use Rattle.ioa_compile.proofs.Tuples.{of_make, of_select, place_is, item_is}
use Rattle.ioa_emit.proofs.Fixed.{own_empty}
use Rattle.ioa_compile.proofs.Blocks.{Round, Block, none, one, join, fork, turn, high_enough, valid}

-- the types of what names stand for, in a part for variables vs and values ps, within loops that have these on the stack
pub record Reads (part : Part) (s : Scope) (c : Context) (bs vs fs ps : List ℕ) : Type 0 where
  pub slots : part.slots ≡ vs
  pub args : part.args ≡ ps
  pub reads : (i ty : ℕ) → slice_get ps i ≡ Some ty → reads_arguments part.kind ≡ true
  pub turns : (d ty : ℕ) → slice_get bs d ≡ Some ty → may_loop part.kind ≡ true
  pub given : HaveTypes part.code.types s.arguments fs
  pub has : Names s part.code.types c bs vs fs ps

-- what stands round code within the scope's loops, which hold these on the stack
abbrev pub round_of : Scope → List ℕ → Round
round_of s bs = record { fast = length bs; deep = length s.loops }

module _ (part : Part) (s : Scope) (c : Context) (bs vs fs ps : List ℕ) (h : Reads part s c bs vs fs ps) where
  abbrev round : Round
  round = round_of s bs

  push_block : (p : ℕ) (v : Val) (ty : ℕ) (ts : List ℕ) → own v ≡ ty → Pushes part.code p v → Block part round p (p + 1) ts (ts ++ ty ∷ [])
  push_block p v ty ts e k =
      let ty-is : slice_get (map own part.code.consts) k.0 ≡ Some ty = slice_get-map own part.code.consts k.0 ∙ ap (option_map own) k.2 ∙ ap Some e in
      one part round p (Const k.0) ts (ts ++ ty ∷ []) k.1 refl (λ f us. tt) (rw ty-is refl)

  given_own : (i : ℕ) (v : Val) (ty : ℕ) → slice_get s.arguments i ≡ Some v → slice_get fs i ≡ Some ty → own v ≡ ty
  given_own i v ty e k =
      let at_i = HaveTypes-get part.code.types s.arguments fs i ty h.given k in
      let both : Some at_i.0 ≡ Some v = sym at_i.1 ∙ e in
      let same : at_i.0 ≡ v = cc in
      own_type part.code.types v ty (subst (λ x. HasType part.code.types x ty) same at_i.2)

  brings_block : (p : ℕ) (o : Origin) (ty : ℕ) (ts : List ℕ) → LiesOn bs ts → at own o bs vs fs ps ≡ Some ty → Brings part.code s p o → Block part round p (p + 1) ts (ts ++ ty ∷ [])
  brings_block p (on_stack d) ty ts on e k =
      let there : slice_get ts d ≡ Some ty = on.low d ty e in
      one part round p (Local d) ts (ts ++ ty ∷ []) k refl (λ f us. tt) (rw (h.turns d ty e) (rw there refl))
  brings_block p (slot i) ty ts on e k =
      let there : slice_get part.slots i ≡ Some ty = ap (λ l. slice_get l i) h.slots ∙ e in one part round p (Slot i) ts (ts ++ ty ∷ []) k refl (λ f us. tt) (rw there refl)
  brings_block p (formal i) ty ts on e k =
      push_block p k.0 ty ts (given_own i k.0 ty k.1 e) k.2
  brings_block p (parameter i) ty ts on e k =
      let there : slice_get part.args i ≡ Some ty = ap (λ l. slice_get l i) h.args ∙ e in
      one part round p (Arg i) ts (ts ++ ty ∷ []) k refl (λ f us. tt) (rw (h.reads i ty e) (rw there refl))
  brings_block p (fixed v) ty ts on e k = let is : own v ≡ ty = cc in push_block p v ty ts is k
  brings_block p unknown ty ts on e k = absurd k

  at_end : (p q r : ℕ) (ts us : List ℕ) → q ≡ r → Block part round p r ts us → Block part round p q ts us
  at_end p q r ts us e b = subst (λ n. Block part round p n ts us) (sym e) b

  number_is : (n ty : ℕ) (b : Bool) → cond b (Some 1) None ≡ Some ty → 1 ≡ ty
  number_is n ty true t = cc
  number_is n ty false t = absurd (cc)

  -- an operator on the types on top
  applied : (p : ℕ) (o : Op) (operands : List ℕ) (ty : ℕ) (ts : List ℕ) → LiesOn bs ts → op_type part.code.types o operands ≡ Some ty → after part round.fast p (Apply o) (ts ++ operands) ≡ Ok (way (p + 1) (ts ++ ty ∷ []) ∷ [])
  applied p o operands ty ts on gives =
      rw (on_top-append (arity part.code.types o) ts operands _ _ (sym (takes_all part.code.types o operands ty gives))) (rw (high_enough part round ts on.high) (rw gives refl))

  apply_block : (p : ℕ) (o : Op) (operands : List ℕ) (ty : ℕ) (ts : List ℕ) → LiesOn bs ts → op_type part.code.types o operands ≡ Some ty → At part.code p (Apply o) → Block part round p (p + 1) (ts ++ operands) (ts ++ ty ∷ [])
  apply_block p o operands ty ts on gives k =
      one part round p (Apply o) (ts ++ operands) (ts ++ ty ∷ []) k refl (λ f us. tt) (applied p o operands ty ts on gives)

  -- an operator after its operands' code
  applies_block : (Operands : Stretch) (p q : ℕ) (o : Op) (operands : List ℕ) (ty : ℕ) (ts : List ℕ) → LiesOn bs ts → ((m n : ℕ) → Operands m n → Block part round m n ts (ts ++ operands)) → op_type part.code.types o operands ≡ Some ty → Applies part.code o Operands p q → Block part round p q ts (ts ++ ty ∷ [])
  applies_block Operands p q o operands ty ts on f gives k =
      at_end p q (k.0 + 1) ts _ k.3 (join part round p k.0 (k.0 + 1) ts (ts ++ operands) _ (f p k.0 k.1) (apply_block k.0 o operands ty ts on gives k.2))

  truth_block : (b : Bool) (p q : ℕ) (ts : List ℕ) → PushesTruth part.code b p q → Block part round p q ts (ts ++ 0 ∷ [])
  truth_block b p q ts k = at_end p q (p + 1) ts _ k.1 (push_block p (plain.truth b) 0 ts refl k.0)

  chooses_block : (This Other : Stretch) (p q : ℕ) (ts us : List ℕ) → LiesOn bs ts → ((m n : ℕ) → This m n → Block part round m n ts us) → ((m n : ℕ) → Other m n → Block part round m n ts us) → Chooses part.code This Other p q → Block part round p q (ts ++ 0 ∷ []) us
  chooses_block This Other p q ts us on f g k =
      fork part round p k.0 q ts us on.high k.1 (f (p + 1) k.0 k.2) k.3 (g (k.0 + 1) q k.4)

  -- an operator on truth values brings one
  truths_block : (p q a b ty : ℕ) (ts : List ℕ) → of_truths (a ∷ b ∷ []) ≡ Some ty → Block part round p q (ts ++ 0 ∷ []) (ts ++ 0 ∷ []) → Block part round p q (ts ++ a ∷ []) (ts ++ ty ∷ [])
  truths_block p q a b ty ts t k =
      let zero = are_truths a b ty t in
      subst (λ x. Block part round p q (ts ++ x ∷ []) (ts ++ ty ∷ [])) (sym zero.0) (subst (λ x. Block part round p q (ts ++ 0 ∷ []) (ts ++ x ∷ [])) (sym zero.2) k)

  module _ (Second : Stretch) (a b ty p q : ℕ) (ts : List ℕ) (on : LiesOn bs ts) (second : (m n : ℕ) (us : List ℕ) → LiesOn bs us → Second m n → Block part round m n us (us ++ b ∷ [])) where
    second_truth : of_truths (a ∷ b ∷ []) ≡ Some ty → (m n : ℕ) → Second m n → Block part round m n ts (ts ++ 0 ∷ [])
    second_truth t m n h = subst (λ x. Block part round m n ts (ts ++ x ∷ [])) (are_truths a b ty t).1 (second m n ts on h)

    combines_block : (o : Infix) → infix_type part.code.types o (a ∷ b ∷ []) ≡ Some ty → Combines part.code o Second p q → Block part round p q (ts ++ a ∷ []) (ts ++ ty ∷ [])
    combines_block (Operator o) t k =
        let top : (ts ++ a ∷ []) ++ b ∷ [] ≡ ts ++ (a ∷ b ∷ []) = append_assoc ts (a ∷ []) (b ∷ []) in
        let last = apply_block k.0 o (a ∷ b ∷ []) ty ts on t k.2 in
        at_end p q (k.0 + 1) (ts ++ a ∷ []) _ k.3 (join part round p k.0 (k.0 + 1) _ _ _ (second p k.0 (ts ++ a ∷ []) (lies_below bs ts (a ∷ []) on) k.1) (subst (λ l. Block part round k.0 (k.0 + 1) l (ts ++ ty ∷ [])) (sym top) last))
    combines_block And t k =
        truths_block p q a b ty ts t (chooses_block Second (PushesTruth part.code false) p q ts _ on (second_truth t) (λ m n h. truth_block false m n ts h) k)
    combines_block Or t k =
        truths_block p q a b ty ts t (chooses_block (PushesTruth part.code true) Second p q ts _ on (λ m n h. truth_block true m n ts h) (second_truth t) k)
    combines_block Implies t k =
        truths_block p q a b ty ts t (chooses_block Second (PushesTruth part.code true) p q ts _ on (second_truth t) (λ m n h. truth_block true m n ts h) k)

  mutual
    pub expr_block : (x : Expr) (ty p q : ℕ) (ts : List ℕ) → LiesOn bs ts → type_of part.code.types part.code.types c x ≡ Some ty → HasExpr part.code s x p q → Block part round p q ts (ts ++ ty ∷ [])
    expr_block (number n) ty p q ts on t k =
        at_end p q (p + 1) ts _ k.1 (push_block p (plain.num (pos n)) ty ts (number_is n ty (fits (pos n)) t) k.0)
    expr_block (truth b) ty p q ts on t k =
        let is : 0 ≡ ty = cc in
        at_end p q (p + 1) ts _ k.1 (push_block p (plain.truth b) ty ts is k.0)
    expr_block (named x) ty p q ts on t k =
        at_end p q (p + 1) ts _ k.1 (brings_block p (origin s x) ty ts on (sym (named_at s part.code.types c bs vs fs ps h.has x) ∙ t) k.0)
    expr_block (parens y) ty p q ts on t k = expr_block y ty p q ts on t k
    expr_block (prefix o y) ty p q ts on t k =
        let operand = type_of_one (type_of part.code.types part.code.types c y) (op_type part.code.types o) ty t in
        applies_block (HasExpr part.code s y) p q o (operand.0 ∷ []) ty ts on (λ m n l. expr_block y operand.0 m n ts on operand.1 l) operand.2 k
    expr_block (binary l o r) ty p q ts on t k =
        let both = types_of_both (type_of part.code.types part.code.types c l) (type_of part.code.types part.code.types c r) (infix_type part.code.types o) ty t in
        let a = both.0 in
        let b = both.1 in
        join part round p k.0 q ts (ts ++ a ∷ []) _ (expr_block l a p k.0 ts on both.2 k.1) (combines_block (HasExpr part.code s r) a b ty k.0 q ts on (λ m n us over h. expr_block r b m n us over both.3 h) o both.4 k.2)
    expr_block (empty x) ty p q ts on t k =
        let there : empty_of part.code.types x ≡ Some k.0 = ap (λ l. empty_of l x) (sym h.has.table) ∙ k.1 in
        at_end p q (p + 1) ts _ k.3 (push_block p k.0 ty ts (own_empty part.code.types x k.0 ty there t) k.2)
    expr_block (make x es) ty p q ts on t k =
        let parts = of_make part.code.types c x es ty t in
        let both : Some parts.0 ≡ Some k.0 = sym parts.2 ∙ ap (λ l. type_named l x) (sym h.has.table) ∙ k.1 in
        let same : parts.0 ≡ k.0 = cc in
        let gives = subst (λ n. op_type part.code.types (Make (record { 0 = n })) parts.1 ≡ Some ty) same parts.4 in
        applies_block (HasExprs part.code s es) p q (Make (record { 0 = k.0 })) parts.1 ty ts on (λ m n l. exprs_block es parts.1 m n ts on parts.3 l) gives k.2
    expr_block (select y x) ty p q ts on t k =
        let parts = of_select part.code.types c y x ty t in
        let both : Some parts.1 ≡ Some k.0 = sym parts.3 ∙ sym (place_is part.code.types c s y x parts.0 h.has.table h.has.context parts.2) ∙ k.1 in
        let same : parts.1 ≡ k.0 = cc in
        let gives = subst (λ j. op_type part.code.types (Field j) (parts.0 ∷ []) ≡ Some ty) same parts.4 in
        applies_block (HasExpr part.code s y) p q (Field k.0) (parts.0 ∷ []) ty ts on (λ m n l. expr_block y parts.0 m n ts on parts.2 l) gives k.2

    exprs_block : (es : Exprs) (tys : List ℕ) (p q : ℕ) (ts : List ℕ) → LiesOn bs ts → types_of_all part.code.types part.code.types c es ≡ Some tys → HasExprs part.code s es p q → Block part round p q ts (ts ++ tys)
    exprs_block no_expr tys p q ts on t k =
        let is : [] ≡ tys = cc in
        let same : ts ≡ ts ++ tys = sym (append-nil ts) ∙ ap (λ l. ts ++ l) is in
        at_end p q p ts _ k (subst (Block part round p p ts) same (none part round p ts))
    exprs_block (also y ys) tys p q ts on t k =
        let parts = types_of_row (type_of part.code.types part.code.types c y) (types_of_all part.code.types part.code.types c ys) tys t in
        let a = parts.0 in
        let same : (ts ++ a ∷ []) ++ parts.1 ≡ ts ++ tys = append_assoc ts (a ∷ []) parts.1 ∙ ap (λ l. ts ++ l) parts.4 in
        subst (Block part round p q ts) same (join part round p k.0 q ts (ts ++ a ∷ []) _ (expr_block y a p k.0 ts on parts.2 k.1) (exprs_block ys parts.1 k.0 q (ts ++ a ∷ []) (lies_below bs ts (a ∷ []) on) parts.3 k.2))

  pub guard_block : (g : Option Expr) (p q : ℕ) → LiesOn bs [] → GuardTyped part.code.types c g → HasGuard part.code s g p q → Block part round p q [] (0 ∷ [])
  guard_block None p q on t k = truth_block true p q [] k
  guard_block (Some x) p q on t k = expr_block x 0 p q [] on t k

  -- a type with a number of values is one that they are picked of
  counts : (ty : ℕ) (o : Option Shape) → IsTrue (is_numbered o) → counted_of ty o ≡ Some ty
  counts ty (Some truths) h = refl
  counts ty (Some (names ns)) h = refl
  counts ty (Some numbers) h = absurd (cc)
  counts ty (Some (fields fs)) h = absurd (cc)
  counts ty (Some (sequence most of)) h = absurd (cc)
  counts ty None h = absurd (cc)

  module _ (takes : takes_words part.kind ≡ true) where
    choice_block : (k : ChoiceTree) (ty p q : ℕ) (ts : List ℕ) → LiesOn bs ts → ChoiceTyped part.code.types c k ty → HasChoice part.code s k p q → Block part round p q ts (ts ++ ty ∷ [])
    choice_block (exactly e) ty p q ts on t k = expr_block e ty p q ts on t k
    choice_block (any_below e) ty p q ts on t k =
        let finds : after part round.fast k.0 Any (ts ++ 1 ∷ []) ≡ Ok (way (k.0 + 1) (ts ++ 1 ∷ []) ∷ []) = rw takes (rw (on_top-append 1 ts (1 ∷ []) _ _ refl) (rw (high_enough part round ts on.high) refl)) in
        subst (λ n. Block part round p q ts (ts ++ n ∷ [])) (sym t.0)
        (at_end p q (k.0 + 1) ts _ k.3 (join part round p k.0 (k.0 + 1) ts (ts ++ 1 ∷ []) _ (expr_block e 1 p k.0 ts on t.1 k.1) (one part round k.0 Any (ts ++ 1 ∷ []) (ts ++ 1 ∷ []) k.2 refl (λ f us. tt) finds)))

    proposal_block : (f : FieldTree) (o : Option ProposalTree) (ty p q : ℕ) (ts : List ℕ) → LiesOn bs ts → type_named part.code.types f.ty ≡ Some ty → ProposalTyped part.code.types c o ty → HasProposal part.code s f o p q → Block part round p q ts (ts ++ ty ∷ [])
    proposal_block f (Some r) ty p q ts on is t k = choice_block r.choice ty p q ts on t k
    proposal_block f None ty p q ts on is t k =
        let both : Some ty ≡ Some k.0 = sym is ∙ ap (λ l. type_named l f.ty) (sym h.has.table) ∙ k.1 in
        let same : ty ≡ k.0 = cc in
        let here = subst (λ n. At part.code p (Pick (record { 0 = n }))) (sym same) k.2 in
        let there : counted part.code.types ty ≡ Some ty = counts ty (shape_at part.code.types ty) t in
        let finds : after part round.fast p (Pick (record { 0 = ty })) ts ≡ Ok (way (p + 1) (ts ++ ty ∷ []) ∷ []) = rw takes (rw there refl) in
        at_end p q (p + 1) ts _ k.3 (one part round p (Pick (record { 0 = ty })) ts (ts ++ ty ∷ []) here refl (λ f us. tt) finds)

    pub proposals_block : (i : Instance) → part.code.types ≡ i.types → (rs : List ProposalTree) (qs : List PositionTree) (ds : List Domain) (p q : ℕ) (ts : List ℕ) → LiesOn bs ts → AreDomainsOf i qs ds → ProposalsTyped part.code.types c rs qs → HasProposals part.code s rs qs p q → Block part round p q ts (ts ++ parameter_types ds)
    proposals_block i over rs [] [] p q ts on ms t k = at_end p q p ts _ k (subst (Block part round p p ts) (sym (append-nil ts)) (none part round p ts))
    proposals_block i over rs [] (d ∷ ds) p q ts on ms t k = absurd ms
    proposals_block i over rs (x ∷ qs) [] p q ts on ms t k = absurd ms
    proposals_block i over rs (only x ∷ qs) (every ty ∷ ds) p q ts on ms t k = absurd ms.0
    proposals_block i over rs (only x ∷ qs) (single v ∷ ds) p q ts on ms t k = proposals_block i over rs qs ds p q ts on ms.1 t k
    proposals_block i over rs (typed f ∷ qs) (single v ∷ ds) p q ts on ms t k = absurd ms.0
    proposals_block i over rs (typed f ∷ qs) (every ty ∷ ds) p q ts on ms t k =
        let both : Some t.0.0 ≡ Some ty = sym t.0.1 ∙ ap (λ l. type_named l f.ty) over ∙ ms.0 in
        let same : t.0.0 ≡ ty = cc in
        let first = subst (λ n. Block part round p k.0 ts (ts ++ n ∷ [])) same (proposal_block f (proposal_for rs f) t.0.0 p k.0 ts on t.0.1 t.0.2 k.1) in
        subst (Block part round p q ts) (append_assoc ts (ty ∷ []) (parameter_types ds))
        (join part round p k.0 q ts (ts ++ ty ∷ []) _ first (proposals_block i over rs qs ds k.0 q (ts ++ ty ∷ []) (lies_below bs ts (ty ∷ []) on) ms.1 t.1 k.2))

-- ---- statements, which leave the stack as it is

-- the variables of a scope have the types that are declared for them
abbrev pub Finds : Scope → Context → List ℕ → Type 0
Finds s v vs = (x : Name) (ty i : ℕ) → type_in v x ≡ Some ty → place_from 0 s.variables x ≡ Some i → slice_get vs i ≡ Some ty

module _ (part : Part) (c v : Context) (vs fs ps : List ℕ) (writes : writes_slots part.kind ≡ true) (turns : may_loop part.kind ≡ true) where
  -- within a loop
  reads_within : (s : Scope) (d : Context) (bs : List ℕ) (x : Name) (ty item : ℕ) → Reads part s d bs vs fs ps → Reads part (within s x item) ((x, item) ∷ d) (in_turn bs ty item) vs fs ps
  reads_within s d bs x ty item h = record {
    slots = h.slots;
    args = h.args;
    reads = h.reads;
    turns = λ k t e. turns;
    given = h.given;
    has = names_within s part.code.types d bs vs fs ps x ty item h.has;
  }

  -- what stands round the body of a loop
  body_round : (s : Scope) (bs : List ℕ) (x : Name) (ty item m n : ℕ) → Block part (round_of (within s x item) (in_turn bs ty item)) m n (in_turn bs ty item) (in_turn bs ty item) → Block part (record { fast = suc (length (bs ++ ty ∷ [])); deep = suc (length s.loops) }) m n (in_turn bs ty item) (in_turn bs ty item)
  body_round s bs x ty item m n b =
      let fast : length (in_turn bs ty item) ≡ suc (length (bs ++ ty ∷ [])) = omega (arith, length-append (bs ++ ty ∷ []) (item ∷ [])) in
      let deep : length ((x, item) ∷ s.loops) ≡ suc (length s.loops) = omega arith in
      subst (λ k. Block part (record { fast = k; deep = suc (length s.loops) }) m n (in_turn bs ty item) (in_turn bs ty item)) fast
      (subst (λ k. Block part (record { fast = length (in_turn bs ty item); deep = k }) m n (in_turn bs ty item) (in_turn bs ty item)) deep b)

  mutual
    stmt_block : (t : Stmt) (s : Scope) (loops : Context) (bs : List ℕ) → Reads part s (loops ++ c) bs vs fs ps → length s.loops ≡ length loops → Finds s v vs → (p q : ℕ) → StmtTyped part.code.types c v loops t → HasStmt part.code s t p q → Block part (round_of s bs) p q bs bs
    stmt_block (assign x e) s loops bs h deep found p q t k =
        let ty = t.0 in
        let m = k.0 in
        let i = k.1 in
        let r = round_of s bs in
        let slot_ty : slice_get part.slots i ≡ Some ty = ap (λ l. slice_get l i) h.slots ∙ found x ty i t.1 k.4 in
        let same : (ty == ty) ≡ true = grind (arith, nat_tests) in
        let finds : after part r.fast m (Store i) (bs ++ ty ∷ []) ≡ Ok (way (m + 1) bs ∷ []) = rw slot_ty (rw writes (rw (on_top-append 1 bs (ty ∷ []) _ _ refl) (rw (high_enough part r bs (lies_itself bs).high) (rw same refl)))) in
        at_end part s (loops ++ c) bs vs fs ps h p q (m + 1) bs bs k.5 (join part r p m (m + 1) bs _ bs (expr_block part s (loops ++ c) bs vs fs ps h e ty p m bs (lies_itself bs) t.2 k.2) (one part r m (Store i) (bs ++ ty ∷ []) bs k.3 refl (λ f us. tt) finds))
    stmt_block (choose arms others) s loops bs h deep found p q t k =
        arms_block arms others s loops bs h deep found (λ m n l. stmts_block others s loops bs h deep found m n t.1 l) p q t.0 k
    stmt_block (each x e ss) s loops bs h deep found p q t k =
        let ty = t.0 in
        let item = t.1 in
        let m = k.0 in
        let n = k.1 in
        let r = round_of s bs in
        let both : Some k.2 ≡ Some item = sym k.4 ∙ item_is part.code.types (loops ++ c) s e ty h.has.table h.has.context t.2 ∙ t.3 in
        let same : k.2 ≡ item = cc in
        let has = subst (λ o. HasStmts part.code (within s x o) ss (m + 1) n) same k.6 in
        let few = t.5 in
        let body = stmts_block ss (within s x item) ((x, item) ∷ loops) (in_turn bs ty item) (reads_within s (loops ++ c) bs x ty item h) (omega (arith, deep)) found (m + 1) n t.6 has in
        at_end part s (loops ++ c) bs vs fs ps h p q (n + 1) bs bs k.8
        (join part r p m (n + 1) bs (bs ++ ty ∷ []) bs (expr_block part s (loops ++ c) bs vs fs ps h e ty p m bs (lies_itself bs) t.2 k.3)
        (turn part r m n bs ty item (lies_itself bs).high (omega (arith, deep, few)) turns t.3 k.5 (body_round s bs x ty item (m + 1) n body) k.7))

    pub stmts_block : (ss : Stmts) (s : Scope) (loops : Context) (bs : List ℕ) → Reads part s (loops ++ c) bs vs fs ps → length s.loops ≡ length loops → Finds s v vs → (p q : ℕ) → StmtsTyped part.code.types c v loops ss → HasStmts part.code s ss p q → Block part (round_of s bs) p q bs bs
    stmts_block stop s loops bs h deep found p q t k = at_end part s (loops ++ c) bs vs fs ps h p q p bs bs k (none part (round_of s bs) p bs)
    stmts_block (seq u us) s loops bs h deep found p q t k =
        join part (round_of s bs) p k.0 q bs bs bs (stmt_block u s loops bs h deep found p k.0 t.0 k.1) (stmts_block us s loops bs h deep found k.0 q t.1 k.2)

    arms_block : (arms : Arms) (others : Stmts) (s : Scope) (loops : Context) (bs : List ℕ) → Reads part s (loops ++ c) bs vs fs ps → length s.loops ≡ length loops → Finds s v vs → ((m n : ℕ) → HasStmts part.code s others m n → Block part (round_of s bs) m n bs bs) → (p q : ℕ) → ArmsTyped part.code.types c v loops arms → HasArms part.code s arms (HasStmts part.code s others) p q → Block part (round_of s bs) p q bs bs
    arms_block no_arm others s loops bs h deep found f p q t k = f p q k
    arms_block (arm e ss more) others s loops bs h deep found f p q t k =
        join part (round_of s bs) p k.0 q bs (bs ++ 0 ∷ []) bs (expr_block part s (loops ++ c) bs vs fs ps h e 0 p k.0 bs (lies_itself bs) t.0 k.1)
        (chooses_block part s (loops ++ c) bs vs fs ps h (HasStmts part.code s ss) (HasArms part.code s more (HasStmts part.code s others)) k.0 q bs bs (lies_itself bs) (λ m n l. stmts_block ss s loops bs h deep found m n t.1 l) (λ m n l. arms_block more others s loops bs h deep found f m n t.2 l) k.2)

module _ (m : Member) (e : EntryTree) (vs ps : List ℕ) (h : Setting m e vs ps) (code : Listing) where
  pub found_slot : (x : Name) (ty i : ℕ) → type_in (context_of m.instance.types (variable_fields m.instance.automaton)) x ≡ Some ty → place_from 0 (scope_of m e).variables x ≡ Some i → slice_get vs i ≡ Some ty
  found_slot x ty i t k =
      let at_x = variable_at m e vs ps h x ty t in
      let both : Some at_x.0 ≡ Some i = sym at_x.1 ∙ k in
      let same : at_x.0 ≡ i = cc in
      subst (λ n. slice_get vs n ≡ Some ty) same at_x.2

  module _ (over : code.types ≡ m.instance.types) where
    reads : (kind : PartKind) (result : List ℕ) → reads_arguments kind ≡ true → Reads (record { code = code; kind = kind; slots = vs; args = ps; result = result }) (scope_of m e) (scope m.instance.types m.instance.types h.globals m.instance.automaton e) [] vs h.types ps
    reads kind result r = record { slots = refl; args = refl; reads = λ i ty e. r; turns = λ d ty e. absurd (cc); given = subst (λ t. HaveTypes t m.instance.arguments h.types) (sym over) h.given; has = subst (λ t. Names (scope_of m e) t (scope m.instance.types m.instance.types h.globals m.instance.automaton e) [] vs h.types ps) (sym over) (names_of m e vs ps h) }

    pub guard_valid : (g : Option Expr) → GuardTyped m.instance.types (scope m.instance.types m.instance.types h.globals m.instance.automaton e) g → IsGuard code (scope_of m e) g → Valid (record { code = code; kind = Pre; slots = vs; args = ps; result = 0 ∷ [] })
    guard_valid g t k =
        let part : Part = record { code = code; kind = Pre; slots = vs; args = ps; result = 0 ∷ [] } in
        let c = scope m.instance.types m.instance.types h.globals m.instance.automaton e in
        valid part (guard_block part (scope_of m e) c [] vs h.types ps (reads Pre (0 ∷ []) refl) g 0 (length code.instrs) (lies_itself []) (subst (λ l. GuardTyped l c g) (sym over) t) k.has)

    pub effect_valid : (ss : Stmts) → StmtsTyped m.instance.types (scope m.instance.types m.instance.types h.globals m.instance.automaton e) (context_of m.instance.types (variable_fields m.instance.automaton)) [] ss → IsEffect code (scope_of m e) ss → Valid (record { code = code; kind = Eff; slots = vs; args = ps; result = [] })
    effect_valid ss t k =
        let part : Part = record { code = code; kind = Eff; slots = vs; args = ps; result = [] } in
        let c = scope m.instance.types m.instance.types h.globals m.instance.automaton e in
        let v = context_of m.instance.types (variable_fields m.instance.automaton) in
        valid part (stmts_block part c v vs h.types ps refl refl ss (scope_of m e) [] [] (reads Eff [] refl) refl found_slot 0 (length code.instrs) (subst (λ l. StmtsTyped l c v [] ss) (sym over) t) k.has)

-- the code of proposals, over an entry without positions
module _ (m : Member) (e : EntryTree) (vs ps : List ℕ) (h : Setting m e vs ps) (code : Listing) (over : code.types ≡ m.instance.types) where
  pub proposals_valid : (rs : List ProposalTree) (qs : List PositionTree) (ds : List Domain) → AreDomainsOf m.instance qs ds → ProposalsTyped m.instance.types (held m.instance.types m.instance.types h.globals m.instance.automaton) rs qs → IsProposing code (scope_of_proposals m) rs qs → Valid (record { code = code; kind = Propose; slots = vs; args = []; result = parameter_types ds })
  proposals_valid rs qs ds ms t k =
      let part : Part = record { code = code; kind = Propose; slots = vs; args = []; result = parameter_types ds } in
      let s = scope_of_proposals m in
      let b = bare_setting m e vs ps h in
      let c = scope m.instance.types m.instance.types h.globals m.instance.automaton bare in
      let reading : Reads part s c [] vs h.types [] = record {
        slots = refl;
        args = refl;
        reads = λ i ty e. absurd (cc);
        turns = λ d ty e. absurd (cc);
        given = subst (λ t. HaveTypes t m.instance.arguments h.types) (sym over) h.given;
        has = subst (λ t. Names s t c [] vs h.types []) (sym over) (names_of m bare vs [] b);
      } in
      let each = subst (λ l. ProposalsTyped l c rs qs) (sym over) (bare_typed m e vs ps h rs qs t) in
      valid part (proposals_block part s c [] vs h.types [] reading refl m.instance over rs qs ds 0 (length code.instrs) [] (lies_itself []) ms each k.has)
