-- What the steps of the compiler add up to.
use Rattle.std.proofs.Common.{◌≡◌, ℕ, ◌+◌, Bool, true, false, List, [], ◌∷◌, ◌++◌, length, Option, Some, None, IsSome, IfNone, refl, sym, ap, ◌∙◌, subst, arith, length-append}
use Rattle.std.specs.Prelude.{slice_get}
use Rattle.ioa_tree.specs.WellFormed.{nodes, exprs_nodes, stmts_nodes, arms_nodes}
use Rattle.std.specs.Option.{option_map_or}
use Rattle.ioa_value.specs.Plain as plain
use Rattle.ioa_value.specs.Plain.{Val, plain}
use Rattle.ioa_value.specs.Actions.{Name}
use Rattle.ioa_value.specs.declared.operator.Op.{Op}
use Rattle.ioa_value.specs.declared.operator.Op.TheVariants.{Make, Field}
use Rattle.ioa_value.specs.Table.{place_from, type_named}
use Rattle.ioa_value.specs.Typing.{HasType, OwnTypes, own}
use Rattle.ioa_value.proofs.ItemLemmas.{get_append, get_last}
use Rattle.ioa_value.proofs.TypingLemmas.{OwnTypes-push}
use Rattle.ioa_code.specs.declared.instr.Instr.TheVariants.{Const, Slot, Arg, Store, Jump, JumpIfFalse, Any, Pick, Apply, Each, Again, Local}
use Rattle.ioa_code.specs.Machine.{Listing}
use Rattle.ioa_tree.specs.declared.tree.Infix.{Infix}
use Rattle.ioa_tree.specs.declared.tree.Infix.TheVariants.{Operator, And, Or, Implies}
use Rattle.ioa_tree.specs.Tree.{Expr, number, truth, named, parens, prefix, binary, empty, make, select, Exprs, no_expr, also, Stmt, assign, choose, each, Stmts, stop, seq, Arms, no_arm, arm, FieldTree, PositionTree, typed, only, ChoiceTree, exactly, any_below, ProposalTree}
use Rattle.ioa_emit.specs.Scopes.{Scope, within, Origin, on_stack, slot, formal, parameter, fixed, unknown, origin, IsOrigin, item_place, item_of, parameter_from, place_of, proposal_for, AreKnownProposals}
use Rattle.ioa_tree.specs.Types.{constant, empty_of}
use Rattle.ioa_emit.specs.Placed.{Stretch, At, Pushes, PushesTruth, Brings, Applies, Chooses, Combines, HasExpr, HasExprs, HasGuard, HasStmt, HasStmts, HasArms, HasChoice, HasProposal, HasProposals}
use Rattle.ioa_emit.specs.Emitting.{KeepsCode, Adds, AddsInstr, AddsConst, AddsExpr, AddsExprs, AddsCombined, AddsTrueSide, AddsFalseSide, AddsStmt, AddsStmts, AddsChoice, AddsProposal, AddsProposals, proposals_nodes}
use Rattle.ioa_emit.specs.Extents.{extent, stmts_extent, arms_extent, proposals_extent}
use Rattle.ioa_emit.proofs.Lengths.{expr_long, stmts_long, arms_long}

pub none_from : {X : Type 0} (o : Option X) → ((x : X) → o ≡ Some x → ⊥) → o ≡ None
none_from None h = refl
none_from (Some x) h = absurd (h x refl)

-- so what is said where there is none holds
pub missing_from : {X : Type 0} (o : Option X) (P : Type 0) → ((x : X) → o ≡ Some x → ⊥) → IfNone o P → P
missing_from None P has h = h
missing_from (Some x) P has h = absurd (has x refl)

pub KeepsCode-self : (a : Listing) → KeepsCode a a
KeepsCode-self a = record { instr = λ p i e. e; const = λ k v e. e; types = refl; typed = λ h. h }

pub KeepsCode-trans : (a b c : Listing) → KeepsCode a b → KeepsCode b c → KeepsCode a c
KeepsCode-trans a b c h k = record {
  instr = λ p i e. k.instr p i (h.instr p i e);
  const = λ n v e. k.const n v (h.const n v e);
  types = k.types ∙ h.types;
  typed = λ t. k.typed (h.typed t);
}

-- one constant more, and the instruction that pushes it
pub adds_const : (c d : Listing) (v : Val) (k : ℕ) → k ≡ length c.consts → d.types ≡ c.types → d.instrs ≡ c.instrs ++ Const k ∷ [] → d.consts ≡ c.consts ++ v ∷ [] → HasType c.types v (own v) → AddsConst c d v
adds_const c d v k k-is t-is i-is c-is ty = record {
  keeps = record {
    instr = λ p j e. subst (λ l. slice_get l p ≡ Some j) (sym i-is) (get_append c.instrs (Const k ∷ []) p j e);
    const = λ n w e. subst (λ l. slice_get l n ≡ Some w) (sym c-is) (get_append c.consts (v ∷ []) n w e);
    types = t-is;
    typed = λ h. subst (λ t. OwnTypes t d.consts) (sym t-is) (subst (OwnTypes c.types) (sym c-is) (OwnTypes-push c.types c.consts v h ty));
  };
  has = (
    (
      k,
      subst (λ l. slice_get l (length c.instrs) ≡ Some (Const k)) (sym i-is) (get_last c.instrs (Const k)),
      subst (λ n. slice_get d.consts n ≡ Some v) (sym k-is) (subst (λ l. slice_get l (length c.consts) ≡ Some v) (sym c-is) (get_last c.consts v)),
    ),
    ap length i-is ∙ length-append c.instrs (Const k ∷ []),
  );
  few = omega (arith, ap length c-is, length-append c.consts (v ∷ []));
}

pub origin_item : (s : Scope) (x : Name) (d : ℕ) → item_place s.loops x ≡ Some d → origin s x ≡ on_stack d
origin_item s x d a = rw a refl

pub origin_formal : (s : Scope) (x : Name) (i : ℕ) → item_place s.loops x ≡ None → place_from 0 s.variables x ≡ None → place_from 0 s.formals x ≡ Some i → origin s x ≡ formal i
origin_formal s x i a e f =
    let third : Origin = option_map_or parameter (parameter_from 0 s.parameters x) (option_map_or fixed (constant s.types x) unknown) in
    let second : Option ℕ → Origin = λ o. option_map_or formal o third in
    let first : Option ℕ → Origin = λ o. option_map_or slot o (second (place_from 0 s.formals x)) in
    ap (λ o. option_map_or on_stack o (first (place_from 0 s.variables x))) a ∙ ap first e ∙ ap second f

pub origin_slot : (s : Scope) (x : Name) (i : ℕ) → item_place s.loops x ≡ None → place_from 0 s.variables x ≡ Some i → origin s x ≡ slot i
origin_slot s x i a e = rw a (rw e refl)

pub origin_parameter : (s : Scope) (x : Name) (i : ℕ) → item_place s.loops x ≡ None → place_from 0 s.variables x ≡ None → place_from 0 s.formals x ≡ None → parameter_from 0 s.parameters x ≡ Some i → origin s x ≡ parameter i
origin_parameter s x i a e f g = rw a (rw e (rw f (rw g refl)))

-- a name that has no place is an enumeration's
pub known_constant : (s : Scope) (x : Name) → item_place s.loops x ≡ None → place_from 0 s.variables x ≡ None → place_from 0 s.formals x ≡ None → parameter_from 0 s.parameters x ≡ None → IsOrigin (origin s x) → IsSome (constant s.types x)
known_constant s x a e f g h =
    let last : Origin = option_map_or fixed (constant s.types x) unknown in
    let is : origin s x ≡ last = rw a (rw e (rw f (rw g refl))) in
    go (constant s.types x) (subst IsOrigin is h)
  where
    go : (o : Option Val) → IsOrigin (option_map_or fixed o unknown) → IsSome o
    go (Some v) k = refl
    go None k = absurd k

pub origin_fixed : (s : Scope) (x : Name) (v : Val) → item_place s.loops x ≡ None → place_from 0 s.variables x ≡ None → place_from 0 s.formals x ≡ None → parameter_from 0 s.parameters x ≡ None → constant s.types x ≡ Some v → origin s x ≡ fixed v
origin_fixed s x v a e f g h = rw a (rw e (rw f (rw g (rw h refl))))

-- an instruction that brings the name's value
pub adds_item : (c d : Listing) (s : Scope) (x : Name) (i : ℕ) → origin s x ≡ on_stack i → AddsInstr c d (Local i) → AddsExpr c d s (named x)
adds_item c d s x i e h =
    record { keeps = h.keeps; has = (subst (Brings d s (length c.instrs)) (sym e) h.has.0, h.has.1); few = omega (arith, h.few) }

pub adds_slot : (c d : Listing) (s : Scope) (x : Name) (i : ℕ) → origin s x ≡ slot i → AddsInstr c d (Slot i) → AddsExpr c d s (named x)
adds_slot c d s x i e h =
    record { keeps = h.keeps; has = (subst (Brings d s (length c.instrs)) (sym e) h.has.0, h.has.1); few = omega (arith, h.few) }

pub adds_argument : (c d : Listing) (s : Scope) (x : Name) (i : ℕ) → origin s x ≡ parameter i → AddsInstr c d (Arg i) → AddsExpr c d s (named x)
adds_argument c d s x i e h =
    record { keeps = h.keeps; has = (subst (Brings d s (length c.instrs)) (sym e) h.has.0, h.has.1); few = omega (arith, h.few) }

pub adds_named : (c d : Listing) (s : Scope) (x : Name) (i : ℕ) (v : Val) → origin s x ≡ formal i → slice_get s.arguments i ≡ Some v → AddsConst c d v → AddsExpr c d s (named x)
adds_named c d s x i v e f h = record {
  keeps = h.keeps;
  has = (subst (Brings d s (length c.instrs)) (sym e) (v, f, h.has.0), h.has.1);
  few = h.few;
}

pub adds_fixed : (c d : Listing) (s : Scope) (x : Name) (v : Val) → origin s x ≡ fixed v → AddsConst c d v → AddsExpr c d s (named x)
adds_fixed c d s x v e h =
    record { keeps = h.keeps; has = (subst (Brings d s (length c.instrs)) (sym e) h.has.0, h.has.1); few = h.few }

pub adds_empty : (c d : Listing) (s : Scope) (x : Name) (v : Val) → empty_of s.types x ≡ Some v → AddsConst c d v → AddsExpr c d s (empty x)
adds_empty c d s x v e h = record { keeps = h.keeps; has = (v, e, h.has.0, h.has.1); few = h.few }

-- one stretch's code goes on standing where another listing has more
abbrev pub IsKept : (Listing → Stretch) → Type 0
IsKept Has = (c d : Listing) → KeepsCode c d → (p q : ℕ) → Has c p q → Has d p q

pub Pushes-keeps : (c d : Listing) → KeepsCode c d → (p : ℕ) (v : Val) → Pushes c p v → Pushes d p v
Pushes-keeps c d k p v h = (h.0, k.instr p _ h.1, k.const h.0 v h.2)

pub truth_kept : (b : Bool) → IsKept (λ code p q. PushesTruth code b p q)
truth_kept b c d k p q h = (Pushes-keeps c d k p _ h.0, h.1)

module _ (c d : Listing) (k : KeepsCode c d) where
  Brings-keeps : (s : Scope) (p : ℕ) (o : Origin) → Brings c s p o → Brings d s p o
  Brings-keeps s p (on_stack i) h = k.instr p _ h
  Brings-keeps s p (slot i) h = k.instr p _ h
  Brings-keeps s p (formal i) h = (h.0, h.1, Pushes-keeps c d k p h.0 h.2)
  Brings-keeps s p (parameter i) h = k.instr p _ h
  Brings-keeps s p (fixed v) h = Pushes-keeps c d k p v h
  Brings-keeps s p unknown h = absurd h

  Applies-keeps : (o : Op) (A B : Stretch) → ((p q : ℕ) → A p q → B p q) → (p q : ℕ) → Applies c o A p q → Applies d o B p q
  Applies-keeps o A B f p q h = (h.0, f p h.0 h.1, k.instr h.0 _ h.2, h.3)

  Chooses-keeps : (A B X Y : Stretch) → ((p q : ℕ) → A p q → X p q) → ((p q : ℕ) → B p q → Y p q) → (p q : ℕ) → Chooses c A B p q → Chooses d X Y p q
  Chooses-keeps A B X Y f g p q h = (h.0, k.instr p _ h.1, f (p + 1) h.0 h.2, k.instr h.0 _ h.3, g (h.0 + 1) q h.4)

  Combines-keeps : (o : Infix) (A B : Stretch) → ((p q : ℕ) → A p q → B p q) → (p q : ℕ) → Combines c o A p q → Combines d o B p q
  Combines-keeps (Operator o) A B f p q h = Applies-keeps o A B f p q h
  Combines-keeps And A B f p q h =
      Chooses-keeps A (PushesTruth c false) B (PushesTruth d false) f (truth_kept false c d k) p q h
  Combines-keeps Or A B f p q h =
      Chooses-keeps (PushesTruth c true) A (PushesTruth d true) B (truth_kept true c d k) f p q h
  Combines-keeps Implies A B f p q h =
      Chooses-keeps A (PushesTruth c true) B (PushesTruth d true) f (truth_kept true c d k) p q h

  -- code that stands goes on standing
  mutual
    pub HasExpr-keeps : (s : Scope) (e : Expr) (p q : ℕ) → HasExpr c s e p q → HasExpr d s e p q
    HasExpr-keeps s (number n) p q h = (Pushes-keeps c d k p _ h.0, h.1)
    HasExpr-keeps s (truth b) p q h = truth_kept b c d k p q h
    HasExpr-keeps s (named x) p q h = (Brings-keeps s p (origin s x) h.0, h.1)
    HasExpr-keeps s (parens e) p q h = HasExpr-keeps s e p q h
    HasExpr-keeps s (prefix o e) p q h =
        Applies-keeps o (HasExpr c s e) (HasExpr d s e) (HasExpr-keeps s e) p q h
    HasExpr-keeps s (binary l o r) p q h =
        (h.0, HasExpr-keeps s l p h.0 h.1, Combines-keeps o (HasExpr c s r) (HasExpr d s r) (HasExpr-keeps s r) h.0 q h.2)
    HasExpr-keeps s (empty x) p q h = (h.0, h.1, Pushes-keeps c d k p h.0 h.2, h.3)
    HasExpr-keeps s (make x es) p q h =
        (h.0, h.1, Applies-keeps (Make (record { 0 = h.0 })) (HasExprs c s es) (HasExprs d s es) (HasExprs-keeps s es) p q h.2)
    HasExpr-keeps s (select e x) p q h =
        (h.0, h.1, Applies-keeps (Field h.0) (HasExpr c s e) (HasExpr d s e) (HasExpr-keeps s e) p q h.2)

    pub HasExprs-keeps : (s : Scope) (es : Exprs) (p q : ℕ) → HasExprs c s es p q → HasExprs d s es p q
    HasExprs-keeps s no_expr p q h = h
    HasExprs-keeps s (also e es) p q h = (h.0, HasExpr-keeps s e p h.0 h.1, HasExprs-keeps s es h.0 q h.2)

  pub HasGuard-keeps : (s : Scope) (e : Option Expr) (p q : ℕ) → HasGuard c s e p q → HasGuard d s e p q
  HasGuard-keeps s None p q h = truth_kept true c d k p q h
  HasGuard-keeps s (Some e) p q h = HasExpr-keeps s e p q h

  mutual
    pub HasStmt-keeps : (s : Scope) (t : Stmt) (p q : ℕ) → HasStmt c s t p q → HasStmt d s t p q
    HasStmt-keeps s (assign x e) p q h = (h.0, h.1, HasExpr-keeps s e p h.0 h.2, k.instr h.0 _ h.3, h.4, h.5)
    HasStmt-keeps s (choose arms others) p q h = HasArms-keeps s arms others (HasStmts-keeps s others) p q h
    HasStmt-keeps s (each x e ss) p q h =
        (h.0, h.1, h.2, HasExpr-keeps s e p h.0 h.3, h.4, k.instr h.0 _ h.5, HasStmts-keeps (within s x h.2) ss (h.0 + 1) h.1 h.6, k.instr h.1 _ h.7, h.8)

    pub HasStmts-keeps : (s : Scope) (ts : Stmts) (p q : ℕ) → HasStmts c s ts p q → HasStmts d s ts p q
    HasStmts-keeps s stop p q h = h
    HasStmts-keeps s (seq t ts) p q h = (h.0, HasStmt-keeps s t p h.0 h.1, HasStmts-keeps s ts h.0 q h.2)

    HasArms-keeps : (s : Scope) (arms : Arms) (others : Stmts) → ((p q : ℕ) → HasStmts c s others p q → HasStmts d s others p q) → (p q : ℕ) → HasArms c s arms (HasStmts c s others) p q → HasArms d s arms (HasStmts d s others) p q
    HasArms-keeps s no_arm others f p q h = f p q h
    HasArms-keeps s (arm e ts more) others f p q h =
        (h.0, HasExpr-keeps s e p h.0 h.1, Chooses-keeps (HasStmts c s ts) (HasArms c s more (HasStmts c s others)) (HasStmts d s ts) (HasArms d s more (HasStmts d s others)) (HasStmts-keeps s ts) (HasArms-keeps s more others f) h.0 q h.2)

  HasChoice-keeps : (s : Scope) (x : ChoiceTree) (p q : ℕ) → HasChoice c s x p q → HasChoice d s x p q
  HasChoice-keeps s (exactly e) p q h = HasExpr-keeps s e p q h
  HasChoice-keeps s (any_below e) p q h = (h.0, HasExpr-keeps s e p h.0 h.1, k.instr h.0 _ h.2, h.3)

  HasProposal-keeps : (s : Scope) (f : FieldTree) (r : Option ProposalTree) (p q : ℕ) → HasProposal c s f r p q → HasProposal d s f r p q
  HasProposal-keeps s f (Some r) p q h = HasChoice-keeps s r.choice p q h
  HasProposal-keeps s f None p q h = (h.0, h.1, k.instr p _ h.2, h.3)

  pub HasProposals-keeps : (s : Scope) (rs : List ProposalTree) (ps : List PositionTree) (p q : ℕ) → HasProposals c s rs ps p q → HasProposals d s rs ps p q
  HasProposals-keeps s rs [] p q h = h
  HasProposals-keeps s rs (typed f ∷ ps) p q h = (h.0, HasProposal-keeps s f (proposal_for rs f) p h.0 h.1, HasProposals-keeps s rs ps h.0 q h.2)
  HasProposals-keeps s rs (only x ∷ ps) p q h = HasProposals-keeps s rs ps p q h

pub expr_kept : (s : Scope) (e : Expr) → IsKept (λ code p q. HasExpr code s e p q)
expr_kept s e c d k p q h = HasExpr-keeps c d k s e p q h

pub exprs_kept : (s : Scope) (es : Exprs) → IsKept (λ code p q. HasExprs code s es p q)
exprs_kept s es c d k p q h = HasExprs-keeps c d k s es p q h

pub stmts_kept : (s : Scope) (ts : Stmts) → IsKept (λ code p q. HasStmts code s ts p q)
stmts_kept s ts c d k p q h = HasStmts-keeps c d k s ts p q h

-- an operator after its last operand
pub adds_applied : (c0 c1 c2 : Listing) (Operands : Listing → Stretch) (n : ℕ) (o : Op) → IsKept Operands → Adds c0 c1 n Operands → AddsInstr c1 c2 (Apply o) → Adds c0 c2 (n + 1) (λ code p q. Applies code o (Operands code) p q)
adds_applied c0 c1 c2 Operands n o kept x y = record {
  keeps = KeepsCode-trans c0 c1 c2 x.keeps y.keeps;
  has = (length c1.instrs, kept c1 c2 y.keeps (length c0.instrs) (length c1.instrs) x.has, y.has.0, y.has.1);
  few = omega (arith, x.few, y.few);
}

pub adds_prefix : (c0 c1 c2 : Listing) (s : Scope) (e : Expr) (o : Op) → AddsExpr c0 c1 s e → AddsInstr c1 c2 (Apply o) → AddsExpr c0 c2 s (prefix o e)
adds_prefix c0 c1 c2 s e o x y =
    let a = adds_applied c0 c1 c2 (λ code p q. HasExpr code s e p q) (nodes e) o (expr_kept s e) x y in
    record { keeps = a.keeps; has = a.has; few = a.few }

pub adds_operator : (c0 c1 c2 : Listing) (s : Scope) (e : Expr) (o : Op) → AddsExpr c0 c1 s e → AddsInstr c1 c2 (Apply o) → AddsCombined c0 c2 s (Operator o) e
adds_operator c0 c1 c2 s e o x y =
    let a = adds_applied c0 c1 c2 (λ code p q. HasExpr code s e p q) (nodes e) o (expr_kept s e) x y in
    record { keeps = a.keeps; has = a.has; few = a.few }

pub adds_make : (c0 c1 c2 : Listing) (s : Scope) (x : Name) (es : Exprs) (ty : ℕ) → type_named s.types x ≡ Some ty → AddsExprs c0 c1 s es → AddsInstr c1 c2 (Apply (Make (record { 0 = ty }))) → AddsExpr c0 c2 s (make x es)
adds_make c0 c1 c2 s x es ty is y z =
    let a = adds_applied c0 c1 c2 (λ code p q. HasExprs code s es p q) (exprs_nodes es) (Make (record { 0 = ty })) (exprs_kept s es) y z in
    record { keeps = a.keeps; has = (ty, is, a.has); few = a.few }

pub adds_select : (c0 c1 c2 : Listing) (s : Scope) (e : Expr) (x : Name) (j : ℕ) → place_of s e x ≡ Some j → AddsExpr c0 c1 s e → AddsInstr c1 c2 (Apply (Field j)) → AddsExpr c0 c2 s (select e x)
adds_select c0 c1 c2 s e x j is y z =
    let a = adds_applied c0 c1 c2 (λ code p q. HasExpr code s e p q) (nodes e) (Field j) (expr_kept s e) y z in
    record { keeps = a.keeps; has = (j, is, a.has); few = a.few }

pub adds_no_expr : (c : Listing) (s : Scope) → AddsExprs c c s no_expr
adds_no_expr c s = record { keeps = KeepsCode-self c; has = refl; few = omega arith }

pub adds_also : (c0 c1 c2 : Listing) (s : Scope) (e : Expr) (es : Exprs) → AddsExpr c0 c1 s e → AddsExprs c1 c2 s es → AddsExprs c0 c2 s (also e es)
adds_also c0 c1 c2 s e es y z = record {
  keeps = KeepsCode-trans c0 c1 c2 y.keeps z.keeps;
  has = (length c1.instrs, HasExpr-keeps c1 c2 z.keeps s e _ _ y.has, z.has);
  few = omega (arith, y.few, z.few);
}

pub adds_binary : (c0 c1 c2 : Listing) (s : Scope) (l r : Expr) (o : Infix) → AddsExpr c0 c1 s l → AddsCombined c1 c2 s o r → AddsExpr c0 c2 s (binary l o r)
adds_binary c0 c1 c2 s l r o x y = record {
  keeps = KeepsCode-trans c0 c1 c2 x.keeps y.keeps;
  has = (length c1.instrs, HasExpr-keeps c1 c2 y.keeps s l _ _ x.has, y.has);
  few = omega (arith, x.few, y.few);
}

-- two stretches, with the jumps that choose between them
pub adds_choice : (c0 c1 c2 c3 c4 : Listing) (This Other : Listing → Stretch) (a b t u : ℕ) → IsKept This → AddsInstr c0 c1 (JumpIfFalse t) → Adds c1 c2 a This → AddsInstr c2 c3 (Jump u) → Adds c3 c4 b Other → t ≡ length c2.instrs + 1 → u ≡ length c4.instrs → Adds c0 c4 (a + b) (λ code p q. Chooses code (This code) (Other code) p q)
adds_choice c0 c1 c2 c3 c4 This Other a b t u kept w x y z t-is u-is =
    let k24 = KeepsCode-trans c2 c3 c4 y.keeps z.keeps in
    let k14 = KeepsCode-trans c1 c2 c4 x.keeps k24 in
    let p = length c0.instrs in
    let n = length c2.instrs in
    let q = length c4.instrs in
    let first : At c4 p (JumpIfFalse (n + 1)) =
    subst (λ m. At c4 p (JumpIfFalse m)) t-is (k14.instr p (JumpIfFalse t) w.has.0) in
    let second : At c4 n (Jump q) = subst (λ m. At c4 n (Jump m)) u-is (z.keeps.instr n (Jump u) y.has.0) in
    record {
      keeps = KeepsCode-trans c0 c1 c4 w.keeps k14;
      has = (n, first, subst (λ m. This c4 m n) w.has.1 (kept c2 c4 k24 (length c1.instrs) n x.has), second, subst (λ m. Other c4 m q) y.has.1 z.has);
      few = omega (arith, w.few, x.few, y.few, z.few);
    }

pub adds_true_side : (c0 c1 c2 c3 c4 : Listing) (s : Scope) (e : Expr) (b : Bool) (t u : ℕ) → AddsInstr c0 c1 (JumpIfFalse t) → AddsExpr c1 c2 s e → AddsInstr c2 c3 (Jump u) → AddsConst c3 c4 (plain.truth b) → t ≡ length c0.instrs + extent e + 2 → u ≡ t + 1 → AddsTrueSide c0 c4 s e b
adds_true_side c0 c1 c2 c3 c4 s e b t u w x y z t-is u-is =
    let long = expr_long c2 s e (length c1.instrs) (length c2.instrs) x.has in
    adds_choice c0 c1 c2 c3 c4 (λ code p q. HasExpr code s e p q) (λ code p q. PushesTruth code b p q) (nodes e) 1 t u (expr_kept s e) w x y z (omega (arith, w.has.1, long)) (omega (arith, w.has.1, long, y.has.1, z.has.1))

pub adds_false_side : (c0 c1 c2 c3 c4 : Listing) (s : Scope) (e : Expr) (t u : ℕ) → AddsInstr c0 c1 (JumpIfFalse t) → AddsConst c1 c2 (plain.truth true) → AddsInstr c2 c3 (Jump u) → AddsExpr c3 c4 s e → t ≡ length c0.instrs + 3 → u ≡ t + extent e → AddsFalseSide c0 c4 s e
adds_false_side c0 c1 c2 c3 c4 s e t u w x y z t-is u-is =
    let long = expr_long c4 s e (length c3.instrs) (length c4.instrs) z.has in
    let a = adds_choice c0 c1 c2 c3 c4 (λ code p q. PushesTruth code true p q) (λ code p q. HasExpr code s e p q) 1 (nodes e) t u (truth_kept true) w x y z (omega (arith, w.has.1, x.has.1)) (omega (arith, w.has.1, x.has.1, y.has.1, long)) in
    record { keeps = a.keeps; has = a.has; few = omega (arith, a.few) }

pub adds_assign : (c0 c1 c2 : Listing) (s : Scope) (x : Name) (e : Expr) (i : ℕ) → place_from 0 s.variables x ≡ Some i → AddsExpr c0 c1 s e → AddsInstr c1 c2 (Store i) → AddsStmt c0 c2 s (assign x e)
adds_assign c0 c1 c2 s x e i at y z = record {
  keeps = KeepsCode-trans c0 c1 c2 y.keeps z.keeps;
  has = (length c1.instrs, i, HasExpr-keeps c1 c2 z.keeps s e _ _ y.has, z.has.0, at, z.has.1);
  few = omega (arith, y.few, z.few);
}

-- a loop counts as a node
pub adds_each : (c0 c1 c2 c3 c4 : Listing) (s : Scope) (x : Name) (e : Expr) (ss : Stmts) (ty past start : ℕ) → item_of s e ≡ Some ty → AddsExpr c0 c1 s e → AddsInstr c1 c2 (Each past) → AddsStmts c2 c3 (within s x ty) ss → AddsInstr c3 c4 (Again start) → start ≡ length c1.instrs → past ≡ start + stmts_extent ss + 2 → AddsStmt c0 c4 s (each x e ss)
adds_each c0 c1 c2 c3 c4 s x e ss ty past start items v w y z start-is past-is =
    let k24 = KeepsCode-trans c2 c3 c4 y.keeps z.keeps in
    let k14 = KeepsCode-trans c1 c2 c4 w.keeps k24 in
    let m = length c1.instrs in
    let n = length c3.instrs in
    let long = stmts_long c3 (within s x ty) ss (length c2.instrs) n y.has in
    let ends : past ≡ n + 1 = omega (arith, start-is, past-is, w.has.1, long) in
    record {
      keeps = KeepsCode-trans c0 c1 c4 v.keeps k14;
      has = (
        m,
        n,
        ty,
        HasExpr-keeps c1 c4 k14 s e _ _ v.has,
        items,
        subst (λ i. At c4 m (Each i)) ends (k24.instr m (Each past) w.has.0),
        subst (λ i. HasStmts c4 (within s x ty) ss i n) w.has.1 (HasStmts-keeps c3 c4 z.keeps (within s x ty) ss (length c2.instrs) n y.has),
        subst (λ i. At c4 n (Again i)) start-is z.has.0,
        z.has.1,
      );
      few = omega (arith, v.few, w.few, y.few, z.few);
    }

pub adds_none : (c : Listing) (s : Scope) → AddsStmts c c s stop
adds_none c s = record { keeps = KeepsCode-self c; has = refl; few = omega arith }

pub adds_first : (c0 c1 c2 : Listing) (s : Scope) (t : Stmt) (ts : Stmts) → AddsStmt c0 c1 s t → AddsStmts c1 c2 s ts → AddsStmts c0 c2 s (seq t ts)
adds_first c0 c1 c2 s t ts y z = record {
  keeps = KeepsCode-trans c0 c1 c2 y.keeps z.keeps;
  has = (length c1.instrs, HasStmt-keeps c1 c2 z.keeps s t _ _ y.has, z.has);
  few = omega (arith, y.few, z.few);
}

-- arms, and the statements after the last
abbrev pub AddsArms : Listing → Listing → Scope → Arms → Stmts → Type 0
AddsArms old new s arms others = Adds old new (arms_nodes arms + stmts_nodes others) (λ code p q. HasArms code s arms (HasStmts code s others) p q)

pub adds_arm : (c0 c1 c2 c3 c4 c5 : Listing) (s : Scope) (e : Expr) (ts : Stmts) (more : Arms) (others : Stmts) (t u : ℕ) → AddsExpr c0 c1 s e → AddsInstr c1 c2 (JumpIfFalse t) → AddsStmts c2 c3 s ts → AddsInstr c3 c4 (Jump u) → AddsArms c4 c5 s more others
    → t ≡ length c1.instrs + stmts_extent ts + 2 → u ≡ length c4.instrs + (arms_extent more + stmts_extent others) → AddsArms c0 c5 s (arm e ts more) others
adds_arm c0 c1 c2 c3 c4 c5 s e ts more others t u v w x y z t-is u-is =
    let long = stmts_long c3 s ts (length c2.instrs) (length c3.instrs) x.has in
    let rest = arms_long c5 s more others (stmts_long c5 s others) (length c4.instrs) (length c5.instrs) z.has in
    let a = adds_choice c1 c2 c3 c4 c5 (λ code p q. HasStmts code s ts p q) (λ code p q. HasArms code s more (HasStmts code s others) p q) (stmts_nodes ts) (arms_nodes more + stmts_nodes others) t u (stmts_kept s ts) w x y z (omega (arith, w.has.1, long)) (u-is ∙ sym rest) in
    record {
      keeps = KeepsCode-trans c0 c1 c5 v.keeps a.keeps;
      has = (length c1.instrs, HasExpr-keeps c1 c5 a.keeps s e _ _ v.has, a.has);
      few = omega (arith, v.few, a.few);
    }

pub adds_others : (c d : Listing) (s : Scope) (others : Stmts) → AddsStmts c d s others → AddsArms c d s no_arm others
adds_others c d s others h = record { keeps = h.keeps; has = h.has; few = omega (arith, h.few) }

-- a choice counts as a node
pub adds_choose : (c d : Listing) (s : Scope) (arms : Arms) (others : Stmts) → AddsArms c d s arms others → AddsStmt c d s (choose arms others)
adds_choose c d s arms others h = record { keeps = h.keeps; has = h.has; few = omega (arith, h.few) }

-- ---- proposals

pub adds_any : (c0 c1 c2 : Listing) (s : Scope) (e : Expr) → AddsExpr c0 c1 s e → AddsInstr c1 c2 Any → AddsChoice c0 c2 s (any_below e)
adds_any c0 c1 c2 s e y z = record {
  keeps = KeepsCode-trans c0 c1 c2 y.keeps z.keeps;
  has = (length c1.instrs, HasExpr-keeps c1 c2 z.keeps s e _ _ y.has, z.has.0, z.has.1);
  few = omega (arith, y.few, z.few);
}

pub adds_exactly : (c d : Listing) (s : Scope) (e : Expr) → AddsExpr c d s e → AddsChoice c d s (exactly e)
adds_exactly c d s e h = record { keeps = h.keeps; has = h.has; few = h.few }

pub adds_pick : (c d : Listing) (s : Scope) (f : FieldTree) (ty : ℕ) → type_named s.types f.ty ≡ Some ty → AddsInstr c d (Pick (record { 0 = ty })) → AddsProposal c d s f None
adds_pick c d s f ty is h = record { keeps = h.keeps; has = (ty, is, h.has.0, h.has.1); few = h.few }

pub adds_proposed : (c d : Listing) (s : Scope) (f : FieldTree) (r : ProposalTree) → AddsChoice c d s r.choice → AddsProposal c d s f (Some r)
adds_proposed c d s f r h = record { keeps = h.keeps; has = h.has; few = h.few }

pub adds_no_proposal : (c : Listing) (s : Scope) (rs : List ProposalTree) → AddsProposals c c s rs []
adds_no_proposal c s rs = record { keeps = KeepsCode-self c; has = refl; few = omega arith }

-- one position
pub adds_typed : (c d : Listing) (s : Scope) (rs : List ProposalTree) (f : FieldTree) → AddsProposal c d s f (proposal_for rs f) → AddsProposals c d s rs (typed f ∷ [])
adds_typed c d s rs f h = record { keeps = h.keeps; has = (length d.instrs, h.has, refl); few = omega (arith, h.few) }

pub adds_only : (c : Listing) (s : Scope) (rs : List ProposalTree) (p : PositionTree) → ((f : FieldTree) → p ≡ typed f → ⊥) → AddsProposals c c s rs (p ∷ [])
adds_only c s rs (typed f) h = absurd (h f refl)
adds_only c s rs (only x) h = record { keeps = KeepsCode-self c; has = refl; few = omega arith }

-- and those after it
pub adds_position : (c0 c1 c2 : Listing) (s : Scope) (rs : List ProposalTree) (p : PositionTree) (ps : List PositionTree) → AddsProposals c0 c1 s rs (p ∷ []) → AddsProposals c1 c2 s rs ps → AddsProposals c0 c2 s rs (p ∷ ps)
adds_position c0 c1 c2 s rs (typed f) ps y z =
    let first : HasProposal c1 s f (proposal_for rs f) (length c0.instrs) (length c1.instrs) = subst (HasProposal c1 s f (proposal_for rs f) (length c0.instrs)) (sym y.has.2) y.has.1 in
    record {
      keeps = KeepsCode-trans c0 c1 c2 y.keeps z.keeps;
      has = (length c1.instrs, HasProposal-keeps c1 c2 z.keeps s f (proposal_for rs f) _ _ first, z.has);
      few = omega (arith, y.few, z.few);
    }
adds_position c0 c1 c2 s rs (only x) ps y z = record {
  keeps = KeepsCode-trans c0 c1 c2 y.keeps z.keeps;
  has = subst (λ n. HasProposals c2 s rs ps n (length c2.instrs)) y.has z.has;
  few = omega (arith, y.few, z.few);
}

pub nodes_first : (rs : List ProposalTree) (p : PositionTree) (ps : List PositionTree) → proposals_nodes rs (p ∷ ps) ≡ proposals_nodes rs (p ∷ []) + proposals_nodes rs ps
nodes_first rs (typed f) ps = omega arith
nodes_first rs (only x) ps = omega arith

pub extent_first : (rs : List ProposalTree) (p : PositionTree) (ps : List PositionTree) → proposals_extent rs (p ∷ ps) ≡ proposals_extent rs (p ∷ []) + proposals_extent rs ps
extent_first rs (typed f) ps = omega arith
extent_first rs (only x) ps = omega arith

pub known_first : (s : Scope) (rs : List ProposalTree) (p : PositionTree) (ps : List PositionTree) → AreKnownProposals s rs (p ∷ ps) → AreKnownProposals s rs (p ∷ []) × AreKnownProposals s rs ps
known_first s rs (typed f) ps h = ((h.0, tt), h.1)
known_first s rs (only x) ps h = (tt, h)
