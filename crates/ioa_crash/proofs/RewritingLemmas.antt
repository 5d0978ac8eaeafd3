-- Statements and variables of lists, as the rewriting adds them one by one.
use Rattle.std.proofs.Common.{◌≡◌, ℕ, zero, suc, ◌+◌, ◌<◌, arith, true, false, not, cond, List, [], ◌∷◌, ◌++◌, map, drop, length, get_or, Vec, Global, refl, sym, ap, ◌∙◌, append_assoc}
use Rattle.std.proofs.lemmas.List.{map-append}
use Rattle.ioa_value.specs.Plain.{Val, plain}
use Rattle.ioa_value.specs.declared.value.Value.{Value}
use Rattle.ioa_value.proofs.ItemLemmas.{drop_item}
use Rattle.ioa_tree.specs.declared.tree.Arm.{Arm}
use Rattle.ioa_tree.specs.declared.tree.Statement.{Statement}
use Rattle.ioa_tree.specs.declared.tree.Statement.TheVariants.{If}
use Rattle.ioa_tree.specs.declared.tree.Variable.{Variable}
use Rattle.ioa_tree.specs.Tree.{named, Stmt, choose, Stmts, stop, seq, no_arm, arm}
use Rattle.ioa_tree.specs.View.{expr_of, variable_of, stmt_of, stmts_of, arms_of}
use Rattle.ioa_tree.proofs.StatementRows.{stmt_choose}
use Rattle.ioa_crash.specs.Rewriting.{up_name, volatile, volatile_values, if_up, reset, resets}

-- statements in front of others
abbrev pub in_front : List Stmt → Stmts → Stmts
in_front [] rest = rest
in_front (s ∷ ss) rest = seq s (in_front ss rest)

one_more : (ss : List Stmt) (s : Stmt) (rest : Stmts) → in_front (ss ++ s ∷ []) rest ≡ in_front ss (seq s rest)
one_more [] s rest = refl
one_more (x ∷ xs) s rest = ap (seq x) (one_more xs s rest)

all_before : (ss : List Statement) → stmts_of ss ≡ in_front (map stmt_of ss) stop
all_before [] = refl
all_before (s ∷ ss) = ap (seq (stmt_of s)) (all_before ss)

pushed : (xs new : List Statement) (x : Statement) (rest : Stmts) → new ≡ xs ++ x ∷ [] → in_front (map stmt_of new) rest ≡ in_front (map stmt_of xs) (seq (stmt_of x) rest)
pushed xs new x rest n =
    ap (λ us. in_front (map stmt_of us) rest) n ∙ ap (λ us. in_front us rest) (map-append stmt_of xs (x ∷ []))
    ∙ one_more (map stmt_of xs) (stmt_of x) rest

-- an item that a list has in this place
pub item_read : {X : Type 0} (xs : List X) (k : ℕ) → k < length xs → (x : X) × (x ≡ get_or xs k x)
item_read [] k l = absurd (omega arith)
item_read (x ∷ xs) zero l = (x, refl)
item_read (x ∷ xs) (suc k) l = item_read xs k (omega arith)

-- ---- the variable in this place

module _ (vs : List Variable) (k : ℕ) (v : Variable) (l : k < length vs) (e : v ≡ get_or vs k v) where
  here : volatile (map variable_of (drop k vs)) ≡ cond (not v.stable) (variable_of v ∷ volatile (map variable_of (drop (k + 1) vs))) (volatile (map variable_of (drop (k + 1) vs)))
  here = ap (λ us. volatile (map variable_of us)) (drop_item vs k v l e)

  pub kept : v.stable ≡ true → volatile (map variable_of (drop k vs)) ≡ volatile (map variable_of (drop (k + 1) vs))
  kept s = here ∙ ap (λ b. cond (not b) (variable_of v ∷ volatile (map variable_of (drop (k + 1) vs))) (volatile (map variable_of (drop (k + 1) vs)))) s

  pub lost : v.stable ≡ false → volatile (map variable_of (drop k vs)) ≡ variable_of v ∷ volatile (map variable_of (drop (k + 1) vs))
  lost s = here ∙ ap (λ b. cond (not b) (variable_of v ∷ volatile (map variable_of (drop (k + 1) vs))) (volatile (map variable_of (drop (k + 1) vs)))) s

  -- one more statement
  pub reset_more : (xs new : List Statement) (x : Statement) (whole : Stmts) → new ≡ xs ++ x ∷ [] → v.stable ≡ false → stmt_of x ≡ reset (variable_of v)
      → in_front (map stmt_of xs) (resets (volatile (map variable_of (drop k vs)))) ≡ whole
      → in_front (map stmt_of new) (resets (volatile (map variable_of (drop (k + 1) vs)))) ≡ whole
  reset_more xs new x whole n s r h =
      let rest = resets (volatile (map variable_of (drop (k + 1) vs))) in
      pushed xs new x rest n ∙ ap (λ y. in_front (map stmt_of xs) (seq y rest)) r ∙ sym (ap (λ us. in_front (map stmt_of xs) (resets us)) (lost s)) ∙ h

  pub reset_same : (xs new : List Statement) (whole : Stmts) → new ≡ xs → v.stable ≡ true
      → in_front (map stmt_of xs) (resets (volatile (map variable_of (drop k vs)))) ≡ whole
      → in_front (map stmt_of new) (resets (volatile (map variable_of (drop (k + 1) vs)))) ≡ whole
  reset_same xs new whole n s h =
      ap (λ us. in_front (map stmt_of us) (resets (volatile (map variable_of (drop (k + 1) vs))))) n
      ∙ sym (ap (λ us. in_front (map stmt_of xs) (resets us)) (kept s)) ∙ h

  -- one more argument
  module _ (ws : List Value) (w : Value) (at : k < length ws) (there : w ≡ get_or ws k w) where
    values_here : volatile_values (map variable_of (drop k vs)) (map plain (drop k ws))
        ≡ cond v.stable (volatile_values (map variable_of (drop (k + 1) vs)) (map plain (drop (k + 1) ws))) (plain w ∷ volatile_values (map variable_of (drop (k + 1) vs)) (map plain (drop (k + 1) ws)))
    values_here =
        ap (λ us. volatile_values (map variable_of us) (map plain (drop k ws))) (drop_item vs k v l e)
        ∙ ap (λ us. volatile_values (variable_of v ∷ map variable_of (drop (k + 1) vs)) (map plain us)) (drop_item ws k w at there)

    pub value_more : (xs new : List Value) (x : Value) (whole : List Val) → new ≡ xs ++ x ∷ [] → v.stable ≡ false → plain x ≡ plain w
        → map plain xs ++ volatile_values (map variable_of (drop k vs)) (map plain (drop k ws)) ≡ whole
        → map plain new ++ volatile_values (map variable_of (drop (k + 1) vs)) (map plain (drop (k + 1) ws)) ≡ whole
    value_more xs new x whole n s r h =
        let rest = volatile_values (map variable_of (drop (k + 1) vs)) (map plain (drop (k + 1) ws)) in
        ap (λ us. map plain us ++ rest) n ∙ ap (λ us. us ++ rest) (map-append plain xs (x ∷ [])) ∙ append_assoc (map plain xs) (plain x ∷ []) rest
        ∙ ap (λ y. map plain xs ++ y ∷ rest) r ∙ sym (ap (λ us. map plain xs ++ us) (values_here ∙ ap (λ b. cond b rest (plain w ∷ rest)) s)) ∙ h

    pub value_same : (xs new : List Value) (whole : List Val) → new ≡ xs → v.stable ≡ true
        → map plain xs ++ volatile_values (map variable_of (drop k vs)) (map plain (drop k ws)) ≡ whole
        → map plain new ++ volatile_values (map variable_of (drop (k + 1) vs)) (map plain (drop (k + 1) ws)) ≡ whole
    value_same xs new whole n s h =
        let rest = volatile_values (map variable_of (drop (k + 1) vs)) (map plain (drop (k + 1) ws)) in
        ap (λ us. map plain us ++ rest) n
        ∙ sym (ap (λ us. map plain xs ++ us) (values_here ∙ ap (λ b. cond b rest (plain w ∷ rest)) s)) ∙ h

-- the last statement
pub resets_done : (xs new : List Statement) (x : Statement) (rest whole : Stmts) → new ≡ xs ++ x ∷ [] → seq (stmt_of x) stop ≡ rest → in_front (map stmt_of xs) rest ≡ whole
    → stmts_of new ≡ whole
resets_done xs new x rest whole n r h = all_before new ∙ pushed xs new x stop n ∙ ap (in_front (map stmt_of xs)) r ∙ h

-- the statements where the host is up
pub up_only : (arms : Vec Arm Global) (others : Vec Statement Global) (line : ℕ) (a : Arm) (xs : List Arm) (ys all : List Statement)
    → xs ≡ [] → arms.items ≡ xs ++ a ∷ [] → others.items ≡ [] → ys ≡ [] → all ≡ ys ++ If arms others line ∷ [] → expr_of a.condition ≡ named up_name
    → stmts_of all ≡ if_up (stmts_of a.statements.items)
up_only arms others line a xs ys all none one rest empty is e =
    let body = stmts_of a.statements.items in
    ap stmts_of (is ∙ ap (λ us. us ++ If arms others line ∷ []) empty)
    ∙ ap (λ s. seq s stop) (stmt_choose arms others line
    ∙ ap (λ us. choose (arms_of us) (stmts_of others.items)) (one ∙ ap (λ us. us ++ a ∷ []) none)
    ∙ ap (λ us. choose (arm (expr_of a.condition) body no_arm) (stmts_of us)) rest
    ∙ ap (λ c. choose (arm c body no_arm) stop) e)
