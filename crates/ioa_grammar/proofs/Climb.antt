-- One operator more, or one field.
use Rattle.std.proofs.Common.{◌≡◌, ℕ, suc, ◌+◌, ◌-◌, ◌<◌, ◌≤◌, List, refl, ap, sym, ◌∙◌, arith, Some, Ok, Err, true}
use Rattle.ioa_lex.specs.Tokens.{Tok}
use Rattle.ioa_tree.specs.declared.tree.Infix.{Infix}
use Rattle.ioa_value.specs.declared.terminal.Terminal.TheVariants as terminals
use Rattle.ioa_value.specs.Actions.{Name}
use Rattle.ioa_tree.specs.Tree.{Expr, binary, select}
use Rattle.ioa_tree.specs.Depth.{depth_of}
use Rattle.ioa_tree.proofs.Compared.{le_holds}
use Rattle.ioa_grammar.specs.Operators.{right_of, after_of}
use Rattle.ioa_grammar.specs.declared.fault.Fault.{Fault}
use Rattle.ioa_grammar.specs.declared.fault.ReadError.{ReadError}
use Rattle.ioa_grammar.specs.declared.fault.ReadError.TheVariants as errors
use Rattle.ioa_grammar.specs.Reading.{climb, expr, first, operator_at, rest, sees, after, a_name, fields_from, Reader, Fails, ◌>>=◌}

pub climb_takes : (depth : ℕ) (e : ℕ → Reader Expr) (n least below : ℕ) (o : Infix) (left right : Expr) (ts left_over : List Tok) →
    operator_at least below ts ≡ Some o → depth_of left ≤ depth → e (right_of o) (rest ts) ≡ Ok (right, left_over) →
    climb depth e (suc n) least below left ts ≡ climb depth e n least (after_of o) (binary left o right) left_over
unfolding climb
climb_takes depth e n least below o left right ts left_over at fits read =
    let small = le_holds _ _ fits in rw (at, small, read) refl

pub climb_turn : (depth counter least below r below' : ℕ) (o : Infix) (left right left' : Expr) (ts after left_over : List Tok) →
    counter < depth → operator_at least below ts ≡ Some o → after ≡ rest ts → depth_of left ≤ depth → expr depth r after ≡ Ok (right, left_over) →
    r ≡ right_of o → below' ≡ after_of o → left' ≡ binary left o right →
    climb depth (expr depth) (depth - (counter + 1)) least below' left' left_over ≡ climb depth (expr depth) (depth - counter) least below left ts
climb_turn depth counter least below r below' o left right left' ts after left_over early at skipped fits read ris below_is left_is =
    let turn : depth - counter ≡ suc (depth - (counter + 1)) = omega arith in
    let e = climb_takes depth (expr depth) (depth - (counter + 1)) least below o left right ts left_over at fits (rw (skipped, ris) at read) in
    rw (turn, e, below_is, left_is) refl

climb_errs : (depth : ℕ) (e : ℕ → Reader Expr) (n least below : ℕ) (o : Infix) (left : Expr) (ts : List Tok) (f : Fault) →
    operator_at least below ts ≡ Some o → depth_of left ≤ depth → e (right_of o) (rest ts) ≡ Err f → climb depth e (suc n) least below left ts ≡ Err f
unfolding climb
climb_errs depth e n least below o left ts f at fits failed = let small = le_holds _ _ fits in rw (at, small, failed) refl

pub climb_fails : (depth counter least below r : ℕ) (o : Infix) (left : Expr) (ts after : List Tok) (e : ReadError) →
    counter < depth → operator_at least below ts ≡ Some o → after ≡ rest ts → depth_of left ≤ depth → r ≡ right_of o → Fails e (expr depth r after) →
    Fails e (climb depth (expr depth) (depth - counter) least below left ts)
climb_fails depth counter least below r o left ts after errors.OutOfMemory early at skipped fits ris failed = tt
climb_fails depth counter least below r o left ts after (errors.Fault f) early at skipped fits ris failed =
    let turn : depth - counter ≡ suc (depth - (counter + 1)) = omega arith in
    ap (λ n. climb depth (expr depth) n least below left ts) turn ∙ climb_errs depth (expr depth) (depth - (counter + 1)) least below o left ts f at fits (rw (skipped, ris) at failed)

pub expr_starts : (depth least below : ℕ) (ts left_over : List Tok) (e : Expr) → 0 < depth → first (depth - 1) least (expr (depth - 1)) ts ≡ Ok ((e, below), left_over) →
    expr depth least ts ≡ climb (depth - 1) (expr (depth - 1)) (depth - 1) least below e left_over
unfolding expr
expr_starts depth least below ts left_over e some read =
    let turn : depth ≡ suc (depth - 1) = omega arith in
    ap (λ n. expr n least ts) turn ∙ ap (λ o. o >>= λ p. climb (depth - 1) (expr (depth - 1)) (depth - 1) least p.0.1 p.0.0 p.1) read

fields_takes : (depth n : ℕ) (e : Expr) (name : Name) (ts left : List Tok) → sees terminals.Dot ts ≡ true → depth_of e ≤ depth → a_name (after terminals.Dot ts) ≡ Ok (name, left) →
    fields_from depth (suc n) e ts ≡ fields_from depth n (select e name) left
unfolding fields_from
fields_takes depth n e name ts left seen fits read = let small = le_holds _ _ fits in rw (seen, small, read) refl

pub fields_turn : (depth counter : ℕ) (e e' : Expr) (name : Name) (ts next left : List Tok) →
    counter < depth → sees terminals.Dot ts ≡ true → next ≡ after terminals.Dot ts → depth_of e ≤ depth → a_name next ≡ Ok (name, left) → e' ≡ select e name →
    fields_from depth (depth - (counter + 1)) e' left ≡ fields_from depth (depth - counter) e ts
fields_turn depth counter e e' name ts next left early seen skipped fits read is =
    let turn : depth - counter ≡ suc (depth - (counter + 1)) = omega arith in
    ap (λ e. fields_from depth (depth - (counter + 1)) e left) is
    ∙ sym (ap (λ n. fields_from depth n e ts) turn ∙ fields_takes depth (depth - (counter + 1)) e name ts left seen fits (ap a_name (sym skipped) ∙ read))
