-- What is printed of rows, as of trees of their own.
use Rattle.std.proofs.Common.{◌≡◌, ℕ, List, [], ◌∷◌, ◌++◌, length, map, refl, sym, ap, ◌∙◌, arith, append_assoc}
use Rattle.std.specs.List.{flat_map}
use Rattle.ioa_value.specs.declared.terminal.Terminal.{Terminal}
use Rattle.ioa_value.specs.declared.terminal.Terminal.TheVariants as terminals
use Rattle.ioa_tree.specs.declared.tree.Expression.{Expression}
use Rattle.ioa_tree.specs.declared.tree.Statement.{Statement}
use Rattle.ioa_tree.specs.declared.tree.Arm.{Arm}
use Rattle.ioa_tree.specs.View.{expr_of, exprs_of, stmt_of, stmts_of, arms_of}
use Rattle.ioa_print.specs.Layout.{space, line, text_word, text_expr, text_more, text_others, text_stmt, text_stmts, text_more_stmts, text_arms}

pub text_expressions : (es : List Expression) → text_more terminals.Comma (text_expr space) (map expr_of es) ≡ text_others (exprs_of es)
text_expressions [] = refl
text_expressions (e ∷ es) =
    append_assoc (text_word space terminals.Comma) (text_expr space (expr_of e)) (text_more terminals.Comma (text_expr space) (map expr_of es))
    ∙ ap (λ r. text_word space terminals.Comma ++ (text_expr space (expr_of e) ++ r)) (text_expressions es)

pub text_statements : (ss : List Statement) → text_more terminals.Semicolon text_stmt (map stmt_of ss) ≡ text_more_stmts (stmts_of ss)
text_statements [] = refl
text_statements (s ∷ ss) =
    append_assoc (text_word space terminals.Semicolon) (text_stmt (stmt_of s)) (text_more terminals.Semicolon text_stmt (map stmt_of ss))
    ∙ ap (λ r. text_word space terminals.Semicolon ++ (text_stmt (stmt_of s) ++ r)) (text_statements ss)

-- an arm after this word
abbrev pub text_arm : Terminal → Arm → List ℕ
text_arm t a = text_word space t ++ (text_expr space (expr_of a.condition) ++ (text_word line terminals.Then ++ text_stmts (stmts_of a.statements.items)))

pub text_all_arms : (arms : List Arm) → flat_map (text_arm terminals.Elseif) arms ≡ text_arms (arms_of arms)
text_all_arms [] = refl
text_all_arms (a ∷ arms) =
    let w = text_word space terminals.Elseif in
    let c = text_expr space (expr_of a.condition) in
    let t = text_word line terminals.Then in
    let ss = text_stmts (stmts_of a.statements.items) in
    let more = flat_map (text_arm terminals.Elseif) arms in
    append_assoc w (c ++ (t ++ ss)) more ∙ ap (λ r. w ++ r) (append_assoc c (t ++ ss) more ∙ ap (λ r. c ++ r) (append_assoc t ss more ∙ ap (λ r. t ++ (ss ++ r)) (text_all_arms arms)))

pub joined : (old w c t ss more others end : List ℕ) → (((old ++ (w ++ (c ++ (t ++ ss)))) ++ more) ++ others) ++ end ≡ old ++ (w ++ (c ++ (t ++ (ss ++ (more ++ (others ++ end))))))
joined old w c t ss more others end =
    let left = more ++ (others ++ end) in
    append_assoc ((old ++ (w ++ (c ++ (t ++ ss)))) ++ more) others end
    ∙ append_assoc (old ++ (w ++ (c ++ (t ++ ss)))) more (others ++ end)
    ∙ append_assoc old (w ++ (c ++ (t ++ ss))) left
    ∙ ap (λ r. old ++ r) (append_assoc w (c ++ (t ++ ss)) left ∙ ap (λ r. w ++ r) (append_assoc c (t ++ ss) left ∙ ap (λ r. c ++ r) (append_assoc t ss left)))

pub none_of : {A : Type 0} (xs ys : List A) → xs ≡ ys → length xs ≡ 0 → ys ≡ []
none_of [] ys same none = sym same
none_of (x ∷ xs) ys same none = absurd (omega (arith, none))
