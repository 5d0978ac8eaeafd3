use Rattle.std.proofs.Common.{◌≡◌, ◌++◌, ◌∷◌, [], OnOk, map, rules, sym, ap, subst, ◌∙◌, append-nil, append_assoc}
use Rattle.std.proofs.lemmas.List.{take_all}
use Rattle.std.specs.List.{flat_map}
use Rattle.std.specs.String.{string_bytes}
use Rattle.ioa_value.specs.declared.terminal.Terminal.TheVariants as terminals
use Rattle.ioa_tree.specs.Tree.{choose, no_arm}
use Rattle.ioa_print.specs.Layout.{space, line, text_word, text_expr, text_more, text_stmt, text_stmts, text_more_stmts, text_after, text_arms}
use Rattle.ioa_tree.specs.View.{expr_of, stmt_of, stmts_of, arms_of}
use Rattle.ioa_print.proofs.PrintedRows.{text_statements, text_arm, text_all_arms, joined, none_of}
use Rattle.ioa_tree.proofs.StatementRows.{stmt_chosen}
use Rattle.ioa_print.proofs.statements.+statement.Goals as goal
use Rattle.ioa_print.proofs.statements.+statement.Goals.{statement-in-Some-split_first+in_ok-word+in_ok-statement+in_ok-more_statements, statement-in_default-split_first}

pub more_statements-returns : goal.more_statements-returns
more_statements-returns t c =
    c.loop-each.invariant
    ∙ ap (λ l. string_bytes c.args.text.now ++ l) (ap (λ k. text_more terminals.Semicolon text_stmt (map stmt_of k)) (take_all c.loop-each.each-index c.args.statements.now c.loop-each-test.false) ∙ text_statements c.args.statements.now)

pub more_arms-returns : goal.more_arms-returns
more_arms-returns t c =
    c.loop-each.invariant
    ∙ ap (λ l. string_bytes c.args.text.now ++ l) (ap (λ k. flat_map (text_arm terminals.Elseif) k) (take_all c.loop-each.each-index c.args.arms.now c.loop-each-test.false) ∙ text_all_arms c.args.arms.now)

pub statement-returns-in_default : goal.statement-returns-in_default
statement-returns-in_default t c =
    let none : c.in-If.arms.items ≡ [] = none_of c.deref-2.result.now c.in-If.arms.items c.deref-2.ensures.value c.in_default.ensures.cases in
    let chosen : stmt_of c.args.statement.now ≡ choose no_arm (stmts_of c.in-If.others.items) = stmt_chosen _ _ _ _ c.in-If.is ∙ ap (λ l. choose (arms_of l) (stmts_of c.in-If.others.items)) none in
    sym (ap (λ s. string_bytes c.args.text.now ++ text_stmt s) chosen ∙ append-nil (string_bytes c.args.text.now))

pub statement-returns : goal.statement-returns
statement-returns t c =
    let some : c.in-If.arms.items ≡ c.in-Some.first.now ∷ c.in-Some.more.now = search rules in
    let chosen : stmt_of c.args.statement.now ≡ choose (arms_of (c.in-Some.first.now ∷ c.in-Some.more.now)) (stmts_of c.in-If.others.items) = stmt_chosen _ _ _ _ c.in-If.is ∙ ap (λ l. choose (arms_of l) (stmts_of c.in-If.others.items)) some in
    let word = text_word line terminals.Else in
    let before = string_bytes c.more_arms.new.text in
    let others = text_after word (stmts_of c.in-If.others.items) in
    let after : string_bytes c.match-split_first-2.text ≡ before ++ others =
    elim c.match-split_first-2.branch [
      | statement-in-Some-split_first+in_ok-word+in_ok-statement+in_ok-more_statements w ↦
          let other = w.in-Some-split_first.other.now in
          let left = w.in-Some-split_first.rest.now in
          let found : c.in-If.others.items ≡ other ∷ left = search rules in
          ap string_bytes w.text-is
          ∙ w.in_ok-more_statements.ensures
          ∙ ap (λ l. l ++ text_more_stmts (stmts_of left)) (w.in_ok-statement.ensures ∙ ap (λ l. l ++ text_stmt (stmt_of other)) w.in_ok-word.ensures)
          ∙ append_assoc (before ++ word) (text_stmt (stmt_of other)) (text_more_stmts (stmts_of left))
          ∙ append_assoc before word (text_stmt (stmt_of other) ++ text_more_stmts (stmts_of left))
          ∙ ap (λ l. before ++ text_after word (stmts_of l)) (sym found)
      | statement-in_default-split_first w ↦
          let none : c.in-If.others.items ≡ [] = none_of c.deref-3.result.now c.in-If.others.items c.deref-3.ensures.value w.in_default-split_first.ensures.cases in
          ap string_bytes w.text-is ∙ sym (append-nil before) ∙ ap (λ l. before ++ text_after word (stmts_of l)) (sym none)
    ] in
    let more = text_arms (arms_of c.in-Some.more.now) in
    let end = text_word line terminals.Fi in
    let whole : string_bytes c.match-split_first-2.text ++ end ≡ string_bytes c.args.text.now ++ text_stmt (stmt_of c.args.statement.now) =
    ap (λ l. l ++ end) (after ∙ ap (λ l. l ++ others) (c.in_ok-more_arms.ensures ∙ ap (λ l. l ++ more) c.in_ok-arm.ensures))
    ∙ joined (string_bytes c.args.text.now) (text_word space terminals.If) (text_expr space (expr_of c.in-Some.first.now.condition)) (text_word line terminals.Then) (text_stmts (stmts_of c.in-Some.first.now.statements.items)) more others end
    ∙ ap (λ s. string_bytes c.args.text.now ++ text_stmt s) (sym chosen) in
    subst (λ l. OnOk c.word-2.result (string_bytes c.word-2.new.text ≡ l)) whole c.word-2.ensures
