use Rattle.std.proofs.Common.{◌≡◌, ◌++◌, ◌∷◌, [], OnOk, map, rules, sym, ap, subst, ◌∙◌, append-nil, append_assoc}
use Rattle.std.specs.String.{string_bytes}
use Rattle.ioa_value.specs.declared.terminal.Terminal.TheVariants as terminals
use Rattle.ioa_print.specs.Layout.{space, text_word, text_name, text_expr, text_exprs, text_more}
use Rattle.ioa_tree.specs.View.{name_of, expr_of, exprs_of}
use Rattle.ioa_print.proofs.PrintedRows.{none_of}
use Rattle.ioa_print.proofs.PrintedRows.{text_expressions}
use Rattle.ioa_tree.proofs.ExpressionRows.{expr_made}
use Rattle.ioa_print.proofs.expressions.+expression.Goals as goal
use Rattle.ioa_print.proofs.expressions.+expression.Goals.{expression-in-Some+in_ok-expression-in-Make+in_ok-more_expressions-in-Make, expression-in_default}

pub expression-returns-after-split_first : goal.expression-returns-after-split_first
expression-returns-after-split_first t c =
    let old = string_bytes c.args.text.now in
    let called = text_name space (name_of c.in-Make.of) in
    let opening = text_word space terminals.Open in
    let fields = text_exprs (exprs_of c.in-Make.fields.items) in
    let closing = text_word c.args.end terminals.Close in
    let before = string_bytes c.word-in-Make.new.text in
    let after : string_bytes c.match-split_first.text ≡ before ++ fields =
    elim c.match-split_first.branch [
      | expression-in-Some+in_ok-expression-in-Make+in_ok-more_expressions-in-Make w ↦
          let first = w.in-Some.first.now in
          let more = w.in-Some.more.now in
          let found : c.in-Make.fields.items ≡ first ∷ more = search rules in
          let others = text_more terminals.Comma (text_expr space) (map expr_of more) in
          ap string_bytes w.text-is
          ∙ w.in_ok-more_expressions-in-Make.ensures
          ∙ ap (λ l. l ++ others) w.in_ok-expression-in-Make.ensures
          ∙ append_assoc before (text_expr space (expr_of first)) others
          ∙ ap (λ l. before ++ (text_expr space (expr_of first) ++ l)) (text_expressions more)
          ∙ ap (λ l. before ++ text_exprs (exprs_of l)) (sym found)
      | expression-in_default w ↦
          let none : c.in-Make.fields.items ≡ [] = none_of c.deref-in-Make.result.now c.in-Make.fields.items c.deref-in-Make.ensures.value w.in_default.ensures.cases in
          ap string_bytes w.text-is ∙ sym (append-nil before) ∙ ap (λ l. before ++ text_exprs (exprs_of l)) (sym none)
    ] in
    let whole : string_bytes c.match-split_first.text ++ closing ≡ old ++ text_expr c.args.end (expr_of c.args.expression.now) =
    ap (λ l. l ++ closing) (after ∙ ap (λ l. l ++ fields) (c.in_ok-word-in-Make.ensures ∙ ap (λ l. l ++ opening) c.in_ok-name-in-Make.ensures))
    ∙ append_assoc ((old ++ called) ++ opening) fields closing
    ∙ append_assoc (old ++ called) opening (fields ++ closing)
    ∙ append_assoc old called (opening ++ (fields ++ closing))
    ∙ ap (λ e. old ++ text_expr c.args.end e) (sym (expr_made _ _ _ c.in-Make.is)) in
    subst (λ l. OnOk c.word-in-Make-2.result (string_bytes c.word-in-Make-2.new.text ≡ l)) whole c.word-in-Make-2.ensures
