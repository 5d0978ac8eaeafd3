use Rattle.std.proofs.Common.{◌≡◌, ◌∙◌, ◌++◌, ◌∷◌, ℕ, List, [], OnOk, ap, arith, length, map, refl, string_bytes, subst, sym}
use Rattle.std.specs.Prelude.{codes}
use Rattle.std.proofs.lemmas.List.{drop_all}
use Rattle.ioa_tree.specs.declared.tree.Arm.{Arm}
use Rattle.ioa_tree.specs.Tree.{Stmt, choose}
use Rattle.ioa_tree.specs.View.{arms_of, stmts_of}
use Rattle.ioa_coverage.specs.Taken.{dotted, if_any, labels, labels_in, labels_of}
use Rattle.ioa_coverage.proofs.Shown.{chosen_at, looped_at, some_there}
use Rattle.ioa_coverage.proofs.labels.+labels.Goals as goal

pub push_choice-returns : goal.push_choice-returns
push_choice-returns t c =
    let at = c.args.at.now in
    let others = stmts_of c.args.others.now in
    let this : ℕ → List (List ℕ) = λ k. (codes "else " ++ dotted at k) ∷ labels_in (dotted at k ++ codes ".") 1 others in
    let otherwise : ℕ → List (List ℕ) = λ k. if_any others (this k) [] in
    let n = c.loop-arm.number in
    let now = map string_bytes c.loop-arm.labels.items in
    let none = drop_all c.loop-arm.arm-index c.args.arms.now (omega arith) in
    let some = some_there c.args.others.now c.is_empty.result (length c.args.others.now) (this n) [] refl c.if-is_empty.false c.is_empty.ensures in
    let whole : now ++ this n ≡ map string_bytes c.args.labels.now.items ++ labels at (choose (arms_of c.args.arms.now) others) =
    ap (λ (ls : List (List ℕ)). now ++ ls) (sym some) ∙ ap (λ (l : List Arm). now ++ labels_of at n (arms_of l) otherwise) (sym none) ∙ c.loop-arm.invariant.put in
    subst (λ (ls : List (List ℕ)). OnOk c.push_named-2.result (map string_bytes c.push_named-2.new.labels.items ≡ ls)) whole c.push_named-2.ensures

pub push_statement-returns-in-If : goal.push_statement-returns-in-If
push_statement-returns-in-If t c =
    let shown = chosen_at c.args.statement.now c.in-If.arms c.in-If.others c.in-If.field-2 c.deref.result.now c.deref-in-If.result.now c.in-If.is c.deref.ensures.value c.deref-in-If.ensures.value in
    subst (λ (s : Stmt). OnOk c.push_choice.result (map string_bytes c.push_choice.new.labels.items ≡ map string_bytes c.args.labels.now.items ++ labels c.args.at.now s)) (sym shown) c.push_choice.ensures

pub push_statement-returns-in-For : goal.push_statement-returns-in-For
push_statement-returns-in-For t c =
    let shown = looped_at c.args.statement.now c.in-For.field-0 c.in-For.field-1 c.in-For.body c.in-For.field-3 c.deref-in-For.result.now c.in-For.is c.deref-in-For.ensures.value in
    subst (λ (s : Stmt). OnOk c.push_named.result (map string_bytes c.push_named.new.labels.items ≡ map string_bytes c.args.labels.now.items ++ labels c.args.at.now s)) (sym shown) c.push_named.ensures
