use denote.Param.Weighed.{at_most}
use Rattle.std.proofs.Common.{◌≡◌, ◌+◌, true, false, ◌≤◌, ◌∙◌, ◌∷◌, ℕ, IfOk, List, [], OnOk, ap, arith, drop, length, refl, rules, subst, sym}
use Rattle.std.proofs.lemmas.List.{drop_all}
use Rattle.ioa_value.specs.Operators.{answer_of, faults, gives}
use Rattle.ioa_value.specs.Plain.{Val, Vals, items, more as one_item, plain, plain_all, truth}
use Rattle.ioa_value.specs.declared.value.Value.{Value}
use Rattle.ioa_value.proofs.ItemLemmas.{drop_item}
use Rattle.ioa_tree.proofs.tree.Arm.TheLaws.{the_size as the_size_of_arm}
use Rattle.ioa_tree.specs.declared.tree.Arm.{Arm}
use Rattle.ioa_tree.specs.declared.tree.Statement.{Statement}
use Rattle.ioa_tree.specs.declared.tree.Statement.TheViews.{the_lemmas}
use Rattle.ioa_tree.specs.Meaning.{Env, Outcome, becomes, breaks, does, eff, picks, then_do, turns, val, with_name, without}
use Rattle.ioa_tree.specs.Tree.{Stmt, Stmts, arm, choose, seq, stop}
use Rattle.ioa_tree.specs.View.{arms_of, expr_of, name_of, stmt_of, stmts_of}
use Rattle.ioa_coverage.specs.declared.scope.Binding.{Binding}
use Rattle.ioa_coverage.specs.Following.{KeepsNames, MayFollow, MayFollowAll, left, turned, with_marks}
use Rattle.ioa_coverage.specs.Known.{IsTypedIn, known, names_in}
use Rattle.ioa_coverage.specs.Taken.{if_any, marks, marks_in, marks_of_arms, marks_of_turns, places, places_in, places_of}
use Rattle.ioa_coverage.proofs.Followed.{MayChoose, MayLoop, arm_faults, arm_marks, arm_may, arm_none, arm_passes, arm_picks, arm_unmarked, as_long, condition_may, condition_told, counts_on, goes_on, is_new, loop_does, loop_marks, loop_may, more_may, next_may, no_others, only_left, only_ok, others_may, rest_may, turn_marks, turn_marks_stop, turn_may, turns_on, turns_stop}
use Rattle.ioa_coverage.proofs.Shown.{chosen_at, looped_at, none_there, some_there}
use Rattle.ioa_coverage.proofs.effects.+effects.Goals as goal

-- ---- a statement

pub follow-follow_choice-requires : goal.follow-follow_choice-requires
follow-follow_choice-requires t c =
    let shown = chosen_at c.args.statement.now c.in-If.arms c.in-If.others c.in-If.field-2 c.deref.result.now c.deref-in-If.result.now c.in-If.is c.deref.ensures.value c.deref-in-If.ensures.value in
    (search (rules, the_lemmas), (c.requires.types, (subst (λ (s : Stmt). MayFollow c.args.types.now (known c.args.scope.now.items) s) shown c.requires.typed, subst (λ (s : Stmt). c.args.first + places s ≤ length c.args.counts.now) shown c.requires.room)))

pub follow-returns-in-If-clause-left : goal.follow-returns-in-If-clause-left
follow-returns-in-If-clause-left t c =
    let shown = chosen_at c.args.statement.now c.in-If.arms c.in-If.others c.in-If.field-2 c.deref.result.now c.deref-in-If.result.now c.in-If.is c.deref.ensures.value c.deref-in-If.ensures.value in
    subst (λ (s : Stmt). IfOk c.follow_choice.result (λ r. left r (known c.follow_choice.new.scope.items) ≡ does c.args.types.now s (known c.args.scope.now.items))) (sym shown) c.follow_choice.ensures.left

pub follow-returns-in-If-clause-marked : goal.follow-returns-in-If-clause-marked
follow-returns-in-If-clause-marked t c =
    let shown = chosen_at c.args.statement.now c.in-If.arms c.in-If.others c.in-If.field-2 c.deref.result.now c.deref-in-If.result.now c.in-If.is c.deref.ensures.value c.deref-in-If.ensures.value in
    subst (λ (s : Stmt). OnOk c.follow_choice.result (c.follow_choice.new.counts ≡ with_marks c.args.counts.now (marks c.args.types.now c.args.first s (known c.args.scope.now.items)))) (sym shown) c.follow_choice.ensures.marked

pub follow-follow_loop-requires : goal.follow-follow_loop-requires
follow-follow_loop-requires t c =
    let shown = looped_at c.args.statement.now c.in-For.name c.in-For.items c.in-For.body c.in-For.field-3 c.deref-in-For.result.now c.in-For.is c.deref-in-For.ensures.value in
    (search (rules, the_lemmas), (c.requires.types, (subst (λ (s : Stmt). MayFollow c.args.types.now (known c.args.scope.now.items) s) shown c.requires.typed, subst (λ (s : Stmt). c.args.first + places s ≤ length c.args.counts.now) shown c.requires.room)))

pub follow-returns-in-For-clause-left : goal.follow-returns-in-For-clause-left
follow-returns-in-For-clause-left t c =
    let shown = looped_at c.args.statement.now c.in-For.name c.in-For.items c.in-For.body c.in-For.field-3 c.deref-in-For.result.now c.in-For.is c.deref-in-For.ensures.value in
    subst (λ (s : Stmt). IfOk c.follow_loop.result (λ r. left r (known c.follow_loop.new.scope.items) ≡ does c.args.types.now s (known c.args.scope.now.items))) (sym shown) c.follow_loop.ensures.left

pub follow-returns-in-For-clause-marked : goal.follow-returns-in-For-clause-marked
follow-returns-in-For-clause-marked t c =
    let shown = looped_at c.args.statement.now c.in-For.name c.in-For.items c.in-For.body c.in-For.field-3 c.deref-in-For.result.now c.in-For.is c.deref-in-For.ensures.value in
    subst (λ (s : Stmt). OnOk c.follow_loop.result (c.follow_loop.new.counts ≡ with_marks c.args.counts.now (marks c.args.types.now c.args.first s (known c.args.scope.now.items)))) (sym shown) c.follow_loop.ensures.marked

-- ---- statements in sequence

pub follow_all-loop-statement-preserved : goal.follow_all-loop-statement-preserved
follow_all-loop-statement-preserved t c =
    let types = c.args.types.now in
    let xs = c.args.statements.now in
    let i = c.loop-statement.statement-index in
    let x = c.statement-item.result in
    let s = stmt_of x in
    let rest = stmts_of (drop (i + 1) xs) in
    let n = c.loop-statement.place in
    let cs = c.loop-statement.counts in
    let env = known c.loop-statement.scope.items in
    let after = known c.follow.new.scope.items in
    let inv = c.loop-statement.invariant in
    let next : drop i xs ≡ x ∷ drop (i + 1) xs = drop_item xs i x c.loop-statement-test.true c.statement-item.is in
    let may : MayFollowAll types env (seq s rest) = subst (λ (l : List Statement). MayFollowAll types env (stmts_of l)) next inv.typed in
    let room : n + (places s + places_in rest) ≤ length cs = subst (λ (l : List Statement). n + places_in (stmts_of l) ≤ length cs) next inv.room in
    let so : becomes after ≡ does types s env = only_left c.in_ok-fault.field-0 after c.in_default.not-Err ∙ c.in_ok-fault.ensures.left in
    let more : c.follow.new.counts ≡ with_marks cs (marks types n s env) = c.in_ok-fault.ensures.marked in
    let long : length c.follow.new.counts ≡ length cs = ap length more ∙ as_long cs (marks types n s env) in
    record {
      left = sym (goes_on types s rest env after so) ∙ ap (λ (l : List Statement). eff types (stmts_of l) env) (sym next) ∙ inv.left;
      marked = ap (λ k. with_marks c.follow.new.counts (marks_in types (n + k) rest after)) c.places-place.ensures
          ∙ ap (λ (ms : List ℕ). with_marks ms (marks_in types (n + places s) rest after)) more ∙ sym (counts_on types s rest env cs n after so)
          ∙ ap (λ (l : List Statement). with_marks cs (marks_in types n (stmts_of l) env)) (sym next) ∙ inv.marked;
      typed = rest_may types c.requires.types s rest env after may so;
      room = omega (arith, room, long, c.places-place.ensures);
      names = only_ok c.in_ok-fault.field-0 (KeepsNames c.loop-statement.scope.items c.follow.new.scope.items) c.in_default.not-Err c.in_ok-fault.ensures.names ∙ inv.names;
    }

-- ---- choices

pub follow_choice-evaluate-requires-clause-typed : goal.follow_choice-evaluate-requires-clause-typed
follow_choice-evaluate-requires-clause-typed t c =
    let types = c.args.types.now in
    let xs = c.args.arms.now in
    let others = stmts_of c.args.others.now in
    let env = known c.args.scope.now.items in
    let n = c.loop-arm.place in
    let cs = c.args.counts.now in
    let inv = c.loop-arm.invariant in
    let otherwise : ℕ → List ℕ = λ m. if_any others (m ∷ marks_in types (m + 1) others env) [] in
    let i = c.loop-arm.arm-index in
    let a = c.arm-item.result in
    let cond = expr_of a.condition in
    let ss = stmts_of a.statements.items in
    let more = arms_of (drop (i + 1) xs) in
    let next : drop i xs ≡ a ∷ drop (i + 1) xs = drop_item xs i a c.loop-arm-test.true c.arm-item.is in
    let may : MayChoose types env (arm cond ss more) = subst (λ (l : List Arm). MayChoose types env (arms_of l)) next inv.typed in
    let scope_is : c.deref.result.now ≡ c.args.scope.now.items = c.deref.ensures.value ∙ inv.scope in
    subst (λ (bs : List Binding). IsTypedIn types (known bs) cond) (sym scope_is) (condition_may types c.requires.types cond ss more env may)

pub follow_choice-follow_counted-requires : goal.follow_choice-follow_counted-requires
follow_choice-follow_counted-requires t c =
    let types = c.args.types.now in
    let xs = c.args.arms.now in
    let others = stmts_of c.args.others.now in
    let env = known c.args.scope.now.items in
    let n = c.loop-arm.place in
    let cs = c.args.counts.now in
    let inv = c.loop-arm.invariant in
    let otherwise : ℕ → List ℕ = λ m. if_any others (m ∷ marks_in types (m + 1) others env) [] in
    let i = c.loop-arm.arm-index in
    let a = c.arm-item.result in
    let cond = expr_of a.condition in
    let ss = stmts_of a.statements.items in
    let more = arms_of (drop (i + 1) xs) in
    let next : drop i xs ≡ a ∷ drop (i + 1) xs = drop_item xs i a c.loop-arm-test.true c.arm-item.is in
    let may : MayChoose types env (arm cond ss more) = subst (λ (l : List Arm). MayChoose types env (arms_of l)) next inv.typed in
    let these = c.deref-then-is_true.result.now in
    let size = ap (λ (l : List Statement). places_in (stmts_of l)) c.deref-then-is_true.ensures.value in
    let long : length c.loop-arm.counts ≡ length cs = ap length inv.counts in
    let room : n + (1 + (places_in ss + places_of more) + if_any others (1 + places_in others) 0) ≤ length cs = subst (λ (l : List Arm). n + (places_of (arms_of l) + if_any others (1 + places_in others) 0) ≤ length cs) next inv.room in
    let fits : n + (1 + places_in (stmts_of these)) ≤ length c.loop-arm.counts = omega (arith, room, size, long) in
    let typed : MayFollowAll types (known c.loop-arm.scope.items) (stmts_of these) =
    subst (λ (l : List Statement). MayFollowAll types (known c.loop-arm.scope.items) (stmts_of l)) (sym c.deref-then-is_true.ensures.value)
    (subst (λ (bs : List Binding). MayFollowAll types (known bs) ss) (sym inv.scope) (arm_may types c.requires.types cond ss more env may)) in (
      let smaller = at_most the_size_of_arm xs i a c.loop-arm-test.true in
          let here = c.arm-item.is in
          let its = c.deref-then-is_true.ensures.value in
          search (rules, the_lemmas),
      (c.requires.types, (typed, fits)),
    )

pub follow_choice-returns-then-is_true-clause-left : goal.follow_choice-returns-then-is_true-clause-left
follow_choice-returns-then-is_true-clause-left t c =
    let types = c.args.types.now in
    let xs = c.args.arms.now in
    let others = stmts_of c.args.others.now in
    let env = known c.args.scope.now.items in
    let n = c.loop-arm.place in
    let cs = c.args.counts.now in
    let inv = c.loop-arm.invariant in
    let otherwise : ℕ → List ℕ = λ m. if_any others (m ∷ marks_in types (m + 1) others env) [] in
    let i = c.loop-arm.arm-index in
    let a = c.arm-item.result in
    let cond = expr_of a.condition in
    let ss = stmts_of a.statements.items in
    let more = arms_of (drop (i + 1) xs) in
    let next : drop i xs ≡ a ∷ drop (i + 1) xs = drop_item xs i a c.loop-arm-test.true c.arm-item.is in
    let first : picks types (arm cond ss more) env (eff types others env) ≡ does types (choose (arms_of xs) others) env = subst (λ (l : List Arm). picks types (arms_of l) env (eff types others env) ≡ does types (choose (arms_of xs) others) env) next inv.left in
    let may : MayChoose types env (arm cond ss more) = subst (λ (l : List Arm). MayChoose types env (arms_of l)) next inv.typed in
    let scope_is : c.deref.result.now ≡ c.args.scope.now.items = c.deref.ensures.value ∙ inv.scope in
    let is : gives (plain c.in-Ok.value) ≡ val types cond env = ap answer_of (sym c.in-Ok.is) ∙ c.in_ok-value.ensures ∙ ap (λ (bs : List Binding). val types cond (known bs)) scope_is in
    let told : plain c.in-Ok.value ≡ truth true = condition_told types c.requires.types cond ss more env may (plain c.in-Ok.value) is ∙ ap truth (sym c.is_true.ensures ∙ c.if-is_true.true) in
    let e : eff types (stmts_of c.deref-then-is_true.result.now) (known c.loop-arm.scope.items) ≡ does types (choose (arms_of xs) others) env =
    ap (λ (l : List Statement). eff types (stmts_of l) (known c.loop-arm.scope.items)) c.deref-then-is_true.ensures.value ∙ ap (λ (bs : List Binding). eff types ss (known bs)) inv.scope
    ∙ sym (arm_picks types cond ss more env (plain c.in-Ok.value) is (eff types others env) told) ∙ first in
    subst (λ (o : Outcome). IfOk c.follow_counted.result (λ r. left r (known c.follow_counted.new.scope.items) ≡ o)) e c.follow_counted.ensures.left

pub follow_choice-returns-then-is_true-clause-marked : goal.follow_choice-returns-then-is_true-clause-marked
follow_choice-returns-then-is_true-clause-marked t c =
    let types = c.args.types.now in
    let xs = c.args.arms.now in
    let others = stmts_of c.args.others.now in
    let env = known c.args.scope.now.items in
    let n = c.loop-arm.place in
    let cs = c.args.counts.now in
    let inv = c.loop-arm.invariant in
    let otherwise : ℕ → List ℕ = λ m. if_any others (m ∷ marks_in types (m + 1) others env) [] in
    let i = c.loop-arm.arm-index in
    let a = c.arm-item.result in
    let cond = expr_of a.condition in
    let ss = stmts_of a.statements.items in
    let more = arms_of (drop (i + 1) xs) in
    let next : drop i xs ≡ a ∷ drop (i + 1) xs = drop_item xs i a c.loop-arm-test.true c.arm-item.is in
    let marked : marks_of_arms types n (arm cond ss more) env otherwise ≡ marks types c.args.first (choose (arms_of xs) others) env = subst (λ (l : List Arm). marks_of_arms types n (arms_of l) env otherwise ≡ marks types c.args.first (choose (arms_of xs) others) env) next inv.marked in
    let may : MayChoose types env (arm cond ss more) = subst (λ (l : List Arm). MayChoose types env (arms_of l)) next inv.typed in
    let scope_is : c.deref.result.now ≡ c.args.scope.now.items = c.deref.ensures.value ∙ inv.scope in
    let is : gives (plain c.in-Ok.value) ≡ val types cond env = ap answer_of (sym c.in-Ok.is) ∙ c.in_ok-value.ensures ∙ ap (λ (bs : List Binding). val types cond (known bs)) scope_is in
    let told : plain c.in-Ok.value ≡ truth true = condition_told types c.requires.types cond ss more env may (plain c.in-Ok.value) is ∙ ap truth (sym c.is_true.ensures ∙ c.if-is_true.true) in
    let e : with_marks c.loop-arm.counts (n ∷ marks_in types (n + 1) (stmts_of c.deref-then-is_true.result.now) (known c.loop-arm.scope.items)) ≡ with_marks cs (marks types c.args.first (choose (arms_of xs) others) env) =
    ap (λ (l : List Statement). with_marks c.loop-arm.counts (n ∷ marks_in types (n + 1) (stmts_of l) (known c.loop-arm.scope.items))) c.deref-then-is_true.ensures.value
    ∙ ap (λ (bs : List Binding). with_marks c.loop-arm.counts (n ∷ marks_in types (n + 1) ss (known bs))) inv.scope ∙ ap (λ (ks : List ℕ). with_marks ks (n ∷ marks_in types (n + 1) ss env)) inv.counts
    ∙ ap (with_marks cs) (sym (arm_marks types cond ss more env (plain c.in-Ok.value) is n otherwise told) ∙ marked) in
    subst (λ (ks : List ℕ). OnOk c.follow_counted.result (c.follow_counted.new.counts ≡ ks)) e c.follow_counted.ensures.marked

pub follow_choice-returns-then-is_true-clause-names : goal.follow_choice-returns-then-is_true-clause-names
follow_choice-returns-then-is_true-clause-names t c =
    let inv = c.loop-arm.invariant in
    subst (λ (bs : List Binding). IfOk c.follow_counted.result (λ r. OnOk r (KeepsNames bs c.follow_counted.new.scope.items))) inv.scope c.follow_counted.ensures.names

pub follow_choice-returns-in-Err-clause-left : goal.follow_choice-returns-in-Err-clause-left
follow_choice-returns-in-Err-clause-left t c =
    let types = c.args.types.now in
    let xs = c.args.arms.now in
    let others = stmts_of c.args.others.now in
    let env = known c.args.scope.now.items in
    let n = c.loop-arm.place in
    let cs = c.args.counts.now in
    let inv = c.loop-arm.invariant in
    let otherwise : ℕ → List ℕ = λ m. if_any others (m ∷ marks_in types (m + 1) others env) [] in
    let i = c.loop-arm.arm-index in
    let a = c.arm-item.result in
    let cond = expr_of a.condition in
    let ss = stmts_of a.statements.items in
    let more = arms_of (drop (i + 1) xs) in
    let next : drop i xs ≡ a ∷ drop (i + 1) xs = drop_item xs i a c.loop-arm-test.true c.arm-item.is in
    let first : picks types (arm cond ss more) env (eff types others env) ≡ does types (choose (arms_of xs) others) env = subst (λ (l : List Arm). picks types (arms_of l) env (eff types others env) ≡ does types (choose (arms_of xs) others) env) next inv.left in
    let scope_is : c.deref.result.now ≡ c.args.scope.now.items = c.deref.ensures.value ∙ inv.scope in
    let is : faults c.in-Err.fault ≡ val types cond env = ap answer_of (sym c.in-Err.is) ∙ c.in_ok-value.ensures ∙ ap (λ (bs : List Binding). val types cond (known bs)) scope_is in
    arm_faults types cond ss more env c.in-Err.fault is (eff types others env) ∙ first

pub follow_choice-returns-in-Err-clause-marked : goal.follow_choice-returns-in-Err-clause-marked
follow_choice-returns-in-Err-clause-marked t c =
    let types = c.args.types.now in
    let xs = c.args.arms.now in
    let others = stmts_of c.args.others.now in
    let env = known c.args.scope.now.items in
    let n = c.loop-arm.place in
    let cs = c.args.counts.now in
    let inv = c.loop-arm.invariant in
    let otherwise : ℕ → List ℕ = λ m. if_any others (m ∷ marks_in types (m + 1) others env) [] in
    let i = c.loop-arm.arm-index in
    let a = c.arm-item.result in
    let cond = expr_of a.condition in
    let ss = stmts_of a.statements.items in
    let more = arms_of (drop (i + 1) xs) in
    let next : drop i xs ≡ a ∷ drop (i + 1) xs = drop_item xs i a c.loop-arm-test.true c.arm-item.is in
    let marked : marks_of_arms types n (arm cond ss more) env otherwise ≡ marks types c.args.first (choose (arms_of xs) others) env = subst (λ (l : List Arm). marks_of_arms types n (arms_of l) env otherwise ≡ marks types c.args.first (choose (arms_of xs) others) env) next inv.marked in
    let scope_is : c.deref.result.now ≡ c.args.scope.now.items = c.deref.ensures.value ∙ inv.scope in
    let is : faults c.in-Err.fault ≡ val types cond env = ap answer_of (sym c.in-Err.is) ∙ c.in_ok-value.ensures ∙ ap (λ (bs : List Binding). val types cond (known bs)) scope_is in
    inv.counts ∙ ap (with_marks cs) (sym (arm_none types cond ss more env c.in-Err.fault is n otherwise) ∙ marked)

pub follow_choice-loop-arm-preserved : goal.follow_choice-loop-arm-preserved
follow_choice-loop-arm-preserved t c =
    let types = c.args.types.now in
    let xs = c.args.arms.now in
    let others = stmts_of c.args.others.now in
    let env = known c.args.scope.now.items in
    let n = c.loop-arm.place in
    let cs = c.args.counts.now in
    let inv = c.loop-arm.invariant in
    let otherwise : ℕ → List ℕ = λ m. if_any others (m ∷ marks_in types (m + 1) others env) [] in
    let i = c.loop-arm.arm-index in
    let a = c.arm-item.result in
    let cond = expr_of a.condition in
    let ss = stmts_of a.statements.items in
    let more = arms_of (drop (i + 1) xs) in
    let next : drop i xs ≡ a ∷ drop (i + 1) xs = drop_item xs i a c.loop-arm-test.true c.arm-item.is in
    let first : picks types (arm cond ss more) env (eff types others env) ≡ does types (choose (arms_of xs) others) env = subst (λ (l : List Arm). picks types (arms_of l) env (eff types others env) ≡ does types (choose (arms_of xs) others) env) next inv.left in
    let marked : marks_of_arms types n (arm cond ss more) env otherwise ≡ marks types c.args.first (choose (arms_of xs) others) env = subst (λ (l : List Arm). marks_of_arms types n (arms_of l) env otherwise ≡ marks types c.args.first (choose (arms_of xs) others) env) next inv.marked in
    let may : MayChoose types env (arm cond ss more) = subst (λ (l : List Arm). MayChoose types env (arms_of l)) next inv.typed in
    let scope_is : c.deref.result.now ≡ c.args.scope.now.items = c.deref.ensures.value ∙ inv.scope in
    let is : gives (plain c.in-Ok.value) ≡ val types cond env = ap answer_of (sym c.in-Ok.is) ∙ c.in_ok-value.ensures ∙ ap (λ (bs : List Binding). val types cond (known bs)) scope_is in
    let told : plain c.in-Ok.value ≡ truth false = condition_told types c.requires.types cond ss more env may (plain c.in-Ok.value) is ∙ ap truth (sym c.is_true.ensures ∙ c.if-is_true.false) in
    let room : n + (1 + (places_in ss + places_of more) + if_any others (1 + places_in others) 0) ≤ length cs = subst (λ (l : List Arm). n + (places_of (arms_of l) + if_any others (1 + places_in others) 0) ≤ length cs) next inv.room in
    let further : n + c.arm_places-place.result ≡ n + 1 + places_in ss = omega (arith, c.arm_places-place.ensures) in
    record {
      scope = inv.scope;
      counts = inv.counts;
      left = sym (arm_passes types cond ss more env (plain c.in-Ok.value) is (eff types others env) told) ∙ first;
      marked = ap (λ k. marks_of_arms types k more env otherwise) further ∙ sym (arm_unmarked types cond ss more env (plain c.in-Ok.value) is n otherwise told) ∙ marked;
      typed = more_may types c.requires.types cond ss more env may;
      room = omega (arith, room, c.arm_places-place.ensures);
    }

pub follow_choice-returns-then-is_empty-clause-left : goal.follow_choice-returns-then-is_empty-clause-left
follow_choice-returns-then-is_empty-clause-left t c =
    let types = c.args.types.now in
    let xs = c.args.arms.now in
    let others = stmts_of c.args.others.now in
    let env = known c.args.scope.now.items in
    let n = c.loop-arm.place in
    let cs = c.args.counts.now in
    let inv = c.loop-arm.invariant in
    let otherwise : ℕ → List ℕ = λ m. if_any others (m ∷ marks_in types (m + 1) others env) [] in
    let none = drop_all c.loop-arm.arm-index xs (omega arith) in
    let empty : others ≡ stop = none_there c.args.others.now c.is_empty.result (length c.args.others.now) refl c.if-is_empty.true c.is_empty.ensures in
    ap (λ (bs : List Binding). becomes (known bs)) inv.scope ∙ no_others types others env empty
    ∙ ap (λ (l : List Arm). picks types (arms_of l) env (eff types others env)) (sym none) ∙ inv.left

pub follow_choice-returns-then-is_empty-clause-marked : goal.follow_choice-returns-then-is_empty-clause-marked
follow_choice-returns-then-is_empty-clause-marked t c =
    let types = c.args.types.now in
    let xs = c.args.arms.now in
    let others = stmts_of c.args.others.now in
    let env = known c.args.scope.now.items in
    let n = c.loop-arm.place in
    let cs = c.args.counts.now in
    let inv = c.loop-arm.invariant in
    let otherwise : ℕ → List ℕ = λ m. if_any others (m ∷ marks_in types (m + 1) others env) [] in
    let none = drop_all c.loop-arm.arm-index xs (omega arith) in
    let empty : others ≡ stop = none_there c.args.others.now c.is_empty.result (length c.args.others.now) refl c.if-is_empty.true c.is_empty.ensures in
    let nothing : [] ≡ otherwise n = sym (ap (λ (ss : Stmts). if_any ss (n ∷ marks_in types (n + 1) others env) []) empty) in
    inv.counts ∙ ap (with_marks cs) (nothing ∙ ap (λ (l : List Arm). marks_of_arms types n (arms_of l) env otherwise) (sym none) ∙ inv.marked)

pub follow_choice-returns-then-is_empty-clause-names : goal.follow_choice-returns-then-is_empty-clause-names
follow_choice-returns-then-is_empty-clause-names t c =
    ap names_in c.loop-arm.invariant.scope

pub follow_choice-follow_counted-requires-2 : goal.follow_choice-follow_counted-requires-2
follow_choice-follow_counted-requires-2 t c =
    let types = c.args.types.now in
    let xs = c.args.arms.now in
    let others = stmts_of c.args.others.now in
    let env = known c.args.scope.now.items in
    let n = c.loop-arm.place in
    let cs = c.args.counts.now in
    let inv = c.loop-arm.invariant in
    let otherwise : ℕ → List ℕ = λ m. if_any others (m ∷ marks_in types (m + 1) others env) [] in
    let none = drop_all c.loop-arm.arm-index xs (omega arith) in
    let some = some_there c.args.others.now c.is_empty.result (length c.args.others.now) (1 + places_in others) 0 refl c.if-is_empty.false c.is_empty.ensures in
    let room : n + (0 + if_any others (1 + places_in others) 0) ≤ length cs = subst (λ (l : List Arm). n + (places_of (arms_of l) + if_any others (1 + places_in others) 0) ≤ length cs) none inv.room in
    let long : length c.loop-arm.counts ≡ length cs = ap length inv.counts in
    let fits : n + (1 + places_in others) ≤ length c.loop-arm.counts = omega (arith, room, some, long) in
    (search (rules, the_lemmas), (c.requires.types, (subst (λ (bs : List Binding). MayFollowAll types (known bs) others) (sym inv.scope) (others_may types c.requires.types (arms_of xs) others env c.requires.typed), fits)))

pub follow_choice-returns-clause-left : goal.follow_choice-returns-clause-left
follow_choice-returns-clause-left t c =
    let types = c.args.types.now in
    let xs = c.args.arms.now in
    let others = stmts_of c.args.others.now in
    let env = known c.args.scope.now.items in
    let n = c.loop-arm.place in
    let cs = c.args.counts.now in
    let inv = c.loop-arm.invariant in
    let otherwise : ℕ → List ℕ = λ m. if_any others (m ∷ marks_in types (m + 1) others env) [] in
    let none = drop_all c.loop-arm.arm-index xs (omega arith) in
    let e : eff types others (known c.loop-arm.scope.items) ≡ does types (choose (arms_of xs) others) env =
    ap (λ (bs : List Binding). eff types others (known bs)) inv.scope ∙ ap (λ (l : List Arm). picks types (arms_of l) env (eff types others env)) (sym none) ∙ inv.left in
    subst (λ (o : Outcome). IfOk c.follow_counted-2.result (λ r. left r (known c.follow_counted-2.new.scope.items) ≡ o)) e c.follow_counted-2.ensures.left

pub follow_choice-returns-clause-marked : goal.follow_choice-returns-clause-marked
follow_choice-returns-clause-marked t c =
    let types = c.args.types.now in
    let xs = c.args.arms.now in
    let others = stmts_of c.args.others.now in
    let env = known c.args.scope.now.items in
    let n = c.loop-arm.place in
    let cs = c.args.counts.now in
    let inv = c.loop-arm.invariant in
    let otherwise : ℕ → List ℕ = λ m. if_any others (m ∷ marks_in types (m + 1) others env) [] in
    let none = drop_all c.loop-arm.arm-index xs (omega arith) in
    let some = some_there c.args.others.now c.is_empty.result (length c.args.others.now) (n ∷ marks_in types (n + 1) others env) [] refl c.if-is_empty.false c.is_empty.ensures in
    let e : with_marks c.loop-arm.counts (n ∷ marks_in types (n + 1) others (known c.loop-arm.scope.items)) ≡ with_marks cs (marks types c.args.first (choose (arms_of xs) others) env) =
    ap (λ (bs : List Binding). with_marks c.loop-arm.counts (n ∷ marks_in types (n + 1) others (known bs))) inv.scope ∙ ap (λ (ks : List ℕ). with_marks ks (n ∷ marks_in types (n + 1) others env)) inv.counts
    ∙ ap (with_marks cs) (sym some ∙ ap (λ (l : List Arm). marks_of_arms types n (arms_of l) env otherwise) (sym none) ∙ inv.marked) in
    subst (λ (ks : List ℕ). OnOk c.follow_counted-2.result (c.follow_counted-2.new.counts ≡ ks)) e c.follow_counted-2.ensures.marked

pub follow_choice-returns-clause-names : goal.follow_choice-returns-clause-names
follow_choice-returns-clause-names t c =
    let inv = c.loop-arm.invariant in
    subst (λ (bs : List Binding). IfOk c.follow_counted-2.result (λ r. OnOk r (KeepsNames bs c.follow_counted-2.new.scope.items))) inv.scope c.follow_counted-2.ensures.names

-- ---- loops

pub follow_loop-loop-item-init : goal.follow_loop-loop-item-init
follow_loop-loop-item-init t c =
    let types = c.args.types.now in
    let x = name_of c.args.name.now in
    let ss = stmts_of c.args.body.now in
    let its = c.items_of-item-items.result.now in
    let e = expr_of c.args.items.now in
    let env = known c.args.scope.now.items in
    let cs = c.args.counts.now in
    let v = plain c.in-Ok.value in
    let is : gives v ≡ val types e env = ap answer_of (sym c.in-Ok.is) ∙ c.in_ok-value.ensures ∙ ap (λ (bs : List Binding). val types e (known bs)) c.deref.ensures.value in
    let made = loop_may types c.requires.types x ss e env c.requires.typed v is in
    let shape : v ≡ items made.0.0 (plain_all its) = made.0.1 ∙ ap (items made.0.0) c.items_of-item-items.ensures in
    record {
      left = sym (loop_does types c.requires.types x ss e env v made.0.0 (plain_all its) is shape);
      marked = ap (with_marks cs) (sym (loop_marks types c.requires.types x ss c.args.first e env v made.0.0 (plain_all its) is shape));
      typed = subst (λ (vs : Vals). MayLoop types x ss vs env) c.items_of-item-items.ensures made.1;
      room = c.requires.room;
      names = refl;
    }

pub follow_loop-follow_turn-requires : goal.follow_loop-follow_turn-requires
follow_loop-follow_turn-requires t c =
    let types = c.args.types.now in
    let x = name_of c.args.name.now in
    let ss = stmts_of c.args.body.now in
    let its = c.items_of-item-items.result.now in
    let i = c.loop-item.item-index in
    let item = c.item-item.result in
    let v = plain item in
    let rest = plain_all (drop (i + 1) its) in
    let env = known c.loop-item.scope.items in
    let inv = c.loop-item.invariant in
    let n = c.args.first in
    let next : drop i its ≡ item ∷ drop (i + 1) its = drop_item its i item c.loop-item-test.true c.item-item.is in
    let may : MayLoop types x ss (one_item v rest) env = subst (λ (l : List Value). MayLoop types x ss (plain_all l) env) next inv.typed in
    (search (rules, the_lemmas), (c.requires.types, (turn_may types c.requires.types x ss v rest env may, (is_new types c.requires.types x ss v rest env may, inv.room))))

pub follow_loop-returns-in-Err-2-clause-left : goal.follow_loop-returns-in-Err-2-clause-left
follow_loop-returns-in-Err-2-clause-left t c =
    let types = c.args.types.now in
    let x = name_of c.args.name.now in
    let ss = stmts_of c.args.body.now in
    let its = c.items_of-item-items.result.now in
    let i = c.loop-item.item-index in
    let item = c.item-item.result in
    let v = plain item in
    let rest = plain_all (drop (i + 1) its) in
    let env = known c.loop-item.scope.items in
    let inv = c.loop-item.invariant in
    let n = c.args.first in
    let next : drop i its ≡ item ∷ drop (i + 1) its = drop_item its i item c.loop-item-test.true c.item-item.is in
    let stop_so : breaks c.in-Err-2.fault ≡ turned (eff types ss) x v env = ap (λ r. left r (known c.follow_turn.new.scope.items)) (sym c.in-Err-2.is) ∙ c.in_ok-fault.ensures.left in
    sym (turns_stop types ss x v rest env c.in-Err-2.fault stop_so) ∙ ap (λ (l : List Value). turns (eff types ss) x (plain_all l) env) (sym next) ∙ inv.left

pub follow_loop-returns-in-Err-2-clause-marked : goal.follow_loop-returns-in-Err-2-clause-marked
follow_loop-returns-in-Err-2-clause-marked t c =
    let types = c.args.types.now in
    let x = name_of c.args.name.now in
    let ss = stmts_of c.args.body.now in
    let its = c.items_of-item-items.result.now in
    let i = c.loop-item.item-index in
    let item = c.item-item.result in
    let v = plain item in
    let rest = plain_all (drop (i + 1) its) in
    let env = known c.loop-item.scope.items in
    let inv = c.loop-item.invariant in
    let n = c.args.first in
    let next : drop i its ≡ item ∷ drop (i + 1) its = drop_item its i item c.loop-item-test.true c.item-item.is in
    let stop_so : breaks c.in-Err-2.fault ≡ turned (eff types ss) x v env = ap (λ r. left r (known c.follow_turn.new.scope.items)) (sym c.in-Err-2.is) ∙ c.in_ok-fault.ensures.left in
    c.in_ok-fault.ensures.marked ∙ sym (turn_marks_stop types ss x v rest env c.loop-item.counts n c.in-Err-2.fault stop_so)
    ∙ ap (λ (l : List Value). with_marks c.loop-item.counts (marks_of_turns (marks_in types (n + 1) ss) (eff types ss) n x (plain_all l) env)) (sym next) ∙ inv.marked

pub follow_loop-loop-item-preserved : goal.follow_loop-loop-item-preserved
follow_loop-loop-item-preserved t c =
    let types = c.args.types.now in
    let x = name_of c.args.name.now in
    let ss = stmts_of c.args.body.now in
    let its = c.items_of-item-items.result.now in
    let i = c.loop-item.item-index in
    let item = c.item-item.result in
    let v = plain item in
    let rest = plain_all (drop (i + 1) its) in
    let env = known c.loop-item.scope.items in
    let inv = c.loop-item.invariant in
    let n = c.args.first in
    let next : drop i its ≡ item ∷ drop (i + 1) its = drop_item its i item c.loop-item-test.true c.item-item.is in
    let may : MayLoop types x ss (one_item v rest) env = subst (λ (l : List Value). MayLoop types x ss (plain_all l) env) next inv.typed in
    let after = known c.follow_turn.new.scope.items in
    let so : becomes after ≡ turned (eff types ss) x v env = only_left c.in_ok-fault.field-0 after c.in_default.not-Err ∙ c.in_ok-fault.ensures.left in
    let more = c.in_ok-fault.ensures.marked in
    let long : length c.follow_turn.new.counts ≡ length c.loop-item.counts = ap length more ∙ as_long c.loop-item.counts (n ∷ marks_in types (n + 1) ss (with_name env x v)) in
    record {
      left = sym (turns_on types ss x v rest env after so) ∙ ap (λ (l : List Value). turns (eff types ss) x (plain_all l) env) (sym next) ∙ inv.left;
      marked = ap (λ (ks : List ℕ). with_marks ks (marks_of_turns (marks_in types (n + 1) ss) (eff types ss) n x rest after)) more
          ∙ sym (turn_marks types ss x v rest env c.loop-item.counts n after so)
          ∙ ap (λ (l : List Value). with_marks c.loop-item.counts (marks_of_turns (marks_in types (n + 1) ss) (eff types ss) n x (plain_all l) env)) (sym next) ∙ inv.marked;
      typed = next_may types c.requires.types x ss v rest env may after so;
      room = let room = inv.room in omega (arith, room, long);
      names = only_ok c.in_ok-fault.field-0 (KeepsNames c.loop-item.scope.items c.follow_turn.new.scope.items) c.in_default.not-Err c.in_ok-fault.ensures.names ∙ inv.names;
    }

pub follow_turn-returns-in-Err-clause-left : goal.follow_turn-returns-in-Err-clause-left
follow_turn-returns-in-Err-clause-left t c =
    let types = c.args.types.now in
    let x = name_of c.args.name.now in
    let ss = stmts_of c.args.body.now in
    let v = plain c.args.item.now in
    let env = known c.args.scope.now.items in
    let n = c.args.first in
    let cs = c.args.counts.now in
    let bound : known c.bind.new.scope.items ≡ with_name env x v = c.in_ok-bind.ensures.known ∙ ap (λ (w : Val). with_name env x w) c.in_ok-copy.ensures in
    ap (λ (o : Outcome). then_do o (λ k. becomes (without x env k)))
    (ap (λ r. left r (known c.follow_counted.new.scope.items)) (sym c.in-Err.is) ∙ c.in_ok-fault.ensures.left ∙ ap (λ (k : Env). eff types ss k) bound)

pub follow_turn-returns-in-Err-clause-marked : goal.follow_turn-returns-in-Err-clause-marked
follow_turn-returns-in-Err-clause-marked t c =
    let types = c.args.types.now in
    let x = name_of c.args.name.now in
    let ss = stmts_of c.args.body.now in
    let v = plain c.args.item.now in
    let env = known c.args.scope.now.items in
    let n = c.args.first in
    let cs = c.args.counts.now in
    let bound : known c.bind.new.scope.items ≡ with_name env x v = c.in_ok-bind.ensures.known ∙ ap (λ (w : Val). with_name env x w) c.in_ok-copy.ensures in
    c.in_ok-fault.ensures.marked ∙ ap (λ (k : Env). with_marks cs (n ∷ marks_in types (n + 1) ss k)) bound

pub follow_turn-returns-clause-left : goal.follow_turn-returns-clause-left
follow_turn-returns-clause-left t c =
    let types = c.args.types.now in
    let x = name_of c.args.name.now in
    let ss = stmts_of c.args.body.now in
    let v = plain c.args.item.now in
    let env = known c.args.scope.now.items in
    let n = c.args.first in
    let cs = c.args.counts.now in
    let bound : known c.bind.new.scope.items ≡ with_name env x v = c.in_ok-bind.ensures.known ∙ ap (λ (w : Val). with_name env x w) c.in_ok-copy.ensures in
    let named = only_ok c.in_ok-fault.field-0 (KeepsNames c.bind.new.scope.items c.follow_counted.new.scope.items) c.in_default.not-Err c.in_ok-fault.ensures.names in
    let un = c.unbind.ensures c.args.scope.now.items x (named ∙ c.in_ok-bind.ensures.names) c.requires.new in
    ap becomes un.stands
    ∙ ap (λ (o : Outcome). then_do o (λ k. becomes (without x env k)))
    (only_left c.in_ok-fault.field-0 (known c.follow_counted.new.scope.items) c.in_default.not-Err ∙ c.in_ok-fault.ensures.left ∙ ap (λ (k : Env). eff types ss k) bound)

pub follow_turn-returns-clause-marked : goal.follow_turn-returns-clause-marked
follow_turn-returns-clause-marked t c =
    let types = c.args.types.now in
    let x = name_of c.args.name.now in
    let ss = stmts_of c.args.body.now in
    let v = plain c.args.item.now in
    let env = known c.args.scope.now.items in
    let n = c.args.first in
    let cs = c.args.counts.now in
    let bound : known c.bind.new.scope.items ≡ with_name env x v = c.in_ok-bind.ensures.known ∙ ap (λ (w : Val). with_name env x w) c.in_ok-copy.ensures in
    c.in_ok-fault.ensures.marked ∙ ap (λ (k : Env). with_marks cs (n ∷ marks_in types (n + 1) ss k)) bound

pub follow_turn-returns-clause-names : goal.follow_turn-returns-clause-names
follow_turn-returns-clause-names t c =
    let x = name_of c.args.name.now in
    let named = only_ok c.in_ok-fault.field-0 (KeepsNames c.bind.new.scope.items c.follow_counted.new.scope.items) c.in_default.not-Err c.in_ok-fault.ensures.names in
    let un = c.unbind.ensures c.args.scope.now.items x (named ∙ c.in_ok-bind.ensures.names) c.requires.new in
    un.names
