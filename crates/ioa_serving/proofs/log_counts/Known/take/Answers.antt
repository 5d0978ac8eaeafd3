use Rattle.std.proofs.Common.{◌≡◌, ◌==◌, ◌∙◌, ◌+◌, List, true, false, not, ap, arith, length, subst, sym}
use Rattle.std.specs.List.{list_any}
use Rattle.std.specs.Vec.{vec_len}
use Rattle.ioa_value.specs.Actions.{Act, act_of}
use Rattle.ioa_tree.specs.Components.{has}
use Rattle.ioa_tree.specs.Steps.{participants}
use Rattle.ioa_compile.specs.Programs.{Prog}
use Rattle.ioa_compile.specs.Tables.{tabled}
use Rattle.ioa_account.proofs.Counting.{is_known}
use Rattle.ioa_watch.specs.Watchers.{HasHeard}
use Rattle.ioa_watch.proofs.Watchers.{heard_next}
use Rattle.ioa_serving.specs.LogCounts.{known_among}
use Rattle.ioa_serving.proofs.HeardKnown.{heard_within, known_kept, known_more, passed_kept, passed_more, passed_within}
use Rattle.ioa_serving.proofs.log_counts.Known.take.Goals as goal

pub overflow_add-self : goal.overflow_add-self
overflow_add-self c =
    let r = c.requires in
    let few = passed_within r.0 r.1 c.args.self.now r.2 in
    omega (arith, few, r.3)

pub hear-requires : goal.hear-requires
hear-requires c =
    let r = c.requires in
    let few = heard_within r.0 r.1 c.args.self.now r.2 in
    omega (arith, few, r.3)

pub returns-then-is_empty : goal.returns-then-is_empty
returns-then-is_empty c = λ p acts h.
    let a : Act = act_of c.args.action.now in
    let found = c.in_ok-found.found in
    let long : vec_len found ≡ length found.items = omega (arith, found.ok.0) in
    let program : c.program.result.now ≡ p = c.program.ensures ∙ h.heard.program in
    let none : list_any (has a) (tabled p) ≡ false =
    sym (is_known (tabled p) a found.items c.is_empty.result (c.in_ok-found.ensures ∙ ap (λ (q : Prog). participants (tabled q) a) program) (c.is_empty.ensures ∙ ap (λ n. n == 0) long)) ∙ ap not c.if-is_empty.true in
    record {
      heard = subst (λ (xs : List Act). HasHeard p xs c.args.self.now.watcher) (sym (known_kept p acts a none)) h.heard;
      passed = ap (λ n. n + 1) h.passed ∙ sym (passed_more p acts a none);
    }

pub returns : goal.returns
returns c = λ p acts h.
    let a : Act = act_of c.args.action.now in
    let found = c.in_ok-found.found in
    let long : vec_len found ≡ length found.items = omega (arith, found.ok.0) in
    let program : c.program.result.now ≡ p = c.program.ensures ∙ h.heard.program in
    let some : list_any (has a) (tabled p) ≡ true =
    sym (is_known (tabled p) a found.items c.is_empty.result (c.in_ok-found.ensures ∙ ap (λ (q : Prog). participants (tabled q) a) program) (c.is_empty.ensures ∙ ap (λ n. n == 0) long)) ∙ ap not c.if-is_empty.false in
    let said = c.in_ok-hear.ensures in
    record {
      heard = subst (λ (xs : List Act). HasHeard p xs c.hear.new.self) (sym (known_more p acts a some))
          (heard_next p (known_among p acts) c.args.self.now.watcher h.heard a c.hear.new.self said.program said.names said.next);
      passed = h.passed ∙ ap length (sym (passed_kept p acts a some));
    }
