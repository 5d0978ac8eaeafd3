use Rattle.std.proofs.Common.{◌≡◌, ◌∙◌, ◌+◌, ◌<◌, ◌≤◌, ◌-◌, ◌^◌, ◌++◌, ◌∷◌, [], ℕ, List, ap, arith, get_or, length, rules, subst, sym, take}
use Rattle.std.proofs.lemmas.List.{length-take-le, take_all, take_more}
use Rattle.ioa_value.specs.Actions.{Act, act_of}
use Rattle.ioa_compile.specs.Programs.{Prog}
use Rattle.ioa_system.specs.declared.log.LogEntry.{LogEntry}
use Rattle.ioa_system.specs.Logs.{logged}
use Rattle.ioa_watch.specs.Watchers.{HasHeard}
use Rattle.ioa_watch.proofs.Watchers.{heard_few, heard_next}
use Rattle.ioa_serving.specs.Logs.{performed_in}
use Rattle.ioa_serving.proofs.Judging.{performed_at}
use Rattle.ioa_serving.proofs.strict_monitor.hear_log.Goals as goal

pub hear-requires : goal.hear-requires
hear-requires c =
    let p : Prog = c.args.program.now in
    let i : ℕ = c.loop-index.index in
    let acts : List Act = performed_in (logged c.args.log.now) in
    let l : i < length acts = subst (λ (n : ℕ). i < n) c.performed_count-index-end.ensures (search rules) in
    let few = heard_few p (take i acts) c.loop-index.watcher c.loop-index.invariant in
    let n : length (take i acts) ≡ i = length-take-le i acts (omega (arith, l)) in
    let bound : i < 2 ^ 64 - 1 = search rules in
    omega (arith, few, n, bound)

pub loop-index-preserved : goal.loop-index-preserved
loop-index-preserved c =
    let p : Prog = c.args.program.now in
    let i : ℕ = c.loop-index.index in
    let acts : List Act = performed_in (logged c.args.log.now) in
    let a : Act = act_of c.index-entries-index.result.action in
    let l : i < length acts = subst (λ (n : ℕ). i < n) c.performed_count-index-end.ensures (search rules) in
    let here : a ≡ get_or acts i a =
    performed_at c.args.log.now i c.index-entries-index.result l
    (c.index-entries-index.is ∙ ap (λ (es : List LogEntry). get_or es i c.index-entries-index.result) c.as_slice-entries.ensures.value) in
    let more : take (i + 1) acts ≡ take i acts ++ a ∷ [] = take_more acts i a l ∙ ap (λ (b : Act). take i acts ++ b ∷ []) (sym here) in
    let said = c.in_ok-hear.ensures in
    subst (λ (xs : List Act). HasHeard p xs c.hear.new.self) (sym more)
    (heard_next p (take i acts) c.loop-index.watcher c.loop-index.invariant a c.hear.new.self said.program said.names said.next)

pub returns : goal.returns
returns c =
    let p : Prog = c.args.program.now in
    let i : ℕ = c.loop-index.index in
    let acts : List Act = performed_in (logged c.args.log.now) in
    let least : length acts ≤ i = subst (λ (n : ℕ). n ≤ i) c.performed_count-index-end.ensures (search rules) in
    subst (λ (xs : List Act). HasHeard p xs c.loop-index.watcher) (take_all i acts least) c.loop-index.invariant
