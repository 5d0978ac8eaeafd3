use Rattle.std.proofs.Common.{◌<◌, ◌≤◌, ◌≡◌, ◌+◌, ◌∙◌, ap, arith, length, map, rules, subst, sym}
use Rattle.std.specs.List.{range_with_len}
use Rattle.std.proofs.lemmas.List.{length-map}
use Rattle.std.proofs.lemmas.List.FromFn.{length-range_with_len}
use Rattle.ioa_value.specs.Actions.{act_of}
use Rattle.ioa_compile.specs.Shown.{member_code}
use Rattle.ioa_serving.specs.Links.{are_linked}
use Rattle.ioa_serving.proofs.Grouping.{HaveJoined, all_joined, none_joined, one_joined, written}
use Rattle.ioa_serving.proofs.Sharing.{share_groups}
use Rattle.ioa_serving.proofs.groups.groups_of.Goals as goal

pub loop-worker-init : goal.loop-worker-init
loop-worker-init c =
    let p = c.args.program.now in
    let same : length c.members.result.now ≡ length p.members = sym (length-map c.members.result.now member_code) ∙ ap length c.members.ensures.value in
    let made : c.in_ok-groups.groups.items ≡ range_with_len 0 (length p.members + 1) = c.in_ok-groups.ensures ∙ ap (λ n. range_with_len 0 (n + 1)) same in
    subst (HaveJoined (are_linked p (map act_of c.args.script.now)) (length p.members + 1) 0) (sym made) (none_joined (are_linked p (map act_of c.args.script.now)) (length p.members + 1))

pub loop-worker-preserved : goal.loop-worker-preserved
loop-worker-preserved c =
    let p = c.args.program.now in
    let link = are_linked p (map act_of c.args.script.now) in
    let count = length p.members + 1 in
    let worker = c.loop-worker.worker in
    let hs = c.join_linked.new.groups in
    let old = c.deref_mut.ensures.value in
    let same : length c.members.result.now ≡ length p.members = sym (length-map c.members.result.now member_code) ∙ ap length c.members.ensures.value in
    let all : length c.in_ok-groups.groups.items ≡ count =
    ap length (c.in_ok-groups.ensures ∙ ap (λ n. range_with_len 0 (n + 1)) same) ∙ length-range_with_len 0 count in
    let within : worker < count = omega (arith, c.loop-worker-test.true, c.len-worker-end.ensures, c.in_ok-groups.groups.ok.0, all) in
    subst (HaveJoined link count (worker + 1)) (sym (written c.loop-worker.groups.items hs c.loop-worker.groups.len (search rules) (c.join_linked.ensures.linked.each ∙ ap length old)))
    (one_joined link count worker c.deref_mut.result.now hs within (subst (HaveJoined link count worker) (sym old) c.loop-worker.invariant)
    c.join_linked.ensures.linked c.join_linked.ensures.keeps c.join_linked.ensures.joined)

pub returns-clause-shared : goal.returns-clause-shared
returns-clause-shared c =
    let p = c.args.program.now in
    let inputs = map act_of c.args.script.now in
    let same : length c.members.result.now ≡ length p.members = sym (length-map c.members.result.now member_code) ∙ ap length c.members.ensures.value in
    let all : length c.in_ok-groups.groups.items ≡ length p.members + 1 =
    ap length (c.in_ok-groups.ensures ∙ ap (λ n. range_with_len 0 (n + 1)) same) ∙ length-range_with_len 0 (length p.members + 1) in
    let past : length p.members + 1 ≤ c.loop-worker.worker = omega (arith, c.loop-worker-test.false, c.len-worker-end.ensures, c.in_ok-groups.groups.ok.0, all) in
    share_groups p c.members.ensures.sound inputs c.loop-worker.groups.items (all_joined (are_linked p inputs) (length p.members + 1) c.loop-worker.worker c.loop-worker.groups.items past c.loop-worker.invariant)
