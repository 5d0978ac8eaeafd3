use Rattle.std.proofs.Common.{◌≡◌, ◌<◌, ◌≤◌, rules, length, map, slice_get, ap, sym, ◌∙◌, arith}
use Rattle.std.specs.Option.{option_map}
use Rattle.std.proofs.lemmas.List.{length-map}
use Rattle.std.proofs.lemmas.Option.{slice_get-map, slice_get-get_or}
use Rattle.ioa_compile.specs.Programs.{MemberCode}
use Rattle.ioa_compile.specs.Shown.{member_code}
use Rattle.ioa_serving.proofs.Traced.{named_at, named_past}
use Rattle.ioa_serving.proofs.reports.worker_name.Goals as goal

pub returns-then-worker-members : goal.returns-then-worker-members
returns-then-worker-members c =
    let ms = c.members-members.result.now in
    let m = c.index-members-worker.result in
    let w = c.args.worker in
    let lt : w < length ms = search rules in
    let at = slice_get-get_or ms w m lt in
    let names = ap (λ (xs : _). slice_get (map (λ (x : MemberCode). x.name) xs) w) (sym c.members-members.ensures.value) in
    c.as_str.ensures.value
    ∙ named_at (map (λ (x : MemberCode). x.name) c.args.program.now.members) w _
    (names ∙ slice_get-map (λ (x : MemberCode). x.name) (map member_code ms) w ∙ ap (option_map (λ (x : MemberCode). x.name)) (slice_get-map member_code ms w ∙ ap (option_map member_code) at))

pub returns-else-worker-members : goal.returns-else-worker-members
returns-else-worker-members c =
    let ms = c.members-members.result.now in
    let many : length c.args.program.now.members ≡ length ms = ap length (sym c.members-members.ensures.value) ∙ length-map ms member_code in
    let le : length ms ≤ c.args.worker = search rules in
    named_past (map (λ (x : MemberCode). x.name) c.args.program.now.members) c.args.worker
    (omega (arith, le, many, length-map c.args.program.now.members (λ (x : MemberCode). x.name)))
