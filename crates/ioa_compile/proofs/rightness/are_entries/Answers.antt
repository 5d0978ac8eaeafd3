use Rattle.std.proofs.Common.{◌↔◌, IsTrue, map}
use Rattle.std.proofs.lemmas.Result.{IfOk-weaker}
use Rattle.ioa_crash.specs.Limits.{component_limits}
use Rattle.ioa_compile.specs.Shown.{entry_code, member_code}
use Rattle.ioa_compile.specs.Tables.{AreEntries}
use Rattle.ioa_compile.proofs.Given.{few_seen}
use Rattle.ioa_compile.proofs.rightness.are_entries.Goals as goal

pub returns-then-not-are_few : goal.returns-then-not-are_few
returns-then-not-are_few c =
    let few = rw c.deref.ensures.value at c.are_few.ensures in
    let seen = few_seen entry_code (λ e. e.name) component_limits.entries c.args.member.now.entries.items in
    (λ never. absurd (cc (never)), λ all. absurd (cc (few.1 (seen.1 all.0))))

pub returns : goal.returns
returns c =
    let few = rw c.deref.ensures.value at c.are_few.ensures in
    let seen = few_seen entry_code (λ e. e.name) component_limits.entries c.args.member.now.entries.items in
    IfOk-weaker c.all_entries.result (λ b. IsTrue b ↔ AreEntries (member_code c.args.member.now) (map entry_code c.args.member.now.entries.items)) _
    (λ b h. (λ yes. (seen.0 (few.0 c.if-not-are_few.false), h.0 yes), λ all. h.1 all.1)) (rw c.deref-2.ensures.value at c.all_entries.ensures)
