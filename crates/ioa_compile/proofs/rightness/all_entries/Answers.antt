use Rattle.ioa_compile.specs.Shown.{entry_code, member_code}
use Rattle.ioa_compile.specs.Tables.{IsEntry, AreEntries}
use Rattle.ioa_compile.proofs.Given.{one_fails}
use Rattle.ioa_compile.proofs.rightness.all_entries.Goals as goal

pub returns-then-not-branch : goal.returns-then-not-branch
returns-then-not-branch c = (
  λ never. absurd (cc (never)),
  λ all. absurd (one_fails entry_code (IsEntry (member_code c.args.member.now)) (AreEntries (member_code c.args.member.now)) (λ y ys h. h.0) c.args.entries.now c.loop-entry.entry-index c.entry-item.result c.loop-entry-test.true c.entry-item.is
      c.loop-entry.invariant (λ right. cc (c.in_ok-is_entry.ensures.1 right)) all),
)
