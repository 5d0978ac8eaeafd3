use Rattle.std.proofs.Common.{Bool, map, sym, ◌∙◌, arith}
use Rattle.ioa_value.specs.Actions.{Act, act_of}
use Rattle.ioa_value.proofs.ItemLemmas.{at_map}
use Rattle.ioa_compile.specs.Shown.{entry_code, member_code}
use Rattle.ioa_compile.specs.Tables.{is_in}
use Rattle.ioa_system.specs.declared.log.LogEntry.{LogEntry}
use Rattle.ioa_coverage.proofs.Adding.{counted_no, counted_yes}
use Rattle.ioa_coverage.proofs.coverage.count.Goals.{then-has, else-has}
use Rattle.ioa_coverage.proofs.coverage.count.Goals as goal

pub loop-told-preserved : goal.loop-told-preserved
loop-told-preserved c =
    let xs = c.args.log.now in
    let i = c.loop-told.told-index in
    let test : Act → Bool = λ a. is_in (member_code c.args.member.now).start.table a (entry_code c.args.entry.now) in
    let e = c.told-item.result in
    let at = at_map (λ (x : LogEntry). act_of x.action) xs i e c.loop-told-test.true c.told-item.is in
    elim c.if-has.branch [
      | then-has w ↦ record {
        counted = w.count-is ∙ counted_yes test (map (λ (x : LogEntry). act_of x.action) xs) i (act_of e.action) c.loop-told.count at c.loop-told.invariant.counted (sym c.has.ensures ∙ w.if-has.true);
        within = omega (arith, w.count-is);
      }
      | else-has w ↦ record {
        counted = w.count-is ∙ counted_no test (map (λ (x : LogEntry). act_of x.action) xs) i (act_of e.action) c.loop-told.count at c.loop-told.invariant.counted (sym c.has.ensures ∙ w.if-has.false);
        within = omega (arith, w.count-is);
      }
    ]
