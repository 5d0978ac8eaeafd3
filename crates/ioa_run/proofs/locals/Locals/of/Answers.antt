use Rattle.std.proofs.Common.{◌∙◌, List, ap, map, arith}
use Rattle.std.proofs.lemmas.List.{take_all}
use Rattle.ioa_compile.specs.Shown.{member_code}
use Rattle.ioa_compile.specs.declared.table.Entry.{Entry}
use Rattle.ioa_compile.specs.declared.table.Member.{Member}
use Rattle.ioa_run.specs.Locals.{locals_of, with_sites}
use Rattle.ioa_run.proofs.Choosing.{local_in}
use Rattle.ioa_run.proofs.LocalSites.{all_more}
use Rattle.ioa_run.proofs.locals.Locals.of.Goals as goal

pub loop-member-preserved : goal.loop-member-preserved
loop-member-preserved c =
    let p = c.args.program.now in
    all_more p c.members-member-items.result.now c.loop-member.member-index c.member-item.result c.loop-member.all.items c.push.new.self.items c.in_ok-own.own c.loop-member-test.true c.member-item.is
    (c.in_ok-own.ensures ∙ ap (λ (es : List Entry). map (with_sites p) (local_in es)) c.deref.ensures.value) c.in_ok-push.ensures.items c.loop-member.invariant

pub invariant_of-result : goal.invariant_of-result
invariant_of-result c =
    let p = c.args.program.now in
    c.loop-member.invariant
    ∙ ap (λ (ms : List Member). map (locals_of p) (map member_code ms)) (take_all c.loop-member.member-index c.members-member-items.result.now (omega (arith, c.loop-member-test.false)))
    ∙ ap (map (locals_of p)) c.members-member-items.ensures.value
