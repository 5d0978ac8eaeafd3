use Rattle.std.proofs.Common.{◌++◌, map, string_bytes, sym, ap, ◌∙◌}
use Rattle.std.specs.List.{flat_map}
use Rattle.ioa_compile.specs.declared.table.Member.{Member}
use Rattle.ioa_compile.specs.Shown.{entry_code, member_code}
use Rattle.ioa_picture.specs.Graphs.{entry_edges, member_edges}
use Rattle.ioa_picture.proofs.Numbered.{line_more}
use Rattle.ioa_picture.proofs.graphs.put_edges.Goals as goal

pub loop-i-preserved : goal.loop-i-preserved
loop-i-preserved c =
    let p = c.args.program.now in
    let old = string_bytes c.loop-i.text in
    line_more (member_edges p) member_code c.members-members.result.now c.loop-i.i c.index-members-i.result (string_bytes c.args.text.now)
    old (string_bytes c.put_member_edges.new.text) c.loop-i-test.true c.index-members-i.is c.loop-i.invariant
    (c.in_ok-put_member_edges.ensures ∙ ap (λ es. old ++ flat_map (entry_edges p c.loop-i.i) (map entry_code es)) c.deref.ensures.value
    ∙ ap (λ (m : Member). old ++ flat_map (entry_edges p c.loop-i.i) (map entry_code m.entries.items)) (sym c.index-members-i.is))
