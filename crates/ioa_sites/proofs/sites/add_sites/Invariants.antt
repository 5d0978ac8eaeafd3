use Rattle.std.proofs.Common.{map, ◌++◌}
use Rattle.std.specs.String.{string_bytes}
use Rattle.ioa_clash.specs.Index.{named_among, under}
use Rattle.ioa_clash.proofs.IndexLemmas.{LeavesFrom}
use Rattle.ioa_sites.specs.Sites.{site_by}
use Rattle.ioa_sites.proofs.sites.add_sites.Given as goal

abbrev pub invariant-loop-k : goal.invariant-loop-k
invariant-loop-k g l =
    let seen = g.E.Sited.seen (map string_bytes l.hidden) in
    let es = map g.E.Sited.listed l.entries in
    LeavesFrom g.E.Sited.called (site_by seen) l.index (λ x. under l.initial.index x ++ named_among g.E.Sited.called (site_by seen) l.component 0 es x) l.component l.k es
