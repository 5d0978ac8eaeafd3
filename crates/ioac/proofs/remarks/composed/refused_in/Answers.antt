use Rattle.std.proofs.Common.{IfSome, string_bytes, subst}
use Rattle.ioa_lex.specs.Lexing.{placed}
use Rattle.ioa_tree.specs.View.{tree_of}
use Rattle.ioa_syntax.specs.Stuck.{IsNumbered}
use Rattle.ioa_causes.proofs.Found.{if_found}
use Rattle.ioac.specs.declared.remarks.composed.Said.{Said}
use Rattle.ioac.specs.Composed.{IsRefusedAt, IsRefusedFor}
use Rattle.ioac.proofs.remarks.composed.refused_in.Goals as goal

-- the tokens are those of the source, and they spell the declarations
pub returns-in-Some : goal.returns-in-Some
returns-in-Some c =
    let request = c.args.asked.now in
    let source = c.args.source.now in
    let e = c.args.failure.now in
    let ts = c.in-Some.placed.tokens.items in
    let ds = c.in-Some.placed.checked in
    let numbered = subst (λ o. IfSome o (λ p. IsNumbered source (placed p.tokens.items) (tree_of p.checked))) c.in-Some.is c.in_ok-placed.ensures in
    if_found (λ (s : Said). IsRefusedFor request ts ds e s.line (string_bytes s.words)) (λ (s : Said). IsRefusedAt request source e s.line (string_bytes s.words)) c.asked_in.result
    (λ said tells. (ts, ds, numbered, tells))
    c.asked_in.ensures
