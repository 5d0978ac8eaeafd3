use Rattle.std.proofs.Common.{IfSome, subst}
use Rattle.std.specs.Option.{option_copied}
use Rattle.ioa_lex.specs.Lexing.{placed}
use Rattle.ioa_tree.specs.View.{tree_of}
use Rattle.ioa_syntax.specs.Stuck.{IsNumbered}
use Rattle.ioa_causes.proofs.Found.{if_some}
use Rattle.ioac.specs.UnseenLines.{IsLineIn, IsPickedOn}
use Rattle.ioac.proofs.remarks.composed.line_in.Goals as goal

-- the tokens are those of the source, and they spell the declarations
pub returns-in-Some : goal.returns-in-Some
returns-in-Some c =
    let source = c.args.source.now in
    let name = option_copied c.args.composition in
    let ts = c.in-Some.placed.tokens.items in
    let ds = c.in-Some.placed.checked in
    let numbered = subst (λ o. IfSome o (λ p. IsNumbered source (placed p.tokens.items) (tree_of p.checked))) c.in-Some.is c.in_ok-placed.ensures in
    if_some (λ line. IsPickedOn ts ds name c.args.unseen line) (λ line. IsLineIn source name c.args.unseen line) c.line_among.result
    (λ line on. (ts, ds, numbered, on))
    c.line_among.ensures
