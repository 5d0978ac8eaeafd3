use Rattle.std.proofs.Common.{IfSome, subst, sym}
use Rattle.ioac.specs.UnseenLines.{IsUnseenOn}
use Rattle.ioac.proofs.remarks.unseen_lines.line_of_unseen.Goals as goal

pub returns-in-Internal : goal.returns-in-Internal
returns-in-Internal c =
    subst (λ u. IfSome c.line_of_entry.result (λ line. IsUnseenOn c.args.tokens.now c.args.declarations.now c.args.assembly.now u line)) (sym c.in-Internal.is) c.line_of_entry.ensures
