use Rattle.std.proofs.Common.{subst, sym}
use Rattle.ioa_lex.specs.Lexing.{placed}
use Rattle.ioa_syntax.specs.Stuck.{IsNumbered}
use Rattle.ioac.proofs.remarks.sources.placed_in.Goals as goal

-- what is checked is what was read
pub returns-in-Ok-check : goal.returns-in-Ok-check
returns-in-Ok-check c = subst (IsNumbered c.args.text.now (placed c.in-Ok.numbered.tokens.items)) (sym c.in-Ok-check.ensures.same) c.in-Ok.ensures
