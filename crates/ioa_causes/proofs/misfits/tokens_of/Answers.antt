use Rattle.std.proofs.Common.{sym, subst}
use Rattle.ioa_lex.specs.Lexing.{placed}
use Rattle.ioa_syntax.specs.Stuck.{IsStuckIn}
use Rattle.ioa_causes.proofs.misfits.tokens_of.Goals as goal

pub returns : goal.returns
returns c = λ text stuck. subst (λ ts. IsStuckIn text (placed ts) c.args.stuck.now.at) (sym c.as_slice.ensures.value) stuck
