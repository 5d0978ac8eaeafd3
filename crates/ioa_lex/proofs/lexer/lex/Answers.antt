use Rattle.ioa_lex.specs.Lexing.{placed}
use Rattle.ioa_lex.proofs.Answered.{only_tokens, only_stop}
use Rattle.ioa_lex.proofs.lexer.lex.Goals as goal

pub returns-clause-only : goal.returns-clause-only
returns-clause-only c = only_tokens (λ v. placed v.items) c.args.text.now c.tokens_of.result c.tokens_of.ensures

pub returns-clause-stops : goal.returns-clause-stops
returns-clause-stops c = only_stop (λ v. placed v.items) c.args.text.now c.tokens_of.result c.tokens_of.ensures
