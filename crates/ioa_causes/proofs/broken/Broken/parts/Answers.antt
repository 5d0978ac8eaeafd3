use Rattle.std.proofs.Common.{sym, subst}
use Rattle.ioa_lex.specs.Lexing.{placed}
use Rattle.ioa_tree.specs.View.{tree_of}
use Rattle.ioa_syntax.specs.Stuck.{IsNumbered}
use Rattle.ioa_causes.proofs.broken.Broken.parts.Goals as goal

pub returns-clause-numbered : goal.returns-clause-numbered
returns-clause-numbered c = λ text numbered.
    subst (λ ts. IsNumbered text (placed ts) (tree_of c.declarations-declarations.result.now)) (sym c.as_slice.ensures.value)
    (subst (λ ds. IsNumbered text (placed c.args.self.now.numbered.tokens.items) (tree_of ds)) (sym c.declarations-declarations.ensures.value) numbered)
