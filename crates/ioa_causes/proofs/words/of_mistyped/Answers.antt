use Rattle.std.proofs.Common.{inl, string_bytes, subst}
use Rattle.std.specs.Prelude.{IfSome}
use Rattle.ioa_lex.specs.Lexing.{placed}
use Rattle.ioa_tree.specs.View.{tree_of}
use Rattle.ioa_syntax.specs.Stuck.{IsNumbered}
use Rattle.ioa_causes.specs.Typing.{TellsMistyped}
use Rattle.ioa_causes.proofs.words.of_mistyped.Goals as goal

pub returns-in-Some-2 : goal.returns-in-Some-2
returns-in-Some-2 c = inl (
  c.parts.result.1.now,
  c.parts.result.0.now,
  c.parts.ensures.numbered c.args.source.now
      (subst (λ o. IfSome o (λ b. IsNumbered c.args.source.now (placed b.numbered.tokens.items) (tree_of b.numbered.source))) c.in-Some.is c.in_ok-broken.ensures),
  subst (λ o. IfSome o (λ words. TellsMistyped c.parts.result.1.now c.parts.result.0.now (string_bytes words))) c.in-Some-2.is c.in_ok-words.ensures,
)
