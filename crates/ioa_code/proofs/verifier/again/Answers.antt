use Rattle.std.specs.Prelude.{is_some}
use Rattle.std.proofs.Common.{◌≡◌, false, Option, Some, None, refl, sym, ◌∙◌, subst, [], Ok, Err}
use Rattle.ioa_code.specs.declared.reason.Reason.TheVariants.{TooShort}
use Rattle.ioa_code.specs.Machine.{on_top}
use Rattle.ioa_code.specs.Stacks.{AgreeOn}
use Rattle.ioa_code.specs.Valid.{allowed, may_loop}
use Rattle.ioa_code.proofs.Items.{again_missing}
use Rattle.ioa_code.proofs.verifier.again.Goals as goal

-- what is not there
none_is : {A : Type 0} (o : Option A) → is_some o ≡ false → o ≡ None
none_is None e = refl
none_is (Some x) e = absurd (cc)

pub returns-else-is_some : goal.returns-else-is_some
returns-else-is_some c ts h =
    subst (λ k. AgreeOn c.args.stacks.now.nodes (Err TooShort) (allowed (may_loop k) (on_top 1 ts (Err TooShort) (λ below top. Ok [])))) (sym c.in-Eff.is)
    (again_missing c.args.stacks.now c.args.stack (sym c.top.ensures.node ∙ none_is c.top.result (sym c.is_some.ensures ∙ c.if-is_some.false)) ts h)
