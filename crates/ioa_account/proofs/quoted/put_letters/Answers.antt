use Rattle.std.proofs.Common.{◌++◌, ap, ◌∙◌}
use Rattle.std.specs.Char.{encode_utf8}
use Rattle.std.specs.String.{string_bytes}
use Rattle.std.proofs.lemmas.Str.{IsUtf8-past_char}
use Rattle.ioa_account.proofs.Quoting.{letter_put, no_letters}
use Rattle.ioa_account.proofs.quoted.put_letters.Goals as goal

pub loop-letter-preserved : goal.loop-letter-preserved
loop-letter-preserved c =
    let held = c.loop-letter.invariant in
    let parts = c.in-Some.ensures.steps.0 in (
      IsUtf8-past_char _ _ c.in-Some.letter held.0 parts,
      letter_put _ _ _ _ _ c.in-Some.letter held.0 parts (c.in_ok-push.ensures.bytes ∙ ap (λ x. string_bytes c.loop-letter.text ++ encode_utf8 x) c.shown.ensures) held.1,
    )

pub returns : goal.returns
returns c = no_letters _ _ _ c.in-None.ensures.steps.0.0 c.loop-letter.invariant.1
