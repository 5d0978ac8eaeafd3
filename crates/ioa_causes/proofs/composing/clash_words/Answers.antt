use Rattle.std.proofs.Common.{◌≡◌, string_bytes, subst, ◌∙◌}
use Rattle.std.specs.Prelude.{IfSome}
use Rattle.ioa_causes.specs.Composing.{TellsRole, both_words, more_words}
use Rattle.ioa_causes.proofs.composing.clash_words.Goals as goal

-- each role is that of its component
pub returns : goal.returns
returns c =
    let ts = c.args.tokens.now in
    let m = c.in-Some.first.now in
    let a = c.in-Some.one.now in
    let n = c.in-Some-component_of.second.now in
    let b = c.in-Some-component_of.other.now in
    let x = c.args.name.now in
    let second = string_bytes c.in-Some-3.role_of_other in
    let words = string_bytes c.in_ok-both_words.field-0 in (
      m,
      n,
      a,
      b,
      string_bytes c.in-Some-2.role,
      second,
      c.in-Some.ensures,
      c.in-Some-component_of.ensures,
      subst (λ o. IfSome o (λ w. TellsRole ts m a x (string_bytes w))) c.in-Some-2.is c.in_ok-role.ensures,
      subst (λ o. IfSome o (λ w. TellsRole ts n b x (string_bytes w))) c.in-Some-3.is c.in_ok-role_of_other.ensures,
      subst (λ w. words ≡ both_words x w second (more_words m n)) c.as_str.ensures.value
          (subst (λ w. words ≡ both_words x c.as_str.result.now w (more_words m n)) c.as_str-2.ensures.value
          (subst (λ w. words ≡ both_words x c.as_str.result.now c.as_str-2.result.now w) (c.as_str-3.ensures.value ∙ c.in_ok-more.ensures) c.in_ok-both_words.ensures)),
    )
