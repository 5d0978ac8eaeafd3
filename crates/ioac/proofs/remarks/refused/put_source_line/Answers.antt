use Rattle.std.proofs.Common.{◌≡◌, ◌++◌, string_bytes, sym, ap, subst, ◌∙◌}
use Rattle.std.specs.Option.{option_copied}
use Rattle.ioa_account.proofs.Remarking.{on_ok}
use Rattle.ioa_serving.specs.FailureCodes.{failure_code}
use Rattle.ioac.specs.Refused.{TellsSourceLine}
use Rattle.ioac.specs.Remarks.{jump_text}
use Rattle.ioac.proofs.remarks.refused.put_source_line.Goals as goal

pub returns : goal.returns
returns g c =
    let from = sym c.file_of.ensures ∙ ap option_copied c.in-Some.is in
    let before = string_bytes c.args.text.now in
    let after = string_bytes c.put_jump.new.text in
    let file = c.in-Some.name.now in
    let bytes = c.in_ok-source.source.items in
    let words = string_bytes c.in_ok-words.words in
    let line = c.args.line in
    let e = c.args.failure.now in
    on_ok c.put_jump.result
    (λ put.
    subst (λ o. TellsSourceLine (g.F.Store.holds c.args.store.now) (g.F.Store.lacks c.args.store.now) o line e before after) (sym from) (
      bytes,
      words,
      c.in_ok-source.ensures,
      c.in_ok-words.ensures,
      subst (λ b. after ≡ before ++ jump_text file line (failure_code e) words b) c.as_slice.ensures.value
          (subst (λ w. after ≡ before ++ jump_text file line (failure_code e) w c.as_slice.result.now) c.as_str.ensures.value
          (subst (λ code. after ≡ before ++ jump_text file line code c.as_str.result.now c.as_slice.result.now) c.code.ensures put)),
    ))
    c.put_jump.ensures
