use Rattle.std.proofs.Common.{◌≡◌, ◌++◌, string_bytes, sym, ap, subst, ◌∙◌}
use Rattle.std.specs.Option.{option_copied}
use Rattle.ioa_account.proofs.Remarking.{on_ok}
use Rattle.ioa_causes.specs.Worded.{wording}
use Rattle.ioa_serving.specs.FailureCodes.{failure_code}
use Rattle.ioac.specs.Refused.{TellsFileLine, TellsGeneral}
use Rattle.ioac.specs.Remarks.{jump_text}
use Rattle.ioac.proofs.remarks.refused.put_words_line.Goals as goal

pub returns : goal.returns
returns g c =
    let from = sym c.words_of.ensures ∙ ap option_copied c.in-Some.is in
    let before = string_bytes c.args.text.now in
    let after = string_bytes c.put_jump.new.text in
    let file = c.in-Some.name.now in
    let bytes = c.in_ok-bytes.bytes.items in
    let line = c.args.line in
    let e = c.args.failure.now in
    let words = c.wording.result.now in
    on_ok c.put_jump.result
    (λ put.
    let told =
    subst (λ b. after ≡ before ++ jump_text file line (failure_code e) words b) c.as_slice.ensures.value
    (subst (λ code. after ≡ before ++ jump_text file line code words c.as_slice.result.now) c.code-code.ensures put) in
    subst (λ o. TellsFileLine (TellsGeneral e) (g.F.Store.holds c.args.store.now) (g.F.Store.lacks c.args.store.now) o line (failure_code e) before after) (sym from)
    (bytes, c.in_ok-bytes.ensures, (words, c.wording.ensures ∙ ap wording c.code-code.ensures, told)))
    c.put_jump.ensures
