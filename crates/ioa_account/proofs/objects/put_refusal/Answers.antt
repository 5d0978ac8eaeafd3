use Rattle.std.proofs.Common.{◌≡◌, ◌+◌, ◌++◌, map, string_bytes, append_assoc, ap, sym, ◌∙◌}
use Rattle.std.specs.Prelude.{codes}
use Rattle.ioa_value.specs.Actions.{act_of}
use Rattle.ioa_account.specs.Objects.{ending_at, reason}
use Rattle.ioa_account.specs.Quoted.{line_text}
use Rattle.ioa_account.proofs.Refusing.{refused_text}
use Rattle.ioa_account.proofs.Remarking.{on_ok}
use Rattle.ioa_account.proofs.objects.put_refusal.Goals as goal

pub returns : goal.returns
returns c = λ o refused.
    let acts = map act_of c.args.actions.now in
    let i = c.args.index in
    let why = reason c.args.program.now acts (ending_at i c.args.answer) in
    let old = string_bytes c.args.text.now in
    on_ok c.put_reason.result
    (λ puts. puts ∙ ap (λ l. l ++ why) (c.in_ok-put_line.ensures ∙ ap (λ n. old ++ line_text (codes "log") c.args.input.now n) c.in_ok-number_of.ensures)
    ∙ append_assoc old (line_text (codes "log") c.args.input.now (i + 1)) why
    ∙ ap (λ l. old ++ l) (sym (refused_text c.args.program.now c.args.input.now acts i c.args.answer o refused)))
    c.put_reason.ensures
