use Rattle.std.proofs.Common.{◌≡◌, ◌++◌, ℕ, List, ap, ◌∙◌, append_assoc, rules}
use Rattle.std.specs.Prelude.{codes}
use Rattle.std.specs.String.{string_bytes}
use Rattle.ioa_request.specs.declared.code.Code.{Code}
use Rattle.ioac.specs.Remarks.{head_text}
use Rattle.ioac.proofs.remarks.heads.put_differing_head.Goals as goal

behind : (before head words middle after : List ℕ) → middle ≡ before ++ head → after ≡ middle ++ words → after ≡ before ++ (head ++ words)
behind before head words middle after e f = f ∙ ap (λ l. l ++ words) e ∙ append_assoc before head words

pub returns : goal.returns
returns c =
    let head = head_text (codes "log") c.args.line Code.L4 in
    let words = codes "the composition's run differs from here on\n" in
    let first : string_bytes c.put_head.new.text ≡ string_bytes c.args.text.now ++ head = search rules in
    behind (string_bytes c.args.text.now) head words (string_bytes c.put_head.new.text) (string_bytes c.push_str.new.self) first c.in_ok-push_str.ensures.bytes
