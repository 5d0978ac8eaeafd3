use Rattle.std.proofs.Common.{◌∙◌, ◌++◌, List, ℕ, ap₂, string_bytes}
use Rattle.std.proofs.lemmas.Result.{on_ok_weaker}
use Rattle.ioa_enabled.specs.Next.{headed}
use Rattle.ioa_enabled.proofs.next.put_next.Goals as goal

pub returns : goal.returns
returns c =
    on_ok_weaker c.put_headed.result
    (λ put h hs over stands means held.
    put
    ∙ ap₂ (λ (enabled own : List ℕ). string_bytes c.args.text.now ++ headed enabled own)
    (c.as_str.ensures.value ∙ c.in_ok-enabled.ensures h hs over stands means held) (c.as_str-2.ensures.value ∙ c.in_ok-own.ensures h hs over stands means held))
    c.put_headed.ensures
