use Rattle.std.proofs.Common.{◌≡◌, ℕ, IfOk, List, Vec, ap, subst, true}
use Rattle.std.specs.Global.{Global}
use Rattle.ioa_system.specs.Outcomes.{ending_of}
use Rattle.ioa_serving.specs.Objects.{rendered}
use Rattle.ioa_serving.proofs.covered.in_form.Goals as goal

pub returns-then-json : goal.returns-then-json
returns-then-json c =
    rw c.if-json.true
    (subst (λ (t : List ℕ). IfOk c.rendered.result (λ written. written.items ≡ rendered true t (ending_of c.args.end))) c.as_bytes.ensures.value c.rendered.ensures)

pub returns : goal.returns
returns c = rw c.if-json.false (ap (λ (v : Vec ℕ Global). v.items) c.into_bytes.ensures.value)
