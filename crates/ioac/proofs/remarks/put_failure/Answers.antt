use Rattle.std.proofs.Common.{◌≡◌, ℕ, List, Result, Ok, Err, OnOk, string_bytes}
use Rattle.ioa_value.specs.Actions.{Name}
use Rattle.ioa_device.specs.declared.failure.LogErr.{LogErr}
use Rattle.ioa_request.specs.declared.request.Request.{Request}
use Rattle.ioa_serving.specs.declared.failure.Failure.{Failure}
use Rattle.ioac.specs.Refused.{IsFailureRemark, IsToldAt}
use Rattle.ioac.specs.Remarks.{IsDifference}
use Rattle.ioac.proofs.remarks.put_failure.Goals as goal

-- of a log that differs, and of what is told else
told : {A E : Type 0} (r : Result A E) (holds : Name → List ℕ → Type 0) (lacks : Name → Type 0) (request : Request) (input : List ℕ) (e : Failure) (before text : List ℕ)
    → ((n : ℕ) → e ≡ Failure.List (LogErr.Diverges n) → OnOk r (IsDifference holds lacks request input n before text))
    → (((n : ℕ) → e ≡ Failure.List (LogErr.Diverges n) → ⊥) → OnOk r (IsToldAt holds lacks request input e before text))
    → OnOk r (IsFailureRemark holds lacks request input e before text)
told (Ok x) holds lacks request input e before text differs tells = record { differs = differs; told = λ no other. tells no }
told (Err x) holds lacks request input e before text differs tells = tt

pub returns-in_default : goal.returns-in_default
returns-in_default g c =
    told c.put-in_default.result (g.F.Store.holds c.args.store.now) (g.F.Store.lacks c.args.store.now) c.args.asked.now c.args.input.now c.args.failure.now
    (string_bytes c.args.text.now) (string_bytes c.put-in_default.new.text) c.put-in_default.ensures.differs c.put-in_default.ensures.told
