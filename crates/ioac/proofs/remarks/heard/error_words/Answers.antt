use Rattle.std.proofs.Common.{List, ℕ, Option, Some, None, Result, Ok, Err, IfOk, IfSome, option_map, string_bytes, sym, subst}
use Rattle.ioac.specs.Heard.{TellsLogErr}
use Rattle.ioac.specs.Owners.{TellsOwner}
use Rattle.ioac.proofs.remarks.heard.error_words.Goals as goal

-- what is found is told by its bytes
shown : {X E : Type 0} (bytes : X → List ℕ) (P : List ℕ → Type 0) (r : Result (Option X) E) → IfOk r (λ found. IfSome found (λ words. P (bytes words)))
    → IfOk r (λ found. IfSome (option_map bytes found) P)
shown bytes P (Ok None) tells = tt
shown bytes P (Ok (Some words)) tells = tells
shown bytes P (Err e) tells = tt

pub returns-in-WrongOwner : goal.returns-in-WrongOwner
returns-in-WrongOwner c =
    let heard = c.args.heard in
    subst (λ e. IfOk c.owner_words.result (λ found. TellsLogErr e c.args.asked.now c.args.program.now heard.is_log heard.bytes.now heard.line c.args.line.now (option_map string_bytes found)))
    (sym c.in-WrongOwner.is)
    (shown string_bytes (TellsOwner c.args.program.now heard.bytes.now heard.line) c.owner_words.result c.owner_words.ensures)
