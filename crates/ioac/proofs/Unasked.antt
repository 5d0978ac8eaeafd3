-- What the words of a command line ask for, by what is read of them.
use Rattle.std.proofs.Common.{◌≡◌, List, Option, inr, sym, subst}
use Rattle.clap.specs.Words.{Row, Text, subcommand_of}
use Rattle.ioa_device.specs.Devices.{Change, Untouched}
use Rattle.ioa_serving.specs.declared.status.Status.{Status}
use Rattle.ioa_request.specs.declared.request.Request.{Request}
use Rattle.ioa_request.specs.CommandLine.{HasNoFault, IsAskedBy, ioac_app}
use Rattle.ioac.specs.Commands.{IsUnasked}
use Rattle.ioac.specs.Telling.{IsTold, unasked_text}

-- where the matches give no request, the words ask for none
pub is_unasked : (words : List Text) (rows : Option (Text × List Row)) (output errors : Change) (status : Status) → rows ≡ subcommand_of ioac_app words → HasNoFault words
    → ((request : Request) → IsAskedBy rows request → ⊥) → Untouched output → IsTold (unasked_text rows) Status.BadCommandLine errors status → IsUnasked words output errors status
is_unasked words rows output errors status same free none keeps tells =
    inr (
      free,
      (λ request asks. none request (subst (λ o. IsAskedBy o request) (sym same) asks.1)),
      keeps,
      subst (λ o. IsTold (unasked_text o) Status.BadCommandLine errors status) same tells,
    )
