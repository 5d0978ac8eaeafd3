-- What a replay is asked to tell of the states in which it ends.
use Rattle.std.specs.Prelude.{Bool, true, false, Option, Some, None}
use Rattle.ioa_request.specs.declared.shown.Shown.{Shown}

-- by whether the states are asked for, and what is enabled in them
abbrev pub shown_in : Bool → Bool → Option Shown
shown_in false false = None
shown_in true false = Some Shown.States
shown_in false true = Some Shown.Enabled
shown_in true true = Some Shown.Both
