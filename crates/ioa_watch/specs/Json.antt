-- Ends as members of a JSON object.
use Rattle.std.specs.Prelude.{ℕ, ◌++◌, List, codes}
use Rattle.std.specs.Fmt.{decimal}
use Rattle.ioa_arithmetic.specs.Arithmetic.{fault_number}
use Rattle.ioa_tree.specs.Runs.{Ending, done, not_an_action_at, not_enabled_at, fault_at}

-- which end it is, and the members with its numbers
abbrev pub ending_json : Ending → List ℕ
ending_json (done n) = codes "\"done\",\"count\":" ++ decimal n
ending_json (not_an_action_at i) = codes "\"not an action\",\"index\":" ++ decimal i
ending_json (not_enabled_at i) = codes "\"not enabled\",\"index\":" ++ decimal i
ending_json (fault_at c f i) =
    codes "\"fault\",\"fault\":" ++ (decimal (fault_number f) ++ (codes ",\"component\":" ++ (decimal c ++ (codes ",\"index\":" ++ decimal i))))
