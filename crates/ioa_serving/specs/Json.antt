-- Answers as JSON objects, an object a line.
use Rattle.std.specs.Prelude.{ℕ, ◌++◌, List, Option, Some, None, codes}
use Rattle.std.specs.Fmt.{decimal}
use Rattle.ioa_tree.specs.Invariants.{Broken}
use Rattle.ioa_tree.specs.Runs.{Ending}
use Rattle.ioa_watch.specs.Json.{ending_json}

-- what accepts all, or why it does not
abbrev pub answer_json : Option Ending → List ℕ
answer_json None = codes "\"ok\""
answer_json (Some end) = ending_json end

-- that an invariant is broken, with its number, its component, and how many actions are performed before the state that breaks it
abbrev pub broken_json : Broken → List ℕ
broken_json b =
    codes "\"broken\",\"invariant\":" ++ (decimal b.invariant ++ (codes ",\"component\":" ++ (decimal b.component ++ (codes ",\"count\":" ++ decimal b.state))))

-- an object with a verdict
abbrev pub verdict_line : List ℕ → List ℕ
verdict_line verdict = codes "{\"verdict\":" ++ (verdict ++ codes "}\n")
