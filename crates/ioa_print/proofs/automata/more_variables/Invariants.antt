use Rattle.std.proofs.Common.{◌≡◌, ◌++◌, map, take}
use Rattle.std.specs.String.{string_bytes}
use Rattle.ioa_value.specs.declared.terminal.Terminal.TheVariants as terminals
use Rattle.ioa_print.specs.Layout.{text_more, text_variable}
use Rattle.ioa_tree.specs.View.{variable_of}
use Rattle.ioa_print.proofs.automata.more_variables.Given as goal

abbrev pub invariant-loop-variable : goal.invariant-loop-variable
invariant-loop-variable l = string_bytes l.text ≡ string_bytes l.initial.text ++ text_more terminals.Semicolon text_variable (map variable_of (take l.variable-index l.variables))
