-- Which fault a condition has.
use Rattle.std.specs.Prelude.{Option, Some, None}
use Rattle.ioa_arithmetic.specs.declared.arithmetic.Fault.{Fault}
use Rattle.ioa_value.specs.Operators.{Answer, gives, faults, nothing}
use Rattle.ioa_value.specs.Table.{Table}
use Rattle.ioa_tree.specs.Tree.{Expr}
use Rattle.ioa_tree.specs.Meaning.{Env, over, val}
use Rattle.ioa_tree.specs.Instances.{Instance, formal_values}

-- the fault that is answered, if one is
abbrev pub fault_of : Answer → Option Fault
fault_of (gives v) = None
fault_of (faults f) = Some f
fault_of nothing = None

-- the condition's fault in this state of the instance, by these types
abbrev pub condition_fault : Table → Instance → Expr → Env → Option Fault
condition_fault types i condition s = fault_of (val types condition (over s (formal_values i)))
