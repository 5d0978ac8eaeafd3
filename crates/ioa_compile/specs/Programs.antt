-- Programs: what an object of a composition says, and no more. No tree is in them.
use Rattle.std.specs.Prelude.{List, Option}
use Rattle.ioa_value.specs.Actions.{Name}
use Rattle.ioa_value.specs.Positions.{Domain}
use Rattle.ioa_value.specs.Table.{Table}
use Rattle.ioa_code.specs.Valid.{Part}
use Rattle.ioa_parts.specs.Nodes.{Node}
use Rattle.ioa_tree.specs.declared.tree.Kind.{Kind}

-- an entry: the values that stand in its positions, and the code of its precondition and of its proposals, where it is locally
-- controlled, and of its effect
pub record EntryCode : Type 0 where
  pub kind : Kind
  pub name : Name
  pub positions : List Domain
  pub pre : Option Part
  pub propose : Option Part
  pub effect : Part

-- a component: the types and start values of its variables, and its entries
pub record MemberCode : Type 0 where
  pub name : Name
  pub start : Node
  pub entries : List EntryCode

-- the declared types, the composition's name, its components in order, and the names that are hidden
pub record Prog : Type 0 where
  pub types : Table
  pub name : Name
  pub members : List MemberCode
  pub hidden : List Name
