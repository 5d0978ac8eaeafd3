-- What stands in the labels of pictures: printed bytes alone, none of which Mermaid or Graphviz reads as more than text.
use Rattle.ioa_value.specs.Actions.{Act, Name}
use Rattle.ioa_value.specs.Names.{IsName}
use Rattle.ioa_value.specs.Table.{AreTypes, Table}
use Rattle.ioa_value.specs.Written.{written_action}
use Rattle.ioa_tree.specs.Runs.{Ending}
use Rattle.ioa_system.specs.Endings.{ending_text}
use Rattle.ioa_system.specs.PrintedBytes.{IsPrinted}

-- so are names, the spelling of actions, and ends
abbrev pub NamesAreLabels : Type 0
NamesAreLabels = (x : Name) → IsName x → IsPrinted x

abbrev pub ActionsAreLabels : Type 0
ActionsAreLabels = (types : Table) (a : Act) → AreTypes types → IsName a.name → IsPrinted (written_action types a)

abbrev pub EndsAreLabels : Type 0
EndsAreLabels = (end : Ending) → IsPrinted (ending_text end)
