-- What a component chooses to do, by the words that it takes.
use Rattle.std.specs.Prelude.{◌≡◌, ◌+◌, ℕ, List, [], Option, All, IfSome, map}
use Rattle.ioa_value.specs.Actions.{Act}
use Rattle.ioa_value.specs.Plain.{Val}
use Rattle.ioa_code.specs.Valid.{Part}
use Rattle.ioa_code.specs.declared.instr.PartKind.TheVariants.{Propose}
use Rattle.ioa_parts.specs.Nodes.{Node}
use Rattle.ioa_tree.specs.Proposing.{Words}
use Rattle.ioa_compile.specs.Programs.{EntryCode}
use Rattle.ioa_run.specs.Proposers.{by_code, tried}
use Rattle.ioa_run.specs.Turns.{after, chosen}

-- the code is a proposal's, over the state's types
pub record IsOfState (n : Node) (part : Part) : Type 0 where
  pub kind : part.kind ≡ Propose
  pub args : part.args ≡ []
  pub table : n.table ≡ part.code.types
  pub types : n.types ≡ part.slots

abbrev pub AreOfState : Node → List EntryCode → Type 0
AreOfState n es = All (λ e. IfSome e.propose (IsOfState n)) es

-- the entry's code gives this action or none with these words, whatever words were taken before them, and leaves these words
pub record GivesAction (e : EntryCode) (s : List Val) (words : Words) (a : Option Act) (rest : Words) : Type 0 where
  pub taken : ℕ
  pub gives : (earlier : Words) (n : ℕ) → after n earlier ≡ words → by_code e e.propose s earlier n ≡ tried a (n + taken)
  pub left : rest ≡ after taken words

-- the component with these local entries chooses this action or none, and leaves these words
pub record Chooses (es : List EntryCode) (s : List Val) (words : Words) (a : Option Act) (rest : Words) : Type 0 where
  pub taken : ℕ
  pub chooses : chosen (map (λ e. by_code e e.propose) es) s words ≡ tried a taken
  pub left : rest ≡ after taken words
