-- How the parts of an entry end, in terms of what its transition means.
use Rattle.std.specs.Prelude.{ℕ, ◌⊎◌, true, List, [], ◌∷◌, Option, Some, None}
use Rattle.ioa_arithmetic.specs.declared.arithmetic.Fault.{Fault}
use Rattle.ioa_value.specs.Operators.{Answer, gives, faults, nothing}
use Rattle.ioa_value.specs.Plain.{Val, truth}
use Rattle.ioa_code.specs.Machine.{State, done, fault, idle}
use Rattle.ioa_code.specs.Valid.{Part}
use Rattle.ioa_parts.specs.Proposals.{proposing}
use Rattle.ioa_parts.specs.Runs.{Comes, start}
use Rattle.ioa_value.specs.Table.{Table}
use Rattle.ioa_tree.specs.Tree.{Expr}
use Rattle.ioa_tree.specs.Meaning.{Env, val, Outcome, becomes, breaks, nowhere, kept}
use Rattle.ioa_tree.specs.Instances.{Instance, variable_names}
use Rattle.ioa_tree.specs.Proposing as meaning
use Rattle.ioa_tree.specs.Proposing.{Words, Tried, tries}
use Rattle.ioa_compile.specs.Correspondence.{Corresponds}

-- an omitted precondition is true
abbrev pub required : Table → Option Expr → Env → Answer
required types None env = gives (truth true)
required types (Some e) env = val types e env

-- a precondition's part ends with the expression's value on the stack, or by its fault
abbrev pub GuardEnds : Part → List Val → List Val → Answer → Type 0
GuardEnds part slots args (gives v) = Comes part (start slots args) (done (v ∷ []) slots 0)
GuardEnds part slots args (faults f) = Comes part (start slots args) (fault f 0)
GuardEnds part slots args nothing = ⊥

-- an effect's part ends with the variables as the statements leave them, or by their fault
abbrev pub EffectEnds : Instance → Part → List Val → List Val → Outcome → Type 0
EffectEnds i part slots args (becomes env) =
    (after : List Val) × Corresponds i (kept (variable_names i.automaton) env) after × Comes part (start slots args) (done [] after 0)
EffectEnds i part slots args (breaks f) = Comes part (start slots args) (fault f 0)
EffectEnds i part slots args nowhere = ⊥

-- where there is nothing to try, the part ends idle, or by a fault
abbrev pub GivesUp : Part → State → ℕ → Type 0
GivesUp part s taken = Comes part s (idle taken) ⊎ ((f : Fault) × Comes part s (fault f taken))

-- a part of proposals ends with the values that are tried on the stack, and takes the words that these take
abbrev pub ProposalEnds : Part → List Val → Words → Tried (List Val) → Type 0
ProposalEnds part slots words (tries vs taken) = Comes part (proposing slots words) (done vs slots taken)
ProposalEnds part slots words (meaning.idle taken) = GivesUp part (proposing slots words) taken
