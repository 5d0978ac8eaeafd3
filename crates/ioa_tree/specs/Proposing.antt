-- What a transition proposes: values of its entry's parameters to try next. Chance gives words, whole numbers without end, of which as
-- many are taken as are asked for.
use Rattle.std.specs.Prelude.{ℕ, zero, suc, ◌+◌, ◌==◌, ◌%◌, pos, negsuc, List, [], ◌∷◌, length, find, Option, Some, None}
use Rattle.std.specs.Option.{option_map_or}
use Rattle.std.specs.Str.{bytes_eq}
use Rattle.ioa_value.specs.Plain.{Val, truth, num, name, tuple, items}
use Rattle.ioa_value.specs.Table.{Table, Shape, truths, numbers, names, fields, sequence, shape_at, type_named}
use Rattle.ioa_value.specs.Operators.{Answer, gives, faults, nothing}
use Rattle.ioa_tree.specs.Tree.{FieldTree, PositionTree, typed, only, EntryTree, ChoiceTree, exactly, any_below, ProposalTree}
use Rattle.ioa_tree.specs.Meaning.{Env, over, val}
use Rattle.ioa_tree.specs.Instances.{Instance, formal_values, transition_for}

-- word number n, from 0
abbrev pub Words : Type 0
Words = ℕ → ℕ

-- what is tried, or that there is nothing to try, and how many words were taken
pub data Tried (X : Type 0) : Type 0 where
  tries : X → (taken : ℕ) → Tried X
  idle : (taken : ℕ) → Tried X

-- goes on with what is tried, and with the words after those taken
abbrev pub then_try : {X Y : Type 0} → Tried X → (X → ℕ → Tried Y) → Tried Y
then_try (tries x taken) go = go x taken
then_try (idle taken) go = idle taken

-- an expression's value; there is nothing to try where it faults
abbrev pub exact : Answer → ℕ → Tried Val
exact (gives v) taken = tries v taken
exact (faults f) taken = idle taken
exact nothing taken = idle taken

module _ (words : Words) where
  -- the remainder of a word by a number from 1; below 1 there is nothing to try, and no word is taken
  abbrev pub below : Val → ℕ → Tried Val
  below (num (pos zero)) taken = idle taken
  below (num (pos (suc n))) taken = tries (num (pos (words taken % suc n))) (taken + 1)
  below (num (negsuc n)) taken = idle taken
  below (truth b) taken = idle taken
  below (name ty n) taken = idle taken
  below (tuple ty vs) taken = idle taken
  below (items ty vs) taken = idle taken

  -- the value of a Bool or of an enumeration whose number is the remainder of a word by how many there are; false is number 0
  abbrev pub numbered : ℕ → Option Shape → ℕ → Tried Val
  numbered ty (Some truths) taken = tries (truth (words taken % 2 == 1)) (taken + 1)
  numbered ty (Some numbers) taken = idle taken
  numbered ty (Some (names ns)) taken = tries (name ty (words taken % length ns)) (taken + 1)
  numbered ty (Some (fields fs)) taken = idle taken
  numbered ty (Some (sequence most of)) taken = idle taken
  numbered ty None taken = idle taken

  module _ (types : Table) (env : Env) where
    abbrev pub choice : ChoiceTree → ℕ → Tried Val
    choice (exactly e) taken = exact (val types e env) taken
    choice (any_below e) taken = then_try (exact (val types e env) taken) below

    -- what the parameter's proposal gives, or else a value by its number
    abbrev pub parameter : List ProposalTree → FieldTree → ℕ → Tried Val
    parameter ps f taken =
        option_map_or (λ p. choice p.choice taken)
        (find (λ p. bytes_eq p.name f.name) ps)
        (option_map_or (λ ty. numbered ty (shape_at types ty) taken) (type_named types f.ty) (idle taken))

    -- the parameters in the entry's order, as long as there is something to try; constants of positions take no word
    abbrev pub parameters : List ProposalTree → List PositionTree → ℕ → Tried (List Val)
    parameters ps [] taken = tries [] taken
    parameters ps (typed f ∷ rest) taken =
        then_try (parameter ps f taken) (λ v after. then_try (parameters ps rest after) (λ vs. tries (v ∷ vs)))
    parameters ps (only c ∷ rest) taken = parameters ps rest taken

-- the values of the entry's parameters to try in a state: proposals name variables and formals
abbrev pub proposed : Instance → EntryTree → Env → Words → ℕ → Tried (List Val)
proposed i e s words taken =
    option_map_or (λ r. parameters words i.types (over (formal_values i) s) r.proposals e.positions taken) (transition_for i.automaton e) (idle taken)
