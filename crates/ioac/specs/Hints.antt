-- What is told of an action that no component has: the components that have an entry of its name, as their automata declare it.
use Rattle.std.specs.Prelude.{◌≡◌, ◌++◌, ℕ, Bool, true, false, List, [], ◌∷◌, Option, Some, None, codes, slice_get}
use Rattle.std.specs.Fmt.{decimal}
use Rattle.std.specs.List.{flat_map}
use Rattle.std.specs.Option.{option_map_or}
use Rattle.std.specs.String.{string_bytes}
use Rattle.ioa_value.specs.Actions.{Act, Name}
use Rattle.ioa_tree.specs.Runs.{Ending, done, not_an_action_at, not_enabled_at, fault_at}
use Rattle.ioa_tree.specs.declared.tree.Constant.{Constant}
use Rattle.ioa_tree.specs.declared.tree.Entry.{Entry}
use Rattle.ioa_tree.specs.declared.tree.Position.{Position}
use Rattle.ioa_causes.specs.Entries.{named}
use Rattle.ioa_compose.specs.declared.member.Member.{Member}
use Rattle.ioa_system.specs.Outcomes.{ending_of}
use Rattle.ioa_account.specs.declared.ends.Account.{Account}
use Rattle.ioa_account.specs.declared.remarks.Told.{Told}
use Rattle.ioa_account.specs.Remarks.{IsAccountOf}

-- ---- an entry as it is declared

abbrev pub truth_text : Bool → List ℕ
truth_text true = codes "true"
truth_text false = codes "false"

abbrev pub constant_text : Constant → List ℕ
constant_text (Constant.Number n line) = decimal n
constant_text (Constant.Negative n line) = codes "-" ++ decimal n
constant_text (Constant.Truth b line) = truth_text b
constant_text (Constant.Name x) = string_bytes x.text

abbrev pub typed_text : List ℕ → List ℕ → List ℕ
typed_text x ty = x ++ (codes ": " ++ ty)

abbrev pub position_text : Position → List ℕ
position_text (Position.Typed field) = typed_text (string_bytes field.name.text) (string_bytes field.ty.text)
position_text (Position.Constant constant) = codes "const " ++ constant_text constant

abbrev pub other_text : Position → List ℕ
other_text p = codes ", " ++ position_text p

abbrev pub others_text : List Position → List ℕ
others_text ps = flat_map other_text ps

abbrev pub positions_text : List Position → List ℕ
positions_text [] = []
positions_text (p ∷ ps) = codes "(" ++ (position_text p ++ others_text ps)

abbrev pub closing_text : List Position → List ℕ
closing_text [] = []
closing_text (p ∷ ps) = codes ")"

abbrev pub entry_text : Entry → List ℕ
entry_text e = string_bytes e.name.text ++ (positions_text e.positions.items ++ closing_text e.positions.items)

-- ---- the components that have one of this name

-- a component with one of its entries, on a line
abbrev pub entry_line : Name → Entry → List ℕ
entry_line component e = component ++ (codes " has `" ++ (entry_text e ++ codes "`\n"))

-- the component's first entry of this name; nothing, where it has none
abbrev pub like_line : Name → Member → List ℕ
like_line x m = option_map_or (entry_line (string_bytes m.name)) (named x m.automaton.entries.items) []

abbrev pub like_text : Name → List Member → List ℕ
like_text x ms = flat_map (like_line x) ms

-- ---- of a run that ends at an action that no component has

abbrev pub name_at : List Act → ℕ → Name
name_at acts i = option_map_or (λ (a : Act). a.name) (slice_get acts i) []

-- those that have an entry of the name of the action that is not performed; behind that stand words for people
abbrev pub HintsAt : List Member → List Act → Ending → List ℕ → List ℕ → Type 0
HintsAt ms acts (not_an_action_at i) before after = (rest : List ℕ) × (after ≡ before ++ (like_text (name_at acts i) ms ++ rest))
HintsAt ms acts (done n) before after = after ≡ before
HintsAt ms acts (not_enabled_at i) before after = after ≡ before
HintsAt ms acts (fault_at c f i) before after = after ≡ before

abbrev pub Hints : List Member → List Act → Option Account → List ℕ → List ℕ → Type 0
Hints ms acts None before after = after ≡ before
Hints ms acts (Some a) before after = HintsAt ms acts (ending_of a.end) before after

abbrev pub TellsHint : Told → List Act → List ℕ → List ℕ → Type 0
TellsHint t acts before after = (o : Option Account) × IsAccountOf t.composition.now acts o × Hints t.composition.now.members acts o before after
