-- Loops that stand within each other, by their names and the types of their items.
use Rattle.std.specs.Prelude.{ℕ, [], ◌∷◌, Option, Some, None, if◌then◌else◌}
use Rattle.std.specs.Str.{bytes_eq}
use Rattle.ioa_value.specs.Actions.{Name}
use Rattle.ioa_tree.specs.View.{name_of}
use Rattle.ioa_tree.specs.WellFormed.{Context}
use Rattle.ioa_rules.specs.declared.loops.Loop.{Loop}
use Rattle.ioa_rules.specs.declared.loops.Loops as declared
use Rattle.ioa_rules.specs.declared.loops.Loops.TheVariants as variants

abbrev pub loop_of : Loop → Name × ℕ
loop_of l = (name_of l.name.now, l.item.0)

-- the innermost first
abbrev pub loops_of : declared.Loops → Context
loops_of variants.None = []
loops_of (variants.One a) = loop_of a ∷ []
loops_of (variants.Two a b) = loop_of a ∷ loop_of b ∷ []
loops_of (variants.Three a b c) = loop_of a ∷ loop_of b ∷ loop_of c ∷ []

-- the type of its items, where the loop has this name
abbrev pub item_under : Loop → Name → Option ℕ
item_under l x = if bytes_eq (name_of l.name.now) x then Some l.item.0 else None
