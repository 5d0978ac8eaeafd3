-- The inputs of a component, by their signature, as the source declares it.
use Rattle.std.specs.Prelude.{ℕ, ◌++◌, List, [], ◌∷◌, Bool, true, false, codes}
use Rattle.std.specs.Fmt.{decimal}
use Rattle.std.specs.List.{flat_map}
use Rattle.ioa_value.specs.Actions.{Name}
use Rattle.ioa_tree.specs.declared.tree.Kind.{Kind}
use Rattle.ioa_tree.specs.declared.tree.Kind.TheVariants.{Input, Output, Internal}
use Rattle.ioa_tree.specs.Tree.{ConstantTree, positive, negative, truth_literal, reference, FieldTree, PositionTree, typed, only, EntryTree}

abbrev pub text_of_constant : ConstantTree → List ℕ
text_of_constant (positive n) = decimal n
text_of_constant (negative n) = codes "-" ++ decimal n
text_of_constant (truth_literal true) = codes "true"
text_of_constant (truth_literal false) = codes "false"
text_of_constant (reference x) = x

-- a parameter with its type, or a constant
abbrev pub position_text : PositionTree → List ℕ
position_text (typed f) = f.name ++ (codes ": " ++ f.ty)
position_text (only c) = codes "const " ++ text_of_constant c

-- those behind the first
abbrev pub more_text : PositionTree → List ℕ
more_text p = codes ", " ++ position_text p

abbrev pub more_texts : List PositionTree → List ℕ
more_texts ps = flat_map more_text ps

-- in parentheses, where there are any
abbrev pub positions_text : List PositionTree → List ℕ
positions_text [] = []
positions_text (p ∷ ps) = codes "(" ++ (position_text p ++ (more_texts ps ++ codes ")"))

abbrev pub input_line : Name → EntryTree → List ℕ
input_line x e = x ++ (codes ": input " ++ (e.name ++ (positions_text e.positions ++ codes "\n")))

-- nothing is told of an entry that is no input
abbrev pub if_input : Kind → List ℕ → List ℕ
if_input Input line = line
if_input Output line = []
if_input Internal line = []

abbrev pub input_lines : Name → EntryTree → List ℕ
input_lines x e = if_input e.kind (input_line x e)
