-- What a graph of a program writes: its components and who tells whom what, in the form that Graphviz reads.
use Rattle.std.specs.Prelude.{ℕ, ◌&&◌, Bool, true, false, List, [], ◌∷◌, ◌++◌, codes, length, if◌then◌else◌}
use Rattle.std.specs.Fmt.{decimal}
use Rattle.std.specs.List.{flat_map, list_any}
use Rattle.std.specs.Str.{bytes_eq}
use Rattle.ioa_value.specs.Actions.{Name}
use Rattle.ioa_value.specs.Positions.{all_meet}
use Rattle.ioa_value.specs.Table.{Table}
use Rattle.ioa_tree.specs.declared.tree.Kind.{Kind}
use Rattle.ioa_tree.specs.declared.tree.Kind.TheVariants.{Input, Output, Internal}
use Rattle.ioa_compile.specs.Programs.{EntryCode, MemberCode, Prog}
use Rattle.ioa_picture.specs.Lines.{numbered, numbers}

-- ---- who has an action of an entry

-- the kinds are the same
abbrev pub is_kind : Kind → Kind → Bool
is_kind Input Input = true
is_kind Input Output = false
is_kind Input Internal = false
is_kind Output Input = false
is_kind Output Output = true
is_kind Output Internal = false
is_kind Internal Input = false
is_kind Internal Output = false
is_kind Internal Internal = true

-- the other entry is of this kind, and some action is of both
abbrev pub shares : Table → Kind → EntryCode → EntryCode → Bool
shares types kind e other = is_kind kind other.kind && (bytes_eq e.name other.name && all_meet types e.positions other.positions)

-- the component has an action of the entry, by an entry of this kind
abbrev pub has_of : Table → Kind → EntryCode → MemberCode → Bool
has_of types kind e m = list_any (shares types kind e) m.entries

-- the numbers of the components that have an action of the entry as input
abbrev pub takers : Prog → EntryCode → List ℕ
takers p e = numbers (has_of p.types Input e) 0 p.members

-- an output of a component is an action of the entry
abbrev pub is_given : Prog → EntryCode → Bool
is_given p e = list_any (has_of p.types Output e) p.members

-- ---- components

-- an internal name is a line more in a label
abbrev pub internal_text : EntryCode → List ℕ
internal_text e = if is_kind Internal e.kind then codes "\\ninternal " ++ e.name else []

-- a component has its internal names below its own
abbrev pub member_head : ℕ → Name → List ℕ
member_head n x = codes "  P" ++ (decimal n ++ (codes " [label=\"" ++ x))

abbrev pub member_line : ℕ → MemberCode → List ℕ
member_line n m = member_head n m.name ++ (flat_map internal_text m.entries ++ codes "\"];\n")

abbrev pub environment_line : ℕ → List ℕ
environment_line n = codes "  P" ++ (decimal n ++ codes " [label=\"environment\", shape=ellipse];\n")

-- ---- edges

-- an edge with its label, and what else it has
abbrev pub edge : ℕ → Name → List ℕ → ℕ → List ℕ
edge from x style to =
    codes "  P" ++ (decimal from ++ (codes " -> P" ++ (decimal to ++ (codes " [label=\"" ++ (x ++ (codes "\"" ++ (style ++ codes "];\n")))))))

-- an edge of a hidden name is dashed
abbrev pub style_of : Prog → Name → List ℕ
style_of p x = if list_any (λ h. bytes_eq h x) p.hidden then codes ", style=dashed" else []

-- an edge to each of these, or to the environment where there are none
abbrev pub edges_to : Prog → ℕ → Name → List ℕ → List ℕ
edges_to p from x [] = edge from x (style_of p x) (length p.members)
edges_to p from x (to ∷ more) = flat_map (edge from x (style_of p x)) (to ∷ more)

-- an output goes to those that take it
abbrev pub output_edges : Prog → ℕ → EntryCode → List ℕ
output_edges p n e = edges_to p n e.name (takers p e)

-- an input comes from the environment where no component gives it
abbrev pub input_edges : Prog → ℕ → EntryCode → List ℕ
input_edges p n e = if is_given p e then [] else edge (length p.members) e.name [] n

abbrev pub edges_of : Kind → Prog → ℕ → EntryCode → List ℕ
edges_of Output p n e = output_edges p n e
edges_of Input p n e = input_edges p n e
edges_of Internal p n e = []

abbrev pub entry_edges : Prog → ℕ → EntryCode → List ℕ
entry_edges p n e = edges_of e.kind p n e

abbrev pub member_edges : Prog → ℕ → MemberCode → List ℕ
member_edges p n m = flat_map (entry_edges p n) m.entries

-- ---- the whole

abbrev pub head : Name → List ℕ
head x = codes "digraph \"" ++ (x ++ codes "\" {\n  node [shape=box];\n")

-- the components, the environment, which has their number, and the edges of each component's entries, in order
abbrev pub graph : Prog → List ℕ
graph p =
    head p.name ++ (numbered member_line 0 p.members ++ (environment_line (length p.members) ++ (numbered (member_edges p) 0 p.members ++ codes "}\n")))
