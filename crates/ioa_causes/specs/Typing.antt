-- What is told of an expression that has another type than its place wants.
use Rattle.std.specs.Prelude.{◌≡◌, ◌++◌, ◌==◌, ℕ, if◌then◌else◌, List, [], Option, Some, codes, map, slice_get, take}
use Rattle.std.specs.Fmt.{decimal}
use Rattle.std.specs.Option.{option_map_or}
use Rattle.ioa_value.specs.Actions.{Name}
use Rattle.ioa_value.specs.declared.value.Ty.{Ty}
use Rattle.ioa_value.specs.Spelling.{spelling_of}
use Rattle.ioa_value.specs.Table.{Table, fields_of, shape_at, type_name}
use Rattle.ioa_lex.specs.declared.token.Token.{Token}
use Rattle.ioa_lex.specs.Spaced.{text_of}
use Rattle.ioa_lex.specs.Tokens.{kind_shown}
use Rattle.ioa_tree.specs.Tree.{Expr}
use Rattle.ioa_tree.specs.declared.tree.Declaration.{Declaration}
use Rattle.ioa_tree.specs.declared.tree.Expression.{Expression}
use Rattle.ioa_tree.specs.declared.tree.Expression.TheVariants as expressions
use Rattle.ioa_tree.specs.Types.{types_of}
use Rattle.ioa_tree.specs.View.{expr_of, field_of, first_line, name_of, position_of, tree_of, variable_of}
use Rattle.ioa_tree.specs.WellFormed as well_formed
use Rattle.ioa_rules.specs.Loops.{loops_of}
use Rattle.ioa_rules.specs.Scopes.{context_in}
use Rattle.ioa_causes.specs.declared.typing.Scope.{Scope}
use Rattle.ioa_causes.specs.declared.typing.Misfit.{Misfit}
use Rattle.ioa_causes.specs.declared.typing.Part.{Part}
use Rattle.ioa_causes.specs.declared.typing.Wanted.{Wanted}
use Rattle.ioa_causes.specs.Words.{quoted}

-- the type that the rules give an expression of these names, if they give one
abbrev pub type_in : Scope → Expr → Option ℕ
type_in s e =
    well_formed.type_of s.types.now s.types.now
    (context_in s.types.now (loops_of s.loops) (map (λ v. v.field) (map variable_of s.variables.now)) (map field_of s.formals.now) (map position_of s.positions.now)) e

-- what is told to be found is the type of the expression that is told
abbrev pub IsFound : Scope → Misfit → Type 0
IsFound s (Misfit.Type part wanted expression found) = type_in s (expr_of expression.now) ≡ Some found.0
IsFound s (Misfit.Any name ty index) = Unit {0}
IsFound s (Misfit.NoTuples name) = Unit {0}
IsFound s (Misfit.NoSequences name) = Unit {0}
IsFound s (Misfit.Count name wanted given) = Unit {0}

-- by names whose types are these
abbrev pub IsFoundOver : Table → Misfit → Type 0
IsFoundOver types m = (s : Scope) × (s.types.now ≡ types) × IsFound s m

-- ---- in which words

abbrev pub counted : ℕ → List ℕ → List ℕ → List ℕ
counted n one other = if n == 1 then one else other

-- the name of the field at this place of a tuple
abbrev pub field_name : Table → ℕ → ℕ → Name
field_name types tuple place = option_map_or (λ f. f.name) (slice_get (fields_of (shape_at types tuple)) place) []

-- what wants another type
abbrev pub part_text : Table → Part → List ℕ
part_text types (Part.Named x) = quoted (name_of x.now)
part_text types Part.Precondition = codes "a precondition"
part_text types Part.Condition = codes "a condition"
part_text types Part.Invariant = codes "an invariant"
part_text types Part.Bound = codes "the bound of `any`"
part_text types (Part.Word w) = quoted (spelling_of w)
part_text types (Part.Field tuple place) = codes "the field `" ++ (field_name types tuple.0 place ++ (codes "` of " ++ type_name types tuple.0))

abbrev pub verb : Part → List ℕ
verb (Part.Word w) = codes "wants"
verb (Part.Named x) = codes "is of"
verb Part.Precondition = codes "is of"
verb Part.Condition = codes "is of"
verb Part.Invariant = codes "is of"
verb Part.Bound = codes "is of"
verb (Part.Field tuple place) = codes "is of"

-- which types it wants
abbrev pub wanted_text : Table → Part → Wanted → List ℕ
wanted_text types part (Wanted.One ty) = codes " " ++ (verb part ++ (codes " type " ++ (type_name types ty.0 ++ codes ", and ")))
wanted_text types part Wanted.Sequence = codes " wants a sequence here, and "
wanted_text types part (Wanted.SequenceOf ty) = codes " wants a sequence of " ++ (type_name types ty.0 ++ codes " here, and ")
wanted_text types part Wanted.Tuple = codes " wants a tuple here, and "
wanted_text types part Wanted.ItemAndSequence = codes " wants a value and then a sequence of such values, and "
wanted_text types part Wanted.Others = codes " wants another type here, and "

-- an expression: its token, or the first of several
abbrev pub beginning : Expression → List ℕ
beginning (expressions.Number n line) = []
beginning (expressions.Truth b line) = []
beginning (expressions.Name x) = []
beginning (expressions.Parentheses' p e line) = codes "what begins with "
beginning (expressions.Prefix' o p e line) = codes "what begins with "
beginning (expressions.Binary' p l o q r line) = codes "what begins with "
beginning (expressions.Empty x line) = codes "what begins with "
beginning (expressions.Make' x shape fields) = codes "what begins with "
beginning (expressions.Select' p e x line) = codes "what begins with "

abbrev pub first_text : Expression → Token → List ℕ
first_text e t = beginning e ++ quoted (text_of (kind_shown t.kind))

abbrev pub expression_text : List Token → Expression → List ℕ
expression_text ts e = option_map_or (first_text e) (slice_get ts (first_line e)) []

-- and its type
abbrev pub type_text : Table → Ty → List ℕ
type_text types found = codes " is of type " ++ type_name types found.0

abbrev pub found_text : Table → List Token → Expression → Ty → List ℕ
found_text types ts e found = expression_text ts e ++ type_text types found

abbrev pub any_text : Table → Name → Ty → List ℕ
any_text types x ty = codes "`any` gives an Int, and `" ++ (x ++ (codes "` is of type " ++ type_name types ty.0))

abbrev pub no_tuples_text : Name → List ℕ
no_tuples_text x = codes "`" ++ (x ++ codes "` is no type of tuples")

abbrev pub no_sequences_text : Name → List ℕ
no_sequences_text x = codes "`empty` wants a type of sequences, and `" ++ (x ++ codes "` is none")

abbrev pub count_text : Name → ℕ → ℕ → List ℕ
count_text x wanted given =
    x ++ (codes " has " ++ (decimal wanted ++ (codes " " ++ (counted wanted (codes "field") (codes "fields") ++ (codes ", and " ++ (decimal given ++ (codes " " ++ (counted given (codes "is") (codes "are") ++ codes " given"))))))))

abbrev pub misfit_text : Table → List Token → Misfit → List ℕ
misfit_text types ts (Misfit.Type part wanted expression found) = part_text types part ++ (wanted_text types part wanted ++ found_text types ts expression.now found)
misfit_text types ts (Misfit.Any x ty index) = any_text types (name_of x.now) ty
misfit_text types ts (Misfit.NoTuples x) = no_tuples_text (name_of x.now)
misfit_text types ts (Misfit.NoSequences x) = no_sequences_text (name_of x.now)
misfit_text types ts (Misfit.Count x wanted given) = count_text (name_of x.now) wanted given

-- a misfit over the types that some first declarations of the source know
abbrev pub TellsMistyped : List Token → List Declaration → List ℕ → Type 0
TellsMistyped ts ds words =
    (n : ℕ) × (types : Table) × (m : Misfit) × (types ≡ types_of (tree_of (take n ds))) × IsFoundOver types m × (words ≡ misfit_text types ts m)
