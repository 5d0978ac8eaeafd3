-- The names of a program's entries.
use Rattle.std.specs.Prelude.{◌++◌, List, [], ◌∷◌, map, if◌then◌else◌}
use denote.Ref.{Bor}
use Rattle.ioa_value.specs.Actions.{Name}
use Rattle.ioa_value.specs.Table.{contains}
use Rattle.ioa_compile.specs.Programs.{MemberCode}
use Rattle.ioa_compile.specs.Sites.{code_name}

-- each once, in the order in which they come
abbrev pub with_name : List Name → Name → List Name
with_name ns x = if contains ns x then ns else ns ++ x ∷ []

abbrev pub with_names : List Name → List Name → List Name
with_names ns [] = ns
with_names ns (x ∷ xs) = with_names (with_name ns x) xs

abbrev pub names_from : List Name → List MemberCode → List Name
names_from ns [] = ns
names_from ns (m ∷ ms) = names_from (with_names ns (map code_name m.entries)) ms

abbrev pub names_of : List MemberCode → List Name
names_of ms = names_from [] ms

-- names that are lent
abbrev pub shown : List (Bor Name) → List Name
shown ns = map (λ n. n.now) ns
