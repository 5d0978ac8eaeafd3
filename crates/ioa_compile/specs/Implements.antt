-- When a program means a composition: its components do the same, and start alike.
use Rattle.std.specs.Prelude.{◌≡◌}
use Rattle.std.specs.List.{AllZip}
use Rattle.ioa_tree.specs.Compositions.{Composed, components_of, starts_of}
use Rattle.ioa_tree.specs.Likes.{AllLike, AllRelated}
use Rattle.ioa_compile.specs.Correspondence.{CorrespondsAt}
use Rattle.ioa_compile.specs.Matching.{MatchesMember}
use Rattle.ioa_compile.specs.Programs.{Prog}
use Rattle.ioa_compile.specs.Tables.{tabled, start_states}

-- the program has the composition's types, name, components and hidden names; its components do the same on corresponding
-- states, and start in them
pub record Implements (p : Prog) (c : Composed) : Type 0 where
  pub types : p.types ≡ c.types
  pub name : p.name ≡ c.name
  pub tables : AllZip MatchesMember c.members p.members
  pub hidden : p.hidden ≡ c.hidden
  pub components : AllLike (CorrespondsAt c.members) 0 (components_of c) (tabled p)
  pub starts : AllRelated (CorrespondsAt c.members) 0 (starts_of c) (start_states p)
