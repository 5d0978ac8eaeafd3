-- A stream on its way: what is kept of the lines that came.
use Rattle.std.specs.Prelude.{◌≡◌, ℕ, Bool, List, [], ◌∷◌, ◌++◌, is_some}
use Rattle.std.specs.List.{AllZip}
use Rattle.ioa_value.specs.Actions.{Act}
use Rattle.ioa_value.specs.Table.{Table}
use Rattle.ioa_compile.specs.Programs.{Prog}
use Rattle.ioa_watch.specs.declared.streams.Stream.{Stream}
use Rattle.ioa_watch.specs.declared.watcher.Watcher.{Watcher}
use Rattle.ioa_watch.specs.Streams.{Came, told}
use Rattle.ioa_watch.specs.Watchers.{HasHeard}

-- the watchers are the programs', and have heard these actions
abbrev pub HaveHeard : List Prog → List Act → List Watcher → Type 0
HaveHeard ps acts ws = AllZip (λ p w. HasHeard p acts w) ps ws

-- these lines came, and told these actions, which all have heard
pub record HasCome (json : Bool) (types : Table) (ps : List Prog) (first : Bool) (ls : List (List ℕ)) (acts : List Act) (s : Stream) : Type 0 where
  pub came : Came types ps first ls acts
  pub heard : HaveHeard ps acts s.watchers.items
  pub types_are : s.listener.types.now ≡ types
  pub first_is : s.first ≡ first
  pub json_is : s.json ≡ json

-- one line more came, and this is told of it
pub record TakesLine (json : Bool) (types : Table) (ps : List Prog) (first : Bool) (ls : List (List ℕ)) (acts : List Act) (line news : List ℕ) (s : Stream) : Type 0 where
  pub more : List Act
  pub come : HasCome json types ps first (ls ++ line ∷ []) (acts ++ more) s
  pub news_are : told json ps (acts ++ more) ≡ told json ps acts ++ news

-- a watcher that refused something
abbrev pub has_refused : Watcher → Bool
has_refused w = is_some w.refusal
