-- What a line tells where the same names are known.
use Rattle.std.proofs.Common.{◌≡◌, inl, inr, ◌||◌, ℕ, Bool, List, [], ◌∷◌, refl, sym, ap, ◌∙◌}
use Rattle.serde_json.specs.Data.{Data}
use Rattle.ioa_value.specs.Actions.{Name, Act}
use Rattle.ioa_value.specs.Table.{Table, contains}
use Rattle.ioa_compile.specs.Programs.{Prog}
use Rattle.ioa_watch.specs.declared.watcher.Watcher.{Watcher}
use Rattle.ioa_watch.specs.Listening.{known}
use Rattle.ioa_watch.specs.Names.{names_of}
use Rattle.ioa_watch.specs.Streaming.{HaveHeard}
use Rattle.ioa_watch.specs.Streams.{IsNoLine, StandsFor, Tells, TellsAct, known_by}

-- the watchers have the names of their programs
pub known_same : (ps : List Prog) (acts : List Act) (ws : List Watcher) → HaveHeard ps acts ws → (x : Name) → known ws x ≡ known_by ps x
known_same [] acts [] h x = refl
known_same [] acts (w ∷ ws) h x = absurd h
known_same (p ∷ ps) acts [] h x = absurd h
known_same (p ∷ ps) acts (w ∷ ws) h x =
    ap (λ ns. contains ns x || known ws x) h.0.names ∙ ap (λ b. contains (names_of p.members) x || b) (known_same ps acts ws h.1 x)

module _ (types : Table) (k l : Name → Bool) (same : (x : Name) → k x ≡ l x) where
  stands_as : (text : List ℕ) (a : Act) → StandsFor types k text a → StandsFor types l text a
  stands_as text a (inl r) = inl r
  stands_as text a (inr (none, r, unknown)) = inr (none, r, sym (same a.name) ∙ unknown)

  pub act_as : (d : Data) (a : Act) → TellsAct types k d a → TellsAct types l d a
  act_as d a (text, at, r) = (text, at, stands_as text a r)

  pub tells_as : (line : List ℕ) (acts : List Act) → Tells types k line acts → Tells types l line acts
  tells_as line [] t = t
  tells_as line (a ∷ []) (d, j, t) = (d, j, act_as d a t)
  tells_as line (a ∷ b ∷ acts) t = absurd t

pub no_line_as : (types : Table) (k l : Name → Bool) → ((x : Name) → k x ≡ l x) → (line : List ℕ) → IsNoLine types k line → IsNoLine types l line
no_line_as types k l same line (d, j, none, no_end) = (d, j, λ a t. none a (act_as types l k (λ x. sym (same x)) d a t), no_end)
