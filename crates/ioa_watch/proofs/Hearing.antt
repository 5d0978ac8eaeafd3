-- A specification that is handed one action more.
use Rattle.std.proofs.Common.{◌≡◌, List, [], ◌∷◌, ◌++◌, Option, None, Some, is_some, if◌then◌else◌, refl, ap, ◌∙◌}
use Rattle.ioa_value.specs.Actions.{Name, Act}
use Rattle.ioa_value.specs.Table.{place_from}
use Rattle.ioa_tree.specs.Components.{Component}
use Rattle.ioa_tree.specs.Runs.{Ending}
use Rattle.ioa_watch.specs.Watched.{Watching, hearing, hearing_all, tried}

module _ {S : Type 0} (names : List Name) (ps : List (Component S)) where
  abbrev heard_of : Act → Watching S → Option Ending → Watching S
  heard_of a w o = if is_some o then w else tried names ps (place_from 0 names a.name) a w

  -- behind a refusal nothing changes
  pub hearing_still : (a : Act) (w : Watching S) (e : Ending) → w.refusal ≡ Some e → hearing names ps a w ≡ w
  hearing_still a w e k = ap (heard_of a w) k

  pub hearing_still_all : (acts : List Act) (w : Watching S) (e : Ending) → w.refusal ≡ Some e → hearing_all names ps acts w ≡ w
  hearing_still_all [] w e k = refl
  hearing_still_all (a ∷ acts) w e k = ap (hearing_all names ps acts) (hearing_still a w e k) ∙ hearing_still_all acts w e k

  -- without one the action is tried
  pub hearing_tried : (a : Act) (w : Watching S) → w.refusal ≡ None → hearing names ps a w ≡ tried names ps (place_from 0 names a.name) a w
  hearing_tried a w k = ap (heard_of a w) k

  -- one action behind the others
  pub hearing_more : (acts : List Act) (a : Act) (w : Watching S) → hearing_all names ps (acts ++ a ∷ []) w ≡ hearing names ps a (hearing_all names ps acts w)
  hearing_more [] a w = refl
  hearing_more (b ∷ acts) a w = hearing_more acts a (hearing names ps b w)
