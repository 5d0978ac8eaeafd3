use mathlib.Core.List.{List, [], ◌∷◌}
use denote.Exit.{no}
use denote.RattleType.{RattleType}
use denote.Ref.{NamedLft}
use denote.Param.{param}
use denote.Param.Send.{AllSend, IsSync, arg_send, param_send, plain_send, sendable, shr_send}
use denote.Struct.Field.{shr_ref_field, u64-field}
use denote.Struct.Tuple.{TupleAt}
use Rattle.std.below.core.specs.contracts.marker.ClosureMark as Mark
use Rattle.std.below.core.proofs.marker.ClosureMark.TheSendSync as mark
use Rattle.std.proofs.Crossing as heap
use Rattle.std.specs.contracts.alloc.Global as Global
use Rattle.ioa_run.specs.contracts.crew.Crew as Crew
use Rattle.ioa_run.specs.declared.own_room.Terms as Terms
use Rattle.ioa_run.proofs.Sharing.{closure_send, crew_sync}
use Rattle.ioa_run.proofs.threads.fn.work_all.scope.Goals as goal

-- what both closures capture before the worker's number
module _ (T R G : RattleType) (terms : Terms.Ghosts T.Denot) where
  abbrev captures : NamedLft → NamedLft → NamedLft → NamedLft → List RattleType → List RattleType
  captures a b p c Ts = (shr_ref_field a (param 1 R) tt).row ∷ Global.the_row ∷ (shr_ref_field b (Crew.the_row p (param 0 T) terms) tt).row ∷ (shr_ref_field c (param 3 G) tt).row ∷ u64-field.row ∷ Ts

  captured : (a b p c : NamedLft) (Ts : List RattleType) → IsSync (param 1 R) → IsSync (param 3 G) → AllSend Ts → AllSend (captures a b p c Ts)
  captured a b p c Ts r g s = (
    shr_send a.mir a.lft (param 1 R) r,
    (
      heap.send,
      (
        shr_send b.mir b.lft (Crew.the_row p (param 0 T) terms) (crew_sync p (param 0 T) terms),
        (shr_send c.mir c.lft (param 3 G) g, (plain_send _ _ _ _ _, s)),
      ),
    ),
  )

pub spawn-requires-send-F : goal.spawn-requires-send-F
spawn-requires-send-F g c κs within = let r = c.requires in param_send 1 _ (arg_send _ no _ (closure_send _ (captures g.row.T g.row.R g.row.G g.T.Terms _ _ _ _ (param 2 g.row.W ∷ []))
    (captured g.row.T g.row.R g.row.G g.T.Terms _ _ _ _ (param 2 g.row.W ∷ []) r.0 r.2 (r.1, tt))))

pub spawn-requires-2-send-F : goal.spawn-requires-2-send-F
spawn-requires-2-send-F g c κs within = let r = c.requires in let marks = Mark.the_row (TupleAt (40 ∷ 95 ∷ 44 ∷ 41 ∷ []) (param 2 g.row.W ∷ [])) ∷ [] in param_send 1 _ (arg_send _ no _ (closure_send _ (captures g.row.T g.row.R g.row.G g.T.Terms _ _ _ _ marks)
    (captured g.row.T g.row.R g.row.G g.T.Terms _ _ _ _ marks r.0 r.2 (search (mark.the_send, sendable), tt))))
