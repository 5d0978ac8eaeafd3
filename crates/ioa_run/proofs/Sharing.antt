-- What threads may share, and be sent: values, code, states, programs, entries of logs, rooms, what a run on threads shares, and a closure by
-- what it captures.
use mathlib.Core.List.{List, [], ◌∷◌}
use mir.Syntax.{Sym}
use denote.RattleType.{RattleType}
use denote.Ref.{NamedLft}
use denote.Param.Send.{AllSend, IsSend, IsSync, sendable, view_send}
use denote.Param.SendFields.{FieldsHave, as_row_send, as_row_sync, declared_send, declared_sync}
use denote.Struct.Field.{row_field}
use denote.Struct.Tuple.{TupleAt, parts, type_at}
use Rattle.std.proofs.Crossing.{crosses}
use Rattle.std.proofs.marker.PhantomData.TheSendSync as phantom
use Rattle.std.proofs.sync.Mutex.TheSendSync as mutex
use Rattle.std.proofs.sync.atomic.AtomicBool.TheSendSync as flag
use Rattle.std.specs.contracts.marker.PhantomData as PhantomData
use Rattle.std.specs.contracts.sync.Mutex as Mutex
use Rattle.std.specs.contracts.sync.atomic.AtomicBool as AtomicBool
use Rattle.ioa_value.specs.contracts.action.Action as Action
use Rattle.ioa_value.specs.contracts.operator.Op as Op
use Rattle.ioa_value.specs.contracts.positions.Position as Position
use Rattle.ioa_value.specs.contracts.types.Types as Types
use Rattle.ioa_value.specs.contracts.value.Ty as Ty
use Rattle.ioa_value.specs.contracts.value.Value as Value
use Rattle.ioa_value.proofs.types.Types.TheSendSync as types
use Rattle.ioa_value.proofs.value.Value.TheLaws.TheKnot as values
use Rattle.ioa_clash.specs.contracts.index.Index as Index
use Rattle.ioa_clash.proofs.index.Index.TheSendSync as index
use Rattle.ioa_code.specs.contracts.instr.Code as Code
use Rattle.ioa_code.specs.contracts.instr.Instr as Instr
use Rattle.ioa_code.specs.contracts.verified.Verified as Verified
use Rattle.ioa_steps.specs.contracts.fused.Stride as Stride
use Rattle.ioa_steps.specs.contracts.trimmed.Trimmed as Trimmed
use Rattle.ioa_steps.proofs.fused.Stride.TheSendSync as strides
use Rattle.ioa_steps.proofs.trimmed.Trimmed.TheSendSync as trimmed
use Rattle.ioa_node.specs.contracts.decoded.Decoded as Decoded
use Rattle.ioa_node.specs.contracts.state.NodeState as NodeState
use Rattle.ioa_node.proofs.state.NodeState.TheSendSync as states
use Rattle.ioa_compile.specs.contracts.program.Program as Program
use Rattle.ioa_sites.specs.contracts.sites.Site as Site
use Rattle.ioa_compile.specs.contracts.table.Entry as Entry
use Rattle.ioa_compile.specs.contracts.table.Member as Member
use Rattle.ioa_system.specs.contracts.log.LogEntry as LogEntry
use Rattle.ioa_board.specs.contracts.board.Board as Board
use Rattle.ioa_run.specs.contracts.crew.Crew as Crew
use Rattle.ioa_run.specs.contracts.locals.Local as Local
use Rattle.ioa_run.specs.contracts.locals.Locals as Locals
use Rattle.ioa_run.specs.contracts.own_room.OwnRoom as OwnRoom
use Rattle.ioa_run.specs.contracts.own_room.OwnRoom.TheInside as Inside
use Rattle.ioa_board.specs.contracts.recorded.Recorded as Recorded
use Rattle.ioa_board.specs.contracts.room.Room as Room
use Rattle.ioa_run.specs.contracts.tally.Tally as Tally
use Rattle.ioa_run.specs.declared.own_room.Terms as Terms

-- ---- values and types

ty_sync : IsSync (Ty.the_field).row
ty_sync = search (crosses, sendable) depth 20

op_sync : IsSync (Op.the_field).row
op_sync = search (ty_sync, crosses, sendable) depth 100

value_send : IsSend (Value.the_field).row
value_send = search (values.crosses, crosses, sendable) depth 20

value_sync : IsSync (Value.the_field).row
value_sync = search (values.crosses, crosses, sendable) depth 20

action_send : IsSend (Action.the_field).row
action_send = search (value_send, crosses, sendable) depth 20

action_sync : IsSync (Action.the_field).row
action_sync = search (value_sync, crosses, sendable) depth 20

position_sync : IsSync (Position.the_field).row
position_sync = search (value_sync, crosses, sendable) depth 20

types_send : IsSend Types.the_row
types_send = types.the_send

types_sync : IsSync Types.the_row
types_sync = types.the_sync

-- ---- code, states and programs

instr_sync : IsSync (Instr.the_field).row
instr_sync = search (ty_sync, op_sync, crosses, sendable) depth 20

code_sync : IsSync (Code.the_field).row
code_sync = search (instr_sync, value_sync, crosses, sendable) depth 20

verified_sync : IsSync Verified.the_row
verified_sync = search (code_sync, types_sync, crosses, sendable) depth 20

stride_sync : IsSync (Stride.the_field).row
stride_sync = strides.the_field_sync

trimmed_sync : IsSync Trimmed.the_row
trimmed_sync = trimmed.the_sync

decoded_sync : IsSync Decoded.the_row
decoded_sync = search (verified_sync, stride_sync, trimmed_sync, crosses, sendable) depth 20

state_send : IsSend NodeState.the_row
state_send = states.the_send

state_sync : IsSync NodeState.the_row
state_sync = states.the_sync

entry_sync : IsSync (Entry.the_field).row
entry_sync = search (position_sync, decoded_sync, crosses, sendable) depth 20

member_sync : IsSync (Member.the_field).row
member_sync = search (state_sync, entry_sync, crosses, sendable) depth 20

site_sync : IsSync Site.the_row
site_sync = search (crosses, sendable) depth 20

index_sync : IsSync (Index.the_field Site.the_row).row
index_sync = index.the_field_sync Site.the_row site_sync

program_sync : IsSync Program.the_row
program_sync = search (types_sync, member_sync, index_sync, crosses, sendable) depth 20

local_sync : (a : NamedLft) → IsSync (Local.the_row a)
local_sync a = search (entry_sync, site_sync, crosses, sendable) depth 20

locals_sync : (a : NamedLft) → IsSync (Locals.the_row a)
locals_sync a = search (program_sync, local_sync, crosses, sendable) depth 20

-- ---- rooms

log_entry_send : IsSend (LogEntry.the_field).row
log_entry_send = search (action_send, crosses, sendable) depth 20

recorded_send : IsSend (Recorded.the_field).row
recorded_send = search (log_entry_send, crosses, sendable) depth 20

board_send : (a : NamedLft) → IsSend (Board.the_row a)
board_send a = search (program_sync, log_entry_send, state_send, recorded_send, crosses, sendable) depth 20

pub room_send : (a : NamedLft) → IsSend (Room.the_row a)
room_send a = search (action_sync, board_send, crosses, sendable) depth 30

pub input_sync : IsSync Action.the_row
input_sync = search (action_sync, sendable) depth 20

tally_send : IsSend (Tally.the_field).row
tally_send = search (crosses, sendable) depth 20

-- ---- closures

captured_send : (Ts : List RattleType) → AllSend Ts → FieldsHave IsSend (parts Ts)
captured_send [] s = tt
captured_send (T ∷ Ts) s = (as_row_send (row_field T) s.0, captured_send Ts s.1)

pub closure_send : (ν : Sym) (Ts : List RattleType) → AllSend Ts → IsSend (TupleAt ν Ts)
closure_send ν Ts s = declared_send (type_at ν Ts) (captured_send Ts s)

-- ---- what a run shares

module _ (a : NamedLft) (T : RattleType) (g : Terms.Ghosts T.Denot) where
  inside_send : IsSend (Inside.the_row a T g)
  inside_send = declared_send (Inside.the_type a T g) (as_row_send (Room.the_field a) (room_send a), (search (tally_send, crosses, sendable) depth 20, (as_row_send (PhantomData.the_field T) (phantom.the_field_send T), tt)))

  own_room_send : IsSend (OwnRoom.the_row a T g)
  own_room_send = view_send (Inside.the_row a T g) _ _ _ _ inside_send

  pub crew_sync : IsSync (Crew.the_row a T g)
  crew_sync = declared_sync (Crew.the_type a T g) (search (program_sync, sendable), (search (input_sync, sendable), (search sendable, (as_row_sync (Locals.the_field a) (locals_sync a), (as_row_sync (Mutex.the_field (OwnRoom.the_row a T g)) (mutex.the_sync _ own_room_send), (as_row_sync AtomicBool.the_field flag.the_field_sync, tt))))))
