use Rattle.std.proofs.Common.{◌≡◌, ◌∙◌, ◌+◌, List, Bool, false, ap, length, map, replicate, sym, subst, rules}
use Rattle.std.proofs.lemmas.List.{length-map}
use Rattle.ioa_value.specs.Actions.{act_of}
use Rattle.ioa_compile.specs.Shown.{member_code}
use Rattle.ioa_compile.specs.Programs.{Prog}
use Rattle.ioa_compile.specs.Tables.{IsProgram}
use Rattle.ioa_board.specs.declared.report.Report.{Report}
use Rattle.ioa_board.specs.ProgramBoards.{ProgramBoard}
use Rattle.ioa_board.specs.ProgramRooms.{ProgramRoom, room_on}
use Rattle.ioa_run.specs.Proposers.{proposers, proposers_of}
use Rattle.ioa_run.specs.Rounds.{Dismisses, GoesRounds}
use Rattle.ioa_run.specs.Tallies.{AreAgreeing, tally_of}
use Rattle.ioa_run.specs.Turns.{turns_from}
use Rattle.ioa_system.proofs.Participating.{written_anew}
use Rattle.ioa_run.proofs.Adding.{adding_up}
use Rattle.ioa_run.proofs.Tallying.{agreeing_blank, agreeing_dismissed}
use Rattle.ioa_run.proofs.Ending.{ended_alone, ends_alone, outcome_from}
use Rattle.ioa_run.proofs.alone.run_in.Given.{Over}
use Rattle.ioa_run.proofs.alone.run_in.Goals as goal
use Rattle.ioa_run.proofs.alone.run_in.Goals.{After-finish}

none_has : (g : Over) (c : After-finish g) → c.in_ok-ended.ended.items ≡ (turns_from c.args.room.board (map g.W.Words.stream c.args.words.items) (length (proposers c.args.room.program))).ended
none_has g c =
    let many : length c.members.result.now ≡ length (proposers c.args.room.program) =
    sym (length-map c.members.result.now member_code) ∙ ap length c.members.ensures.value ∙ ap (λ (p : Prog). length p.members) (c.program-program.ensures ∙ ap (λ (x : ProgramBoard). x.program) c.board.ensures.value) ∙ sym (length-map c.args.room.program.members proposers_of) in
    c.in_ok-ended.ensures ∙ ap (λ n. replicate (n + 1) false) many

goes : (g : Over) (c : After-finish g)
    → GoesRounds c.args.turns (room_on c.args.room.program c.args.room.board (map act_of c.args.inputs.now) c.args.turns) (map g.W.Words.stream c.args.words.items) c.in_ok-ended.ended.items c.take_turns.new.room (map g.W.Words.stream c.take_turns.new.words) c.take_turns.new.ended
goes g c =
    let stream = g.W.Words.stream in
    let lent : c.deref_mut.result.now ≡ c.args.words.items = c.deref_mut.ensures.value in
    let begun : c.deref_mut-2.result.now ≡ c.in_ok-ended.ended.items = c.deref_mut-2.ensures.value in
    let room : GoesRounds c.args.turns (room_on c.args.room.program c.args.room.board (map act_of c.args.inputs.now) c.args.turns) (map stream c.deref_mut.result.now) c.deref_mut-2.result.now c.take_turns.new.room (map stream c.take_turns.new.words) c.take_turns.new.ended =
    subst (λ (r : ProgramRoom). GoesRounds c.args.turns r (map stream c.deref_mut.result.now) c.deref_mut-2.result.now c.take_turns.new.room (map stream c.take_turns.new.words) c.take_turns.new.ended)
    c.requires.fresh c.take_turns.ensures.goes in
    subst (λ (es : List Bool). GoesRounds c.args.turns (room_on c.args.room.program c.args.room.board (map act_of c.args.inputs.now) c.args.turns) (map stream c.args.words.items) es c.take_turns.new.room (map stream c.take_turns.new.words) c.take_turns.new.ended) begun
    (subst (λ xs. GoesRounds c.args.turns (room_on c.args.room.program c.args.room.board (map act_of c.args.inputs.now) c.args.turns) (map stream xs) c.deref_mut-2.result.now c.take_turns.new.room (map stream c.take_turns.new.words) c.take_turns.new.ended) lent room)

dismisses : (g : Over) (c : After-finish g) → Dismisses c.take_turns.new.room c.take_turns.new.ended c.dismiss.new.room
dismisses g c =
    let begun : c.deref_mut-2.result.now ≡ c.in_ok-ended.ended.items = c.deref_mut-2.ensures.value in
    let count : c.in_ok-ended.ended.len ≡ length c.in_ok-ended.ended.items = search rules in
    let kept : length c.take_turns.new.ended ≡ length c.in_ok-ended.ended.items = c.take_turns.ensures.goes.follows.ended ∙ ap length begun in
    let last : c.deref.result.now ≡ c.take_turns.new.ended = c.deref.ensures.value ∙ written_anew c.in_ok-ended.ended.len c.take_turns.new.ended c.in_ok-ended.ended.items kept count in
    subst (λ (es : List Bool). Dismisses c.take_turns.new.room es c.dismiss.new.room) last c.dismiss.ensures

pub returns-clause-ended : goal.returns-clause-ended
returns-clause-ended g c =
    let a = (goal.at.returns-clause-ended g c).After-finish in
    ends_alone c.args.room.program c.args.room.board (map g.W.Words.stream c.args.words.items) (map act_of c.args.inputs.now) c.args.turns (map g.W.Words.stream c.take_turns.new.words) c.take_turns.new.ended c.take_turns.new.room c.dismiss.new.room
    c.in_ok-ended.ended.items c.finish.result c.requires.few (none_has g a) (goes g a) (dismisses g a) c.finish.ensures.log c.finish.ensures.reports c.finish.ensures.told

pub returns-clause-alone : goal.returns-clause-alone
returns-clause-alone g c =
    let a = (goal.at.returns-clause-alone g c).After-finish in
    ended_alone c.args.room.program c.args.room.board (map g.W.Words.stream c.args.words.items) (map act_of c.args.inputs.now) c.args.turns (map g.W.Words.stream c.take_turns.new.words) c.take_turns.new.ended c.take_turns.new.room c.dismiss.new.room
    c.in_ok-ended.ended.items c.finish.result c.requires.few (none_has g a) (goes g a) (dismisses g a) c.finish.ensures.log c.finish.ensures.reports

pub returns-clause-outcome : goal.returns-clause-outcome
returns-clause-outcome g c =
    let a = (goal.at.returns-clause-outcome g c).After-finish in
    outcome_from c.args.room.program c.args.room.board (map act_of c.args.inputs.now) c.args.turns c.take_turns.new.room c.dismiss.new.room c.finish.result (goes g a).rest (dismisses g a).rest
    c.finish.ensures.log c.finish.ensures.reports c.finish.ensures.told c.finish.ensures.goes_on

-- the local entries are those of the room's program
pub take_turns-requires-clause-locals : goal.take_turns-requires-clause-locals
take_turns-requires-clause-locals g c = c.in_ok-locals.ensures ∙ c.program-program.ensures ∙ ap (λ (x : ProgramBoard). x.program) c.board.ensures.value

-- no turn is counted before the first
pub take_turns-requires-clause-tallied : goal.take_turns-requires-clause-tallied
take_turns-requires-clause-tallied g c =
    agreeing_blank c.args.room.program.members (length c.args.room.program.members + 1) c.args.room.reports (map tally_of c.args.tallies.now.items)
    (ap (λ (x : ProgramRoom). x.reports) c.requires.fresh) c.requires.blank

-- the tallies agree with the reports behind the last turn, and are added up
pub returns-clause-tallied : goal.returns-clause-tallied
returns-clause-tallied g c =
    let a = (goal.at.returns-clause-tallied g c).After-finish in
    let p : Prog = c.args.room.program in
    let u = c.take_turns.new.room in
    let v = c.dismiss.new.room in
    let ts = map tally_of c.take_turns.new.tallies.items in
    let program : v.program ≡ p = ap (λ (x : ProgramRoom). x.program) (dismisses g a).rest ∙ ap (λ (x : ProgramRoom). x.program) (goes g a).rest in
    let agreeing =
    subst (λ (rs : List Report). AreAgreeing p.members rs ts) (sym c.finish.ensures.reports)
    (subst (λ (x : Prog). AreAgreeing x.members v.reports ts) program (agreeing_dismissed u v c.take_turns.new.ended ts (dismisses g a) c.take_turns.ensures.tallied)) in
    let outcome =
    outcome_from p c.args.room.board (map act_of c.args.inputs.now) c.args.turns u v c.finish.result (goes g a).rest (dismisses g a).rest
    c.finish.ensures.log c.finish.ensures.reports c.finish.ensures.told c.finish.ensures.goes_on in
    let ended =
    ends_alone p c.args.room.board (map g.W.Words.stream c.args.words.items) (map act_of c.args.inputs.now) c.args.turns (map g.W.Words.stream c.take_turns.new.words) c.take_turns.new.ended u v
    c.in_ok-ended.ended.items c.finish.result c.requires.few (none_has g a) (goes g a) (dismisses g a) c.finish.ensures.log c.finish.ensures.reports c.finish.ensures.told in
    let sound : IsProgram p = subst IsProgram (c.program-program.ensures ∙ ap (λ (x : ProgramBoard). x.program) c.board.ensures.value) c.members.ensures.sound in
    adding_up p c.args.room.board.history (map act_of c.args.inputs.now) c.args.turns c.finish.result c.take_turns.new.tallies.items sound.members outcome ended c.requires.few agreeing
