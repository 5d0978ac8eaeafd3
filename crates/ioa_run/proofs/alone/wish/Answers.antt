use Rattle.std.proofs.Common.{◌≡◌, ◌∙◌, ◌<◌, List, Some, ap, length, map, sym, subst, arith}
use Rattle.std.specs.Prelude.{IfOk, IfSome, slice_get}
use Rattle.std.specs.Option.{option_map}
use Rattle.std.proofs.lemmas.List.{length-map, map-set}
use Rattle.std.proofs.lemmas.Result.{IfOk-weaker}
use Rattle.ioa_value.specs.Plain.{Val}
use Rattle.ioa_value.proofs.ItemLemmas.{image_at, item_there}
use Rattle.ioa_parts.specs.Nodes.{Node}
use Rattle.ioa_compile.specs.Programs.{EntryCode, MemberCode, Prog}
use Rattle.ioa_compile.specs.Shown.{member_code}
use Rattle.ioa_compile.specs.Tables.{IsProgram}
use Rattle.ioa_system.specs.Systems.{slot_types, types_of}
use Rattle.ioa_system.proofs.Readying.{same_length}
use Rattle.ioa_board.specs.ProgramBoards.{ProgramBoard}
use Rattle.ioa_board.specs.Wishes.{IsWishOf, act_meant}
use Rattle.ioa_board.proofs.Numbers.{got}
use Rattle.ioa_run.specs.Choices.{Chooses}
use Rattle.ioa_run.specs.Locals.{AreLocals, code_of}
use Rattle.ioa_run.specs.Turning.{Wishes}
use Rattle.ioa_run.proofs.LocalSites.{local_codes, local_sites, locals_over}
use Rattle.ioa_run.proofs.Wishing.{component_wishes, environment_wishes, over_state}
use Rattle.ioa_run.proofs.alone.wish.Given.{Over}
use Rattle.ioa_run.proofs.alone.wish.Goals as goal
use Rattle.ioa_run.proofs.alone.wish.Goals.{After-index-words-who, After-members-members}

program_is : (g : Over) (c : After-members-members g) → c.program-program.result.now ≡ c.args.room.now.program
program_is g c = c.program-program.ensures ∙ c.requires.locals

members_are : (g : Over) (c : After-members-members g) → map member_code c.members-members.result.now ≡ c.args.room.now.program.members
members_are g c = c.members-members.ensures.value ∙ ap (λ (p : Prog). p.members) (program_is g c)

inside : (g : Over) (c : After-index-words-who g) → map member_code c.members-members.result.now ≡ c.args.room.now.program.members → c.args.who < length c.args.room.now.program.members
inside g c members =
    let many : length (map member_code c.members-members.result.now) ≡ length c.args.room.now.program.members = ap length members in
    omega (arith, many, length-map c.members-members.result.now member_code, c.if-who-members.true)

member_there : (g : Over) (c : After-index-words-who g) → map member_code c.members-members.result.now ≡ c.args.room.now.program.members → (m : MemberCode) × (slice_get c.args.room.now.program.members c.args.who ≡ Some m)
member_there g c members = item_there c.args.room.now.program.members c.args.who (inside g c members)

-- the local entries are the component's
its_own : (g : Over) (c : After-index-words-who g) (m : MemberCode) → slice_get c.args.room.now.program.members c.args.who ≡ Some m → AreLocals c.args.room.now.program m.entries c.of_component-own.result.now
its_own g c =
    subst (λ (p : Prog). (m : MemberCode) → slice_get p.members c.args.who ≡ Some m → AreLocals p m.entries c.of_component-own.result.now) c.requires.locals c.of_component-own.ensures

state_there : (g : Over) (c : After-index-words-who g) → map member_code c.members-members.result.now ≡ c.args.room.now.program.members → slice_get c.states.result.now c.args.who ≡ Some c.index-states-who.result
state_there g c members =
    let types : types_of c.states.result.now ≡ slot_types c.args.room.now.program.members = c.states.ensures.types ∙ ap (λ (b : ProgramBoard). slot_types b.program.members) c.board.ensures.value in
    let many : length c.states.result.now ≡ length c.args.room.now.program.members = same_length c.args.room.now.program.members c.states.result.now types in
    got c.states.result.now c.args.who c.index-states-who.result (omega (arith, many, inside g c members)) c.index-states-who.is

pub choose-requires : goal.choose-requires
choose-requires g c =
    let at = (goal.at.choose-requires g c).After-index-words-who in
    let start = (goal.at.choose-requires g c).After-members-members in
    let members = members_are g start in
    let m = member_there g at members in
    locals_over c.args.room.now.program c.index-states-who.result (m.0).entries c.of_component-own.result.now (its_own g at m.0 m.1)
    (over_state c.args.room.now.program c.states.result.now c.args.who c.index-states-who.result m.0 (subst IsProgram (program_is g start) c.members-members.ensures.sound)
    (c.states.ensures.types ∙ ap (λ (b : ProgramBoard). slot_types b.program.members) c.board.ensures.value) (state_there g at members) m.1)

pub returns-in_ok-meant-clause-wishes : goal.returns-in_ok-meant-clause-wishes
returns-in_ok-meant-clause-wishes g c =
    let at = (goal.at.returns-in_ok-meant-clause-wishes g c).After-index-words-who in
    let members = members_are g (goal.at.returns-in_ok-meant-clause-wishes g c).After-members-members in
    let m = member_there g at members in
    let own = c.of_component-own.result.now in
    let stream = g.W.Words.stream in
    let state = c.index-states-who.result in
    let meant = option_map act_meant c.in_ok-meant.meant in
    component_wishes c.args.room.now (map stream c.args.words.now) _ c.args.who m.0 state.values (stream c.index-words-who.result) (stream c.choose.new.words) meant
    m.1
    (subst (λ (ss : List (List Val)). slice_get ss c.args.who ≡ Some state.values) (c.states.ensures.values ∙ ap (λ (b : ProgramBoard). b.board.states) c.board.ensures.value)
    (image_at (λ (n : Node). n.values) c.states.result.now c.args.who state (state_there g at members)))
    (image_at stream c.args.words.now c.args.who c.index-words-who.result (got c.args.words.now c.args.who c.index-words-who.result (omega (arith, inside g at members, c.requires.words)) c.index-words-who.is))
    (map-set stream c.args.words.now c.args.who c.choose.new.words)
    (subst (λ (es : List EntryCode). Chooses es state.values (stream c.index-words-who.result) meant (stream c.choose.new.words)) (local_codes c.args.room.now.program (m.0).entries own (its_own g at m.0 m.1))
    (subst (λ x. Chooses (map code_of own) state.values (stream x) meant (stream c.choose.new.words)) (sym c.index-words-who.is) c.in_ok-meant.ensures.chosen))

pub returns-in_ok-meant-clause-known : goal.returns-in_ok-meant-clause-known
returns-in_ok-meant-clause-known g c =
    let at = (goal.at.returns-in_ok-meant-clause-known g c).After-index-words-who in
    let m = member_there g at (members_are g (goal.at.returns-in_ok-meant-clause-known g c).After-members-members) in
    let p = c.args.room.now.program in
    c.in_ok-meant.ensures.known p (local_sites p (m.0).entries c.of_component-own.result.now (its_own g at m.0 m.1))

pub returns-else-who-members-clause-wishes : goal.returns-else-who-members-clause-wishes
returns-else-who-members-clause-wishes g c =
    let stream = g.W.Words.stream in
    let many : length c.args.room.now.program.members ≡ length c.members-members.result.now =
    sym (ap length (members_are g (goal.at.returns-else-who-members-clause-wishes g c).After-members-members)) ∙ length-map c.members-members.result.now member_code in
    IfOk-weaker c.next_input.result _ (λ r. Wishes c.args.room.now (map stream c.args.words.now) c.args.who (option_map act_meant r) (map stream c.args.words.now))
    (λ r h.
    environment_wishes c.args.room.now (map stream c.args.words.now) c.args.who c.args.performed (option_map act_meant r)
    (length-map c.args.words.now stream ∙ c.requires.words) (λ q. omega (arith, q, many, c.if-who-members.false)) c.requires.performed
    (h ∙ ap (λ xs. slice_get xs c.args.performed) (sym c.requires.inputs)))
    c.next_input.ensures.next

pub returns-else-who-members-clause-known : goal.returns-else-who-members-clause-known
returns-else-who-members-clause-known g c =
    subst (λ (p : Prog). IfOk c.next_input.result (λ r. IfSome r (IsWishOf p))) (program_is g (goal.at.returns-else-who-members-clause-known g c).After-members-members) c.next_input.ensures.known
