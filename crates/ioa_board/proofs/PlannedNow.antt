-- What is planned by the states as they are now.
use Rattle.std.proofs.Common.{◌≡◌, ℕ, List, length, Option, refl, sym, ◌∙◌, ap, subst}
use Rattle.std.proofs.lemmas.List.{length-map}
use Rattle.ioa_value.specs.Actions.{Act}
use Rattle.ioa_value.specs.Plain.{Val}
use Rattle.ioa_tree.specs.Components.{Component}
use Rattle.ioa_tree.specs.Steps.{Moved, next, not_an_action, not_enabled, fault, participants}
use Rattle.ioa_compile.specs.Tables.{tabled, table_component}
use Rattle.ioa_system.specs.Logs.{worker}
use Rattle.ioa_system.specs.Participants.{all_back, step_from}
use Rattle.ioa_system.proofs.Participating.{step_taken}
use Rattle.ioa_board.specs.declared.answer.Answer.{Answer}
use Rattle.ioa_board.specs.declared.planned.Planned.{Planned}
use Rattle.ioa_board.specs.Boards.{Intent, now_of, Plans, intent}
use Rattle.ioa_board.specs.Planning.{Makes, answer_of, intent_of, PlansNow}
use Rattle.ioa_board.specs.ProgramBoards.{ProgramBoard}

-- an answer of all components is of the kind of the participants' answer
back_action : {S : Type 0} (ns : List ℕ) (ss : List S) (m : Moved S) → all_back ns ss m ≡ not_an_action → m ≡ not_an_action
back_action ns ss (next ts) e = absurd (cc)
back_action ns ss not_an_action e = refl
back_action ns ss not_enabled e = absurd (cc)
back_action ns ss (fault c f) e = absurd (cc)

back_enabled : {S : Type 0} (ns : List ℕ) (ss : List S) (m : Moved S) → all_back ns ss m ≡ not_enabled → m ≡ not_enabled
back_enabled ns ss (next ts) e = absurd (cc)
back_enabled ns ss not_an_action e = absurd (cc)
back_enabled ns ss not_enabled e = refl
back_enabled ns ss (fault c f) e = absurd (cc)

plans_back : {S : Type 0} (w own : ℕ) (ns : List ℕ) (ss : List S) (m : Moved S) (p : Intent S) (a : Answer) (q : Option (Intent S)) → Plans w own m p a q → Plans w own (all_back ns ss m) p a q
plans_back w own ns ss m p Answer.NotAnAction q h = (ap (all_back ns ss) h.0, h.1)
plans_back w own ns ss m p Answer.NotYours q h = (λ e. h.0 (back_action ns ss m e), h.1, h.2)
plans_back w own ns ss m p Answer.NotEnabled q h = (h.0, ap (all_back ns ss) h.1, h.2)
plans_back w own ns ss m p Answer.Planned q h = (h.0, λ e. h.1 (back_action ns ss m e), λ e. h.2 (back_enabled ns ss m e), h.3)
plans_back w own ns ss m p Answer.NoPlan q h = h
plans_back w own ns ss m p Answer.Stopped q h = h
plans_back w own ns ss m p Answer.Stale q h = h
plans_back w own ns ss m p (Answer.Faulted c f) q h = h
plans_back w own ns ss m p (Answer.Committed n) q h = h

-- what is planned by the participants' states is planned by all states
pub planned_now : (b : ProgramBoard) (w : ℕ) (a : Act) (r : Planned) → length b.board.states ≡ length b.program.members
    → Makes b.program w a (now_of (tabled b.program) a b.board.states) r → PlansNow b w a r
planned_now b w a r l h =
    let ps : List (Component (List Val)) = tabled b.program in
    let ss : List (List Val) = b.board.states in
    let k : length ss ≡ length ps = l ∙ sym (length-map b.program.members table_component) in
    let P : Moved (List Val) → Type 0 = λ m. Plans w (worker ps a) m (intent ps a ss) (answer_of r) (intent_of r) in
    record {
      plans = subst P (sym (step_taken ps a ss k)) (plans_back w (worker ps a) (participants ps a) ss (step_from ps a (now_of ps a ss)) (intent ps a ss) (answer_of r) (intent_of r) h.plans);
      ready = h.ready;
    }
