-- What a commit performs.
use Rattle.std.proofs.Common.{◌≡◌, ℕ, ◌+◌, ◌<◌, List, [], ◌∷◌, ◌++◌, length, All, None, refl, sym, ◌∙◌, ap, subst, arith}
use Rattle.std.proofs.lemmas.List.{length-map}
use Rattle.std.proofs.lemmas.List.Elements.{All-nil, All-cons}
use Rattle.ioa_arithmetic.specs.declared.arithmetic.Fault.{Fault}
use Rattle.ioa_value.specs.Actions.{Act}
use Rattle.ioa_value.specs.Plain.{Val}
use Rattle.ioa_parts.specs.Nodes.{Node}
use Rattle.ioa_tree.specs.Components.{Component}
use Rattle.ioa_tree.specs.Steps.{next, fault, participants, step}
use Rattle.ioa_tree.specs.Runs.{after, run_from, run}
use Rattle.ioa_compile.specs.Programs.{Prog}
use Rattle.ioa_compile.specs.Tables.{tabled, start_states, table_component}
use Rattle.ioa_system.specs.Histories.{Leads}
use Rattle.ioa_system.specs.Logs.{worker}
use Rattle.ioa_system.specs.Participants.{all_back, put_back, step_from, taken}
use Rattle.ioa_system.specs.Systems.{slots_of, slot_types, types_of, values_of}
use Rattle.ioa_system.proofs.Participating.{map_put_back, put_back-taken, step_taken}
use Rattle.ioa_system.proofs.Readying.{same_length}
use Rattle.ioa_board.specs.Boards.{Standing, now_of, with_entry}
use Rattle.ioa_board.specs.Histories.{acts_of, all_performed}
use Rattle.ioa_board.specs.ProgramBoards.{IsBoard}
use Rattle.ioa_board.specs.ProgramPlans.{ProgramPlan, foreseen, numbers_in}
use Rattle.ioa_board.proofs.Numbers.{participants_within}

-- ---- one action more

pub legal_more : {S : Type 0} (ps : List (Component S)) (h : List (ℕ × Act)) (ss ts us : List S) (w : ℕ) (a : Act) → Leads ps h ss ts → w ≡ worker ps a
    → step ps a ts ≡ next us → Leads ps (h ++ (w, a) ∷ []) ss us
legal_more ps [] ss ts us w a l o s = (us, o, subst (λ vs. step ps a vs ≡ next us) l s, refl)
legal_more ps (e ∷ es) ss ts us w a l o s = (l.0, l.1, l.2, legal_more ps es l.0 ts us w a l.3 o s)

-- the actions of a legal history run to done, to the states to which it leads
run_legal : {S : Type 0} (n : ℕ) (ps : List (Component S)) (h : List (ℕ × Act)) (ss ts : List S) → Leads ps h ss ts
    → run_from n ps (acts_of h) ss ≡ all_performed (n + length h) ts
run_legal n ps [] ss ts l =
    let count : n ≡ n + length {A = ℕ × Act} [] = omega arith in
    ap (λ us. all_performed n us) (sym l) ∙ ap (λ k. all_performed k ts) count
run_legal n ps (e ∷ es) ss ts l =
    let count : n + 1 + length es ≡ n + length (e ∷ es) = omega arith in
    ap (λ m. after n ss m (λ us. run_from (n + 1) ps (acts_of es) us)) l.2 ∙ run_legal (n + 1) ps es l.0 ts l.3 ∙ ap (λ k. all_performed k ts) count

pub legal_run : {S : Type 0} (ps : List (Component S)) (h : List (ℕ × Act)) (ss ts : List S) → Leads ps h ss ts → run ps (acts_of h) ss ≡ all_performed (length h) ts
legal_run ps h ss ts l =
    let count : 0 + length h ≡ length h = omega arith in
    run_legal 0 ps h ss ts l ∙ ap (λ k. all_performed k ts) count

-- and its workers are those that perform them
pub legal_workers : {S : Type 0} (ps : List (Component S)) (h : List (ℕ × Act)) (ss ts : List S) → Leads ps h ss ts → All (λ e. e.0 ≡ worker ps e.1) h
legal_workers ps [] ss ts l = All-nil (λ (e : ℕ × Act). e.0 ≡ worker ps e.1)
legal_workers ps (e ∷ es) ss ts l = All-cons (λ (d : ℕ × Act). d.0 ≡ worker ps d.1) e es l.1 (legal_workers ps es l.0 ts l.3)

-- ---- the step from the states as they are now

pub length_values : (p : Prog) (ns : List Node) → types_of ns ≡ slot_types p.members → length (values_of ns) ≡ length (tabled p)
length_values p ns t = length-map ns (λ (n : Node). n.values) ∙ same_length p.members ns t ∙ sym (length-map p.members table_component)

-- the components of a program have the participants' numbers
pub numbers_within : (p : Prog) (a : Act) (n : ℕ) → n ≡ length p.members → All (λ m. m < n) (participants (tabled p) a)
numbers_within p a n e =
    subst (λ k. All (λ m. m < k) (participants (tabled p) a)) (length-map p.members table_component ∙ sym e) (participants_within a (tabled p))

-- where the participants are in the states that were copied, a step does what was foreseen, whatever has happened to others
pub step_foreseen : (p : Prog) (q : ProgramPlan) (ns : List Node) → types_of ns ≡ slot_types p.members → q.program ≡ p
    → now_of (tabled p) q.intent.action (values_of ns) ≡ q.intent.copied
    → step (tabled p) q.intent.action (values_of ns) ≡ all_back (numbers_in q) (values_of ns) (foreseen q)
step_foreseen p q ns t e fresh =
    let a : Act = q.intent.action in
    step_taken (tabled p) a (values_of ns) (length_values p ns t)
    ∙ ap (λ ts. all_back (participants (tabled p) a) (values_of ns) (step_from (tabled p) a ts)) fresh
    ∙ ap (λ (r : Prog). all_back (participants (tabled r) a) (values_of ns) (step_from (tabled r) a q.intent.copied)) (sym e)

pub step_faults : (p : Prog) (q : ProgramPlan) (ns : List Node) (c : ℕ) (f : Fault) → types_of ns ≡ slot_types p.members → q.program ≡ p
    → now_of (tabled p) q.intent.action (values_of ns) ≡ q.intent.copied → foreseen q ≡ fault c f → step (tabled p) q.intent.action (values_of ns) ≡ fault c f
step_faults p q ns c f t e fresh h = step_foreseen p q ns t e fresh ∙ ap (all_back (numbers_in q) (values_of ns)) h

pub step_next : (p : Prog) (q : ProgramPlan) (ns : List Node) (ts : List (List Val)) → types_of ns ≡ slot_types p.members → q.program ≡ p
    → now_of (tabled p) q.intent.action (values_of ns) ≡ q.intent.copied → foreseen q ≡ next ts
    → step (tabled p) q.intent.action (values_of ns) ≡ next (put_back (numbers_in q) ts (values_of ns))
step_next p q ns ts t e fresh h = step_foreseen p q ns t e fresh ∙ ap (all_back (numbers_in q) (values_of ns)) h

pub step_goes : (p : Prog) (q : ProgramPlan) (ns new : List Node) → types_of ns ≡ slot_types p.members → q.program ≡ p
    → now_of (tabled p) q.intent.action (values_of ns) ≡ q.intent.copied → foreseen q ≡ next (values_of new)
    → step (tabled p) q.intent.action (values_of ns) ≡ next (values_of (put_back (numbers_in q) new ns))
step_goes p q ns new t e fresh h =
    step_next p q ns (values_of new) t e fresh h ∙ ap (λ (ss : List (List Val)). next ss) (sym (map_put_back (λ (n : Node). n.values) (numbers_in q) new ns))

pub types_kept : (p : Prog) (q : ProgramPlan) (ns new : List Node) → types_of ns ≡ slot_types p.members → q.program ≡ p
    → types_of new ≡ taken (numbers_in q) (slot_types q.program.members) → types_of (put_back (numbers_in q) new ns) ≡ slot_types p.members
types_kept p q ns new t e n =
    let l : length (slot_types p.members) ≡ length p.members = length-map p.members _ in
    map_put_back slots_of (numbers_in q) new ns
    ∙ ap (λ us. put_back (numbers_in q) us (types_of ns)) n ∙ ap (λ us. put_back (numbers_in q) (taken (numbers_in q) (slot_types q.program.members)) us) t
    ∙ ap (λ (r : Prog). put_back (participants (tabled r) q.intent.action) (taken (participants (tabled r) q.intent.action) (slot_types r.members)) (slot_types p.members)) e
    ∙ put_back-taken (participants (tabled p) q.intent.action) (slot_types p.members) (numbers_within p q.intent.action (length (slot_types p.members)) l)

-- the board after an action that is performed
pub board_more : (p : Prog) (q : ProgramPlan) (ns new : List Node) (b : Standing (List Val)) → IsBoard p ns b → b.states ≡ values_of ns → b.failure ≡ None
    → q.program ≡ p → q.who ≡ worker (tabled p) q.intent.action → now_of (tabled p) q.intent.action (values_of ns) ≡ q.intent.copied
    → foreseen q ≡ next (values_of new) → types_of new ≡ taken (numbers_in q) (slot_types q.program.members)
    → IsBoard p (put_back (numbers_in q) new ns) (with_entry b q.who q.intent.action (values_of (put_back (numbers_in q) new ns)))
board_more p q ns new b k v calm e own fresh h n =
    let ts : List (List Val) = values_of (put_back (numbers_in q) new ns) in
    let s : step (tabled p) q.intent.action b.states ≡ next ts = ap (step (tabled p) q.intent.action) v ∙ step_goes p q ns new k.types e fresh h in
    record {
      types = types_kept p q ns new k.types e n;
      sound = record {
        legal = legal_more (tabled p) b.history (start_states p) b.states ts q.who q.intent.action k.sound.legal own s;
        failure = rw calm tt;
      };
    }
