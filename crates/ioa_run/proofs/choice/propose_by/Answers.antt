use Rattle.std.proofs.Common.{◌≡◌, ◌∙◌, List, Option, Some, ap, subst, sym}
use Rattle.std.specs.Option.{option_map}
use Rattle.ioa_value.specs.Plain.{Val}
use Rattle.ioa_code.specs.Valid.{Part}
use Rattle.ioa_parts.specs.declared.proposal.Proposal.{Proposal}
use Rattle.ioa_parts.specs.Faulting.{has_faulted, proposal_faults, values_given}
use Rattle.ioa_parts.specs.Proposals.{proposal_of}
use Rattle.ioa_tree.specs.Proposing.{Words}
use Rattle.ioa_compile.specs.Programs.{EntryCode}
use Rattle.ioa_run.specs.Choices.{GivesAction}
use Rattle.ioa_run.specs.Locals.{code_of}
use Rattle.ioa_run.specs.Proposers.{action_with}
use Rattle.ioa_run.specs.Tallies.{lost_by, lost_from}
use Rattle.ioa_run.proofs.Choosing.{gives_by}
use Rattle.ioa_run.proofs.choice.propose_by.Given.{Over}
use Rattle.ioa_run.proofs.choice.propose_by.Goals as goal
use Rattle.ioa_run.proofs.choice.propose_by.Goals.{In_ok-values}

-- what the entry's code gives, as the proposal tells
given : (g : Over) (c : In_ok-values g) (p : Proposal) → c.in_ok-values.field-0 ≡ p
    → GivesAction (code_of c.args.local.now) c.args.state.now.values (g.W.Words.stream c.args.words.now) (option_map (action_with (code_of c.args.local.now)) (values_given p)) (g.W.Words.stream c.proposal_with.new.words)
given g c p is =
    let e : EntryCode = code_of c.args.local.now in
    let words = g.W.Words.stream c.args.words.now in
    let rest = g.W.Words.stream c.proposal_with.new.words in
    subst (λ q. GivesAction e c.args.state.now.values words (option_map (action_with e) (values_given q)) rest) is
    (gives_by e c.in-Some.code c.args.state.now.values words rest (values_given c.in_ok-values.field-0) c.in-Some.is c.in_ok-values.ensures.value c.in_ok-values.ensures.left)

-- why it is idle, as the proposal tells
lost_told : (part : Part) (s : List Val) (words : Words) (o : Option Part) (p : Proposal) → o ≡ Some part → has_faulted p ≡ proposal_faults part s words → values_given p ≡ proposal_of part s words
    → lost_from (has_faulted p) (values_given p) ≡ lost_by o s words
lost_told part s words o p code why value =
    ap (λ b. lost_from b (values_given p)) why ∙ ap (lost_from (proposal_faults part s words)) value ∙ ap (λ x. lost_by x s words) (sym code)

lost : (g : Over) (c : In_ok-values g) (p : Proposal) → c.in_ok-values.field-0 ≡ p
    → lost_from (has_faulted p) (values_given p) ≡ lost_by (code_of c.args.local.now).propose c.args.state.now.values (g.W.Words.stream c.args.words.now)
lost g c p is =
    let q = c.in_ok-values.field-0 in
    ap (λ x. lost_from (has_faulted x) (values_given x)) (sym is)
    ∙ lost_told c.in-Some.code c.args.state.now.values (g.W.Words.stream c.args.words.now) (code_of c.args.local.now).propose q c.in-Some.is c.in_ok-values.ensures.why c.in_ok-values.ensures.value

pub returns-in_ok-wish-in-Values-clause-gives : goal.returns-in_ok-wish-in-Values-clause-gives
returns-in_ok-wish-in-Values-clause-gives g c =
    let a = (goal.at.returns-in_ok-wish-in-Values-clause-gives g c).In_ok-values in
    let e : EntryCode = code_of c.args.local.now in
    subst (λ x. GivesAction e c.args.state.now.values (g.W.Words.stream c.args.words.now) (Some x) (g.W.Words.stream c.proposal_with.new.words)) (sym c.in_ok-wish-in-Values.ensures.act)
    (given g a (Proposal.Values c.in-Values.values) c.in-Values.is)

pub returns-in_ok-wish-in-Values-clause-lost : goal.returns-in_ok-wish-in-Values-clause-lost
returns-in_ok-wish-in-Values-clause-lost g c = λ ok. lost g (goal.at.returns-in_ok-wish-in-Values-clause-lost g c).In_ok-values (Proposal.Values c.in-Values.values) c.in-Values.is

pub returns-in_ok-wish-in-Values-clause-known : goal.returns-in_ok-wish-in-Values-clause-known
returns-in_ok-wish-in-Values-clause-known g c = λ p h. c.in_ok-wish-in-Values.ensures.known p h

pub returns-in-Nothing-clause-gives : goal.returns-in-Nothing-clause-gives
returns-in-Nothing-clause-gives g c = given g (goal.at.returns-in-Nothing-clause-gives g c).In_ok-values Proposal.Nothing c.in-Nothing.is

pub returns-in-Nothing-clause-lost : goal.returns-in-Nothing-clause-lost
returns-in-Nothing-clause-lost g c = λ ok. lost g (goal.at.returns-in-Nothing-clause-lost g c).In_ok-values Proposal.Nothing c.in-Nothing.is

pub returns-in-Faulted-clause-gives : goal.returns-in-Faulted-clause-gives
returns-in-Faulted-clause-gives g c = given g (goal.at.returns-in-Faulted-clause-gives g c).In_ok-values Proposal.Faulted c.in-Faulted.is

pub returns-in-Faulted-clause-lost : goal.returns-in-Faulted-clause-lost
returns-in-Faulted-clause-lost g c = λ ok. lost g (goal.at.returns-in-Faulted-clause-lost g c).In_ok-values Proposal.Faulted c.in-Faulted.is

-- an entry without code for its proposal gives nothing
pub returns-in_default-clause-lost : goal.returns-in_default-clause-lost
returns-in_default-clause-lost g c = λ ok. ap (λ o. lost_by o c.args.state.now.values (g.W.Words.stream c.args.words.now)) (sym c.in_default.is)
