use Rattle.std.proofs.Common.{◌≡◌, List, map, refl, sym, ap, subst, ◌∙◌}
use Rattle.ioa_value.specs.Actions.{act_of}
use Rattle.ioa_value.specs.Plain.{Val}
use Rattle.ioa_parts.specs.Nodes.{Node}
use Rattle.ioa_tree.specs.Hosts.{host_starts, hosts_of}
use Rattle.ioa_tree.specs.Likes.{AllRelated}
use Rattle.ioa_tree.specs.Runs.{Reached, run}
use Rattle.ioa_compose.specs.Held.{composed_of}
use Rattle.ioa_compose.specs.Simulates.{SlotsHoldAt}
use Rattle.ioa_compile.specs.Subjects.{RunsAs, of_hosts, of_table}
use Rattle.ioa_system.specs.Outcomes.{ending_of}
use Rattle.ioa_system.specs.Systems.{types_of, values_of}
use Rattle.ioa_system.proofs.Subjects.{hosts_run, table_run}
use Rattle.ioa_account.specs.Accounts.{faults_early, is_down_in, name_of, why}
use Rattle.ioa_account.specs.Ends.{component_in, index_in}
use Rattle.ioa_account.proofs.Telling.{early_alike}
use Rattle.ioa_account.proofs.ends.tell.Goals as goal

pub returns-clause-told : goal.returns-clause-told
returns-clause-told c = λ h stands.
    let p = c.args.program.now in
    let acts = map act_of c.args.actions.now in
    let runs : RunsAs p (of_hosts h) = (composed_of c.args.composition.now, stands, c.requires.means) in
    let said = hosts_run p h acts c.args.reached.now (c.requires.run (of_hosts h) runs) in
    let r = run (hosts_of h) acts (host_starts h) in
    let end = ending_of c.args.reached.now.end in
    let component = c.component_of-component.result in
    let down = c.in_ok-is_down.is_down in
    let same : r.ending ≡ end = said.ending in
    let holding : (ns : List Node) → ns ≡ c.args.reached.now.states.items → AllRelated (SlotsHoldAt h.hosts) 0 r.states (values_of ns) = λ ns e.
    subst (λ (xs : List Node). AllRelated (SlotsHoldAt h.hosts) 0 r.states (values_of xs)) (sym e) said.states in
    let early = c.in_ok-is_early.is_early in
    let asks : early ≡ faults_early (hosts_of h) acts c.args.index r.states =
    c.in_ok-is_early.ensures
    ∙ early_alike p (of_hosts h) runs acts c.args.index (values_of c.deref-2.result.now)
    (ap values_of c.deref-2.ensures.value ∙ ap (λ (q : Reached (List Val)). q.states) (table_run p acts c.args.reached.now (c.requires.run (of_table p) refl)).reached) in
    record {
      end = sym same;
      index = ap index_in same ∙ c.requires.index;
      component = c.component_of-component.ensures (of_hosts h) runs ∙ ap (component_in (hosts_of h) acts) (sym same);
      why = c.in_ok-why.ensures ∙ ap (λ types. why types acts c.name_of-name.result.now down early end) (c.types.ensures.value ∙ stands.types)
          ∙ ap (λ x. why h.types acts x down early end) (c.name_of-name.ensures h stands)
          ∙ ap (λ d. why h.types acts (name_of h.hosts component) d early end) (c.in_ok-is_down.ensures h r.states stands (holding c.deref.result.now c.deref.ensures.value))
          ∙ ap (λ e. why h.types acts (name_of h.hosts component) (is_down_in h.hosts r.states component) e end) asks
          ∙ ap (why h.types acts (name_of h.hosts component) (is_down_in h.hosts r.states component) (faults_early (hosts_of h) acts c.args.index r.states)) (sym same);
      states = c.in_ok-states.ensures h r.states stands (holding c.deref-3.result.now c.deref-3.ensures.value);
    }

pub faults_early-requires : goal.faults_early-requires
faults_early-requires c = ap types_of c.deref-2.ensures.value ∙ (c.requires.run (of_table c.args.program.now) refl).types
