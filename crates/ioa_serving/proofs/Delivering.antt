-- What a program of Stenning's protocol did, its hosts may do, of whose actions the theorem is.
use Rattle.std.proofs.Common.{◌≡◌, ◌<◌, ◌^◌, ℕ, List, Some, take, sym, ap, ◌∙◌, subst}
use Rattle.std.proofs.Math.Seq.{take-length}
use Rattle.std.proofs.lemmas.List.{length-map}
use Rattle.ioa_value.specs.Actions.{Act}
use Rattle.ioa_tree.specs.Compositions.{picked}
use Rattle.ioa_tree.specs.Hosts.{HostState, Hosted, IsHosted, host_starts, hosts_of}
use Rattle.ioa_tree.specs.Meaning.{Env}
use Rattle.ioa_links.specs.Delivery.{Begins, delivered, performed, sent}
use Rattle.ioa_links.specs.Trees.{stenning_source}
use Rattle.ioa_links.proofs.Stands.{stenning_delivers}
use Rattle.ioa_board.specs.Boards.{IsSound, Standing}
use Rattle.ioa_board.specs.Histories.{acts_of}
use Rattle.ioa_run.proofs.Hosting.{host_history}
use Rattle.ioa_board.proofs.Performing.{legal_run}
use Rattle.ioa_serving.specs.Delivering.{HistoriesDeliver, ObjectsDeliver, protocol_name}
use Rattle.ioa_serving.specs.Headline.{Declares, Spells}
use Rattle.ioa_serving.proofs.CarriedRuns.{histories_as_source}
use Rattle.ioa_serving.proofs.Declared.{tree_once}

-- all actions of a legal history are performed
all_of : (h : Hosted) (d : Standing (HostState Env)) → IsSound (hosts_of h) (host_starts h) d → performed h (acts_of d.history) ≡ acts_of d.history
all_of h d s =
    ap (λ r. take r.performed (acts_of d.history)) (legal_run (hosts_of h) d.history (host_starts h) d.states s.legal)
    ∙ ap (λ k. take k (acts_of d.history)) (sym (length-map d.history (λ (e : ℕ × Act). e.1))) ∙ take-length (acts_of d.history)

of_hosts_board : (n : ℕ) (text : List ℕ) (h : Hosted) (d : Standing (HostState Env)) → n < 2 ^ 63 → Spells text (stenning_source n) → Declares text (Some protocol_name) h
    → IsSound (hosts_of h) (host_starts h) d → Begins (delivered (acts_of d.history)) (sent (acts_of d.history))
of_hosts_board n text h d small spells declares s =
    let source : declares.source ≡ stenning_source n = tree_once text declares.source (stenning_source n) declares.spells spells in
    let picks : picked (stenning_source n) (Some protocol_name) ≡ Some declares.tree = subst (λ t. picked t (Some protocol_name) ≡ Some declares.tree) source declares.picks in
    let is : IsHosted (stenning_source n) declares.tree h = subst (λ t. IsHosted t declares.tree h) source declares.is_hosted in
    subst (λ acts. Begins (delivered acts) (sent acts)) (all_of h d s) ((stenning_delivers n small).begins declares.tree h (acts_of d.history) picks is)

pub histories_deliver : HistoriesDeliver
histories_deliver n text h p b small spells declares (c, stands, means) sound =
    let w = host_history p h c b stands means sound in
    subst (λ es. Begins (delivered (acts_of es)) (sent (acts_of es))) w.2.history (of_hosts_board n text h w.0 small spells declares w.1)

pub objects_deliver : ObjectsDeliver
objects_deliver n text object of p b small spells (h, gives, made) given sound =
    let w = (histories_as_source text object (Some protocol_name) of p h (h, gives, made) given gives.1).0 b sound in
    subst (λ es. Begins (delivered (acts_of es)) (sent (acts_of es))) w.2.history (of_hosts_board n text h w.0 small spells gives.1 w.1)
