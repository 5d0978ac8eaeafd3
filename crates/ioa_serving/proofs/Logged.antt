-- From the clauses of the layers to what a replay and a monitor of a log write.
use Rattle.std.proofs.Common.{◌≡◌, ℕ, ◌-◌, ◌<◌, List, [], ◌∷◌, ◌++◌, map, length, take, Option, Some, None, IsSome, true, if◌then◌else◌, sym, ap, ap₂, ◌∙◌, arith, append-nil, length-append}
use Rattle.std.specs.Option.{option_map_or, option_to_list}
use Rattle.std.proofs.Math.Seq.{take-append_seam}
use Rattle.std.proofs.lemmas.Bool.{false≢true}
use Rattle.std.proofs.lemmas.List.{length-map, take-map}
use Rattle.ioa_value.specs.declared.action.Action.{Action}
use Rattle.ioa_value.specs.Actions.{Act, act_of}
use Rattle.ioa_tree.specs.Hosts.{Hosted, hosts_of, host_starts, first_broken_host}
use Rattle.ioa_tree.specs.Runs.{run}
use Rattle.ioa_system.specs.declared.outcomes.End.{End}
use Rattle.ioa_system.specs.declared.log.Log.{Log}
use Rattle.ioa_system.specs.declared.log.LogEnd.{LogEnd}
use Rattle.ioa_system.specs.Outcomes.{ending_of}
use Rattle.ioa_system.specs.Logs.{Logged, actions_of, is_fault, log_end, logged}
use Rattle.ioa_inspect.specs.declared.broken_invariants.Broken.{Broken}
use Rattle.ioa_inspect.specs.Breaking.{broken_of}
use Rattle.ioa_account.proofs.Remarking.{entered, entered_are}
use Rattle.ioa_serving.specs.declared.invariant_replay.Finding.{Finding}
use Rattle.ioa_serving.specs.Logs.{broken, found_in, found_of, performed_in, unbroken}

-- what is left where the last item is taken away
popped : {X : Type 0} (xs ys : List X) (o : Option X) → xs ≡ ys ++ option_to_list o → (0 < length xs → IsSome o) → ys ≡ take (length xs - 1) xs
popped [] ys None e some = sym (e ∙ append-nil ys)
popped (x ∷ xs) ys None e some = let one : 0 < length (x ∷ xs) = omega arith in absurd (false≢true (some one))
popped xs ys (Some x) e some =
    let n : length xs - 1 ≡ length ys = omega (arith, ap length e, length-append ys (x ∷ [])) in
    sym (ap₂ take n e ∙ take-append_seam ys (x ∷ []))

-- an invariant that is broken is what is found
pub found_broken : (h : Hosted) (log : Logged) (b : Broken) → Some (broken_of b) ≡ first_broken_host h (actions_of log) → found_of (Finding.Broken b) ≡ found_in h log
found_broken h log b first = ap (λ o. option_map_or broken o (unbroken (run (hosts_of h) (actions_of log) (host_starts h)).ending)) first

-- where none is, the end is
pub found_unbroken : (h : Hosted) (log : Logged) (end : End) → None ≡ first_broken_host h (actions_of log)
    → ending_of end ≡ (run (hosts_of h) (actions_of log) (host_starts h)).ending → found_of (Finding.Unbroken end) ≡ found_in h log
found_unbroken h log end first ends =
    ap unbroken ends ∙ ap (λ o. option_map_or broken o (unbroken (run (hosts_of h) (actions_of log) (host_starts h)).ending)) first

-- what is performed of a log with this end
abbrev pub performed_by : LogEnd → List Act → List Act
performed_by end acts = if is_fault (log_end end) then take (length acts - 1) acts else acts

pub performed_are : (l : Log) → performed_in (logged l) ≡ performed_by l.end (entered l.entries.items)
performed_are l =
    let n : length (logged l).entries ≡ length (actions_of (logged l)) = sym (length-map (logged l).entries (λ e. e.1)) in
    ap (λ m. if is_fault (log_end l.end) then take (m - 1) (actions_of (logged l)) else actions_of (logged l)) n
    ∙ ap (performed_by l.end) (entered_are l)

pub all_performed : (l : Log) (n : ℕ) (all : List Action) → l.end ≡ LogEnd.Done n → map act_of all ≡ entered l.entries.items → map act_of all ≡ performed_in (logged l)
all_performed l n all is e = e ∙ ap (λ end. performed_by end (entered l.entries.items)) (sym is) ∙ sym (performed_are l)

pub last_faulted : (l : Log) (end : LogEnd) (all rest : List Action) (o : Option Action) → l.end ≡ end → is_fault (log_end end) ≡ true → map act_of all ≡ entered l.entries.items
    → all ≡ rest ++ option_to_list o → (0 < length all → IsSome o) → map act_of rest ≡ performed_in (logged l)
last_faulted l end all rest o is fault e left some =
    let n : length all ≡ length (entered l.entries.items) = sym (length-map all act_of) ∙ ap length e in
    let f : is_fault (log_end l.end) ≡ true = ap (λ d. is_fault (log_end d)) is ∙ fault in
    ap (map act_of) (popped all rest o left some) ∙ sym (take-map act_of (length all - 1) all)
    ∙ ap₂ (λ k acts. take (k - 1) acts) n e
    ∙ sym (ap (λ b. if b then take (length (entered l.entries.items) - 1) (entered l.entries.items) else entered l.entries.items) f)
    ∙ sym (performed_are l)
