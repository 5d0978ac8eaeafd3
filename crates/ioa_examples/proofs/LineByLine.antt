-- Small logs of a counter, read and judged line by line: each answer is computed.
use Rattle.std.proofs.Common.{◌≡◌, ℕ, List, [], ◌∷◌, Result, Ok, Err, refl, codes}
use Rattle.ioa_arithmetic.specs.declared.arithmetic.Fault.TheVariants.{Overflow, ZeroDivisor}
use Rattle.ioa_tree.specs.Runs.{Ending, done, fault_at}
use Rattle.ioa_log.specs.EntryByEntry.{going}
use Rattle.ioa_log.specs.Judging.{diverges, wrong_owner}
use Rattle.ioa_log.specs.LineByLine.{Told, entry, ending, no_json, no_line, going_on, Refusal, not_json, bad_line, differs, no_end, after_end, line_by_line}
use Rattle.ioa_examples.proofs.Judging as counters
use Rattle.ioa_examples.proofs.Judging.{counter}

abbrev tick : ℕ → Told
tick k = entry (0, counters.tick k)

-- by a worker that is not its own
abbrev tick_by : ℕ → ℕ → Told
tick_by w k = entry (w, counters.tick k)

abbrev reset : Told
reset = entry (1, counters.reset)

abbrev other : Told
other = entry (7, record { name = codes "other"; vals = [] })

-- the counter from 0: at 2 its tick faults
abbrev answer : List Told → Result Ending Refusal
answer ts = line_by_line (counter ∷ []) (going_on (going 0 (0 ∷ []))) ts

accepted : answer (tick 0 ∷ tick 1 ∷ reset ∷ ending (done 3) ∷ []) ≡ Ok (done 3)
accepted = refl

another_worker : answer (tick_by 1 0 ∷ tick 1 ∷ reset ∷ ending (done 3) ∷ []) ≡ Err (differs (wrong_owner 1))
another_worker = refl

exchanged : answer (tick 1 ∷ tick 0 ∷ reset ∷ ending (done 3) ∷ []) ≡ Err (differs (diverges 1))
exchanged = refl

another_count : answer (tick 0 ∷ tick 1 ∷ reset ∷ ending (done 2) ∷ []) ≡ Err (differs (diverges 4))
another_count = refl

no_end_line : answer (tick 0 ∷ tick 1 ∷ reset ∷ []) ≡ Err no_end
no_end_line = refl

end_twice : answer (tick 0 ∷ tick 1 ∷ reset ∷ ending (done 3) ∷ ending (done 3) ∷ []) ≡ Err after_end
end_twice = refl

no_text : answer (tick 0 ∷ no_json ∷ reset ∷ ending (done 3) ∷ []) ≡ Err (not_json 2)
no_text = refl

no_object : answer (tick 0 ∷ no_line ∷ reset ∷ ending (done 3) ∷ []) ≡ Err (bad_line 2)
no_object = refl

-- the least line is told
worker_before_text : answer (tick_by 1 0 ∷ tick 1 ∷ no_json ∷ ending (done 3) ∷ []) ≡ Err (differs (wrong_owner 1))
worker_before_text = refl

text_before_worker : answer (tick 0 ∷ no_json ∷ tick_by 1 1 ∷ ending (done 3) ∷ []) ≡ Err (not_json 2)
text_before_worker = refl

count_before_more : answer (tick 0 ∷ ending (done 2) ∷ ending (done 2) ∷ []) ≡ Err (differs (diverges 2))
count_before_more = refl

whatever_is_behind : answer (tick 0 ∷ ending (done 1) ∷ no_json ∷ []) ≡ Err after_end
whatever_is_behind = refl

-- an action of none has no worker to ask for
no_action : answer (tick 0 ∷ other ∷ ending (done 2) ∷ []) ≡ Err (differs (diverges 2))
no_action = refl

-- the worker is asked before the precondition, and before the fault
worker_before_step : answer (tick_by 1 1 ∷ []) ≡ Err (differs (wrong_owner 1))
worker_before_step = refl

worker_before_fault : answer (tick 0 ∷ tick 1 ∷ tick_by 1 2 ∷ no_json ∷ []) ≡ Err (differs (wrong_owner 3))
worker_before_fault = refl

-- an entry that faults is judged with the line after it
faults : answer (tick 0 ∷ tick 1 ∷ tick 2 ∷ ending (fault_at 0 Overflow 2) ∷ []) ≡ Ok (fault_at 0 Overflow 2)
faults = refl

fault_and_no_text : answer (tick 0 ∷ tick 1 ∷ tick 2 ∷ no_json ∷ []) ≡ Err (not_json 4)
fault_and_no_text = refl

fault_and_no_line : answer (tick 0 ∷ tick 1 ∷ tick 2 ∷ no_line ∷ []) ≡ Err (bad_line 4)
fault_and_no_line = refl

fault_and_entry : answer (tick 0 ∷ tick 1 ∷ tick 2 ∷ reset ∷ []) ≡ Err (differs (diverges 3))
fault_and_entry = refl

-- also one of another worker
fault_and_wrong_entry : answer (tick 0 ∷ tick 1 ∷ tick 2 ∷ tick_by 1 2 ∷ []) ≡ Err (differs (diverges 3))
fault_and_wrong_entry = refl

fault_and_done : answer (tick 0 ∷ tick 1 ∷ tick 2 ∷ ending (done 3) ∷ []) ≡ Err (differs (diverges 3))
fault_and_done = refl

fault_and_other_fault : answer (tick 0 ∷ tick 1 ∷ tick 2 ∷ ending (fault_at 0 ZeroDivisor 2) ∷ []) ≡ Err (differs (diverges 4))
fault_and_other_fault = refl

fault_of_another : answer (tick 0 ∷ tick 1 ∷ tick 2 ∷ ending (fault_at 1 Overflow 2) ∷ []) ≡ Err (differs (diverges 4))
fault_of_another = refl

fault_and_nothing : answer (tick 0 ∷ tick 1 ∷ tick 2 ∷ []) ≡ Err no_end
fault_and_nothing = refl

fault_and_more : answer (tick 0 ∷ tick 1 ∷ tick 2 ∷ ending (fault_at 0 Overflow 2) ∷ no_json ∷ []) ≡ Err after_end
fault_and_more = refl

-- a last entry that is performed is no fault
no_fault : answer (tick 0 ∷ tick 1 ∷ ending (fault_at 0 Overflow 1) ∷ []) ≡ Err (differs (diverges 2))
no_fault = refl

-- small texts
nothing : answer [] ≡ Err no_end
nothing = refl

end_alone : answer (ending (done 0) ∷ []) ≡ Ok (done 0)
end_alone = refl

wrong_end_alone : answer (ending (done 1) ∷ []) ≡ Err (differs (diverges 1))
wrong_end_alone = refl

wrong_end_and_more : answer (ending (done 1) ∷ no_json ∷ []) ≡ Err (differs (diverges 1))
wrong_end_and_more = refl

fault_alone : answer (ending (fault_at 0 Overflow 0) ∷ []) ≡ Err (differs (diverges 1))
fault_alone = refl
