-- Logs: each answer is computed.
use Rattle.std.proofs.Common.{◌≡◌, ◌≢◌, pos, [], ◌∷◌, Some, None, codes, refl}
use Rattle.std.specs.Fmt.{digits}
use Rattle.serde_json.specs.Data.{Data, string, number, unsigned, array, object, member, no_members, no_items}
use Rattle.serde_json.specs.Read.{read}
use Rattle.serde_json.proofs.OnLiterals.{serde_json_on_literals}
use Rattle.ioa_value.specs.Plain.{num}
use Rattle.ioa_value.specs.Table.{basic}
use Rattle.ioa_value.specs.Written.{written_action}
use Rattle.ioa_arithmetic.specs.declared.arithmetic.Fault.TheVariants.{ZeroDivisor}
use Rattle.ioa_tree.specs.Runs.{done, fault_at}
use Rattle.ioa_system.specs.Endings.{ending_text}
use Rattle.ioa_system.specs.Logs.{Logged}
use Rattle.ioa_log.specs.LogLines.{performed, ended, said_by}
use Rattle.ioa_log.specs.LogTexts.{log_text}
use Rattle.ioa_log.proofs.WrittenLogs.{entry_value, end_value}

-- ---- ends

all_done : ending_text (done 3) ≡ codes "done after 3"
unfolding digits
all_done = refl

last_faults : ending_text (fault_at 1 ZeroDivisor 4) ≡ codes "fault 2 in component 1 at 4"
unfolding digits
last_faults = refl

zero_in_front : codes "done after 03" ≢ ending_text (done 3)
unfolding digits
zero_in_front e = cc

-- ---- what values say

an_entry : said_by (entry_value (codes "tick(5)") 0) ≡ Some (performed (codes "tick(5)") 0)
an_entry = refl

an_end : said_by (end_value (codes "done after 3")) ≡ Some (ended (codes "done after 3"))
an_end = refl

worker_as_text : said_by (object (member (codes "act") (string (codes "tick(5)")) (member (codes "who") (string (codes "0")) no_members))) ≡ None
worker_as_text = refl

abbrev dated : Data
dated = object (member (codes "act") (string (codes "a")) (member (codes "at") (number (unsigned 1)) (member (codes "who") (number (unsigned 0)) no_members)))

third_key : said_by dated ≡ None
third_key = refl

other_key : said_by (object (member (codes "act") (string (codes "a")) (member (codes "worker") (number (unsigned 0)) no_members))) ≡ None
other_key = refl

end_and_more : said_by (object (member (codes "act") (string (codes "a")) (member (codes "end") (string (codes "done after 3")) no_members))) ≡ None
end_and_more = refl

no_object : said_by (array no_items) ≡ None
no_object = refl

-- ---- lines

as_written : read (codes "{\"act\":\"tick(5)\",\"who\":0}") ≡ Some (entry_value (codes "tick(5)") 0)
unfolding serde_json_on_literals
as_written = refl

in_other_order : read (codes "{ \"who\": 0, \"act\": \"tick(5)\" }") ≡ Some (entry_value (codes "tick(5)") 0)
unfolding serde_json_on_literals
in_other_order = refl

last_one_counts : read (codes "{\"who\":1,\"act\":\"a\",\"who\":0}") ≡ Some (entry_value (codes "a") 0)
unfolding serde_json_on_literals
last_one_counts = refl

with_escapes : read (codes "{\"\\u0065nd\":\"done\\u0020after 3\"}") ≡ Some (end_value (codes "done after 3"))
unfolding serde_json_on_literals
with_escapes = refl

empty_line : read [] ≡ None
unfolding serde_json_on_literals
empty_line = refl

left_open : read (codes "{\"end\":\"done after 3\"") ≡ None
unfolding serde_json_on_literals
left_open = refl

-- ---- a log

abbrev log : Logged
log = record { entries = (0, record { name = codes "tick"; vals = num (pos 5) ∷ [] }) ∷ (1, record { name = codes "reset"; vals = [] }) ∷ []; ending = done 2 }

its_text : log_text basic log ≡ codes "{\"act\":\"tick(5)\",\"who\":0}\n{\"act\":\"reset\",\"who\":1}\n{\"end\":\"done after 2\"}\n"
unfolding digits written_action
its_text = refl
