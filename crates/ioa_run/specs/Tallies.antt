-- Tallies: what came of the turns in which a component tried one of its own entries and performed nothing. They stand beside the reports, with which they agree.
use Rattle.std.specs.Prelude.{◌≡◌, ◌≢◌, ◌+◌, ◌-◌, ◌^◌, ◌%◌, ◌==◌, ◌&&◌, ℕ, Bool, cond, List, Some, Option, None, count_by, length, map, min, nat_lt, replicate, slice_get, unwrap_or}
use Rattle.std.specs.List.{sum_by}
use Rattle.std.specs.Option.{option_map_or}
use Rattle.std.specs.Str.{bytes_eq}
use Rattle.ioa_value.specs.Actions.{Act, Name}
use Rattle.ioa_value.specs.Plain.{Val}
use Rattle.ioa_code.specs.Valid.{Part}
use Rattle.ioa_parts.specs.Faulting.{proposal_faults}
use Rattle.ioa_parts.specs.Proposals.{proposal_of}
use Rattle.ioa_tree.specs.Proposing.{Words}
use Rattle.ioa_compile.specs.Programs.{EntryCode, MemberCode}
use Rattle.ioa_board.specs.declared.report.Report.{Report}
use Rattle.ioa_run.specs.declared.tally.Lost.{Lost}
use Rattle.ioa_run.specs.declared.tally.Pick.{Pick}
use Rattle.ioa_run.specs.declared.tally.Tally.{Tally}
use Rattle.ioa_run.specs.declared.tally.Tries.{Tries}
use Rattle.ioa_board.specs.ProgramRooms.{ProgramRoom}
use Rattle.ioa_run.specs.Proposers.{local_entries}
use Rattle.ioa_board.specs.Reports as reports
use Rattle.ioa_board.specs.Reports.{one_more}
use Rattle.ioa_run.specs.Turns.{after, changed}

-- ---- one entry

abbrev pub no_tries : Tries
no_tries = record { no_proposal = 0; proposal_faulted = 0; not_enabled = 0; stale = 0 }

-- one more turn that is idle for this reason
abbrev pub with_lost : Lost → Tries → Tries
with_lost Lost.NoProposal t = record { no_proposal = one_more t.no_proposal; proposal_faulted = t.proposal_faulted; not_enabled = t.not_enabled; stale = t.stale }
with_lost Lost.ProposalFaulted t = record { no_proposal = t.no_proposal; proposal_faulted = one_more t.proposal_faulted; not_enabled = t.not_enabled; stale = t.stale }
with_lost Lost.NotEnabled t = record { no_proposal = t.no_proposal; proposal_faulted = t.proposal_faulted; not_enabled = one_more t.not_enabled; stale = t.stale }

abbrev pub with_stale : Tries → Tries
with_stale t = record { no_proposal = t.no_proposal; proposal_faulted = t.proposal_faulted; not_enabled = t.not_enabled; stale = one_more t.stale }

-- behind a turn that changes the worker's report: it is idle, for this reason, or stale, or neither
abbrev pub followed : Lost → Report → Report → Tries → Tries
followed l old new t = cond (nat_lt old.idle new.idle) (with_lost l t) (cond (nat_lt old.stale new.stale) (with_stale t) t)

-- its idle turns
abbrev pub idle_in : Tries → ℕ
idle_in t = t.no_proposal + t.proposal_faulted + t.not_enabled

abbrev pub stale_in : Tries → ℕ
stale_in t = t.stale

-- ---- a component

-- what is counted of each of its own entries, in order
abbrev pub tally_of : Tally → List Tries
tally_of t = t.entries.items

-- no turn is taken yet
abbrev pub blank : MemberCode → List Tries
blank m = replicate (length (local_entries m.entries)) no_tries

-- behind such a turn it is so of the entry that the word picks, whose number is the remainder by how many there are
abbrev pub tallied : Pick → Report → Report → List Tries → List Tries
tallied k old new ts = changed (followed k.lost old new) (k.word % length ts) ts

abbrev pub no_pick : Pick
no_pick = record { word = 0; lost = Lost.NoProposal }

-- ---- what a turn tries

-- by whether a proposal faulted, and the values that it gives, if it gives some
abbrev pub lost_from : Bool → Option (List Val) → Lost
lost_from faulted values = cond faulted Lost.ProposalFaulted (option_map_or (λ vs. Lost.NotEnabled) values Lost.NoProposal)

-- why it is idle, if it is, in which an entry with this code for its proposal is tried in this state, by these words
abbrev pub lost_by : Option Part → List Val → Words → Lost
lost_by None s words = Lost.NoProposal
lost_by (Some part) s words = lost_from (proposal_faults part s words) (proposal_of part s words)

-- the first word picks one of these local entries, whose proposal goes on with the words after it
pub record IsPick (es : List EntryCode) (s : List Val) (words : Words) (k : Pick) : Type 0 where
  pub word : length es ≢ 0 → k.word ≡ words 0
  pub lost : (e : EntryCode) → slice_get es (words 0 % length es) ≡ Some e → k.lost ≡ lost_by e.propose s (after 1 words)

-- ---- beside the reports

-- as far as a report counts
abbrev pub capped : ℕ → ℕ
capped n = min n (2 ^ 64 - 1)

-- all idle turns, and all that are stale
pub record Sums (r : Report) (ts : List Tries) : Type 0 where
  pub idle : capped (sum_by idle_in ts) ≡ r.idle
  pub stale : capped (sum_by stale_in ts) ≡ r.stale

-- while a run goes on: there is a tally for each component, with each of its own entries, and where it has some, they sum up to its worker's report; the
-- environment has none
pub record AreAgreeing (ms : List MemberCode) (rs : List Report) (ts : List (List Tries)) : Type 0 where
  pub components : length ts ≡ length ms
  pub entries : (w : ℕ) (m : MemberCode) (t : List Tries) → slice_get ms w ≡ Some m → slice_get ts w ≡ Some t → length t ≡ length (local_entries m.entries)
  pub sums : (w : ℕ) (r : Report) (t : List Tries) → slice_get rs w ≡ Some r → slice_get ts w ≡ Some t → length t ≢ 0 → Sums r t

abbrev pub AreTallied : ProgramRoom → List (List Tries) → Type 0
AreTallied r ts = AreAgreeing r.program.members r.reports ts

-- the worker's report; past the workers one without turns
abbrev pub report_at : List Report → ℕ → Report
report_at rs w = unwrap_or (slice_get rs w) reports.blank

-- ---- of a run that has ended

-- how often a worker performed an action of this name
abbrev pub performed_named : List (ℕ × Act) → ℕ → Name → ℕ
performed_named h w x = count_by (λ e. (e.0 == w) && bytes_eq (e.1).name x) h

-- those of all its own entries, whose names differ
abbrev pub performed_in : List (ℕ × Act) → ℕ → List Name → ℕ
performed_in h w xs = sum_by (performed_named h w) xs

-- the names of a component's own entries, in their order
abbrev pub own_names : MemberCode → List Name
own_names m = map (λ e. e.name) (local_entries m.entries)

-- what is counted of a component's own entries adds up to the report of its worker: what the history tells to be performed to the committed turns, and, where it has
-- an entry, what is idle and what is stale to the idle and the stale ones
pub record AddsUp (h : List (ℕ × Act)) (w : ℕ) (xs : List Name) (r : Report) (ts : List Tries) : Type 0 where
  pub entries : length ts ≡ length xs
  pub committed : performed_in h w xs ≡ r.committed
  pub idle : length xs ≢ 0 → sum_by idle_in ts ≡ r.idle
  pub stale : length xs ≢ 0 → sum_by stale_in ts ≡ r.stale

-- so of each component, whose own entries have these names
pub record AddUp (h : List (ℕ × Act)) (names : List (List Name)) (rs : List Report) (ts : List (List Tries)) : Type 0 where
  pub components : length ts ≡ length names
  pub each : (w : ℕ) (xs : List Name) (r : Report) (t : List Tries) → slice_get names w ≡ Some xs → slice_get rs w ≡ Some r → slice_get ts w ≡ Some t → AddsUp h w xs r t
