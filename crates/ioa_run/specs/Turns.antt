-- Turns of workers, one after another: what each means to do, what becomes of it, and a run of so many rounds.
use Rattle.std.specs.Prelude.{ℕ, zero, suc, ◌+◌, ◌%◌, List, [], ◌∷◌, Bool, true, false, cond, Option, None, Some, length, replicate, slice_get, unwrap_or}
use Rattle.std.specs.Option.{option_map_or}
use Rattle.ioa_value.specs.Actions.{Act}
use Rattle.ioa_tree.specs.Components.{Component}
use Rattle.ioa_tree.specs.Proposing.{Words, Tried, tries, idle}
use Rattle.ioa_board.specs.Boards.{Standing, attempt}
use Rattle.ioa_board.specs.Reports.{blank, with_idle, with_why, told}
use Rattle.ioa_board.specs.declared.answer.Answer.{Answer}
use Rattle.ioa_board.specs.declared.report.Report.{Report}
use Rattle.ioa_board.specs.declared.report.Why.{Why}

-- the words after so many
abbrev pub after : ℕ → Words → Words
after n words = λ k. words (k + n)

-- what a local entry proposes in its component's state, by words of which so many are taken
abbrev pub Proposer : Type 0 → Type 0
Proposer S = S → Words → ℕ → Tried Act

-- what a component with these local entries means to do: one word picks an entry by its number, in order, and the entry proposes by the
-- words after it. Without local entries there is nothing to try, and no word is taken
abbrev pub chosen : {S : Type 0} → List (Proposer S) → S → Words → Tried Act
chosen es s words = option_map_or (λ e. e s words 1) (slice_get es (words 0 % length es)) (idle 0)

-- whether the worker takes no turn after it
abbrev pub is_last : Answer → Bool
is_last (Answer.Committed n) = false
is_last (Answer.Faulted c f) = true
is_last Answer.Stopped = true
is_last Answer.NotAnAction = false
is_last Answer.NotYours = false
is_last Answer.NotEnabled = false
is_last Answer.Planned = false
is_last Answer.NoPlan = false
is_last Answer.Stale = false

-- the item of this number, and no other, is changed so
abbrev pub changed : {X : Type 0} → (X → X) → ℕ → List X → List X
changed f w [] = []
changed f zero (x ∷ xs) = f x ∷ xs
changed f (suc w) (x ∷ xs) = x ∷ changed f w xs

-- what has been done, a report for each component in order and last for the environment, the words that are left for each component, and
-- which workers take no more turns
pub record Turns (S : Type 0) : Type 0 where
  pub board : Standing S
  pub reports : List Report
  pub words : List Words
  pub ended : List Bool

-- after a turn of a worker that means to do this
abbrev pub turned : {S : Type 0} → List (Component S) → ℕ → Tried Act → Turns S → Turns S
turned ps w (idle taken) t = record { board = t.board; reports = changed with_idle w t.reports; words = changed (after taken) w t.words; ended = t.ended }
turned ps w (tries a taken) t = record {
  board = (attempt ps w a t.board).1;
  reports = changed (told (attempt ps w a t.board).0) w t.reports;
  words = changed (after taken) w t.words;
  ended = changed (λ e. is_last (attempt ps w a t.board).0) w t.ended;
}

-- the next of the environment's script, of which so many actions are performed
abbrev pub next_input : List Act → Option Report → Tried Act
next_input inputs None = idle 0
next_input inputs (Some r) = option_map_or (λ a. tries a 0) (slice_get inputs r.committed) (idle 0)

abbrev pub next_choice : {S : Type 0} → List (Proposer S) → Option S → Option Words → Tried Act
next_choice es None words = idle 0
next_choice es (Some s) None = idle 0
next_choice es (Some s) (Some words) = chosen es s words

-- whether the worker takes no more turns; a number past the workers' takes none
abbrev pub has_ended : {S : Type 0} → Turns S → ℕ → Bool
has_ended t w = unwrap_or (slice_get t.ended w) true

-- the components, the local entries of each in order, and the environment's script
module _ {S : Type 0} (ps : List (Component S)) (entries : List (List (Proposer S))) (inputs : List Act) where
  -- what a worker means to do: a component by its own state and words, and the environment by its script
  abbrev pub meant : ℕ → Turns S → Tried Act
  meant w t = option_map_or (λ es. next_choice es (slice_get t.board.states w) (slice_get t.words w)) (slice_get entries w) (next_input inputs (slice_get t.reports w))

  -- who has ended takes no turn
  abbrev pub turn : ℕ → Turns S → Turns S
  turn w t = cond (has_ended t w) t (turned ps w (meant w t) t)

  -- the first so many workers take a turn each, in ascending order
  abbrev pub turns_of_first : ℕ → Turns S → Turns S
  turns_of_first zero t = t
  turns_of_first (suc n) t = turn n (turns_of_first n t)

  -- all do: the components, and then the environment
  abbrev pub round : Turns S → Turns S
  round t = turns_of_first (length entries + 1) t

  abbrev pub rounds : ℕ → Turns S → Turns S
  rounds zero t = t
  rounds (suc n) t = round (rounds n t)

-- who has not ended has done with its turns
abbrev pub with_done : List Bool → List Report → List Report
with_done [] rs = rs
with_done (e ∷ es) [] = []
with_done (e ∷ es) (r ∷ rs) = cond e r (with_why Why.TurnsDone r) ∷ with_done es rs

abbrev pub all_done : {S : Type 0} → Turns S → Turns S
all_done t = record { board = t.board; reports = with_done t.ended t.reports; words = t.words; ended = t.ended }

-- nothing is done yet since this board, and so many components, and the environment, have these words
abbrev pub turns_from : {S : Type 0} → Standing S → List Words → ℕ → Turns S
turns_from b words n = record { board = b; reports = replicate (n + 1) blank; words = words; ended = replicate (n + 1) false }

-- the run of so many rounds from this board, by these words for each component
abbrev pub alone_from : {S : Type 0} → List (Component S) → List (List (Proposer S)) → List Act → ℕ → Standing S → List Words → Turns S
alone_from ps entries inputs turns b words = all_done (rounds ps entries inputs turns (turns_from b words (length entries)))
