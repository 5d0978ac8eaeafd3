-- What an entry's code gives where each word is the same.
use Rattle.std.specs.Prelude.{◌≡◌, ◌≢◌, ◌<◌, ◌+◌, ◌%◌, ℕ, zero, suc, List, [], ◌∷◌, All, map, min, Option, Some, None, slice_get}
use Rattle.std.specs.List.{range_with_len}
use Rattle.std.specs.Option.{option_and_then, option_map}
use Rattle.ioa_value.specs.Actions.{Act, Name}
use Rattle.ioa_value.specs.Plain.{Val}
use Rattle.ioa_code.specs.Valid.{Part}
use Rattle.ioa_parts.specs.Proposals.{proposal_of}
use Rattle.ioa_tree.specs.Proposing.{Words}
use Rattle.ioa_compile.specs.Programs.{EntryCode}
use Rattle.ioa_run.specs.Proposers.{action_with}
use Rattle.ioa_enabled.specs.Ways.{Values}

-- each word is this one
abbrev pub each_word : ℕ → Words
each_word word = λ k. word

abbrev pub sampled_by : Option Part → List Val → ℕ → Option (List Val)
sampled_by None s word = None
sampled_by (Some part) s word = proposal_of part s (each_word word)

-- the action that the entry's code gives then, in a state of these values
abbrev pub sampled : EntryCode → List Val → ℕ → Option Act
sampled e s word = option_map (action_with e) (sampled_by e.propose s word)

-- the value in this place of it
abbrev pub sampled_at : EntryCode → List Val → ℕ → ℕ → Option Val
sampled_at e s place word = option_and_then (λ (a : Act). slice_get a.vals place) (sampled e s word)

-- ---- by the ways that there are

-- the value that the word gives; none where there is none
abbrev pub by_count : ℕ → Val → Option Val
by_count zero v = None
by_count (suc n) v = Some v

abbrev pub by_word : ℕ → Values → Option Val
by_word word c = by_count c.count (c.value (word % c.count))

abbrev pub both : Option Val → Option (List Val) → Option (List Val)
both None o = None
both (Some v) None = None
both (Some v) (Some vs) = Some (v ∷ vs)

abbrev pub all_by_word : ℕ → List Values → Option (List Val)
all_by_word word [] = Some []
all_by_word word (c ∷ cs) = both (by_word word c) (all_by_word word cs)

abbrev pub named : Name → List Val → Act
named x vs = record { name = x; vals = vs }

-- no later value is the first one again
abbrev pub NeverAgain : Values → Type 0
NeverAgain c = (k : ℕ) → 0 < k → k < c.count → c.value k ≢ c.value 0

-- the entry's code gives by equal words what they give in these ways
pub record HasWays (e : EntryCode) (s : List Val) (cs : List Values) : Type 0 where
  pub gives : (word : ℕ) → sampled e s word ≡ option_map (named e.name) (all_by_word word cs)
  pub apart : All NeverAgain cs

-- the values in the order of their numbers, or as many of the first
abbrev pub shown : ℕ → Values → List Val
shown most c = map c.value (range_with_len 0 (min c.count most))
