-- How the workers of a run on threads keep together: for whom one waits as it begins a turn.
use Rattle.std.specs.Prelude.{◌≡◌, ◌≢◌, ◌+◌, ◌-◌, ◌^◌, ◌%◌, ◌==◌, ◌&&◌, ◌||◌, ℕ, Bool, false, List, length, min, nat_le, nat_lt, not, slice_get}
use Rattle.std.specs.List.{list_any}
use Rattle.std.specs.Option.{option_map, option_map_or}
use Rattle.ioa_serving.specs.declared.progress.Progress.{Progress}

-- how many turns a worker may be ahead of another of its group
abbrev pub lead : ℕ
lead = 3

-- nothing was seen of a worker of this group
abbrev pub unseen : ℕ → Progress
unseen group = record { group = group; begun = 0; is_lost = false }

-- it begins one more turn
abbrev pub next : Progress → Progress
next p = record { group = p.group; begun = min (p.begun + 1) (2 ^ 64 - 1); is_lost = false }

-- who has come so far looks at those of its own group, and at each that has begun no turn
abbrev pub heeds : Progress → Progress → Bool
heeds who p = (p.group == who.group) || (p.begun == 0)

-- it has still to begin as many turns, and nobody has waited for it in vain
abbrev pub is_behind : Progress → Progress → Bool
is_behind who p = heeds who p && (not p.is_lost && nat_lt p.begun who.begun)

-- who has come so far has to wait for it: it has begun no turn, or is too far behind
abbrev pub is_awaited : Progress → Progress → Bool
is_awaited who p = is_behind who p && ((p.begun == 0) || nat_lt (p.begun + lead) who.begun)

-- it has begun more, but no more than it may
abbrev pub is_ahead : Progress → Progress → Bool
is_ahead who p = heeds who p && (nat_lt who.begun p.begun && nat_le p.begun (who.begun + lead))

-- who has come so far has waited for it in vain, if it had to wait for it
abbrev pub given_up : Progress → Progress → Progress
given_up who p = record { group = p.group; begun = p.begun; is_lost = p.is_lost || is_awaited who p }

-- how far the worker of this number has come
abbrev pub progress_of : ℕ → List Progress → Progress
progress_of who ps = option_map_or (λ p. p) (slice_get ps who) (unseen 0)

-- who has come so far has to wait for one of these
abbrev pub is_held : Progress → List Progress → Bool
is_held who ps = list_any (is_awaited who) ps

-- the last of these comes so far, to its first turn, or to a third one from there of which others are ahead: those that have waited are let go
abbrev pub lets_go : Progress → List Progress → Bool
lets_go who ps = ((who.begun % lead) == 1) && not (list_any (is_behind who) ps) && ((who.begun == 1) || list_any (is_ahead who) ps)

-- the worker of this number begins one more turn, and no other; a number past the workers' begins none
pub record Begins (who : ℕ) (ps ps' : List Progress) : Type 0 where
  pub own : slice_get ps' who ≡ option_map next (slice_get ps who)
  pub others : (v : ℕ) → v ≢ who → slice_get ps' v ≡ slice_get ps v
  pub count : length ps' ≡ length ps
