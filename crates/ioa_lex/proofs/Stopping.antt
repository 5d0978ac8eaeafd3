-- One turn of the search for the place where a text stops.
use Rattle.std.proofs.Common.{ℕ, ◌+◌, ◌≤◌, ◌<◌, List, length, take, drop, Option, refl}
use Rattle.ioa_lex.specs.declared.token.Kind.{Kind}
use Rattle.ioa_lex.specs.Tokens.{Tok}
use Rattle.ioa_lex.specs.Lexing.{NoneStands, line_after, Lexes, StopsOn}
use Rattle.ioa_lex.specs.Fronts.{IsFront}
use Rattle.ioa_lex.specs.Stops.{StopsAt}
use Rattle.ioa_lex.proofs.Steps.{IsLexedTo, lexed_more, lexed_all, stopped_at, lexed_none}
use Rattle.ioa_lex.proofs.Covers.{stops_or_lexes}

-- the text is pieces up to this place
abbrev pub IsPassed : List ℕ → ℕ → Type 0
IsPassed text at = (ts : List (Tok × ℕ)) × IsLexedTo text at ts

pub passed_none : (text : List ℕ) → IsPassed text 0
passed_none text = (_, lexed_none text)

pub passed_more : (text : List ℕ) (at len : ℕ) (kind : Option Kind) → IsPassed text at → IsFront (drop at text) kind len → IsPassed text (at + len)
passed_more text at len kind p f = (_, lexed_more text at (line_after (take at text)) len p.0 kind p.1 refl f)

pub stop_at : (text : List ℕ) (at : ℕ) → at < length text → IsPassed text at → NoneStands (drop at text) → StopsAt text at
stop_at text at within p none = record { pieces = p.1.pieces; covers = p.1.covers; goes_on = within; none = none }

pub stop_on : (text : List ℕ) (at : ℕ) → at < length text → IsPassed text at → NoneStands (drop at text) → StopsOn text (line_after (take at text))
stop_on text at within p none = stopped_at text at (line_after (take at text)) p.0 within p.1 refl none

pub passed_all : (text : List ℕ) (at : ℕ) → IsPassed text at → length text ≤ at → (ts : List (Tok × ℕ)) × Lexes text ts
passed_all text at p end = (p.0, lexed_all text at p.0 p.1 end)

pub never_stops : (text : List ℕ) (at : ℕ) → IsPassed text at → length text ≤ at → (line : ℕ) → StopsOn text line → ⊥
never_stops text at p end line stops = stops_or_lexes text p.0 line (lexed_all text at p.0 p.1 end) stops
