-- In which words it is told what is wrong with a source: at which byte, token or name.
use Rattle.std.specs.Prelude.{◌≡◌, ◌≢◌, ◌<◌, ◌≤◌, ◌⊎◌, ◌++◌, ◌==◌, ℕ, true, false, List, Option, Some, None, codes, drop, find, length, min, slice_get, take}
use Rattle.std.specs.Fmt.{decimal}
use Rattle.std.specs.List.{list_any, prefix_len}
use Rattle.std.specs.Str.{bytes_eq}
use Rattle.std.specs.Str.Lossy.{utf8_lossy}
use Rattle.ioa_value.specs.declared.limits.TheConstants.{LIMITS}
use Rattle.ioa_value.specs.Names.{is_digit, is_letter, is_word_byte}
use Rattle.ioa_value.specs.Actions.{Name}
use Rattle.ioa_lex.specs.declared.token.Token.{Token}
use Rattle.ioa_tree.specs.View.{name_of}
use Rattle.ioa_tree.specs.declared.tree.Automaton.{Automaton}
use Rattle.ioa_tree.specs.declared.tree.Declaration.{Declaration}
use Rattle.ioa_tree.specs.declared.tree.Entry.{Entry}
use Rattle.ioa_tree.specs.declared.tree.Field.{Field}
use Rattle.ioa_tree.specs.declared.tree.Kind.{Kind}
use Rattle.ioa_tree.specs.declared.tree.Position.{Position}
use Rattle.ioa_tree.specs.declared.tree.Proposal.{Proposal}
use Rattle.ioa_tree.specs.declared.tree.Transition.{Transition}
use Rattle.ioa_causes.specs.Entries.{named}
use Rattle.ioa_lex.specs.Stops.{StopsAt}
use Rattle.ioa_lex.specs.Lexing.{Lexes, placed}
use Rattle.ioa_lex.specs.Spaced.{text_of}
use Rattle.ioa_lex.specs.Tokens.{Tok, kind_shown, name}
use Rattle.ioa_grammar.specs.DeadEnds.{IsDeadAt}
use Rattle.ioa_syntax.specs.Source.{plain}
use Rattle.ioa_syntax.specs.Stuck.{IsStuckIn}

-- as it is quoted
abbrev pub quoted : List ℕ → List ℕ
quoted word = codes "`" ++ (word ++ codes "`")

-- ---- what stands where no token does

-- the first bytes of the text
abbrev pub IsFront : List ℕ → List ℕ → Type 0
IsFront text front = (n : ℕ) × (front ≡ take n text)

-- of a name that is too long its first bytes, and how many it has
abbrev pub long_name_words : List ℕ → List ℕ
long_name_words text =
    codes "a name has at most 64 bytes, and `" ++ (utf8_lossy (take (min 24 (length text)) text) ++ (codes "..` has " ++ decimal (prefix_len is_word_byte text)))

abbrev pub large_number_words : List ℕ
large_number_words = codes "this number is above 9223372036854775807"

-- a sign at the front of the text, with what is written in its place, or alone; or the byte
abbrev pub foreign_words : List ℕ → List ℕ → List ℕ
foreign_words sign said = codes "`" ++ (sign ++ (codes "` is no sign of the language: " ++ said))

abbrev pub letter_words : List ℕ → List ℕ
letter_words letter = codes "`" ++ (letter ++ codes "` is no sign of the language")

abbrev pub byte_words : ℕ → List ℕ
byte_words byte = codes "the byte " ++ (decimal byte ++ codes " begins nothing in the language")

abbrev pub TellsSign : List ℕ → ℕ → List ℕ → Type 0
TellsSign text byte words =
    ((sign : List ℕ) × (said : List ℕ) × IsFront text sign × (words ≡ foreign_words sign said))
    ⊎ (((letter : List ℕ) × IsFront text letter × (words ≡ letter_words letter)) ⊎ (words ≡ byte_words byte))

-- by the first byte
abbrev pub TellsFirst : List ℕ → ℕ → List ℕ → Type 0
TellsFirst text b words =
    ((is_letter b ≡ true) × (words ≡ long_name_words text))
    ⊎ (((is_digit b ≡ true) × (words ≡ large_number_words)) ⊎ ((is_letter b ≡ false) × (is_digit b ≡ false) × TellsSign text b words))

abbrev pub TellsFront : List ℕ → List ℕ → Type 0
TellsFront text words =
    ((slice_get text 0 ≡ None) × (words ≡ codes "nothing stands here")) ⊎ ((b : ℕ) × (slice_get text 0 ≡ Some b) × TellsFirst text b words)

-- what stands where the text stops
abbrev pub TellsStop : List ℕ → List ℕ → Type 0
TellsStop text words = (at : ℕ) × StopsAt text at × TellsFront (drop at text) words

-- ---- the token at which no source goes on

abbrev pub misfit_words : Tok → List ℕ → List ℕ
misfit_words k more = quoted (text_of k) ++ (codes " does not fit: " ++ more)

abbrev pub end_words : List ℕ → List ℕ
end_words more = codes "the source ends here, where only this may stand: " ++ more

-- of the token of this index, or that there is none
abbrev pub TellsToken : List Token → ℕ → List ℕ → Type 0
TellsToken ts at words =
    ((t : Token) × (more : List ℕ) × (slice_get ts at ≡ Some t) × (words ≡ misfit_words (kind_shown t.kind) more))
    ⊎ ((more : List ℕ) × (slice_get ts at ≡ None) × (words ≡ end_words more))

abbrev pub TellsStuck : List ℕ → List ℕ → Type 0
TellsStuck text words = (ts : List Token) × (at : ℕ) × IsStuckIn text (placed ts) at × TellsToken ts at words

-- there is none, where the text is a list of tokens within the limit
abbrev pub IsUnstuck : List ℕ → Type 0
IsUnstuck text = (ts : List (Tok × ℕ)) → Lexes text ts → length text ≤ LIMITS.text → IsDeadAt (plain ts) None

-- ---- tokens by their index

-- this token has this index
abbrev pub StandsAt : List Token → ℕ → Tok → Type 0
StandsAt ts i k = (t : Token) × (slice_get ts i ≡ Some t) × (kind_shown t.kind ≡ k)

-- and stands on this line
abbrev pub StandsOn : List Token → ℕ → Tok → ℕ → Type 0
StandsOn ts i k line = (t : Token) × (slice_get ts i ≡ Some t) × (kind_shown t.kind ≡ k) × (t.line ≡ line)

-- ---- a name that is declared twice

abbrev pub already_words : Name → ℕ → List ℕ → List ℕ
already_words x line what = codes "`" ++ (x ++ (codes "` is declared on line " ++ (decimal line ++ (codes " already, as " ++ what))))

abbrev pub TellsLine : Name → ℕ → List ℕ → Type 0
TellsLine x line words = (what : List ℕ) × (words ≡ already_words x line what)

abbrev pub built_in_words : Name → List ℕ
built_in_words x = codes "`" ++ (x ++ codes "` is a type without a declaration")

-- a token before this one is the name
abbrev pub IsLineBefore : List Token → ℕ → Name → ℕ → Type 0
IsLineBefore ts i x line = (j : ℕ) × (j < i) × StandsOn ts j (name x) line

abbrev pub repeated_words : Name → ℕ → List ℕ
repeated_words x line = codes "`" ++ (x ++ (codes "` stands here again, as on line " ++ decimal line))

abbrev pub again_words : Name → List ℕ
again_words x = codes "`" ++ (x ++ codes "` stands here again")

-- the name stands before
abbrev pub TellsRepeated : List Token → ℕ → Name → List ℕ → Type 0
TellsRepeated ts i x words = ((line : ℕ) × IsLineBefore ts i x line × (words ≡ repeated_words x line)) ⊎ (words ≡ again_words x)

-- the name is another token, too, on the line that is told; or it is a type without a declaration, or stands before
abbrev pub TellsAgain : List Token → ℕ → Name → List ℕ → Type 0
TellsAgain ts i x words =
    ((j line : ℕ) × (j ≢ i) × StandsOn ts j (name x) line × TellsLine x line words) ⊎ ((words ≡ built_in_words x) ⊎ TellsRepeated ts i x words)

-- the name that one of the tokens is
abbrev pub TellsTwice : List Token → List ℕ → Type 0
TellsTwice ts words = (i : ℕ) × (x : Name) × StandsAt ts i (name x) × TellsAgain ts i x words

-- ---- a name that is not known

abbrev pub field_words : Name → List ℕ
field_words x = codes "the tuple has no field `" ++ (x ++ codes "`")

abbrev pub meaning_words : Name → List ℕ → List ℕ
meaning_words x what = codes "`" ++ (x ++ (codes "` is " ++ what))

-- a field, or what the name is
abbrev pub TellsName : Name → List ℕ → Type 0
TellsName x words = (words ≡ field_words x) ⊎ ((what : List ℕ) × (words ≡ meaning_words x what))

abbrev pub TellsUnknown : List Token → List ℕ → Type 0
TellsUnknown ts words = (i : ℕ) × (x : Name) × StandsAt ts i (name x) × TellsName x words

-- ---- entries and transitions that do not match

abbrev pub kind_word : Kind → List ℕ
kind_word Kind.Input = codes "input"
kind_word Kind.Output = codes "output"
kind_word Kind.Internal = codes "internal"

-- a transition without an entry
abbrev pub unsigned_words : Name → Name → List ℕ
unsigned_words a x = codes "the signature of " ++ (a ++ (codes " has no entry `" ++ (x ++ codes "` for this transition")))

-- an entry, on this line, and its transition are of two kinds
abbrev pub kinds_words : Name → Kind → ℕ → Kind → List ℕ
kinds_words x signed line kind =
    codes "`" ++ (x ++ (codes "` is an " ++ (kind_word signed ++ (codes " in the signature, on line " ++ (decimal line ++ (codes ", and an " ++ (kind_word kind ++ codes " here")))))))

-- an entry that has a transition already, on this line
abbrev pub second_words : Name → ℕ → List ℕ
second_words x line = codes "`" ++ (x ++ (codes "` has a transition already, on line " ++ (decimal line ++ codes ": join both by `if`")))

-- an input with more than an effect
abbrev pub input_words : Name → List ℕ
input_words x = codes "`" ++ (x ++ codes "` is an input, which is always enabled: it has neither `pre` nor `propose`")

-- an entry without a transition, or with one of another kind, on this line
abbrev pub lacking_words : Name → Name → Kind → List ℕ
lacking_words a x kind = codes "the " ++ (kind_word kind ++ (codes " `" ++ (x ++ (codes "` has no transition in " ++ a))))

abbrev pub other_words : Name → Kind → ℕ → List ℕ
other_words x kind line =
    codes "the " ++ (kind_word kind ++ (codes " `" ++ (x ++ (codes "` has no transition of its kind; that on line " ++ (decimal line ++ codes " is another")))))

-- of a transition with this entry: that its kind is another, that it is the second, or else that it is an input's
abbrev pub TellsSigned : Transition → Entry → List ℕ → Type 0
TellsSigned t e words =
    ((line : ℕ) × (e.kind ≢ t.kind) × (words ≡ kinds_words (name_of t.name) e.kind line t.kind))
    ⊎ (((line : ℕ) × (words ≡ second_words (name_of t.name) line)) ⊎ (words ≡ input_words (name_of t.name)))

abbrev pub TellsTransition : Automaton → Transition → List ℕ → Type 0
TellsTransition a t words =
    ((named (name_of t.name) a.entries.items ≡ None) × (words ≡ unsigned_words (name_of a.name) (name_of t.name)))
    ⊎ ((e : Entry) × (named (name_of t.name) a.entries.items ≡ Some e) × TellsSigned t e words)

-- the first transition of this name
abbrev pub transition_named : Name → List Transition → Option Transition
transition_named x ts = find (λ (t : Transition). bytes_eq (name_of t.name) x) ts

-- of an entry that it has no transition, or that the first of its name is another
abbrev pub TellsEntry : Automaton → Entry → List ℕ → Type 0
TellsEntry a e words =
    ((transition_named (name_of e.name) a.transitions.items ≡ None) × (words ≡ lacking_words (name_of a.name) (name_of e.name) e.kind))
    ⊎ ((t : Transition) × (line : ℕ) × (transition_named (name_of e.name) a.transitions.items ≡ Some t) × (words ≡ other_words (name_of e.name) e.kind line))

-- the transition, or the entry, whose name is the token of this index
abbrev pub transition_at : ℕ → Automaton → Option Transition
transition_at index a = find (λ (t : Transition). t.name.line == index) a.transitions.items

abbrev pub entry_at : ℕ → Automaton → Option Entry
entry_at index a = find (λ (e : Entry). e.name.line == index) a.entries.items

-- of an automaton the one of them that has this index
abbrev pub TellsMatch : ℕ → Automaton → List ℕ → Type 0
TellsMatch index a words =
    ((t : Transition) × (transition_at index a ≡ Some t) × TellsTransition a t words) ⊎ ((e : Entry) × (entry_at index a ≡ Some e) × TellsEntry a e words)

abbrev pub TellsUnmatched : ℕ → List Declaration → List ℕ → Type 0
TellsUnmatched index ds words = (i : ℕ) × (a : Automaton) × (slice_get ds i ≡ Some (Declaration.Automaton a)) × TellsMatch index a words

-- ---- a parameter without a proposal

abbrev pub unproposed_words : Name → Name → List ℕ
unproposed_words x action =
    codes "no value is proposed for `" ++ (x ++ (codes "` of `" ++ (action ++ (codes "`: write `propose " ++ (x ++ codes " := ..`")))))

-- nothing is proposed for the parameter of this name
abbrev pub IsUnproposed : Name → Transition → Type 0
IsUnproposed x t = list_any (λ (p : Proposal). bytes_eq (name_of p.name) x) t.proposals.items ≡ false

-- a parameter of the transition's entry, for which the transition proposes nothing
abbrev pub TellsParameter : Automaton → Transition → List ℕ → Type 0
TellsParameter a t words =
    (e : Entry) × (i : ℕ) × (f : Field) × (named (name_of t.name) a.entries.items ≡ Some e) × (slice_get e.positions.items i ≡ Some (Position.Typed f))
    × IsUnproposed (name_of f.name) t × (words ≡ unproposed_words (name_of f.name) (name_of t.name))

abbrev pub TellsUnproposed : ℕ → List Declaration → List ℕ → Type 0
TellsUnproposed index ds words =
    (i : ℕ) × (a : Automaton) × (t : Transition) × (slice_get ds i ≡ Some (Declaration.Automaton a)) × (transition_at index a ≡ Some t) × TellsParameter a t words
