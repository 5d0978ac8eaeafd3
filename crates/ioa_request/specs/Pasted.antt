-- What words that the program printed ask to be explained. The first word tells, or the first two; letters may be capitals or not.
use Rattle.std.specs.Prelude.{◌≡◌, ◌⊎◌, ◌++◌, Bool, true, eqb, List, [], ◌∷◌, Option, Some, None, codes, if◌then◌else◌, map}
use Rattle.std.specs.Borrow.{Bor}
use Rattle.std.specs.Char.{to_ascii_lowercase}
use Rattle.std.specs.List.{ends_with}
use Rattle.std.specs.Option.{option_and_then, option_copied, option_map, option_to_list}
use Rattle.std.specs.Str.{bytes_eq}
use Rattle.clap.specs.Words.{Text}
use Rattle.ioa_arithmetic.specs.declared.arithmetic.Fault.{Fault}
use Rattle.ioa_request.specs.declared.code.Code.{Code}
use Rattle.ioa_request.specs.declared.pasted.Left.{Left}
use Rattle.ioa_request.specs.declared.topic.Topic.{Topic}
use Rattle.ioa_request.specs.Codes.{spelling}
use Rattle.ioa_request.specs.Fields.{after_field, first_field}

-- the words as they are lent
abbrev pub texts : List (Bor Text) → List Text
texts words = map (λ word. word.now) words

-- what is left of a word with spaces, and the words after it
abbrev pub left_of : Left → List Text
left_of left = option_to_list (option_copied left.begun) ++ texts left.rest.now

-- the word is this one, whatever of both is written in capitals
abbrev pub reads : Text → Text → Bool
reads word this = bytes_eq (map to_ascii_lowercase word) (map to_ascii_lowercase this)

-- the first word, and those that are left: a word with spaces stands for several
abbrev pub next_word : List Text → Option (Text × List Text)
next_word [] = None
next_word (w ∷ ws) = Some (first_field w, option_to_list (after_field w) ++ ws)

-- a word and the one that comes next
abbrev pub with_next : Text × List Text → Text × Option Text
with_next p = (p.0, option_map (λ q. q.0) (next_word p.1))

-- what stands before an end, or before what a monitor or a specification answers, as `end:` or `Safety:`
abbrev pub is_label : Text → Bool
is_label word = ends_with eqb word (codes ":")

-- what is left of words behind a label, if there is one
abbrev pub unlabelled : Text × List Text → Option (Text × List Text)
unlabelled p = if is_label p.0 then next_word p.1 else Some p

-- the first two words that tell
abbrev pub told : List Text → Option (Text × Option Text)
told words = option_map with_next (option_and_then unlabelled (next_word words))

-- the fault of this number
abbrev pub fault_in : Text → Option Fault
fault_in word =
    if bytes_eq word (codes "1") then Some Fault.Overflow
    else if bytes_eq word (codes "2") then Some Fault.ZeroDivisor
    else if bytes_eq word (codes "3") then Some Fault.Empty
    else if bytes_eq word (codes "4") then Some Fault.OutOfRange
    else if bytes_eq word (codes "5") then Some Fault.Full
    else None

-- what an action is not, by the word behind `not`
abbrev pub refused_in : Text → Option Topic
refused_in word =
    if reads word (codes "an") then Some Topic.NotAnAction
    else if reads word (codes "enabled") then Some Topic.NotEnabled
    else None

-- what is printed in other words than by a code
abbrev pub phrase_in : Text → Option Text → Option Topic
phrase_in word second =
    if reads word (codes "fault") then option_map Topic.Fault (option_and_then fault_in second)
    else if reads word (codes "not") then option_and_then refused_in second
    else if reads word (codes "done") then Some Topic.Done
    else if reads word (codes "passed") then Some Topic.PassedOver
    else if reads word (codes "nothing") then Some Topic.NothingTaken
    else if reads word (codes "invariant") then Some Topic.Broken
    else if reads word (codes "ok") then Some Topic.Fine
    else None

-- a code, which the word spells; or what the words say in place of one
abbrev pub IsNamed : Text → Option Text → Topic → Type 0
IsNamed word second topic = ((code : Code) × (topic ≡ Topic.Code code) × (reads (spelling code) word ≡ true)) ⊎ (phrase_in word second ≡ Some topic)

-- the words ask for the topic
abbrev pub IsPasted : List Text → Topic → Type 0
IsPasted words topic = (p : Text × Option Text) × (told words ≡ Some p) × IsNamed p.0 p.1 topic
