-- What is written to explain a topic. What the words of an explanation say is not told here.
use Rattle.std.specs.Prelude.{ℕ, ◌++◌, ◌∷◌, [], List, codes}
use Rattle.std.specs.Fmt.{decimal}
use Rattle.ioa_arithmetic.specs.Arithmetic.{fault_number}
use Rattle.ioa_request.specs.declared.explanation.Example.{Example}
use Rattle.ioa_request.specs.declared.explanation.Explanation.{Explanation}
use Rattle.ioa_request.specs.declared.topic.Topic.{Topic}
use Rattle.ioa_request.specs.Codes.{spelling}

-- as it is printed, without what follows; of a broken invariant, whose numbers stand between, the words alone
abbrev pub title : Topic → List ℕ
title (Topic.Code c) = spelling c
title (Topic.Fault f) = codes "fault " ++ decimal (fault_number f)
title Topic.Done = codes "done"
title Topic.NotAnAction = codes "not an action"
title Topic.NotEnabled = codes "not enabled"
title Topic.PassedOver = codes "passed over"
title Topic.NothingTaken = codes "nothing taken"
title Topic.Broken = codes "invariant broken"
title Topic.Fine = codes "ok"

-- the end of a line, and an empty line
abbrev pub gap : List ℕ
gap = 10 ∷ 10 ∷ []

abbrev pub input_text : List ℕ → List ℕ → List ℕ → List ℕ
input_text source given input = codes "For example, this source:" ++ (gap ++ (source ++ (gap ++ (given ++ (gap ++ (input ++ 10 ∷ []))))))

abbrev pub example_text : Example → List ℕ
example_text (Example.Source source) = codes "For example, this source:" ++ (gap ++ (source.now ++ 10 ∷ []))
example_text (Example.Replay source list) = input_text source.now (codes "with this list:") list.now
example_text (Example.ReplayLog source log) = input_text source.now (codes "with this log:") log.now
example_text (Example.Resume source log) = input_text source.now (codes "with a run that goes on from this log:") log.now
example_text (Example.Monitor source log) = input_text source.now (codes "as a monitor of this log:") log.now
example_text (Example.Object digits) = codes "For example, these bytes, in hexadecimal:" ++ (gap ++ (digits.now ++ 10 ∷ []))
example_text (Example.Told sentence) = sentence.now ++ 10 ∷ []

abbrev pub explanation_text : Explanation → List ℕ
explanation_text e =
    title e.topic ++ (codes ": " ++ (e.meaning.now ++ (gap ++ (example_text e.example ++ (10 ∷ e.mending.now ++ 10 ∷ [])))))
