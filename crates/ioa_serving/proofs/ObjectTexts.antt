-- The lines of a replay's text, and the objects that are made of them.
use Rattle.std.proofs.Common.{◌≡◌, ◌++◌, ◌∷◌, [], ℕ, All, List, codes, flat_map, map, refl, sym, ap, ap₂, ◌∙◌, append_assoc}
use Rattle.std.proofs.lemmas.List.Elements.{All-head, All-tail}
use Rattle.ioa_value.specs.Actions.{Act}
use Rattle.ioa_value.specs.Lists.{lines}
use Rattle.ioa_value.specs.Names.{IsName}
use Rattle.ioa_value.specs.Table.{AreTypes, Table}
use Rattle.ioa_value.specs.Written.{written_action}
use Rattle.ioa_tree.specs.Runs.{Ending}
use Rattle.ioa_system.specs.Endings.{ending_text}
use Rattle.ioa_device.specs.LineReading.{IsLineText}
use Rattle.ioa_device.proofs.LineReading.{lines_line}
use Rattle.ioa_log.specs.Replays.{lines_of, replay_text}
use Rattle.ioa_log.proofs.PlainTexts.{action_plain, ending_plain, plain_text, text_line, texts}
use Rattle.ioa_serving.specs.Objects.{ObjectsTellActions, act_object, act_objects, end_object, object_before}

abbrev last_line : Ending → List ℕ
last_line end = codes "end: " ++ ending_text end

last_unended : (end : Ending) → IsLineText (last_line end)
last_unended end = text_line (last_line end) (texts (codes "end: ") (ending_text end) refl (plain_text (ending_text end) (ending_plain end)))

told_lines : (types : Table) → AreTypes types → (acts : List Act) (end : Ending) → All (λ a. IsName a.name) acts
    → lines (replay_text types acts end) ≡ map (written_action types) acts ++ last_line end ∷ []
told_lines types declared [] end h =
    ap lines (sym (append_assoc (codes "end: ") (ending_text end) (10 ∷ []))) ∙ lines_line (last_line end) [] (last_unended end)
told_lines types declared (a ∷ acts) end h =
    let l : List ℕ = written_action types a in
    ap lines (append_assoc l (10 ∷ lines_of types acts) (codes "end: " ++ (ending_text end ++ 10 ∷ [])))
    ∙ lines_line l (replay_text types acts end) (text_line l (plain_text l (action_plain types declared a (All-head (λ x. IsName x.name) a acts h))))
    ∙ ap (λ ls. l ∷ ls) (told_lines types declared acts end (All-tail (λ x. IsName x.name) a acts h))

told_before : (ls : List (List ℕ)) (last line : List ℕ) → object_before (ls ++ last ∷ []) line ≡ act_object line
told_before [] last line = refl
told_before (l ∷ ls) last line = refl

acts_told : (types : Table) (acts : List Act) (last : List ℕ)
    → act_objects (map (written_action types) acts ++ last ∷ []) ≡ flat_map (λ a. act_object (written_action types a)) acts
acts_told types [] last = refl
acts_told types (a ∷ acts) last =
    ap₂ (λ x y. x ++ y) (told_before (map (written_action types) acts) last (written_action types a)) (acts_told types acts last)

pub objects_tell : ObjectsTellActions
objects_tell types acts end declared names =
    ap (λ ls. act_objects ls ++ end_object end) (told_lines types declared acts end names) ∙ ap (λ xs. xs ++ end_object end) (acts_told types acts (last_line end))
