-- What is told of a monitor that is an object.
use Rattle.std.proofs.Common.{◌≡◌, ◌+◌, ◌++◌, ◌∙◌, ℕ, true, List, [], ◌∷◌, Option, Some, None, inl, inr, length, map, sym, ap, append-nil}
use Rattle.std.specs.Prelude.{codes, slice_get}
use Rattle.std.specs.Option.{option_map_or}
use Rattle.std.specs.String.{string_bytes}
use Rattle.ioa_value.specs.Actions.{Act}
use Rattle.ioa_value.proofs.ItemLemmas.{image_at}
use Rattle.ioa_tree.specs.Runs.{Ending}
use Rattle.ioa_compile.specs.declared.table.Member.{Member}
use Rattle.ioa_compile.specs.Programs.{MemberCode, Prog}
use Rattle.ioa_compile.specs.Shown.{member_code}
use Rattle.ioa_compile.specs.Tables.{start_states, tabled}
use Rattle.ioa_system.specs.declared.outcomes.Step.{Step}
use Rattle.ioa_monitor.specs.Monitoring.{IsRefusedAt, hides, monitored}
use Rattle.ioa_account.specs.Counts.{known_actions}
use Rattle.ioa_account.specs.Objects.{TellsObject, ending_at, member_name, reason, refusal_text}
use Rattle.ioa_account.specs.Quoted.{line_text}
use Rattle.ioa_account.specs.Remarks.{known_text}

-- of an action that is not accepted
pub refused_text : (p : Prog) (input : List ℕ) (acts : List Act) (i : ℕ) (s : Step) (o : Option Ending) → IsRefusedAt i s o
    → refusal_text p input acts o ≡ line_text (codes "log") input (i + 1) ++ reason p acts (ending_at i s)
refused_text p input acts i Step.Next o r = absurd r
refused_text p input acts i Step.NotAnAction o r = ap (refusal_text p input acts) r
refused_text p input acts i Step.NotEnabled o r = ap (refusal_text p input acts) r
refused_text p input acts i (Step.Fault c f) o r = ap (refusal_text p input acts) r

-- what a monitor answers
module _ (p : Prog) (input : List ℕ) (acts : List Act) (before told : List ℕ) (is_told : told ≡ before ++ known_text (known_actions (tabled p) acts) (length acts)) where
  pub object_hides : hides p ≡ true → TellsObject p input acts before told
  object_hides hidden = inl (hidden, is_told)

  pub object_accepts : monitored (tabled p) acts (start_states p) ≡ None → TellsObject p input acts before told
  object_accepts none = inr (is_told ∙ sym (append-nil _) ∙ ap (λ (o : Option Ending). (before ++ known_text (known_actions (tabled p) acts) (length acts)) ++ refusal_text p input acts o) (sym none))

  pub object_refuses : (after : List ℕ) → after ≡ told ++ refusal_text p input acts (monitored (tabled p) acts (start_states p)) → TellsObject p input acts before after
  object_refuses after e = inr (e ∙ ap (λ t. t ++ refusal_text p input acts (monitored (tabled p) acts (start_states p))) is_told)

-- the name of a component
pub member_named : (p : Prog) (xs : List Member) (i : ℕ) (x : Member) → map member_code xs ≡ p.members → slice_get xs i ≡ Some x → string_bytes x.name ≡ member_name p (Some i)
member_named p xs i x same at =
    ap (λ (o : Option MemberCode). option_map_or (λ (m : MemberCode). m.name) o []) (sym (image_at member_code xs i x at) ∙ ap (λ (ms : List MemberCode). slice_get ms i) same)
