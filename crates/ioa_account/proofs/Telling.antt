-- What is told of hosts is what is told of the composition that stands for them.
use Rattle.std.proofs.Common.{◌≡◌, ℕ, zero, suc, false, List, [], ◌∷◌, Option, Some, None, map, slice_get, refl, sym, ap, ◌∙◌}
use Rattle.std.specs.List.{AllZip}
use Rattle.std.specs.Option.{option_map, option_map_or}
use Rattle.std.specs.String.{string_bytes}
use Rattle.std.proofs.lemmas.Option.{slice_get-map}
use Rattle.ioa_value.specs.Actions.{Act}
use Rattle.ioa_value.specs.Plain.{Val}
use Rattle.ioa_value.proofs.ItemLemmas.{image_at}
use Rattle.ioa_tree.specs.Compositions.{Member}
use Rattle.ioa_tree.specs.Hosts.{Host}
use Rattle.ioa_tree.specs.Runs.{run}
use Rattle.ioa_compose.specs.declared.member.Member as held
use Rattle.ioa_compose.specs.Held.{member_of}
use Rattle.ioa_compose.specs.Simulates.{IsMadeOf}
use Rattle.ioa_compile.specs.Programs.{Prog}
use Rattle.ioa_compile.specs.Subjects.{RunsAs, Subject, its_components, its_starts}
use Rattle.ioa_compile.specs.Tables.{start_states, tabled}
use Rattle.ioa_system.specs.Preconditions.{precondition_faults}
use Rattle.ioa_system.proofs.Subjects.{asked_as}
use Rattle.ioa_account.specs.Accounts.{faults_early, name_at}

-- the name of the component of this number
names_alike : (ps : List Host) (ms : List Member) (i : ℕ) → AllZip IsMadeOf ps ms → option_map_or (λ (m : Member). m.name) (slice_get ms i) [] ≡ name_at ps i
names_alike [] [] i made = refl
names_alike [] (m ∷ ms) i made = absurd made
names_alike (p ∷ ps) [] i made = absurd made
names_alike (p ∷ ps) (m ∷ ms) zero made = made.0.name
names_alike (p ∷ ps) (m ∷ ms) (suc i) made = names_alike ps ms i made.1

pub named : (xs : List held.Member) (i : ℕ) (x : held.Member) (ps : List Host) → slice_get xs i ≡ Some x → AllZip IsMadeOf ps (map member_of xs) → string_bytes x.name ≡ name_at ps i
named xs i x ps at made = sym (ap (λ (o : Option Member). option_map_or (λ (m : Member). m.name) o []) (image_at member_of xs i x at)) ∙ names_alike ps (map member_of xs) i made

pub unnamed : (xs : List held.Member) (i : ℕ) (ps : List Host) → slice_get xs i ≡ None → AllZip IsMadeOf ps (map member_of xs) → [] ≡ name_at ps i
unnamed xs i ps at made =
    sym (ap (λ (o : Option Member). option_map_or (λ (m : Member). m.name) o []) (slice_get-map member_of xs i ∙ ap (option_map member_of) at)) ∙ names_alike ps (map member_of xs) i made

-- ---- whether a precondition faults

-- for the subject as for the table, where their runs end
pub early_alike : (p : Prog) (s : Subject) → RunsAs p s → (acts : List Act) (i : ℕ) (ss : List (List Val)) → ss ≡ (run (tabled p) acts (start_states p)).states
    → faults_early (tabled p) acts i ss ≡ faults_early (its_components s) acts i (run (its_components s) acts (its_starts s)).states
early_alike p s runs acts i ss same = ap (faults_early (tabled p) acts i) same ∙ sym (at (slice_get acts i))
  where
    at : (o : Option Act) → option_map_or (λ (a : Act). precondition_faults (its_components s) a (run (its_components s) acts (its_starts s)).states) o false
        ≡ option_map_or (λ (a : Act). precondition_faults (tabled p) a (run (tabled p) acts (start_states p)).states) o false
    at None = refl
    at (Some a) = asked_as p s runs acts a
