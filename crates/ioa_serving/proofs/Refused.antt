-- From the clauses of the layers to why a replay or a monitor does not come to an end.
use Rattle.std.proofs.Common.{◌≡◌, ◌⊎◌, ℕ, inl, inr, List, Option, Some, None, Result, Ok, Err, IfErr, IfSome, refl, sym, ap, ◌∙◌, subst}
use Rattle.std.specs.Result.{IsErrOf}
use Rattle.std.specs.Io.KnownBytes.{Keeps}
use Rattle.ioa_value.specs.Actions.{Name}
use Rattle.ioa_value.specs.Lists as lists
use Rattle.ioa_value.specs.Table.{Table}
use Rattle.ioa_lex.specs.declared.refusal.Refusal.{Refusal}
use Rattle.ioa_lex.specs.declared.refusal.Refusal.TheVariants as refusals
use Rattle.ioa_tree.specs.Tree.{SourceTree, CompositionTree}
use Rattle.ioa_tree.specs.WellFormed.{WellFormed}
use Rattle.ioa_tree.specs.Compositions.{picked}
use Rattle.ioa_tree.specs.Hosts.{Hosted, IsHosted}
use Rattle.ioa_compose.specs.Refusals as compositions
use Rattle.ioa_compile.specs.Subjects.{Subject, its_types}
use Rattle.ioa_device.specs.declared.failure.LogErr.{LogErr}
use Rattle.ioa_device.specs.Failing.{IsListErr, IsTextErr}
use Rattle.ioa_monitor.specs.Monitoring.{IsOpen}
use Rattle.ioa_inspect.specs.LogMonitors.{IsNoText}
use Rattle.ioa_serving.specs.declared.failure.Failure.{Failure}
use Rattle.ioa_serving.specs.Headline.{Declares, IsFileOf, Spells}
use Rattle.ioa_serving.specs.Failing.{Given, IsFailure, IsLogReplayFailure, IsMonitorFailure, IsNoLogOf, IsRefusedGiven, IsRefusedSource, IsUnwritten}

-- what checking and composing answer, told of the text
pub declared : (text : List ℕ) (name : Option Name) (s u : SourceTree) (t : CompositionTree) (h : Hosted) → Spells text s → u ≡ s → WellFormed s
    → picked u name ≡ Some t → IsHosted u t h → Declares text name h
declared text name s u t h found same well picks hosted = record {
  source = s;
  tree = t;
  spells = found;
  well_formed = well;
  picks = subst (λ v. picked v name ≡ Some t) same picks;
  is_hosted = subst (λ v. IsHosted v t h) same hosted;
}

uncomposed : (text : List ℕ) (name : Option Name) (s u : SourceTree) (x : Refusal) → Spells text s → u ≡ s → WellFormed s
    → (picked u name ≡ None → x ≡ refusals.NoComposition)
    → ((t : CompositionTree) → picked u name ≡ Some t → compositions.IsRefused u t x)
    → IsRefusedSource text name x
uncomposed text name s u x found same well missing refused = inr (inr (inr (s, found, well, go (picked s name) refl)))
  where
    go : (o : Option CompositionTree) → picked s name ≡ o
        → ((picked s name ≡ None) × (x ≡ refusals.NoComposition)) ⊎ ((t : CompositionTree) × (picked s name ≡ Some t) × compositions.IsRefused s t x)
    go None e = inl (e, missing (subst (λ v. picked v name ≡ None) (sym same) e))
    go (Some t) e = inr (t, e, subst (λ v. compositions.IsRefused v t x) same (refused t (subst (λ v. picked v name ≡ Some t) (sym same) e)))

pub same_refusal : {T : Type 0} (x y : Refusal) → IsErrOf {T = T} (Err x) y → x ≡ y
same_refusal x y h = cc

-- the same of what composing answers
pub all_uncomposed : {T : Type 0} (r : Result T Refusal) (text : List ℕ) (name : Option Name) (s u : SourceTree) → Spells text s → u ≡ s → WellFormed s
    → (picked u name ≡ None → IsErrOf r refusals.NoComposition)
    → ((t : CompositionTree) → picked u name ≡ Some t → IfErr r (compositions.IsRefused u t))
    → IfErr r (IsRefusedSource text name)
all_uncomposed (Ok c) text name s u found same well missing refused = tt
all_uncomposed {T} (Err x) text name s u found same well missing refused =
    uncomposed text name s u x found same well (λ n. same_refusal {T = T} x refusals.NoComposition (missing n)) refused

-- an error that a `?` hands on, made another's
pub err_so : {T E : Type 0} (r : Result T E) (y z : E) (P : E → Type 0) → r ≡ Err y → y ≡ z → P z → IfErr r P
err_so r y z P is of h = subst (λ q. IfErr q P) (sym is) (subst P (sym of) h)

-- the same, asked of the result
pub err_as : {T U E : Type 0} (r : Result T E) (y x z : E) → r ≡ Err y → y ≡ x → IsErrOf r z → IsErrOf {T = U} (Err x) z
err_as (Ok t) y x z is of h = cc
err_as (Err w) y x z is of h =
    let a : w ≡ y = cc in
    let b : w ≡ z = cc in
    ap Err (sym of ∙ sym a ∙ b)

-- a list that is refused, or a device that failed
pub list_failed : (text : List ℕ) (name : Option Name) (bytes : Option (List ℕ)) (failed : Type 0) (s : Subject) (types : Table) (x : LogErr) {T : Type 0}
    → IsFileOf text name s → types ≡ its_types s → IsListErr x
    → ((n : ℕ) → IsErrOf {T = T} (Err x) (LogErr.BadEntry n) → IfSome bytes (λ xs. lists.BadLine types xs n))
    → (IsErrOf {T = T} (Err x) LogErr.Io → failed)
    → IsFailure text name bytes failed (Failure.List x)
list_failed text name bytes failed s types (LogErr.BadEntry n) of same only bad io = (s, of, subst (λ ts. IfSome bytes (λ xs. lists.BadLine ts xs n)) same (bad n refl))
list_failed text name bytes failed s types LogErr.Io of same only bad io = (s, of, io refl)
list_failed text name bytes failed s types LogErr.OutOfMemory of same only bad io = tt
list_failed text name bytes failed s types (LogErr.NotJson n) of same only bad io = absurd only
list_failed text name bytes failed s types (LogErr.WrongOwner n) of same only bad io = absurd only
list_failed text name bytes failed s types (LogErr.Diverges n) of same only bad io = absurd only
list_failed text name bytes failed s types LogErr.NoEnd of same only bad io = absurd only
list_failed text name bytes failed s types LogErr.AfterEnd of same only bad io = absurd only

-- the bytes that a monitor reads are no text of a log, or a device failed
pub monitor_refused : (text : List ℕ) (name : Option Name) (bytes : Option (List ℕ)) (failed : Type 0) (s : Subject) (x : LogErr)
    → IsFileOf text name s → IsOpen s → IsTextErr x → (x ≡ LogErr.Io → failed) → IfSome bytes (λ xs. IsNoText (its_types s) xs x)
    → IsMonitorFailure text name bytes failed (Failure.List x)
monitor_refused text name bytes failed s (LogErr.NotJson n) of seen only io k = (s, of, seen, k)
monitor_refused text name bytes failed s (LogErr.BadEntry n) of seen only io k = (s, of, seen, k)
monitor_refused text name bytes failed s (LogErr.WrongOwner n) of seen only io k = absurd only
monitor_refused text name bytes failed s (LogErr.Diverges n) of seen only io k = absurd only
monitor_refused text name bytes failed s LogErr.NoEnd of seen only io k = (s, of, seen, k)
monitor_refused text name bytes failed s LogErr.AfterEnd of seen only io k = (s, of, seen, k)
monitor_refused text name bytes failed s LogErr.Io of seen only io k = (s, of, seen, io refl)
monitor_refused text name bytes failed s LogErr.OutOfMemory of seen only io k = tt

-- what was written for a list where a device failed
pub list_unwritten : (text : List ℕ) (name : Option Name) (bytes before after : Option (List ℕ)) (begins : Option (List ℕ) → Option (List ℕ) → Subject → List ℕ → Type 0)
    (s : Subject) (x : LogErr) {T : Type 0}
    → IsFileOf text name s → IsListErr x
    → ((n : ℕ) → IsErrOf {T = T} (Err x) (LogErr.BadEntry n) → Keeps before after)
    → (IsErrOf {T = T} (Err x) LogErr.OutOfMemory → Keeps before after)
    → (IsErrOf {T = T} (Err x) LogErr.Io → Keeps before after ⊎ IfSome bytes (begins before after s))
    → IsUnwritten (λ b a. Given text name bytes (begins b a)) before after (Failure.List x)
list_unwritten text name bytes before after begins s (LogErr.BadEntry n) of only bad memory io = bad n refl
list_unwritten text name bytes before after begins s LogErr.OutOfMemory of only bad memory io = memory refl
list_unwritten text name bytes before after begins s LogErr.Io of only bad memory io = elim (io refl) [ inl k ↦ inl k | inr k ↦ inr (s, of, k) ]
list_unwritten text name bytes before after begins s (LogErr.NotJson n) of only bad memory io = absurd only
list_unwritten text name bytes before after begins s (LogErr.WrongOwner n) of only bad memory io = absurd only
list_unwritten text name bytes before after begins s (LogErr.Diverges n) of only bad memory io = absurd only
list_unwritten text name bytes before after begins s LogErr.NoEnd of only bad memory io = absurd only
list_unwritten text name bytes before after begins s LogErr.AfterEnd of only bad memory io = absurd only

-- nothing was written
pub kept : (begins : Option (List ℕ) → Option (List ℕ) → Type 0) (before after : Option (List ℕ)) (e : Failure) → Keeps before after → IsUnwritten begins before after e
kept begins before after (Failure.List LogErr.Io) k = inl k
kept begins before after _ k = k

-- a file that gives nothing is why
pub list_ungiven : (text : List ℕ) (name : Option Name) (bytes : Option (List ℕ)) (failed : Type 0) (e : Failure) → IsRefusedGiven text name e → IsFailure text name bytes failed e
list_ungiven text name bytes failed (Failure.Refused r) k = k
list_ungiven text name bytes failed (Failure.Object e) k = k
list_ungiven text name bytes failed Failure.SourceWanted k = absurd k
list_ungiven text name bytes failed (Failure.List e) k = absurd k
list_ungiven text name bytes failed Failure.SpecHasInternal k = absurd k
list_ungiven text name bytes failed (Failure.BadWords n) k = absurd k
list_ungiven text name bytes failed Failure.TooManyTurns k = absurd k
list_ungiven text name bytes failed (Failure.BadInput i) k = absurd k
list_ungiven text name bytes failed Failure.Threads k = absurd k
list_ungiven text name bytes failed (Failure.BadLog i) k = absurd k
list_ungiven text name bytes failed Failure.EndedByFault k = absurd k
list_ungiven text name bytes failed (Failure.RunLog e) k = absurd k
list_ungiven text name bytes failed Failure.Io k = absurd k
list_ungiven text name bytes failed Failure.OutOfMemory k = absurd k

pub log_replay_ungiven : (text : List ℕ) (name : Option Name) (bytes : Option (List ℕ)) (failed : Type 0) (e : Failure) → IsRefusedGiven text name e → IsLogReplayFailure text name bytes failed e
log_replay_ungiven text name bytes failed (Failure.Refused r) k = k
log_replay_ungiven text name bytes failed (Failure.Object e) k = k
log_replay_ungiven text name bytes failed Failure.SourceWanted k = absurd k
log_replay_ungiven text name bytes failed (Failure.List e) k = absurd k
log_replay_ungiven text name bytes failed Failure.SpecHasInternal k = absurd k
log_replay_ungiven text name bytes failed (Failure.BadWords n) k = absurd k
log_replay_ungiven text name bytes failed Failure.TooManyTurns k = absurd k
log_replay_ungiven text name bytes failed (Failure.BadInput i) k = absurd k
log_replay_ungiven text name bytes failed Failure.Threads k = absurd k
log_replay_ungiven text name bytes failed (Failure.BadLog i) k = absurd k
log_replay_ungiven text name bytes failed Failure.EndedByFault k = absurd k
log_replay_ungiven text name bytes failed (Failure.RunLog e) k = absurd k
log_replay_ungiven text name bytes failed Failure.Io k = absurd k
log_replay_ungiven text name bytes failed Failure.OutOfMemory k = absurd k

-- a log that is read line by line is refused, where a device failed or the bytes are no log of the run
pub log_replay_refused : (text : List ℕ) (name : Option Name) (bytes : Option (List ℕ)) (failed : Type 0) (s : Subject) (x : LogErr) → IsFileOf text name s
    → (x ≡ LogErr.Io → failed) → IfSome bytes (λ xs. IsNoLogOf x s xs) → IsLogReplayFailure text name bytes failed (Failure.List x)
log_replay_refused text name bytes failed s (LogErr.NotJson n) of io other = (s, of, other)
log_replay_refused text name bytes failed s (LogErr.BadEntry n) of io other = (s, of, other)
log_replay_refused text name bytes failed s (LogErr.WrongOwner n) of io other = (s, of, other)
log_replay_refused text name bytes failed s (LogErr.Diverges n) of io other = (s, of, other)
log_replay_refused text name bytes failed s LogErr.NoEnd of io other = (s, of, other)
log_replay_refused text name bytes failed s LogErr.AfterEnd of io other = (s, of, other)
log_replay_refused text name bytes failed s LogErr.Io of io other = (s, of, io refl)
log_replay_refused text name bytes failed s LogErr.OutOfMemory of io other = tt

-- after it nothing was written; where a device failed a beginning
pub log_replay_unwritten : (begins : Option (List ℕ) → Option (List ℕ) → Type 0) (before after : Option (List ℕ)) (x : LogErr) → ((x ≡ LogErr.Io → ⊥) → Keeps before after)
    → (x ≡ LogErr.Io → Keeps before after ⊎ begins before after) → IsUnwritten begins before after (Failure.List x)
log_replay_unwritten begins before after (LogErr.NotJson n) kept io = kept (λ e. cc)
log_replay_unwritten begins before after (LogErr.BadEntry n) kept io = kept (λ e. cc)
log_replay_unwritten begins before after (LogErr.WrongOwner n) kept io = kept (λ e. cc)
log_replay_unwritten begins before after (LogErr.Diverges n) kept io = kept (λ e. cc)
log_replay_unwritten begins before after LogErr.NoEnd kept io = kept (λ e. cc)
log_replay_unwritten begins before after LogErr.AfterEnd kept io = kept (λ e. cc)
log_replay_unwritten begins before after LogErr.Io kept io = io refl
log_replay_unwritten begins before after LogErr.OutOfMemory kept io = kept (λ e. cc)

pub monitor_ungiven : (text : List ℕ) (name : Option Name) (bytes : Option (List ℕ)) (failed : Type 0) (e : Failure) → IsRefusedGiven text name e → IsMonitorFailure text name bytes failed e
monitor_ungiven text name bytes failed (Failure.Refused r) k = k
monitor_ungiven text name bytes failed (Failure.Object e) k = k
monitor_ungiven text name bytes failed Failure.SourceWanted k = absurd k
monitor_ungiven text name bytes failed (Failure.List e) k = absurd k
monitor_ungiven text name bytes failed Failure.SpecHasInternal k = absurd k
monitor_ungiven text name bytes failed (Failure.BadWords n) k = absurd k
monitor_ungiven text name bytes failed Failure.TooManyTurns k = absurd k
monitor_ungiven text name bytes failed (Failure.BadInput i) k = absurd k
monitor_ungiven text name bytes failed Failure.Threads k = absurd k
monitor_ungiven text name bytes failed (Failure.BadLog i) k = absurd k
monitor_ungiven text name bytes failed Failure.EndedByFault k = absurd k
monitor_ungiven text name bytes failed (Failure.RunLog e) k = absurd k
monitor_ungiven text name bytes failed Failure.Io k = absurd k
monitor_ungiven text name bytes failed Failure.OutOfMemory k = absurd k
