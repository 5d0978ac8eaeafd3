-- What specifications answer to a log, action by action.
use Rattle.std.proofs.Common.{◌≡◌, ◌⊎◌, ◌∙◌, ◌+◌, ◌-◌, ◌<◌, ◌≤◌, ◌++◌, ◌∷◌, [], ℕ, zero, suc, Bool, true, false, if◌then◌else◌, List, Option, None, ap, ap₂, arith, drop, get_or, inl, inr, length, map, refl, subst, sym, take}
use Rattle.std.proofs.lemmas.List.{length-map, length-take-le, map-append, take_more}
use Rattle.ioa_value.specs.Actions.{Act, act_of}
use Rattle.ioa_compile.specs.Programs.{Prog}
use Rattle.ioa_compile.specs.Tables.{tabled}
use Rattle.ioa_value.specs.Plain.{Val}
use Rattle.ioa_tree.specs.Runs.{Ending}
use Rattle.ioa_system.specs.declared.log.Log.{Log}
use Rattle.ioa_system.specs.declared.log.LogEnd.{LogEnd}
use Rattle.ioa_system.specs.declared.log.LogEntry.{LogEntry}
use Rattle.ioa_system.specs.declared.outcomes.Step.{Step}
use Rattle.ioa_system.specs.Logs.{is_fault, log_end, logged}
use Rattle.ioa_system.proofs.Finding.{read_map}
use Rattle.ioa_account.proofs.Remarking.{entered}
use Rattle.ioa_monitor.specs.Monitoring.{monitored_from}
use Rattle.ioa_monitor.proofs.Monitored.{by_answer}
use Rattle.ioa_serving.specs.Logs.{performed_in}
use Rattle.ioa_serving.proofs.Logged.{performed_are}

take_at : {X : Type 0} (n : ℕ) (xs : List X) (i : ℕ) (d : X) → i < length (take n xs) → get_or (take n xs) i d ≡ get_or xs i d
take_at zero xs i d lt = absurd (omega arith)
take_at (suc n) [] i d lt = refl
take_at (suc n) (x ∷ xs) zero d lt = refl
take_at (suc n) (x ∷ xs) (suc i) d lt = take_at n xs i d (omega arith)

-- an action that is performed is that of the entry in its place
pub performed_at : (l : Log) (i : ℕ) (e : LogEntry) → i < length (performed_in (logged l)) → e ≡ get_or l.entries.items i e
    → act_of e.action ≡ get_or (performed_in (logged l)) i (act_of e.action)
performed_at l i e lt is =
    let acts = entered l.entries.items in
    let here : act_of e.action ≡ get_or acts i (act_of e.action) = read_map (λ (x : LogEntry). act_of x.action) l.entries.items i e e is in
    here ∙ go (is_fault (log_end l.end)) acts (subst (λ (xs : List Act). i < length xs) (performed_are l) lt)
    ∙ sym (ap (λ (xs : List Act). get_or xs i (act_of e.action)) (performed_are l))
  where
    go : (b : Bool) (acts : List Act) → i < length (if b then take (length acts - 1) acts else acts)
        → get_or acts i (act_of e.action) ≡ get_or (if b then take (length acts - 1) acts else acts) i (act_of e.action)
    go true acts within = sym (take_at (length acts - 1) acts i (act_of e.action) within)
    go false acts within = refl

-- how many are performed
entered_count : (l : Log) → length (entered l.entries.items) ≡ length l.entries.items
entered_count l = length-map l.entries.items (λ e. act_of e.action)

pub done_count : (l : Log) (end : LogEnd) → l.end ≡ end → is_fault (log_end end) ≡ false → length l.entries.items ≡ length (performed_in (logged l))
done_count l end is done =
    let acts = entered l.entries.items in
    let f : is_fault (log_end l.end) ≡ false = ap (λ d. is_fault (log_end d)) is ∙ done in
    sym (ap length (performed_are l) ∙ ap (λ b. length (if b then take (length acts - 1) acts else acts)) f ∙ entered_count l)

pub fault_count : (l : Log) (end : LogEnd) → l.end ≡ end → is_fault (log_end end) ≡ true → length l.entries.items - 1 ≡ length (performed_in (logged l))
fault_count l end is fault =
    let acts = entered l.entries.items in
    let f : is_fault (log_end l.end) ≡ true = ap (λ d. is_fault (log_end d)) is ∙ fault in
    let less : length acts - 1 ≤ length acts = omega arith in
    let kept : length (take (length acts - 1) acts) ≡ length acts - 1 = length-take-le (length acts - 1) acts less in
    sym (ap length (performed_are l) ∙ ap (λ b. length (if b then take (length acts - 1) acts else acts)) f ∙ kept ∙ ap (λ n. n - 1) (entered_count l))

-- an answer that refuses nothing
pub passed : (s : Step) (i : ℕ) (rest : Option Ending) → (s ≡ Step.Next) ⊎ (s ≡ Step.NotAnAction) → by_answer i s rest ≡ rest
passed s i rest (inl e) = rw e refl
passed s i rest (inr e) = rw e refl

-- past the last action nothing is refused
pub all_heard : (p : Prog) (acts : List Act) (i : ℕ) (ss : List (List Val)) → length acts ≤ i → monitored_from i (tabled p) (drop i acts) ss ≡ None
all_heard p acts i ss le = ap (λ (xs : List Act). monitored_from i (tabled p) xs ss) (none acts i le)
  where
    none : (xs : List Act) (n : ℕ) → length xs ≤ n → drop n xs ≡ []
    none [] zero le = refl
    none [] (suc n) le = refl
    none (x ∷ xs) zero le = absurd (omega arith)
    none (x ∷ xs) (suc n) le = none xs n (omega arith)

-- one answer more
pub answers_more : {X Y Z : Type 0} (f : X → Z) (g : Y → Z) (xs all : List X) (x : X) (ys : List Y) (i : ℕ) (d : Y) → i < length ys → map f xs ≡ map g (take i ys)
    → f x ≡ g (get_or ys i d) → all ≡ xs ++ x ∷ [] → map f all ≡ map g (take (i + 1) ys)
answers_more f g xs all x ys i d lt so one is =
    ap (map f) is ∙ map-append f xs (x ∷ []) ∙ ap₂ (λ us vs. us ++ vs) so (ap (λ b. b ∷ []) one)
    ∙ sym (ap (map g) (take_more ys i d lt) ∙ map-append g (take i ys) (get_or ys i d ∷ []))
