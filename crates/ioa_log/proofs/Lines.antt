-- A list text, line by line.
use Rattle.std.proofs.Common.{◌≡◌, ℕ, ◌+◌, ◌-◌, ◌^◌, ◌<◌, ◌≤◌, ◌⊎◌, true, false, List, [], ◌∷◌, ◌++◌, length, refl, sym, ◌∙◌, ap, subst, Option, None, Some, IfSome, inl, inr, arith}
use Rattle.std.proofs.lemmas.List.{append-nil}
use Rattle.std.proofs.lemmas.Bool.{false≢true}
use Rattle.ioa_value.specs.Actions.{Act}
use Rattle.ioa_value.specs.Table.{Table}
use denote.Ref.{Bor}
use Rattle.ioa_value.specs.Reads.{Reads}
use Rattle.ioa_value.specs.Lists.{lines, is_skipped, ReadsLines, IsLine, BadLine, first_line, after_line}
use Rattle.ioa_value.proofs.ListLemmas.{good, one_more}
use Rattle.ioa_compile.specs.Programs.{Prog}
use Rattle.ioa_system.specs.Progress.{CountsOneMore}
use Rattle.ioa_system.proofs.Tracing.{performed_within}
use Rattle.ioa_device.specs.declared.failure.LogErr.{LogErr}
use Rattle.ioa_device.specs.Failing.{IsListErr}
use Rattle.ioa_device.specs.LineReading.{AreTaken}
use Rattle.ioa_device.proofs.LineReading.{all_taken, parted}
use Rattle.ioa_log.specs.declared.reading.Reading.{Reading}
use Rattle.ioa_log.specs.declared.reading.Replayed.{Replayed}
use Rattle.ioa_log.specs.Readings.{HasPerformed, HasRead, IsReplayed, ReadsOneMore}

-- a line has one action at most
few_actions : (types : Table) (ls : List (List ℕ)) (acts : List Act) → ReadsLines types ls acts → length acts ≤ length ls
few_actions types [] acts e = omega (arith, ap length e)
few_actions types (l ∷ ls) acts (inl (skipped, read)) = let few : length acts ≤ length ls = few_actions types ls acts read in omega (arith, few)
few_actions types (l ∷ ls) acts (inr (a, others, is, read, e)) =
    let few : length others ≤ length ls = few_actions types ls others read in omega (arith, few, ap length e)

-- a number of 64 bits counts an action more
pub counts_line : (p : Prog) (ls : List (List ℕ)) (r : Reading) → HasRead p ls r → length ls < 2 ^ 64 - 1 → CountsOneMore r.runner.end
counts_line p ls r h l = omega (arith, l, few_actions p.types ls h.acts h.reads, performed_within p h.acts h.performed.traced r.runner h.performed.run)

-- ---- one line more

pub reads_skipped : (types : Table) (ls : List (List ℕ)) (acts : List Act) (l : List ℕ) → ReadsLines types ls acts → is_skipped l ≡ true → ReadsLines types (ls ++ l ∷ []) acts
reads_skipped types ls acts l r s = subst (λ xs. ReadsLines types (ls ++ l ∷ []) xs) (append-nil acts) (one_more types ls (l ∷ []) acts [] r (inl (s, refl)))

pub reads_action : (types : Table) (ls : List (List ℕ)) (acts : List Act) (l : List ℕ) (a : Act) → ReadsLines types ls acts → Reads types l a → ReadsLines types (ls ++ l ∷ []) (acts ++ a ∷ [])
reads_action types ls acts l a r h = one_more types ls (l ∷ []) acts (a ∷ []) r (inr (a, [], h, refl, refl))

pub no_line : (types : Table) (l : List ℕ) → is_skipped l ≡ false → ((a : Act) → Reads types l a → ⊥) → IsLine types l → ⊥
no_line types l s none (inl t) = false≢true (sym s ∙ t)
no_line types l s none (inr (a, r)) = none a r

pub one_skipped : (p : Prog) (ls : List (List ℕ)) (l : List ℕ) (r : Reading) → HasRead p ls r → is_skipped l ≡ true → ReadsOneMore p ls l r
one_skipped p ls l r h s = (h.acts, reads_skipped p.types ls h.acts l h.reads s, h.performed)

pub one_performed : (p : Prog) (ls : List (List ℕ)) (l : List ℕ) (a : Act) (r now : Reading) → HasRead p ls r → Reads r.types.now l a
    → ((acts : List Act) → r.types.now ≡ p.types → HasPerformed p acts r.runner r.trace → HasPerformed p (acts ++ a ∷ []) now.runner now.trace) → ReadsOneMore p ls l now
one_performed p ls l a r now h e goes =
    (h.acts ++ a ∷ [], reads_action p.types ls h.acts l a h.reads (subst (λ ts. Reads ts l a) h.types e), goes h.acts h.types h.performed)

pub read_more : (p : Prog) (ls : List (List ℕ)) (l : List ℕ) (r now : Reading) → HasRead p ls r → ReadsOneMore p ls l now → now.types ≡ r.types → HasRead p (ls ++ l ∷ []) now
read_more p ls l r now h m t = record {
  acts = m.0;
  types = ap (λ (b : Bor Table). b.now) t ∙ h.types;
  reads = m.1;
  performed = m.2;
}

-- ---- a text whose lines are performed as they come

module _ (p : Prog) (ls : List (List ℕ)) (r : Reading) (h : HasRead p ls r) (known left : Option (List ℕ)) (taken : IfSome known (λ bytes. AreTaken bytes ls left)) where
  -- no byte is to come
  pub list_over : (mid : Option (List ℕ)) (x : Replayed) → IfSome left (λ all. (all ≡ []) × (mid ≡ Some all))
      → ((q : Prog) (seen : List ℕ) → HasRead q (lines seen) r → IsReplayed q seen x) → IfSome known (λ bytes. IsReplayed p bytes x)
  list_over mid x none k = by known taken
    where
      by : (o : Option (List ℕ)) → IfSome o (λ bytes. AreTaken bytes ls left) → IfSome o (λ bytes. IsReplayed p bytes x)
      by None t = tt
      by (Some bytes) t = k p bytes (subst (λ xs. HasRead p xs r) (sym (all_taken bytes ls left mid t none)) h)

  -- a line is no action
  pub list_refused : (mid new : Option (List ℕ)) (line : List ℕ) (n : ℕ) → IfSome left (λ all. (0 < length all) × (mid ≡ Some all))
      → IfSome mid (λ all. (line ≡ first_line all) × (new ≡ Some (after_line all))) → (IsLine p.types line → ⊥) → n ≡ length ls + 1 → IfSome known (λ bytes. BadLine p.types bytes n)
  list_refused mid new line n some came bad k = by known taken
    where
      by : (o : Option (List ℕ)) → IfSome o (λ bytes. AreTaken bytes ls left) → IfSome o (λ bytes. BadLine p.types bytes n)
      by None t = tt
      by (Some bytes) t = (ls, line, lines (after_line t.0), good p.types ls h.acts h.reads, bad, parted bytes ls left mid new line t some came, k)

-- no line is asked for any more: a list has no end before which none may come
pub list_stopped : (e : LogErr) → (e ≡ LogErr.Io) ⊎ ((e ≡ LogErr.AfterEnd) ⊎ (e ≡ LogErr.OutOfMemory)) → (e ≡ LogErr.AfterEnd → ⊥) → IsListErr e
list_stopped e (inl s) ended = subst IsListErr (sym s) tt
list_stopped e (inr (inl s)) ended = absurd (ended s)
list_stopped e (inr (inr s)) ended = subst IsListErr (sym s) tt
