-- A stream of which no more is watched: what is written of it.
use Rattle.std.proofs.Common.{◌≡◌, ◌<◌, ◌+◌, ◌⊎◌, inl, inr, ℕ, Bool, true, false, List, [], ◌++◌, Option, None, Some, IfSome, length, take, drop, refl, sym, ap, subst, ◌∙◌, append_assoc, append-nil, arith, Err}
use Rattle.std.specs.Io.KnownBytes.{Appends}
use Rattle.std.specs.Result.{IsErrOf}
use Rattle.std.proofs.KnownBytes.{Appends-nil, Appends-trans}
use Rattle.std.proofs.Math.Seq.{take-append_seam}
use Rattle.std.proofs.lemmas.List.{take-append-drop, take_all}
use Rattle.ioa_value.specs.Actions.{Act}
use Rattle.ioa_value.specs.Lists.{after_line, first_line, lines}
use Rattle.ioa_value.specs.Table.{Table}
use Rattle.ioa_compile.specs.Programs.{Prog}
use Rattle.ioa_device.specs.Failing.{IsLineErr}
use Rattle.ioa_device.specs.LineReading.{AreTaken}
use Rattle.ioa_device.specs.declared.failure.LogErr.{LogErr}
use Rattle.ioa_device.proofs.LineReading.{of_all, of_line}
use Rattle.ioa_watch.specs.Streams.{Came, IsBegun, IsFailed, IsNoLine, IsNotJson, IsWatched, accepted, is_over, known_by, told}
use Rattle.ioa_watch.proofs.StreamLemmas.{came_none}

-- a device or memory failed
abbrev pub IsWant : LogErr → Type 0
IsWant e = (e ≡ LogErr.Io) ⊎ (e ≡ LogErr.OutOfMemory)

-- the device took one piece, and a beginning of the next one
begun_more : (old mid new : Option (List ℕ)) (xs ys : List ℕ) → Appends old mid xs → (k : ℕ) × Appends mid new (take k ys) → (n : ℕ) × Appends old new (take n (xs ++ ys))
begun_more old mid new xs ys front next =
    let taken : List ℕ = xs ++ take next.0 ys in
    let whole : xs ++ ys ≡ taken ++ drop next.0 ys = ap (λ zs. xs ++ zs) (sym (take-append-drop next.0 ys)) ∙ sym (append_assoc xs (take next.0 ys) (drop next.0 ys)) in (
      length taken,
      subst (Appends old new) (sym (ap (take (length taken)) whole ∙ take-append_seam taken (drop next.0 ys))) (Appends-trans old mid new xs (take next.0 ys) front next.1),
    )

module _ (json : Bool) (types : Table) (ps : List Prog) (first : Bool) (old : Option (List ℕ)) where
  want : (bytes : List ℕ) (new : Option (List ℕ)) (e : LogErr) → IsWant e → IsBegun json types ps first bytes old new → IsFailed json types ps first bytes old new e
  want bytes new e (inl io) b = subst (IsFailed json types ps first bytes old new) (sym io) b
  want bytes new e (inr memory) b = subst (IsFailed json types ps first bytes old new) (sym memory) b

  -- before the first line
  pub failed_before : (known : Option (List ℕ)) (e : LogErr) → IsWant e → IfSome known (λ bytes. IsFailed json types ps first bytes old old e)
  failed_before None e w = tt
  failed_before (Some bytes) e w =
      want bytes old e w (record {
        before = [];
        after = lines bytes;
        parted = refl;
        acts = [];
        came = came_none types ps first;
        text = [];
        text_is = inl refl;
        count = 0;
        written = Appends-nil old;
      })

  module _ (ls : List (List ℕ)) (acts : List Act) (came : Came types ps first ls acts) (known left : Option (List ℕ)) (taken : IfSome known (λ bytes. AreTaken bytes ls left)) where
    -- of all texts of which these lines are taken
    of_taken : (Q : List ℕ → Type 0) → ((bytes : List ℕ) (after : List (List ℕ)) → lines bytes ≡ ls ++ after → Q bytes) → IfSome known Q
    of_taken Q k = by known taken
      where
        by : (o : Option (List ℕ)) → IfSome o (λ bytes. AreTaken bytes ls left) → IfSome o Q
        by None t = tt
        by (Some bytes) t = k bytes (lines t.0) t.2

    -- all that is told of them is written
    pub failed_behind : (new : Option (List ℕ)) (e : LogErr) → IsWant e → Appends old new (told json ps acts) → IfSome known (λ bytes. IsFailed json types ps first bytes old new e)
    failed_behind new e w written =
        of_taken (λ bytes. IsFailed json types ps first bytes old new e) (λ bytes after parted.
        want bytes new e w (record {
          before = ls;
          after = after;
          parted = parted;
          acts = acts;
          came = came;
          text = told json ps acts;
          text_is = inl refl;
          count = length (told json ps acts);
          written = subst (Appends old new) (sym (take_all (length (told json ps acts)) (told json ps acts) (omega arith))) written;
        }))

    -- a beginning of it
    pub failed_within : (mid new : Option (List ℕ)) (xs news : List ℕ) (e : LogErr) → IsWant e → told json ps acts ≡ xs ++ news → Appends old mid xs
        → (k : ℕ) × Appends mid new (take k news) → IfSome known (λ bytes. IsFailed json types ps first bytes old new e)
    failed_within mid new xs news e w parts front next =
        let b = begun_more old mid new xs news front next in
        of_taken (λ bytes. IsFailed json types ps first bytes old new e) (λ bytes after parted.
        want bytes new e w (record {
          before = ls;
          after = after;
          parted = parted;
          acts = acts;
          came = came;
          text = told json ps acts;
          text_is = inl refl;
          count = b.0;
          written = subst (λ xs. Appends old new (take b.0 xs)) (sym parts) b.1;
        }))

    -- the stream ends, and a beginning of what is told there is written
    pub failed_last : (mid left_over : Option (List ℕ)) (new : Option (List ℕ)) (e : LogErr) → IsWant e → is_over first ps acts ≡ false
        → IfSome left (λ all. (all ≡ []) × (left_over ≡ Some all)) → Appends old mid (told json ps acts) → (k : ℕ) × Appends mid new (take k (accepted json ps acts))
        → IfSome known (λ bytes. IsFailed json types ps first bytes old new e)
    failed_last mid left_over new e w going none front next =
        let b = begun_more old mid new (told json ps acts) (accepted json ps acts) front next in
        of_all known left left_over ls taken (λ bytes. IsFailed json types ps first bytes old new e) none (λ bytes all.
        want bytes new e w (record {
          before = ls;
          after = [];
          parted = all ∙ sym (append-nil ls);
          acts = acts;
          came = came;
          text = told json ps acts ++ accepted json ps acts;
          text_is = inr (going, refl, refl);
          count = b.0;
          written = b.1;
        }))

    -- ---- what is watched

    -- it is over
    pub watched_over : (new : Option (List ℕ)) (Q : List Act → Type 0) → is_over first ps acts ≡ true → Appends old new (told json ps acts) → Q acts
        → IfSome known (λ bytes. (text : List ℕ) × (xs : List Act) × IsWatched json types ps first bytes text xs × Appends old new text × Q xs)
    watched_over new Q over written q =
        of_taken (λ bytes. (text : List ℕ) × (xs : List Act) × IsWatched json types ps first bytes text xs × Appends old new text × Q xs) (λ bytes after parted.
        (told json ps acts, acts, record { before = ls; after = after; parted = parted; came = came; all = inl (over, refl) }, written, q))

    -- the stream ends
    pub watched_whole : (mid new left_over : Option (List ℕ)) (Q : List Act → Type 0) → is_over first ps acts ≡ false → IfSome left (λ all. (all ≡ []) × (left_over ≡ Some all))
        → Appends old mid (told json ps acts) → Appends mid new (accepted json ps acts) → Q acts
        → IfSome known (λ bytes. (text : List ℕ) × (xs : List Act) × IsWatched json types ps first bytes text xs × Appends old new text × Q xs)
    watched_whole mid new left_over Q going none front last q =
        of_all known left left_over ls taken (λ bytes. (text : List ℕ) × (xs : List Act) × IsWatched json types ps first bytes text xs × Appends old new text × Q xs) none
        (λ bytes all. (
          told json ps acts ++ accepted json ps acts,
          acts,
          record { before = ls; after = []; parted = all ∙ sym (append-nil ls); came = came; all = inr (going, refl, refl) },
          Appends-trans old mid new (told json ps acts) (accepted json ps acts) front last,
          q,
        ))

    -- a line is read that is none, or memory is short for it
    pub failed_line : (mid next new : Option (List ℕ)) (line : List ℕ) (number : ℕ) (e : LogErr) → is_over first ps acts ≡ false → number ≡ length ls + 1 → IsLineErr e
        → IfSome left (λ all. (0 < length all) × (mid ≡ Some all)) → IfSome mid (λ all. (line ≡ first_line all) × (next ≡ Some (after_line all)))
        → Appends old new (told json ps acts)
        → ((n : ℕ) → IsErrOf {T = Unit} (Err e) (LogErr.NotJson n) → (n ≡ number) × IsNotJson line)
        → ((n : ℕ) → IsErrOf {T = Unit} (Err e) (LogErr.BadEntry n) → (n ≡ number) × IsNoLine types (known_by ps) line)
        → IfSome known (λ bytes. IsFailed json types ps first bytes old new e)
    failed_line mid next new line number e going numbered only some came_next written not_json bad = by e only not_json bad
      where
        by : (e : LogErr) → IsLineErr e
            → ((n : ℕ) → IsErrOf {T = Unit} (Err e) (LogErr.NotJson n) → (n ≡ number) × IsNotJson line)
            → ((n : ℕ) → IsErrOf {T = Unit} (Err e) (LogErr.BadEntry n) → (n ≡ number) × IsNoLine types (known_by ps) line)
            → IfSome known (λ bytes. IsFailed json types ps first bytes old new e)
        by (LogErr.NotJson n) only text other =
            let x = text n refl in
            of_line known left mid ls taken (λ bytes. IsFailed json types ps first bytes old new (LogErr.NotJson n)) next line some came_next
            (λ bytes after parted. record { before = ls; line = line; after = after; parted = parted; acts = acts; came = came; going = going; wrong_is = x.1; number = x.0 ∙ numbered; written = written })
        by (LogErr.BadEntry n) only text other =
            let x = other n refl in
            of_line known left mid ls taken (λ bytes. IsFailed json types ps first bytes old new (LogErr.BadEntry n)) next line some came_next
            (λ bytes after parted. record { before = ls; line = line; after = after; parted = parted; acts = acts; came = came; going = going; wrong_is = x.1; number = x.0 ∙ numbered; written = written })
        by (LogErr.WrongOwner n) only text other = absurd only
        by (LogErr.Diverges n) only text other = absurd only
        by LogErr.NoEnd only text other = absurd only
        by LogErr.AfterEnd only text other = absurd only
        by LogErr.Io only text other = absurd only
        by LogErr.OutOfMemory only text other = failed_behind new LogErr.OutOfMemory (inr refl) written
