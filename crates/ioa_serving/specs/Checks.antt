-- What a check of a source or an object writes, and why it refuses one.
use Rattle.std.specs.Prelude.{◌≡◌, true, false, ℕ, ◌⊎◌, ◌++◌, ◌∷◌, [], All, Bool, List, Option, Some, take, codes}
use Rattle.std.specs.Io.KnownBytes.{Appends, Keeps}
use Rattle.ioa_lex.specs.declared.refusal.Refusal.{Refusal}
use Rattle.ioa_lex.specs.declared.refusal.Refusal.TheVariants as refusals
use Rattle.ioa_tree.specs.Tree.{CompositionTree, SourceTree}
use Rattle.ioa_syntax.specs.Source as texts
use Rattle.ioa_tree.specs.WellFormed.{WellFormed}
use Rattle.ioa_tree.specs.Compositions.{compositions, picked}
use Rattle.ioa_tree.specs.Hosts.{Hosted, IsHosted}
use Rattle.ioa_serving.specs.declared.failure.Failure.{Failure}
use Rattle.ioa_compile.specs.Programs.{Prog}
use Rattle.ioa_object.specs.Objects.{IsObject}
use Rattle.ioa_serving.specs.Headline.{Spells, begins_object}
use Rattle.ioa_serving.specs.Failing.{IsRefusedNamed, IsDeviceErr, IsIllFormed, IsLeft, IsNoObject}

abbrev pub ok_line : List ℕ
ok_line = codes "ok" ++ 10 ∷ []

-- by its name the composition is picked, and it is of hosts
abbrev pub Composes : SourceTree → CompositionTree → Type 0
Composes s c = (t : CompositionTree) × (picked s (Some c.name) ≡ Some t) × ((h : Hosted) × IsHosted s t h)

-- each composition of the source composes, where this is asked for
abbrev pub AllCompose : Bool → SourceTree → Type 0
AllCompose false s = Unit {0}
AllCompose true s = All (Composes s) (compositions s)

-- The source's first composition that does not compose is refused so: those before it, in the source's order, compose.
pub record IsFirstRefused (s : SourceTree) (r : Refusal) : Type 0 where
  pub before : List CompositionTree
  pub first : CompositionTree
  pub after : List CompositionTree
  pub order : compositions s ≡ before ++ first ∷ after
  pub compose : All (Composes s) before
  pub refused : IsRefusedNamed s (Some first.name) r

-- the text spells a tree that is well formed, and each of its compositions composes, where this is asked for
abbrev pub IsFineSource : List ℕ → Bool → Type 0
IsFineSource text asked = (s : SourceTree) × Spells text s × WellFormed s × AllCompose asked s

-- a source that is fine; or the bytes are the object of a program
abbrev pub IsFine : List ℕ → Bool → Type 0
IsFine text asked = ((begins_object text ≡ false) × IsFineSource text asked) ⊎ ((p : Prog) × IsObject text p)

abbrev pub IsCheck : List ℕ → Bool → Option (List ℕ) → Option (List ℕ) → Type 0
IsCheck text asked before after = IsFine text asked × Appends before after ok_line

-- the compositions are asked for, and the first that does not compose is refused
abbrev pub IsUncomposing : List ℕ → Bool → Refusal → Type 0
IsUncomposing text asked r = (asked ≡ true) × ((s : SourceTree) × Spells text s × WellFormed s × IsFirstRefused s r)

-- the text is no source, or the source is not well formed, or a composition that is asked for is refused. Memory may be short at any time
abbrev pub IsUnfineSource : List ℕ → Bool → Refusal → Type 0
IsUnfineSource text asked r = (r ≡ refusals.OutOfMemory) ⊎ (texts.IsRefused text r ⊎ (IsIllFormed text r ⊎ IsUncomposing text asked r))

-- the source is refused; or the bytes are no object
abbrev pub IsUnfine : List ℕ → Bool → Failure → Type 0
IsUnfine text asked (Failure.Refused r) = (begins_object text ≡ false) × IsUnfineSource text asked r
IsUnfine text asked (Failure.Object e) = IsNoObject text e
IsUnfine text asked Failure.SourceWanted = ⊥
IsUnfine text asked (Failure.List e) = ⊥
IsUnfine text asked Failure.SpecHasInternal = ⊥
IsUnfine text asked (Failure.BadWords n) = ⊥
IsUnfine text asked Failure.TooManyTurns = ⊥
IsUnfine text asked (Failure.BadInput i) = ⊥
IsUnfine text asked Failure.Threads = ⊥
IsUnfine text asked (Failure.BadLog i) = ⊥
IsUnfine text asked Failure.EndedByFault = ⊥
IsUnfine text asked (Failure.RunLog e) = ⊥
IsUnfine text asked Failure.Io = ⊥
IsUnfine text asked Failure.OutOfMemory = ⊥

-- the file is refused, as above; or the device failed, after it was accepted. Neither a list nor another file is read
abbrev pub IsCheckFailure : List ℕ → Bool → Type 0 → Failure → Type 0
IsCheckFailure text asked failed (Failure.Refused r) = IsUnfine text asked (Failure.Refused r)
IsCheckFailure text asked failed (Failure.Object e) = IsUnfine text asked (Failure.Object e)
IsCheckFailure text asked failed Failure.SourceWanted = ⊥
IsCheckFailure text asked failed (Failure.List e) = IsDeviceErr (IsFine text asked × failed) e
IsCheckFailure text asked failed Failure.SpecHasInternal = ⊥
IsCheckFailure text asked failed (Failure.BadWords n) = ⊥
IsCheckFailure text asked failed Failure.TooManyTurns = ⊥
IsCheckFailure text asked failed (Failure.BadInput i) = ⊥
IsCheckFailure text asked failed Failure.Threads = ⊥
IsCheckFailure text asked failed (Failure.BadLog i) = ⊥
IsCheckFailure text asked failed Failure.EndedByFault = ⊥
IsCheckFailure text asked failed (Failure.RunLog e) = ⊥
IsCheckFailure text asked failed Failure.Io = ⊥
IsCheckFailure text asked failed Failure.OutOfMemory = ⊥

-- nothing was written, or, where the device failed, no more than a beginning of the line
abbrev pub IsUnchecked : Option (List ℕ) → Option (List ℕ) → Failure → Type 0
IsUnchecked before after e = IsLeft ((k : ℕ) × Appends before after (take k ok_line)) (Keeps before after) e
