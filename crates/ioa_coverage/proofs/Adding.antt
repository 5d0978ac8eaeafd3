-- Counts of a program's entries: before any action, with more of them, and as they are told.
use Rattle.std.proofs.Common.{◌≡◌, ◌+◌, ◌++◌, ◌∷◌, ◌<◌, ◌≤◌, ◌^◌, ℕ, All, Bool, true, false, List, [], Some, ap, ap₂, arith, cond, get_or, length, map, refl, slice_get, subst, sym, take, ◌∙◌}
use Rattle.std.specs.Prelude.{count_by}
use Rattle.std.specs.List.{flat_map}
use Rattle.std.proofs.lemmas.List.{map-append, map_more}
use Rattle.std.proofs.lemmas.List.Elements.{All-append, All-cons, All-head, All-nil, All-tail}
use Rattle.std.proofs.lemmas.List.Sums.{count_by-le-length, count_by_more_no, count_by_more_yes, sum_by-append}
use Rattle.std.proofs.lemmas.Option.{get_or_from_slice_get, slice_get_within}
use Rattle.ioa_value.specs.Actions.{Act}
use Rattle.ioa_compile.specs.Programs.{EntryCode, MemberCode, Prog}
use Rattle.ioa_compile.specs.Tables.{is_in}
use Rattle.ioa_system.specs.declared.log.LogEntry.{LogEntry}
use Rattle.ioa_coverage.specs.declared.coverage.Row.{Row}
use Rattle.ioa_coverage.specs.Counts.{AreRoomy, IsRoomy, CountRow, told_row, member_rows, rows_of, row_for, count_row, times_in, with_more}
use Rattle.ioa_coverage.specs.Performed.{Counted, how_often, counted_table, of_code, of_member}

-- ---- with more actions

times_more : (acts more : List Act) (m : MemberCode) (e : EntryCode) → times_in acts m e + times_in more m e ≡ times_in (acts ++ more) m e
times_more acts more m e = sym (sum_by-append (λ (a : Act). cond (is_in m.start.table a e) 1 0) acts more)

entries_more : (acts more : List Act) (m : MemberCode) (es : List EntryCode)
    → map (with_more more) (map (λ e. row_for m e (times_in acts m e)) es) ≡ map (λ e. row_for m e (times_in (acts ++ more) m e)) es
entries_more acts more m [] = refl
entries_more acts more m (e ∷ es) = ap₂ (λ (x : CountRow) (xs : List CountRow). x ∷ xs) (ap (row_for m e) (times_more acts more m e)) (entries_more acts more m es)

members_more : (acts more : List Act) (ms : List MemberCode) → map (with_more more) (flat_map (member_rows acts) ms) ≡ flat_map (member_rows (acts ++ more)) ms
members_more acts more [] = refl
members_more acts more (m ∷ ms) =
    map-append (with_more more) (member_rows acts m) (flat_map (member_rows acts) ms)
    ∙ ap₂ (λ (x y : List CountRow). x ++ y) (entries_more acts more m m.entries) (members_more acts more ms)

pub rows_more : (p : Prog) (acts more : List Act) → map (with_more more) (rows_of p acts) ≡ rows_of p (acts ++ more)
rows_more p acts more = members_more acts more p.members

-- ---- how many there may be

abbrev IsFew : ℕ → CountRow → Type 0
IsFew n s = s.times ≤ n

entries_few : (acts : List Act) (m : MemberCode) (es : List EntryCode) → All (IsFew (length acts)) (map (λ e. row_for m e (times_in acts m e)) es)
entries_few acts m [] = All-nil (IsFew (length acts))
entries_few acts m (e ∷ es) =
    All-cons (IsFew (length acts)) (row_for m e (times_in acts m e)) (map (λ d. row_for m d (times_in acts m d)) es) (count_by-le-length (λ (a : Act). is_in m.start.table a e) acts)
    (entries_few acts m es)

members_few : (acts : List Act) (ms : List MemberCode) → All (IsFew (length acts)) (flat_map (member_rows acts) ms)
members_few acts [] = All-nil (IsFew (length acts))
members_few acts (m ∷ ms) =
    All-append (IsFew (length acts)) (member_rows acts m) (flat_map (member_rows acts) ms) (entries_few acts m m.entries) (members_few acts ms)

roomy : (n : ℕ) (log : List LogEntry) (rs : List Row) → n + length log < 2 ^ 128 → All (IsFew n) (map count_row rs) → AreRoomy rs log
roomy n log [] few h = All-nil (IsRoomy log)
roomy n log (r ∷ rs) few h =
    let first : IsFew n (count_row r) = All-head (IsFew n) (count_row r) (map count_row rs) h in
    All-cons (IsRoomy log) r rs (omega (arith, first, few)) (roomy n log rs few (All-tail (IsFew n) (count_row r) (map count_row rs) h))

-- what is counted leaves room for so many more
pub rows_roomy : (p : Prog) (acts : List Act) (log : List LogEntry) (rs : List Row) → map count_row rs ≡ rows_of p acts → length acts + length log < 2 ^ 128 → AreRoomy rs log
rows_roomy p acts log rs covers few = roomy (length acts) log rs few (subst (All (IsFew (length acts))) (sym covers) (members_few acts p.members))

-- ---- as they are told

abbrev told : CountRow → Counted
told s = how_often s.member.name s.entry.name s.times

rows_told : (rs : List Row) → map told_row rs ≡ map told (map count_row rs)
rows_told [] = refl
rows_told (r ∷ rs) = ap (λ (xs : List Counted). told_row r ∷ xs) (rows_told rs)

entries_told : (acts : List Act) (m : MemberCode) (es : List EntryCode) → map told (map (λ e. row_for m e (times_in acts m e)) es) ≡ map (of_code acts m) es
entries_told acts m [] = refl
entries_told acts m (e ∷ es) = ap (λ (xs : List Counted). of_code acts m e ∷ xs) (entries_told acts m es)

members_told : (acts : List Act) (ms : List MemberCode) → map told (flat_map (member_rows acts) ms) ≡ flat_map (of_member acts) ms
members_told acts [] = refl
members_told acts (m ∷ ms) =
    map-append told (member_rows acts m) (flat_map (member_rows acts) ms)
    ∙ ap₂ (λ (x y : List Counted). x ++ y) (entries_told acts m m.entries) (members_told acts ms)

pub all_told : (p : Prog) (acts : List Act) (rs : List Row) → map count_row rs ≡ rows_of p acts → map told_row rs ≡ counted_table p acts
all_told p acts rs covers = rows_told rs ∙ ap (map told) covers ∙ members_told acts p.members

-- ---- one item more

module _ {X : Type 0} (p : X → Bool) (xs : List X) (i : ℕ) where
  pub counted_yes : (x : X) (n : ℕ) → slice_get xs i ≡ Some x → n ≡ count_by p (take i xs) → p x ≡ true → n + 1 ≡ count_by p (take (i + 1) xs)
  counted_yes x n at so_far test =
      ap (λ m. m + 1) so_far ∙ sym (count_by_more_yes p xs i x (slice_get_within xs i x at) (ap p (get_or_from_slice_get xs i x x at) ∙ test))

  pub counted_no : (x : X) (n : ℕ) → slice_get xs i ≡ Some x → n ≡ count_by p (take i xs) → p x ≡ false → n ≡ count_by p (take (i + 1) xs)
  counted_no x n at so_far test = so_far ∙ sym (count_by_more_no p xs i x (slice_get_within xs i x at) (ap p (get_or_from_slice_get xs i x x at) ∙ test))

-- ---- one row more

pub rows_counted : (w : CountRow → CountRow) (rs xs all : List Row) (r x : Row) (i : ℕ) → i < length rs → r ≡ get_or rs i r → map count_row xs ≡ map w (map count_row (take i rs))
    → count_row x ≡ w (count_row r) → all ≡ xs ++ x ∷ [] → map count_row all ≡ map w (map count_row (take (i + 1) rs))
rows_counted w rs xs all r x i lt at so one is =
    ap (map count_row) is ∙ map-append count_row xs (x ∷ [])
    ∙ ap₂ (λ (us vs : List CountRow). us ++ vs) so (ap (λ (b : CountRow). b ∷ []) (one ∙ ap (λ (y : Row). w (count_row y)) at))
    ∙ sym (ap (map w) (map_more count_row rs i r lt) ∙ map-append w (map count_row (take i rs)) (count_row (get_or rs i r) ∷ []))
