-- Lists, read and spelled: each item may depend on those before it.
use Rattle.std.proofs.Common.{◌≡◌, ℕ, zero, suc, ◌^◌, ◌<◌, ◌≤◌, List, [], ◌∷◌, ◌++◌, length, refl, sym, ap, ◌∙◌, subst, arith, All}
use Rattle.std.specs.List.{flat_map}
use Rattle.std.proofs.lemmas.List.{append_assoc, append-nil}
use Rattle.std.proofs.lemmas.List.Elements.{All-nil, All-cons, All-head, All-tail}
use Rattle.ioa_bytes.specs.Items.{Reader, items_at, list_at}
use Rattle.ioa_object.specs.Spelling.{short, list_of}
use Rattle.ioa_bytes.specs.Spots.{Spot}
use Rattle.ioa_object.proofs.Formats.{AreBytes, Finds, finds_ok, finds_on, Yields, yields_ok, yields_on, yields_weaker, IsFormat, same_format, chained}
use Rattle.ioa_object.proofs.Numbers.{count_format}

-- each item may stand behind those before it
abbrev pub AreFine : {A : Type 0} → (List A → A → Type 0) → List A → List A → Type 0
AreFine Fine before [] = Unit {0}
AreFine Fine before (x ∷ xs) = Fine before x × AreFine Fine (before ++ x ∷ []) xs

-- so many items, each of which may stand behind those before it
pub record IsListed {A : Type 0} (least most : ℕ) (Fine : List A → A → Type 0) (xs : List A) : Type 0 where
  pub some : least ≤ length xs
  pub few : length xs ≤ most
  pub fine : AreFine Fine [] xs

pushed : {A : Type 0} (xs : List A) (x : A) (ys : List A) → (xs ++ x ∷ []) ++ ys ≡ xs ++ x ∷ ys
pushed xs x ys = append_assoc xs (x ∷ []) ys

-- a reader for each item, over those before it, where this holds of the items that come and of those before
module _ {A : Type 0} (item : List A → Reader A) (spelled : A → List ℕ) (Fine : List A → A → Type 0) (Holds : ℕ → List A → Type 0)
    (each : (n : ℕ) (before : List A) → Holds (suc n) before → IsFormat (item before) spelled (Fine before))
    (next : (n : ℕ) (before : List A) (x : A) → Holds (suc n) before → Fine before x → Holds n (before ++ x ∷ [])) where
  pub items_find : (n : ℕ) (before xs : List A) → length xs ≡ n → Holds n before → AreFine Fine before xs → (c : Spot) (more : List ℕ)
      → c.rest ≡ flat_map spelled xs ++ more → Finds (items_at item before n c) (before ++ xs) more
  unfolding items_at
  items_find zero before [] long h fine c more e = subst (λ (ys : List A). Finds (items_at item before zero c) ys more) (sym (append-nil before)) (finds_ok before c more e)
  items_find zero before (x ∷ xs) long h fine c more e = absurd (omega arith)
  items_find (suc n) before [] long h fine c more e = absurd (omega arith)
  items_find (suc n) before (x ∷ xs) long h fine c more e =
      subst (λ (ys : List A). Finds (items_at item before (suc n) c) ys more) (pushed before x xs)
      (finds_on _ _ _ _ _ _ ((each n before h).finds x fine.0 c (flat_map spelled xs ++ more) (e ∙ append_assoc (spelled x) (flat_map spelled xs) more))
      (λ d at. items_find n (before ++ x ∷ []) xs (omega arith) (next n before x h fine.0) fine.1 d more at))

  -- the items that come behind
  pub record Behind (bytes : List ℕ) (n : ℕ) (before all : List A) (rest : List ℕ) : Type 0 where
    pub found : List A
    pub is : all ≡ before ++ found
    pub long : length found ≡ n
    pub fine : AreFine Fine before found
    pub front : bytes ≡ flat_map spelled found ++ rest
    pub after : AreBytes rest

  pub items_yield : (n : ℕ) (before : List A) → Holds n before → (c : Spot) → AreBytes c.rest → Yields (items_at item before n c) (Behind c.rest n before)
  unfolding items_at
  items_yield zero before h c bytes = yields_ok before c _ (record { found = []; is = sym (append-nil before); long = refl; fine = tt; front = refl; after = bytes })
  items_yield (suc n) before h c bytes = yields_on _ _ _ _ ((each n before h).yields c bytes) (λ x d t.
      yields_weaker _ _ _ (items_yield n (before ++ x ∷ []) (next n before x h t.fine) d t.after) (λ all rest b. record {
        found = x ∷ b.found;
        is = b.is ∙ pushed before x b.found;
        long = omega (arith, b.long);
        fine = (t.fine, b.fine);
        front = chained c.rest (spelled x) d.rest (flat_map spelled b.found) rest t.front b.front;
        after = b.after;
      }))

  pub list_format : (least most : ℕ) → most < 2 ^ 16 → ((n : ℕ) → n ≤ most → Holds n []) → IsFormat (list_at least most item) (list_of spelled) (IsListed least most Fine)
  unfolding list_at
  list_format least most fit start = record {
    finds = λ xs h c more e. finds_on _ _ _ _ _ _
        ((count_format least most fit).finds (length xs) (record { low = h.some; high = h.few }) c (flat_map spelled xs ++ more) (e ∙ append_assoc (short (length xs)) (flat_map spelled xs) more))
        (λ d at. items_find (length xs) [] xs refl (start (length xs) h.few) h.fine d more at);
    yields = λ c bytes. yields_on _ _ _ _ ((count_format least most fit).yields c bytes) (λ n d t.
        yields_weaker _ _ _ (items_yield n [] (start n t.fine.high) d t.after) (λ all rest b.
        let same : length all ≡ n = ap length b.is ∙ b.long in
        record {
          fine = record {
            some = omega (arith, same, t.fine.low);
            few = omega (arith, same, t.fine.high);
            fine = subst (AreFine Fine []) (sym b.is) b.fine;
          };
          front = chained c.rest (short (length all)) d.rest (flat_map spelled all) rest (t.front ∙ ap (λ m. short m ++ d.rest) (sym same)) (b.front ∙ ap (λ xs. flat_map spelled xs ++ rest) (sym b.is));
          after = b.after;
        }));
  }

-- ---- items that do not depend on those before them

abbrev pub Anywhere : {A : Type 0} → (A → Type 0) → List A → A → Type 0
Anywhere Fine before x = Fine x

pub record AreListed {A : Type 0} (least most : ℕ) (Fine : A → Type 0) (xs : List A) : Type 0 where
  pub some : least ≤ length xs
  pub few : length xs ≤ most
  pub fine : All Fine xs

pub all_fine : {A : Type 0} (Fine : A → Type 0) (before xs : List A) → AreFine (Anywhere Fine) before xs → All Fine xs
all_fine Fine before [] h = All-nil Fine
all_fine Fine before (x ∷ xs) h = All-cons Fine x xs h.0 (all_fine Fine (before ++ x ∷ []) xs h.1)

pub fine_all : {A : Type 0} (Fine : A → Type 0) (before xs : List A) → All Fine xs → AreFine (Anywhere Fine) before xs
fine_all Fine before [] h = tt
fine_all Fine before (x ∷ xs) h = (All-head Fine x xs h, fine_all Fine (before ++ x ∷ []) xs (All-tail Fine x xs h))

pub plain_list_format : {A : Type 0} (item : Reader A) (spelled : A → List ℕ) (Fine : A → Type 0) (least most : ℕ) → most < 2 ^ 16 → IsFormat item spelled Fine
    → IsFormat (list_at least most (λ _. item)) (list_of spelled) (AreListed least most Fine)
plain_list_format item spelled Fine least most fit f =
    same_format _ _ _ _ _ (list_format (λ _. item) spelled (Anywhere Fine) (λ _ _. Unit {0}) (λ n before _. f) (λ n before x _ _. tt) least most fit (λ n _. tt))
    (λ xs h. record { some = h.some; few = h.few; fine = fine_all Fine [] xs h.fine })
    (λ xs h. record { some = h.some; few = h.few; fine = all_fine Fine [] xs h.fine })
    (λ xs h. refl)
