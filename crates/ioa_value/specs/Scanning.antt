-- What stands at the front of a text, as it is read from left to right.
use Rattle.std.specs.Prelude.{ℕ, zero, suc, ℤ, pos, neg_ℤ, Bool, true, false, ◌||◌, ◌==◌, nat_lt, List, [], ◌∷◌, Option, Some, None, if◌then◌else◌, codes}
use Rattle.std.specs.List.{list_all}
use Rattle.std.specs.Char.{digit_value}
use Rattle.std.specs.Option.{option_map, option_map_or, option_or}
use Rattle.std.specs.Str.{bytes_eq}
use Rattle.std.specs.Str.Parse.{digits_value}
use Rattle.ioa_arithmetic.specs.Arithmetic.{fits}
use Rattle.ioa_value.specs.Plain.{Val, Vals, truth, num, name, tuple, items, none, more}
use Rattle.ioa_value.specs.Table.{Table, Shape, truths, numbers, names, fields, sequence, shape_at, types_of, type_name, type_named, constant_named}
use Rattle.ioa_value.specs.Tokens.{after_blanks, first_word, after_first}

-- ---- words

abbrev pub truth_in : List ℕ → Option Val
truth_in word =
    if bytes_eq word (codes "true") then Some (truth true) else (if bytes_eq word (codes "false") then Some (truth false) else None)

-- one decimal digit or more
abbrev pub is_numeral : List ℕ → Bool
is_numeral [] = false
is_numeral (c ∷ cs) = list_all (λ d. nat_lt (digit_value d) 10) (c ∷ cs)

abbrev pub spelled_number : List ℕ → Option ℤ
spelled_number [] = None
spelled_number (c ∷ cs) =
    if c == 45 then (if is_numeral cs then Some (neg_ℤ (pos (digits_value 10 cs))) else None)
    else (if is_numeral (c ∷ cs) then Some (pos (digits_value 10 (c ∷ cs))) else None)

-- the number of 64 bits that the word spells
abbrev pub number_in : List ℕ → Option ℤ
number_in word = option_map_or (λ z. if fits z then Some z else None) (spelled_number word) None

-- the name of this enumeration that the word is
abbrev pub constant_in : Table → ℕ → List ℕ → Option Val
constant_in types ty word =
    option_map_or (λ p. if p.0 == ty then Some (name ty p.1) else None) (constant_named types word) None

-- the value of the first word, and the text after it
abbrev pub at_word : List ℕ → Option Val → Option (Val × List ℕ)
at_word text o = option_map (λ v. (v, after_first text)) o

-- ---- rows of values

-- what follows the mark at the front
abbrev pub after_mark : ℕ → List ℕ → Option (List ℕ)
after_mark mark [] = None
after_mark mark (b ∷ bs) = if b == mark then Some bs else None

-- the mark before the values of a tuple or a sequence
abbrev pub opening : Shape → ℕ
opening truths = 40
opening numbers = 40
opening (names ns) = 40
opening (fields fs) = 40
opening (sequence most of) = 91

-- the mark behind them
abbrev pub closing : Shape → ℕ
closing truths = 41
closing numbers = 41
closing (names ns) = 41
closing (fields fs) = 41
closing (sequence most of) = 93

abbrev pub repeated : ℕ → ℕ → List ℕ
repeated zero ty = []
repeated (suc n) ty = ty ∷ repeated n ty

-- the types of the values in order, of a sequence as many as there can be
abbrev pub row_types : Shape → List ℕ
row_types truths = []
row_types numbers = []
row_types (names ns) = []
row_types (fields fs) = types_of fs
row_types (sequence most of) = repeated most of

-- fewer values are enough
abbrev pub may_be_shorter : Shape → Bool
may_be_shorter truths = false
may_be_shorter numbers = false
may_be_shorter (names ns) = false
may_be_shorter (fields fs) = false
may_be_shorter (sequence most of) = true

-- the value that the values in a row make
abbrev pub made : ℕ → Shape → Vals → Val
made ty s vs = if may_be_shorter s then items ty vs else tuple ty vs

-- no more values: the closing mark, and blanks
abbrev pub ending : Shape → List ℕ → Option (Vals × List ℕ)
ending s text = option_map (λ rest. (none, after_blanks rest)) (after_mark (closing s) text)

-- the end, where fewer values are enough
abbrev pub early_ending : Shape → List ℕ → Option (Vals × List ℕ)
early_ending s text = if may_be_shorter s then ending s text else None

-- the end, where values of these types could follow
abbrev pub ended : Shape → List ℕ → List ℕ → Option (Vals × List ℕ)
ended s [] text = ending s text
ended s (ty ∷ tys) text = early_ending s text

-- a value, and what its followers are
abbrev pub followed : (List ℕ → Option (Vals × List ℕ)) → Option (Val × List ℕ) → Option (Vals × List ℕ)
followed further found = option_map_or (λ p. option_map (λ q. (more p.0 q.0, q.1)) (further p.1)) found None

-- after a value: further values of these types, each after a `,`, up to the end
abbrev pub scan_after : (ℕ → List ℕ → Option (Val × List ℕ)) → Shape → List ℕ → List ℕ → Option (Vals × List ℕ)
scan_after scan s [] text = option_map_or (λ rest. None) (after_mark 44 text) (ended s [] text)
scan_after scan s (ty ∷ tys) text =
    option_map_or (λ rest. followed (λ t. scan_after scan s tys t) (scan ty rest)) (after_mark 44 text) (ended s (ty ∷ tys) text)

-- one value or more of these types
abbrev pub scan_first : (ℕ → List ℕ → Option (Val × List ℕ)) → Shape → List ℕ → List ℕ → Option (Vals × List ℕ)
scan_first scan s [] text = None
scan_first scan s (ty ∷ tys) text = followed (λ t. scan_after scan s tys t) (scan ty text)

-- the values of a tuple or a sequence, after the opening mark
abbrev pub scan_row : (ℕ → List ℕ → Option (Val × List ℕ)) → Shape → List ℕ → Option (Vals × List ℕ)
scan_row scan s text = option_or (early_ending s (after_blanks text)) (scan_first scan s (row_types s) text)

-- the type's name, and the values in marks
abbrev pub scan_made : (ℕ → List ℕ → Option (Val × List ℕ)) → Table → ℕ → Shape → List ℕ → Option (Val × List ℕ)
scan_made scan types ty s text =
    if bytes_eq (first_word text) (type_name types ty)
    then option_map_or (λ rest. option_map (λ q. (made ty s q.0, q.1)) (scan_row scan s rest)) (after_mark (opening s) (after_first text)) None
    else None

-- ---- values

-- the value of a type of this shape, by how values of earlier types are read
abbrev pub scan_shaped : (ℕ → List ℕ → Option (Val × List ℕ)) → Table → ℕ → Option Shape → List ℕ → Option (Val × List ℕ)
scan_shaped scan types ty (Some truths) text = at_word text (truth_in (first_word text))
scan_shaped scan types ty (Some numbers) text = at_word text (option_map num (number_in (first_word text)))
scan_shaped scan types ty (Some (names ns)) text = at_word text (constant_in types ty (first_word text))
scan_shaped scan types ty (Some (fields fs)) text = scan_made scan types ty (fields fs) text
scan_shaped scan types ty (Some (sequence most of)) text = scan_made scan types ty (sequence most of) text
scan_shaped scan types ty None text = None

-- the value of the type at the front, tuples and sequences within each other at most n deep: in a table of types none is deeper than
-- its number
abbrev pub scan_in : ℕ → Table → ℕ → List ℕ → Option (Val × List ℕ)
scan_in zero types ty text = None
scan_in (suc n) types ty text = scan_shaped (λ t rest. scan_in n types t rest) types ty (shape_at types ty) text

-- the value of the type at the front of the text, and the text after it
abbrev pub scan_of : Table → ℕ → List ℕ → Option (Val × List ℕ)
scan_of types ty text = scan_in (suc ty) types ty text

-- the type of which a value is that begins with the word, where there is one
abbrev pub leading_type : Table → List ℕ → ℕ
leading_type types word =
    if bytes_eq word (codes "true") || bytes_eq word (codes "false") then 0
    else option_map_or (λ p. p.0) (constant_named types word) (option_map_or (λ ty. ty) (type_named types word) 1)

-- the value of some type at the front of the text, and the text after it
abbrev pub scan_value : Table → List ℕ → Option (Val × List ℕ)
scan_value types text = scan_of types (leading_type types (first_word text)) text
