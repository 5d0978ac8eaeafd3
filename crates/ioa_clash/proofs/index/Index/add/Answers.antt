use Rattle.std.proofs.Common.{◌≡◌, ℕ, ◌<◌, ◌+◌, ◌++◌, [], ◌∷◌, List, Option, length, Some, None, cond, refl, sym, ap, ◌∙◌, arith}
use Rattle.std.specs.BTreeMap.{get_by_text}
use Rattle.std.specs.Str.{bytes_eq}
use Rattle.std.specs.String.{string_bytes}
use Rattle.std.proofs.lemmas.List.{length-map}
use Rattle.std.proofs.lemmas.Map.Text.{btree_map_updates_text}
use Rattle.std.proofs.lemmas.Option.{slice_get_within, slice_get-get_or}
use Rattle.std.proofs.lemmas.Slice.Eq.{bytes_eq-Decides}
use Rattle.ioa_clash.specs.declared.index.Row.{Row}
use Rattle.ioa_clash.specs.Rows.{names_of, number_of}
use Rattle.ioa_clash.specs.Index.{items_of}
use Rattle.ioa_clash.proofs.RowLemmas.{found, missing, first-item, names-set, items-set, names-more, items-more, numbered-more}
use Rattle.ioa_clash.proofs.index.Index.add.Goals as goal

pub index_mut-requires : goal.index_mut-requires
index_mut-requires g c =
    let rows = c.args.self.now.rows.items in
    let name = c.args.name.now in
    let known : number_of 0 (names_of rows) name ≡ Some c.in-Some.number = sym (c.args.self.now.numbered name) ∙ sym c.get.ensures.value ∙ sym c.in-Some.ensures in
    let w = found 0 rows name c.in-Some.number known in
    let within = slice_get_within rows w.place w.row w.here in
    let is = w.is in
    omega arith

pub invariant_of-self : goal.invariant_of-self
invariant_of-self g c =
    let rows = c.args.self.now.rows.items in
    let name = c.args.name.now in
    let row = c.index_mut.result.now in
    let known : number_of 0 (names_of rows) name ≡ Some c.in-Some.number = sym (c.args.self.now.numbered name) ∙ sym c.get.ensures.value ∙ sym c.in-Some.ensures in
    let w = found 0 rows name c.in-Some.number known in
    let within = slice_get_within rows w.place w.row w.here in
    let is = w.is in
    let less : c.in-Some.number < length rows = omega arith in
    let here = slice_get-get_or rows c.in-Some.number row less ∙ ap (λ r. Some r) (sym c.index_mut.ensures.value) in
    record { numbered = λ x. c.args.self.now.numbered x ∙ ap (λ ms. number_of 0 ms x) (sym (names-set rows c.in-Some.number row _ here refl)) }

pub returns-in_ok-push-in-Some : goal.returns-in_ok-push-in-Some
returns-in_ok-push-in-Some g c =
    let rows = c.args.self.now.rows.items in
    let name = c.args.name.now in
    let row = c.index_mut.result.now in
    let known : number_of 0 (names_of rows) name ≡ Some c.in-Some.number = sym (c.args.self.now.numbered name) ∙ sym c.get.ensures.value ∙ sym c.in-Some.ensures in
    let w = found 0 rows name c.in-Some.number known in
    let within = slice_get_within rows w.place w.row w.here in
    let is = w.is in
    let less : c.in-Some.number < length rows = omega arith in
    let here = slice_get-get_or rows c.in-Some.number row less ∙ ap (λ r. Some r) (sym c.index_mut.ensures.value) in
    let first : c.in-Some.number ≡ 0 + c.in-Some.number = omega arith in
    λ x. items-set 0 rows c.in-Some.number row _ name x c.args.item (known ∙ ap (λ n. Some n) first) here refl c.in_ok-push-in-Some.ensures.items

pub invariant_of-self-in-None : goal.invariant_of-self-in-None
invariant_of-self-in-None g c =
    let rows = c.args.self.now.rows.items in
    let name = c.args.name.now in
    let row : Row _ = record { name = c.in_ok-to_string-in-None.field-0; items = c.push-in-None.new.self } in
    let own : List ℕ = string_bytes c.in_ok-to_string-in-None.field-0 in
    let key : List ℕ = string_bytes c.in_ok-to_string-in-None-2.field-0 in
    let named : own ≡ name = c.in_ok-to_string-in-None.ensures.ok in
    let keyed : key ≡ own = c.in_ok-to_string-in-None-2.ensures.ok ∙ sym named in
    let none : number_of 0 (names_of rows) own ≡ None = ap (number_of 0 (names_of rows)) named ∙ sym (c.args.self.now.numbered name) ∙ sym c.get.ensures.value ∙ sym c.in-None.ensures in
    let size = length-map rows (λ r. string_bytes r.name) in
    let is = c.len-number.ensures in
    let number : c.len-number.result ≡ 0 + length (names_of rows) = omega arith in
    let old : List ℕ → Option ℕ = get_by_text c.args.self.now.numbers in
    let names = ap names_of (c.push_reserved.ensures.items ∙ ap (λ l. l ++ row ∷ []) c.in_ok-reserve-in-None.ensures.items) ∙ names-more rows row in
    record {
      numbered = λ x.
          btree_map_updates_text key c.args.self.now.numbers c.insert.new.self (Some c.len-number.result) c.in_ok-insert-in-None.ensures.updates x
          ∙ ap (λ m. cond (bytes_eq m x) (Some c.len-number.result) (old x)) keyed
          ∙ ap (λ n. cond (bytes_eq own x) (Some n) (old x)) number
          ∙ ap (λ o. cond (bytes_eq own x) (Some (0 + length (names_of rows))) o) (c.args.self.now.numbered x)
          ∙ sym (numbered-more 0 (names_of rows) own x none)
          ∙ ap (λ ms. number_of 0 ms x) (sym names);
    }

pub returns-in_ok-insert-in-None : goal.returns-in_ok-insert-in-None
returns-in_ok-insert-in-None g c =
    let rows = c.args.self.now.rows.items in
    let name = c.args.name.now in
    let row : Row _ = record { name = c.in_ok-to_string-in-None.field-0; items = c.push-in-None.new.self } in
    let own : List ℕ = string_bytes c.in_ok-to_string-in-None.field-0 in
    let named : own ≡ name = c.in_ok-to_string-in-None.ensures.ok in
    let known : number_of 0 (names_of rows) name ≡ None = sym (c.args.self.now.numbered name) ∙ sym c.get.ensures.value ∙ sym c.in-None.ensures in
    let none : number_of 0 (names_of rows) own ≡ None = ap (number_of 0 (names_of rows)) named ∙ known in
    let all = c.push_reserved.ensures.items ∙ ap (λ l. l ++ row ∷ []) c.in_ok-reserve-in-None.ensures.items in
    let items = c.in_ok-push-in-None.ensures.items ∙ ap (λ l. l ++ c.args.item ∷ []) c.new-items.ensures.items in
    λ x. ap (λ rs. items_of rs x) all ∙ items-more 0 rows row x none
    ∙ ap (λ m. cond (bytes_eq m x) row.items.items (items_of rows x)) named
    ∙ ap (λ l. cond (bytes_eq name x) l (items_of rows x)) items
    ∙ first-item (bytes_eq name x) (items_of rows x) c.args.item (λ q. ap (items_of rows) (sym ((bytes_eq-Decides name x).0 q)) ∙ missing 0 rows name known)
