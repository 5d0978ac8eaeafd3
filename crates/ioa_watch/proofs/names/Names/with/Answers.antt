use Rattle.std.proofs.Common.{◌≡◌, ℕ, [], ◌∷◌, false, true, is_some, length, sym, ap, subst, ◌∙◌}
use Rattle.std.proofs.lemmas.List.{length-map, map-append}
use Rattle.ioa_value.specs.Table.{place_from}
use Rattle.ioa_clash.specs.Index.{Adds}
use Rattle.ioa_watch.specs.Names.{shown}
use Rattle.ioa_watch.specs.Placed.{ArePlaced}
use Rattle.ioa_watch.proofs.EntryNames.{no_name_there, with_new, with_there}
use Rattle.ioa_watch.proofs.Placed.{placed_more}
use Rattle.ioa_watch.proofs.names.Names.with.Goals as goal

pub returns-then-is_some : goal.returns-then-is_some
returns-then-is_some c =
    let there : is_some (place_from 0 (shown c.args.self.list.items) c.args.name.now) ≡ true = cc (c.place.ensures, c.is_some.ensures, c.if-is_some.true) in
    with_there (shown c.args.self.list.items) c.args.name.now there

pub invariant_of-result : goal.invariant_of-result
invariant_of-result c =
    let none : is_some (place_from 0 (shown c.args.self.list.items) c.args.name.now) ≡ false = cc (c.place.ensures, c.is_some.ensures, c.if-is_some.false) in
    let long : c.len.result ≡ length (shown c.args.self.list.items) = c.len.ensures ∙ c.args.self.list.ok.0 ∙ sym (length-map c.args.self.list.items (λ n. n.now)) in
    record {
      placed = subst (ArePlaced c.add.new.self) (sym (ap shown c.in_ok-push.ensures.items ∙ map-append (λ n. n.now) c.args.self.list.items (c.args.name ∷ [])))
          (placed_more c.args.self.places c.add.new.self (shown c.args.self.list.items) c.args.name.now c.args.self.placed
          (no_name_there (shown c.args.self.list.items) c.args.name.now none)
          (subst (λ (n : ℕ). Adds c.args.self.places c.args.name.now n c.add.new.self) long c.in_ok-add.ensures));
    }

pub returns : goal.returns
returns c =
    let none : is_some (place_from 0 (shown c.args.self.list.items) c.args.name.now) ≡ false = cc (c.place.ensures, c.is_some.ensures, c.if-is_some.false) in
    ap shown c.in_ok-push.ensures.items ∙ map-append (λ n. n.now) c.args.self.list.items (c.args.name ∷ []) ∙ with_new (shown c.args.self.list.items) c.args.name.now none
