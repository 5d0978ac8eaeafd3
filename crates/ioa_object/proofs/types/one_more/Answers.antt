use Rattle.std.proofs.Common.{◌<◌, ◌⊎◌, inl, inr, ◌++◌, ◌∷◌, [], Ok, sym, ap, ◌∙◌, arith}
use Rattle.ioa_value.specs.Shapes.{shape}
use Rattle.ioa_value.specs.Table.{MayFollow}
use Rattle.ioa_object.proofs.Declaring.{no_tag, wrong_tag, no_name, no_form, too_wide, whole, stands, follows}
use Rattle.ioa_bytes.proofs.Readers.{reads_err, built_err, built_ok}
use Rattle.ioa_object.proofs.types.one_more.Goals as goal

pub returns-in_err-tag-clause-read : goal.returns-in_err-tag-clause-read
returns-in_err-tag-clause-read c =
    reads_err _ c.from_residual.result c.in_err-tag.field-0.0 _ _ _ c.from_residual.ensures.1 (λ f q. built_err _ _ f (no_tag c.args.declarations c.args.cursor.now f q)) c.in_err-tag.ensures.read

pub returns-then-tag-lt1-clause-read : goal.returns-then-tag-lt1-clause-read
returns-then-tag-lt1-clause-read c =
    let tag = c.in_ok-tag.tag in
    let past : (tag < 1) ⊎ (3 < tag) = elim c.then-tag-lt1.either as (λ _. (tag < 1) ⊎ (3 < tag)) [ inl h ↦ inl (omega arith) | inr h ↦ inr (omega arith) ] in
    built_err _ _ _ (rw c.place-at.ensures (wrong_tag c.args.declarations c.args.cursor.now tag c.byte.new.self c.in_ok-tag.ensures.read past))

pub returns-in_err-name-clause-read : goal.returns-in_err-name-clause-read
returns-in_err-name-clause-read c =
    reads_err _ c.from_residual-in_err-name.result c.in_err-name.field-0.0 _ _ _ c.from_residual-in_err-name.ensures.1
    (λ f q. built_err _ _ f (no_name c.args.declarations c.args.cursor.now c.in_ok-tag.tag c.byte.new.self c.in_ok-tag.ensures.read (omega arith) (omega arith) f q))
    (rw c.requires.names at c.in_err-name.ensures.read)

pub returns-in_err-form-clause-read : goal.returns-in_err-form-clause-read
returns-in_err-form-clause-read c =
    let second = rw c.requires.names at c.in_ok-name.ensures.read in
    reads_err _ c.from_residual-in_err-form.result c.in_err-form.field-0.0 _ _ _ c.from_residual-in_err-form.ensures.1
    (λ f q. built_err _ _ f (no_form c.args.declarations c.args.cursor.now c.in_ok-tag.tag c.byte.new.self c.in_ok-tag.ensures.read (omega arith) (omega arith) c.in_ok-name.name.now c.new_name.new.cursor second f q))
    (rw (c.in_ok-name.ensures.names, c.requires.names, c.len.ensures.count) at c.in_err-form.ensures.read)

pub width-requires : goal.width-requires
width-requires c =
    let second = rw c.requires.names at c.in_ok-name.ensures.read in
    let third = rw (c.in_ok-name.ensures.names, c.requires.names, c.len.ensures.count) at c.in_ok-form.ensures.read in
    stands c.args.declarations c.args.cursor.now c.in_ok-tag.tag c.byte.new.self c.in_ok-tag.ensures.read (omega arith) (omega arith) c.in_ok-name.name.now c.new_name.new.cursor second
    (shape c.in_ok-form.form) c.form.new.cursor third c.len.ensures.types c.alloc-alloc.ensures.bytes

pub returns-then-width-clause-read : goal.returns-then-width-clause-read
returns-then-width-clause-read c =
    let second = rw c.requires.names at c.in_ok-name.ensures.read in
    let third = rw (c.in_ok-name.ensures.names, c.requires.names, c.len.ensures.count) at c.in_ok-form.ensures.read in
    built_err _ _ _ (rw c.place-at.ensures (too_wide c.args.declarations c.args.cursor.now c.in_ok-tag.tag c.byte.new.self c.in_ok-tag.ensures.read (omega arith) (omega arith) c.in_ok-name.name.now
    c.new_name.new.cursor second (shape c.in_ok-form.form) c.form.new.cursor third (omega (arith, c.width.ensures))))

pub push-requires : goal.push-requires
push-requires c =
    let second = rw c.requires.names at c.in_ok-name.ensures.read in
    let third = rw (c.in_ok-name.ensures.names, c.requires.names, c.len.ensures.count) at c.in_ok-form.ensures.read in
    let d : MayFollow c.args.declarations (record { name = c.in_ok-name.name.now; shape = shape c.in_ok-form.form }) =
    follows c.args.declarations c.args.cursor.now c.in_ok-tag.tag c.byte.new.self c.in_ok-tag.ensures.read (omega arith) (omega arith) c.in_ok-name.name.now c.new_name.new.cursor second
    (shape c.in_ok-form.form) c.form.new.cursor third c.len.ensures.types c.alloc-alloc.ensures.bytes c.requires.room (omega (arith, c.width.ensures)) in
    rw c.in_ok-name-2.ensures.ok d

pub returns-clause-read : goal.returns-clause-read
returns-clause-read c =
    let second = rw c.requires.names at c.in_ok-name.ensures.read in
    let third = rw (c.in_ok-name.ensures.names, c.requires.names, c.len.ensures.count) at c.in_ok-form.ensures.read in
    let all = whole c.args.declarations c.args.cursor.now c.in_ok-tag.tag c.byte.new.self c.in_ok-tag.ensures.read (omega arith) (omega arith) c.in_ok-name.name.now c.new_name.new.cursor second
    (shape c.in_ok-form.form) c.form.new.cursor third (omega (arith, c.width.ensures)) in
    built_ok (λ d. c.args.declarations ++ d ∷ []) _ _ c.form.new.cursor all
    ∙ ap (λ (x : _). Ok (c.args.declarations ++ (record { name = x; shape = shape c.in_ok-form.form }) ∷ [], c.form.new.cursor)) (sym c.in_ok-name-2.ensures.ok)
    ∙ ap (λ t. Ok (t, c.form.new.cursor)) (sym c.in_ok-push.ensures)
