use Rattle.std.proofs.Common.{◌≡◌, Ok, map, sym, ap, ◌∙◌}
use Rattle.ioa_value.specs.Plain.{plain}
use Rattle.ioa_value.specs.Positions.{domain_of}
use Rattle.ioa_value.specs.Table.{contains}
use Rattle.ioa_compile.specs.Shown.{entry_code}
use Rattle.ioa_object.specs.Reading.{opening_at}
use Rattle.ioa_object.proofs.Entries.{opening_format}
use Rattle.ioa_object.proofs.Formats.{yielded}
use Rattle.ioa_object.proofs.Names.{named_alike}
use Rattle.ioa_object.proofs.PartFormats.{own_types}
use Rattle.ioa_bytes.proofs.Readers.{reads_err, then_err, then_ok, name_free, name_taken}
use Rattle.ioa_object.proofs.components.front_of.Goals as goal

pub returns-then-is_named-clause-read : goal.returns-then-is_named-clause-read
unfolding opening_at
returns-then-is_named-clause-read c =
    then_ok _ _ _ c.in_ok-kind.ensures
    ∙ then_err _ _ _ (name_taken (contains (map (λ e. e.name) (map entry_code c.args.before.now))) c.kind.new.cursor c.in_ok-name.name.text.now c.in_ok-name.name.at c.name.new.self c.in_ok-name.ensures.read
    (named_alike entry_code (λ e. e.name) c.args.before.now _ _ _ c.is_named.ensures c.if-is_named.true))

pub returns-in_err-positions-clause-read : goal.returns-in_err-positions-clause-read
unfolding opening_at
returns-in_err-positions-clause-read c =
    let free = name_free (contains (map (λ e. e.name) (map entry_code c.args.before.now))) c.kind.new.cursor c.in_ok-name.name.text.now c.in_ok-name.name.at c.name.new.self c.in_ok-name.ensures.read
    (named_alike entry_code (λ e. e.name) c.args.before.now _ _ _ c.is_named.ensures c.if-is_named.false) in
    reads_err _ c.from_residual-in_err-positions.result c.in_err-positions.field-0.0 _ _ _ c.from_residual-in_err-positions.ensures.1
    (λ f q. then_ok _ _ _ c.in_ok-kind.ensures ∙ then_ok _ _ _ free ∙ then_err _ _ f q) c.in_err-positions.ensures

pub returns-in_err-consts-clause-read : goal.returns-in_err-consts-clause-read
unfolding opening_at
returns-in_err-consts-clause-read c =
    let free = name_free (contains (map (λ e. e.name) (map entry_code c.args.before.now))) c.kind.new.cursor c.in_ok-name.name.text.now c.in_ok-name.name.at c.name.new.self c.in_ok-name.ensures.read
    (named_alike entry_code (λ e. e.name) c.args.before.now _ _ _ c.is_named.ensures c.if-is_named.false) in
    reads_err _ c.from_residual-in_err-consts.result c.in_err-consts.field-0.0 _ _ _ c.from_residual-in_err-consts.ensures.1
    (λ f q. then_ok _ _ _ c.in_ok-kind.ensures ∙ then_ok _ _ _ free ∙ then_ok _ _ _ c.in_ok-positions.ensures ∙ then_err _ _ f q) c.in_err-consts.ensures

pub returns : goal.returns
unfolding opening_at
returns c =
    let before = map entry_code c.args.before.now in
    let d = c.values.new.cursor in
    let ds = map domain_of c.in_ok-positions.positions.items in
    let consts = map plain c.in_ok-consts.consts.items in
    let free = name_free (contains (map (λ e. e.name) before)) c.kind.new.cursor c.in_ok-name.name.text.now c.in_ok-name.name.at c.name.new.self c.in_ok-name.ensures.read
    (named_alike entry_code (λ e. e.name) c.args.before.now _ _ _ c.is_named.ensures c.if-is_named.false) in
    let read : opening_at c.args.types.now before c.args.cursor.now ≡ Ok (record { kind = c.in_ok-kind.kind; name = c.in_ok-name.name.text.now; positions = ds; consts = consts }, d) =
    then_ok _ _ _ c.in_ok-kind.ensures ∙ then_ok _ _ _ free ∙ then_ok _ _ _ c.in_ok-positions.ensures ∙ then_ok _ _ _ c.in_ok-consts.ensures in
    record {
      typed = own_types c.args.types.now consts (yielded _ _ _ d ((opening_format c.args.types.now c.requires before).yields c.args.cursor.now c.alloc-alloc.ensures.bytes) read).fine.consts.fine;
      read = read ∙ ap (λ x. Ok (record { kind = c.in_ok-kind.kind; name = x; positions = ds; consts = consts }, d)) (sym c.in_ok-text.ensures);
    }
