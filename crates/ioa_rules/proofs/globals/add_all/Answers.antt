use Rattle.std.proofs.Common.{map, ◌∷◌, [], refl, sym, append-nil}
use Rattle.std.proofs.lemmas.List.{map-append}
use Rattle.ioa_tree.specs.View.{name_of}
use Rattle.ioa_rules.proofs.GlobalLemmas.{adds-next, adds-fails, adds-all}
use Rattle.ioa_rules.proofs.globals.add_all.Goals as goal

pub loop-name-init : goal.loop-name-init
loop-name-init c = (sym (append-nil c.args.names.now), λ h. h)

pub returns-in_err-add : goal.returns-in_err-add
returns-in_err-add c =
    adds-fails (map name_of) (map-append name_of) c.add.result c.from_residual.result _ c.args.names.now c.loop-name.names
    c.add.new.names c.add.new.names (name_of c.name-item.result ∷ [])
    c.args.added.now c.loop-name.name-index c.name-item.result c.loop-name-test.true c.name-item.is refl c.loop-name.invariant c.in_err-add.was
    c.from_residual.ensures.1 c.add.ensures

pub loop-name-preserved : goal.loop-name-preserved
loop-name-preserved c =
    adds-next (map name_of) (map-append name_of) c.args.names.now c.loop-name.names c.add.new.names (name_of c.name-item.result ∷ [])
    c.args.added.now c.loop-name.name-index c.name-item.result c.loop-name-test.true c.name-item.is refl c.loop-name.invariant c.in_ok-add.ensures

pub returns : goal.returns
returns c = adds-all (map name_of) (map-append name_of) c.args.names.now c.loop-name.names c.args.added.now c.loop-name.name-index
    c.loop-name-test.false c.loop-name.invariant
