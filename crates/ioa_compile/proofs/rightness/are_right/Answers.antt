use Rattle.std.proofs.Common.{◌↔◌, IsTrue, map, not, arith}
use Rattle.std.proofs.lemmas.Bool.{and_parts}
use Rattle.std.proofs.lemmas.List.{length-map}
use Rattle.std.proofs.lemmas.Result.{IfOk-weaker}
use Rattle.ioa_value.specs.Names.{is_name}
use Rattle.ioa_value.specs.Table.{all_names, contains}
use Rattle.ioa_value.specs.declared.limits.TheConstants.{LIMITS}
use Rattle.ioa_compile.specs.Given.{prog_of}
use Rattle.ioa_compile.specs.Tables.{AreFew, AreMembers}
use Rattle.ioa_compile.proofs.rightness.are_right.Goals as goal

pub returns : goal.returns
returns c =
    let p = prog_of c.args.tables.now in
    let hidden = c.hides_outputs.ensures.0 c.if-not-hides_outputs.false in
    let long = length-map p.members (λ m. m.name) in
    let named = and_parts (is_name p.name) (not (contains (all_names p.types) p.name)) (cc (c.is_well_named.ensures.well_named, c.if-not-is_well_named.false)) in
    IfOk-weaker c.are_members.result (λ b. IsTrue b ↔ (AreFew LIMITS.components (map (λ m. m.name) p.members) × AreMembers p.types p.members)) _
    (λ b h. (
      λ yes. let k = h.0 yes in record {
        types = c.is_well_named.ensures.types;
        legal = named.0;
        apart = named.1;
        some_members = omega (arith, long, k.0.0);
        few_members = omega (arith, long, k.0.1);
        names = k.0.2;
        members = k.1;
        compatible = tt;
        few_hidden = hidden.0;
        hidden = hidden.1;
        outputs = hidden.2;
      },
      λ r. h.1 ((omega (arith, long, r.some_members), omega (arith, long, r.few_members), r.names), r.members),
    ))
    (rw c.deref.ensures.value at c.are_members.ensures)
