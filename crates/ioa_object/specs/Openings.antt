-- What stands of an entry before its code, without the memory that holds it.
use Rattle.std.specs.Prelude.{map}
use Rattle.std.specs.String.{string_bytes}
use Rattle.ioa_value.specs.Plain.{plain}
use Rattle.ioa_value.specs.Positions.{domain_of}
use Rattle.ioa_object.specs.Reading.{Opening}
use Rattle.ioa_object.specs.declared.components.Front.{Front}

abbrev pub opening : Front → Opening
opening f = record { kind = f.kind; name = string_bytes f.name; positions = map domain_of f.positions.items; consts = map plain f.consts.items }
