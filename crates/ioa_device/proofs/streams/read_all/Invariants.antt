use Rattle.std.proofs.Common.{◌≡◌, ◌-◌, ◌^◌, vec_len}
use Rattle.std.specs.Io.KnownBytes.{Consumes}
use Rattle.ioa_device.proofs.streams.read_all.Given as goal

abbrev pub invariant-loop-text : goal.invariant-loop-text
invariant-loop-text g l = record {
  passed : g.R.Device.failure_count l.input ≡ g.R.Device.failure_count l.fn.input;
  read : Consumes (g.R.Read.remaining l.fn.input) (g.R.Read.remaining l.input) l.text.items;
}

abbrev pub decreases-loop-text : goal.decreases-loop-text
decreases-loop-text g l = 2 ^ 64 - vec_len l.text
