-- What is read of a file.
use Rattle.std.specs.Prelude.{ℕ, ◌+◌, List, if◌then◌else◌, take}
use Rattle.ioa_serving.specs.Headline.{begins_object}

-- of an object all, of anything else one byte past the limit at most
abbrev pub read_of : ℕ → List ℕ → List ℕ
read_of limit all = if begins_object all then all else take (limit + 1) all
