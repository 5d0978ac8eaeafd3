-- Rows of JSON objects: what parts one from those before it.
use Rattle.std.specs.Prelude.{◌==◌, ℕ, List, [], codes, if◌then◌else◌}

abbrev pub comma_at : ℕ → List ℕ
comma_at place = if place == 0 then [] else codes ","
