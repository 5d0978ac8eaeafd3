use Rattle.std.proofs.Common.{◌≡◌, drop, map}
use Rattle.ioa_compile.specs.Shown.{entry_code}
use Rattle.ioa_compile.specs.Sites.{code_name}
use Rattle.ioa_watch.specs.Names.{shown, with_names}
use Rattle.ioa_watch.proofs.names.Names.with_entries.Given as goal

abbrev pub invariant-loop-entry : goal.invariant-loop-entry
invariant-loop-entry l =
    with_names (shown l.names.list.items) (map code_name (map entry_code (drop l.entry-index l.entries)))
    ≡ with_names (shown l.fn.self.list.items) (map code_name (map entry_code l.entries))
