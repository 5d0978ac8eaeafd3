use Rattle.std.proofs.Common.{map, take}
use Rattle.std.specs.List.{AllZip}
use Rattle.ioa_value.specs.Plain.{number}
use Rattle.ioa_tree.specs.View.{entry_of}
use Rattle.ioa_compose.specs.Held.{member_of}
use Rattle.ioa_compile.specs.Shown.{entry_code}
use Rattle.ioa_compile.specs.Translated.{IsTranslated}
use Rattle.ioa_compile.proofs.entries.compile_entries.Given as goal

abbrev pub invariant-loop-k : goal.invariant-loop-k
invariant-loop-k l =
    AllZip (IsTranslated (member_of l.member) (map number l.slots)) (map entry_of (take l.k l.member.automaton.entries.items)) (map entry_code l.entries.items)
