-- What workers mean to do.
use Rattle.std.specs.Prelude.{◌≡◌, map}
use Rattle.ioa_value.specs.Actions.{Act}
use Rattle.ioa_value.specs.Plain.{plain}
use Rattle.ioa_compile.specs.Programs.{Prog}
use Rattle.ioa_compile.specs.Sites.{sites_of}
use Rattle.ioa_board.specs.declared.wish.Wish.{Wish}

-- the action that is meant
abbrev pub act_meant : Wish → Act
act_meant w = record { name = w.name.now; vals = map plain w.vals.items }

-- beside its name stand the program's sites of this name
abbrev pub IsWishOf : Prog → Wish → Type 0
IsWishOf p w = w.sites.now ≡ sites_of p w.name.now
