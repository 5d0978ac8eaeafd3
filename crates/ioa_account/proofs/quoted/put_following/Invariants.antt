use Rattle.std.proofs.Common.{◌≡◌, ◌++◌, ◌-◌}
use Rattle.std.specs.String.{string_bytes}
use Rattle.ioa_value.specs.Lists.{lines}
use Rattle.ioa_account.specs.Quoted.{following, most_following}
use Rattle.ioa_account.proofs.quoted.put_following.Given as goal

-- what is put so far, and what follows of the lines that are left, are all
abbrev pub invariant-loop : goal.invariant-loop
invariant-loop l =
    string_bytes l.text ++ following (most_following - l.counter) (lines l.rest) ≡ string_bytes l.fn.text ++ following most_following (lines l.fn.after)
