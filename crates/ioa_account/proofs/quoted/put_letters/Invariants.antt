use Rattle.std.proofs.Common.{◌≡◌, ◌++◌, IsUtf8, encode_utf8_all, map}
use Rattle.std.specs.Str.{chars}
use Rattle.std.specs.Str.Iter.{chars_rest}
use Rattle.std.specs.String.{string_bytes}
use Rattle.ioa_account.specs.Quoted.{shown}
use Rattle.ioa_account.proofs.quoted.put_letters.Given as goal

-- what is put so far, and the letters that are left, are all
abbrev pub invariant-loop-letter : goal.invariant-loop-letter
invariant-loop-letter l =
    IsUtf8 (chars_rest l.letter-iterator)
    × (string_bytes l.text ++ encode_utf8_all (map shown (chars (chars_rest l.letter-iterator)))
    ≡ string_bytes l.fn.text ++ encode_utf8_all (map shown (chars l.fn.words)))
