-- The name of an accepted plan is a text.
use Rattle.std.proofs.Common.{◌≡◌, ◌<◌, ℕ, true, ◌&&◌, List, [], ◌∷◌, length, nat_le, arith}
use Rattle.std.proofs.lemmas.Bool.{and_parts}
use Rattle.std.proofs.lemmas.Bool.Decides.{nat_tests}
use Rattle.std.proofs.lemmas.Str.{IsUtf8-from_ascii}
use Rattle.std.proofs.lemmas.Str.Ascii.{IsAscii-cons, IsAscii-nil}
use Rattle.std.specs.List.{list_all}
use Rattle.std.specs.Str.{IsAscii, IsUtf8}
use Rattle.vc_plan.specs.KeptLimits.{IsName}
use Rattle.vc_plan.specs.Limits.{begins_with_letter, is_name_byte}

byte_is_ascii : (b : ℕ) → is_name_byte b ≡ true → b < 128
byte_is_ascii b is = grind (arith, nat_tests)

bytes_are_ascii : (bs : List ℕ) → list_all is_name_byte bs ≡ true → IsAscii bs
bytes_are_ascii [] all = IsAscii-nil
bytes_are_ascii (b ∷ bs) all =
    let both = and_parts (is_name_byte b) (list_all is_name_byte bs) all in
    IsAscii-cons b bs (byte_is_ascii b both.0) (bytes_are_ascii bs both.1)

pub name_is_text : (name : List ℕ) → IsName name → IsUtf8 name
name_is_text name is =
    let rest = (and_parts (begins_with_letter name) (nat_le (length name) 16 && list_all is_name_byte name) is).1 in
    IsUtf8-from_ascii name (bytes_are_ascii name (and_parts (nat_le (length name) 16) (list_all is_name_byte name) rest).1)
