-- Names are ASCII, so they are UTF-8.
use Rattle.ink_report.proofs.Common.{◌≡◌, ℕ, ◌<◌, true, List, [], ◌∷◌, IsAscii, IsUtf8, IsTrue, length, arith, nat_le, ◌&&◌, list_all, and_parts, nat_tests}
use Rattle.std.proofs.lemmas.Str.{IsUtf8-from_ascii}
use Rattle.std.proofs.lemmas.Str.Ascii.{IsAscii-nil, IsAscii-cons}
use Rattle.task_isa.specs.Names.{is_letter, goes_on_name, is_name}

letter_ascii : (b : ℕ) → is_letter b ≡ true → b < 128
letter_ascii b is = grind (arith, nat_tests)

goes_on_ascii : (b : ℕ) → goes_on_name b ≡ true → b < 128
goes_on_ascii b is = grind (arith, nat_tests)

rest_ascii : (bs : List ℕ) → list_all goes_on_name bs ≡ true → IsAscii bs
rest_ascii [] is = IsAscii-nil
rest_ascii (b ∷ bs) is =
    let parts = and_parts (goes_on_name b) (list_all goes_on_name bs) is in
    IsAscii-cons b bs (goes_on_ascii b parts.0) (rest_ascii bs parts.1)

pub IsUtf8-from_name : (name : List ℕ) → IsTrue (is_name name) → IsUtf8 name
IsUtf8-from_name [] is = IsUtf8-from_ascii [] IsAscii-nil
IsUtf8-from_name (b ∷ bs) is =
    let parts = and_parts (is_letter b && nat_le (length bs) 15) (list_all goes_on_name bs) is in
    let first = and_parts (is_letter b) (nat_le (length bs) 15) parts.0 in
    IsUtf8-from_ascii (b ∷ bs) (IsAscii-cons b bs (letter_ascii b first.0) (rest_ascii bs parts.1))
