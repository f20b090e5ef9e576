-- How many of the packets up to a number are Data.
use Rattle.ink_radio.proofs.Common.{◌≡◌, ℕ, ◌+◌, ◌<◌, true, false, List, length, take, count_by, slice_get, sym, ap, ◌∙◌}
use Rattle.std.proofs.lemmas.List.Sums.{count_by_more_yes, count_by_more_no}
use Rattle.std.proofs.lemmas.Option.{slice_get-get_or}
use Rattle.ink_radio.specs.declared.packet.Packet.{Packet}
use Rattle.ink_radio.specs.declared.packet.Packet.TheVariants.{Ack}
use Rattle.ink_radio.specs.Radio.{is_data}
use Rattle.ink_radio.specs.kept.Counting.{has_data}

pub data_more : (air : List Packet) (n : ℕ) → n < length air → has_data (slice_get air n) ≡ true → count_by is_data (take (n + 1) air) ≡ count_by is_data (take n air) + 1
data_more air n lt is = count_by_more_yes is_data air n (Ack 0) lt (sym (ap has_data (slice_get-get_or air n (Ack 0) lt)) ∙ is)

pub other_more : (air : List Packet) (n : ℕ) → n < length air → has_data (slice_get air n) ≡ false → count_by is_data (take (n + 1) air) ≡ count_by is_data (take n air)
other_more air n lt is = count_by_more_no is_data air n (Ack 0) lt (sym (ap has_data (slice_get-get_or air n (Ack 0) lt)) ∙ is)
