use Rattle.ink_radio.proofs.Common.{◌≡◌, take, count_by}
use Rattle.ink_radio.specs.Radio.{is_data}
use Rattle.ink_radio.proofs.state.data_count.Given as goal

abbrev pub invariant-loop-number : goal.invariant-loop-number
invariant-loop-number l = l.count ≡ count_by is_data (take l.number l.air)
