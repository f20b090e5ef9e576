use Rattle.queue_lists.proofs.Ends.{every_account, have_places, have_room}
use Rattle.queue_lists.proofs.Placed.{are_events, is_numbered, is_of_entries}
use Rattle.queue_lists.proofs.Settling.{are_refusals, settles}
use Rattle.queue_lists.proofs.laws.gathered_are_accounted.Goals as goal

pub returns : goal.returns
returns c = record {
  fits = λ job srcs lists rooms e room. (have_places e, have_room e rooms room);
  accounts = λ job srcs lists e i known. every_account e i known;
  numbers = λ job r srcs lists e g i known. is_numbered e g i known;
  entries = λ job r srcs lists e g t there. is_of_entries e g t there;
  events = λ job r srcs lists e g turns t there. are_events e g turns t there;
  refusals = λ job r srcs lists e g turns. are_refusals e g turns;
  settled = λ job r srcs lists e g in_time i known. settles e g i known (in_time i known);
}
