-- What is left comes out as the record says.
use Rattle.std.proofs.Common.{◌∙◌}
use Rattle.live_account.specs.Kernel.{events_in}
use Rattle.live_words.proofs.Follow.{found}
use Rattle.live_words.proofs.Sounding.{sound, lasts}
use Rattle.live_words.proofs.Standing.{stands, numbers}
use Rattle.live_words.proofs.laws.ends_stand.Goals as goal

pub returns : goal.returns
returns c = λ job r left. record {
  found = found job r left;
  legal = left.account (events_in r) (found job r left);
  ends = record {
    count = left.words.count ∙ left.ends.count;
    stands = stands job r left;
    numbers = numbers job r left;
    sound = sound job r left;
    lasts = lasts job r left;
  };
}
