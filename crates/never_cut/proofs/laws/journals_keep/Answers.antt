-- The laws of journals, from the lemmas on each of their entries.
use Rattle.never_cut.proofs.Common.{EveryJournalTells}
use Rattle.never_cut.proofs.Follows.{other_follows}
use Rattle.never_cut.proofs.Served.{sound_turns, each_event_once}
use Rattle.never_cut.proofs.Settled.{readings_in_order}
use Rattle.never_cut.proofs.SoundStates.{published_bound, sound_after, sound_step}
use Rattle.never_cut.proofs.Stamped.{stamps_by_commits}
use Rattle.never_cut.proofs.Starts.{has_room_after, starts_after}
use Rattle.never_cut.proofs.ThreadStates.{states_by_commits}
use Rattle.never_cut.proofs.laws.journals_keep.Goals as goal

journal_tells : EveryJournalTells
journal_tells program readings first journal start legal = record {
  in_order = readings_in_order program readings first journal start.sound.shape.sources legal;
  each_once = each_event_once program readings first journal (sound_turns program readings first start.sound) legal;
  states = states_by_commits program readings first journal start.sound.shape.threads;
  stamps = stamps_by_commits program readings first journal start.sound.stamps legal;
}

pub returns : goal.returns
returns c = record {
  sound = sound_after;
  step = sound_step;
  positions = published_bound;
  room = has_room_after;
  again = starts_after;
  tells = journal_tells;
  others = other_follows;
}
