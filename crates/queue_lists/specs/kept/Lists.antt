-- What the room for the lists keeps.
use Rattle.std.specs.Prelude.{◌≡◌, ℕ, ◌≤◌, List, []}
use Rattle.ink_base.specs.declared.accept.Accept.{Accept}
use Rattle.live_account.specs.declared.record.Refusal.{Refusal}

-- the lists are empty, and those of the queues have room for so many
pub record IsEmptyRoom (queues : ℕ) (accepted : List (List Accept)) (accepted_room : ℕ) (charges : List (List ℕ)) (charges_room : ℕ) (refused : List Refusal) : Type 0 where
  pub no_events : accepted ≡ []
  pub no_charges : charges ≡ []
  pub none_refused : refused ≡ []
  pub for_events : queues ≤ accepted_room
  pub for_charges : queues ≤ charges_room
