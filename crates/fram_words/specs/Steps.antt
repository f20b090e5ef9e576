-- The places and accesses of the code as contracts see them.
use Rattle.fram_words.specs.Places as places
use Rattle.fram_words.specs.declared.place.Place as declared_place
use Rattle.fram_words.specs.declared.place.Place.TheVariants as words
use Rattle.fram_words.specs.declared.place.Step as declared
use Rattle.fram_words.specs.declared.place.Step.TheVariants as steps

-- the place, with the numbers of its task, thread, pipe or source
abbrev pub place_of : declared_place.Place → places.Place
place_of (words.Code task offset) = places.Code task.0 offset
place_of (words.Commit thread) = places.Commit thread.0
place_of (words.Page thread page copy word) = places.Page thread.0 page copy word
place_of (words.Log thread index) = places.Log thread.0 index
place_of (words.Ring pipe index) = places.Ring pipe.0 index
place_of (words.Tail thread) = places.Tail thread.0
place_of (words.Slot thread index) = places.Slot thread.0 index
place_of (words.Ack source) = places.Ack source.0
place_of words.Clock = places.Clock
place_of (words.Src source) = places.Src source.0

-- the access to it
abbrev pub access_of : declared.Step → places.Access
access_of (steps.Load p) = places.Load (place_of p)
access_of (steps.Store p v) = places.Store (place_of p) v
access_of (steps.Exchange p e v) = places.Exchange (place_of p) e v
access_of (steps.Add p n) = places.Add (place_of p) n
