-- What is asked for by pieces of words, one after another.
use Rattle.std.specs.Prelude.{Bool, true, List, [], ◌∷◌, Option, Some, None, is_some, if◌then◌else◌}
use Rattle.ink_report.specs.declared.flags.Flags.{Flags}
use Rattle.ink_report.specs.Conditions.{no_flags}
use Rattle.ink_modes.specs.declared.words.Piece.{Piece}
use Rattle.ink_modes.specs.declared.words.Piece.TheVariants.{Named, Journal, Json, Bounds, Image, Seed}
use Rattle.ink_modes.specs.declared.words.Asked.{Asked}

-- nothing was asked for
abbrev pub nothing : Asked
nothing = record { mode = None; flags = no_flags }

-- with these flags, unless it was asked for before
abbrev pub asked_once : Bool → Asked → Flags → Option Asked
asked_once again a flags = if again then None else Some (record a { flags = flags })

-- with one more piece
abbrev pub asked_with : Asked → Piece → Option Asked
asked_with a (Named mode) = elim a.mode [ None ↦ Some (record a { mode = Some mode }) | Some named ↦ None ]
asked_with a (Seed number) = asked_once (is_some a.flags.seed) a (record a.flags { seed = Some number })
asked_with a Journal = asked_once a.flags.journal a (record a.flags { journal = true })
asked_with a Json = asked_once a.flags.json a (record a.flags { json = true })
asked_with a Bounds = asked_once a.flags.bounds a (record a.flags { bounds = true })
asked_with a Image = asked_once a.flags.image a (record a.flags { image = true })

-- with all of these; none where one says nothing
abbrev pub asked_from : Asked → List (Option Piece) → Option Asked
asked_from a [] = Some a
asked_from a (None ∷ rest) = None
asked_from a (Some piece ∷ rest) = elim (asked_with a piece) [ None ↦ None | Some next ↦ asked_from next rest ]
