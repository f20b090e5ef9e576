-- The outputs of a thread, and those of one commit.
use Rattle.std.specs.Prelude.{◌≡◌, ℕ, ◌<◌, ◌==◌, List, length, map, filter, slice_index}
use Rattle.ink_base.specs.declared.output.Output.{Output}

-- those of a thread, in order
abbrev pub outputs_in : ℕ → List Output → List Output
outputs_in t outputs = filter (λ (o : Output). o.thread.0 == t) outputs

-- what a thread puts out at a commit
abbrev pub stamped : ℕ → ℕ → List ℕ → List Output
stamped stamp t outs = map (λ value. record { stamp = stamp; thread = record { 0 = t }; value = value }) outs

-- a number for each thread that may be: how many outputs it has
abbrev pub Counts : List ℕ → List Output → Type 0
Counts counts outputs = (t : ℕ) → t < 256 → slice_index counts t ≡ length (outputs_in t outputs)
