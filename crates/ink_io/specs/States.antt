-- What there is of a source and of a sink between two calls.
use Rattle.std.specs.Prelude.{ℕ, List, Option}

-- a source: the bytes that are left, where it tells them, its calls that failed, and those that were answered with `Ok`
pub record SourceState : Type 0 where
  pub left : Option (List ℕ)
  pub faults : ℕ
  pub reads : ℕ

-- a sink: the bytes that it holds, where it tells them, and its calls that failed
pub record SinkState : Type 0 where
  pub held : Option (List ℕ)
  pub faults : ℕ
