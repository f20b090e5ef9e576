-- The names that several proofs of this crate cite, passed on from one place. Declares nothing.
pub use Rattle.std.proofs.Common.{◌≡◌, ◌≢◌, ◌⊎◌, inl, inr, ℕ, zero, suc, ◌+◌, ◌^◌, ◌<◌, ◌≤◌, min, max, Bool, true, false, cond, eqb, ltb, List, [], ◌∷◌, ◌++◌, length, map, get_or, take, drop, fold, count_by, slice_get, All, Option, Some, None, IfSome, unwrap_or, option_map, refl, sym, ap, ap₂, subst, ◌∙◌, append_assoc, arith}
