-- The registers of a thread's writes, as the code has them.
use Rattle.std.specs.Prelude.{◌≡◌, ◌<◌, ◌==◌, Bool, true, not, refl}
use Rattle.thread_state.specs.declared.copying.Copying as declared
use Rattle.thread_state.specs.declared.copying.Copying.TheVariants as copies
use Rattle.thread_state.specs.Pages.{Copying, Loading, Storing}

-- how far a copying is, as contracts see it
abbrev pub copying_in : declared.Copying → Copying
copying_in (copies.Loading k) = Loading k
copying_in (copies.Storing k v) = Storing k v

-- and back
abbrev pub copying_out : Copying → declared.Copying
copying_out (Loading k) = copies.Loading k
copying_out (Storing k v) = copies.Storing k v

-- the code has no state of a copy but these
pub copying_out-copying_in : (c : declared.Copying) → copying_out (copying_in c) ≡ c
copying_out-copying_in (copies.Loading k) = refl
copying_out-copying_in (copies.Storing k v) = refl

-- the word is one of a page
abbrev pub IsInPage : declared.Copying → Type 0
IsInPage (copies.Loading k) = k < 8
IsInPage (copies.Storing k v) = k < 8

-- whether the copying goes on after its next access
abbrev pub goes_on : Copying → Bool
goes_on (Loading k) = true
goes_on (Storing k v) = not (k == 7)
