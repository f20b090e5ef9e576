-- The lines of entries, each as its word and what stands behind it.
use Rattle.ink_audit.proofs.Common.{◌≡◌, ◌≢◌, ℕ, List, ◌++◌, codes, decimal, refl, sym, ap, ◌∙◌, append_cancel_right, Program, Entry, Push, Refuse, Skip, Tick, Scan, Look, Commit, Release, entry_line, ended, IsEntryOf, IsLineOf, IsNoLine, source_word, thread_word}

-- the line of an entry, but for the line feed
abbrev pub spelled : Program → Entry → List ℕ
spelled program (Push source) = codes "Push " ++ source_word source
spelled program (Refuse source) = codes "Refuse " ++ source_word source
spelled program (Skip source) = codes "Skip " ++ source_word source
spelled program (Tick by) = codes "Tick " ++ decimal by
spelled program Scan = codes "Scan"
spelled program (Look thread) = codes "Look " ++ thread_word program thread
spelled program (Commit thread) = codes "Commit " ++ thread_word program thread
spelled program (Release thread) = codes "Release " ++ thread_word program thread

pub line_spelled : (program : Program) (e : Entry) → entry_line program e ≡ ended (spelled program e)
line_spelled program (Push source) = refl
line_spelled program (Refuse source) = refl
line_spelled program (Skip source) = refl
line_spelled program (Tick by) = refl
line_spelled program Scan = refl
line_spelled program (Look thread) = refl
line_spelled program (Commit thread) = refl
line_spelled program (Release thread) = refl

pub spelled_line : (program : Program) (e : Entry) (line : List ℕ) → IsLineOf program e line → line ≡ spelled program e
spelled_line program e line is = sym (append_cancel_right (spelled program e) line (codes "\n") (sym (line_spelled program e) ∙ is.same))

pub line_of : (program : Program) (e : Entry) (line : List ℕ) → IsEntryOf program e → line ≡ spelled program e → IsLineOf program e line
line_of program e line is same = record { entry = is; same = line_spelled program e ∙ ap ended (sym same) }

-- a line that begins with the word of no entry
pub no_word : (program : Program) (line : List ℕ) →
    ((rest : List ℕ) → line ≢ codes "Push " ++ rest) → ((rest : List ℕ) → line ≢ codes "Refuse " ++ rest) → ((rest : List ℕ) → line ≢ codes "Skip " ++ rest) →
    ((rest : List ℕ) → line ≢ codes "Tick " ++ rest) → ((rest : List ℕ) → line ≢ codes "Look " ++ rest) → ((rest : List ℕ) → line ≢ codes "Commit " ++ rest) →
    ((rest : List ℕ) → line ≢ codes "Release " ++ rest) → line ≢ codes "Scan" → IsNoLine program line
no_word program line push refuse skip tick look commit release scan (Push source) is = push (source_word source) (spelled_line program (Push source) line is)
no_word program line push refuse skip tick look commit release scan (Refuse source) is = refuse (source_word source) (spelled_line program (Refuse source) line is)
no_word program line push refuse skip tick look commit release scan (Skip source) is = skip (source_word source) (spelled_line program (Skip source) line is)
no_word program line push refuse skip tick look commit release scan (Tick by) is = tick (decimal by) (spelled_line program (Tick by) line is)
no_word program line push refuse skip tick look commit release scan Scan is = scan (spelled_line program Scan line is)
no_word program line push refuse skip tick look commit release scan (Look thread) is = look (thread_word program thread) (spelled_line program (Look thread) line is)
no_word program line push refuse skip tick look commit release scan (Commit thread) is = commit (thread_word program thread) (spelled_line program (Commit thread) line is)
no_word program line push refuse skip tick look commit release scan (Release thread) is = release (thread_word program thread) (spelled_line program (Release thread) line is)
