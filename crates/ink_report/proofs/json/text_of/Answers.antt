use Rattle.ink_report.proofs.Common.{Result, Ok, Err, MatchResult, IsOk, rules}
use Rattle.ink_report.proofs.AsciiNames.{IsUtf8-from_name}
use Rattle.ink_report.proofs.json.text_of.Goals as goal

-- an answer that can't be an error
never_err : {T E : Type 0} (r : Result T E) (P : T → Type 0) (Q : E → Type 0) → MatchResult r P Q → ((e : E) → Q e → ⊥) → IsOk r
never_err (Ok x) P Q h never = search rules
never_err (Err e) P Q h never = absurd (never e h)

pub unwrap-requires : goal.unwrap-requires
unwrap-requires c =
    never_err c.from_utf8.result _ _ c.from_utf8.ensures.cases
    (λ e refused. refused.0 (rw c.as_bytes.ensures.bytes (IsUtf8-from_name c.args.name.now c.as_bytes.ensures.name)))
