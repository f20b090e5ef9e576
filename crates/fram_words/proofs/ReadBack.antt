-- What is read from the word of a value is the value.
use Rattle.std.proofs.Common.{◌≡◌, ◌≢◌, ℕ, ◌+◌, ◌-◌, ◌*◌, ◌/◌, ◌%◌, ◌^◌, ◌<◌, Option, Some, None, arith, refl, ap, ◌∙◌}
use Rattle.std.proofs.lemmas.Bool.{ne_eqb, eq-eqb}
use Rattle.ink_base.specs.declared.ids.TaskId.{TaskId}
use Rattle.ink_base.specs.declared.event.Origin.{Origin}
use Rattle.ink_base.specs.declared.event.Origin.TheVariants as origins
use Rattle.ink_base.specs.declared.output.Output.{Output}
use Rattle.fram_words.specs.Held.{next_word, running_of, origin_word, origin_of, HasOriginBits, due_word, due_of, output_word, output_of, HasOutputBits, src_word, src_of}

-- one more than a number is the word of something, and one less than the word is the number
some_more : (n : ℕ) → n + 1 ≢ 0
some_more n e = absurd (omega arith)

back_again : (n : ℕ) → n + 1 - 1 ≡ n
back_again n = omega arith

pub running_of-next_word : (running : Option TaskId) → running_of (next_word running) ≡ running
running_of-next_word None = refl
running_of-next_word (Some task) = rw (ne_eqb (task.0 + 1) 0 (some_more task.0)) (ap (λ (k : ℕ). Some (record { 0 = k })) (back_again task.0))

pub due_of-due_word : (due : Option ℕ) → due_of (due_word due) ≡ due
due_of-due_word None = refl
due_of-due_word (Some due) = rw (ne_eqb (due + 1) 0 (some_more due)) (ap (λ (k : ℕ). Some k) (back_again due))

pub origin_of-origin_word : (o : Origin) → HasOriginBits o → origin_of (origin_word o) ≡ o
origin_of-origin_word (origins.Source source count) h =
    let word : ℕ = 1 * 2 ^ 56 + source.0 * 2 ^ 16 + count in
    let first : source.0 < 2 ^ 8 = h.0 in
    let second : count < 2 ^ 8 = h.1 in
    let kind : word / 2 ^ 56 ≡ 1 = omega arith in
    let one : word / 2 ^ 16 % 2 ^ 8 ≡ source.0 = omega arith in
    let two : word % 2 ^ 8 ≡ count = omega arith in
    rw (eq-eqb (word / 2 ^ 56) 1 kind)
    (ap (λ (k : ℕ). origins.Source (record { 0 = k }) (word % 2 ^ 8)) one ∙ ap (λ (k : ℕ). origins.Source source k) two)
origin_of-origin_word (origins.Pipe pipe item) h =
    let word : ℕ = 2 * 2 ^ 56 + pipe.0 * 2 ^ 32 + item in
    let first : pipe.0 < 2 ^ 8 = h.0 in
    let second : item < 2 ^ 32 = h.1 in
    let kind : word / 2 ^ 56 ≡ 2 = omega arith in
    let other : word / 2 ^ 56 ≢ 1 = λ e. absurd (omega arith) in
    let one : word / 2 ^ 32 % 2 ^ 8 ≡ pipe.0 = omega arith in
    let two : word % 2 ^ 32 ≡ item = omega arith in
    rw (ne_eqb (word / 2 ^ 56) 1 other, eq-eqb (word / 2 ^ 56) 2 kind)
    (ap (λ (k : ℕ). origins.Pipe (record { 0 = k }) (word % 2 ^ 32)) one ∙ ap (λ (k : ℕ). origins.Pipe pipe k) two)
origin_of-origin_word (origins.Timer timer deadline) h =
    let word : ℕ = 3 * 2 ^ 56 + timer.0 * 2 ^ 48 + deadline in
    let first : timer.0 < 2 ^ 8 = h.0 in
    let second : deadline < 2 ^ 48 = h.1 in
    let kind : word / 2 ^ 56 ≡ 3 = omega arith in
    let other : word / 2 ^ 56 ≢ 1 = λ e. absurd (omega arith) in
    let another : word / 2 ^ 56 ≢ 2 = λ e. absurd (omega arith) in
    let one : word / 2 ^ 48 % 2 ^ 8 ≡ timer.0 = omega arith in
    let two : word % 2 ^ 48 ≡ deadline = omega arith in
    rw (ne_eqb (word / 2 ^ 56) 1 other, ne_eqb (word / 2 ^ 56) 2 another)
    (ap (λ (k : ℕ). origins.Timer (record { 0 = k }) (word % 2 ^ 48)) one ∙ ap (λ (k : ℕ). origins.Timer timer k) two)

pub output_of-output_word : (o : Output) → HasOutputBits o → output_of o.thread (output_word o) ≡ o
output_of-output_word o h =
    let stamp : output_word o / 2 ^ 32 ≡ o.stamp = omega (arith, h.stamp, h.value) in
    let value : output_word o % 2 ^ 32 ≡ o.value = omega (arith, h.stamp, h.value) in
    rw (stamp, value) refl

pub src_of-src_word : (accepted next : ℕ) → accepted < 2 ^ 32 → src_of (src_word accepted next) ≡ record { accepted = accepted; next = next }
src_of-src_word accepted next lt =
    let low : src_word accepted next % 2 ^ 32 ≡ accepted = omega arith in
    let high : src_word accepted next / 2 ^ 32 ≡ next = omega arith in
    rw (low, high) refl
