-- What a thread's words say of the timers, after timers were set and one was served.
use Rattle.task_run.proofs.Common.{◌≡◌, ◌≢◌, ℕ, ◌+◌, ◌<◌, Bool, true, false, List, [], ◌∷◌, length, Option, Some, None, arith, refl, ap, ◌∙◌, sym, inl, inr, length-set, ◌==◌, ◌&&◌, nat_lt, if◌then◌else◌, slice_set, slice_index_or, eq-eqb, ne_eqb, lt-ltb, get_or-set_same, get_or-set_other, fun_ext, cases_Bool, cases_eq, due_word, after_service, Program, TimerSet, timer_def, TimerModel, no_timer, moved_on, next_due, set_by, with_timers, changed, due_with, period_by, period_with}
use Rattle.ink_base.specs.declared.event.Origin.TheVariants as origins
use Rattle.ink_base.specs.declared.ids.TimerId.{TimerId}
use Rattle.task_run.proofs.SentItems.{changed_same, changed_other}

-- the timer is one of thread t
abbrev pub is_owner : Program → ℕ → ℕ → Bool
is_owner program t j = nat_lt j (length program.timers) && ((timer_def program j).thread.0 == t)

abbrev pub timer_in : List TimerModel → ℕ → TimerModel
timer_in timers j = slice_index_or timers j no_timer

-- the words of thread t for these timers
abbrev pub due_in : Program → ℕ → List TimerModel → ℕ → ℕ
due_in program t timers j = if is_owner program t j then due_word (timer_in timers j).due else 0

abbrev pub period_in : Program → ℕ → List TimerModel → ℕ → ℕ
period_in program t timers j = if is_owner program t j then (timer_in timers j).period else 0

-- a timer of thread t
pub record IsOwnTimer (program : Program) (t j : ℕ) : Type 0 where
  pub known : j < length program.timers
  pub thread : (timer_def program j).thread.0 ≡ t

abbrev pub AreOwnSettings : Program → ℕ → List TimerSet → Type 0
AreOwnSettings program t [] = Unit {0}
AreOwnSettings program t (s ∷ settings) = IsOwnTimer program t s.timer.0 × AreOwnSettings program t settings

pub own_timer : (program : Program) (t j : ℕ) → IsOwnTimer program t j → is_owner program t j ≡ true
own_timer program t j own = rw (lt-ltb j (length program.timers) own.known) (eq-eqb (timer_def program j).thread.0 t own.thread)

other_timer : (program : Program) (t u j : ℕ) → IsOwnTimer program t j → u ≢ t → is_owner program u j ≡ false
other_timer program t u j own ne =
    rw (lt-ltb j (length program.timers) own.known) (ne_eqb (timer_def program j).thread.0 u (λ e. ne (sym e ∙ own.thread)))

-- the words of a thread with another timer in the place of one of its own
put-due : (program : Program) (t j : ℕ) (x : TimerModel) (timers : List TimerModel) → IsOwnTimer program t j → j < length timers →
    due_in program t (slice_set timers j x) ≡ changed (due_in program t timers) j (due_word x.due)
put-due program t j x timers own lt = fun_ext λ k.
    elim (cases_eq k j) [
      | inl e ↦
          ap (λ i. due_in program t (slice_set timers j x) i) e
          ∙ (ap (λ b. if b then due_word (timer_in (slice_set timers j x) j).due else 0) (own_timer program t j own)
          ∙ (ap (λ (y : TimerModel). due_word y.due) (get_or-set_same timers j x no_timer lt)
          ∙ sym (changed_same (due_in program t timers) j (due_word x.due) k e)))
      | inr ne ↦
          ap (λ (y : TimerModel). if is_owner program t k then due_word y.due else 0) (get_or-set_other timers j k x no_timer ne)
          ∙ sym (changed_other (due_in program t timers) j (due_word x.due) k ne)
    ]

put-period : (program : Program) (t j : ℕ) (x : TimerModel) (timers : List TimerModel) → IsOwnTimer program t j → j < length timers →
    period_in program t (slice_set timers j x) ≡ changed (period_in program t timers) j x.period
put-period program t j x timers own lt = fun_ext λ k.
    elim (cases_eq k j) [
      | inl e ↦
          ap (λ i. period_in program t (slice_set timers j x) i) e
          ∙ (ap (λ b. if b then (timer_in (slice_set timers j x) j).period else 0) (own_timer program t j own)
          ∙ (ap (λ (y : TimerModel). y.period) (get_or-set_same timers j x no_timer lt)
          ∙ sym (changed_same (period_in program t timers) j x.period k e)))
      | inr ne ↦
          ap (λ (y : TimerModel). if is_owner program t k then y.period else 0) (get_or-set_other timers j k x no_timer ne)
          ∙ sym (changed_other (period_in program t timers) j x.period k ne)
    ]

-- with the same period the periods are as they were
put-same_period : (program : Program) (u j : ℕ) (x : TimerModel) (timers : List TimerModel) → x.period ≡ (timer_in timers j).period → j < length timers →
    period_in program u (slice_set timers j x) ≡ period_in program u timers
put-same_period program u j x timers same lt = fun_ext λ k.
    ap (λ n. if is_owner program u k then n else 0) (
    elim (cases_eq k j) [
      | inl e ↦
          ap (λ i. (timer_in (slice_set timers j x) i).period) e
          ∙ (ap (λ (y : TimerModel). y.period) (get_or-set_same timers j x no_timer lt) ∙ (same ∙ ap (λ i. (timer_in timers i).period) (sym e)))
      | inr ne ↦ ap (λ (y : TimerModel). y.period) (get_or-set_other timers j k x no_timer ne)
    ])

put-due_other : (program : Program) (t u j : ℕ) (x : TimerModel) (timers : List TimerModel) → IsOwnTimer program t j → u ≢ t →
    due_in program u (slice_set timers j x) ≡ due_in program u timers
put-due_other program t u j x timers own apart = fun_ext λ k.
    elim (cases_eq k j) [
      | inl e ↦ let not : is_owner program u k ≡ false = ap (λ i. is_owner program u i) e ∙ other_timer program t u j own apart in rw not refl
      | inr ne ↦ ap (λ (y : TimerModel). if is_owner program u k then due_word y.due else 0) (get_or-set_other timers j k x no_timer ne)
    ]

put-period_other : (program : Program) (t u j : ℕ) (x : TimerModel) (timers : List TimerModel) → IsOwnTimer program t j → u ≢ t →
    period_in program u (slice_set timers j x) ≡ period_in program u timers
put-period_other program t u j x timers own apart = fun_ext λ k.
    elim (cases_eq k j) [
      | inl e ↦ let not : is_owner program u k ≡ false = ap (λ i. is_owner program u i) e ∙ other_timer program t u j own apart in rw not refl
      | inr ne ↦ ap (λ (y : TimerModel). if is_owner program u k then y.period else 0) (get_or-set_other timers j k x no_timer ne)
    ]

-- one setting
abbrev set_in : TimerSet → List TimerModel → List TimerModel
set_in s timers = slice_set timers s.timer.0 (set_by s (timer_in timers s.timer.0))

set-due : (s : TimerSet) (x : TimerModel) → (set_by s x).due ≡ s.due
set-due s x = by_due s.due
  where
    by_due : (o : Option ℕ) → (elim o as (λ _. TimerModel) [ None ↦ record x { due = None } | Some due ↦ record { due = Some due; period = s.period } ]).due ≡ o
    by_due None = refl
    by_due (Some due) = refl

set-in_due : (program : Program) (t : ℕ) (s : TimerSet) (timers : List TimerModel) → IsOwnTimer program t s.timer.0 → s.timer.0 < length timers →
    due_in program t (set_in s timers) ≡ changed (due_in program t timers) s.timer.0 (due_word s.due)
set-in_due program t s timers own lt =
    put-due program t s.timer.0 (set_by s (timer_in timers s.timer.0)) timers own lt
    ∙ ap (λ o. changed (due_in program t timers) s.timer.0 (due_word o)) (set-due s (timer_in timers s.timer.0))

set-in_period : (program : Program) (t : ℕ) (s : TimerSet) (timers : List TimerModel) → IsOwnTimer program t s.timer.0 → s.timer.0 < length timers →
    period_in program t (set_in s timers) ≡ period_by s (period_in program t timers)
set-in_period program t s timers own lt = by_due s.due
  where
    by_due : (o : Option ℕ) →
        period_in program t (slice_set timers s.timer.0 (elim o as (λ _. TimerModel) [ None ↦ record (timer_in timers s.timer.0) { due = None } | Some due ↦ record { due = Some due; period = s.period } ]))
        ≡ elim o as (λ _. ℕ → ℕ) [ None ↦ period_in program t timers | Some due ↦ changed (period_in program t timers) s.timer.0 s.period ]
    by_due None = put-same_period program t s.timer.0 (record (timer_in timers s.timer.0) { due = None }) timers refl lt
    by_due (Some due) = put-period program t s.timer.0 (record { due = Some due; period = s.period }) timers own lt

set-count : (s : TimerSet) (timers : List TimerModel) → length (set_in s timers) ≡ length timers
set-count s timers = length-set timers s.timer.0 _

-- all settings
pub settings-due : (program : Program) (t : ℕ) (settings : List TimerSet) (timers : List TimerModel) → AreOwnSettings program t settings → length timers ≡ length program.timers →
    due_in program t (with_timers settings timers) ≡ due_with settings (due_in program t timers)
settings-due program t [] timers own count = refl
settings-due program t (s ∷ settings) timers own count =
    settings-due program t settings (set_in s timers) own.1 (set-count s timers ∙ count)
    ∙ ap (λ f. due_with settings f) (set-in_due program t s timers own.0 (rw count own.0.known))

pub settings-period : (program : Program) (t : ℕ) (settings : List TimerSet) (timers : List TimerModel) → AreOwnSettings program t settings → length timers ≡ length program.timers →
    period_in program t (with_timers settings timers) ≡ period_with settings (period_in program t timers)
settings-period program t [] timers own count = refl
settings-period program t (s ∷ settings) timers own count =
    settings-period program t settings (set_in s timers) own.1 (set-count s timers ∙ count)
    ∙ ap (λ f. period_with settings f) (set-in_period program t s timers own.0 (rw count own.0.known))

pub settings-due_other : (program : Program) (t u : ℕ) (settings : List TimerSet) (timers : List TimerModel) → AreOwnSettings program t settings → u ≢ t →
    due_in program u (with_timers settings timers) ≡ due_in program u timers
settings-due_other program t u [] timers own apart = refl
settings-due_other program t u (s ∷ settings) timers own apart =
    settings-due_other program t u settings (set_in s timers) own.1 apart ∙ put-due_other program t u s.timer.0 (set_by s (timer_in timers s.timer.0)) timers own.0 apart

pub settings-period_other : (program : Program) (t u : ℕ) (settings : List TimerSet) (timers : List TimerModel) → AreOwnSettings program t settings → u ≢ t →
    period_in program u (with_timers settings timers) ≡ period_in program u timers
settings-period_other program t u [] timers own apart = refl
settings-period_other program t u (s ∷ settings) timers own apart =
    settings-period_other program t u settings (set_in s timers) own.1 apart ∙ put-period_other program t u s.timer.0 (set_by s (timer_in timers s.timer.0)) timers own.0 apart

-- the timer whose event is served
abbrev served_timer : ℕ → TimerModel → TimerModel
served_timer deadline x = record x { due = next_due deadline x }

service-due : (deadline period : ℕ) → due_word (if period == 0 then None else Some (deadline + period)) ≡ after_service (deadline + 1) period
service-due deadline period =
    elim (cases_Bool (period == 0)) [ inl t ↦ rw t refl | inr f ↦ rw f (omega arith) ]

pub move-due : (program : Program) (t : ℕ) (timer : TimerId) (deadline : ℕ) (timers : List TimerModel) → IsOwnTimer program t timer.0 → length timers ≡ length program.timers →
    due_in program t (moved_on (origins.Timer timer deadline) timers)
    ≡ changed (due_in program t timers) timer.0 (after_service (deadline + 1) (period_in program t timers timer.0))
move-due program t timer deadline timers own count =
    let x : TimerModel = timer_in timers timer.0 in
    put-due program t timer.0 (served_timer deadline x) timers own (rw count own.known)
    ∙ ap (λ n. changed (due_in program t timers) timer.0 n)
    (service-due deadline x.period ∙ ap (λ b. after_service (deadline + 1) (if b then x.period else 0)) (sym (own_timer program t timer.0 own)))

pub move-period : (program : Program) (u : ℕ) (timer : TimerId) (deadline : ℕ) (timers : List TimerModel) → timer.0 < length timers →
    period_in program u (moved_on (origins.Timer timer deadline) timers) ≡ period_in program u timers
move-period program u timer deadline timers lt =
    put-same_period program u timer.0 (served_timer deadline (timer_in timers timer.0)) timers refl lt

pub move-due_other : (program : Program) (t u : ℕ) (timer : TimerId) (deadline : ℕ) (timers : List TimerModel) → IsOwnTimer program t timer.0 → u ≢ t →
    due_in program u (moved_on (origins.Timer timer deadline) timers) ≡ due_in program u timers
move-due_other program t u timer deadline timers own apart =
    put-due_other program t u timer.0 (served_timer deadline (timer_in timers timer.0)) timers own apart
