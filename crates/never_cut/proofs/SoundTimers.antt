-- The timers stay sound where a service of one begins and a task sets some.
use Rattle.never_cut.proofs.Common.{◌≡◌, ℕ, suc, ◌+◌, ◌^◌, ◌<◌, ◌≤◌, ◌==◌, Bool, true, false, List, [], ◌∷◌, length, get_or, set, Option, Some, None, refl, sym, ap, ◌∙◌, arith, subst, inl, inr, length-set, get_or-set_other, All, if◌then◌else◌, cases_eq, get_or-set_at, Origin, Program, TimerSet, TimerModel, no_timer, next_due, moved_on, set_by, with_timers}
use Rattle.ink_base.specs.declared.event.Origin.TheVariants as origins
use Rattle.never_cut.proofs.RightActs.{IsRightSetting}
use Rattle.never_cut.proofs.SoundParts.{IsSoundTimerAt, TimersSound}

pub moved_count : (o : Origin) (timers : List TimerModel) → length (moved_on o timers) ≡ length timers
moved_count (origins.Source s c) timers = refl
moved_count (origins.Pipe q n) timers = refl
moved_count (origins.Timer j d) timers = length-set timers j.0 _

pub set_count : (settings : List TimerSet) (timers : List TimerModel) → length (with_timers settings timers) ≡ length timers
set_count [] timers = refl
set_count (s ∷ settings) timers =
    set_count settings (set timers s.timer.0 (set_by s (get_or timers s.timer.0 no_timer))) ∙ length-set timers s.timer.0 _

-- a sound timer in another's place
timer_in : (program : Program) (timers : List TimerModel) (i : ℕ) (x : TimerModel) → length timers ≡ length program.timers →
    (i < length program.timers → IsSoundTimerAt x) → TimersSound program timers → TimersSound program (set timers i x)
timer_in program timers i x same new h j known =
    elim (cases_eq j i) [
      | inl e ↦ subst IsSoundTimerAt (sym (get_or-set_at timers i j x no_timer e (omega arith))) (new (omega arith))
      | inr apart ↦ subst IsSoundTimerAt (sym (get_or-set_other timers i j x no_timer apart)) (h j known)
    ]

-- a timer that goes on by its period
next_sound : (deadline time : ℕ) (x : TimerModel) → deadline ≤ time → time < 2 ^ 47 → IsSoundTimerAt x → IsSoundTimerAt (record x { due = next_due deadline x })
next_sound deadline time x early clock h = record { due = by_period (x.period == 0); period = h.period }
  where
    by_period : (b : Bool) (due : ℕ) → (if b then None else Some (deadline + x.period)) ≡ Some due → due < 2 ^ 48
    by_period true due is = absurd (let clash : None ≡ Some due = is in cc)
    by_period false due is =
        let same : deadline + x.period ≡ due = ap (λ (o : Option ℕ). elim o [ None ↦ 0 | Some n ↦ n ]) is in
        let period = h.period in
        omega arith

-- the deadline of a timer's event has come by a time
abbrev pub HasCome : Origin → ℕ → Type 0
HasCome o time = elim o [ origins.Source source count ↦ Unit {0} | origins.Pipe pipe item ↦ Unit {0} | origins.Timer timer deadline ↦ deadline ≤ time ]

-- the timers after an event's service has begun
pub moved_sound : (program : Program) (o : Origin) (time : ℕ) (timers : List TimerModel) → length timers ≡ length program.timers → HasCome o time → time < 2 ^ 47 →
    TimersSound program timers → TimersSound program (moved_on o timers)
moved_sound program (origins.Source source count) time timers same early clock h = h
moved_sound program (origins.Pipe pipe item) time timers same early clock h = h
moved_sound program (origins.Timer timer deadline) time timers same early clock h =
    timer_in program timers timer.0 _ same (λ known. next_sound deadline time (get_or timers timer.0 no_timer) early clock (h timer.0 known)) h

set_right : (program : Program) (t : ℕ) (s : TimerSet) (x : TimerModel) → IsRightSetting program t s → IsSoundTimerAt x → IsSoundTimerAt (set_by s x)
set_right program t s x right h = by_due s.due refl
  where
    by_due : (due : Option ℕ) → s.due ≡ due → IsSoundTimerAt (elim due [ None ↦ record x { due = None } | Some due ↦ record { due = Some due; period = s.period } ])
    by_due None is = record { due = λ due e. absurd (let clash : None ≡ Some due = e in cc); period = h.period }
    by_due (Some at) is = record { due = λ due e. right.due due (is ∙ e); period = right.period }

-- the timers as a task set them
pub settings_sound : (program : Program) (t : ℕ) (settings : List TimerSet) (timers : List TimerModel) → length timers ≡ length program.timers → All (IsRightSetting program t) settings →
    TimersSound program timers → TimersSound program (with_timers settings timers)
settings_sound program t [] timers same right h = h
settings_sound program t (s ∷ settings) timers same right h =
    let first : IsRightSetting program t s = right 0 s (omega arith) in
    settings_sound program t settings (set timers s.timer.0 (set_by s (get_or timers s.timer.0 no_timer))) (length-set timers s.timer.0 _ ∙ same) (λ k d lt. right (suc k) d (omega arith))
    (timer_in program timers s.timer.0 _ same (λ known. set_right program t s (get_or timers s.timer.0 no_timer) first (h s.timer.0 known)) h)
