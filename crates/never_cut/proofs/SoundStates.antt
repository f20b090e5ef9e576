-- Every state that a legal journal of an accepted program reaches from a sound one is sound, and its positions fit their bits.
use Rattle.never_cut.proofs.Common.{◌≡◌, ℕ, zero, suc, ◌^◌, ◌<◌, ◌≤◌, true, false, List, [], ◌∷◌, length, map, get_or, Some, None, refl, sym, ap, ◌∙◌, arith, subst, All, All-nil, get_or-map, length-map, length-replicate, ThreadId, Output, Entry, Push, Refuse, Skip, Tick, Scan, Look, Commit, Release, Program, ThreadDef, greatest_tail, IsAccepted, thread_def, pipe_def, no_thread_def, no_timer_def, source_thread, Model, ThreadModel, PipeModel, SourceModel, thread_of, queue_of, no_thread, no_pipe, no_timer, no_source, open_model, open_thread, open_pipe, open_timer, open_source, Readings, readings_of, Legal, effect, after, IsLegal, published, IsSound, IsSoundSource, unsettled_into, sources_in, AreShort, unsettled_bound}
use Rattle.ink_base.specs.declared.limits.TheConstants as limits
use Rattle.task_isa.specs.declared.program.PipeDef.{PipeDef}
use Rattle.never_cut.proofs.SoundParts.{IsSoundAt, ThreadSound, IsSoundPipeAt, IsSoundTimerAt, HasSoundParts, parts_of, sound_of, taken_in}
use Rattle.never_cut.proofs.SoundSources.{refuse_sound, skip_sound}
use Rattle.never_cut.proofs.SoundScans.{tick_sound, scan_sound, look_sound}
use Rattle.never_cut.proofs.SoundQueues.{push_sound, release_sound}
use Rattle.never_cut.proofs.SoundCommits.{commit_sound}
use Rattle.never_cut.proofs.Finished.{one_step}
use Rattle.never_cut.proofs.Values.{zeros_below}

entry_sound : (program : Program) (readings : Readings) (m : Model) (e : Entry) → IsAccepted program → AreShort readings → HasSoundParts program readings m →
    Legal program readings m e → HasSoundParts program readings (effect program readings m e)
entry_sound program readings m (Push i) accepted short h legal = push_sound program readings m i accepted short h legal
entry_sound program readings m (Refuse i) accepted short h legal = refuse_sound program readings m i h legal
entry_sound program readings m (Skip i) accepted short h legal = skip_sound program readings m i h legal
entry_sound program readings m (Tick by) accepted short h legal = tick_sound program readings m by h legal
entry_sound program readings m Scan accepted short h legal = scan_sound program readings m h legal
entry_sound program readings m (Look t) accepted short h legal = look_sound program readings m t h
entry_sound program readings m (Commit t) accepted short h legal = commit_sound program readings m t accepted h legal
entry_sound program readings m (Release t) accepted short h legal = release_sound program readings m t h legal

-- a legal entry keeps a state sound
pub sound_step : (program : Program) (readings : Readings) (m : Model) (e : Entry) → IsAccepted program → AreShort readings → IsSound program readings m →
    Legal program readings m e → IsSound program readings (effect program readings m e)
sound_step program readings m e accepted short sound legal =
    sound_of program readings (effect program readings m e) (entry_sound program readings m e accepted short (parts_of program readings m sound) legal)
    (one_step program readings m e accepted sound legal sound.one)

open_at : (defs : List ThreadDef) (t : ℕ) → t < length defs → get_or (map open_thread defs) t no_thread ≡ open_thread (get_or defs t no_thread_def)
open_at [] t lt = absurd (omega arith)
open_at (d ∷ defs) zero lt = refl
open_at (d ∷ defs) (suc t) lt = open_at defs t (omega arith)

pub open_source_at : (sources : List ThreadId) (i : ℕ) → get_or (map open_source sources) i no_source ≡ no_source
open_source_at [] i = refl
open_source_at (s ∷ sources) zero = refl
open_source_at (s ∷ sources) (suc i) = open_source_at sources i

open_thread_sound : (program : Program) (readings : Readings) (t : ℕ) → IsAccepted program → ((i : ℕ) → length (readings_of readings i) ≤ limits.READINGS) → t < length program.threads → ThreadSound program readings (open_model program) t
open_thread_sound program readings t accepted short lt =
    subst (λ (z : ThreadModel). IsSoundAt program (taken_in (open_model program).pipes) t z (unsettled_into program readings (open_model program) t (length program.sources)) 0 0)
    (sym (open_at program.threads t lt))
    (record {
      positions =
          let few = accepted.counts.sources in
          let bound = unsettled_bound (source_thread program) (readings_of readings) (sources_in (open_model program)) t (length program.sources) limits.READINGS short in
          omega arith;
      queued = λ k less. absurd (omega arith);
      finished = λ is. absurd (let clash : false ≡ true = is in cc);
      idle = λ _. refl;
      chain = λ task is. absurd (let clash : None ≡ Some task = is in cc);
      outputs = omega arith;
      first = omega arith;
      size = length-replicate {A = ℕ} (thread_def program t).state 0;
      values = zeros_below (thread_def program t).state;
    })

open_pipe_at : (defs : List PipeDef) (q : ℕ) → get_or (map open_pipe defs) q no_pipe ≡ no_pipe
open_pipe_at [] q = refl
open_pipe_at (d ∷ defs) zero = refl
open_pipe_at (d ∷ defs) (suc q) = open_pipe_at defs q

open_pipe_sound : (places : ℕ) → IsSoundPipeAt places no_pipe
open_pipe_sound places = record { room = omega arith; values = λ k. omega arith }

open_timer_sound : (program : Program) (j : ℕ) → IsAccepted program → j < length program.timers → IsSoundTimerAt (get_or (map open_timer program.timers) j no_timer)
open_timer_sound program j accepted lt =
    let right = accepted.timers j lt in
    subst IsSoundTimerAt (sym (get_or-map open_timer program.timers j no_timer_def no_timer lt)) (record {
      due = λ due is. let early = right.due due is in omega arith;
      period = let short = right.period in omega arith;
    })

open_source_sound : (program : Program) (readings : Readings) (i : ℕ) → IsSoundSource readings (open_model program) i
open_source_sound program readings i =
    let e = open_source_at program.sources i in record {
      ordered = subst (λ (z : SourceModel). z.accepted ≤ z.next) (sym e) (omega arith);
      within = subst (λ (z : SourceModel). z.next ≤ length (readings_of readings i)) (sym e) (omega arith);
      refused = subst (λ (z : SourceModel). z.refused ≡ true → z.next < length (readings_of readings i)) (sym e)
          (λ is. absurd (let clash : false ≡ true = is in cc));
    }

-- the state at the start is sound
pub open_sound : (program : Program) (readings : Readings) → IsAccepted program → ((i : ℕ) → length (readings_of readings i) ≤ limits.READINGS) → IsSound program readings (open_model program)
open_sound program readings accepted short =
    sound_of program readings (open_model program)
    (record {
      threads_count = length-map program.threads open_thread;
      pipes_count = length-map program.pipes open_pipe;
      timers_count = length-map program.timers open_timer;
      sources_count = length-map program.sources open_source;
      threads = λ t lt. open_thread_sound program readings t accepted short lt;
      pipes = λ q lt. subst (λ (p : PipeModel). IsSoundPipeAt (pipe_def program q).places p) (sym (open_pipe_at program.pipes q)) (open_pipe_sound (pipe_def program q).places);
      timers = λ j lt. open_timer_sound program j accepted lt;
      sources = λ i lt. open_source_sound program readings i;
      clock = omega arith;
      scan = λ scan is. absurd (let clash : None ≡ Some scan = is in cc);
      begun = λ scan is. absurd (let clash : None ≡ Some scan = is in cc);
      calm = λ scan is. absurd (let clash : None ≡ Some scan = is in cc);
      stamps = record {
        made = All-nil (λ (o : Output). (1 ≤ o.stamp) × (o.stamp ≤ 0));
        ordered = λ i j d le lt. absurd (omega arith);
        own = All-nil (λ (o : Output). All (λ (other : Output). other.stamp ≡ o.stamp → other.thread.0 ≡ o.thread.0) []);
      };
      words = All-nil (λ (o : Output). o.value < 2 ^ 32);
    })
    (λ t u known there done other. absurd (let clash : false ≡ true = sym (ap (λ (x : ThreadModel). x.finished) (open_at program.threads t known)) ∙ done in cc))

-- the state after a legal journal is sound
pub sound_after : (program : Program) (readings : Readings) (m : Model) (journal : List Entry) → IsAccepted program → AreShort readings → IsSound program readings m →
    IsLegal program readings m journal → IsSound program readings (after program readings m journal)
sound_after program readings m [] accepted short sound legal = sound
sound_after program readings m (e ∷ journal) accepted short sound legal =
    sound_after program readings (effect program readings m e) journal accepted short (sound_step program readings m e accepted short sound legal.0) legal.1

-- the positions of a queue fit their bits
pub published_bound : (program : Program) (readings : Readings) (m : Model) (t : ℕ) → IsSound program readings m → t < length program.threads → published (queue_of (thread_of m t)) ≤ greatest_tail
published_bound program readings m t h lt = let fits = (h.threads t lt).positions in omega arith
