-- The state that is read off words which stand for a state is that state without what a cut loses.
use Rattle.going_on.proofs.Common.{◌≡◌, ◌⊎◌, inl, inr, ℕ, zero, suc, ◌<◌, Bool, true, false, List, [], ◌∷◌, ◌++◌, length, map, get_or, Option, Some, None, refl, sym, ap, ◌∙◌, subst, arith, All, All-append, ext_get_or, get_or-map, length-map, Entry, Program, Model, SourceModel, thread_of, source_of, no_source, Readings, Legal, effect, IsLegal, after, IsSound, unmarked, without_scan}
use Rattle.ink_base.specs.declared.ids.ThreadId.{ThreadId}
use Rattle.ink_base.specs.declared.entry.Entry.TheVariants.{Push, Refuse, Skip, Tick, Scan, Look, Commit, Release}
use Rattle.ink_base.specs.declared.event.Origin.{Origin}
use Rattle.ink_base.specs.declared.event.Origin.TheVariants as origins
use Rattle.ink_base.specs.declared.output.Output.{Output}
use Rattle.std.specs.Prelude.{slice_get}
use Rattle.fram_words.specs.Places.{Memory, Src, Ack}
use Rattle.push_core.specs.Queue.{Queue, StandsSource}
use Rattle.prog_check.specs.Accepted.{IsAccepted}
use Rattle.prog_check.specs.Lookup.{source_thread}
use Rattle.never_cut.specs.State.{queue_of, source_in}
use Rattle.never_cut.specs.Stands.{Stands, StandsPrivate, flag}
use Rattle.never_cut.specs.Sound.{IsServed, IsQueued}
use Rattle.never_cut.specs.Within.{Lasts}
use Rattle.never_cut.specs.Ranges.{IsOwnOrigin}
use Rattle.never_cut.specs.ReadOff.{HasEventOf, IsOutputOf, IsReadOff, told_queue, told_source, is_one_more}
use Rattle.never_cut.specs.Image.{held_for}
use Rattle.never_cut.specs.Laws.{commits_in, committing}
use Rattle.never_cut.proofs.ReadSources.{more_found, more_is}
use Rattle.never_cut.proofs.Stamped.{stamps_by_commits}
use Rattle.never_cut.proofs.ToldQueues.{queue_told}
use Rattle.going_on.proofs.Told.{IsTold, threads_are, pipes_are, timers_are, outputs_are, commits_are}

-- the commits of a legal journal are of threads of the program
IsKnown : Program → ThreadId → Type 0
IsKnown program t = t.0 < length program.threads

committing_known : (program : Program) (readings : Readings) (m : Model) (e : Entry) → Legal program readings m e → (k : ℕ) (t : ThreadId) →
    slice_get (committing e) k ≡ Some t → IsKnown program t
unfolding IsKnown
committing_known program readings m (Commit u) legal zero t is =
    subst (λ (o : Option ThreadId). elim o as (λ _. Type 0) [ None ↦ Unit {0} | Some x ↦ x.0 < length program.threads ]) is legal.0
committing_known program readings m (Commit u) legal (suc k) t is = cc
committing_known program readings m (Push i) legal k t is = cc
committing_known program readings m (Refuse i) legal k t is = cc
committing_known program readings m (Skip i) legal k t is = cc
committing_known program readings m (Tick by) legal k t is = cc
committing_known program readings m Scan legal k t is = cc
committing_known program readings m (Look u) legal k t is = cc
committing_known program readings m (Release u) legal k t is = cc

split_get : (xs ys : List ThreadId) (k : ℕ) (t : ThreadId) → slice_get (xs ++ ys) k ≡ Some t → (slice_get xs k ≡ Some t) ⊎ ((j : ℕ) × (slice_get ys j ≡ Some t))
split_get [] ys k t is = inr (k, is)
split_get (x ∷ xs) ys zero t is = inl is
split_get (x ∷ xs) ys (suc k) t is = split_get xs ys k t is

commits_known : (program : Program) (readings : Readings) (m : Model) (entries : List Entry) → IsLegal program readings m entries →
    (k : ℕ) (t : ThreadId) → slice_get (commits_in entries) k ≡ Some t → IsKnown program t
commits_known program readings m [] legal k t is = cc
commits_known program readings m (e ∷ entries) legal k t is = elim (split_get (committing e) (commits_in entries) k t is) [
  | inl here ↦ committing_known program readings m e legal.0 k t here
  | inr later ↦ commits_known program readings (effect program readings m e) entries legal.1 later.0 t later.1
]

-- so its outputs are
pub outputs_known : (program : Program) (readings : Readings) (first : Model) (entries : List Entry) → IsSound program readings first →
    All (IsOutputOf program) first.outputs →
    IsLegal program readings first entries → IsSound program readings (after program readings first entries) →
    All (IsOutputOf program) (after program readings first entries).outputs
unfolding IsKnown
outputs_known program readings first entries sound known legal later =
    let told = stamps_by_commits program readings first entries sound.stamps legal in
    let threads : All (λ (o : Output). o.thread.0 < length program.threads) (after program readings first entries).outputs =
    subst (λ (l : List Output). All (λ (o : Output). o.thread.0 < length program.threads) l) (sym told.outputs)
    (All-append (λ (o : Output). o.thread.0 < length program.threads) first.outputs told.made (λ k d lt. (known k d lt).0)
    (λ k d lt. let o = told.each k d lt in commits_known program readings first entries legal o.before (get_or told.made k d).thread o.own)) in
    λ k d lt. (threads k d lt, later.values k d lt)

-- a source is its numbers and its mark
source_is : (a b : SourceModel) → source_in a ≡ source_in b → a ≡ b
source_is a b is = λ k. record { next = (is k).next; accepted = (is k).accepted; refused = (is k).refused }

module _ (program : Program) (readings : Readings) (words : Memory) (m : Model) (accepted : IsAccepted program) (sound : IsSound program readings m)
    (lasts : Lasts 0 m)
    (stands : Stands words program m) (known : All (IsOutputOf program) m.outputs) where
  module _ (t : ℕ) (there : t < length program.threads) where
    -- a served event is one of the thread's own
    own_served : (o : Origin) (v : ℕ) → IsServed program m t (record { origin = o; value = v }) → IsOwnOrigin program t o
    own_served (origins.Source source count) v served =
        let queued = subst (λ e. IsQueued program t e) served.1 ((sound.threads t there).queued 0 served.0) in (queued.0, queued.1, queued.2)
    own_served (origins.Pipe pipe item) v served = (served.0, served.1, let room = lasts.taken pipe.0 in let is = served.2 in omega arith)
    own_served (origins.Timer timer deadline) v served = (served.0, served.1, served.2)

    events_of : HasEventOf program m t
    events_of = record {
      idle = λ none. (sound.threads t there).idle none;
      chain = λ task runs. let chain = (sound.threads t there).chain task runs in
          (chain.event, chain.is, own_served chain.event.origin chain.event.value chain.served);
    }

  told_model : IsTold program words m
  told_model = record { shape = sound.shape; private = stands.private; events = events_of; outputs = known; rise = sound.stamps.ordered }

  module _ (i : ℕ) (there : i < length program.sources) where
    queue_is : told_queue program words (source_thread program i) ≡ queue_of (thread_of m (source_thread program i))
    queue_is = queue_told program readings words m accepted sound stands (source_thread program i) (accepted.sources i there)

    few : i < 256
    few = let most = accepted.counts.sources in omega arith

    stood : StandsSource i (words (Src i)) (words (Ack i)) (held_for program words i) (source_in (source_of m i))
    stood = subst (λ (q : Queue). StandsSource i (words (Src i)) (words (Ack i)) q.held (source_in (source_of m i))) (sym queue_is)
        (stands.shared.sources i there)

    -- the source's numbers are those that are told
    pub source_told : told_source program words i ≡ source_in (unmarked (source_of m i))
    source_told = by_more (is_one_more program words i) refl
      where
        by_more : (b : Bool) → is_one_more program words i ≡ b → told_source program words i ≡ source_in (unmarked (source_of m i))
        by_more true is =
            let more = stood.one_more (more_is program words i few is) in
            let one : flag (is_one_more program words i) ≡ 1 = ap flag is in
            let accepted_is : (told_source program words i).accepted ≡ (source_of m i).accepted = omega (arith, more.0, one) in
            let next_is : (told_source program words i).next ≡ (source_of m i).next = omega (arith, more.1, one) in
            λ k. record { next = next_is k; accepted = accepted_is k; refused = false }
        by_more false is =
            let kept = stood.as_many (λ more. absurd (let clash : false ≡ true = sym is ∙ more_found program words i few more in cc)) in
            let none : flag (is_one_more program words i) ≡ 0 = ap flag is in
            let accepted_is : (told_source program words i).accepted ≡ (source_of m i).accepted = omega (arith, kept.0, none) in
            let next_is : (told_source program words i).next ≡ (source_of m i).next = omega (arith, kept.1, none) in
            λ k. record { next = next_is k; accepted = accepted_is k; refused = false }

  unmarked_at : (i : ℕ) → i < length program.sources → get_or (map unmarked m.sources) i no_source ≡ unmarked (source_of m i)
  unmarked_at i there = get_or-map unmarked m.sources i no_source no_source (omega (arith, sound.shape.sources))

  module _ (a : Model) (read : IsReadOff program words a) where
    told_read : IsTold program words a
    told_read = record { shape = read.shape; private = read.private; events = read.events; outputs = read.outputs; rise = read.ordered }

    sources_read : a.sources ≡ map unmarked m.sources
    sources_read =
        ext_get_or no_source a.sources (map unmarked m.sources) (read.shape.sources ∙ (sym sound.shape.sources ∙ sym (length-map m.sources unmarked)))
        (λ i lt.
        let there : i < length program.sources = omega (arith, read.shape.sources) in
        source_is (source_of a i) (unmarked (source_of m i)) (read.sources i there ∙ source_told i there) ∙ sym (unmarked_at i there))

    pub reads : a ≡ without_scan m
    reads =
        let threads = threads_are program words a m accepted told_read told_model
        (λ t there. read.queues t there ∙ queue_told program readings words m accepted sound stands t there) in
        let pipes = pipes_are program words a m accepted told_read told_model in
        let timers = timers_are program words a m accepted told_read told_model in
        let outputs = outputs_are program words a m accepted told_read told_model sound.stamps.own in
        let commits = commits_are program words a m read.private stands.private in
        let clock = read.clock ∙ stands.shared.clock in
        λ k. record {
          threads = threads k;
          pipes = pipes k;
          timers = timers k;
          sources = sources_read k;
          clock = clock k;
          outputs = outputs k;
          commits = commits k;
          scan = read.scan k;
        }

  -- and it is read off them
  private_without : StandsPrivate words program (without_scan m)
  private_without = record {
    code = stands.private.code;
    threads = λ t there. let x = stands.private.threads t there in
        record { stamp = x.stamp; origin = x.origin; value = x.value; block = x.block; event = x.event; log = x.log; reached = x.reached; pages = x.pages };
    stamps = stands.private.stamps;
    newest = stands.private.newest;
    pipes = stands.private.pipes;
  }

  pub is_read : IsReadOff program words (without_scan m)
  is_read = record {
    shape = record {
      threads = sound.shape.threads;
      pipes = sound.shape.pipes;
      timers = sound.shape.timers;
      sources = length-map m.sources unmarked ∙ sound.shape.sources;
      states = sound.shape.states;
    };
    private = private_without;
    events = λ t there. let x = events_of t there in record { idle = x.idle; chain = x.chain };
    queues = λ t there. sym (queue_told program readings words m accepted sound stands t there);
    sources = λ i there. ap source_in (unmarked_at i there) ∙ sym (source_told i there);
    outputs = known;
    ordered = sound.stamps.ordered;
    clock = sym stands.shared.clock;
    scan = refl;
  }
