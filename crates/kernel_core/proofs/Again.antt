-- A core that begins again in the memory that is there.
use Rattle.kernel_core.proofs.Common.{◌≡◌, ℕ, zero, suc, List, [], ◌∷◌, length, map, get_or, refl, sym, ap, ◌∙◌, subst, length-map, Layout, AreFirstWords, first_row, Pusher, JobParts, IsJob, Kernel, first_kernel, not_begun, Board, first_board, StandsFirst, setup_of, Recorded, emptied, IsCore, row_in, charge_in, rebooted, none_recorded, no_pusher, IsFirstRecord, AreFirstPushers, AreFirstRecords}
use Rattle.kernel_core.proofs.CoreSteps.{records_count}
use Rattle.kernel_core.proofs.JobMoves.{job_first}
use Rattle.kernel_core.proofs.Starts.{first_core, first_fields}

rebooted_at : (ps : List Pusher) (i : ℕ) → get_or (map rebooted ps) i no_pusher ≡ rebooted (get_or ps i no_pusher)
rebooted_at [] i = refl
rebooted_at (p ∷ ps) zero = refl
rebooted_at (p ∷ ps) (suc i) = rebooted_at ps i

emptied_at : (rs : List Recorded) (k : ℕ) → get_or (map emptied rs) k none_recorded ≡ emptied (get_or rs k none_recorded)
emptied_at [] k = refl
emptied_at (r ∷ rs) zero = refl
emptied_at (r ∷ rs) (suc k) = emptied_at rs k

module _ (job : JobParts) (l : Layout) (b : Board) (room : ℕ) (ps : List Pusher) (records : List Recorded) (h : IsCore job l b room ps records) where
  -- the machines keep their ports
  pushers_again : AreFirstPushers job.program (length job.program.sources) (map rebooted ps)
  pushers_again = record {
    length_is = length-map ps rebooted ∙ (sym (ap length h.rows ∙ length-map ps row_in) ∙ h.holds.size.rows);
    each = λ i lt. rebooted_at ps i ∙ (λ k. record { port = (h.machines i lt).port k; row = first_row });
  }

  -- the records keep their room
  records_again : AreFirstRecords job (length job.charges) (map emptied records)
  records_again = record {
    length_is = length-map records emptied ∙ records_count job l b room ps records h;
    each = λ k lt. subst (λ (r : Recorded). IsFirstRecord job k r) (sym (emptied_at records k))
        (record { charge = ap not_begun (h.records_are.steps k lt); room = h.records_are.whole k lt; whole = h.records_are.whole k lt });
  }

  -- the fields of a core that begins again
  abbrev Again : List ℕ → Kernel → List Pusher → List Recorded → Board
  Again words k qs rs = record { words = words; kernel = k; rows = map row_in qs; charges = map charge_in rs; begun = 0 }

  module _ (is : IsJob job) (words : List ℕ) (k : Kernel) (qs : List Pusher) (rs : List Recorded) (image : AreFirstWords job.program job.start words) (kernel : k ≡ first_kernel) (lost : qs ≡ map rebooted ps) (cleared : rs ≡ map emptied records) where
    first : StandsFirst (setup_of job) words
    first = job_first job words is image

    fields : Again words k qs rs ≡ Again words first_kernel (map rebooted ps) (map emptied records)
    fields = λ i. Again words (kernel i) (lost i) (cleared i)

    pub core_again : IsCore job l (Again words k qs rs) 0 qs rs
    core_again =
        subst (λ (z : Kernel × List Pusher × List Recorded). IsCore job l (Again words z.0 z.1 z.2) 0 z.1 z.2) (λ i. (sym kernel i, sym lost i, sym cleared i))
        (first_core job words (map rebooted ps) (map emptied records) h.is_setup is first pushers_again records_again l h.layout_is)

    pub board_again : Again words k qs rs ≡ first_board (setup_of job) words (length job.charges)
    board_again = fields ∙ first_fields job words (map rebooted ps) (map emptied records) h.is_setup is first pushers_again records_again
