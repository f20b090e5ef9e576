-- A word of the board, by its address.
use Rattle.task_run.proofs.Common.{◌≡◌, ◌∙◌, sym, Memory}
use Rattle.fram_words.specs.Shape.{memory_of}
use Rattle.ink_layout.specs.Shape.{shape_of}
use Rattle.task_run.proofs.AheadWords.{read_at, other_page, no_page}
use Rattle.task_run.proofs.ahead.Ahead.word_at.Goals as goal
use Rattle.task_run.proofs.ahead.Ahead.word_at.Goals.{in_default-via-in-Page+else-thread-self, in_default-via-in_default}

pub returns-in_default : goal.returns-in_default
returns-in_default c =
    let plan = c.args.plan.now in
    let words : Memory = memory_of (shape_of plan.accepted) c.args.fram.now in
    let t = c.args.self.now.machine.pick.thread.0 in
    let block = c.args.self.now.block in
    let read = λ (same : c.in_default.place ≡ c.args.place). read_at plan.accepted plan.layout c.args.fram.now c.in_default.place c.args.place same c.program-program.ensures.layout c.requires in
    rw (c.word.ensures, c.address.ensures)
    elim c.in_default.branch [
      | in_default-via-in-Page+else-thread-self w ↦
          read (w.place-is ∙ sym w.in-Page.is)
          ∙ other_page words t block c.args.place w.in-Page.thread w.in-Page.page w.in-Page.copy w.in-Page.word w.in-Page.is w.if-thread-self.false
      | in_default-via-in_default w ↦ read w.place-is ∙ no_page words t block c.args.place w.in_default.not-Page
    ]
