-- What is put of a feed is said of the tasks.
use Rattle.std.proofs.Common.{◌≡◌, ℕ, List, refl, sym, ◌∙◌, subst, Bool, true, false, ◌↔◌, IsTrue}
use Rattle.dover_port.specs.declared.status.Status.TheVariants.{Done}
use Rattle.dover_model.specs.Common.{IsRatio, Declaration, IsDeclarable}
use Rattle.task_words.specs.tasks.Limits.{AreTasks, Fits}
use Rattle.task_words.specs.tasks.Tasks.{unrolled}
use Rattle.task_words.specs.declared.tasks.task.PeriodicTask.{PeriodicTask}
use Rattle.task_words.proofs.tasks.Released.{unrolled_valid}
use Rattle.event_feed.specs.Feeds.{IsFeedOf, feed_of}
use Rattle.task_words.specs.unroll.Says.{Says}
use Rattle.event_feed.proofs.FeedsOfJobs.{feed_is}
use Rattle.dover_model.proofs.sessions.JobSessions.{jobs_never}

-- the feed of the jobs is said of the tasks
pub says_feed : (until : ℕ) (rules : Declaration) (tasks : List PeriodicTask)
    → IsRatio rules.ratio → IsDeclarable rules → AreTasks until rules.ratio tasks → Fits until tasks
    → (u : ℕ) (ts : List PeriodicTask) → u ≡ until → ts ≡ tasks
    → Says until rules tasks Done (feed_of (unrolled u rules ts))
says_feed until rules tasks ratio declarable are fits u ts u_is ts_are = (
  fits,
  subst (λ n. IsFeedOf (unrolled until rules tasks) (feed_of (unrolled n rules ts))) (sym u_is)
      (subst (λ xs. IsFeedOf (unrolled until rules tasks) (feed_of (unrolled until rules xs))) (sym ts_are)
      (feed_is (unrolled until rules tasks) (unrolled_valid until rules tasks ratio are fits) declarable refl
      (jobs_never (unrolled until rules tasks) fits.count))),
)

-- a test that holds
pub passed : (until : ℕ) (ts tasks : List PeriodicTask) (b : Bool) → b ≡ true → (IsTrue b ↔ Fits until ts) → ts ≡ tasks
    → Fits until tasks
passed until ts tasks b holds is same = subst (Fits until) same (is.0 holds)

-- and one that doesn't
pub not_passed : (until : ℕ) (ts tasks : List PeriodicTask) (b : Bool) → b ≡ false → (IsTrue b ↔ Fits until ts)
    → ts ≡ tasks → Fits until tasks → ⊥
not_passed until ts tasks b fails is same fits =
    let e : b ≡ true = is.1 (subst (Fits until) (sym same) fits) in
    let clash : false ≡ true = sym fails ∙ e in cc
