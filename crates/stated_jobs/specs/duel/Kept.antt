-- What a duel keeps of its jobs that are still to come.
use Rattle.std.specs.Prelude.{◌≡◌, ℕ, ◌+◌, ◌-◌, ◌≤◌, List, [], ◌∷◌, ◌++◌, if◌then◌else◌}
use Rattle.dover_model.specs.Common.{Fraction, IsRatio, JobFacts, IsJob, tight_job, last_tick, most_value}
use Rattle.stated_jobs.specs.declared.duel.links.Share.{Share}
use Rattle.stated_jobs.specs.declared.duel.links.Link.{Link}
use Rattle.stated_jobs.specs.declared.duel.coming.Coming.TheInside.{Inside}
use Rattle.stated_jobs.specs.declared.duel.coming.Next.{Next}
use Rattle.stated_jobs.specs.declared.duel.coming.Next.TheVariants as next
use Rattle.stated_jobs.specs.duel.Jobs.{smalls, pieces, small_work, jobs_of_links}
use Rattle.stated_jobs.specs.duel.Links.{next_link}

-- the numbers of a share are from 1 to a million
pub record IsShare (share : Share) : Type 0 where
  pub some_part : 1 ≤ share.part
  pub few_parts : share.part ≤ 1_000_000
  pub some : 1 ≤ share.whole
  pub few : share.whole ≤ 1_000_000

-- a link as a pair
abbrev pub link_of : Link → ℕ × ℕ
link_of link = (link.release, link.work)

-- the numbers of a link that is within the limits of a job
pub record IsModest (link : Link) : Type 0 where
  pub some : 1 ≤ link.work
  pub modest : link.work ≤ most_value
  pub early : link.release + link.work ≤ last_tick

-- the jobs that are still to come: the small jobs that are left, and the links
abbrev pub coming_of : Inside → List JobFacts
coming_of a = if a.is_over then [] else smalls a.k.p a.tick (pieces a.size a.left)
    ++ jobs_of_links a.k a.share.whole a.share.part a.more (a.tick + a.left, a.work)

-- behind a link come its small jobs, and the next link
pub record GoesOn (k : Fraction) (whole part more : ℕ) (l : ℕ × ℕ) : Type 0 where
  pub some : 1 ≤ more
  pub jobs : jobs_of_links k whole part more l ≡ tight_job l.0 l.1 k.q
      ∷ (smalls k.p l.0 (pieces (small_work k whole part l) (l.1 - 1))
      ++ jobs_of_links k whole part (more - 1) (next_link k whole part l))

-- the fields are within what their sums and products need
pub record IsKept (a : Inside) : Type 0 where
  pub ratio : IsRatio a.k
  pub share : IsShare a.share
  pub size : 1 ≤ a.size
  pub few : a.left ≤ most_value
  pub early : a.tick + a.left ≤ last_tick
  pub some : 1 ≤ a.work
  pub modest : a.work ≤ 1_000_000_000_000_001

-- What is given of jobs that are to come: the first, or that there is none, or that the first breaks a limit of one
-- job.
abbrev pub Gives : Next → (before after : List JobFacts) → Type 0
Gives (next.Job j) before after = before ≡ j ∷ after
Gives next.Over before after = before ≡ []
Gives next.TooLarge before after = (j : JobFacts) × (rest : List JobFacts) × (before ≡ j ∷ rest) × (IsJob j → ⊥)
