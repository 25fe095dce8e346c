-- What the word `duel` writes.
use Rattle.std.specs.Prelude.{ℕ, List, [], ◌∷◌, codes, ◌⊎◌, Option}
use Rattle.dover_model.specs.declared.events.Version.TheVariants.{One}
use Rattle.dover_model.specs.Common.{Fraction, Instance, jobs_under, in_lines}
use Rattle.dialogue.specs.Sizes.{size_text}
use Rattle.dover_port.specs.Moves.{Move}
use Rattle.dover_port.specs.declared.status.Status.{Status}
use Rattle.stated_jobs.specs.declared.duel.links.Share.{Share}
use Rattle.stated_jobs.specs.declared.duel.asking.NoDuel.{NoDuel}
use Rattle.stated_jobs.specs.declared.duel.asking.NoDuel.TheVariants as no
use Rattle.stated_jobs.specs.duel.Answers.{jobs_for, front_of, IsDuel, IsNoDuel}
use Rattle.event_feed.specs.Feeds.{feed_of}
use Rattle.trial_words.specs.Record.{Puts, Refuses}

-- the jobs of a front of the duel for a share, or all of them
abbrev pub duel_front : Fraction → Share → Option ℕ → Instance
duel_front k share front = jobs_under One k (front_of front (jobs_for k share))

-- what is written where there is no duel
abbrev pub no_duel_text : NoDuel → List ℕ
no_duel_text no.Share = in_lines (codes "refused share" ∷ [])
no_duel_text no.Size = size_text
no_duel_text no.Front = in_lines (codes "refused front" ∷ [])

-- Of a duel the feed of its front was put, and where there is none, why.
abbrev pub Duels : Fraction → Share → Option ℕ → Status → List Move → Type 0
Duels k share front status moves =
    (IsDuel k share front × Puts status (feed_of (duel_front k share front)) moves)
    ⊎ ((cause : NoDuel) × IsNoDuel k share front cause × Refuses status (no_duel_text cause) moves)
