use Rattle.std.proofs.Common.{◌≡◌, ◌≤◌, ◌<◌, ℕ, List, [], ◌∷◌, ◌++◌, length, get_or, refl, ap, subst, arith}
use Rattle.dover_model.specs.Lines.{is_too_long, lines_of}
use Rattle.snapshot.specs.Reading.{reading_of}
use Rattle.snapshot.specs.Spending.{jobs_read, jobs_kept}
use Rattle.feed_words.specs.resume.Opening.{Takes}
use Rattle.feed_words.proofs.resume.Opened.{line_taken, line_jobs}
use Rattle.feed_words.proofs.resume.opening.Opening.open_front.Goals as goal

pub returns-then-bytes-gt1-clause-takes : goal.returns-then-bytes-gt1-clause-takes
returns-then-bytes-gt1-clause-takes g c = λ x stands.
    let cut = c.pass.ensures.cut x stands.cut in
    line_taken c.line.result _ x _ c.pass.result.now cut.1 cut.2 (c.pass.ensures.stands x stands.cut)
    (ap is_too_long cut.1) (c.line.ensures.answers _ stands.reads)

pub returns-then-bytes-gt1-clause-jobs : goal.returns-then-bytes-gt1-clause-jobs
returns-then-bytes-gt1-clause-jobs g c = λ x stands.
    line_jobs c.line.new.self x (x ++ c.args.bytes.now) c.pass.result.now (c.pass.ensures.cut x stands.cut).2
    (c.line.ensures.jobs _ stands.reads)

pub returns-then-bytes-gt1-clause-count : goal.returns-then-bytes-gt1-clause-count
returns-then-bytes-gt1-clause-count g c = c.line.ensures.count

-- a piece of one byte is that byte
one_byte : (bytes : List ℕ) → 0 < length bytes → length bytes ≤ 1 → get_or bytes 0 0 ∷ [] ≡ bytes
one_byte [] some few = absurd (omega (arith, some))
one_byte (b ∷ []) some few = refl
one_byte (b ∷ b' ∷ bytes) some few = absurd (omega (arith, few))

pub returns-clause-takes : goal.returns-clause-takes
returns-clause-takes g c = λ x stands. subst (λ bs. Takes c.open_byte.result c.open_byte.new.self (x ++ bs))
    (one_byte c.args.bytes.now c.requires.some c.if-bytes-gt1.false) (c.open_byte.ensures.takes x stands)

pub returns-clause-jobs : goal.returns-clause-jobs
returns-clause-jobs g c = λ x stands.
    subst (λ bs. jobs_kept c.open_byte.new.self.reader ≤ jobs_read (reading_of (lines_of (x ++ bs))))
    (one_byte c.args.bytes.now c.requires.some c.if-bytes-gt1.false) (c.open_byte.ensures.jobs x stands)

pub returns-clause-count : goal.returns-clause-count
returns-clause-count g c = c.open_byte.ensures.count

pub pass-requires : goal.pass-requires
pass-requires g c = c.requires.whole c.if-bytes-gt1.true

pub line-requires : goal.line-requires
line-requires g c = (_, c.requires.stands.1.reads)

pub open_byte-requires : goal.open_byte-requires
open_byte-requires g c = c.requires.stands
