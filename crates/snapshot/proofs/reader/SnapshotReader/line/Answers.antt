use Rattle.std.proofs.Common.{◌≤◌, [], ◌∷◌, ◌++◌, sym, ◌∙◌, subst}
use Rattle.snapshot.specs.Kept.{IsReading, Answers}
use Rattle.snapshot.specs.Reading.{reading_of}
use Rattle.snapshot.specs.Spending.{HasSpentOn, jobs_kept, jobs_read}
use Rattle.snapshot.proofs.reader.SnapshotReader.line.Goals as goal

pub returns-in-Some-clause-count : goal.returns-in-Some-clause-count
returns-in-Some-clause-count g c = λ start spent. c.line.ensures.count start
    (subst (λ o. HasSpentOn o start c.args.comparisons.now) (sym c.self.view_is ∙ c.in-Some.is) spent)

pub returns-in-Some-clause-answers : goal.returns-in-Some-clause-answers
returns-in-Some-clause-answers g c = λ ls it. c.line.ensures.answers ls
    (subst (λ o. IsReading o ls) (sym c.self.view_is ∙ c.in-Some.is) it)

pub returns-in-Some-clause-jobs : goal.returns-in-Some-clause-jobs
returns-in-Some-clause-jobs g c = λ ls it. c.line.ensures.jobs ls
    (subst (λ o. IsReading o ls) (sym c.self.view_is ∙ c.in-Some.is) it)

pub returns-clause-answers : goal.returns-clause-answers
returns-clause-answers g c = λ ls it. subst (λ ls. Answers c.begin.result c.begin.new.self (ls ++ c.args.line.now ∷ []))
    (sym (subst (λ o. IsReading o ls) (sym c.self.view_is ∙ c.in_default.is) it)) c.begin.ensures.answers

pub returns-clause-jobs : goal.returns-clause-jobs
returns-clause-jobs g c = λ ls it.
    subst (λ ls. jobs_kept c.begin.new.self ≤ jobs_read (reading_of (ls ++ c.args.line.now ∷ [])))
    (sym (subst (λ o. IsReading o ls) (sym c.self.view_is ∙ c.in_default.is) it)) c.begin.ensures.jobs

pub returns-clause-count : goal.returns-clause-count
returns-clause-count g c = λ start spent. c.begin.ensures.count start c.args.comparisons.now
    (subst (λ o. HasSpentOn o start c.args.comparisons.now) (sym c.self.view_is ∙ c.in_default.is) spent)
