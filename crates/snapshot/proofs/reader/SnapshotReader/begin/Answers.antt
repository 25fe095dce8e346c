use Rattle.std.proofs.Common.{ℕ, List, [], ◌∷◌, Option, Some, Err, sym, ap, subst, arith}
use Rattle.snapshot.specs.declared.reader.SnapFault.{SnapFault}
use Rattle.snapshot.specs.declared.reader.SnapFault.TheVariants.{BadSnapshot, Memory}
use Rattle.snapshot.specs.declared.resuming.Resuming.{Resuming}
use Rattle.snapshot.specs.Kept.{Begins, Answers}
use Rattle.snapshot.specs.Spending.{jobs_kept, HasSpentOn}
use Rattle.snapshot.proofs.Spending.{jobs_reading}
use Rattle.snapshot.proofs.reader.SnapshotReader.begin.Goals as goal

pub returns-in-Ok-clause-answers : goal.returns-in-Ok-clause-answers
returns-in-Ok-clause-answers c = c.in-Ok.ensures

pub returns-in-Ok-clause-jobs : goal.returns-in-Ok-clause-jobs
returns-in-Ok-clause-jobs c = jobs_reading (Some c.in-Ok.resuming) (c.args.line.now ∷ []) c.in-Ok.ensures

pub returns-in-Ok-clause-count : goal.returns-in-Ok-clause-count
returns-in-Ok-clause-count c = λ start now low. omega (arith, low)

-- a refused first line is answered as it began
refused : (fault : SnapFault) (kept : Option Resuming) (line : List ℕ) → Begins (Err fault) line
    → Answers (Err fault) kept (line ∷ [])
refused (BadSnapshot at) kept line it = it
refused Memory kept line it = it

pub returns-in-Err-clause-answers : goal.returns-in-Err-clause-answers
returns-in-Err-clause-answers c = refused c.in-Err.fault c.args.self.now c.args.line.now c.in-Err.ensures

pub returns-in-Err-clause-jobs : goal.returns-in-Err-clause-jobs
returns-in-Err-clause-jobs c = omega (arith, ap jobs_kept c.requires)

pub returns-in-Err-clause-count : goal.returns-in-Err-clause-count
returns-in-Err-clause-count c = λ start now low. subst (λ o. HasSpentOn o start now) (sym c.requires) low
