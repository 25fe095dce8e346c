use Rattle.std.proofs.Common.{[]}
use Rattle.dover_port.proofs.Through.{cut_longer}
use Rattle.dover_port.proofs.output.Output.put.Goals as goal

pub returns-in-Err-clause-text : goal.returns-in-Err-clause-text
returns-in-Err-clause-text g c =
    record { all = tt; part = cut_longer _ _ _ [] c.args.bytes.now c.in-Err.ensures.text.part }
