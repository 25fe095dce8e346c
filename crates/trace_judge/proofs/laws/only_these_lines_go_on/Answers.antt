use Rattle.trace_judge.proofs.Only.{continues_only}
use Rattle.trace_judge.proofs.laws.only_these_lines_go_on.Goals as goal

pub returns : goal.returns
returns c = continues_only
