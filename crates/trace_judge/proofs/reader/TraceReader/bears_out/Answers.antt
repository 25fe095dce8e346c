use Rattle.std.proofs.Common.{sym, ◌∙◌}
use Rattle.trace_judge.proofs.reader.TraceReader.bears_out.Goals as goal

pub returns-clause-yes : goal.returns-clause-yes
returns-clause-yes c full is at ls S z y waited = sym (c.is_full.ensures at ls S z y waited) ∙ full

pub returns-clause-no : goal.returns-clause-no
returns-clause-no c roomy at ls S z y waited = sym (c.is_full.ensures at ls S z y waited) ∙ roomy
