-- What the word says, by the bytes got so far.
use Rattle.std.specs.Prelude.{◌≡◌, List, ℕ, true}
use Rattle.dover_model.specs.Common.{Instance, IsListable, table, Session, instance_of}
use Rattle.dover_model.specs.Verdict as model
use Rattle.dover_port.specs.declared.status.Status.TheVariants.{Done, No, Refused}
use Rattle.dialogue.specs.Sizes.{size_text}
use Rattle.dialogue.specs.Talk.{Talk}
use Rattle.trace_words.specs.judge.Line.{verdict_text}
use Rattle.trace_words.specs.judge.Talk.{Says, IsNoTrace, IsTrace, judging_talk}
use Rattle.run_reports.specs.report.Kept.{IsReportText}
use Rattle.run_reports.specs.views.Why.{why}
use Rattle.run_reports.specs.views.Timeline.{timeline}
use Rattle.trace_words.specs.declared.report.form.Form.{Form}
use Rattle.trace_words.specs.declared.report.form.Form.TheVariants.{Text, Table, Chrome, Why, Timeline, Svg}

-- the text is the report on the run of these jobs, with the line of the least ratio that they keep where a factor is
-- declared, the table of it, the story of one job, or a picture for a terminal;
-- a picture for a browser, and events for a viewer, are some text, which is tested and not proved
abbrev pub IsReport : Form → Instance → (text : List ℕ) → Type 0
IsReport Text J text = IsReportText J text
IsReport Table J text = text ≡ table J
IsReport (Why n) J text = text ≡ why n J
IsReport (Timeline window) J text = text ≡ timeline window J
IsReport Chrome J text = Unit {0}
IsReport (Svg window) J text = Unit {0}

-- it is told of a text by its verdict: the report on the run of an accepted trace, and else the line of the verdict
abbrev pub IsTold : Form → model.Verdict → (text : List ℕ) → Type 0
IsTold form (model.Accepted S) text = IsReport form (instance_of S) text
IsTold form (model.Wrong line due) text = text ≡ verdict_text (model.Wrong line due)
IsTold form (model.Short lines) text = text ≡ verdict_text (model.Short lines)

-- where the bytes are a trace, its jobs are within what a report keeps
abbrev pub IsListed : List ℕ → Type 0
IsListed bytes = (S : Session) → model.verdict bytes ≡ model.Accepted S → IsListable (instance_of S)

-- Done with the report on the run of an accepted trace, Refused exactly where its jobs are beyond what a report keeps,
-- and No with the line of the verdict
abbrev pub SaysReport : Form → Says
SaysReport form Done bytes text = IsTrace bytes × IsListed bytes × IsTold form (model.verdict bytes) text
SaysReport form No bytes text = IsNoTrace bytes × IsTold form (model.verdict bytes) text
SaysReport form Refused bytes text = IsTrace bytes × (IsListed bytes → ⊥) × (text ≡ size_text)
SaysReport form _ bytes text = ⊥

-- It is said of a text that is judged. Where the input has ended, memory may be lacking for a report alone.
abbrev pub report_talk : Form → Talk
report_talk form = judging_talk (SaysReport form) (λ bytes ended. ended ≡ true → IsTrace bytes)
