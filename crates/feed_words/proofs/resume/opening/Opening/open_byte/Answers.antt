use Rattle.std.proofs.Common.{[], ◌∷◌, ◌++◌, refl, sym, ap, ◌∙◌}
use Rattle.dover_model.specs.Lines.{is_too_long}
use Rattle.line_text.specs.Cutting.{is_over}
use Rattle.feed_words.proofs.resume.Opened.{byte_kept, more_taken, line_taken, long_taken, more_jobs, line_jobs}
use Rattle.feed_words.proofs.resume.opening.Opening.open_byte.Goals as goal

pub returns-in-More-clause-takes : goal.returns-in-More-clause-takes
returns-in-More-clause-takes g c = λ x stands.
    let cut = c.in-More.ensures.cut x stands.cut stands.short in
    let kept = byte_kept _ x c.args.byte stands.short (c.in-More.ensures.stands x stands.cut) in
    more_taken _ c.args.self.now.reader x _ refl stands.reads cut.2 kept
    (sym kept.over ∙ ap is_over (sym c.in-More.ensures.last))

pub returns-in-Line-clause-takes : goal.returns-in-Line-clause-takes
returns-in-Line-clause-takes g c = λ x stands.
    let cut = c.in-Line.ensures.cut x stands.cut stands.short in
    let kept = byte_kept _ x c.args.byte stands.short (c.in-Line.ensures.stands x stands.cut) in
    line_taken c.line-in-Line.result _ x _ c.push.new.self.line cut.1 cut.2 kept
    (sym kept.over ∙ ap is_over (sym c.in-Line.ensures.last))
    (rw c.line.ensures at (c.line-in-Line.ensures.answers _ stands.reads))

pub returns-in-TooLong-clause-takes : goal.returns-in-TooLong-clause-takes
returns-in-TooLong-clause-takes g c = λ x stands.
    let cut = c.in-TooLong.ensures.cut x stands.cut stands.short in
    let kept = byte_kept _ x c.args.byte stands.short (c.in-TooLong.ensures.stands x stands.cut) in
    long_taken c.line-in-TooLong-2.result _ c.args.self.now.reader x _ c.push.new.self.line stands.reads
    (sym (ap is_too_long cut.1) ∙ sym kept.over ∙ ap is_over (sym c.in-TooLong.ensures.last)) cut.2
    (rw c.line-in-TooLong.ensures at (c.line-in-TooLong-2.ensures.answers _ stands.reads))

pub returns-in-More-clause-jobs : goal.returns-in-More-clause-jobs
returns-in-More-clause-jobs g c = λ x stands.
    more_jobs c.args.self.now.reader x (x ++ c.args.byte ∷ []) stands.reads
    (c.in-More.ensures.cut x stands.cut stands.short).2

pub returns-in-Line-clause-jobs : goal.returns-in-Line-clause-jobs
returns-in-Line-clause-jobs g c = λ x stands. let cut = c.in-Line.ensures.cut x stands.cut stands.short in
    line_jobs c.line-in-Line.new.self x (x ++ c.args.byte ∷ []) c.push.new.self.line cut.2
    (rw c.line.ensures at (c.line-in-Line.ensures.jobs _ stands.reads))

pub returns-in-TooLong-clause-jobs : goal.returns-in-TooLong-clause-jobs
returns-in-TooLong-clause-jobs g c = λ x stands. let cut = c.in-TooLong.ensures.cut x stands.cut stands.short in
    line_jobs c.line-in-TooLong-2.new.self x (x ++ c.args.byte ∷ []) c.push.new.self.line cut.2
    (rw c.line-in-TooLong.ensures at (c.line-in-TooLong-2.ensures.jobs _ stands.reads))
