use Rattle.std.proofs.Common.{◌≡◌, ◌++◌, sym, ◌∙◌, subst, OnOk}
use Rattle.run_reports.specs.views.Why.{told}
use Rattle.run_reports.proofs.views.story.put_told.Goals as goal

pub returns-in-Run : goal.returns-in-Run
returns-in-Run c =
    subst (λ e. OnOk c.put_own.result (c.put_own.new.text.items ≡ c.args.text.now.items
    ++ told c.args.asked.now.version c.args.asked.now.k c.args.asked.now.number c.args.asked.now.value c.args.on
    c.args.starts c.args.weighed.now e))
    (sym c.in-Run.is ∙ c.event.ensures) c.put_own.ensures

pub returns-in-Release : goal.returns-in-Release
returns-in-Release c =
    subst (λ e. OnOk c.put_arrived.result (c.put_arrived.new.text.items ≡ c.args.text.now.items
    ++ told c.args.asked.now.version c.args.asked.now.k c.args.asked.now.number c.args.asked.now.value c.args.on
    c.args.starts c.args.weighed.now e))
    (sym c.in-Release.is ∙ c.event.ensures) c.put_arrived.ensures

pub returns-in-Take : goal.returns-in-Take
returns-in-Take c =
    subst (λ e. OnOk c.put_taken.result (c.put_taken.new.text.items ≡ c.args.text.now.items
    ++ told c.args.asked.now.version c.args.asked.now.k c.args.asked.now.number c.args.asked.now.value c.args.on
    c.args.starts c.args.weighed.now e))
    (sym c.in-Take.is ∙ c.event.ensures) c.put_taken.ensures

pub returns-in-Complete : goal.returns-in-Complete
returns-in-Complete c =
    subst (λ e. OnOk c.put_completed.result (c.put_completed.new.text.items ≡ c.args.text.now.items
    ++ told c.args.asked.now.version c.args.asked.now.k c.args.asked.now.number c.args.asked.now.value c.args.on
    c.args.starts c.args.weighed.now e))
    (sym c.in-Complete.is ∙ c.event.ensures) c.put_completed.ensures

pub returns-in-Preempt : goal.returns-in-Preempt
returns-in-Preempt c =
    subst (λ e. OnOk c.put_preempted.result (c.put_preempted.new.text.items ≡ c.args.text.now.items
    ++ told c.args.asked.now.version c.args.asked.now.k c.args.asked.now.number c.args.asked.now.value c.args.on
    c.args.starts c.args.weighed.now e))
    (sym c.in-Preempt.is ∙ c.event.ensures) c.put_preempted.ensures

pub returns-in-Abandon : goal.returns-in-Abandon
returns-in-Abandon c =
    subst (λ e. OnOk c.put_gone.result (c.put_gone.new.text.items ≡ c.args.text.now.items
    ++ told c.args.asked.now.version c.args.asked.now.k c.args.asked.now.number c.args.asked.now.value c.args.on
    c.args.starts c.args.weighed.now e))
    (sym c.in-Abandon.is ∙ c.event.ensures) c.put_gone.ensures
