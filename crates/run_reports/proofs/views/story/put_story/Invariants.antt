use Rattle.std.proofs.Common.{◌≡◌, ◌++◌, false}
use Rattle.run_reports.specs.views.Why.{story_from}
use Rattle.run_reports.proofs.views.Telling.{rest}
use Rattle.run_reports.proofs.views.story.put_story.Given as goal

-- the story so far, and what is to come
abbrev pub invariant-loop-index : goal.invariant-loop-index
invariant-loop-index l = l.text.items
    ++ rest l.asked.version l.asked.k l.asked.number l.asked.value l.jobs l.served l.run l.worths l.rooms l.on l.index
    ≡ l.fn.text.items
    ++ story_from l.asked.version l.asked.k l.asked.number l.asked.value l.jobs l.served false l.run l.worths l.rooms
