use Rattle.std.proofs.Common.{ap, ◌∙◌}
use Rattle.lanes_word.specs.Keeping.{parts_of}
use Rattle.lanes_word.proofs.hosting.HostingTalker.next_part.Goals as goal

pub next_out-requires : goal.next_out-requires
next_out-requires g c = let at = c.requires.3.gives in (c.requires.1, at.0, at.2)

pub write_in_lane-requires : goal.write_in_lane-requires
write_in_lane-requires g c = let at = c.requires.3.gives in (c.in-Some.ensures.gives c.requires.1 at.0 at.2).3

pub returns-in-None : goal.returns-in-None
returns-in-None g c = record {
  gives = λ a x rest at. let given = c.in-None.ensures.gives x at.gives.0 at.gives.2 in (
    at.gives.1 ∙ ap parts_of given.0,
    record { rests = given.1; paid = c.in-None.ensures.paid a at.paid },
  );
}
