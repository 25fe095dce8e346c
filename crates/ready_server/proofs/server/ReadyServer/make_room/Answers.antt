use Rattle.ready_server.proofs.Stepping.{few_ready, place_given}
use Rattle.ready_server.proofs.server.ReadyServer.make_room.Goals as goal

pub returns-clause-room : goal.returns-clause-room
returns-clause-room c =
    place_given c.args.self.now c.make_room_unless_full.new.self c.make_room_unless_full.result
    c.make_room_unless_full.ensures.room c.make_room_unless_full.ensures.same
    (few_ready _ _ c.if-is_full.false c.is_full.ensures.many.1)
