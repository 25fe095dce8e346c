use Rattle.std.proofs.Common.{◌≤◌, ◌++◌, ◌∷◌, [], ap, sym, ◌∙◌, map, refl, subst, append_assoc, append-nil}
use Rattle.dover_model.specs.Common.{account, lines_of}
use Rattle.event_feed.specs.Answers.{admitted_in}
use Rattle.event_feed.specs.DueLines.{out_text, HasNumerals}
use Rattle.ready_server.specs.Roster.{IsRollOf}
use Rattle.feed_words.specs.serve.Listing.{steps_in}
use Rattle.feed_words.proofs.serve.Listing.{few_listed, room_listed, finish_listed, one_listed}
use Rattle.feed_words.proofs.serve.pausing.PausingTalker.next_part.Goals as goal

pub next_out-requires : goal.next_out-requires
next_out-requires g c =
    let (a, x, rest, at) = c.requires in (a.feed ++ x, at.giving.left, at.giving.stands)

pub read_into-requires-clause-few : goal.read_into-requires-clause-few
read_into-requires-clause-few g c = λ on.
    let (a, x, rest, at) = c.requires in
    let given = c.in-Some.ensures.gives (a.feed ++ x) at.giving.left at.giving.stands in
    let goes =
    sym ((rw c.lane.ensures at c.goes_on-goes_on.ensures) (lines_of (a.feed ++ x)) given.0 given.2.lane) ∙ on in
    few_listed c.args.self.now.roster (a.feed ++ x) goes at.given at.giving.left at.due (at.lists goes)

pub read_into-requires-clause-room : goal.read_into-requires-clause-room
read_into-requires-clause-room g c n job on is =
    let (a, x, rest, at) = c.requires in
    let given = c.in-Some.ensures.gives (a.feed ++ x) at.giving.left at.giving.stands in
    let goes =
    sym ((rw c.lane.ensures at c.goes_on-goes_on.ensures) (lines_of (a.feed ++ x)) given.0 given.2.lane) ∙ on in
    room_listed c.args.self.now.roster (a.feed ++ x) goes at.given at.giving.left at.due (at.lists goes)
    (at.room _ _ given.1).0 n job given.0 (given.1 ∙ ap (λ o. out_text o ∷ given.0) is) (subst HasNumerals is given.3)

pub read_into-requires-clause-finish_room : goal.read_into-requires-clause-finish_room
read_into-requires-clause-finish_room g c at_tick n on is some =
    let (a, x, rest, at) = c.requires in
    let given = c.in-Some.ensures.gives (a.feed ++ x) at.giving.left at.giving.stands in
    let goes =
    sym ((rw c.lane.ensures at c.goes_on-goes_on.ensures) (lines_of (a.feed ++ x)) given.0 given.2.lane) ∙ on in
    finish_listed c.args.self.now.roster (a.feed ++ x) goes at.given at.giving.left at.due (at.lists goes)
    (at.room _ _ given.1).1 at_tick n given.0 (given.1 ∙ ap (λ o. out_text o ∷ given.0) is)
    (subst HasNumerals is given.3) some

pub write_next-requires : goal.write_next-requires
write_next-requires g c =
    let (a, x, rest, at) = c.requires in (c.in-Some.ensures.gives (a.feed ++ x) at.giving.left at.giving.stands).3

pub returns-in-Some : goal.returns-in-Some
returns-in-Some g c = record {
  gives = λ a x rest at.
      let given = c.in-Some.ensures.gives (a.feed ++ x) at.giving.left at.giving.stands in (
        map (λ line. line ++ 10 ∷ []) given.0,
        at.giving.parts_are ∙ ap (map (λ line. line ++ 10 ∷ [])) given.1
            ∙ ap (λ part. part ∷ map (λ line. line ++ 10 ∷ []) given.0) (sym c.write_next.ensures.text),
        record {
          giving = record {
            left = given.0;
            parts_are = refl;
            stands = given.2;
            paid = c.in-Some.ensures.paid a.start at.giving.paid;
          };
          given = at.given ++ out_text c.in-Some.out ∷ [];
          due = at.due ∙ ap (λ ls. at.given ++ ls) given.1
              ∙ sym (append_assoc at.given (out_text c.in-Some.out ∷ []) given.0);
          room = λ line more is. (
            subst (λ m. admitted_in (account (a.feed ++ x)) ≤ m) (sym c.read_into.ensures.room.0)
                (at.room _ _ given.1).0,
            subst (λ m. admitted_in (account (a.feed ++ x)) ≤ m) (sym c.read_into.ensures.room.1)
                (at.room _ _ given.1).1,
          );
          lists = λ goes. one_listed c.args.self.now.roster (a.feed ++ x) goes at.given at.giving.left at.due
              (at.lists goes) c.read_into.new.roster c.in-Some.out given.0 given.1 given.3
              (c.read_into.ensures.roll
              ((rw c.lane.ensures at c.goes_on-goes_on.ensures) (lines_of (a.feed ++ x)) given.0 given.2.lane ∙ goes));
        },
      );
}

pub returns-in-None : goal.returns-in-None
returns-in-None g c = record {
  gives = λ a x rest at.
      let given = c.in-None.ensures.gives (a.feed ++ x) at.giving.left at.giving.stands in (
        at.giving.parts_are ∙ ap (map (λ line. line ++ 10 ∷ [])) given.0,
        record {
          ready = record { rests = given.1; paid = c.in-None.ensures.paid a.start at.giving.paid };
          lists = λ goes. subst (λ ls. IsRollOf (steps_in ls) c.args.self.now.roster)
              (sym (at.due ∙ ap (λ ls. at.given ++ ls) given.0 ∙ append-nil at.given)) (at.lists goes);
        },
      );
}
