use Rattle.std.proofs.Common.{◌++◌, ◌∷◌, [], ap, sym, ◌∙◌, map, refl}
use Rattle.feed_words.proofs.serve.serving.ServingTalker.next_part.Goals as goal

pub next_out-requires : goal.next_out-requires
next_out-requires g c =
    let at = c.requires.3 in (c.requires.0.feed ++ c.requires.1, at.left, at.stands)

pub write_next-requires : goal.write_next-requires
write_next-requires g c =
    let at = c.requires.3 in
    (c.in-Some.ensures.gives (c.requires.0.feed ++ c.requires.1) at.left at.stands).3

pub returns-in-Some : goal.returns-in-Some
returns-in-Some g c = record {
  gives = λ a x rest at.
      let given = c.in-Some.ensures.gives (a.feed ++ x) at.left at.stands in (
        map (λ line. line ++ 10 ∷ []) given.0,
        at.parts_are ∙ ap (map (λ line. line ++ 10 ∷ [])) given.1
            ∙ ap (λ part. part ∷ map (λ line. line ++ 10 ∷ []) given.0) (sym c.write_next.ensures.text),
        record {
          left = given.0;
          parts_are = refl;
          stands = given.2;
          paid = c.in-Some.ensures.paid a.start at.paid;
        },
      );
}

pub returns-in-None : goal.returns-in-None
returns-in-None g c = record {
  gives = λ a x rest at.
      let given = c.in-None.ensures.gives (a.feed ++ x) at.left at.stands in (
        at.parts_are ∙ ap (map (λ line. line ++ 10 ∷ [])) given.0,
        record {
          rests = given.1;
          paid = c.in-None.ensures.paid a.start at.paid;
        },
      );
}
