use Rattle.std.proofs.Common.{[], ◌∷◌, refl, sym, ap, ◌∙◌, option_map, arith}
use Rattle.snapshot.specs.Forms.{head_in}
use Rattle.snapshot.specs.Stored.{HasRead}
use Rattle.snapshot.proofs.Spelled.{head_line-read_head}
use Rattle.snapshot.proofs.Storing.{head_stands}
use Rattle.snapshot.proofs.resuming.Resuming.begin.Goals as goal

pub begin-requires : goal.begin-requires
begin-requires c = (head_line-read_head c.args.line.now (head_in c.in-Some.head)
    (sym c.read_head.ensures ∙ ap (option_map head_in) c.in-Some.is)).1.declared

pub returns : goal.returns
returns c =
    let read : HasRead (head_in c.in-Some.head) [] [] (c.args.line.now ∷ []) =
    head_stands c.args.line.now (head_in c.in-Some.head)
    (sym c.read_head.ensures ∙ ap (option_map head_in) c.in-Some.is)
    (sym c.is_within_limits.ensures ∙ c.if-not-is_within_limits.false) in (
      head_in c.in-Some.head,
      [],
      [],
      read,
      record {
        head = refl;
        stances = c.new-3.ensures.items;
        fed = c.begin.ensures;
        serving = record {
          handed = refl;
          last = refl;
          events = [];
          serves = record { served = c.in-Ok.ensures.serves; read = c.new-2.ensures };
          room = omega arith;
        };
      },
    )

pub returns-in_default-new : goal.returns-in_default-new
returns-in_default-new c =
    let read : HasRead (head_in c.in-Some.head) [] [] (c.args.line.now ∷ []) =
    head_stands c.args.line.now (head_in c.in-Some.head)
    (sym c.read_head.ensures ∙ ap (option_map head_in) c.in-Some.is)
    (sym c.is_within_limits.ensures ∙ c.if-not-is_within_limits.false) in
    (head_in c.in-Some.head, [], [], read.reads)
