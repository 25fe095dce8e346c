use Rattle.run_picture.proofs.drawing.grouped_picture.Goals as goal

pub count-counts-requires : goal.count-counts-requires
count-counts-requires c = (
  c.args.run.now,
  c.requires.0,
  c.requires.1,
  c.in_ok-charge.ensures.totals,
  c.in_ok-charge.ensures.value c.requires.0 c.requires.1,
)
