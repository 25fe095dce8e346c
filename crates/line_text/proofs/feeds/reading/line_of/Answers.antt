use Rattle.std.proofs.Common.{◌≡◌, false, sym, ap, ◌∙◌, codes, bytes_eq}
use Rattle.std.proofs.lemmas.Slice.Eq.{bytes_eq-Decides}
use Rattle.dover_model.proofs.lists.Tests.{never}
use Rattle.line_text.proofs.feeds.WhatIsRead.{no_line}
use Rattle.line_text.proofs.feeds.reading.line_of.Goals as goal

pub returns : goal.returns
returns c = no_line c.args.line.now record {
  job = c.in_default.ensures.none;
  tick = c.in_default-behind_word.ensures.none;
  ratio = c.in_default-behind_word-2.ensures.none;
  done = c.in_default-behind_word-3.ensures.none;
  end = λ same.
      let other : bytes_eq c.args.line.now (codes "end") ≡ false =
      sym (ap (bytes_eq c.args.line.now) c.as_slice.ensures) ∙ sym c.eq.ensures ∙ c.if-eq.false in
      never (sym other ∙ (bytes_eq-Decides c.args.line.now (codes "end")).1 same);
}
