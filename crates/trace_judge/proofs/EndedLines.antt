-- What is found where a line has ended.
use Rattle.std.proofs.Common.{◌≡◌, ℕ, ◌+◌, ◌≤◌, ◌<◌, List, [], ◌∷◌, ◌++◌, length, length-append, sym, ap, ◌∙◌, subst}
use Rattle.std.proofs.Common.{refl, arith, Bool, true, false, take, drop, take-append-drop, append_assoc, nat_lt}
use Rattle.std.proofs.Common.{Result, Ok, Err, IsOk, IsErr, IfOk, ltb-true, ltb-false}
use Rattle.dover_model.specs.declared.Memory.{Memory}
use Rattle.dover_model.specs.Lines.{whole_lines}
use Rattle.dover_model.specs.Verdict as model
use Rattle.dover_model.proofs.lists.Tests.{never}
use Rattle.dover_model.proofs.lists.Members.{by_bool}
use Rattle.line_text.specs.Cutting as cutting
use Rattle.line_text.specs.Cutting.{HasCut}
use Rattle.line_text.specs.declared.cutting.ByteEffect.TheVariants.{Line}
use Rattle.trace_judge.proofs.Texts.{wrong_line}
use Rattle.trace_judge.specs.declared.judge.Found.TheVariants.{Good}
use Rattle.trace_judge.specs.Reads.{Reading, Reads, Took, IsUnchangedFor, job_lines_in}
use Rattle.trace_judge.specs.Judging.{Judged, StandsFor, Notes, Fed, PaysFor, IsOverfed}
use Rattle.trace_judge.proofs.Judging.{reads_begins, reads_few, rest_empty, good_stands, stands_good, named_whole}
use Rattle.trace_judge.proofs.Judging.{fed_on, overfed_on, overfed_more}
use Rattle.trace_judge.proofs.Spending.{pays_more, pays_on}

-- a line has ended and was read, and this was told of it
module _ (mid new : Judged) (old : Reading) (line before text : List ℕ) (good : mid.found ≡ Good)
    (cut : cutting.StandsFor mid.lines text) (parts : HasCut Line line before text)
    (reads : Reads old (whole_lines before)) where
  -- the judge stands for the text that the line ends
  pub noted_stands : (taken : Result Bool Memory) → IsOk taken → IfOk taken (Took old mid.reader line)
      → Notes mid new taken → StandsFor new text
  noted_stands (Ok true) ok took same = subst (λ j. StandsFor j text) (sym same) (good_stands mid text good record {
    cut = cut;
    counts = rest_empty text parts.1;
    reads = subst (Reads mid.reader) (sym parts.0) (took.yes refl (whole_lines before) reads);
  })
  noted_stands (Ok false) ok took misses =
      let ls : List (List ℕ) = whole_lines before in
      let it = took.no refl ls reads in
      subst (λ j. StandsFor j text) (sym misses.is)
      (wrong_line text ls line parts.0 parts.1 (reads_begins old ls reads) it.0
      ∙ ap (λ n. model.Wrong n (model.expected_after ls))
      (omega (arith, reads_few old ls reads, cut.count, ap length parts.0, length-append ls (line ∷ [])))
      ∙ ap (model.Wrong mid.lines.count) (misses.expects ls it.1))
  noted_stands (Err e) ok took failed = never ok

module _ (j mid new : Judged) (line bytes : List ℕ) (good : j.found ≡ Good) (good_mid : mid.found ≡ Good)
    (stands : (x : List ℕ) → cutting.StandsFor j.lines x → cutting.StandsFor mid.lines (x ++ bytes))
    (parts : (x : List ℕ) → cutting.StandsFor j.lines x → HasCut Line line x (x ++ bytes)) where
  -- the judge was fed the bytes of the line
  pub noted_fed : (taken : Result Bool Memory) → IsOk taken → IfOk taken (Took j.reader mid.reader line)
      → Notes mid new taken → IsUnchangedFor mid.reader new.reader
      → j.reader.spare ≤ mid.reader.spare + job_lines_in line → mid.reader.keep ≡ j.reader.keep
      → Fed j new bytes
  noted_fed taken ok took notes kept spare keep = record {
    stands = λ text at. let was = stands_good j text good at in
        noted_stands mid new j.reader line text (text ++ bytes) good_mid (stands text was.cut) (parts text was.cut)
        was.reads taken ok took notes;
    spare = λ text at. let was = stands_good j text good at in
        omega (arith, spare, kept.spare, named_whole line text (text ++ bytes) (parts text was.cut));
    keep = kept.keep ∙ keep;
  }

  -- or there was no room for the job that it names
  pub noted_over : j.reader.spare < job_lines_in line → IsOverfed j bytes
  noted_over less text at = let was = stands_good j text good at in
      omega (arith, less, named_whole line text (text ++ bytes) (parts text was.cut))

-- an answer is one of both
pub ok_not_err : {A : Type 0} (r : Result A Memory) → IsOk r → IsErr r → ⊥
ok_not_err (Ok x) ok err = never err
ok_not_err (Err e) ok err = never ok

-- where a small size is enough, one that failed was larger
pub unroomed : {A : Type 0} (r : Result A Memory) (m n : ℕ) → (m ≤ n → IsOk r) → IsErr r → n < m
unroomed r m n ok err = by_bool _ (nat_lt n m)
    (λ less. ltb-true n m less)
    (λ not_less. absurd (ok_not_err r (ok (ltb-false n m not_less)) err))

-- ---- a piece, front by front

-- the judge was fed the piece but for the rest, and what that cost is paid for
pub record HasFed (old new : Judged) (piece rest : List ℕ) (before after : ℕ) : Type 0 where
  pub front : List ℕ
  pub is : piece ≡ front ++ rest
  pub fed : Fed old new front
  pub paid : PaysFor old new front before after

module _ (a b : Judged) (piece rest : List ℕ) (before between : ℕ) (it : HasFed a b piece rest before between) where
  -- and then some of the rest
  pub fed_some : (c : Judged) (count after : ℕ) → Fed b c (take count rest)
      → PaysFor b c (take count rest) between after → HasFed a c piece (drop count rest) before after
  fed_some c count after next pays = record {
    front = it.front ++ take count rest;
    is = it.is ∙ ap (λ l. it.front ++ l) (sym (take-append-drop count rest))
        ∙ sym (append_assoc it.front (take count rest) (drop count rest));
    fed = fed_on a b c it.front (take count rest) it.fed next;
    paid = pays_on a b c it.front (take count rest) before between after it.fed it.paid pays;
  }

  -- or there was no room for the jobs of the rest
  pub overfed_rest : IsOverfed b rest → IsOverfed a piece
  overfed_rest over = subst (IsOverfed a) (sym it.is) (overfed_on a b it.front rest it.fed over)

  -- what the rest costs is paid for as well
  pub pays_rest : (c : Judged) (after : ℕ) → PaysFor b c rest between after → PaysFor a c piece before after
  pays_rest c after pays = subst (λ l. PaysFor a c l before after) (sym it.is)
      (pays_on a b c it.front rest before between after it.fed it.paid pays)

-- no room for the jobs of a front
pub overfed_front : (j : Judged) (count : ℕ) (bytes : List ℕ) → IsOverfed j (take count bytes) → IsOverfed j bytes
overfed_front j count bytes over = subst (IsOverfed j) (take-append-drop count bytes)
    (overfed_more j (take count bytes) (drop count bytes) over)

-- what a front costs is paid for by all
pub pays_front : (old new : Judged) (count : ℕ) (bytes : List ℕ) (before after : ℕ)
    → PaysFor old new (take count bytes) before after → PaysFor old new bytes before after
pays_front old new count bytes before after pays =
    subst (λ l. PaysFor old new l before after) (take-append-drop count bytes)
    (pays_more old new (take count bytes) (drop count bytes) before after pays)
