use Rattle.std.proofs.Common.{is_some, arith, ◌+◌, ◌-◌, ◌++◌, ◌∙◌, ℕ, List, [], Option, None, length}
use Rattle.std.proofs.Common.{replicate, get_or, ◌≡◌, ap, refl, length-set, set, subst, sym, get_or-set_other}
use Rattle.std.proofs.lemmas.List.Sums.{count_by-le-length}
use Rattle.std.proofs.lemmas.List.{length-replicate}
use Rattle.place_heap.specs.Items.{ItemFacts}
use Rattle.place_heap.proofs.Tables.{none_there}
use Rattle.task_words.specs.tasks.Merging.{IsNext, blank_task, kept_release}
use Rattle.task_words.proofs.tasks.Merging.{first_more, stands_first}
use Rattle.task_words.proofs.tasks.unrolling.first_releases.Goals as goal

pub loop-task-preserved : goal.loop-task-preserved
loop-task-preserved g c = record {
  number_is = ap (λ n. n + 1) c.loop-task.invariant.number_is;
  size = ap length c.keep_release.ensures.keeps ∙ length-set c.loop-task.next c.loop-task.number _
      ∙ c.loop-task.invariant.size;
  kept = λ n low.
      let k = c.loop-task.task-index in
      subst (λ t. IsNext c.args.until n (get_or c.args.tasks.now n blank_task) 0 (get_or t n None))
      (sym (c.keep_release.ensures.keeps ∙ ap (λ i. set c.loop-task.next i
      (kept_release c.args.until i (get_or c.args.tasks.now k blank_task).offset)) c.loop-task.invariant.number_is))
      (first_more c.args.until k c.args.tasks.now c.loop-task.next
      (omega (arith, c.loop-task.invariant.size)) c.loop-task.invariant.kept n low);
  rest = λ n high. ap (λ t. get_or t n None) c.keep_release.ensures.keeps
      ∙ get_or-set_other c.loop-task.next c.loop-task.number n _ None
      (λ same. absurd (omega (arith, same, high, c.loop-task.invariant.number_is)))
      ∙ c.loop-task.invariant.rest n (omega (arith, high));
  count = λ d enough.
      let before = c.loop-task.invariant.count d enough in
      let one = c.keep_release.ensures.count d
      (omega (arith, enough, c.loop-task.invariant.size, count_by-le-length is_some c.loop-task.next)) in
      omega (arith, before, one);
}

-- nothing is kept yet, and each task has a place
blank : (n : ℕ) (old new : List (Option ItemFacts)) → old ≡ [] → new ≡ old ++ replicate (n - length old) None
    → new ≡ replicate n None
blank n old new empty is =
    let zero_long : length old ≡ 0 = ap length empty in
    is ∙ ap (λ l. l ++ replicate (n - length old) None) empty
    ∙ ap (λ k. replicate k None) (let all : n - length old ≡ n = omega (arith, zero_long) in all)

pub loop-task-init : goal.loop-task-init
loop-task-init g c =
    let is = blank _ _ c.reserve.new.self c.new-next.ensures c.in_ok-reserve.ensures.ok in
    record {
      number_is = refl;
      size = ap length is ∙ length-replicate {A = Option ItemFacts} (length c.args.tasks.now) None;
      kept = λ n never. absurd (omega (arith, never));
      rest = λ n _. ap (λ t. get_or t n None) is ∙ none_there (length c.args.tasks.now) n;
      count = λ d enough. omega arith;
    }

pub returns-clause-stands : goal.returns-clause-stands
returns-clause-stands g c = stands_first c.args.tasks.now c.args.until c.loop-task.next c.requires.known
    c.loop-task.invariant.size (λ n low. c.loop-task.invariant.kept n (omega (arith, low)))
