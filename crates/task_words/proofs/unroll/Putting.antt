-- The lines of jobs, one behind another.
use Rattle.std.proofs.Common.{◌≡◌, ℕ, ◌+◌, ◌≤◌, List, [], ◌∷◌, ◌++◌, length, length-append, sym, ap}
use Rattle.std.proofs.Common.{◌∙◌, subst, Option, arith}
use Rattle.dover_model.specs.JobFacts.{JobFacts}
use Rattle.dover_port.specs.Moves.{Move, Passes, CutsShort}
use Rattle.dover_port.proofs.Through.{passes_then, passes_then_cut, cut_longer}
use Rattle.task_words.specs.tasks.Merging.{Merge, StandsBehind}
use Rattle.task_words.specs.tasks.Tasks.{jobs_before}
use Rattle.task_words.proofs.tasks.Merging.{stands_front}
use Rattle.event_feed.specs.Feeds.{job_text}
use Rattle.dialogue.proofs.lines.FeedTexts.{texts, texts_behind, text_more}

-- jobs that are put, and what is kept of those to come
pub record HasPut (m : Merge) (a b : Option (List Move)) (p q : List ℕ) (count : ℕ) : Type 0 where
  pub done : List JobFacts
  pub count_is : count ≡ length done
  pub stands : StandsBehind m done
  pub passes : Passes a b p q (texts done)

-- no more are put than there are
pub put_few : (m : Merge) (a b : Option (List Move)) (p q : List ℕ) (count : ℕ) → HasPut m a b p q count
    → (jobs : List JobFacts)
    → jobs_before m.until m.tasks ≡ jobs → length jobs ≤ 1_000_000 → count ≤ 1_000_000
put_few m a b p q count it jobs jobs_are few =
    let front = stands_front m it.done it.stands in
    let same : jobs ≡ it.done ++ front.0 = sym jobs_are ∙ front.1 in
    omega (arith, it.count_is, few, ap (λ (js : List JobFacts). length js) same, length-append it.done front.0)

-- where none is left, all are put
pub put_all : (m : Merge) (a b : Option (List Move)) (p q : List ℕ) (count : ℕ) (it : HasPut m a b p q count)
    (jobs : List JobFacts)
    → jobs_before m.until m.tasks ≡ jobs → jobs_before m.until m.tasks ≡ it.done → Passes a b p q (texts jobs)
put_all m a b p q count it jobs jobs_are all = subst (λ js. Passes a b p q (texts js)) (sym all ∙ jobs_are) it.passes

-- the jobs of equal parts
pub same_jobs : (m w : Merge) → m.tasks ≡ w.tasks → m.until ≡ w.until
    → jobs_before m.until m.tasks ≡ jobs_before w.until w.tasks
same_jobs m w tasks until = ap (λ u. jobs_before u m.tasks) until ∙ ap (λ ts. jobs_before w.until ts) tasks

module _ (m w : Merge) (a b c : Option (List Move)) (p q r : List ℕ) (count : ℕ) (it : HasPut m a b p q count)
    (j : JobFacts)
    (stands : StandsBehind w (it.done ++ j ∷ [])) where
  -- one more is put
  pub put_more : (more : ℕ) → more ≡ count + 1 → Passes b c q r (job_text j ++ 10 ∷ []) → HasPut w a c p r more
  put_more more is next = record {
    done = it.done ++ j ∷ [];
    count_is = omega (arith, is, it.count_is, length-append it.done (j ∷ []));
    stands = stands;
    passes = subst (Passes a c p r) (text_more it.done j) (passes_then a b c p q r _ _ it.passes next);
  }

  -- one is cut short
  pub put_cut : (jobs : List JobFacts) → jobs_before w.until w.tasks ≡ jobs → CutsShort b c q (job_text j ++ 10 ∷ [])
      → CutsShort a c p (texts jobs)
  put_cut jobs is next =
      let front = stands_front w (it.done ++ j ∷ []) stands in
      let all : (texts it.done ++ (job_text j ++ 10 ∷ [])) ++ texts front.0 ≡ texts jobs =
      ap (λ l. l ++ texts front.0) (text_more it.done j) ∙ sym (texts_behind (it.done ++ j ∷ []) front.0)
      ∙ ap texts (sym front.1 ∙ is) in
      subst (CutsShort a c p) all (cut_longer a c p (texts it.done ++ (job_text j ++ 10 ∷ [])) (texts front.0)
      (passes_then_cut a b c p q r (texts it.done) (job_text j ++ 10 ∷ []) it.passes next))
