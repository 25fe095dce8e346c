-- A feed that may pause has a snapshot that is read to its end, with its head, what it handed in and its jobs.
use Rattle.std.proofs.Common.{◌≡◌, ◌⊎◌, inl, inr, ℕ, suc, ◌+◌, ◌≤◌, ◌<◌, List, [], ◌∷◌, ◌++◌, length}
use Rattle.std.proofs.Common.{length-append, append_assoc, append-nil, map, refl, sym, ap, ◌∙◌, subst, Bool, true}
use Rattle.std.proofs.Common.{false}
use Rattle.std.proofs.Common.{◌&&◌, ◌||◌, arith, codes, nat_le, nat_lt, le-leb, lt-ltb}
use Rattle.std.proofs.Common.{eq-eqb, leb-true, leb-false}
use Rattle.std.specs.List.{AllByRecursion}
use Rattle.std.proofs.lemmas.Bool.{and_from}
use Rattle.std.proofs.lemmas.List.Elements.{filter_map-append}
use Rattle.dover_model.specs.Common.{last_tick, last_tick_in, most_jobs, most_lines, most_items, IsJob, JobFacts}
use Rattle.dover_model.specs.Common.{Instance}
use Rattle.dover_model.specs.Common.{IsValid, Item, JobItem, RefusedItem, FinishItem, EarlyFinish, Session, instance_of}
use Rattle.dover_model.specs.Common.{IsValidSession, admitted_jobs, job_of_item, mark_after, session_with}
use Rattle.dover_model.specs.Common.{settled_state, IsMember, IsNumberedFrom, jobs_of}
use Rattle.dover_model.specs.declared.events.Role.{Role}
use Rattle.dover_model.specs.declared.events.Role.TheVariants.{Coming, Fresh}
use Rattle.dover_model.specs.declared.events.Task.{Task}
use Rattle.dover_model.specs.declared.events.Version.TheVariants.{Two}
use Rattle.dover_model.proofs.sessions.Accounts.{Holds}
use Rattle.dover_model.proofs.settled.Barriers.{AtBarrier, settled_at_barrier}
use Rattle.dover_model.proofs.runs.Honest.{numbers_low, count_jobs}
use Rattle.dover_model.proofs.steps.Kept.{each_job}
use Rattle.dover_model.proofs.valid.Limiting.{lines_most, tick_most}
use Rattle.dover_model.proofs.texts.NoFeeds.{header_short}
use Rattle.dover_model.proofs.lists.Tests.{none_is_some}
use Rattle.dover_model.proofs.sessions.SessionParts.{session_jobs}
use Rattle.dover_model.proofs.valid.ValidParts.{valid_parts}
use Rattle.dover_model.proofs.valid.JobLimits.{job_limits}
use Rattle.snapshot.specs.Snapshot.{Head, IsHead, IsStored, IsState, head_line, state_line, done_line, stored_lines}
use Rattle.snapshot.specs.Reading.{Taken, is_within_limits, stored, has_lines_for, is_settled}
use Rattle.snapshot.specs.Reading.{reading_of}
use Rattle.snapshot.specs.Stored.{HasRead, NoneRefused}
use Rattle.snapshot.specs.Kept.{IsWhole, stance_of}
use Rattle.snapshot.proofs.Accounted.{front_session, more_follows}
use Rattle.snapshot.proofs.Comparing.{all_alike}
use Rattle.ready_server.proofs.Present.{none_to_come}
use Rattle.snapshot.proofs.Reached.{Reached}
use Rattle.snapshot.proofs.Counts.{good_count}
use Rattle.snapshot.proofs.ItemLines.{finish_numerals}
use Rattle.snapshot.proofs.Marks.{mark_front, jobs_least}
use Rattle.snapshot.proofs.RunItems.{kept, kept_good, kept_few, kept_all, kept_mark, kept_jobs, kept_instance}
use Rattle.snapshot.proofs.RunItems.{kept_follows}
use Rattle.snapshot.proofs.RunItems.{kept_valid}
use Rattle.snapshot.proofs.Spelled.{read_head-head_line, read_task-state_line, read_done-done_line, not_done}
use Rattle.snapshot.proofs.Storing.{head_stands, task_stands, finish_stands, last_stands, stands_from, lines_job}
use Rattle.snapshot.proofs.Storing.{lines_finish}

-- the number of a job is how many stand before it
numbered_at : (n : ℕ) (front : List Task) (t : Task) (back : List Task) → IsNumberedFrom n (front ++ t ∷ back)
    → t.number ≡ n + length front
numbered_at n [] t back numbered = omega (arith, numbered.0)
numbered_at n (u ∷ front) t back numbered = omega (arith, numbered_at (suc n) front t back numbered.1)

-- a job in the middle is a member
in_middle : (front : List Task) (t : Task) (back : List Task) → IsMember t (front ++ t ∷ back)
in_middle [] t back = inl refl
in_middle (u ∷ front) t back = inr (in_middle front t back)

-- items that stand at one place of a list
same_place : (xs : List Task) (t : Task) (ys : List Task) (us : List JobFacts) (j : JobFacts) (vs : List JobFacts)
    → length xs ≡ length us → jobs_of (xs ++ t ∷ ys) ≡ us ++ j ∷ vs → t.job ≡ j
same_place [] t ys [] j vs long same = let e : t.job ∷ jobs_of ys ≡ j ∷ vs = same in cc
same_place [] t ys (u ∷ us) j vs long same = absurd (omega (arith, long))
same_place (x ∷ xs) t ys [] j vs long same = absurd (omega (arith, long))
same_place (x ∷ xs) t ys (u ∷ us) j vs long same =
    same_place xs t ys us j vs (omega (arith, long))
    (let e : x.job ∷ jobs_of (xs ++ t ∷ ys) ≡ u ∷ (us ++ j ∷ vs) = same in cc)

-- the lines of what isn't refused are those of all
pub lines_kept : (items : List Item) (tasks : List Task) → stored_lines (kept items) tasks ≡ stored_lines items tasks
lines_kept [] tasks = refl
lines_kept (JobItem j ∷ items) [] = lines_kept items []
lines_kept (JobItem j ∷ items) (t ∷ tasks) = ap (λ ls. state_line t ∷ ls) (lines_kept items tasks)
lines_kept (RefusedItem r ∷ items) tasks = lines_kept items tasks
lines_kept (FinishItem f ∷ items) tasks = ap (λ ls. done_line f.at f.finish.number ∷ ls) (lines_kept items tasks)

module _ (S : Session) (mark lines : ℕ) (holds : Holds S mark lines) (few : lines ≤ most_lines S.rules.version)
    (listed : length (admitted_jobs S.items) ≤ most_jobs Two) (reached : Reached S.items mark lines)
  where
    -- its jobs
    abbrev J : Instance
    J = instance_of S

    -- the state in which it pauses
    abbrev tasks : List Task
    tasks = (settled_state J mark).tasks

    -- what it handed in, but for what was refused
    abbrev items : List Item
    items = kept S.items

    -- its first line
    abbrev h : Head
    h = record { rules = S.rules; lines = lines; mark = mark; jobs = length J.jobs }

    bar : AtBarrier J mark (settled_state J mark)
    bar = settled_at_barrier J holds.reads.valid mark

    jobs_same : jobs_of tasks ≡ J.jobs
    jobs_same = bar.keeps.jobs

    count : length tasks ≡ length J.jobs
    count = omega (arith, count_jobs tasks, ap length jobs_same)

    jobs_few : length J.jobs ≤ 1_000_000
    jobs_few = listed

    jobs_small : length J.jobs ≤ 4_000_000_000
    jobs_small = omega (arith, jobs_few)

    -- ---- its lines have numerals

    pub is_head : IsHead h
    is_head =
        let rules = header_short S.rules (valid_parts holds.reads.valid).ratio in
        let known : mark ≤ last_tick = omega (arith, holds.known, tick_most S.rules.version) in
        let most : lines ≤ 16_000_000_000 = omega (arith, few, lines_most S.rules.version) in
        record {
          ratio = (valid_parts holds.reads.valid).ratio;
          declared = holds.declared;
          short = (
            rules.0,
            (rules.1.0, (rules.1.1.0, (omega arith, (omega arith, (omega (arith, jobs_small), rules.1.1.1))))),
          );
        }

    module _ (t : Task) (m : IsMember t tasks) where
      -- it is in one of the roles that are stored
      stored_role : IsStored t.role
      stored_role = by t.role refl where
        by : (role : Role) → t.role ≡ role → IsStored role
        by Coming e = none_to_come J holds.reads.valid mark holds.reads.known t m e
        by Fresh e = bar.none_fresh t m e
        by _ e = tt

      pub is_state : IsState t
      is_state =
          let job : IsJob t.job = each_job IsJob tasks
          (subst (AllByRecursion IsJob) (sym jobs_same) (valid_parts holds.reads.valid).each) t m in
          let window : t.job.release + t.job.work ≤ t.job.deadline = (job_limits job).window in
          let due : t.job.deadline ≤ last_tick = (job_limits job).due in
          let modest : t.job.value ≤ 1_000_000_000 = (job_limits job).modest in
          let had : t.had ≤ t.job.work = bar.keeps.sound.at_most_work t m in
          let low : t.number < 0 + length tasks = numbers_low 0 tasks bar.keeps.sound.numbered t m in
          record {
            role = stored_role;
            short = (
              omega (arith, low, count, jobs_small),
              (omega arith, (omega arith, (omega arith, (omega arith, (omega arith, tt))))),
            );
          }

    -- ---- it is read line by line

    within : is_within_limits h ≡ true
    within = and_from (ab && nat_le (length J.jobs + 1) lines) (nat_le lines (most_lines S.rules.version))
        (and_from ab (nat_le (length J.jobs + 1) lines)
        (and_from (nat_le mark (last_tick_in S.rules.version)) (nat_le (length J.jobs) (most_jobs Two))
        (le-leb mark (last_tick_in S.rules.version) holds.known) (le-leb (length J.jobs) (most_jobs Two) listed))
        (le-leb (length J.jobs + 1) lines (omega (arith, reached.enough, jobs_least S.items)))) (le-leb lines
        (most_lines S.rules.version) few)
      where
        ab : Bool
        ab = nat_le mark (last_tick_in S.rules.version) && nat_le (length J.jobs) (most_jobs Two)

    good : NoneRefused items
    good = kept_good S.items

    jobs_kept : admitted_jobs items ≡ J.jobs
    jobs_kept = kept_jobs S.items

    -- the items that aren't refused are few
    kept_count : length items ≤ most_items S.rules.version
    kept_count = good_count (session_with S.rules items)
        (subst IsValid (sym (kept_instance S.rules S.items)) holds.reads.valid)
        (kept_follows S.rules [] 0 0 S.items (omega arith) holds.follows) good
        (omega (arith, ap length jobs_kept, jobs_few))

    valid : IsValidSession (stored h items)
    valid = kept_valid S holds.declared holds.reads.valid holds.follows kept_count

    known : mark_after 0 items ≤ mark
    known = omega (arith, kept_mark 0 0 S.items (omega arith), holds.last)

    module _ (front back : List Item) (split : front ++ back ≡ items) where
      -- the first of them are a valid session
      valid_front : IsValidSession (stored h front)
      valid_front = front_session h front back (subst (λ is. IsValidSession (stored h is)) (sym split) valid)

      low_front : mark_after 0 front ≤ mark
      low_front = omega (arith, mark_front 0 front back, ap (mark_after 0) split, known)

    module _ (front : List Item) (j : JobFacts) (back : List Item) (split : front ++ JobItem j ∷ back ≡ items)
        (before : List Task) (t : Task) (after : List Task) (parted : before ++ t ∷ after ≡ tasks)
        (long : length (admitted_jobs front) ≡ length before)
        (it : HasRead h front before (head_line h ∷ stored_lines front before)) where
      next_split : (front ++ JobItem j ∷ []) ++ back ≡ items
      next_split = append_assoc front (JobItem j ∷ []) back ∙ split

      same_job : t.job ≡ j
      same_job = same_place before t after (admitted_jobs front) j (admitted_jobs back) (sym long)
          (ap jobs_of parted ∙ jobs_same ∙ sym jobs_kept ∙ ap admitted_jobs (sym split)
          ∙ filter_map-append job_of_item front (JobItem j ∷ back))

      member : IsMember t tasks
      member = subst (IsMember t) parted (in_middle before t after)

      number : t.number ≡ length before
      number = omega (
        arith,
        numbered_at 0 before t after
            (subst (IsNumberedFrom 0) (sym parted) bar.keeps.sound.numbered),
      )

      more : length before < length J.jobs
      more = omega (arith, count, ap length parted, length-append before (t ∷ after))

      one_job : HasRead h (front ++ JobItem j ∷ []) (before ++ t ∷ [])
          (head_line h ∷ stored_lines (front ++ JobItem j ∷ []) (before ++ t ∷ []))
      one_job = subst (λ i. HasRead h (front ++ JobItem i ∷ []) (before ++ t ∷ [])
          (head_line h ∷ stored_lines (front ++ JobItem i ∷ []) (before ++ t ∷ []))) same_job
          (subst (λ ls. HasRead h (front ++ JobItem t.job ∷ []) (before ++ t ∷ []) (head_line h ∷ ls))
          (sym (lines_job front before t long))
          (task_stands h front before (head_line h ∷ stored_lines front before) it (state_line t)
          (not_done (state_line t) 115 refl (omega arith)) more t (read_task-state_line t (is_state t member))
          (and_from _ _ (eq-eqb t.number (length before) number)
          (stands_from h front (JobItem t.job)
          (subst (λ i. IsValidSession (stored h (front ++ JobItem i ∷ []))) (sym same_job)
          (valid_front (front ++ JobItem j ∷ []) back next_split))
          (subst (λ i. mark_after 0 (front ++ JobItem i ∷ []) ≤ mark) (sym same_job)
          (low_front (front ++ JobItem j ∷ []) back next_split))))))

    module _ (front : List Item) (f : EarlyFinish) (back : List Item) (split : front ++ FinishItem f ∷ back ≡ items)
        (before : List Task) (it : HasRead h front before (head_line h ∷ stored_lines front before)) where
      finish_split : (front ++ FinishItem f ∷ []) ++ back ≡ items
      finish_split = append_assoc front (FinishItem f ∷ []) back ∙ split

      valid_with : IsValidSession (stored h (front ++ FinishItem f ∷ []))
      valid_with = valid_front (front ++ FinishItem f ∷ []) back finish_split

      one_finish : HasRead h (front ++ FinishItem f ∷ []) before
          (head_line h ∷ stored_lines (front ++ FinishItem f ∷ []) before)
      one_finish =
          let says = (more_follows h front (FinishItem f ∷ []) valid_with).0 in
          subst (λ ls. HasRead h (front ++ FinishItem f ∷ []) before (head_line h ∷ ls))
          (sym (lines_finish front before f))
          (finish_stands h front before (head_line h ∷ stored_lines front before) it
          (done_line f.at f.finish.number) f.at f.finish.number
          (read_done-done_line f.at f.finish.number (finish_numerals (stored h front) f
          (session_jobs (valid_front front (FinishItem f ∷ back) split)) says.known says.right)) f says.right refl refl
          (stands_from h front (FinishItem f) valid_with
          (low_front (front ++ FinishItem f ∷ []) back finish_split)))

    all_read : (front back : List Item) (before after : List Task) → front ++ back ≡ items → before ++ after ≡ tasks
        → length (admitted_jobs front) ≡ length before → length (admitted_jobs back) ≡ length after
        → NoneRefused back → HasRead h front before (head_line h ∷ stored_lines front before)
        → HasRead h items tasks (head_line h ∷ stored_lines items tasks)
    all_read front [] before [] split parted long left good it =
        subst (λ is. HasRead h is tasks (head_line h ∷ stored_lines is tasks)) (sym (append-nil front) ∙ split)
        (subst (λ ts. HasRead h front ts (head_line h ∷ stored_lines front ts)) (sym (append-nil before) ∙ parted) it)
    all_read front [] before (t ∷ after) split parted long left good it = absurd (omega (arith, left))
    all_read front (JobItem j ∷ back) before [] split parted long left good it = absurd (omega (arith, left))
    all_read front (JobItem j ∷ back) before (t ∷ after) split parted long left good it =
        all_read (front ++ JobItem j ∷ []) back (before ++ t ∷ []) after
        (append_assoc front (JobItem j ∷ []) back ∙ split) (append_assoc before (t ∷ []) after ∙ parted)
        (omega (
          arith,
          long,
          ap length (filter_map-append job_of_item front (JobItem j ∷ [])),
          length-append (admitted_jobs front) (j ∷ []),
          length-append before (t ∷ []),
        )) (omega (arith, left)) (λ i m. good i (inr m)) (one_job front j back split before t after parted long it)
    all_read front (RefusedItem r ∷ back) before after split parted long left good it =
        none_is_some (sym (good (RefusedItem r) (inl refl)))
    all_read front (FinishItem f ∷ back) before after split parted long left good it =
        all_read (front ++ FinishItem f ∷ []) back before after
        (append_assoc front (FinishItem f ∷ []) back ∙ split) parted
        (omega (
          arith,
          long,
          ap length (filter_map-append job_of_item front (FinishItem f ∷ [])),
          ap length (append-nil (admitted_jobs front)),
        )) left (λ i m. good i (inr m)) (one_finish front f back split before it)

    pub has_read : HasRead h items tasks (head_line h ∷ stored_lines items tasks)
    has_read = all_read [] items [] tasks refl refl refl (omega (arith, ap length jobs_kept, count)) good
        (head_stands (head_line h) h (read_head-head_line h is_head) within)

    -- ---- the last line

    pub has_lines : has_lines_for h items ≡ true
    has_lines = and_from (nat_lt (length items) lines) last
        (lt-ltb _ _ (omega (arith, kept_few S.items, reached.enough)))
        (by (nat_le (length S.items) (length items)) refl) where
          last : Bool
          last = nat_le mark (mark_after 0 items) || nat_lt (length items + 1) lines

          first : (a b : Bool) → a ≡ true → a || b ≡ true
          first true b e = refl
          first false b e = absurd (let clash : false ≡ true = e in cc)

          either : (a b : Bool) → b ≡ true → a || b ≡ true
          either true b e = refl
          either false b e = e

          by : (b : Bool) → nat_le (length S.items) (length items) ≡ b → last ≡ true
          by false fewer = either (nat_le mark (mark_after 0 items)) (nat_lt (length items + 1) lines)
              (lt-ltb _ _ (omega (
                arith,
                leb-false (length S.items) (length items) fewer,
                reached.enough,
              )))
          by true all = by_way reached.by where
            same : kept S.items ≡ S.items
            same = kept_all S.items (leb-true _ _ all)

            by_way : (mark ≤ mark_after 0 S.items) ⊎ (length S.items + 1 < lines) → last ≡ true
            by_way (inl low) = first (nat_le mark (mark_after 0 items)) (nat_lt (length items + 1) lines)
                (le-leb _ _ (omega (arith, low, ap (mark_after 0) same)))
            by_way (inr more) = either (nat_le mark (mark_after 0 items)) (nat_lt (length items + 1) lines)
                (lt-ltb _ _ (omega (arith, more, ap length same)))

    pub settled_here : is_settled h items tasks ≡ true
    settled_here = all_alike tasks (settled_state (instance_of (stored h items)) mark).tasks
        (ap (λ K. map stance_of (settled_state K mark).tasks) (sym (kept_instance S.rules S.items)))

    pub taken : reading_of (head_line h ∷ stored_lines items tasks ++ codes "resume" ∷ []) ≡ Taken h items tasks
    taken = last_stands h items tasks (head_line h ∷ stored_lines items tasks) has_read (codes "resume")
        (not_done (codes "resume") 114 refl (omega arith)) (omega (arith, count)) refl has_lines settled_here

    pub whole : IsWhole h items tasks (head_line h ∷ stored_lines items tasks ++ codes "resume" ∷ [])
    whole = record {
      front = head_line h ∷ stored_lines items tasks;
      read = has_read;
      text = refl;
      reads = taken;
      all = count;
      lines = has_lines;
      settled = settled_here;
    }
