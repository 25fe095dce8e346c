-- A snapshot that is taken is that of a feed, and what is given for it stands for each feed of which it is.
use Rattle.std.proofs.Common.{◌≡◌, ℕ, ◌+◌, ◌-◌, List, [], ◌∷◌, ◌++◌, length, sym, ap, ◌∙◌}
use Rattle.std.proofs.Common.{subst, arith, Option, Some, None, codes}
use Rattle.std.specs.List.{AllByRecursion}
use Rattle.dover_model.specs.declared.events.Task.{Task}
use Rattle.dover_model.specs.Common.{Item, Session, Instance, instance_of}
use Rattle.dover_model.specs.Common.{admitted_jobs, settled_state, in_lines, TickLine, feed_text, Account}
use Rattle.dover_model.specs.Common.{account, account_of_lines, is_open}
use Rattle.dover_model.proofs.lists.Members.{all_copies}
use Rattle.dover_model.proofs.settled.Barriers.{AtBarrier, settled_at_barrier}
use Rattle.dover_model.proofs.texts.Cuts.{HasNoFeed}
use Rattle.dover_model.proofs.sessions.SessionParts.{session_jobs}
use Rattle.ready_server.specs.Roster as roster
use Rattle.ready_server.specs.Rostering.{Rests}
use Rattle.ready_server.specs.declared.server.ReadyServer.{ReadyServer}
use Rattle.admission.specs.Kept as admission
use Rattle.event_feed.specs.Kept as feed
use Rattle.event_feed.specs.Listing.{HasFewJobs}
use Rattle.event_feed.specs.Reading.{rules_line}
use Rattle.event_feed.specs.declared.kept_session.KeptSession.{KeptSession}
use Rattle.event_feed.proofs.Behind.{feedless_feed, rest_joined, lines_joined}
use Rattle.snapshot.specs.Snapshot.{MayPause, Head, head_line, stored_lines, snapshot_lines, snapshot}
use Rattle.snapshot.specs.Reading.{stored}
use Rattle.snapshot.specs.Stored.{line_of_item, item_lines, fed_lines}
use Rattle.snapshot.specs.Kept.{IsWhole, CanPause, Resumes, tick_lines, feed_lines, paused_account}
use Rattle.snapshot.specs.Feeds.{IsSnapshot, ResumesFeed}
use Rattle.snapshot.proofs.Alike.{Alike, SameRun, SameSession, session_is, same_jobs}
use Rattle.snapshot.proofs.Beginning.{Within, within, all_account}
use Rattle.snapshot.proofs.Comparing.{same_tasks, alike_all}
use Rattle.snapshot.proofs.Feeds.{both_there, same_alike}
use Rattle.snapshot.proofs.Finishing.{lines_parts}
use Rattle.snapshot.proofs.Storing.{long}

-- what holds of all of two lists
all_both : {X : Type 0} (P : X → Type 0) (xs ys : List X) → AllByRecursion P xs → AllByRecursion P ys
    → AllByRecursion P (xs ++ ys)
all_both P [] ys all more = more
all_both P (x ∷ xs) ys all more = (all.0, all_both P xs ys all.1 more)

-- the lines of items have no line feed
feedless_items : (items : List Item) → AllByRecursion HasNoFeed (item_lines items)
feedless_items [] = tt
feedless_items (i ∷ items) = (feedless_feed (line_of_item i), feedless_items items)

module _ (h : Head) (items : List Item) (tasks : List Task) (ls : List (List ℕ)) (it : IsWhole h items tasks ls) where
  -- ---- the shortest feed

  limits : Within h
  limits = within h it.read.limits

  abbrev S : Session
  S = stored h items

  abbrev J : Instance
  J = instance_of S

  -- it may pause there
  can_pause : CanPause h items
  can_pause = record {
    limits = it.read.limits;
    valid = it.read.valid;
    good = it.read.good;
    few = (lines_parts h items it.lines).0;
    known = it.read.known;
    reached = (lines_parts h items it.lines).1;
  }

  -- its lines have no line feed
  feedless : AllByRecursion HasNoFeed (feed_lines h items)
  feedless = all_both HasNoFeed (fed_lines h items) (tick_lines h (length items + 1)) (
    feedless_feed (rules_line h.rules),
    feedless_items items,
  ) (all_copies HasNoFeed (h.lines - (length items + 1)) (feed_text (TickLine h.mark))
      (feedless_feed (TickLine h.mark)))

  -- its text
  abbrev shortest : List ℕ
  shortest = in_lines (feed_lines h items)

  shortest_account : account shortest ≡ paused_account h items
  shortest_account = ap account_of_lines (lines_joined (feed_lines h items) feedless) ∙ all_account h items can_pause

  jobs_count : length (admitted_jobs items) ≡ length tasks
  jobs_count = long h items tasks it.front it.read []

  pub shortest_may : MayPause shortest
  shortest_may = record {
    declared = subst (λ (a : Account). HasFewJobs a.session) (sym shortest_account)
        (omega (arith, jobs_count, it.all, limits.jobs));
    going_on = ap is_open shortest_account;
    whole = rest_joined (feed_lines h items) feedless;
  }

  -- ---- the snapshot is its

  bar : AtBarrier J h.mark (settled_state J h.mark)
  bar = settled_at_barrier J (session_jobs it.read.valid) h.mark

  -- the jobs are in the state that its settled steps lead to
  tasks_are : tasks ≡ (settled_state J h.mark).tasks
  tasks_are = same_tasks 0 tasks (settled_state J h.mark).tasks it.read.numbered bar.keeps.sound.numbered
      (sym it.read.jobs ∙ sym bar.keeps.jobs)
      (alike_all tasks (settled_state J h.mark).tasks it.settled)

  lines_are : snapshot_lines (paused_account h items) S ≡ ls
  lines_are = ap (λ n. head_line (record { rules = h.rules; lines = h.lines; mark = h.mark; jobs = n })
      ∷ stored_lines items (settled_state J h.mark).tasks ++ codes "resume" ∷ [])
      (let e : length (admitted_jobs items) ≡ h.jobs = omega (arith, jobs_count, it.all) in e)
      ∙ ap (λ ts. head_line h ∷ stored_lines items ts ++ codes "resume" ∷ []) (sym tasks_are)
      ∙ ap (λ (front : List (List ℕ)). front ++ codes "resume" ∷ []) (sym it.read.text)
      ∙ sym it.text

  pub shortest_text : snapshot shortest ≡ in_lines ls
  shortest_text =
      ap (λ (a : Account). elim a.session [ None ↦ [] | Some S ↦ in_lines (snapshot_lines a S) ]) shortest_account
      ∙ ap in_lines lines_are

  pub is_snapshot : IsSnapshot ls
  is_snapshot = record { feed = shortest; may = shortest_may; text = shortest_text }

  -- ---- each feed with this snapshot

  module _ (F : List ℕ) (may : MayPause F) (text : snapshot F ≡ in_lines ls) where
    alike : Alike (paused_account h items) (account F)
    alike = subst (λ a. Alike a (account F)) shortest_account
        (same_alike shortest F shortest_may may (shortest_text ∙ sym text))

    -- what is kept of an account is kept of one that is alike
    keeps_alike : (i : feed.Kept) → feed.KeepsAccount i (paused_account h items) → feed.KeepsAccount i (account F)
    keeps_alike i kept = record {
      counted = kept.counted ∙ sym alike.0;
      session = by i.session (account F).session kept.session alike.3;
      standing = kept.standing ∙ sym alike.2;
    } where
      by : (k : Option KeptSession) (t : Option Session) → feed.KeepsSession k (Some S) h.mark → SameRun (Some S) t
          → feed.KeepsSession k t (account F).mark
      by None t none same = absurd none
      by (Some k) None some same = absurd same
      by (Some k) (Some T) some same = record {
        rules = same.rules ∙ some.rules;
        jobs = subst (admission.StandsFor k.admission) (sym (same_jobs S T same)) some.jobs;
        marked = some.marked ∙ sym alike.1;
      }

    pub resumes_feed : (s : ReadyServer) (k : roster.Kept) (i : feed.Kept) (mark : ℕ) → mark ≡ h.mark
        → Resumes s k i h items → ResumesFeed s k i mark F
    resumes_feed s k i mark same resumes =
        let both = both_there (Some S) (account F).session alike.3 in
        let first : S ≡ both.0 = let e : Some S ≡ Some both.0 = both.2 in cc in
        let sessions : SameSession S both.1 = subst (λ X. SameSession X both.1) (sym first) both.4 in
        record {
          session = both.1;
          named = both.3;
          stands = record {
            by_account = keeps_alike i (subst (feed.KeepsAccount i) resumes.account resumes.stands.by_account);
          };
          going = resumes.going;
          marked = same ∙ sym alike.1;
          rests = subst (λ m. Rests s k (instance_of both.1) m) (sym same)
              (subst (λ K. Rests s k K h.mark) (sym (session_is S both.1 sessions)) resumes.rests);
        }
