-- A feed that goes on from its snapshot, one that is paused, and the lines of a snapshot, put one behind another.
use Rattle.std.proofs.Common.{◌≡◌, ℕ, [], append-nil, sym, ap, ◌∙◌, subst, Some, true, List, ◌∷◌, ◌++◌}
use Rattle.std.proofs.Common.{Option}
use Rattle.dover_model.specs.Common.{instance_of, Session, lines_of, in_lines, account, account_of_lines, due_lines}
use Rattle.dover_model.specs.Common.{settled}
use Rattle.ready_server.specs.Serving.{Serves, HasPaid as HasSpentBy}
use Rattle.ready_server.specs.Roster as roster
use Rattle.ready_server.specs.declared.server.ReadyServer.{ReadyServer}
use Rattle.ready_server.proofs.Stepping.{rests_serves}
use Rattle.feed_words.specs.serve.Listing.{steps_in}
use Rattle.feed_words.proofs.serve.Listing.{settled_back}
use Rattle.event_feed.specs.Kept as feed
use Rattle.lane_server.specs.Lane.{IsQuiet, Stands as LaneStands}
use Rattle.lane_server.specs.Feeding.{FeedRests}
use Rattle.lane_server.specs.Spending.{HasPaid}
use Rattle.lane_server.specs.declared.feed.Feed.{Feed}
use Rattle.lane_server.specs.declared.lane.Lane.{Lane}
use Rattle.lane_server.specs.declared.lane.Work.TheVariants.{Nothing}
use Rattle.lane_server.proofs.Feeding.{quiet_on, AtMark, quiet_serves}
use Rattle.snapshot.specs.Snapshot.{MayPause}
use Rattle.snapshot.specs.Feeds.{ResumesFeed}
use Rattle.snapshot.proofs.Feeds.{opened}
use Rattle.feed_words.specs.serve.Keeping.{Call, IsListed}
use Rattle.dover_model.proofs.lists.Beginnings.{in_lines-append}
use Rattle.dover_port.specs.Moves.{Move, Passes, CutsShort}
use Rattle.dover_port.proofs.Through.{passes_then, passes_then_cut, cut_longer, passes_nothing}
use Rattle.std.proofs.Common.{append_assoc, refl}
use Rattle.dover_model.specs.declared.horizon.Horizon.TheVariants.{Mark}
use Rattle.snapshot.specs.Pausing.{IsTakenTo}

-- ---- it goes on

-- it is ready for a call that goes on with it, from its mark
pub listed_on : (c : Call) (now : ℕ) (may : MayPause c.feed) (s : ReadyServer) (k : roster.Kept) (i : feed.Kept)
    (mark : ℕ) (it : ResumesFeed s k i mark c.feed) (l : Lane)
    → l ≡ record { intake = i; server = Some s; mark = mark; is_open = true; work = Nothing }
    → (f : Feed) → f.lane ≡ l
    → (IsQuiet l (lines_of c.feed) → FeedRests f c.feed)
    → HasSpentBy s c.start now → IsListed c f k now []
listed_on c now may s k i mark it l is f there rests spent = record {
  ready = record {
    rests = subst (FeedRests f) (sym (append-nil c.feed))
        (rests (subst (λ l. IsQuiet l (lines_of c.feed)) (sym is)
        (quiet_on (lines_of c.feed) (opened c.feed may) i s it.session mark it.stands it.going
        it.named it.marked
        (subst (λ m. Serves s (instance_of it.session) (Mark m) (settled (instance_of it.session) m)) it.marked
        (rests_serves s (instance_of it.session) (Mark mark) it.rests.rests)))));
    paid = subst (λ (l : Lane). HasPaid l.server c.start now) (sym (there ∙ is)) spent;
  };
  lists = λ goes. subst (λ y. roster.IsRollOf (steps_in (due_lines (account y))) k) (sym (append-nil c.feed))
      (it.rests.read ∙ ap (λ m. roster.roll_of (settled (instance_of it.session) m)) it.marked
      ∙ ap roster.roll_of (sym (settled_back c.feed c.goes_on it.session it.named)));
}

-- ---- it is paused

-- the server has taken the feed to its mark
pub taken_to : (feed : Feed) (k : roster.Kept) (x : List ℕ) → FeedRests feed x → MayPause x
    → roster.IsRollOf (steps_in (due_lines (account x))) k
    → (lane : Lane) → lane ≡ feed.lane → (s : ReadyServer) → lane.server ≡ Some s → (lines : ℕ)
    → ((ls rest : List (List ℕ)) → LaneStands lane ls rest → lines ≡ (account_of_lines ls).lines)
    → (mark : ℕ) → mark ≡ lane.mark → IsTakenTo s k lines mark x
taken_to feed k x rests may listed lane is s there lines counted mark marked = record {
  may = may;
  lines_are = counted (lines_of x) [] quiet.stands;
  mark_is = marked ∙ quiet.stands.marked;
  session = at.0;
  named = at.1;
  served = record {
    served = subst (λ m. Serves s (instance_of at.0) (Mark m) (settled (instance_of at.0) m))
        (sym (marked ∙ quiet.stands.marked)) at.2;
    read = listed ∙ ap roster.roll_of (settled_back x may.going_on at.0 at.1)
        ∙ ap (λ m. roster.roll_of (settled (instance_of at.0) m)) (sym (marked ∙ quiet.stands.marked));
  };
} where
  quiet : IsQuiet lane (lines_of x)
  quiet = subst (λ l. IsQuiet l (lines_of x)) (sym is) rests.lane

  at : (S : Session) × ((account x).session ≡ Some S) × AtMark (lines_of x) (opened x may) s S
      (account x).mark
  at = quiet_serves (lines_of x) (opened x may) lane quiet s there

-- ---- its lines are put

-- these lines were put, and these are left
pub record HasPut (all left : List (List ℕ)) (a b : Option (List Move)) (p q : List ℕ) : Type 0 where
  pub done : List (List ℕ)
  pub lines : all ≡ done ++ left
  pub passes : Passes a b p q (in_lines done)

-- none yet
pub none_put : (all : List (List ℕ)) (a : Option (List Move)) (p : List ℕ) → HasPut all all a a p p
none_put all a p = record { done = []; lines = refl; passes = passes_nothing a p }

module _ (all old new : List (List ℕ)) (line : List ℕ) (is : old ≡ line ∷ new) (a b c : Option (List Move))
    (p q r : List ℕ) (first : HasPut all old a b p q) where
  one_more : in_lines (first.done ++ line ∷ []) ≡ in_lines first.done ++ (line ++ 10 ∷ [])
  one_more = in_lines-append first.done (line ∷ []) ∙ ap (λ l. in_lines first.done ++ l) (append-nil (line ++ 10 ∷ []))

  lines_are : all ≡ (first.done ++ line ∷ []) ++ new
  lines_are = first.lines ∙ ap (λ ls. first.done ++ ls) is ∙ sym (append_assoc first.done (line ∷ []) new)

  -- a line more
  pub puts_line : Passes b c q r (line ++ 10 ∷ []) → HasPut all new a c p r
  puts_line second = record {
    done = first.done ++ line ∷ [];
    lines = lines_are;
    passes = subst (Passes a c p r) (sym one_more)
        (passes_then a b c p q r (in_lines first.done) (line ++ 10 ∷ []) first.passes second);
  }

  -- it is cut short
  pub cuts_line : CutsShort b c q (line ++ 10 ∷ []) → CutsShort a c p (in_lines all)
  cuts_line second = subst (CutsShort a c p)
      (sym (ap in_lines lines_are ∙ in_lines-append (first.done ++ line ∷ []) new))
      (cut_longer a c p (in_lines (first.done ++ line ∷ [])) (in_lines new)
      (subst (CutsShort a c p) (sym one_more)
      (passes_then_cut a b c p q r (in_lines first.done) (line ++ 10 ∷ []) first.passes second)))

-- all were put
pub all_put : (all left : List (List ℕ)) (a b : Option (List Move)) (p q : List ℕ) → HasPut all left a b p q
    → left ≡ [] → Passes a b p q (in_lines all)
all_put all left a b p q it none = subst (λ ls. Passes a b p q (in_lines ls))
    (sym (it.lines ∙ ap (λ ls. it.done ++ ls) none ∙ append-nil it.done)) it.passes
