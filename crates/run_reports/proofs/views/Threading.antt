-- The stays of a job, link by link.
use Rattle.std.proofs.Common.{◌≡◌, ℕ, suc, ◌+◌, ◌-◌, ◌≤◌, ◌<◌, List, [], ◌∷◌, ◌++◌, length, drop, get_or, ◌⊎◌, inl, inr}
use Rattle.std.proofs.Common.{refl, sym, ap, ◌∙◌, subst, arith, append_assoc, append-nil, Bool, true, false}
use Rattle.std.proofs.Common.{length-append, length-set, drop-cons, ◌==◌, nat_lt, if◌then◌else◌, get_or-set_same}
use Rattle.std.proofs.Common.{get_or-set_other}
use Rattle.std.proofs.lemmas.List.{get_or_append_left, get_or_push, get_or-replicate, length-replicate}
use Rattle.std.proofs.lemmas.Bool.{cases_lt}
use Rattle.std.proofs.lemmas.Bool.Decides.{Decides-eqb, Decides-ltb}
use Rattle.dover_model.specs.declared.events.Event.{Event}
use Rattle.dover_model.specs.declared.events.Event.TheVariants.{Run, Preempt, Take, Complete}
use Rattle.run_reports.specs.views.Stays.{next_switch, with_stay, stays_of}
use Rattle.run_reports.specs.views.Book.{Book, blank, linked, begun, with_step, IsLink, Threads, Keeps}
use Rattle.run_reports.specs.declared.views.stays.Stay.{Stay}
use Rattle.run_reports.specs.declared.views.stays.StayLink.{StayLink}

-- a link stays where one more is put behind all
link_stays : (links : List StayLink) (extra : StayLink) (place : ℕ) (stay : Stay) (next : ℕ)
    → IsLink links place stay next
    → IsLink (links ++ extra ∷ []) place stay next
link_stays links extra place stay next it = record {
  index = it.index;
  at = it.at;
  within = omega (arith, it.within, length-append links (extra ∷ []));
  is = λ d. get_or_append_left links (extra ∷ []) d it.index it.within ∙ it.is d;
  below = it.below;
}

-- so do the stays from a place on
threads_stay : (links : List StayLink) (extra : StayLink) (place : ℕ) (stays : List Stay) → Threads links place stays
    → Threads (links ++ extra ∷ []) place stays
threads_stay links extra place [] it = it
threads_stay links extra place (stay ∷ stays) (next, link, more) =
    (next, link_stays links extra place stay next link, threads_stay links extra next stays more)

-- the first place is at most the number of links
within : (links : List StayLink) (place : ℕ) (stays : List Stay) → Threads links place stays → place ≤ length links
within links place [] it = omega (arith, it)
within links place (stay ∷ stays) (next, link, more) = omega (arith, link.at, link.within)

module _ (b : Book) (at n : ℕ) (took : Bool) (steps : List Event) (keeps : Keeps b steps) where
  -- the stay that begins
  abbrev starting : Stay
  starting = record { from = at; until = b.switch; took = took }

  -- the new link is the last
  newest : (next : ℕ) → next ≤ length b.links
      → IsLink (b.links ++ record { stay = starting; next = next } ∷ []) (length b.links + 1) starting next
  newest next low = record {
    index = length b.links;
    at = refl;
    within = omega (arith, length-append b.links (record { stay = starting; next = next } ∷ []));
    is = λ d. get_or_push b.links (record { stay = starting; next = next }) d (length b.links) refl;
    below = low;
  }

  -- of job n itself
  own : (room : n < length b.firsts) → Threads (linked b at n took).links (get_or (linked b at n took).firsts n 0)
      (record { from = at; until = next_switch steps; took = took } ∷ stays_of n steps)
  own room = subst (λ place. Threads (linked b at n took).links place
      (record { from = at; until = next_switch steps; took = took } ∷ stays_of n steps))
      (sym (get_or-set_same b.firsts n (length b.links + 1) 0 room))
      (subst (λ until. Threads (linked b at n took).links (length b.links + 1)
      (record { from = at; until = until; took = took } ∷ stays_of n steps)) keeps.switch (
        get_or b.firsts n 0,
        newest (get_or b.firsts n 0) (within b.links (get_or b.firsts n 0) (stays_of n steps)
            (keeps.each n room)),
        threads_stay b.links _ (get_or b.firsts n 0) (stays_of n steps) (keeps.each n room),
      ))

  -- of another job
  other : (i : ℕ) → (n ≡ i → ⊥) → i < length b.firsts
      → Threads (linked b at n took).links (get_or (linked b at n took).firsts i 0) (stays_of i steps)
  other i apart room = subst (λ place. Threads (linked b at n took).links place (stays_of i steps))
      (sym (get_or-set_other b.firsts n i (length b.links + 1) 0 (λ same. apart (sym same))))
      (threads_stay b.links _ (get_or b.firsts i 0) (stays_of i steps) (keeps.each i room))

  -- of any job, where there is room
  with_room : (i : ℕ) → n < length b.firsts → i < length b.firsts → (t : Bool) → (n == i) ≡ t
      → Threads (linked b at n took).links (get_or (linked b at n took).firsts i 0)
      (with_stay t at took steps (stays_of i steps))
  with_room i room small true same = let e : n ≡ i = (Decides-eqb n i).0 same in
      subst (λ m. Threads (linked b at n took).links (get_or (linked b at n took).firsts m 0)
      (record { from = at; until = next_switch steps; took = took } ∷ stays_of m steps)) e (own room)
  with_room i room small false apart = other i (λ e. let clash : true ≡ false = sym ((Decides-eqb n i).1 e) ∙ apart in
      absurd (let c : true ≡ false = clash in cc)) small

  -- of any job, where there is none
  without_room : (i : ℕ) → length b.firsts ≤ n → i < length b.firsts → (t : Bool) → (n == i) ≡ t
      → Threads b.links (get_or b.firsts i 0) (with_stay t at took steps (stays_of i steps))
  without_room i none small true same =
      let e : n ≡ i = (Decides-eqb n i).0 same in absurd (omega (arith, e, none, small))
  without_room i none small false apart = keeps.each i small

  -- the book where the job gets the processor
  abbrev picked : Bool → Book
  picked t = if t then linked b at n took else b

  each_picked : (t : Bool) → nat_lt n (length b.firsts) ≡ t → (i : ℕ) → i < length (picked t).firsts
      → Threads (picked t).links (get_or (picked t).firsts i 0) (with_stay (n == i) at took steps (stays_of i steps))
  each_picked true less i small = with_room i ((Decides-ltb n (length b.firsts)).0 less)
      (omega (arith, small, length-set b.firsts n (length b.links + 1))) (n == i) refl
  each_picked false past i small = without_room i (by_order (cases_lt n (length b.firsts))) small (n == i) refl where
    by_order : (n < length b.firsts) ⊎ (length b.firsts ≤ n) → length b.firsts ≤ n
    by_order (inl less) = absurd (
        let clash : true ≡ false = sym ((Decides-ltb n (length b.firsts)).1 less) ∙ past in cc)
    by_order (inr low) = low

  each_begun : (i : ℕ) → i < length (begun b at n took).firsts
      → Threads (begun b at n took).links (get_or (begun b at n took).firsts i 0)
      (with_stay (n == i) at took steps (stays_of i steps))
  each_begun i small = each_picked (nat_lt n (length b.firsts)) refl i small

-- where a job gets the processor, there are as many
as_many_begun : (b : Book) (at n : ℕ) (took : Bool) → length (begun b at n took).firsts ≡ length b.firsts
as_many_begun b at n took = by_test (nat_lt n (length b.firsts)) where
  by_test : (t : Bool) → length (if t then linked b at n took else b).firsts ≡ length b.firsts
  by_test true = length-set b.firsts n (length b.links + 1)
  by_test false = refl

-- before the last step
pub keeps_none : (count : ℕ) → Keeps (blank count) []
keeps_none count = record {
  switch = refl;
  each = λ n small. get_or-replicate count n 0 0 (omega (arith, small, length-replicate {A = ℕ} count 0));
}

-- an earlier step
pub keeps_more : (b : Book) (e : Event) (steps : List Event) → Keeps b steps → Keeps (with_step b e) (e ∷ steps)
keeps_more b (Run at n) steps keeps = record { switch = refl; each = each_begun b at n false steps keeps }
keeps_more b (Preempt at stops starts) steps keeps =
    record { switch = refl; each = each_begun b at starts false steps keeps }
keeps_more b (Take at stops starts) steps keeps =
    record { switch = refl; each = each_begun b at starts true steps keeps }
keeps_more b (Complete at n) steps keeps = record { switch = refl; each = keeps.each }
keeps_more b _ steps keeps = record { switch = keeps.switch; each = keeps.each }

-- a step changes no number of jobs
pub as_many : (b : Book) (e : Event) → length (with_step b e).firsts ≡ length b.firsts
as_many b (Run at n) = as_many_begun b at n false
as_many b (Preempt at stops starts) = as_many_begun b at starts false
as_many b (Take at stops starts) = as_many_begun b at starts true
as_many b _ = refl

-- the step before those that are read
pub before : (run : List Event) (left : ℕ) (e : Event) (b : Book) → 0 < left → left ≤ length run
    → e ≡ get_or run (left - 1) e
    → Keeps b (drop left run) → Keeps (with_step b e) (drop (left - 1) run)
before run left e b some short is keeps =
    let there : left - 1 < length run = omega (arith, some, short) in
    let next : suc (left - 1) ≡ left = omega (arith, some) in
    subst (Keeps (with_step b e))
    (sym (drop-cons run (left - 1) e there ∙ ap (λ x. x ∷ drop (suc (left - 1)) run) (sym is)
    ∙ ap (λ n. e ∷ drop n run) next))
    (keeps_more b e (drop left run) keeps)

-- ---- the stays of a job, one after another

-- from a place on, of these stays, of which these are read
pub record Goes (links : List StayLink) (place : ℕ) (own whole : List Stay) : Type 0 where
  pub rest : List Stay
  pub threads : Threads links place rest
  pub all : own ++ rest ≡ whole

-- there is a link at a place
pub there : (links : List StayLink) (place : ℕ) (own whole : List Stay) → Goes links place own whole → 0 < place
    → place - 1 < length links
there links place own whole goes some = omega (arith, some, within links place goes.rest goes.threads)

module _ (links : List StayLink) (place : ℕ) (own whole more : List Stay) (link : StayLink) (some : 0 < place)
    (is : link ≡ get_or links (place - 1) link) where
  -- the link at a place is the one that stands there
  same : (stay : Stay) (next : ℕ) → IsLink links place stay next → link ≡ record { stay = stay; next = next }
  same stay next it = let e : place - 1 ≡ it.index = omega (arith, it.at) in
      is ∙ ap (λ i. get_or links i link) e ∙ it.is link

  -- the next place is lower
  pub lower : Goes links place own whole → link.next < place
  lower goes = by_rest goes.rest goes.threads where
    by_rest : (rest : List Stay) → Threads links place rest → link.next < place
    by_rest [] none = absurd (omega (arith, some, none))
    by_rest (stay ∷ rest) (next, it, after) =
        let e : link.next ≡ next = ap (λ (l : StayLink). l.next) (same stay next it) in omega
        (arith, e, it.at, it.below)

  -- one stay more is read
  pub on : more ≡ own ++ link.stay ∷ [] → Goes links place own whole → Goes links link.next more whole
  on longer goes = by_rest goes.rest goes.threads goes.all where
    by_rest : (rest : List Stay) → Threads links place rest → own ++ rest ≡ whole → Goes links link.next more whole
    by_rest [] none all = absurd (omega (arith, some, none))
    by_rest (stay ∷ rest) (next, it, after) all = record {
      rest = rest;
      threads = subst (λ p. Threads links p rest) (sym (ap (λ (l : StayLink). l.next) (same stay next it))) after;
      all = ap (λ l. l ++ rest) longer ∙ append_assoc own (link.stay ∷ []) rest
          ∙ ap (λ (s : Stay). own ++ s ∷ rest) (ap (λ (l : StayLink). l.stay) (same stay next it)) ∙ all;
    }

-- all are read
pub all_read : (links : List StayLink) (own whole : List Stay) (place : ℕ) → place ≡ 0 → Goes links place own whole
    → own ≡ whole
all_read links own whole place none goes = by_rest goes.rest goes.threads goes.all where
  by_rest : (rest : List Stay) → Threads links place rest → own ++ rest ≡ whole → own ≡ whole
  by_rest [] it all = sym (append-nil own) ∙ all
  by_rest (stay ∷ rest) (next, it, after) all = absurd (omega (arith, none, it.at))
