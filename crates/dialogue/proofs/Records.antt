-- How the record of a reading grows, read by read, and how it ends.
use Rattle.std.proofs.Common.{◌≡◌, ◌<◌, ◌≤◌, ◌+◌, ℕ, List, ◌∷◌, ◌++◌, [], length, take, refl, sym, ap, ◌∙◌, subst}
use Rattle.std.proofs.Common.{Option, arith, Bool, true, false, inl, append_assoc, length-append, append-nil}
use Rattle.std.proofs.Common.{length-take}
use Rattle.dover_port.specs.Moves.{Move, Since, ArePuts, ins, outs, has_ended, EachRead, Adds, read_move, Passes}
use Rattle.dover_port.specs.Moves.{CutsShort, IsProperPrefix}
use Rattle.dover_port.specs.Moves.Move.{Got, Ended}
use Rattle.dover_port.specs.declared.status.Status.TheVariants.{ReadFault, WriteFault, Memory}
use Rattle.dover_port.proofs.Made.{since_then, since_then_at, since_weaker, ins-append, outs-append, ins-puts}
use Rattle.dover_port.proofs.Made.{has_ended-append, has_ended-puts, EachReadFrom-append, EachReadFrom-puts}
use Rattle.dover_port.proofs.Through.{passes_then, passes_then_cut}
use Rattle.dialogue.specs.Talk.{Talk, IsSteady, MayRead, Talks}
use Rattle.dialogue.specs.Turns.{Ready, Costs, Hears, HasHeard, IsFrontOfDue, HasRead, GoesOn, IsRead}
use Rattle.dialogue.proofs.Hearing.{front_due}

-- nothing was read
pub starts : (t : Talk) → IsSteady t → (ready : Ready) → ready [] → GoesOn t ready []
starts t steady ready stands = record {
  reads = tt;
  end = refl;
  front = [];
  behind = [];
  cut = refl;
  goes_on = steady.opens;
  all = λ _. refl;
  text = sym steady.nothing;
  stands = stands;
}

-- the bytes of a read aren't none
pub some_front : (n : ℕ) (buf : List ℕ) → (n ≡ 0 → ⊥) → n ≤ length buf → 0 < length (take n buf)
some_front n buf some fits = omega (arith, length-take n buf, positive n some) where
  positive : (n : ℕ) → (n ≡ 0 → ⊥) → 0 < n
  positive n some = omega arith

-- a read that gave a byte
pub got_some : (a b : Option (List Move)) (n : ℕ) (buf : List ℕ) → (n ≡ 0 → ⊥) → n ≤ length buf
    → Adds a b (read_move (take n buf)) → Adds a b (Got (take n buf))
got_some a b n buf some fits moved =
    subst (λ move. Adds a b move) (by_bytes (take n buf) (some_front n buf some fits)) moved where
      by_bytes : (bytes : List ℕ) → 0 < length bytes → read_move bytes ≡ Got bytes
      by_bytes [] some = absurd (omega arith)
      by_bytes (b ∷ bytes) some = refl

-- the end of the input
pub no_input : (a b : Option (List Move)) (buf : List ℕ) (n : ℕ) → n ≡ 0 → Adds a b (read_move (take n buf))
    → Adds a b Ended
no_input a b buf n none moved = subst (λ m. Adds a b (read_move (take m buf))) none moved

-- what was heard is at least a byte more
pub counted : (t : Talk) (now : Ready) (x bytes rest : List ℕ) (c d : Option (List Move)) (p q : List ℕ) (more : Bool)
    (h : HasHeard t now x bytes rest c d p q more)
    → rest ≡ [] → (n : ℕ) → n ≤ length x → 0 < length bytes → n + 1 ≤ length (x ++ h.front)
counted t now x bytes rest c d p q more h none n few some =
    let same : bytes ≡ h.front = h.cut ∙ ap (λ l. h.front ++ l) none ∙ append-nil h.front in
    omega (arith, few, some, ap (λ (l : List ℕ). length l) same, length-append x h.front)

-- ---- one read, and what was put for it

module _ (t : Talk) (steady : IsSteady t) (ready : Ready) (xs : List Move) (g : GoesOn t ready xs) where
  -- the talker stands for all bytes got
  whole : ins xs ≡ g.front
  whole = g.cut ∙ ap (λ l. g.front ++ l) (g.all refl) ∙ append-nil g.front

  -- one more read may be made
  may_read : MayRead t (ins xs) (outs xs)
  may_read = (g.text ∙ ap t.due (sym whole), ap t.goes_on whole ∙ g.goes_on)

  module _ (bytes : List ℕ) (puts : List Move) (p : ArePuts puts) where
    -- the bytes got
    turn_ins : ins (xs ++ Got bytes ∷ puts) ≡ g.front ++ bytes
    turn_ins = ins-append xs (Got bytes ∷ puts) ∙ ap (λ l. ins xs ++ (bytes ++ l)) (ins-puts puts p)
        ∙ ap (λ l. ins xs ++ l) (append-nil bytes) ∙ ap (λ l. l ++ bytes) whole

    -- the bytes put
    turn_outs : outs (xs ++ Got bytes ∷ puts) ≡ t.due g.front ++ outs puts
    turn_outs = outs-append xs (Got bytes ∷ puts) ∙ ap (λ l. l ++ outs puts) g.text

    -- the input goes on
    turn_unended : has_ended (xs ++ Got bytes ∷ puts) ≡ false
    turn_unended = rw (has_ended-append xs (Got bytes ∷ puts), g.end) (has_ended-puts puts p)

    -- each read was allowed
    turn_reads : EachRead (MayRead t) (xs ++ Got bytes ∷ puts)
    turn_reads = EachReadFrom-append (MayRead t) [] [] xs (Got bytes ∷ puts) g.end g.reads
        (may_read, EachReadFrom-puts (MayRead t) (ins xs ++ bytes) (outs xs) puts p)

    -- what was heard was put
    on_heard : (now : Ready) (more : Bool) (c d : Option (List Move)) (before after : List ℕ)
        (h : Hears t now g.front bytes c d before after more)
        → outs puts ≡ h.1.text → HasRead t now false more (xs ++ Got bytes ∷ puts)
    on_heard now more c d before after h is = record {
      reads = turn_reads;
      end = turn_unended;
      front = g.front ++ h.1.front;
      behind = h.0;
      cut = turn_ins ∙ ap (λ l. g.front ++ l) h.1.cut ∙ sym (append_assoc g.front h.1.front h.0);
      goes_on = h.1.goes_on;
      all = h.2;
      text = turn_outs ∙ ap (λ l. t.due g.front ++ l) is ∙ sym h.1.due;
      stands = h.1.stands;
    }

    module _ (text : List ℕ) (front : IsFrontOfDue t g.front bytes text) where
      -- what is due, by what was put of it
      due_split : (left : List ℕ) → text ≡ outs puts ++ left
          → t.due (ins (xs ++ Got bytes ∷ puts)) ≡ outs (xs ++ Got bytes ∷ puts) ++ (left ++ front.begins.0)
      due_split left is =
          ap t.due turn_ins ∙ front.begins.1 ∙ append_assoc (t.due g.front) text front.begins.0
          ∙ ap (λ l. t.due g.front ++ l)
          (ap (λ l. l ++ front.begins.0) is ∙ append_assoc (outs puts) left front.begins.0)
          ∙ sym (append_assoc (t.due g.front) (outs puts) (left ++ front.begins.0))
          ∙ ap (λ l. l ++ (left ++ front.begins.0)) (sym turn_outs)

      -- a write failed
      on_unwritten : IsProperPrefix (outs puts) text → Talks t WriteFault (xs ++ Got bytes ∷ puts)
      on_unwritten part = record {
        reads = turn_reads;
        ends = inl (
          turn_unended,
          (
            part.0 ++ front.begins.0,
            omega (arith, part.1, length-append part.0 front.begins.0),
            due_split part.0 part.2,
          ),
        );
      }

      -- there was no memory
      on_no_memory : (after : List ℕ) → outs puts ++ after ≡ text → t.lacks (g.front ++ bytes) false
          → Talks t Memory (xs ++ Got bytes ∷ puts)
      on_no_memory after is lacks = record {
        reads = turn_reads;
        ends = record {
          lacking = subst (t.lacks (ins (xs ++ Got bytes ∷ puts))) (sym turn_unended)
              (subst (λ y. t.lacks y false) (sym turn_ins) lacks);
          text = (after ++ front.begins.0, due_split after (sym is));
        };
      }

  -- a read failed
  on_unread : Talks t ReadFault xs
  on_unread = record {
    reads = g.reads;
    ends = record { unended = g.end; open_still = may_read.1; text = may_read.0 };
  }

  -- the input has ended
  on_end : IsRead t ready true (xs ++ Ended ∷ [])
  on_end = record {
    reads = EachReadFrom-append (MayRead t) [] [] xs (Ended ∷ []) g.end g.reads (may_read, tt);
    end = rw (has_ended-append xs (Ended ∷ []), g.end) refl;
    front = g.front;
    behind = [];
    cut = ins-append xs (Ended ∷ []) ∙ ap (λ l. l ++ []) whole;
    goes_on = g.goes_on;
    all = λ _. refl;
    text = outs-append xs (Ended ∷ []) ∙ append-nil (outs xs) ∙ g.text;
    stands = g.stands;
  }

-- ---- the same of a port

module _ (t : Talk) (steady : IsSteady t) (ready : Ready) (a b : Option (List Move))
    (run : Since a b (GoesOn t ready)) where
  -- a read failed
  pub unread : (costs : Costs) → ((x : List ℕ) → ready x → costs x)
      → Since a b (λ ms. Talks t ReadFault ms × costs (ins ms))
  unread costs spent = since_weaker a b _ _ run (λ xs g. (
    on_unread t steady ready xs g,
    subst costs (sym (whole t steady ready xs g)) (spent g.front g.stands),
  ))

  module _ (c : Option (List Move)) where
    -- the input has ended
    pub ended : Adds b c Ended → Since a c (IsRead t ready true)
    ended end = since_then a b c _ _ _ run end (λ xs ys g is.
        subst (λ ms. IsRead t ready true (xs ++ ms)) (sym is) (on_end t steady ready xs g))

    module _ (bytes : List ℕ) (got : Adds b c (Got bytes)) where
      -- What is said of a read and of the puts behind it is said of the port's moves from a on.
      read_turn : (d : Option (List Move)) (U : List ℕ → List Move → Type 0) (T : List Move → Type 0)
          → ((x : List ℕ) → ready x → t.goes_on x ≡ true → Since c d (U x))
          → ((xs : List Move) → (g : GoesOn t ready xs) → (puts : List Move) → U g.front puts
          → T (xs ++ Got bytes ∷ puts)) → Since a d T
      read_turn d U T then next = since_then_at a b d (GoesOn t ready)
          (λ xs ms. (g : GoesOn t ready xs) × (puts : List Move) × (ms ≡ Got bytes ∷ puts) × U g.front puts) T run
          (λ xs g. since_then b c d _ _ _ got (then g.front g.stands g.goes_on)
          (λ ys zs is u. (g, zs, ap (λ l. l ++ zs) is, u)))
          (λ xs ys _ made. subst (λ ms. T (xs ++ ms)) (sym made.2) (next xs made.0 made.1 made.3))

      module _ (d : Option (List Move)) (costs : Costs) where
        -- there was no memory
        pub no_memory : (q : List ℕ) → ((x : List ℕ) → ready x → t.goes_on x ≡ true
            → t.lacks (x ++ bytes) false × costs (x ++ bytes)
            × ((text : List ℕ) × IsFrontOfDue t x bytes text × Passes c d [] q text))
            → Since a d (λ ms. Talks t Memory ms × costs (ins ms))
        no_memory q hears = read_turn d
            (λ x puts. ArePuts puts × costs (x ++ bytes)
            × ((text : List ℕ) × IsFrontOfDue t x bytes text × (outs puts ++ q ≡ text) × t.lacks (x ++ bytes) false))
            (λ ms. Talks t Memory ms × costs (ins ms))
            (λ x s o. let h = hears x s o in since_weaker c d _ _ h.2.2
            (λ puts it. (it.0, h.1, (h.2.0, h.2.1, it.1, h.0))))
            (λ xs g puts u. (
              on_no_memory t steady ready xs g bytes puts u.0 u.2.0 u.2.1 q u.2.2 u.2.3,
              subst costs (sym (turn_ins t steady ready xs g bytes puts u.0)) u.1,
            ))

        -- what is due couldn't be put
        pub unwritten : ((x : List ℕ) → ready x → t.goes_on x ≡ true
            → costs (x ++ bytes) × ((text : List ℕ) × IsFrontOfDue t x bytes text × CutsShort c d [] text))
            → Since a d (λ ms. Talks t WriteFault ms × costs (ins ms))
        unwritten hears = read_turn d
            (λ x puts. ArePuts puts × costs (x ++ bytes)
            × ((text : List ℕ) × IsFrontOfDue t x bytes text × IsProperPrefix (outs puts) text))
            (λ ms. Talks t WriteFault ms × costs (ins ms))
            (λ x s o. let h = hears x s o in since_weaker c d _ _ h.1.2 (λ puts it. (it.0, h.0, (h.1.0, h.1.1, it.1))))
            (λ xs g puts u. (
              on_unwritten t steady ready xs g bytes puts u.0 u.2.0 u.2.1 u.2.2,
              subst costs (sym (turn_ins t steady ready xs g bytes puts u.0)) u.1,
            ))

      module _ (now : Ready) (more : Bool) (d e : Option (List Move)) (q : List ℕ)
          (hears : (x : List ℕ) → ready x → t.goes_on x ≡ true → Hears t now x bytes c d [] q more) where
        -- the buffer couldn't be emptied
        pub unflushed : (costs : Costs) → ((x : List ℕ) → now x → costs x)
            → ((x y : List ℕ) → costs x → costs (x ++ y)) → CutsShort d e q []
            → Since a e (λ ms. Talks t WriteFault ms × costs (ins ms))
        unflushed costs spent behind cut = unwritten e costs (λ x s o. let h = hears x s o in (
          subst costs (append_assoc x h.1.front h.0 ∙ ap (λ l. x ++ l) (sym h.1.cut))
              (behind (x ++ h.1.front) h.0 (spent (x ++ h.1.front) h.1.stands)),
          (
            h.1.text,
            front_due t steady x bytes h.1.front h.0 h.1.text h.1.cut h.1.due,
            subst (CutsShort c e []) (append-nil h.1.text) (passes_then_cut c d e [] q [] h.1.text [] h.1.puts cut),
          ),
        ))

        -- what is due was put
        pub heard : Passes d e q [] [] → Since a e (HasRead t now false more)
        heard flushed = read_turn e
            (λ x puts. (h : Hears t now x bytes c d [] q more) × ArePuts puts × (outs puts ≡ h.1.text))
            (HasRead t now false more)
            (λ x s o. let h = hears x s o in
            since_weaker c e _ _ (passes_then c d e [] q [] h.1.text [] h.1.puts flushed)
            (λ puts it. (h, it.0, sym (append-nil (outs puts)) ∙ it.1 ∙ append-nil h.1.text)))
            (λ xs g puts u. on_heard t steady ready xs g bytes puts u.1 now more c d [] q u.0 u.2)
