-- The answer, behind the last read.
use Rattle.std.proofs.Common.{◌≡◌, ℕ, List, ◌∷◌, ◌++◌, [], refl, sym, ap, ◌∙◌, subst, Option, Bool, true, false, inr}
use Rattle.std.proofs.Common.{◌||◌, append_assoc, append-nil}
use Rattle.dover_model.specs.WholeRun.{Begins}
use Rattle.dover_port.specs.Moves.{Move, Since, ArePuts, ins, outs, has_ended, EachRead, EachReadFrom, Passes}
use Rattle.dover_port.specs.Moves.{CutsShort, IsProperPrefix}
use Rattle.dover_port.specs.Causes.{Causes, StaysWell, StopsWith}
use Rattle.dover_port.specs.declared.calls.Calls.{Calls}
use Rattle.dover_port.specs.Moves.Move.{Got, Ended, Put}
use Rattle.dover_port.specs.declared.status.Status.{Status}
use Rattle.dover_port.specs.declared.status.Status.TheVariants.{Done, No, Refused, ReadFault, WriteFault, Memory, Usage}
use Rattle.dover_port.proofs.Made.{since_then_at, since_weaker, ins-append, outs-append, ins-puts, has_ended-append}
use Rattle.dover_port.proofs.Made.{has_ended-puts, ArePuts-append, EachReadFrom-puts}
use Rattle.dover_port.proofs.Through.{passes_then, passes_then_cut}
use Rattle.dialogue.specs.Talk.{Talk, IsSteady, IsOver, IsAnswered, IsFinal, MayRead, Talks, CanEnd}
use Rattle.dialogue.specs.Turns.{Ready, Costs, IsRead}

-- puts behind allowed reads
reads_then_puts : (P : List ℕ → List ℕ → Type 0) (got put : List ℕ) (xs ys : List Move) → ArePuts ys
    → EachReadFrom P got put xs
    → EachReadFrom P got put (xs ++ ys)
reads_then_puts P got put [] ys p it = EachReadFrom-puts P got put ys p
reads_then_puts P got put (Got bytes ∷ xs) ys p it = (it.0, reads_then_puts P (got ++ bytes) put xs ys p it.1)
reads_then_puts P got put (Ended ∷ xs) ys p it = (it.0, ArePuts-append xs ys it.1 p)
reads_then_puts P got put (Put bytes ∷ xs) ys p it = reads_then_puts P got (put ++ bytes) xs ys p it

-- nothing in front
nil_front : (xs ys : List ℕ) → xs ++ ys ≡ [] → xs ≡ []
nil_front [] ys is = refl
nil_front (x ∷ xs) ys is = absurd (let e : x ∷ (xs ++ ys) ≡ [] = is in cc)

-- what holds of each status of an answer
by_final : (P : Status → Type 0) → P Done → P No → P Refused → (status : Status) → IsFinal status → P status
by_final P done denied refused Done final = done
by_final P done denied refused No final = denied
by_final P done denied refused Refused final = refused
by_final P done denied refused ReadFault final = absurd final
by_final P done denied refused WriteFault final = absurd final
by_final P done denied refused Memory final = absurd final
by_final P done denied refused Usage final = absurd final

-- an answer leaves both counts
pub final_causes : (status : Status) (r r' w w' : ℕ) → IsFinal status → r' ≡ r → w' ≡ w → Causes status r r' w w'
final_causes status r r' w w' final e f = by_final (λ s. Causes s r r' w w') (e, f) (e, f) (e, f) status final

-- behind an answer each call went well
pub final_stops : (status : Status) (old new : Calls) → IsFinal status → StaysWell old new → StopsWith status old new
final_stops status old new final well = by_final (λ s. StopsWith s old new) well well well status final

module _ (t : Talk) (steady : IsSteady t) where
  module _ (ready : Ready) (ended : Bool) (xs : List Move) (g : IsRead t ready ended xs) (puts : List Move)
      (p : ArePuts puts) where
    -- the bytes got
    last_ins : ins (xs ++ puts) ≡ g.front ++ g.behind
    last_ins = ins-append xs puts ∙ ap (λ l. ins xs ++ l) (ins-puts puts p) ∙ append-nil (ins xs) ∙ g.cut

    -- the bytes put
    last_outs : outs (xs ++ puts) ≡ t.due g.front ++ outs puts
    last_outs = outs-append xs puts ∙ ap (λ l. l ++ outs puts) g.text

    -- whether the input has ended
    last_ended : has_ended (xs ++ puts) ≡ ended
    last_ended = rw (has_ended-append xs puts, g.end, has_ended-puts puts p) (or_false ended) where
      or_false : (b : Bool) → (b || false) ≡ b
      or_false true = refl
      or_false false = refl

    -- each read was allowed
    last_reads : EachRead (MayRead t) (xs ++ puts)
    last_reads = reads_then_puts (MayRead t) [] [] xs puts p g.reads

    -- what holds of the bytes that the talker stands for holds of all, where bytes behind them change nothing of it
    of_all : (P : List ℕ → Bool → Type 0)
        → (ended ≡ false → P g.front false → P (g.front ++ g.behind) false) → P g.front ended
        → P (ins (xs ++ puts)) (has_ended (xs ++ puts))
    of_all P stays it = subst (P (ins (xs ++ puts))) (sym last_ended)
        (subst (λ y. P y ended) (sym last_ins) (by_end ended g.all stays it)) where
          by_end : (e : Bool) → (e ≡ true → g.behind ≡ [])
              → (e ≡ false → P g.front false → P (g.front ++ g.behind) false) → P g.front e
              → P (g.front ++ g.behind) e
          by_end true all stays it =
              subst (λ y. P y true) (sym (append-nil g.front) ∙ ap (λ l. g.front ++ l) (sym (all refl))) it
          by_end false all stays it = stays refl it

    -- no more is to be read
    last_over : IsOver t (ins (xs ++ puts)) (has_ended (xs ++ puts))
    last_over = of_all (λ y e. IsOver t y e) (λ _ over. steady.stays g.front g.behind over) g.goes_on

    -- the answer is that of all bytes got
    last_answer : (status : Status) (text : List ℕ) → t.answer g.front ended status text
        → t.answer (ins (xs ++ puts)) (has_ended (xs ++ puts)) status text
    last_answer status text it = of_all (λ y e. t.answer y e status text)
        (λ is it. steady.answered g.front g.behind status text (g.goes_on ∙ is) it) it

    -- the answer was put
    pub on_answer : (status : Status) (text : List ℕ) → IsFinal status
        → t.answer g.front ended status (t.due g.front ++ text) → outs puts ≡ text
        → Talks t status (xs ++ puts)
    on_answer status text final it is =
        by_final (λ s. IsAnswered t (ins (xs ++ puts)) (outs (xs ++ puts)) (has_ended (xs ++ puts)) s
        → Talks t s (xs ++ puts))
        (λ it. record { reads = last_reads; ends = it }) (λ it. record { reads = last_reads; ends = it })
        (λ it. record { reads = last_reads; ends = it }) status final (record {
          over = last_over;
          answer = subst (t.answer (ins (xs ++ puts)) (has_ended (xs ++ puts)) status)
              (ap (λ l. t.due g.front ++ l) (sym is) ∙ sym last_outs)
              (last_answer status (t.due g.front ++ text) it);
        })

    -- it couldn't be put
    pub on_cut : (status : Status) (text : List ℕ) → t.answer g.front ended status (t.due g.front ++ text)
        → IsProperPrefix (outs puts) text
        → Talks t WriteFault (xs ++ puts)
    on_cut status text it part = record {
      reads = last_reads;
      ends = inr (record {
        over = last_over;
        status = status;
        text = t.due g.front ++ text;
        answer = last_answer status (t.due g.front ++ text) it;
        front = (
          part.0,
          part.1,
          ap (λ l. t.due g.front ++ l) part.2 ∙ sym (append_assoc (t.due g.front) (outs puts) part.0)
              ∙ ap (λ l. l ++ part.0) (sym last_outs),
        );
      });
    }

    -- there was no memory
    pub on_lacking : t.lacks g.front ended → outs puts ≡ [] → Talks t Memory (xs ++ puts)
    on_lacking lacks none =
        let more : Begins (t.due g.front) (t.due (g.front ++ g.behind)) = steady.grows g.front g.behind in
        record {
          reads = last_reads;
          ends = record {
            lacking = of_all t.lacks (λ _ it. steady.lacking g.front g.behind it) lacks;
            text = (
              more.0,
              ap t.due last_ins ∙ more.1
                  ∙ ap (λ l. l ++ more.0)
                  (sym (last_outs ∙ ap (λ l. t.due g.front ++ l) none ∙ append-nil (t.due g.front))),
            );
          };
        }

  -- ---- whatever the port tells

  module _ (x : List ℕ) (ended : Bool) (over : IsOver t x ended) where
    -- bytes behind which no more is to be read can be read
    can_read : (xs : List Move) × IsRead t (λ y. y ≡ x) ended xs
    can_read = let last = by_end ended over in (
      Got x ∷ Put (t.due x) ∷ last.0,
      record {
        reads = ((sym steady.nothing, steady.opens), last.4);
        end = last.1;
        front = x;
        behind = [];
        cut = ap (λ l. x ++ l) last.2;
        goes_on = over;
        all = λ _. refl;
        text = ap (λ l. t.due x ++ l) last.3 ∙ append-nil (t.due x);
        stands = refl;
      },
    ) where
      by_end : (e : Bool) → IsOver t x e → (ms : List Move) × (has_ended ms ≡ e) × (ins ms ≡ []) × (outs ms ≡ [])
          × EachReadFrom (MayRead t) x (t.due x) ms
      by_end true over = (Ended ∷ [], refl, refl, refl, ((refl, over), tt))
      by_end false over = ([], refl, refl, refl, tt)

    -- they can be answered
    pub can_answer : (status : Status) (text : List ℕ) → IsFinal status → t.answer x ended status (t.due x ++ text)
        → CanEnd (Talks t) status
    can_answer status text final it = inr (
      can_read.0 ++ Put text ∷ [],
      on_answer (λ y. y ≡ x) ended can_read.0 can_read.1 (Put text ∷ []) tt status text final
          (subst (λ y. t.answer y ended status (t.due y ++ text)) (sym can_read.1.stands) it) (append-nil text),
    )

    -- memory can be lacking behind them
    pub can_lack : t.lacks x ended → CanEnd (Talks t) Memory
    can_lack lacks = inr (
      can_read.0 ++ [],
      on_lacking (λ y. y ≡ x) ended can_read.0 can_read.1 [] tt
          (subst (λ y. t.lacks y ended) (sym can_read.1.stands) lacks) refl,
    )

  -- or while they come
  pub can_lack_on : (x : List ℕ) → t.lacks x false → CanEnd (Talks t) Memory
  can_lack_on x lacks = inr (
    Got x ∷ [],
    record {
      reads = ((sym steady.nothing, steady.opens), tt);
      ends = record {
        lacking = subst (λ y. t.lacks y false) (sym (append-nil x)) lacks;
        text = (t.due (x ++ []), refl);
      };
    },
  )

  -- the first read can fail
  pub can_fail : CanEnd (Talks t) ReadFault
  can_fail = inr (
    [],
    record {
      reads = tt;
      ends = record { unended = refl; open_still = steady.opens; text = sym steady.nothing };
    },
  )

  -- ---- behind the last read

  module _ (ready : Ready) (ended : Bool) (a b : Option (List Move))
      (read : Since a b (IsRead t ready ended)) (costs : Costs) (spent : (x : List ℕ) → ready x → costs x)
      (behind : (x y : List ℕ) → costs x → costs (x ++ y)) where
    -- What is said of the puts behind the reading is said of the port's moves from a on.
    then_puts : (c : Option (List Move)) (U : List ℕ → List Move → Type 0) (T : List Move → Type 0)
        → ((x : List ℕ) → ready x → IsOver t x ended → Since b c (λ puts. ArePuts puts × U x puts))
        → ((xs : List Move) → (g : IsRead t ready ended xs) → (puts : List Move) → ArePuts puts → U g.front puts
        → T (xs ++ puts)) → Since a c (λ ms. T ms × costs (ins ms))
    then_puts c U T then next = since_then_at a b c _
        (λ xs puts. (g : IsRead t ready ended xs) × ArePuts puts × U g.front puts) _ read
        (λ xs g. since_weaker b c _ _ (then g.front g.stands g.goes_on) (λ puts made. (g, made.0, made.1)))
        (λ xs puts _ made. (
          next xs made.0 puts made.1 made.2,
          subst costs (sym (last_ins ready ended xs made.0 puts made.1))
              (behind made.0.front made.0.behind (spent made.0.front made.0.stands)),
        ))

    -- there was no memory
    pub lacking : (c : Option (List Move)) (q : List ℕ)
        → ((x : List ℕ) → ready x → IsOver t x ended → t.lacks x ended × Passes b c [] q [])
        → Since a c (λ ms. Talks t Memory ms × costs (ins ms))
    lacking c q answers = then_puts c (λ x puts. t.lacks x ended × (outs puts ≡ [])) (Talks t Memory)
        (λ x r o. let it = answers x r o in
        since_weaker b c _ _ it.1 (λ puts made. (made.0, (it.0, nil_front (outs puts) q made.1))))
        (λ xs g puts p u. on_lacking ready ended xs g puts p u.0 u.1)

    -- the answer couldn't be put
    pub cut : (c : Option (List Move)) → ((x : List ℕ) → ready x → IsOver t x ended
        → (status : Status) × (text : List ℕ) × t.answer x ended status (t.due x ++ text) × CutsShort b c [] text)
        → Since a c (λ ms. Talks t WriteFault ms × costs (ins ms))
    cut c answers = then_puts c (λ x puts. (status : Status) × (text : List ℕ)
        × t.answer x ended status (t.due x ++ text) × IsProperPrefix (outs puts) text) (Talks t WriteFault)
        (λ x r o. let it = answers x r o in
        since_weaker b c _ _ it.3 (λ puts made. (made.0, (it.0, it.1, it.2, made.1))))
        (λ xs g puts p u. on_cut ready ended xs g puts p u.0 u.1 u.2 u.3)

    module _ (c d : Option (List Move)) (q : List ℕ) (status : Status)
        (answers : (x : List ℕ) → ready x → IsOver t x ended → IsFinal status
        × ((text : List ℕ) × t.answer x ended status (t.due x ++ text) × Passes b c [] q text)) where
      -- the buffer couldn't be emptied
      pub unflushed : CutsShort c d q [] → Since a d (λ ms. Talks t WriteFault ms × costs (ins ms))
      unflushed short = cut d (λ x r o. let it = (answers x r o).1 in (
        status,
        it.0,
        it.1,
        subst (CutsShort b d []) (append-nil it.0) (passes_then_cut b c d [] q [] it.0 [] it.2 short),
      ))

      -- the answer was put
      pub put : Passes c d q [] [] → Since a d (λ ms. Talks t status ms × costs (ins ms))
      put flushed = then_puts d (λ x puts. IsFinal status × ((text : List ℕ)
          × t.answer x ended status (t.due x ++ text) × (outs puts ≡ text))) (Talks t status)
          (λ x r o. let it = answers x r o in
          since_weaker b d _ _ (passes_then b c d [] q [] it.1.0 [] it.1.2 flushed)
          (λ puts made. (made.0, (it.0, (it.1.0, it.1.1, sym (append-nil (outs puts)) ∙ made.1 ∙ append-nil it.1.0)))))
          (λ xs g puts p u. on_answer ready ended xs g puts p status u.1.0 u.0 u.1.1 u.1.2)
