-- The lines of a snapshot have one spelling: what is written is read as the same, and what is read was written so.
use Rattle.std.proofs.Common.{◌≡◌, ℕ, ◌+◌, ◌*◌, ◌≤◌, ◌<◌, ◌^◌, List, [], ◌∷◌, ◌++◌, length, length-append, map, refl}
use Rattle.std.proofs.Common.{sym, ap, ◌∙◌, subst, Bool, true, false, cond, arith, decimal, Option, Some, None, codes}
use Rattle.std.proofs.Common.{bytes_eq, ◌==◌, option_and_then, le-ltb, eqb-true}
use Rattle.std.specs.Bool.{then_some}
use Rattle.std.specs.List.{AllByRecursion}
use Rattle.std.proofs.lemmas.Fmt.{length-decimal-le}
use Rattle.std.proofs.lemmas.Slice.Eq.{bytes_eq-Decides}
use Rattle.dover_model.specs.declared.events.Role.{Role}
use Rattle.dover_model.specs.declared.events.Role.TheVariants.{Coming, Fresh, Waiting, Held, Running, Done, Gone}
use Rattle.dover_model.specs.declared.events.Task.{Task}
use Rattle.dover_model.specs.declared.events.Version.{Version}
use Rattle.dover_model.specs.declared.events.Version.TheVariants.{One, Three, Four}
use Rattle.dover_model.specs.Common.{Fraction, IsRatio, is_ratio, fraction, with_factor, factor_numbers, rules_with}
use Rattle.dover_model.specs.Feed.{factor_version}
use Rattle.dover_model.specs.Session.{takes_factors}
use Rattle.std.proofs.Common.{option_map}
use Rattle.dover_model.specs.Common.{factor_rules, IsDeclarable, Declaration, job_of_numbers, job_numbers, numerals}
use Rattle.dover_model.specs.Common.{AreShort, is_too_long, fields_of, line_of, with_numbers, numbers_after, numbers_of}
use Rattle.dover_model.specs.Common.{version_number, version_of_number}
use Rattle.dover_model.specs.declared.factors.Factor.{Factor}
use Rattle.dover_model.proofs.lists.Tests.{never, none_is_some}
use Rattle.dover_model.proofs.valid.JobLimits.{ratio_limits}
use Rattle.dover_model.proofs.lists.Members.{some_same}
use Rattle.dover_model.proofs.texts.ReadShort.{numerals_short}
use Rattle.dover_model.proofs.texts.Fields.{HasNoSpace, fields_of-line_of, line_of-fields_of, decimals-HasNoSpace}
use Rattle.dover_model.proofs.texts.Fields.{numerals-decimals, decimals-numerals, length-with_numbers}
use Rattle.snapshot.specs.Snapshot.{Head, head_numbers, head_line, IsHead, role_word, state_line, IsStored}
use Rattle.snapshot.specs.Snapshot.{state_numbers, IsState}
use Rattle.snapshot.specs.Reading.{rules_from, head_with, head_from, read_head, role_of_word, task_from, task_of_fields}
use Rattle.snapshot.specs.Reading.{read_task, done_of, read_done}
use Rattle.snapshot.specs.Snapshot.{done_line}
use Rattle.dover_model.specs.Common.{HasNumerals, FeedLine, DoneLine, feed_line}
use Rattle.dover_model.proofs.texts.FeedLines.{feed_line-feed_text, feed_text-feed_line}
use Rattle.std.proofs.Common.{get_or}
use Rattle.dover_model.proofs.texts.TraceLines.{version_back, version_from}

-- ---- a word and numbers

-- they are read as they were written
numbers_back : (word ns : List ℕ) → HasNoSpace word → AreShort ns → numbers_of word (with_numbers word ns) ≡ Some ns
numbers_back word ns none short =
    ap (numbers_after word) (fields_of-line_of word (map decimal ns) none (decimals-HasNoSpace ns short))
    ∙ ap (λ b. cond b (numerals (map decimal ns)) None) ((bytes_eq-Decides word word).1 refl)
    ∙ numerals-decimals ns short

-- the fields of numbers that are read
after_from : (word field : List ℕ) (fields : List (List ℕ)) (ns : List ℕ)
    → numbers_after word (field ∷ fields) ≡ Some ns
    → (field ≡ word) × (numerals fields ≡ Some ns)
after_from word field fields ns = by (bytes_eq field word) refl where
  by : (b : Bool) → bytes_eq field word ≡ b → cond b (numerals fields) None ≡ Some ns → (field ≡ word)
      × (numerals fields ≡ Some ns)
  by true same read = ((bytes_eq-Decides field word).0 same, read)
  by false differs read = none_is_some read

-- they were written as they are read
numbers_from : (word line ns : List ℕ) → numbers_of word line ≡ Some ns → (with_numbers word ns ≡ line) × AreShort ns
numbers_from word line ns = by (fields_of line) refl where
  by : (fields : List (List ℕ)) → fields_of line ≡ fields → numbers_after word fields ≡ Some ns
      → (with_numbers word ns ≡ line) × AreShort ns
  by [] cut read = none_is_some read
  by (field ∷ fields) cut read =
      let it = after_from word field fields ns read in (
        ap (λ fs. line_of (word ∷ fs)) (decimals-numerals fields ns it.1) ∙ ap (λ w. line_of (w ∷ fields)) (sym it.0)
            ∙ ap line_of (sym cut) ∙ line_of-fields_of line,
        numerals_short fields ns it.1,
      )

-- ---- the first line

-- the first line of these rules, of the other numbers
abbrev head_of : (lines mark jobs : ℕ) → Declaration → Head
head_of lines mark jobs rules = record { rules = rules; lines = lines; mark = mark; jobs = jobs }

-- the rules of these numbers
abbrev rules_by : (p q : ℕ) → Option Factor → Version → Declaration
rules_by p q o v = rules_with (record { p = p; q = q; factor = o }) v

-- its numbers are read as the first line
numbers_head : (h : Head) → IsRatio h.rules.ratio → IsDeclarable h.rules → head_from (head_numbers h) ≡ Some h
numbers_head h = by h.rules.ratio.p h.rules.ratio.q h.rules.ratio.factor h.rules.version where
  by : (p q : ℕ) (o : Option Factor) (v : Version) → IsRatio (rules_by p q o v).ratio → IsDeclarable (rules_by p q o v)
      → head_from (head_numbers (head_of h.lines h.mark h.jobs (rules_by p q o v)))
      ≡ Some (head_of h.lines h.mark h.jobs (rules_by p q o v))
  by p q None v ratio declared =
      ap (λ w. head_with h.lines h.mark h.jobs
      (option_and_then (λ version. then_some (is_ratio (fraction p q)) (rules_with (fraction p q) version)) w))
      (version_back v)
      ∙ ap (λ b. head_with h.lines h.mark h.jobs (then_some b (rules_by p q None v))) ratio.passes
  by p q (Some f) Three ratio declared =
      ap (λ b. head_with h.lines h.mark h.jobs (cond b (Some (rules_by p q (Some f) Three)) None)) ratio.passes
  by p q (Some f) Four ratio declared =
      ap (λ b. head_with h.lines h.mark h.jobs (cond b (Some (rules_by p q (Some f) Four)) None)) ratio.passes
  by p q (Some f) _ ratio declared = never declared

-- a word and numbers, the first of at most so many digits
first_fits : (word : List ℕ) (n most : ℕ) (ns : List ℕ) → 1 ≤ most → n < 10 ^ most → n < 2 ^ 64
    → (size : ℕ) → length (with_numbers (decimal n) ns) ≤ length (decimal n) + size
    → length (with_numbers word (n ∷ ns)) ≤ length word + (1 + most + size)
first_fits word n most ns some few small size behind = omega (
  arith,
  behind,
  length-decimal-le most n some few small,
  length-append word (32 ∷ with_numbers (decimal n) ns),
)

-- the first line is short
pub head_fits : (h : Head) → IsRatio h.rules.ratio → AreShort (head_numbers h) → length (head_line h) ≤ 122
head_fits h ratio short =
    let small_p : h.rules.ratio.p ≤ 1_000_000 = (ratio_limits ratio).small_p in
    let small_q : h.rules.ratio.q ≤ 1_000 = (ratio_limits ratio).small_q in
    let last : List ℕ = h.lines ∷ h.mark ∷ h.jobs ∷ factor_numbers h.rules.ratio.factor in
    let behind : length (with_numbers (decimal h.rules.ratio.q) last) ≤ length (decimal h.rules.ratio.q) + 95 =
    omega (arith, length-with_numbers (decimal h.rules.ratio.q) last short.1.1.1, few h.rules.ratio.factor) in
    let third : length (with_numbers (decimal h.rules.ratio.p) (h.rules.ratio.q ∷ last))
    ≤ length (decimal h.rules.ratio.p) + 100 =
    first_fits (decimal h.rules.ratio.p) h.rules.ratio.q 4 last (omega arith) (omega arith) (omega arith) 95 behind in
    let second : length (with_numbers (decimal (version_number h.rules.version))
    (h.rules.ratio.p ∷ h.rules.ratio.q ∷ last)) ≤ length (decimal (version_number h.rules.version)) + 108 =
    first_fits (decimal (version_number h.rules.version)) h.rules.ratio.p 7 (h.rules.ratio.q ∷ last)
    (omega arith) (omega arith) (omega arith) 100 third in
    let first : length (head_line h) ≤ 8 + 110 =
    first_fits (codes "snapshot") (version_number h.rules.version) 1 (h.rules.ratio.p ∷ h.rules.ratio.q ∷ last)
    (omega arith) (one h.rules.version) (omega (arith, one h.rules.version)) 108 second in
    omega (arith, first) where
      one : (v : Version) → version_number v < 10
      one One = omega arith
      one _ = omega arith

      few : (o : Option Factor) → length (factor_numbers o) ≤ 2
      few None = omega arith
      few (Some f) = omega arith

-- it is read as it was written
pub read_head-head_line : (h : Head) → IsHead h → read_head (head_line h) ≡ Some h
read_head-head_line h it =
    ap (λ b. cond b None (option_and_then head_from (numbers_of (codes "snapshot") (head_line h))))
    (le-ltb 128 (length (head_line h)) (omega (arith, head_fits h it.ratio it.short)))
    ∙ ap (option_and_then head_from) (numbers_back (codes "snapshot") (head_numbers h) refl it.short)
    ∙ numbers_head h it.ratio it.declared

-- the numbers of rules, what they are, and that they may be declared
abbrev AreOf : Declaration → (numbers factor : List ℕ) → Type 0
AreOf rules numbers factor = (version_number rules.version ∷ rules.ratio.p ∷ rules.ratio.q ∷ [] ≡ numbers)
    × (factor_numbers rules.ratio.factor ≡ factor) × IsRatio rules.ratio × IsDeclarable rules

-- what rules are read from
rules_read : (n p q : ℕ) (rules : Declaration) → rules_from n p q ≡ Some rules → AreOf rules (n ∷ p ∷ q ∷ []) []
rules_read n p q rules = by (version_of_number n) refl where
  by_ratio : (b : Bool) (v : Version) → is_ratio (fraction p q) ≡ b → version_of_number n ≡ Some v
      → then_some b (rules_with (fraction p q) v) ≡ Some rules → AreOf rules (n ∷ p ∷ q ∷ []) []
  by_ratio false v fails version read = none_is_some read
  by_ratio true v passes version read = subst (λ r. AreOf r (n ∷ p ∷ q ∷ []) [])
      (some_same (rules_with (fraction p q) v) rules read)
      (ap (λ m. m ∷ p ∷ q ∷ []) (version_from n v version), refl, record { passes = passes }, refl)

  by : (o : Option Version) → version_of_number n ≡ o
      → option_and_then (λ version. then_some (is_ratio (fraction p q)) (rules_with (fraction p q) version)) o
      ≡ Some rules → AreOf rules (n ∷ p ∷ q ∷ []) []
  by None version read = none_is_some read
  by (Some v) version read = by_ratio (is_ratio (fraction p q)) v refl version read

-- a version that may have a factor is that of its number
factor_from : (n : ℕ) (v : Version) → factor_version n ≡ Some v → (version_number v ≡ n) × (takes_factors v ≡ true)
factor_from n v = by (n == 3) (n == 4) refl refl where
  by : (three four : Bool) → (n == 3) ≡ three → (n == 4) ≡ four
      → cond three (Some Three) (then_some four Four) ≡ Some v → (version_number v ≡ n) × (takes_factors v ≡ true)
  by true four is _ read = subst (λ w. (version_number w ≡ n) × (takes_factors w ≡ true)) (some_same Three v read)
      (sym (eqb-true n 3 is), refl)
  by false true _ is read = subst (λ w. (version_number w ≡ n) × (takes_factors w ≡ true)) (some_same Four v read)
      (sym (eqb-true n 4 is), refl)
  by false false _ _ read = none_is_some read

-- so are rules with a factor
factor_read : (n p q b c : ℕ) (rules : Declaration) → factor_rules (with_factor (fraction p q) b c) n ≡ Some rules
    → AreOf rules (n ∷ p ∷ q ∷ []) (b ∷ c ∷ [])
factor_read n p q b c rules = by (is_ratio k) (factor_version n) refl refl where
  k : Fraction
  k = with_factor (fraction p q) b c

  by : (good : Bool) (o : Option Version) → is_ratio k ≡ good → factor_version n ≡ o
      → cond good (option_map (rules_with k) o) None ≡ Some rules → AreOf rules (n ∷ p ∷ q ∷ []) (b ∷ c ∷ [])
  by false o fails version read = none_is_some read
  by true None passes version read = none_is_some read
  by true (Some v) passes version read =
      let from : (version_number v ≡ n) × (takes_factors v ≡ true) = factor_from n v version in
      subst (λ r. AreOf r (n ∷ p ∷ q ∷ []) (b ∷ c ∷ [])) (some_same (rules_with k v) rules read)
      (ap (λ m. m ∷ p ∷ q ∷ []) from.0, refl, record { passes = passes }, from.1)

-- the numbers of a first line, and that its rules are a ratio's and may be declared
abbrev IsOf : Head → List ℕ → Type 0
IsOf h ns = (head_numbers h ≡ ns) × IsRatio h.rules.ratio × IsDeclarable h.rules

-- a first line of rules is read from their numbers and the others
with_rules : (v p q lines mark jobs : ℕ) (factor : List ℕ) (o : Option Declaration) (h : Head)
    → ((rules : Declaration) → o ≡ Some rules → AreOf rules (v ∷ p ∷ q ∷ []) factor)
    → head_with lines mark jobs o ≡ Some h → IsOf h (v ∷ p ∷ q ∷ lines ∷ mark ∷ jobs ∷ factor)
with_rules v p q lines mark jobs factor None h it read = none_is_some read
with_rules v p q lines mark jobs factor (Some rules) h it read =
    let are : AreOf rules (v ∷ p ∷ q ∷ []) factor = it rules refl in
    subst (λ g. IsOf g (v ∷ p ∷ q ∷ lines ∷ mark ∷ jobs ∷ factor)) (some_same (head_of lines mark jobs rules) h read) (
      ap (λ ns. ns ++ lines ∷ mark ∷ jobs ∷ factor_numbers rules.ratio.factor) are.0
          ∙ ap (λ ns. v ∷ p ∷ q ∷ lines ∷ mark ∷ jobs ∷ ns) are.1,
      are.2,
      are.3,
    )

-- what a first line is read from
head_read : (ns : List ℕ) (h : Head) → head_from ns ≡ Some h → IsOf h ns
head_read (n ∷ p ∷ q ∷ lines ∷ mark ∷ jobs ∷ []) h =
    with_rules n p q lines mark jobs [] (rules_from n p q) h (rules_read n p q)
head_read (n ∷ p ∷ q ∷ lines ∷ mark ∷ jobs ∷ b ∷ c ∷ []) h =
    with_rules n p q lines mark jobs (b ∷ c ∷ []) (factor_rules (with_factor (fraction p q) b c) n) h
    (factor_read n p q b c)
head_read _ h = λ read. none_is_some read

-- it was written as it is read
pub head_line-read_head : (line : List ℕ) (h : Head) → read_head line ≡ Some h → (head_line h ≡ line) × IsHead h
head_line-read_head line h = by (is_too_long line) (numbers_of (codes "snapshot") line) refl where
  by : (long : Bool) (o : Option (List ℕ)) → numbers_of (codes "snapshot") line ≡ o
      → cond long None (option_and_then head_from o) ≡ Some h
      → (head_line h ≡ line) × IsHead h
  by true o cut read = none_is_some read
  by false None cut read = none_is_some read
  by false (Some ns) cut read =
      let numbers = numbers_from (codes "snapshot") line ns cut in
      let it = head_read ns h read in (
        ap (with_numbers (codes "snapshot")) it.0 ∙ numbers.0,
        record { ratio = it.1; declared = it.2; short = subst AreShort (sym it.0) numbers.1 },
      )

-- ---- the line of a job

-- no word for a role has a space
pub role_HasNoSpace : (role : Role) → HasNoSpace (role_word role)
role_HasNoSpace Coming = refl
role_HasNoSpace _ = refl

-- each word is short
pub role_fits : (role : Role) → length (role_word role) ≤ 7
role_fits Coming = omega arith
role_fits _ = omega arith

-- a role is read from its word
pub role_back : (role : Role) → IsStored role → role_of_word (role_word role) ≡ Some role
role_back Coming it = absurd it
role_back Fresh it = absurd it
role_back _ it = refl

-- and its word from it
pub role_from : (word : List ℕ) (role : Role) → role_of_word word ≡ Some role → (role_word role ≡ word) × IsStored role
role_from word role = by (is Waiting) (is Held) (is Running) (is Done) (is Gone) refl refl refl refl refl where
  is : Role → Bool
  is other = bytes_eq word (role_word other)

  here : (other : Role) → IsStored other → is other ≡ true → Some other ≡ Some role → (role_word role ≡ word)
      × IsStored role
  here other stored same read = subst (λ r. (role_word r ≡ word) × IsStored r) (some_same other role read)
      (sym ((bytes_eq-Decides word (role_word other)).0 same), stored)

  by : (a b c d e : Bool) → is Waiting ≡ a → is Held ≡ b → is Running ≡ c → is Done ≡ d → is Gone ≡ e
      → cond a (Some Waiting) (cond b (Some Held)
      (cond c (Some Running) (cond d (Some Done) (cond e (Some Gone) None)))) ≡ Some role
      → (role_word role ≡ word) × IsStored role
  by true b c d e p q r s t read = here Waiting tt p read
  by false true c d e p q r s t read = here Held tt q read
  by false false true d e p q r s t read = here Running tt r read
  by false false false true e p q r s t read = here Done tt s read
  by false false false false true p q r s t read = here Gone tt t read
  by false false false false false p q r s t read = none_is_some read

-- the line is short
pub state_fits : (t : Task) → AreShort (state_numbers t) → length (state_line t) ≤ 127
state_fits t short =
    let number : length (decimal t.number) ≤ 18 = length-decimal-le 18 t.number (omega arith) short.0 (omega arith) in
    let behind : List ℕ = with_numbers (role_word t.role) (t.had ∷ job_numbers t.job) in
    let numbers : length behind ≤ length (role_word t.role) + 19 * 5 =
    length-with_numbers (role_word t.role) (t.had ∷ job_numbers t.job) short.1 in
    omega (arith, role_fits t.role, length-append (decimal t.number) (32 ∷ behind))

-- it is read as it was written
pub read_task-state_line : (t : Task) → IsState t → read_task (state_line t) ≡ Some t
read_task-state_line t it =
    let fields : List (List ℕ) = decimal t.number ∷ role_word t.role ∷ map decimal (t.had ∷ job_numbers t.job) in
    let numbers : AllByRecursion HasNoSpace (map decimal (state_numbers t)) =
    decimals-HasNoSpace (state_numbers t) it.short in
    ap (λ b. cond b None (task_of_fields (fields_of (state_line t))))
    (le-ltb 128 (length (state_line t)) (omega (arith, state_fits t it.short)))
    ∙ ap task_of_fields (fields_of-line_of (codes "state") fields refl (numbers.0, (role_HasNoSpace t.role, numbers.1)))
    ∙ ap (option_and_then (λ role. option_and_then (task_from role) (numerals (map decimal (state_numbers t)))))
    (role_back t.role it.role)
    ∙ ap (option_and_then (task_from t.role)) (numerals-decimals (state_numbers t) it.short)

-- what a job is read from
task_read : (role : Role) (ns : List ℕ) (t : Task) → task_from role ns ≡ Some t → (state_numbers t ≡ ns)
    × (t.role ≡ role)
task_read role (n ∷ had ∷ r ∷ c ∷ d ∷ v ∷ []) t read =
    subst (λ (u : Task). (state_numbers u ≡ n ∷ had ∷ r ∷ c ∷ d ∷ v ∷ []) × (u.role ≡ role))
    (some_same (record { number = n; job = job_of_numbers r c d v; role = role; had = had }) t read) (refl, refl)
task_read role _ t read = none_is_some read

-- the line of a job, of its fields without the role, and its role
abbrev weave : List (List ℕ) → List ℕ → List ℕ
weave [] role = []
weave (number ∷ fields) role = line_of (codes "state" ∷ number ∷ role ∷ fields)

-- what fields name
fields_read : (word number role : List ℕ) (fields : List (List ℕ)) (t : Task)
    → task_of_fields (word ∷ number ∷ role ∷ fields) ≡ Some t
    → (state_line t ≡ line_of (word ∷ number ∷ role ∷ fields)) × IsState t
fields_read word number role fields t =
    by (bytes_eq word (codes "state")) (role_of_word role) (numerals (number ∷ fields)) refl refl refl where
      by : (b : Bool) (o : Option Role) (ns : Option (List ℕ)) → bytes_eq word (codes "state") ≡ b
          → role_of_word role ≡ o
          → numerals (number ∷ fields) ≡ ns
          → cond b (option_and_then (λ r. option_and_then (task_from r) ns) o) None ≡ Some t
          → (state_line t ≡ line_of (word ∷ number ∷ role ∷ fields)) × IsState t
      by true (Some r) (Some ns) is said count read =
          let it = task_read r ns t read in
          let named = role_from role r said in (
            ap (λ ms. weave (map decimal ms) (role_word t.role)) it.0
                ∙ ap (λ fs. weave fs (role_word t.role)) (decimals-numerals (number ∷ fields) ns count)
                ∙ ap (λ w. weave (number ∷ fields) w) (ap role_word it.1 ∙ named.0)
                ∙ ap (λ w. line_of (w ∷ number ∷ role ∷ fields)) (sym ((bytes_eq-Decides word (codes "state")).0 is)),
            record {
              role = subst IsStored (sym it.1) named.1;
              short = subst AreShort (sym it.0) (numerals_short (number ∷ fields) ns count);
            },
          )
      by _ _ _ is said count read = none_is_some read

-- it was written as it is read
pub state_line-read_task : (line : List ℕ) (t : Task) → read_task line ≡ Some t → (state_line t ≡ line) × IsState t
state_line-read_task line t = by (is_too_long line) (fields_of line) refl where
  by : (long : Bool) (fields : List (List ℕ)) → fields_of line ≡ fields
      → cond long None (task_of_fields fields) ≡ Some t
      → (state_line t ≡ line) × IsState t
  by false (word ∷ number ∷ role ∷ fields) cut read =
      let it = fields_read word number role fields t read in
      (it.0 ∙ ap line_of (sym cut) ∙ line_of-fields_of line, it.1)
  by _ _ cut read = none_is_some read

-- ---- the line of an early finish

-- what is written is read as the same
pub read_done-done_line : (at n : ℕ) → HasNumerals (DoneLine at n) → read_done (done_line at n) ≡ Some (at, n)
read_done-done_line at n short = ap (option_and_then done_of) (feed_line-feed_text (DoneLine at n) short)

-- and what is read was written so
pub done_line-read_done : (line : List ℕ) (at n : ℕ) → read_done line ≡ Some (at, n) → done_line at n ≡ line
done_line-read_done line at n read = by (feed_line line) refl read where
  by : (o : Option FeedLine) → feed_line line ≡ o → option_and_then done_of o ≡ Some (at, n) → done_line at n ≡ line
  by None e is = none_is_some is
  by (Some (DoneLine t m)) e is =
      let pair : (t, m) ≡ (at, n) = some_same (t, m) (at, n) is in
      ap (λ (p : ℕ × ℕ). done_line p.0 p.1) (sym pair) ∙ feed_text-feed_line line (DoneLine t m) e
  by (Some line) e is = none_is_some is

-- a line of another first letter is none
pub not_done : (line : List ℕ) (n : ℕ) → get_or line 0 0 ≡ n → (n ≡ 100 → ⊥) → read_done line ≡ None
not_done line n first other = by (read_done line) refl where
  by : (o : Option (ℕ × ℕ)) → read_done line ≡ o → o ≡ None
  by None e = refl
  by (Some done) e = absurd (other (sym first
      ∙ sym (ap (λ l. get_or l 0 0) (done_line-read_done line done.0 done.1 e))))
