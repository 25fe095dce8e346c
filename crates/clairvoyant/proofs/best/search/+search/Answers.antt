use Rattle.std.proofs.Common.{subst, MatchOption, ◌+◌, ◌<◌, ◌++◌, ◌∷◌, [], length, refl, arith, rules}
use Rattle.clairvoyant.specs.best.Search.{IsChoice, IsSearched}
use Rattle.clairvoyant.proofs.best.Rising.{rise_wider}
use Rattle.clairvoyant.proofs.best.Values.{value_few, left_few}
use Rattle.clairvoyant.proofs.best.Searching.{choice_later, too_little, found_here, left_next, put_some, put_none}
use Rattle.clairvoyant.proofs.best.Searching.{after_none, is_found, after_better, after_best}
use Rattle.clairvoyant.proofs.best.search.+search.Goals as goal
use Rattle.clairvoyant.proofs.best.search.+search.Goals.{in-Some+in_ok-found-in-Some, in-None, in-Some-more}
use Rattle.clairvoyant.proofs.best.search.+search.Goals.{in-None-more}

pub overflow_add-choice : goal.overflow_add-choice
overflow_add-choice t c =
    let value = value_few c.args.jobs.now c.args.choice.numbers.items c.requires.each c.requires.count
    (rise_wider _ _ _ _ _ (omega arith) c.requires.next c.requires.choice.numbers) in
    omega (
      arith,
      value,
      c.requires.choice.value,
      c.requires.left,
      left_few c.args.jobs.now c.args.next c.requires.each c.requires.count,
    )

pub returns-then-choice-left : goal.returns-then-choice-left
returns-then-choice-left t c =
    too_little _ _ _ c.requires.choice.numbers _ _ _ c.requires.choice.value c.requires.left c.if-choice-left.true

pub returns-then-next-jobs : goal.returns-then-next-jobs
returns-then-next-jobs t c =
    found_here _ _ _ c.requires.choice.numbers _ _ _ c.requires.count c.if-next-jobs.true refl c.requires.choice
    c.requires.left (λ less. let no = c.if-choice-left.false in omega (arith, less, no))

pub search-requires-in-None-found : goal.search-requires-in-None-found
search-requires-in-None-found t c =
    let short : c.args.next < length c.args.jobs.now =
    (let other = c.if-next-jobs.false in omega (arith, other, c.requires.next)) in
    let later = choice_later c.args.jobs.now c.args.next c.args.choice c.requires.choice in
    let rest = left_next _ _ _ _ _ c.requires.left short c.index-jobs-next.is c.value.ensures.is in (
      search rules,
      (c.requires.in_order, (c.requires.count, (c.requires.due, (c.requires.each, (omega arith, (later, rest)))))),
    )

pub search-requires-in-Some-found : goal.search-requires-in-Some-found
search-requires-in-Some-found t c =
    let short : c.args.next < length c.args.jobs.now =
    (let other = c.if-next-jobs.false in omega (arith, other, c.requires.next)) in
    let later = choice_later c.args.jobs.now c.args.next c.args.choice c.requires.choice in
    let rest = left_next _ _ _ _ _ c.requires.left short c.index-jobs-next.is c.value.ensures.is in (
      search rules,
      (c.requires.in_order, (c.requires.count, (c.requires.due, (c.requires.each, (omega arith, (later, rest)))))),
    )

pub returns-in-None-found : goal.returns-in-None-found
returns-in-None-found t c =
    let short : c.args.next < length c.args.jobs.now =
    (let other = c.if-next-jobs.false in omega (arith, other, c.requires.next)) in
    let found : IsSearched c.args.jobs.now (c.args.choice.numbers.items ++ c.args.next ∷ [])
    (c.args.next + 1) c.args.wanted c.match-branch-2.found =
    elim c.match-branch-2.branch [
      | in-Some+in_ok-found-in-Some w ↦ put_some c.args.jobs.now c.args.choice.numbers.items c.args.next c.args.wanted
          c.in_ok-with.field-0
          c.match-branch-2.found
          w.in_ok-found-in-Some.found w.in-Some.with c.in_ok-with.ensures.none w.in-Some.is
          w.in_ok-found-in-Some.ensures w.found-is
      | in-None w ↦ put_none c.args.jobs.now c.args.choice.numbers.items c.args.next c.args.wanted c.in_ok-with.field-0
          c.match-branch-2.found
          c.requires.choice.numbers short c.in_ok-with.ensures.none w.in-None.is w.found-is
    ] in
    after_none c.args.jobs.now c.args.choice.numbers.items c.args.next c.args.wanted c.requires.choice.numbers short
    c.match-branch-2.found found
    c.search-in-None-found.result c.in-None-found.is c.search-in-None-found.ensures

pub overflow_add-best : goal.overflow_add-best
overflow_add-best t c =
    let short : c.args.next < length c.args.jobs.now =
    (let other = c.if-next-jobs.false in omega (arith, other, c.requires.next)) in
    let found : IsSearched c.args.jobs.now (c.args.choice.numbers.items ++ c.args.next ∷ [])
    (c.args.next + 1) c.args.wanted c.match-branch-2.found =
    elim c.match-branch-2.branch [
      | in-Some+in_ok-found-in-Some w ↦ put_some c.args.jobs.now c.args.choice.numbers.items c.args.next c.args.wanted
          c.in_ok-with.field-0
          c.match-branch-2.found
          w.in_ok-found-in-Some.found w.in-Some.with c.in_ok-with.ensures.none w.in-Some.is
          w.in_ok-found-in-Some.ensures w.found-is
      | in-None w ↦ put_none c.args.jobs.now c.args.choice.numbers.items c.args.next c.args.wanted c.in_ok-with.field-0
          c.match-branch-2.found
          c.requires.choice.numbers short c.in_ok-with.ensures.none w.in-None.is w.found-is
    ] in
    let it = is_found c.args.jobs.now c.args.choice.numbers.items c.args.next c.args.wanted c.requires.choice.numbers
    short
    c.match-branch-2.found found
    c.in-Some-found.best c.in-Some-found.is in
    omega (
      arith,
      it.choice.value,
      value_few c.args.jobs.now c.in-Some-found.best.numbers.items c.requires.each c.requires.count it.choice.numbers,
    )

pub returns-after-more : goal.returns-after-more
returns-after-more t c =
    let short : c.args.next < length c.args.jobs.now =
    (let other = c.if-next-jobs.false in omega (arith, other, c.requires.next)) in
    let found : IsSearched c.args.jobs.now (c.args.choice.numbers.items ++ c.args.next ∷ [])
    (c.args.next + 1) c.args.wanted c.match-branch-2.found =
    elim c.match-branch-2.branch [
      | in-Some+in_ok-found-in-Some w ↦ put_some c.args.jobs.now c.args.choice.numbers.items c.args.next c.args.wanted
          c.in_ok-with.field-0
          c.match-branch-2.found
          w.in_ok-found-in-Some.found w.in-Some.with c.in_ok-with.ensures.none w.in-Some.is
          w.in_ok-found-in-Some.ensures w.found-is
      | in-None w ↦ put_none c.args.jobs.now c.args.choice.numbers.items c.args.next c.args.wanted c.in_ok-with.field-0
          c.match-branch-2.found
          c.requires.choice.numbers short c.in_ok-with.ensures.none w.in-None.is w.found-is
    ] in
    elim c.match-more.branch [
      | in-Some-more w ↦ after_better c.args.jobs.now c.args.choice.numbers.items c.args.next c.args.wanted
          c.requires.choice.numbers short
          c.match-branch-2.found found c.in-Some-found.best w.in-Some-more.better c.match-more.result
          c.in_ok-more-in-Some-found.more
          c.in-Some-found.is
          c.in_ok-more-in-Some-found.ensures w.in-Some-more.is w.result-is
      | in-None-more w ↦ after_best c.args.jobs.now c.args.choice.numbers.items c.args.next c.args.wanted
          c.requires.choice.numbers short
          c.match-branch-2.found found c.in-Some-found.best c.match-more.result c.in_ok-more-in-Some-found.more
          c.in-Some-found.is
          c.in_ok-more-in-Some-found.ensures w.in-None-more.is w.result-is
    ]

pub search-requires : goal.search-requires
search-requires t c =
    let short : c.args.next < length c.args.jobs.now =
    (let other = c.if-next-jobs.false in omega (arith, other, c.requires.next)) in
    let put = subst (λ o. MatchOption o (Unit {0}) (λ choice. IsChoice c.args.jobs.now (c.args.next + 1) choice))
    c.in-Some.is c.in_ok-with.ensures.choice in
    let rest = left_next _ _ _ _ _ c.requires.left short c.index-jobs-next.is c.value.ensures.is in (
      search rules,
      (c.requires.in_order, (c.requires.count, (c.requires.due, (c.requires.each, (omega arith, (put, rest)))))),
    )

pub overflow_add-next : goal.overflow_add-next
overflow_add-next t c = omega (arith, c.requires.next, c.requires.count)

pub overflow_add-next-in-Some-found : goal.overflow_add-next-in-Some-found
overflow_add-next-in-Some-found t c = omega (arith, c.requires.next, c.requires.count)

pub overflow_add-next-in-None-found : goal.overflow_add-next-in-None-found
overflow_add-next-in-None-found t c = omega (arith, c.requires.next, c.requires.count)

pub with-requires-clause-number : goal.with-requires-clause-number
with-requires-clause-number t c = let other = c.if-next-jobs.false in omega (arith, other, c.requires.next)

pub with-requires-clause-choice : goal.with-requires-clause-choice
with-requires-clause-choice t c = c.requires.choice

pub overflow_cast-next : goal.overflow_cast-next
overflow_cast-next t c = omega (arith, c.requires.next, c.requires.count)

pub with-requires-clause-count : goal.with-requires-clause-count
with-requires-clause-count t c = c.requires.count

pub bounds-jobs-next : goal.bounds-jobs-next
bounds-jobs-next t c = let other = c.if-next-jobs.false in omega (arith, other, c.requires.next)
