use Rattle.std.proofs.Common.{◌≡◌, ℕ, ◌+◌, ◌∷◌, [], ◌++◌, None, sym, ap, ◌∙◌, subst, length, arith, option_to_list}
use Rattle.waiting_pool.specs.Pools.{IsPool, jobs_at}
use Rattle.waiting_pool.proofs.Pooling.{opened, jobs_push, length_more, no_places}
use Rattle.waiting_pool.proofs.pool.next_place.Goals as goal

pub returns-in-Some-clause-pool : goal.returns-in-Some-clause-pool
returns-in-Some-clause-pool c v due latest dense pool fits_due fits_latest fits_dense few =
    subst (λ f. IsPool v c.args.slots.now.items f due latest dense)
    (c.pop.ensures.items ∙ ap (λ o. c.pop.new.self.items ++ option_to_list o) c.in-Some.is) pool

pub returns-in-None-clause-pool : goal.returns-in-None-clause-pool
returns-in-None-clause-pool c v due latest dense pool fits_due fits_latest fits_dense few =
    let slots = c.args.slots.now.items in
    let longer : length c.open_place.new.slots.items ≡ length slots + 1 =
    ap (λ l. length l) c.open_place.ensures.items ∙ length_more slots None in
    let was : c.args.free.now.items ≡ [] =
    no_places c.args.free.now.items (omega (arith, c.in-None.ensures.cases.0, c.args.free.now.ok.0)) in
    let is : c.pop.new.self.items ≡ [] =
    no_places c.pop.new.self.items (omega (arith, c.in-None.ensures.cases.1, c.pop.new.self.ok.0)) in
    let place : c.len-place.result ≡ length slots = omega (arith, c.len-place.ensures, c.args.slots.now.ok.0) in
    subst (λ s. IsPool v s (c.pop.new.self.items ++ c.len-place.result ∷ []) due latest dense)
    (sym c.open_place.ensures.items)
    (subst (λ f. IsPool v (slots ++ None ∷ []) (f ++ c.len-place.result ∷ []) due latest dense) (sym is)
    (subst (λ (p : ℕ). IsPool v (slots ++ None ∷ []) (p ∷ []) due latest dense) (sym place)
    (opened v slots due latest dense (subst (λ f. IsPool v slots f due latest dense) was pool)
    (omega (arith, fits_due, longer)) (omega (arith, fits_latest, longer)) (λ by. omega (arith, fits_dense by, longer))
    (omega (arith, few, longer)))))

pub returns-in-None-clause-jobs : goal.returns-in-None-clause-jobs
returns-in-None-clause-jobs c = ap jobs_at c.open_place.ensures.items ∙ jobs_push c.args.slots.now.items
