-- One client more.
use Rattle.std.proofs.Common.{◌≡◌, ◌<◌, ◌≤◌, get_or, ◌++◌, [], ◌∷◌, length, sym, ap, subst, ◌∙◌, append_assoc, append-nil, rules}
use Rattle.std.proofs.lemmas.List.{drop_all}
use Rattle.sv_threads.specs.Opening.{EachEntrant}
use Rattle.sv_threads.proofs.Opened.{entrants_more}
use Rattle.sv_threads.proofs.opening.RunShared.make_entrants.Goals as goal

pub loop-plan-preserved : goal.loop-plan-preserved
loop-plan-preserved g c =
    let i = c.loop-plan.invariant in
    let shape = c.args.self.now.scenario.now.world.shape in
    let plans = c.args.self.now.scenario.now.clients in
    let n = c.loop-plan.plan-index in
    let same = c.as_slice-plan-items.ensures in
    let low = subst (λ l. n < length l) same c.loop-plan-test.true in
    let plan = c.plan-item.result in
    let is = subst (λ l. plan ≡ get_or l n plan) same c.plan-item.is in
    let x = c.in_ok-make_entrant.field-0 in
    record {
      entrants = λ more others.
          subst (λ l. EachEntrant shape 0 plans l) (sym (ap (λ l. l ++ more) c.in_ok-push.ensures.items ∙ append_assoc c.loop-plan.entrants.items (x ∷ []) more))
          (i.entrants (x ∷ more) (entrants_more shape c.loop-plan.number n plans plan x more low is c.in_ok-make_entrant.ensures others));
      number = search rules;
    }

pub returns : goal.returns
returns g c =
    let i = c.loop-plan.invariant in
    let shape = c.args.self.now.scenario.now.world.shape in
    let plans = c.args.self.now.scenario.now.clients in
    let over = subst (λ l. length l ≤ c.loop-plan.plan-index) c.as_slice-plan-items.ensures c.loop-plan-test.false in
    let none = drop_all c.loop-plan.plan-index plans over in
    subst (λ l. EachEntrant shape 0 plans l) (append-nil c.loop-plan.entrants.items)
    (i.entrants [] (subst (λ ps. EachEntrant {E = g.row.E.Denot} shape c.loop-plan.number ps []) (sym none) tt))
