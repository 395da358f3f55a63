-- One client more has the next ends.
use Rattle.std.proofs.Common.{◌≡◌, ◌+◌, ◌<◌, ◌≤◌, get_or, ◌++◌, [], ◌∷◌, length, drop, refl, sym, ap, subst, ◌∙◌, append_assoc, append-nil, length-append, arith, rules}
use Rattle.std.specs.List.{flat_map}
use Rattle.std.specs.Vec.Iter.{into_iter_items}
use Rattle.std.proofs.lemmas.List.{drop_all}
use Rattle.std.proofs.lemmas.List.Concat.{flat_map-append}
use Rattle.sv_threads.specs.Given.{ends_given, IsPartOf}
use Rattle.sv_threads.specs.Places.{EachClient}
use Rattle.sv_threads.specs.Opening.{EachEntrant}
use Rattle.sv_threads.proofs.Opened.{one_more, sessions_next, entrants_next, entrants_count, part_is}
use Rattle.sv_threads.proofs.opening.RunShared.open_parts.Goals as goal

pub loop-plan-init : goal.loop-plan-init
loop-plan-init g c =
    record {
      parts = search rules;
      ends = search rules;
      waiting = search rules;
      many = search (entrants_count, rules);
      room = search (entrants_count, rules);
      first = search rules;
      left = search rules;
    }

pub take_ends-requires-clause-empty : goal.take_ends-requires-clause-empty
take_ends-requires-clause-empty g c =
    let same = c.as_slice-plan-items.ensures in
    let plans = c.args.self.now.scenario.now.clients in
    let shape = c.args.self.now.scenario.now.world.shape in
    let n = c.loop-plan.plan-index in
    let plan = c.plan-item.result in
    let rest = into_iter_items c.next.new.self in
    (entrants_next shape n n plans plan c.in-Some.entrant rest (subst (λ l. n < length l) same c.loop-plan-test.true) (subst (λ l. plan ≡ get_or l n plan) same c.plan-item.is)
    (subst (λ xs. EachEntrant shape n (drop n plans) xs) c.in-Some.ensures.items c.loop-plan.invariant.waiting)).0.empty

pub take_ends-requires-clause-room : goal.take_ends-requires-clause-room
take_ends-requires-clause-room g c =
    let same = c.as_slice-plan-items.ensures in
    let plans = c.args.self.now.scenario.now.clients in
    let shape = c.args.self.now.scenario.now.world.shape in
    let n = c.loop-plan.plan-index in
    let plan = c.plan-item.result in
    let rest = into_iter_items c.next.new.self in
    let room = (entrants_next shape n n plans plan c.in-Some.entrant rest (subst (λ l. n < length l) same c.loop-plan-test.true) (subst (λ l. plan ≡ get_or l n plan) same c.plan-item.is)
    (subst (λ xs. EachEntrant shape n (drop n plans) xs) c.in-Some.ensures.items c.loop-plan.invariant.waiting)).0.room in
    let count = c.sessions_of_plan-count.ensures.count in
    search rules

pub loop-plan-preserved : goal.loop-plan-preserved
loop-plan-preserved g c =
    let i = c.loop-plan.invariant in
    let shape = c.args.self.now.scenario.now.world.shape in
    let watched = (g.W.Teller.telling c.args.self.now.teller.now).watched in
    let plans = c.args.self.now.scenario.now.clients in
    let n = c.loop-plan.plan-index in
    let same = c.as_slice-plan-items.ensures in
    let low = subst (λ l. n < length l) same c.loop-plan-test.true in
    let plan = c.plan-item.result in
    let is = subst (λ l. plan ≡ get_or l n plan) same c.plan-item.is in
    let waiting = into_iter_items c.next.new.self in
    let both = entrants_next shape n n plans plan c.in-Some.entrant waiting low is (subst (λ xs. EachEntrant shape n (drop n plans) xs) c.in-Some.ensures.items i.waiting) in
    let count = c.sessions_of_plan-count.ensures.count in
    let x = c.open_part.result in
    let has = c.open_part.ensures in
    let next = sessions_next plans n plan low is in
    let first = i.first in
    let left = i.left in
    let most = c.requires.good.sessions in
    let rest = into_iter_items c.take_ends.new.left in
    let taken = c.take_ends.ensures.ends in
    let own = c.take_ends.ensures.count in
    let long = ap (λ l. length l) taken ∙ length-append c.take_ends.new.into.items rest in
    let own_is = ap length has.ends ∙ own in
    let part =
    part_is g.W.Teller.telling shape watched n c.loop-plan.first plan c.in-Some.entrant x c.args.self.now.teller.now both.0 has.client.0 has.client.1 has.client.2 has.teller c.requires.teller refl
    (omega (arith, own_is, count)) (omega (arith, first, next, most)) in
    record {
      parts = λ more others.
          subst (λ l. EachClient (IsPartOf g.W.Teller.telling shape watched) 0 0 plans l) (sym (ap (λ l. l ++ more) c.push_reserved.ensures.items ∙ append_assoc c.loop-plan.parts.items (x ∷ []) more))
          (i.parts (x ∷ more)
          (one_more (IsPartOf g.W.Teller.telling shape watched) n c.loop-plan.first n plans plan x more low is part
          (subst (λ s. EachClient (IsPartOf g.W.Teller.telling shape watched) (n + 1) (c.loop-plan.first + s) (drop (n + 1) plans) more) count others)));
      ends =
          ap (λ l. flat_map ends_given l ++ rest) c.push_reserved.ensures.items
          ∙ (ap (λ l. l ++ rest) (flat_map-append ends_given c.loop-plan.parts.items (x ∷ []))
          ∙ (ap (λ l. (flat_map ends_given c.loop-plan.parts.items ++ l) ++ rest) (append-nil x.ends.items ∙ has.ends)
          ∙ (append_assoc (flat_map ends_given c.loop-plan.parts.items) c.take_ends.new.into.items rest
          ∙ (ap (λ l. flat_map ends_given c.loop-plan.parts.items ++ l) (sym taken) ∙ i.ends))));
      waiting = both.1;
      many = search rules;
      room = search rules;
      first = omega (arith, first, next, count);
      left = omega (arith, left, next, long, own, count);
    }

pub returns-clause-parts : goal.returns-clause-parts
returns-clause-parts g c =
    let i = c.loop-plan.invariant in
    let shape = c.args.self.now.scenario.now.world.shape in
    let plans = c.args.self.now.scenario.now.clients in
    let over = subst (λ l. length l ≤ c.loop-plan.plan-index) c.as_slice-plan-items.ensures c.loop-plan-test.false in
    let none = drop_all c.loop-plan.plan-index plans over in
    subst (λ l. EachClient (IsPartOf {E = g.row.E.Denot} {W = g.row.W.Denot} g.W.Teller.telling shape (g.W.Teller.telling c.args.self.now.teller.now).watched) 0 0 plans l) (append-nil c.loop-plan.parts.items)
    (i.parts [] (subst (λ ps. EachClient (IsPartOf {E = g.row.E.Denot} {W = g.row.W.Denot} g.W.Teller.telling shape (g.W.Teller.telling c.args.self.now.teller.now).watched) c.loop-plan.plan-index c.loop-plan.first ps []) (sym none) tt))
