-- What the check leaves to prove of `below_writers`.
use Rattle.std.proofs.Common.{rules, ◌≡◌, ℕ, ◌+◌, Bool, false, ◌||◌, inl, inr, drop, get_or, subst, sym, ◌∙◌, ap, arith, ne_eqb}
use Rattle.std.proofs.lemmas.Bool.{cases_eq}
use Rattle.sv_world.specs.Control.{is_in, action_at}
use Rattle.sv_world.specs.Sets.{read_set, write_set}
use Rattle.sv_queue.specs.Queue.{queue_actions}
use Rattle.sv_influence.proofs.ReadSets.{read_low, read_at, unread_end}
use Rattle.sv_influence.proofs.influence.below_writers.Goals as goal

pub loop-object-init : goal.loop-object-init
loop-object-init g c = record {
  items = search rules;
  uncommitted = c.requires.bound;
  bound = omega arith;
  rest = λ x p r d low. cc;
}

pub below_writer-below-requires-clause-object : goal.below_writer-below-requires-clause-object
below_writer-below-requires-clause-object g c =
    read_low c.args.queue.now.shape.objects c.args.action.now c.as_slice-object-items.result.now c.loop-object.object-index record { 0 = 0 } c.loop-object.invariant.items c.requires.reads c.loop-object-test.true

pub below_writer-below-requires-clause-bound : goal.below_writer-below-requires-clause-bound
below_writer-below-requires-clause-bound g c = c.loop-object.invariant.uncommitted

pub loop-object-preserved : goal.loop-object-preserved
loop-object-preserved g c =
    let items = c.as_slice-object-items.result.now in
    let o = (get_or items c.loop-object.object-index record { 0 = 0 }).0 in
    let rest = drop (c.loop-object.object-index + 1) (read_set c.args.action.now) in
    let d = read_at c.args.action.now items c.loop-object.object-index record { 0 = 0 } c.loop-object.invariant.items c.loop-object-test.true in
    let bound = c.below_writer-below.ensures.bound in
    let bound' = c.loop-object.invariant.bound in
    record {
      items = c.loop-object.invariant.items;
      uncommitted = c.below_writer-below.ensures.uncommitted;
      bound = omega arith;
      rest = λ x p r out low.
          elim (cases_eq x o) [
            | inl e ↦ subst (λ (y : ℕ). is_in y (write_set (action_at (queue_actions c.args.queue.now) p)) ≡ false) (sym e) (c.below_writer-below.ensures.unwritten p low)
            | inr ne ↦ c.loop-object.invariant.rest x p r (ap (is_in x) d ∙ ap (λ (b : Bool). b || is_in x rest) (ne_eqb x o ne) ∙ out) (omega arith)
          ];
    }

pub returns-clause-uncommitted : goal.returns-clause-uncommitted
returns-clause-uncommitted g c = c.loop-object.invariant.uncommitted

pub returns-clause-bound : goal.returns-clause-bound
returns-clause-bound g c = c.loop-object.invariant.bound

pub returns-clause-unwritten : goal.returns-clause-unwritten
returns-clause-unwritten g c x p r low =
    c.loop-object.invariant.rest x p r
    (unread_end c.args.action.now c.as_slice-object-items.result.now c.loop-object.object-index x c.loop-object.invariant.items (omega arith)) low
