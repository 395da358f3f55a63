-- What the check leaves to prove of `Missing::expand`.
use Rattle.std.proofs.Common.{◌≡◌, ℕ, ◌+◌, ◌++◌, [], ◌∷◌, List, drop, get_or, sym, ◌∙◌, ap, arith}
use Rattle.sv_world.specs.Control.{is_in, action_at}
use Rattle.sv_queue.specs.Queue.{queue_actions}
use Rattle.sv_influence.specs.Lacking.{lacking_writers, committed_reads, reads_at}
use Rattle.sv_influence.proofs.Looks.{members-move, writers-cons, reads-cons}
use Rattle.sv_influence.proofs.ReadSets.{read_low, read_at}
use Rattle.sv_influence.proofs.lacking.Missing.expand.Goals as goal

pub look_up-requires-clause-object : goal.look_up-requires-clause-object
look_up-requires-clause-object g c =
    read_low c.args.queue.now.shape.objects (action_at (queue_actions c.args.queue.now) c.args.pos) c.as_slice-object-items.result.now c.loop-place.place record { 0 = 0 }
    c.loop-place.invariant.items c.loop-place.invariant.good.objects c.loop-place-test.true

pub loop-place-preserved : goal.loop-place-preserved
loop-place-preserved g c =
    let v = c.args.queue.now in
    let o = (get_or c.as_slice-object-items.result.now c.loop-place.place record { 0 = 0 }).0 in
    let rest = drop (c.loop-place.place + 1) (reads_at v c.args.pos) in
    let d : drop c.loop-place.place (reads_at v c.args.pos) ≡ o ∷ rest =
    read_at (action_at (queue_actions v) c.args.pos) c.as_slice-object-items.result.now c.loop-place.place record { 0 = 0 } c.loop-place.invariant.items c.loop-place-test.true in
    record {
      items = c.loop-place.invariant.items;
      good = c.loop-place.invariant.good;
      wanted = λ j.
          members-move j (lacking_writers v c.args.slot c.args.pos (o ∷ [])) (lacking_writers v c.args.slot c.args.pos rest) c.loop-place.self.wanted c.look_up.new.self.wanted (c.in_ok-look_up.ensures.wanted j)
          ∙ ap (λ (xs : List ℕ). is_in j (xs ++ c.loop-place.self.wanted))
          (sym (ap (λ (xs : List ℕ). lacking_writers v c.args.slot c.args.pos xs) d ∙ writers-cons v c.args.slot c.args.pos o rest))
          ∙ c.loop-place.invariant.wanted j;
      bases = λ x.
          members-move x (committed_reads v c.args.slot c.args.pos (o ∷ [])) (committed_reads v c.args.slot c.args.pos rest) c.loop-place.self.bases c.look_up.new.self.bases (c.in_ok-look_up.ensures.bases x)
          ∙ ap (λ (xs : List ℕ). is_in x (xs ++ c.loop-place.self.bases))
          (sym (ap (λ (xs : List ℕ). committed_reads v c.args.slot c.args.pos xs) d ∙ reads-cons v c.args.slot c.args.pos o rest))
          ∙ c.loop-place.invariant.bases x;
      ticks = (let t = c.in_ok-look_up.ensures.ticks in let u = c.loop-place.invariant.ticks in omega arith);
    }
