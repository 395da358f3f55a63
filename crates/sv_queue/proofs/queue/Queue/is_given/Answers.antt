-- What the check leaves to prove of `Queue::is_given`.
use Rattle.std.proofs.Common.{ℕ, ◌<◌, length, inl, inr, [], ◌∙◌, sym, ap, slice_index_or, arith}
use Rattle.std.proofs.lemmas.Bool.{cases_lt}
use Rattle.sv_world.specs.Control.{is_in}
use Rattle.sv_queue.specs.Invariant.{slots_in}
use Rattle.sv_queue.specs.Pairs.{is_pair}
use Rattle.sv_queue.specs.Queue.{QueueView}
use Rattle.sv_queue.proofs.PairSets.{is_pair-where, out_of_pairs}
use Rattle.sv_queue.proofs.Waits.{read_row, rows_count, room_at, room_out}
use Rattle.sv_queue.proofs.queue.Queue.is_given.Goals as goal

pub returns : goal.returns
returns c =
    let a = c.self.inside in
    let rows = a.given.items in
    let x = c.args.object.0 in
    let s = c.args.slot in
    let low : x < a.shape.objects = omega (arith, ap (λ (v : QueueView). v.shape.objects) c.self.view_is) in
    let within : x < length rows = omega (arith, low, c.self.invariant.agree.given, rows_count rows) in
    let row = read_row rows x c.index-row.result.now within c.index-row.ensures in
    let test = λ (y t : ℕ). is_in t (slice_index_or (slots_in rows) y []) in
    elim (cases_lt s 1024) [
      | inl small ↦ c.has.ensures ∙ ap (is_in s) row ∙ sym (is_pair-where test x s a.shape.objects low small) ∙ ap (λ (v : QueueView). is_pair x s v.given) c.self.view_is
      | inr large ↦ c.has.ensures
          ∙ room_out a.room s c.index-row.result.now c.self.invariant.room.limit (room_at a.room rows x c.index-row.result.now c.self.invariant.room.given within c.index-row.ensures) large
          ∙ sym (out_of_pairs test x s a.shape.objects low large) ∙ ap (λ (v : QueueView). is_pair x s v.given) c.self.view_is
    ]
