-- What the check leaves to prove of `Queue::push`.
use Rattle.std.proofs.Common.{◌≡◌, suc, ◌+◌, ◌^◌, ◌<◌, ◌∙◌, [], ◌∷◌, ◌++◌, length, get_or, replicate, None, sym, ap, arith}
use Rattle.std.proofs.lemmas.List.{length-map}
use Rattle.sv_world.specs.Control.{blank, last_writer}
use Rattle.sv_world.specs.Sets.{read_set}
use Rattle.sv_world.specs.Faults.{IsGoodAction}
use Rattle.sv_queue.specs.declared.waiting.WaitingAction.{WaitingAction}
use Rattle.sv_queue.specs.Invariant.{SetHasRoom, slots_in}
use Rattle.sv_queue.specs.Marks.{all_queued, marks_of, queued_of}
use Rattle.sv_queue.specs.Queue.{Queued, QueueView, entry_actions, last_position, queue_actions}
use Rattle.sv_queue.proofs.Kept.{All-push, agree_push, can_write}
use Rattle.sv_queue.proofs.SourceLists.{actions-push, sources-push}
use Rattle.sv_queue.proofs.Waits.{queued_count, queued-push, marks-push, room_empty}
use Rattle.sv_queue.proofs.queue.Queue.push.Goals as goal

pub add-requires : goal.add-requires
add-requires c =
    let a = c.self.inside in
    let good : IsGoodAction a.shape c.args.action = rw (ap (λ (v : QueueView). v.shape) c.self.view_is) c.requires.good in
    rw c.self.invariant.agree.lists (can_write a.shape c.args.action good)

pub invariant_of-self-2 : goal.invariant_of-self-2
invariant_of-self-2 c =
    let a = c.self.inside in
    let ws = a.entries.items in
    let es = all_queued ws in
    let p = a.commit + c.len.result + 1 in
    let w : WaitingAction = record { author = c.args.author; seq = c.args.seq; action = c.args.action; result = None; marks = c.in_ok-marks.marks } in
    let added : c.push_back.new.self.items ≡ ws ++ w ∷ [] = c.in-Ok.ensures.items ∙ ap (λ ds. ds ++ w ∷ []) c.in_ok-reserve.ensures.items in
    let good : IsGoodAction a.shape c.args.action = rw (ap (λ (v : QueueView). v.shape) c.self.view_is) c.requires.good in
    let at : p ≡ suc (a.commit + length es) = omega (arith, c.len.ensures, a.entries.ok.0, queued_count ws) in
    let last = ap (λ (v : QueueView). last_position v) c.self.view_is in
    let room : p < 2 ^ 32 = omega (arith, at, last, c.requires.room) in
    let stands : c.push_back_reserved.new.self.items ≡ a.sources.items ++ c.sources_at-sources.result ∷ [] =
    c.push_back_reserved.ensures.items ∙ ap (λ ss. ss ++ c.sources_at-sources.result ∷ []) c.in_ok-reserve-2.ensures.items in
    record {
      agree = rw (added, queued-push ws w) (agree_push a.shape a.commit a.committed es a.writers c.add.new.self (slots_in a.given.items) (queued_of w) p c.self.invariant.agree (record { action = good; values = tt; attrs = tt }) at room c.in_ok-add.ensures.ok);
      sources = rw (added, queued-push ws w, actions-push es (queued_of w), stands) (sources-push a.commit (entry_actions es) c.args.action a.sources.items c.sources_at-sources.result c.self.invariant.sources
          (λ k low. c.sources_at-sources.ensures k low
          ∙ ap (λ (v : QueueView). last_writer (queue_actions v) (get_or (read_set c.args.action) k 0) p) (sym c.self.view_is)
          ∙ ap (λ n. last_writer (replicate a.commit blank ++ entry_actions es) (get_or (read_set c.args.action) k 0) n) (at ∙ ap (λ n. suc (a.commit + n)) (sym (length-map es (λ (d : Queued). d.action))))));
      room = record {
        limit = c.self.invariant.room.limit;
        marks = rw (added, marks-push ws w) (All-push (SetHasRoom a.room) (marks_of ws) w.marks c.self.invariant.room.marks (room_empty a.room w.marks c.in_ok-marks.ensures.slots c.in_ok-marks.ensures.room));
        given = c.self.invariant.room.given;
      };
      cover = c.self.invariant.cover;
    }
