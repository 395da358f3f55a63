-- What the check leaves to prove of `Queue::pop`.
use Rattle.std.proofs.Common.{◌≡◌, [], ◌∷◌, ◌++◌, List, All, sym, ◌∙◌, ap, subst}
use Rattle.sv_world.specs.declared.action.Action.{Action}
use Rattle.sv_queue.specs.Invariant.{HaveSources, SetHasRoom, model_of, slots_in}
use Rattle.sv_queue.specs.Marks.{all_queued, marks_of, queued_of}
use Rattle.sv_queue.specs.Queue.{Queued, entry_actions, without_last}
use Rattle.sv_queue.specs.Slots.{SlotSet}
use Rattle.sv_queue.specs.Written.{front_of}
use Rattle.sv_queue.proofs.SourceLists.{actions-push, sources-front}
use Rattle.sv_queue.proofs.Kept.{All-front, agree_pop, last_can_write}
use Rattle.sv_queue.proofs.Waits.{queued-push, marks-push}
use Rattle.sv_queue.proofs.WrittenObjects.{front_of-push}
use Rattle.sv_queue.proofs.queue.Queue.pop.Goals as goal

pub remove_last-requires : goal.remove_last-requires
remove_last-requires c =
    let a = c.self.inside in
    let front = c.pop_back.new.self.items in
    let w = c.unwrap-entry.result in
    let last = rw c.unwrap-entry.ensures at c.pop_back.ensures.items in
    let queued = ap all_queued last ∙ queued-push front w in
    rw c.self.invariant.agree.lists (last_can_write a.shape a.commit a.committed (all_queued a.entries.items) (all_queued front) a.writers (slots_in a.given.items) (queued_of w) c.self.invariant.agree queued)

pub invariant_of-self : goal.invariant_of-self
invariant_of-self c =
    let a = c.self.inside in
    let last = rw c.unwrap-entry.ensures at c.pop_back.ensures.items in
    let w = c.unwrap-entry.result in
    let front = c.pop_back.new.self.items in
    let e = queued_of w in
    let queued = ap all_queued last ∙ queued-push front w in
    let is : entry_actions (all_queued a.entries.items) ≡ entry_actions (all_queued front) ++ e.action ∷ [] = ap entry_actions queued ∙ actions-push (all_queued front) e in
    record {
      agree = agree_pop a.shape a.commit a.committed (all_queued a.entries.items) (all_queued front) a.writers c.remove_last.new.self (slots_in a.given.items) e c.self.invariant.agree queued c.remove_last.ensures;
      sources = rw (c.pop_back-2.ensures.rest, a.sources.ok.0)
          (sources-front a.commit (entry_actions (all_queued front)) e.action a.sources.items (subst (λ (bs : List Action). HaveSources a.commit bs a.sources.items) is c.self.invariant.sources));
      room = record {
        limit = c.self.invariant.room.limit;
        marks = All-front (SetHasRoom a.room) (marks_of front) (w.marks ∷ []) (subst (λ (rs : List SlotSet). All (SetHasRoom a.room) rs) (ap marks_of last ∙ marks-push front w) c.self.invariant.room.marks);
        given = c.self.invariant.room.given;
      };
      cover = c.self.invariant.cover;
    }

pub returns : goal.returns
returns c =
    let a = c.self.inside in
    let last = rw c.unwrap-entry.ensures at c.pop_back.ensures.items in
    let w = c.unwrap-entry.result in
    let front = c.pop_back.new.self.items in
    let queued = ap all_queued last ∙ queued-push front w in
    ap (λ (es : List Queued). record (model_of a) { entries = es }) (sym (front_of-push (all_queued front) (queued_of w)) ∙ ap front_of (sym queued))
    ∙ ap without_last c.self.view_is
