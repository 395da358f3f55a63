-- What the check leaves to prove of `Queue::install_front`.
use Rattle.std.proofs.Common.{◌≡◌, suc, ◌*◌, List, length, All, ap, subst, sym, ◌∙◌, arith}
use Rattle.sv_world.specs.declared.action.Action.{Action}
use Rattle.sv_world.specs.Sets.{write_set}
use Rattle.sv_queue.specs.Invariant.{HaveSources, SetHasRoom, slots_in}
use Rattle.sv_queue.specs.Marks.{all_queued, marks_of, queued_of}
use Rattle.sv_queue.specs.Queue.{entry_actions, first_installed}
use Rattle.sv_queue.specs.Pairs.{pairs_of}
use Rattle.sv_queue.specs.Slots.{SlotSet, no_slots}
use Rattle.sv_queue.proofs.Blocks.{blocks-given, can_write-more}
use Rattle.sv_queue.proofs.Kept.{agree_install, first_can_write, first_values}
use Rattle.sv_queue.proofs.Installs.{pairs_of-give, first_installed_is}
use Rattle.sv_queue.proofs.SourceLists.{sources-rest}
use Rattle.sv_queue.proofs.Waits.{rows_count, rows-given, rooms-given}
use Rattle.sv_queue.proofs.queue.Queue.install_front.Goals as goal

pub put_values-requires : goal.put_values-requires
put_values-requires c =
    let a = c.self.inside in
    let w = c.unwrap-entry.result in
    let rest = c.pop_front.new.self.items in
    let first = ap all_queued (rw c.unwrap-entry.ensures at c.pop_front.ensures.items) in
    record {
      can = rw c.self.invariant.agree.objects (first_can_write a.shape a.commit a.committed (all_queued a.entries.items) (all_queued rest) a.writers (slots_in a.given.items) (queued_of w) c.self.invariant.agree first);
      values = (first_values a.shape a.commit a.committed (all_queued a.entries.items) (all_queued rest) a.writers (slots_in a.given.items) (queued_of w) c.unwrap.result c.self.invariant.agree first c.unwrap.ensures).0;
    }

pub remove_first-requires : goal.remove_first-requires
remove_first-requires c =
    let a = c.self.inside in
    let first = ap all_queued (rw c.unwrap-entry.ensures at c.pop_front.ensures.items) in
    rw c.self.invariant.agree.lists (first_can_write a.shape a.commit a.committed (all_queued a.entries.items) (all_queued c.pop_front.new.self.items) a.writers (slots_in a.given.items) (queued_of c.unwrap-entry.result) c.self.invariant.agree first)

pub tell_blocks-requires : goal.tell_blocks-requires
tell_blocks-requires c =
    let a = c.self.inside in
    let w = c.unwrap-entry.result in
    let items = rw c.unwrap-entry.ensures at c.pop_front.ensures.items in
    let first = ap all_queued items in
    let has = subst (λ (rs : List SlotSet). All (SetHasRoom a.room) rs) (ap marks_of items) c.self.invariant.room.marks 0 no_slots (omega arith) in
    record {
      can = can_write-more a.shape.objects (64 * length a.blocks.items) w.action
          (first_can_write a.shape a.commit a.committed (all_queued a.entries.items) (all_queued c.pop_front.new.self.items) a.writers (slots_in a.given.items) (queued_of w) c.self.invariant.agree first)
          (omega (arith, rows_count a.given.items, c.self.invariant.agree.given, c.self.invariant.cover.count));
      room = λ k d low s m. (let within = has.within s m in let enough = c.self.invariant.cover.enough k d low in omega (arith, within, enough));
    }

pub give_written-requires : goal.give_written-requires
give_written-requires c =
    let a = c.self.inside in
    let w = c.unwrap-entry.result in
    let items = rw c.unwrap-entry.ensures at c.pop_front.ensures.items in
    let first = ap all_queued items in
    let rows : length a.given.items ≡ a.shape.objects = sym (rows_count a.given.items) ∙ c.self.invariant.agree.given in
    let has = subst (λ (rs : List SlotSet). All (SetHasRoom a.room) rs) (ap marks_of items) c.self.invariant.room.marks 0 no_slots (omega arith) in
    record {
      can = rw rows (first_can_write a.shape a.commit a.committed (all_queued a.entries.items) (all_queued c.pop_front.new.self.items) a.writers (slots_in a.given.items) (queued_of w) c.self.invariant.agree first);
      room = λ k d low s m. (let within = has.within s m in let enough = (c.self.invariant.room.given k d low).enough in omega (arith, within, enough));
    }

pub invariant_of-self : goal.invariant_of-self
invariant_of-self c =
    let a = c.self.inside in
    let w = c.unwrap-entry.result in
    let e = queued_of w in
    let rest = c.pop_front.new.self.items in
    let items = rw c.unwrap-entry.ensures at c.pop_front.ensures.items in
    let first = ap all_queued items in
    let next = c.give_written.new.rows.items in
    let marks = subst (λ (rs : List SlotSet). All (SetHasRoom a.room) rs) (ap marks_of items) c.self.invariant.room.marks in
    record {
      agree = rw c.put_values.ensures (agree_install a.shape a.commit a.committed c.unwrap.result e (all_queued a.entries.items) (all_queued rest)
          a.writers c.remove_first.new.self (slots_in a.given.items) (slots_in next) c.self.invariant.agree first c.unwrap.ensures c.remove_first.ensures (rows-given (write_set w.action) a.given.items next w.marks.slots c.give_written.ensures));
      sources = rw c.pop_front-2.ensures.rest (sources-rest a.commit e.action (entry_actions (all_queued rest)) a.sources.items
          (subst (λ (bs : List Action). HaveSources a.commit bs a.sources.items) (ap entry_actions first) c.self.invariant.sources));
      room = record {
        limit = c.self.invariant.room.limit;
        marks = λ k d low. marks (suc k) d (omega arith);
        given = rooms-given a.room (write_set w.action) a.given.items next w.marks c.give_written.ensures c.self.invariant.room.given (marks 0 no_slots (omega arith));
      };
      cover = blocks-given a.room (write_set w.action) w.marks a.given.items next a.blocks.items c.tell_blocks.new.blocks.items c.self.invariant.cover c.self.invariant.room.given (marks 0 no_slots (omega arith)) c.self.invariant.room.limit
          c.give_written.ensures c.tell_blocks.ensures;
    }

pub returns : goal.returns
returns c =
    let a = c.self.inside in
    let w = c.unwrap-entry.result in
    let first = ap all_queued (rw c.unwrap-entry.ensures at c.pop_front.ensures.items) in
    let next = c.give_written.new.rows.items in
    rw (c.put_values.ensures, pairs_of-give a.shape.objects (slots_in a.given.items) (slots_in next) (queued_of w) c.self.invariant.agree.given (rows-given (write_set w.action) a.given.items next w.marks.slots c.give_written.ensures))
    (sym (first_installed_is a.shape a.commit a.room a.committed c.unwrap.result (all_queued a.entries.items) (all_queued c.pop_front.new.self.items) (queued_of w) (pairs_of a.shape.objects (slots_in a.given.items)) first c.unwrap.ensures)
    ∙ ap first_installed c.self.view_is)
