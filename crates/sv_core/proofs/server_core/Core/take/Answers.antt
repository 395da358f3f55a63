-- What the check leaves to prove of `Core::take`.
use Rattle.std.proofs.Common.{◌≡◌, ◌+◌, ◌≤◌, length, slice_set, refl, sym, ◌∙◌, ap, subst, arith, length-set}
use Rattle.sv_core.specs.Cores.{core_rules}
use Rattle.sv_core.specs.Rows.{new_session, owes_end, count_rows}
use Rattle.sv_core.proofs.Seating.{count-most}
use Rattle.sv_core.proofs.Taking.{AreSet, set-rows, seat-set, seated-in, owed-in, agree-taken}
use Rattle.sv_core.proofs.server_core.Core.take.Goals as goal

pub overflow_add-self : goal.overflow_add-self
overflow_add-self g c =
    let k = c.requires.0 in
    omega (arith, k.ends, count-most owes_end c.args.self.now.sessions.items, k.few)

pub returns-clause-taken : goal.returns-clause-taken
returns-clause-taken g c =
    let a = c.args.self.now in
    let rows = a.sessions.items in
    let slot = c.args.seat.slot in
    let s = c.args.seat.session in
    let k = c.requires.0 in
    let low = c.requires.1.1.1.0 in
    let free = c.requires.1.1.1.1 in
    let row = new_session a.opened.requests s in
    let next = slice_set rows slot c.new_session.result in
    let made : c.new_session.result ≡ row = c.new_session.ensures ∙ ap (λ o. new_session o s) c.requests.ensures in
    let are : AreSet slot row rows next = subst (λ x. AreSet slot row rows (slice_set rows slot x)) (sym made) (set-rows rows slot row low) in
    let count : length next ≡ length rows = length-set rows slot c.new_session.result in
    let more : count_rows owes_end next ≡ count_rows owes_end rows + 1 = owed-in a.opened.requests rows next slot s free are count low in
    record {
      rules = refl;
      free = free;
      seats = seat-set slot row rows next are;
      count = seated-in a.opened.requests rows next slot s free are count low;
      owed = refl;
      keeps = agree-taken (core_rules a) g.h a.queue rows a.clients a.owed k next slot s a.queue.room (a.owed + 1) c.requires.1.0 c.requires.1.1.0 free are
          (omega (arith, count, k.few)) (omega (arith, count, k.room)) (omega (arith, more, k.ends));
    }
