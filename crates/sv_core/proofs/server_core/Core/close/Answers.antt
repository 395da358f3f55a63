-- What the check leaves to prove of `Core::close`.
use Rattle.std.proofs.Common.{◌≡◌, ℕ, ◌+◌, ◌-◌, ◌≤◌, ◌<◌, Bool, true, false, not, cond, nat_eq, length, slice_set, Some, refl, sym, ◌∙◌, ap, subst, arith, length-set}
use Rattle.sv_journal.specs.Sessions.{is_ended}
use Rattle.sv_queue.specs.Queue.{QueueView}
use Rattle.sv_core.specs.declared.sessions.SessionRow.{SessionRow}
use Rattle.sv_core.specs.Agreement.{Agrees}
use Rattle.sv_core.specs.Cores.{core_rules}
use Rattle.sv_core.specs.Rows.{no_session, row_at, is_seated, owes_end, count_rows}
use Rattle.sv_core.proofs.Seating.{row-read, seat-low, count-some}
use Rattle.sv_core.proofs.Taking.{AreSet, set-rows, seat-set, seated-out, owed-out, agree-left}
use Rattle.sv_core.proofs.server_core.Core.close.Goals as goal

pub owed_without-self-requires : goal.owed_without-self-requires
owed_without-self-requires g c = λ open'.
    (let a = c.args.self.now in
    let rows = a.sessions.items in
    let slot = c.args.seat.slot in
    let s = c.args.seat.session in
    let k = c.requires.0 in
    let at = c.requires.1.0 in
    let same : (row_at rows slot).ended ≡ false = sym (ap (λ (r : SessionRow). r.ended) (row-read rows slot s c.index-row.result.now at c.index-row.ensures)) ∙ open' in
    let owes : owes_end (row_at rows slot) ≡ true = rw (at, same) refl in
    let some : 1 ≤ count_rows owes_end rows = count-some owes_end rows slot (seat-low rows slot s at) owes in
    omega (arith, some, k.ends))

pub returns : goal.returns
returns g c =
    let a = c.args.self.now in
    let h = g.h in
    let rows = a.sessions.items in
    let slot = c.args.seat.slot in
    let s = c.args.seat.session in
    let k = c.requires.0 in
    let at = c.requires.1.0 in
    let low = seat-low rows slot s at in
    let next = slice_set rows slot c.no_session.result in
    let are : AreSet slot no_session rows next = subst (λ x. AreSet slot no_session rows (slice_set rows slot x)) (sym c.no_session.ensures) (set-rows rows slot no_session low) in
    let count : length next ≡ length rows = length-set rows slot c.no_session.result in
    let is : (row_at rows slot).ended ≡ is_ended h s = (k.session_rows slot s at).ended in
    let left : c.owed_without-self.result ≡ cond (is_ended h s) a.owed (a.owed - 1) =
    c.owed_without-self.ensures ∙ ap (λ b. cond b a.owed (a.owed - 1)) (ap (λ (r : SessionRow). r.ended) (row-read rows slot s c.index-row.result.now at c.index-row.ensures) ∙ is) in
    record {
      rules = refl;
      seats = seat-set slot no_session rows next are;
      count = seated-out rows next slot s at are count;
      owed = left;
      keeps = subst (λ (v : QueueView). Agrees (core_rules a) h v next a.clients c.owed_without-self.result) (sym c.forget.ensures)
          (agree-left (core_rules a) h a.queue rows a.clients a.owed k next slot s c.owed_without-self.result at c.requires.1.1 are count
          (left ∙ ap (λ n. cond (is_ended h s) n (n - 1)) k.ends ∙ owed-out rows next slot s (is_ended h s) at is are count));
    }
