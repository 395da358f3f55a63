-- What the check leaves to prove of `Core::take_next`.
use Rattle.std.proofs.Common.{rules, ◌≡◌, ℕ, ◌+◌, ◌≤◌, ◌<◌, [], ◌∷◌, ◌++◌, List, cond, length, None, Result, Ok, Err, OnErr, refl, sym, ◌∙◌, ap, subst, arith, length-append}
use Rattle.std.proofs.lemmas.List.{get_or_past}
use Rattle.sv_queue.specs.Queue.{QueueView}
use Rattle.sv_core.specs.declared.sessions.SessionRow.{SessionRow}
use Rattle.sv_core.specs.Agreement.{Agrees}
use Rattle.sv_core.specs.Cores.{core_rules}
use Rattle.sv_core.specs.Rows.{no_session, new_session, seat_in, is_seated, owes_end, count_rows}
use Rattle.sv_core.proofs.Seating.{count-most, count-push}
use Rattle.sv_core.proofs.Taking.{AreSet, push-rows, seat-set, agree-room, agree-taken}
use Rattle.sv_core.proofs.server_core.Core.take_next.Goals as goal

on-err : {T E : Type 0} {P : Type 0} (o : Result T E) → P → OnErr o P
on-err (Ok t) p = tt
on-err (Err e) p = p

pub returns-in_err-push-clause-err : goal.returns-in_err-push-clause-err
returns-in_err-push-clause-err g c =
    let a = c.args.self.now in
    let h = g.h in
    let k = c.requires.0 in
    let items : c.push.new.self.items ≡ a.sessions.items = c.in_err-push.ensures.items in
    let n = c.make_room.new.self.room in
    on-err c.from_residual-in_err-push.result (record {
      rules = refl;
      seats = λ slot. ap (λ rows. seat_in rows slot) items;
      count = ap (count_rows is_seated) items;
      owed = refl;
      keeps = subst (λ (rows : List SessionRow). Agrees (core_rules a) h c.make_room.new.self rows a.clients a.owed) (sym items)
          (subst (λ (v : QueueView). Agrees (core_rules a) h v a.sessions.items a.clients a.owed) (sym c.in_ok-make_room.ensures.ok.1)
          (agree-room (core_rules a) h a.queue a.sessions.items a.clients a.owed n k (omega (arith, k.room, c.make_room.ensures.grows))));
    })

pub overflow_add-self : goal.overflow_add-self
overflow_add-self g c =
    let k = c.requires.0 in
    omega (arith, k.ends, count-most owes_end c.args.self.now.sessions.items, c.requires.1.1.1)

pub returns-clause-ok : goal.returns-clause-ok
returns-clause-ok g c =
    let a = c.args.self.now in
    let h = g.h in
    let rows = a.sessions.items in
    let slot = c.len-slot.result in
    let s = c.args.session in
    let k = c.requires.0 in
    let row = new_session a.opened.requests s in
    let next = c.push.new.self.items in
    let n = c.make_room.new.self.room in
    let made : c.new_session.result ≡ row = c.new_session.ensures ∙ ap (λ o. new_session o s) c.requests.ensures in
    let items : next ≡ rows ++ row ∷ [] = c.in_ok-push.ensures.items ∙ ap (λ r. rows ++ r ∷ []) made in
    let last : slot ≡ length rows = search rules in
    let are : AreSet slot row rows next = subst (λ rs. AreSet slot row rows rs) (sym items) (subst (λ i. AreSet i row rows (rows ++ row ∷ [])) (sym last) (push-rows rows row)) in
    let longer : length next ≡ length rows + 1 = ap length items ∙ length-append rows (row ∷ []) in
    let free : seat_in rows slot ≡ None = ap (λ (r : SessionRow). r.session) (get_or_past rows slot no_session (omega (arith, last))) in
    let seated : count_rows is_seated next ≡ count_rows is_seated rows + 1 = ap (count_rows is_seated) items ∙ count-push is_seated rows row in
    let owes : count_rows owes_end next ≡ count_rows owes_end rows + 1 = ap (count_rows owes_end) items ∙ count-push owes_end rows row in
    let enough : slot + 1 ≤ n = c.in_ok-make_room.ensures.ok.0 in
    record {
      rules = refl;
      free = free;
      seats = seat-set slot row rows next are;
      count = seated;
      owed = refl;
      keeps = subst (λ (v : QueueView). Agrees (core_rules a) h v next a.clients (a.owed + 1)) (sym c.in_ok-make_room.ensures.ok.1)
          (agree-taken (core_rules a) h a.queue rows a.clients a.owed k next slot s n (a.owed + 1) c.requires.1.0 c.requires.1.1.0 free are
          (omega (arith, longer, c.requires.1.1.1)) (omega (arith, longer, enough, last)) (omega (arith, owes, k.ends)));
    }
