-- What the check leaves to prove of `Core::new`.
use Rattle.std.proofs.Common.{◌≡◌, ◌≤◌, [], Option, None, Some, IfSome, unwrap_or, refl, sym, ◌∙◌, ap, subst, arith}
use Rattle.sv_queue.specs.Queue.{QueueView, opening_queue}
use Rattle.sv_core.specs.Agreement.{Agrees}
use Rattle.sv_core.specs.Rows.{seat_in, is_seated, count_rows}
use Rattle.sv_core.proofs.Opening.{first_rows, first-seats, rows-count, few-first, agree-opening}
use Rattle.sv_core.proofs.server_core.Core.new.Goals as goal

pub returns-clause-seats : goal.returns-clause-seats
returns-clause-seats c = λ s.
    (let r = c.args.opened in
    let are : c.in_ok-rows.rows.items ≡ first_rows r.requests (unwrap_or r.sessions 0) =
    c.in_ok-rows.ensures ∙ ap (λ o. first_rows o c.first_sessions-sessions.result) c.requests.ensures ∙ ap (first_rows r.requests) c.first_sessions-sessions.ensures in
    ap (λ rows. seat_in rows s) are ∙ first-seats r.requests r.sessions s)

pub returns-clause-count : goal.returns-clause-count
returns-clause-count c =
    let r = c.args.opened in
    let are : c.in_ok-rows.rows.items ≡ first_rows r.requests (unwrap_or r.sessions 0) =
    c.in_ok-rows.ensures ∙ ap (λ o. first_rows o c.first_sessions-sessions.result) c.requests.ensures ∙ ap (first_rows r.requests) c.first_sessions-sessions.ensures in
    ap (count_rows is_seated) are ∙ rows-count is_seated r.requests (unwrap_or r.sessions 0) (λ i. refl)

pub returns-clause-keeps : goal.returns-clause-keeps
returns-clause-keeps c =
    let r = c.args.opened in
    let rows = c.in_ok-rows.rows.items in
    let n = unwrap_or r.sessions 0 in
    let are : rows ≡ first_rows r.requests n =
    c.in_ok-rows.ensures ∙ ap (λ o. first_rows o c.first_sessions-sessions.result) c.requests.ensures ∙ ap (first_rows r.requests) c.first_sessions-sessions.ensures in
    subst (λ (v : QueueView). Agrees r [] v rows c.new.result c.first_sessions-sessions.result) (sym (c.in_ok-queue.ensures ∙ ap opening_queue c.world.ensures))
    (agree-opening r n rows c.new.result c.first_sessions-sessions.result c.requires.positions (few-first r.sessions c.requires.few) are c.new.ensures c.first_sessions-sessions.ensures)
