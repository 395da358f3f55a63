-- What is proved by hand of `serve_two`.
use mir.Syntax.{named}
use contract.Lifetimes.{Lfts}
use denote.Exit.{no}
use denote.Param.{param}
use denote.Ref.{ShrRef}
use denote.Param.Send.{IsSend, IsSync, param_send, arg_send, shr_send, sendable}
use Rattle.std.proofs.Common.{rules, ◌≡◌, [], ◌∷◌, map, subst, ◌<◌, ℕ}
use Rattle.std.proofs.Crossing.{send, crosses}
use Rattle.std.specs.contracts.alloc.Global as Global
use Rattle.sv_link.specs.contracts.gates.HoldGate as gate
use Rattle.sv_lock.proofs.Ended.{two_ended}
use Rattle.sv_lock.proofs.pass.Pass.TheSendSync as passes
use Rattle.sv_sequencer.proofs.Sent.{sequencer-sends, lock-row, pass-row, lock-syncs, pass-sends}
use Rattle.test_link.proofs.Sent.{gate-syncs, six-send}
use Rattle.test_link.proofs.session.threads.serve_two.Given.{Over}
use Rattle.test_link.proofs.session.threads.serve_two.Goals as goal
use Rattle.test_link.proofs.session.threads.serve_two.Lts.{arg-22-1}

-- The first closure, which captures a handle, the heap, the lock, a pass, an end and a gate, may go to another thread.
session-sends : (g : Over) (κs : Lfts 12) → IsSync (param 0 g.row.R) → IsSend (param 1 g.row.E) → IsSend (arg-22-1 g.row.R g.row.E g.R.laws g.E.laws g.R.Threads-dict g.R.Wait-dict g.E.End-dict g.E.Destruct-dict κs)
session-sends g κs y e =
    let a : IsSend (ShrRef (named 6) κs.1.1.1.1.1.1.0 (param 0 g.row.R)) = shr_send (named 6) κs.1.1.1.1.1.1.0 (param 0 g.row.R) y in
    let c : IsSend (ShrRef (named 7) κs.1.1.1.1.1.1.1.0 lock-row) = shr_send (named 7) κs.1.1.1.1.1.1.1.0 lock-row lock-syncs in
    let f : IsSend (ShrRef (named 8) κs.1.1.1.1.1.1.1.1.0 gate.the_row) = shr_send (named 8) κs.1.1.1.1.1.1.1.1.0 gate.the_row gate-syncs in
    arg_send _ no _ (six-send _ (ShrRef (named 6) κs.1.1.1.1.1.1.0 (param 0 g.row.R)) Global.the_row (ShrRef (named 7) κs.1.1.1.1.1.1.1.0 lock-row) pass-row (param 1 g.row.E) (ShrRef (named 8) κs.1.1.1.1.1.1.1.1.0 gate.the_row) a send c pass-sends e f)

pub close-sequencer-requires-clause-ended : goal.close-sequencer-requires-clause-ended
close-sequencer-requires-clause-ended g c =
    let keeper = c.join-2.new.keeper in
    let made : keeper.made ≡ 2 = search rules in
    let numbers : map (λ x. x.0) keeper.ended ≡ 0 ∷ 1 ∷ [] = search rules in
    λ n lt. two_ended _ numbers n (subst (λ (m : ℕ). n < m) made lt)

pub join-first-requires-send-F : goal.join-first-requires-send-F
join-first-requires-send-F g c κs within = param_send 1 _ (session-sends g κs c.type_bounds.sync-R c.type_bounds.send-E)

pub join-first-requires-send-A : goal.join-first-requires-send-A
join-first-requires-send-A g c κs within = search (passes.the_send, sequencer-sends, sendable, crosses) depth 20
