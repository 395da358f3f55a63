-- What is proved by hand of `visit_by_two`.
use mir.Syntax.{named}
use contract.Lifetimes.{Lfts}
use denote.Exit.{yes}
use denote.Param.{param}
use denote.Ref.{ShrRef}
use denote.Param.Send.{IsSend, IsSync, param_send, arg_send, shr_send, sendable}
use Rattle.std.proofs.Common.{rules, ◌≡◌, [], ◌∷◌, map, subst, ◌<◌, ℕ}
use Rattle.std.proofs.Crossing.{send, crosses}
use Rattle.std.specs.contracts.alloc.Global as Global
use Rattle.sv_lock.proofs.Ended.{two_ended}
use Rattle.sv_lock.proofs.pass.Pass.TheSendSync as passes
use Rattle.sv_sequencer.proofs.Sent.{sequencer-sends, lock-row, pass-row, lock-syncs, pass-sends, four-send}
use Rattle.test_server.proofs.sequencer.threads.visit_by_two.Given.{Over}
use Rattle.test_server.proofs.sequencer.threads.visit_by_two.Goals as goal
use Rattle.test_server.proofs.sequencer.threads.visit_by_two.Lts.{arg-18-1}

-- The first closure, which captures a handle, the heap, the lock and a pass, may go to another thread.
visit-sends : (g : Over) (κs : Lfts 10) → IsSync (param 0 g.row.R) → IsSend (arg-18-1 g.row.R g.R.laws g.R.Threads-dict g.R.Wait-dict κs)
visit-sends g κs y =
    let a : IsSend (ShrRef (named 6) κs.1.1.1.1.1.1.0 (param 0 g.row.R)) = shr_send (named 6) κs.1.1.1.1.1.1.0 (param 0 g.row.R) y in
    let c : IsSend (ShrRef (named 7) κs.1.1.1.1.1.1.1.0 lock-row) = shr_send (named 7) κs.1.1.1.1.1.1.1.0 lock-row lock-syncs in
    arg_send _ yes _ (four-send _ (ShrRef (named 6) κs.1.1.1.1.1.1.0 (param 0 g.row.R)) Global.the_row (ShrRef (named 7) κs.1.1.1.1.1.1.1.0 lock-row) pass-row a send c pass-sends)

pub close-requires-clause-ended : goal.close-requires-clause-ended
close-requires-clause-ended g c =
    let keeper = c.join-2.new.keeper in
    let made : keeper.made ≡ 2 = search rules in
    let numbers : map (λ x. x.0) keeper.ended ≡ 0 ∷ 1 ∷ [] = search rules in
    λ n lt. two_ended _ numbers n (subst (λ (m : ℕ). n < m) made lt)

pub join-one-requires-send-F : goal.join-one-requires-send-F
join-one-requires-send-F g c κs within = param_send 1 _ (visit-sends g κs c.type_bounds.sync-R)

pub join-one-requires-send-A : goal.join-one-requires-send-A
join-one-requires-send-A g c κs within = search (passes.the_send, sequencer-sends, sendable, crosses) depth 20
