-- What a run on threads leaves is what its tasks left.
use Rattle.std.proofs.Common.{rules, ◌+◌, ◌++◌, [], ◌∷◌, length, map, reverse, inr, refl, sym, ap, subst, ◌∙◌, arith}
use Rattle.std.specs.Prelude.{Err}
use Rattle.std.specs.List.{flat_map}
use Rattle.sv_scenario.specs.Sessions.{session_count}
use denote.Param.Send.{sendable}
use Rattle.std.proofs.Crossing.{crosses}
use Rattle.sv_sequencer.proofs.Sent.{lock-syncs, pass-sends}
use Rattle.sv_player.specs.Played.{lines_told}
use Rattle.law_traffic.specs.Runs.{IsGoodRun}
use Rattle.sv_threads.specs.Given.{setting, ends_given}
use Rattle.sv_threads.specs.Tasks.{services_of, parts_of, serviced_of}
use Rattle.sv_threads.specs.RunRemains.{transcripts_of, RemainsHaveRoom, JoinedPasses}
use Rattle.sv_threads.specs.Playing.{IsThreadedRun, TookAllIn}
use Rattle.sv_threads.proofs.Ready.{tasks_ready}
use Rattle.sv_threads.proofs.Sent.{client-field-sends, trace-field-sends, step-syncs}
use Rattle.sv_threads.specs.declared.outcome.PlayedAll.{PlayedAll}
use Rattle.sv_threads.specs.declared.outcome.PlayFault.TheVariants as faults_of
use Rattle.sv_threads.specs.declared.gathering.RunRemains.{RunRemains}
use Rattle.sv_threads.specs.Opening.{server_end, uncut}
use Rattle.sv_threads.specs.Pairs.{pairing}
use Rattle.sv_threads.proofs.Opened.{given_count, given_each, unused_held}
use Rattle.sv_threads.proofs.Unused.{none_made, memory_leaves, settled_all, matched_all, some_differed, unused_pairs, unused_owed, unused_leaves, unused_cause, unused_matches, not_start, unerr}
use Rattle.sv_threads.proofs.Jobs.{none_ran, fault_none_ran, memory_all_ran}
use Rattle.sv_threads.proofs.Done.{passes, numbers, room, jobs, are_pairs, are_calm, are_since, owed_enough, took_all, threaded, told_all}
use Rattle.sv_threads.proofs.opening.RunShared.play.Goals as goal

pub run_all-requires-clause-ready : goal.run_all-requires-clause-ready
run_all-requires-clause-ready g c κs within =
    let told = g.N.E.End.told in
    let faults = g.N.E.End.faults in
    let calm = g.N.E.End.calm in
    let run = setting c.args.self.now.lock.now c.args.self.now.scenario.now (g.N.Net.made c.args.net.now) (g.N.Net.calm c.args.net.now) (g.W.Teller.telling c.args.self.now.teller.now).watched in
    let t = c.in-Ok.ensures in
    let ts = c.in-Ok.tasks.items in
    tasks_ready told faults calm _ run c.requires.good ts t.services t.parts

pub gather-requires-clause-passes : goal.gather-requires-clause-passes
gather-requires-clause-passes g c =
    let told = g.N.E.End.told in
    let faults = g.N.E.End.faults in
    let calm = g.N.E.End.calm in
    let run = setting c.args.self.now.lock.now c.args.self.now.scenario.now (g.N.Net.made c.args.net.now) (g.N.Net.calm c.args.net.now) (g.W.Teller.telling c.args.self.now.teller.now).watched in
    let t = c.in-Ok.ensures in
    let ts = c.in-Ok.tasks.items in
    let os = c.in-Done.outs.items in
    let kept = c.in-Done.ensures.kept in
    passes told faults calm _ run ts os t.count t.services t.parts kept

pub gather-requires-clause-numbers : goal.gather-requires-clause-numbers
gather-requires-clause-numbers g c =
    let told = g.N.E.End.told in
    let faults = g.N.E.End.faults in
    let calm = g.N.E.End.calm in
    let run = setting c.args.self.now.lock.now c.args.self.now.scenario.now (g.N.Net.made c.args.net.now) (g.N.Net.calm c.args.net.now) (g.W.Teller.telling c.args.self.now.teller.now).watched in
    let t = c.in-Ok.ensures in
    let ts = c.in-Ok.tasks.items in
    let os = c.in-Done.outs.items in
    let kept = c.in-Done.ensures.kept in
    numbers told faults calm _ run ts os t.count t.services t.parts kept

pub gather-requires-clause-room : goal.gather-requires-clause-room
gather-requires-clause-room g c =
    let told = g.N.E.End.told in
    let faults = g.N.E.End.faults in
    let calm = g.N.E.End.calm in
    let run = setting c.args.self.now.lock.now c.args.self.now.scenario.now (g.N.Net.made c.args.net.now) (g.N.Net.calm c.args.net.now) (g.W.Teller.telling c.args.self.now.teller.now).watched in
    let t = c.in-Ok.ensures in
    let ts = c.in-Ok.tasks.items in
    let os = c.in-Done.outs.items in
    let kept = c.in-Done.ensures.kept in
    room told faults calm _ run ts os t.count t.services t.parts kept c.open.new.left
    (subst (RemainsHaveRoom (session_count c.args.self.now.scenario.now) (session_count c.args.self.now.scenario.now) (length c.args.self.now.scenario.now.clients)) (sym t.same)
    (subst (λ n. RemainsHaveRoom n n (length c.args.self.now.scenario.now.clients) c.in_ok-left.left) c.sessions_of.ensures
    (subst (λ m. RemainsHaveRoom c.sessions_of.result c.sessions_of.result m c.in_ok-left.left) c.len.ensures c.in_ok-left.ensures.room)))

pub settle_all-requires-clause-pairs : goal.settle_all-requires-clause-pairs
settle_all-requires-clause-pairs g c κs within =
    let told = g.N.E.End.told in
    let faults = g.N.E.End.faults in
    let calm = g.N.E.End.calm in
    let run = setting c.args.self.now.lock.now c.args.self.now.scenario.now (g.N.Net.made c.args.net.now) (g.N.Net.calm c.args.net.now) (g.W.Teller.telling c.args.self.now.teller.now).watched in
    let t = c.in-Ok.ensures in
    let ts = c.in-Ok.tasks.items in
    let os = c.in-Done.outs.items in
    let kept = c.in-Done.ensures.kept in
    let left = c.gather.new.left in
    let k = c.gather.new.keeper in
    let joined = subst (λ b. JoinedPasses (serviced_of os) b k) t.keeper c.gather.ensures.joined in
    are_pairs told faults calm _ run ts os t.count t.services t.parts kept left k c.gather.ensures.gathered joined (g.N.Net.made c.open.new.net) t.pairs.0

pub settle_all-requires-clause-owed : goal.settle_all-requires-clause-owed
settle_all-requires-clause-owed g c κs within =
    let told = g.N.E.End.told in
    let faults = g.N.E.End.faults in
    let calm = g.N.E.End.calm in
    let run = setting c.args.self.now.lock.now c.args.self.now.scenario.now (g.N.Net.made c.args.net.now) (g.N.Net.calm c.args.net.now) (g.W.Teller.telling c.args.self.now.teller.now).watched in
    let t = c.in-Ok.ensures in
    let ts = c.in-Ok.tasks.items in
    let os = c.in-Done.outs.items in
    let kept = c.in-Done.ensures.kept in
    let left = c.gather.new.left in
    let k = c.gather.new.keeper in
    let joined = subst (λ b. JoinedPasses (serviced_of os) b k) t.keeper c.gather.ensures.joined in
    let enough = owed_enough told faults calm _ run ts os t.count t.services t.parts kept left k c.gather.ensures.gathered joined in
    let owed = t.pairs.1 in
    omega (arith, enough, owed)

pub returns-then-not-settle_all-clause-calm : goal.returns-then-not-settle_all-clause-calm
returns-then-not-settle_all-clause-calm g c = λ q. c.settle_all.ensures.calm (c.in-Ok.ensures.calm q).1

pub returns-then-lacked-clause-calm : goal.returns-then-lacked-clause-calm
returns-then-lacked-clause-calm g c = λ q. c.settle_all.ensures.calm (c.in-Ok.ensures.calm q).1

pub returns-then-not-settle_all-clause-certain : goal.returns-then-not-settle_all-clause-certain
returns-then-not-settle_all-clause-certain g c =
    let told = g.N.E.End.told in
    let faults = g.N.E.End.faults in
    let calm = g.N.E.End.calm in
    let run = setting c.args.self.now.lock.now c.args.self.now.scenario.now (g.N.Net.made c.args.net.now) (g.N.Net.calm c.args.net.now) (g.W.Teller.telling c.args.self.now.teller.now).watched in
    let t = c.in-Ok.ensures in
    let ts = c.in-Ok.tasks.items in
    let os = c.in-Done.outs.items in
    let kept = c.in-Done.ensures.kept in
    let left = c.gather.new.left in
    let k = c.gather.new.keeper in
    let joined = subst (λ b. JoinedPasses (serviced_of os) b k) t.keeper c.gather.ensures.joined in
    let count = owed_enough told faults calm _ run ts os t.count t.services t.parts kept left k c.gather.ensures.gathered joined in
    λ q e.
    some_differed told calm (g.N.Net.calm c.open.new.net) left.servers.items left.clients.items c.settle_all.result (session_count c.args.self.now.scenario.now)
    (pairing (g.N.Net.settled c.args.net.now) (g.N.Net.unmatched c.args.net.now) (g.N.Net.made c.args.net.now) (g.N.Net.owed c.args.net.now))
    (pairing (g.N.Net.settled c.open.new.net) (g.N.Net.unmatched c.open.new.net) (g.N.Net.made c.open.new.net) (g.N.Net.owed c.open.new.net))
    (pairing (g.N.Net.settled c.settle_all.new.net) (g.N.Net.unmatched c.settle_all.new.net) (g.N.Net.made c.settle_all.new.net) (g.N.Net.owed c.settle_all.new.net))
    t.settled.0 t.settled.1 t.pairs.0 t.pairs.1 count c.settle_all.ensures.each (search rules) (t.calm q).1
    (are_calm told faults calm _ run ts os t.count t.services t.parts kept left k c.gather.ensures.gathered joined q)
    (are_since told faults calm _ run ts os t.count t.services t.parts kept left k c.gather.ensures.gathered joined)

pub returns-then-not-settle_all-clause-pairs : goal.returns-then-not-settle_all-clause-pairs
returns-then-not-settle_all-clause-pairs g c =
    let told = g.N.E.End.told in
    let faults = g.N.E.End.faults in
    let calm = g.N.E.End.calm in
    let run = setting c.args.self.now.lock.now c.args.self.now.scenario.now (g.N.Net.made c.args.net.now) (g.N.Net.calm c.args.net.now) (g.W.Teller.telling c.args.self.now.teller.now).watched in
    let t = c.in-Ok.ensures in
    let ts = c.in-Ok.tasks.items in
    let os = c.in-Done.outs.items in
    let kept = c.in-Done.ensures.kept in
    let left = c.gather.new.left in
    let k = c.gather.new.keeper in
    let joined = subst (λ b. JoinedPasses (serviced_of os) b k) t.keeper c.gather.ensures.joined in
    let count = owed_enough told faults calm _ run ts os t.count t.services t.parts kept left k c.gather.ensures.gathered joined in
    settled_all told calm (g.N.Net.calm c.open.new.net) left.servers.items left.clients.items c.settle_all.result (session_count c.args.self.now.scenario.now)
    (pairing (g.N.Net.settled c.args.net.now) (g.N.Net.unmatched c.args.net.now) (g.N.Net.made c.args.net.now) (g.N.Net.owed c.args.net.now))
    (pairing (g.N.Net.settled c.open.new.net) (g.N.Net.unmatched c.open.new.net) (g.N.Net.made c.open.new.net) (g.N.Net.owed c.open.new.net))
    (pairing (g.N.Net.settled c.settle_all.new.net) (g.N.Net.unmatched c.settle_all.new.net) (g.N.Net.made c.settle_all.new.net) (g.N.Net.owed c.settle_all.new.net))
    t.settled.0 t.settled.1 t.pairs.0 t.pairs.1 count c.settle_all.ensures.each

pub returns-then-lacked-clause-pairs : goal.returns-then-lacked-clause-pairs
returns-then-lacked-clause-pairs g c =
    let told = g.N.E.End.told in
    let faults = g.N.E.End.faults in
    let calm = g.N.E.End.calm in
    let run = setting c.args.self.now.lock.now c.args.self.now.scenario.now (g.N.Net.made c.args.net.now) (g.N.Net.calm c.args.net.now) (g.W.Teller.telling c.args.self.now.teller.now).watched in
    let t = c.in-Ok.ensures in
    let ts = c.in-Ok.tasks.items in
    let os = c.in-Done.outs.items in
    let kept = c.in-Done.ensures.kept in
    let left = c.gather.new.left in
    let k = c.gather.new.keeper in
    let joined = subst (λ b. JoinedPasses (serviced_of os) b k) t.keeper c.gather.ensures.joined in
    let count = owed_enough told faults calm _ run ts os t.count t.services t.parts kept left k c.gather.ensures.gathered joined in
    matched_all told calm (g.N.Net.calm c.open.new.net) left.servers.items left.clients.items c.settle_all.result (session_count c.args.self.now.scenario.now)
    (pairing (g.N.Net.settled c.args.net.now) (g.N.Net.unmatched c.args.net.now) (g.N.Net.made c.args.net.now) (g.N.Net.owed c.args.net.now))
    (pairing (g.N.Net.settled c.open.new.net) (g.N.Net.unmatched c.open.new.net) (g.N.Net.made c.open.new.net) (g.N.Net.owed c.open.new.net))
    (pairing (g.N.Net.settled c.settle_all.new.net) (g.N.Net.unmatched c.settle_all.new.net) (g.N.Net.made c.settle_all.new.net) (g.N.Net.owed c.settle_all.new.net))
    t.settled.0 t.settled.1 t.pairs.0 t.pairs.1 count c.settle_all.ensures.each (search rules)

pub returns-clause-pairs : goal.returns-clause-pairs
returns-clause-pairs g c =
    let told = g.N.E.End.told in
    let faults = g.N.E.End.faults in
    let calm = g.N.E.End.calm in
    let run = setting c.args.self.now.lock.now c.args.self.now.scenario.now (g.N.Net.made c.args.net.now) (g.N.Net.calm c.args.net.now) (g.W.Teller.telling c.args.self.now.teller.now).watched in
    let t = c.in-Ok.ensures in
    let ts = c.in-Ok.tasks.items in
    let os = c.in-Done.outs.items in
    let kept = c.in-Done.ensures.kept in
    let left = c.gather.new.left in
    let k = c.gather.new.keeper in
    let joined = subst (λ b. JoinedPasses (serviced_of os) b k) t.keeper c.gather.ensures.joined in
    let count = owed_enough told faults calm _ run ts os t.count t.services t.parts kept left k c.gather.ensures.gathered joined in
    matched_all told calm (g.N.Net.calm c.open.new.net) left.servers.items left.clients.items c.settle_all.result (session_count c.args.self.now.scenario.now)
    (pairing (g.N.Net.settled c.args.net.now) (g.N.Net.unmatched c.args.net.now) (g.N.Net.made c.args.net.now) (g.N.Net.owed c.args.net.now))
    (pairing (g.N.Net.settled c.open.new.net) (g.N.Net.unmatched c.open.new.net) (g.N.Net.made c.open.new.net) (g.N.Net.owed c.open.new.net))
    (pairing (g.N.Net.settled c.settle_all.new.net) (g.N.Net.unmatched c.settle_all.new.net) (g.N.Net.made c.settle_all.new.net) (g.N.Net.owed c.settle_all.new.net))
    t.settled.0 t.settled.1 t.pairs.0 t.pairs.1 count c.settle_all.ensures.each (search rules)

pub returns-in_err-all_lines-clause-pairs : goal.returns-in_err-all_lines-clause-pairs
returns-in_err-all_lines-clause-pairs g c =
    let told = g.N.E.End.told in
    let faults = g.N.E.End.faults in
    let calm = g.N.E.End.calm in
    let run = setting c.args.self.now.lock.now c.args.self.now.scenario.now (g.N.Net.made c.args.net.now) (g.N.Net.calm c.args.net.now) (g.W.Teller.telling c.args.self.now.teller.now).watched in
    let t = c.in-Ok.ensures in
    let ts = c.in-Ok.tasks.items in
    let os = c.in-Done.outs.items in
    let kept = c.in-Done.ensures.kept in
    let left = c.gather.new.left in
    let k = c.gather.new.keeper in
    let joined = subst (λ b. JoinedPasses (serviced_of os) b k) t.keeper c.gather.ensures.joined in
    let count = owed_enough told faults calm _ run ts os t.count t.services t.parts kept left k c.gather.ensures.gathered joined in
    memory_leaves PlayedAll c.from_residual-in_err-all_lines.result _ _ c.from_residual-in_err-all_lines.ensures.1
    (matched_all told calm (g.N.Net.calm c.open.new.net) left.servers.items left.clients.items c.settle_all.result (session_count c.args.self.now.scenario.now)
    (pairing (g.N.Net.settled c.args.net.now) (g.N.Net.unmatched c.args.net.now) (g.N.Net.made c.args.net.now) (g.N.Net.owed c.args.net.now))
    (pairing (g.N.Net.settled c.open.new.net) (g.N.Net.unmatched c.open.new.net) (g.N.Net.made c.open.new.net) (g.N.Net.owed c.open.new.net))
    (pairing (g.N.Net.settled c.settle_all.new.net) (g.N.Net.unmatched c.settle_all.new.net) (g.N.Net.made c.settle_all.new.net) (g.N.Net.owed c.settle_all.new.net))
    t.settled.0 t.settled.1 t.pairs.0 t.pairs.1 count c.settle_all.ensures.each (search rules))

pub returns-clause-run : goal.returns-clause-run
returns-clause-run g c =
    let told = g.N.E.End.told in
    let faults = g.N.E.End.faults in
    let calm = g.N.E.End.calm in
    let run = setting c.args.self.now.lock.now c.args.self.now.scenario.now (g.N.Net.made c.args.net.now) (g.N.Net.calm c.args.net.now) (g.W.Teller.telling c.args.self.now.teller.now).watched in
    let t = c.in-Ok.ensures in
    let ts = c.in-Ok.tasks.items in
    let os = c.in-Done.outs.items in
    let kept = c.in-Done.ensures.kept in
    let left = c.gather.new.left in
    let k = c.gather.new.keeper in
    let joined = subst (λ b. JoinedPasses (serviced_of os) b k) t.keeper c.gather.ensures.joined in
    let good : IsGoodRun c.args.self.now.scenario.now = record { good = c.requires.good; opening = c.read_scenario_numbers.ensures.values } in
    let settled = c.settle_all.ensures.settled (search rules) in
    subst (λ traces. IsThreadedRun c.args.self.now.scenario.now (reverse k.seen) traces (g.N.Net.settled c.args.net.now) (g.N.Net.settled c.settle_all.new.net) (g.C.Crew.ran c.args.crew.now) (g.C.Crew.ran c.run_all.new.self)) (sym c.from_vec.ensures)
    (threaded told faults calm _ run ts os t.count t.services t.parts kept left k c.gather.ensures.gathered joined good c.if-lacked.false (c.settle_all.ensures.agree (search rules)) c.threaded_runs_leave_records.ensures.full c.threaded_runs_leave_records.ensures.traffic
    (g.N.Net.settled c.args.net.now) (g.N.Net.settled c.settle_all.new.net) (g.C.Crew.ran c.args.crew.now) (g.C.Crew.ran c.run_all.new.self)
    (settled ∙ ap (λ l. l ++ transcripts_of told faults left.servers.items left.clients.items) t.settled.0) (c.in-Done.ensures.ran ∙ ap (λ n. g.C.Crew.ran c.args.crew.now ++ n ∷ []) c.in-Ok.tasks.ok.0))

pub returns-clause-lines : goal.returns-clause-lines
returns-clause-lines g c =
    let told = g.N.E.End.told in
    let faults = g.N.E.End.faults in
    let calm = g.N.E.End.calm in
    let run = setting c.args.self.now.lock.now c.args.self.now.scenario.now (g.N.Net.made c.args.net.now) (g.N.Net.calm c.args.net.now) (g.W.Teller.telling c.args.self.now.teller.now).watched in
    let t = c.in-Ok.ensures in
    let ts = c.in-Ok.tasks.items in
    let os = c.in-Done.outs.items in
    let kept = c.in-Done.ensures.kept in
    let left = c.gather.new.left in
    let k = c.gather.new.keeper in
    let joined = subst (λ b. JoinedPasses (serviced_of os) b k) t.keeper c.gather.ensures.joined in
    let good : IsGoodRun c.args.self.now.scenario.now = record { good = c.requires.good; opening = c.read_scenario_numbers.ensures.values } in
    c.in_ok-all_lines.ensures
    ∙ (told_all told faults calm _ run ts os t.count t.services t.parts kept left k c.gather.ensures.gathered joined good c.if-lacked.false (c.settle_all.ensures.agree (search rules)) ∙ ap (flat_map (lines_told run.watched)) (sym c.from_vec.ensures))

pub returns-clause-keeper : goal.returns-clause-keeper
returns-clause-keeper g c =
    let told = g.N.E.End.told in
    let faults = g.N.E.End.faults in
    let calm = g.N.E.End.calm in
    let run = setting c.args.self.now.lock.now c.args.self.now.scenario.now (g.N.Net.made c.args.net.now) (g.N.Net.calm c.args.net.now) (g.W.Teller.telling c.args.self.now.teller.now).watched in
    let t = c.in-Ok.ensures in
    let ts = c.in-Ok.tasks.items in
    let os = c.in-Done.outs.items in
    let kept = c.in-Done.ensures.kept in
    let left = c.gather.new.left in
    let k = c.gather.new.keeper in
    let joined = subst (λ b. JoinedPasses (serviced_of os) b k) t.keeper c.gather.ensures.joined in
    let good : IsGoodRun c.args.self.now.scenario.now = record { good = c.requires.good; opening = c.read_scenario_numbers.ensures.values } in
    subst (λ b. TookAllIn c.args.self.now.scenario.now b k) (sym c.requires.keeper)
    (took_all told faults calm _ run ts os t.count t.services t.parts kept left k c.gather.ensures.gathered joined good)

pub settle_after-requires-clause-pairs : goal.settle_after-requires-clause-pairs
settle_after-requires-clause-pairs g c κs within = unused_pairs g.N.E.End.told g.N.E.End.faults g.N.E.End.calm (g.N.Net.calm c.args.net.now) _ _ _ _ c.in-Err.ensures.unused

pub settle_after-requires-clause-owed : goal.settle_after-requires-clause-owed
settle_after-requires-clause-owed g c κs within = unused_owed g.N.E.End.told g.N.E.End.faults g.N.E.End.calm (g.N.Net.calm c.args.net.now) _ _ _ _ c.in-Err.ensures.unused

pub returns-in-Err-clause-pairs : goal.returns-in-Err-clause-pairs
returns-in-Err-clause-pairs g c =
    unused_leaves g.N.E.End.told g.N.E.End.faults g.N.E.End.calm (g.N.Net.calm c.args.net.now) _ _ _ _ c.in-Err.ensures.unused _ _ _ _ c.in-Err.fault c.settle_after.result c.settle_after.ensures.settled PlayedAll
    (not_start _ _ _ c.in-Err.ensures.cause)

pub returns-in-Err-clause-cause : goal.returns-in-Err-clause-cause
returns-in-Err-clause-cause g c =
    unused_cause g.N.E.End.told g.N.E.End.faults g.N.E.End.calm (g.N.Net.calm c.args.net.now) _ _ _ _ c.in-Err.ensures.unused _ _ _ _ c.in-Err.fault c.settle_after.result c.settle_after.ensures.settled PlayedAll _ _ c.in-Err.ensures.cause

pub returns-in-Err-clause-calm : goal.returns-in-Err-clause-calm
returns-in-Err-clause-calm g c = λ q. c.settle_after.ensures.calm (c.in-Err.ensures.calm q).1

pub returns-in-Err-clause-certain : goal.returns-in-Err-clause-certain
returns-in-Err-clause-certain g c = λ q e.
    unused_matches g.N.E.End.told g.N.E.End.faults g.N.E.End.calm (g.N.Net.calm c.args.net.now) _ _ _ _ c.in-Err.ensures.unused _ _ _ _ c.in-Err.fault c.settle_after.result c.settle_after.ensures.settled
    (λ is. (c.in-Err.ensures.calm q).0 (ap Err is)) q (c.in-Err.ensures.calm q).1 (ap unerr e)

pub returns-in_err-left-clause-pairs : goal.returns-in_err-left-clause-pairs
returns-in_err-left-clause-pairs g c = memory_leaves PlayedAll c.from_residual.result _ _ c.from_residual.ensures.1 (none_made _)

pub take_back-requires-clause-clients : goal.take_back-requires-clause-clients
take_back-requires-clause-clients g c =
    let told = g.N.E.End.told in
    let faults = g.N.E.End.faults in
    let calm = g.N.E.End.calm in
    let run = setting c.args.self.now.lock.now c.args.self.now.scenario.now (g.N.Net.made c.args.net.now) (g.N.Net.calm c.args.net.now) (g.W.Teller.telling c.args.self.now.teller.now).watched in
    let t = c.in-Ok.ensures in
    let same = ap (λ ts. length (flat_map ends_given (parts_of ts))) c.in-Memory.ensures.left in
    let given = given_count told faults calm g.W.Teller.telling run c.in-Ok.tasks.items t.parts in
    let counted = c.sessions_of.ensures in
    let room = subst (RemainsHaveRoom c.sessions_of.result c.sessions_of.result c.len.result) (sym t.same) c.in_ok-left.ensures.room in
    let ends = room.ends_fit in
    omega (arith, same, given, counted, ends)

pub settle_after-requires-in-Memory-clause-pairs : goal.settle_after-requires-in-Memory-clause-pairs
settle_after-requires-in-Memory-clause-pairs g c κs within =
    let told = g.N.E.End.told in
    let faults = g.N.E.End.faults in
    let calm = g.N.E.End.calm in
    let run = setting c.args.self.now.lock.now c.args.self.now.scenario.now (g.N.Net.made c.args.net.now) (g.N.Net.calm c.args.net.now) (g.W.Teller.telling c.args.self.now.teller.now).watched in
    let t = c.in-Ok.ensures in
    let ts = c.in-Ok.tasks.items in
    let same = c.in-Memory.ensures.left in
    let back = c.take_back.ensures in
    let empty = c.in_ok-left.ensures.empty in
    let servers = back.servers ∙ (ap (λ (l : RunRemains _). l.servers.items ++ map server_end (services_of c.in-Memory.tasks.items)) t.same ∙ (ap (λ l. l ++ map server_end (services_of c.in-Memory.tasks.items)) empty.servers ∙ ap (λ l. map server_end (services_of l)) same)) in
    let clients = back.clients ∙ (ap (λ (l : RunRemains _). l.clients.items ++ map uncut (flat_map ends_given (parts_of c.in-Memory.tasks.items))) t.same ∙ (ap (λ l. l ++ map uncut (flat_map ends_given (parts_of c.in-Memory.tasks.items))) empty.clients ∙ ap (λ l. map uncut (flat_map ends_given (parts_of l))) same)) in
    let given = given_count told faults calm g.W.Teller.telling run ts t.parts in
    let old = pairing (g.N.Net.settled c.args.net.now) (g.N.Net.unmatched c.args.net.now) (g.N.Net.made c.args.net.now) (g.N.Net.owed c.args.net.now) in
    let mid = pairing (g.N.Net.settled c.open.new.net) (g.N.Net.unmatched c.open.new.net) (g.N.Net.made c.open.new.net) (g.N.Net.owed c.open.new.net) in
    let held =
    unused_held told faults calm run (services_of ts) (flat_map ends_given (parts_of ts)) old mid c.take_back.new.left.servers.items c.take_back.new.left.clients.items t.services
    (given_each told faults calm g.W.Teller.telling run ts t.parts) (given ∙ sym t.count) servers clients refl t.settled.0 t.settled.1
    (t.pairs.0 ∙ ap (λ n. g.N.Net.made c.args.net.now + n) (sym t.count)) (t.pairs.1 ∙ ap (λ n. g.N.Net.owed c.args.net.now + n) (sym t.count)) in
    unused_pairs told faults calm (g.N.Net.calm c.args.net.now) old mid c.take_back.new.left.servers.items c.take_back.new.left.clients.items held

pub returns-in-Memory-clause-pairs : goal.returns-in-Memory-clause-pairs
returns-in-Memory-clause-pairs g c =
    let told = g.N.E.End.told in
    let faults = g.N.E.End.faults in
    let calm = g.N.E.End.calm in
    let run = setting c.args.self.now.lock.now c.args.self.now.scenario.now (g.N.Net.made c.args.net.now) (g.N.Net.calm c.args.net.now) (g.W.Teller.telling c.args.self.now.teller.now).watched in
    let t = c.in-Ok.ensures in
    let ts = c.in-Ok.tasks.items in
    let same = c.in-Memory.ensures.left in
    let back = c.take_back.ensures in
    let empty = c.in_ok-left.ensures.empty in
    let servers = back.servers ∙ (ap (λ (l : RunRemains _). l.servers.items ++ map server_end (services_of c.in-Memory.tasks.items)) t.same ∙ (ap (λ l. l ++ map server_end (services_of c.in-Memory.tasks.items)) empty.servers ∙ ap (λ l. map server_end (services_of l)) same)) in
    let clients = back.clients ∙ (ap (λ (l : RunRemains _). l.clients.items ++ map uncut (flat_map ends_given (parts_of c.in-Memory.tasks.items))) t.same ∙ (ap (λ l. l ++ map uncut (flat_map ends_given (parts_of c.in-Memory.tasks.items))) empty.clients ∙ ap (λ l. map uncut (flat_map ends_given (parts_of l))) same)) in
    let given = given_count told faults calm g.W.Teller.telling run ts t.parts in
    let old = pairing (g.N.Net.settled c.args.net.now) (g.N.Net.unmatched c.args.net.now) (g.N.Net.made c.args.net.now) (g.N.Net.owed c.args.net.now) in
    let mid = pairing (g.N.Net.settled c.open.new.net) (g.N.Net.unmatched c.open.new.net) (g.N.Net.made c.open.new.net) (g.N.Net.owed c.open.new.net) in
    let held =
    unused_held told faults calm run (services_of ts) (flat_map ends_given (parts_of ts)) old mid c.take_back.new.left.servers.items c.take_back.new.left.clients.items t.services
    (given_each told faults calm g.W.Teller.telling run ts t.parts) (given ∙ sym t.count) servers clients refl t.settled.0 t.settled.1
    (t.pairs.0 ∙ ap (λ n. g.N.Net.made c.args.net.now + n) (sym t.count)) (t.pairs.1 ∙ ap (λ n. g.N.Net.owed c.args.net.now + n) (sym t.count)) in
    unused_leaves told faults calm (g.N.Net.calm c.args.net.now) old mid c.take_back.new.left.servers.items c.take_back.new.left.clients.items held (g.N.Net.calm c.open.new.net) (g.N.Net.faults c.open.new.net) (g.N.Net.faults c.settle_after-in-Memory.new.net)
    (pairing (g.N.Net.settled c.settle_after-in-Memory.new.net) (g.N.Net.unmatched c.settle_after-in-Memory.new.net) (g.N.Net.made c.settle_after-in-Memory.new.net) (g.N.Net.owed c.settle_after-in-Memory.new.net)) faults_of.Memory c.settle_after-in-Memory.result c.settle_after-in-Memory.ensures.settled PlayedAll (not_start faults_of.Memory 0 0 refl)

pub returns-in-Memory-clause-certain : goal.returns-in-Memory-clause-certain
returns-in-Memory-clause-certain g c =
    let told = g.N.E.End.told in
    let faults = g.N.E.End.faults in
    let calm = g.N.E.End.calm in
    let run = setting c.args.self.now.lock.now c.args.self.now.scenario.now (g.N.Net.made c.args.net.now) (g.N.Net.calm c.args.net.now) (g.W.Teller.telling c.args.self.now.teller.now).watched in
    let t = c.in-Ok.ensures in
    let ts = c.in-Ok.tasks.items in
    let same = c.in-Memory.ensures.left in
    let back = c.take_back.ensures in
    let empty = c.in_ok-left.ensures.empty in
    let servers = back.servers ∙ (ap (λ (l : RunRemains _). l.servers.items ++ map server_end (services_of c.in-Memory.tasks.items)) t.same ∙ (ap (λ l. l ++ map server_end (services_of c.in-Memory.tasks.items)) empty.servers ∙ ap (λ l. map server_end (services_of l)) same)) in
    let clients = back.clients ∙ (ap (λ (l : RunRemains _). l.clients.items ++ map uncut (flat_map ends_given (parts_of c.in-Memory.tasks.items))) t.same ∙ (ap (λ l. l ++ map uncut (flat_map ends_given (parts_of c.in-Memory.tasks.items))) empty.clients ∙ ap (λ l. map uncut (flat_map ends_given (parts_of l))) same)) in
    let given = given_count told faults calm g.W.Teller.telling run ts t.parts in
    let old = pairing (g.N.Net.settled c.args.net.now) (g.N.Net.unmatched c.args.net.now) (g.N.Net.made c.args.net.now) (g.N.Net.owed c.args.net.now) in
    let mid = pairing (g.N.Net.settled c.open.new.net) (g.N.Net.unmatched c.open.new.net) (g.N.Net.made c.open.new.net) (g.N.Net.owed c.open.new.net) in
    let held =
    unused_held told faults calm run (services_of ts) (flat_map ends_given (parts_of ts)) old mid c.take_back.new.left.servers.items c.take_back.new.left.clients.items t.services
    (given_each told faults calm g.W.Teller.telling run ts t.parts) (given ∙ sym t.count) servers clients refl t.settled.0 t.settled.1
    (t.pairs.0 ∙ ap (λ n. g.N.Net.made c.args.net.now + n) (sym t.count)) (t.pairs.1 ∙ ap (λ n. g.N.Net.owed c.args.net.now + n) (sym t.count)) in
    λ q e. unused_matches told faults calm (g.N.Net.calm c.args.net.now) old mid c.take_back.new.left.servers.items c.take_back.new.left.clients.items held (g.N.Net.calm c.open.new.net) (g.N.Net.faults c.open.new.net) (g.N.Net.faults c.settle_after-in-Memory.new.net)
    (pairing (g.N.Net.settled c.settle_after-in-Memory.new.net) (g.N.Net.unmatched c.settle_after-in-Memory.new.net) (g.N.Net.made c.settle_after-in-Memory.new.net) (g.N.Net.owed c.settle_after-in-Memory.new.net)) faults_of.Memory c.settle_after-in-Memory.result c.settle_after-in-Memory.ensures.settled (λ is. cc) q (t.calm q).1 (ap unerr e)

pub returns-then-not-settle_all-clause-ran : goal.returns-then-not-settle_all-clause-ran
returns-then-not-settle_all-clause-ran g c =
    let told = g.N.E.End.told in
    let faults = g.N.E.End.faults in
    let calm = g.N.E.End.calm in
    let run = setting c.args.self.now.lock.now c.args.self.now.scenario.now (g.N.Net.made c.args.net.now) (g.N.Net.calm c.args.net.now) (g.W.Teller.telling c.args.self.now.teller.now).watched in
    let t = c.in-Ok.ensures in
    let count = c.in-Ok.tasks.ok.0 ∙ jobs told faults calm _ run c.in-Ok.tasks.items c.in-Done.outs.items t.count t.services t.parts c.in-Done.ensures.kept in
    let ran = c.in-Done.ensures.ran ∙ ap (λ n. g.C.Crew.ran c.args.crew.now ++ n ∷ []) count in
    inr ran

pub returns-then-lacked-clause-ran : goal.returns-then-lacked-clause-ran
returns-then-lacked-clause-ran g c =
    let told = g.N.E.End.told in
    let faults = g.N.E.End.faults in
    let calm = g.N.E.End.calm in
    let run = setting c.args.self.now.lock.now c.args.self.now.scenario.now (g.N.Net.made c.args.net.now) (g.N.Net.calm c.args.net.now) (g.W.Teller.telling c.args.self.now.teller.now).watched in
    let t = c.in-Ok.ensures in
    let count = c.in-Ok.tasks.ok.0 ∙ jobs told faults calm _ run c.in-Ok.tasks.items c.in-Done.outs.items t.count t.services t.parts c.in-Done.ensures.kept in
    let ran = c.in-Done.ensures.ran ∙ ap (λ n. g.C.Crew.ran c.args.crew.now ++ n ∷ []) count in
    inr ran

pub returns-in_err-all_lines-clause-ran : goal.returns-in_err-all_lines-clause-ran
returns-in_err-all_lines-clause-ran g c =
    let told = g.N.E.End.told in
    let faults = g.N.E.End.faults in
    let calm = g.N.E.End.calm in
    let run = setting c.args.self.now.lock.now c.args.self.now.scenario.now (g.N.Net.made c.args.net.now) (g.N.Net.calm c.args.net.now) (g.W.Teller.telling c.args.self.now.teller.now).watched in
    let t = c.in-Ok.ensures in
    let count = c.in-Ok.tasks.ok.0 ∙ jobs told faults calm _ run c.in-Ok.tasks.items c.in-Done.outs.items t.count t.services t.parts c.in-Done.ensures.kept in
    let ran = c.in-Done.ensures.ran ∙ ap (λ n. g.C.Crew.ran c.args.crew.now ++ n ∷ []) count in
    memory_all_ran PlayedAll c.from_residual-in_err-all_lines.result _ _ _ c.from_residual-in_err-all_lines.ensures.1 ran

pub returns-clause-ran : goal.returns-clause-ran
returns-clause-ran g c =
    let told = g.N.E.End.told in
    let faults = g.N.E.End.faults in
    let calm = g.N.E.End.calm in
    let run = setting c.args.self.now.lock.now c.args.self.now.scenario.now (g.N.Net.made c.args.net.now) (g.N.Net.calm c.args.net.now) (g.W.Teller.telling c.args.self.now.teller.now).watched in
    let t = c.in-Ok.ensures in
    let count = c.in-Ok.tasks.ok.0 ∙ jobs told faults calm _ run c.in-Ok.tasks.items c.in-Done.outs.items t.count t.services t.parts c.in-Done.ensures.kept in
    let ran = c.in-Done.ensures.ran ∙ ap (λ n. g.C.Crew.ran c.args.crew.now ++ n ∷ []) count in
    ran

pub returns-in_err-left-clause-ran : goal.returns-in_err-left-clause-ran
returns-in_err-left-clause-ran g c =
    fault_none_ran PlayedAll _ c.from_residual.result _ _ c.from_residual.ensures.1

pub returns-in-Err-clause-ran : goal.returns-in-Err-clause-ran
returns-in-Err-clause-ran g c =
    none_ran PlayedAll c.settle_after.result _ _ _ refl

pub returns-in-Memory-clause-ran : goal.returns-in-Memory-clause-ran
returns-in-Memory-clause-ran g c =
    none_ran PlayedAll c.settle_after-in-Memory.result _ _ _ c.in-Memory.ensures.ran

pub run_all-requires-send-J : goal.run_all-requires-send-J
run_all-requires-send-J g c κs within = let y = c.type_bounds.sync-G in let w = c.type_bounds.sync-W in let e = c.type_bounds.send-N-E in search (lock-syncs, pass-sends, client-field-sends, step-syncs, sendable, crosses) depth 40 fits 10000

pub run_all-requires-send-J-Out : goal.run_all-requires-send-J-Out
run_all-requires-send-J-Out g c κs within = let e = c.type_bounds.send-N-E in search (pass-sends, trace-field-sends, sendable, crosses) depth 40 fits 10000
