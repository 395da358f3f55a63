-- What is left of sessions that were served, from what each of them left.
use Rattle.std.proofs.Common.{rules, ◌+◌, ◌++◌, [], ◌∷◌, length, inr, sym, ap, subst, ◌∙◌, arith, false}
use Rattle.std.specs.List.{AllByRecursion}
use denote.Param.Send.{sendable}
use Rattle.std.proofs.Crossing.{crosses}
use Rattle.sv_sequencer.proofs.Sent.{lock-syncs, pass-sends}
use Rattle.law_traffic.specs.Runs.{IsGoodRun}
use Rattle.sv_scenario.specs.Sessions.{session_count}
use Rattle.sv_threads.specs.Given.{setting}
use Rattle.sv_threads.specs.RunRemains.{JoinedPasses}
use Rattle.sv_threads.specs.Moved.{moved}
use Rattle.sv_threads.specs.Playing.{TookAllIn}
use Rattle.sv_threads.proofs.Ready.{services_ready}
use Rattle.sv_serve.specs.Giving.{kept_served, kept_unserved, IsUnservedOf}
use Rattle.sv_serve.proofs.Steps.{none_lacked, served_back, unserved_back}
use Rattle.sv_serve.proofs.Endings.{unused_back, used_back}
use Rattle.sv_serve.proofs.Hosted.{all_served, passes, unserved_own, unserved_numbers, unserved_unused, served_own, served_numbers, took_all, hosted}
use Rattle.sv_serve.proofs.hosting.serve_sessions.Goals as goal

pub run_all-requires-clause-ready : goal.run_all-requires-clause-ready
run_all-requires-clause-ready g c κs within =
    let run = setting c.args.host.now.lock.now c.args.host.now.scenario.now (g.D.Door.made c.args.door.now) (g.D.Door.sure c.args.door.now c.args.host.now.port) false in
    services_ready g.D.E.End.told g.D.E.End.faults g.D.E.End.calm run c.requires.good c.in_ok-services.services.items c.in_ok-services.ensures.services

pub take_in-requires-clause-passes : goal.take_in-requires-clause-passes
take_in-requires-clause-passes g c κs within =
    let run = setting c.args.host.now.lock.now c.args.host.now.scenario.now (g.D.Door.made c.args.door.now) (g.D.Door.sure c.args.door.now c.args.host.now.port) false in
    let t = c.in_ok-services.ensures in
    passes g.D.E.End.told g.D.E.End.faults g.D.E.End.calm run c.in_ok-services.services.items c.in-Done.served.items t.count t.services c.in-Done.ensures.kept

pub take_in-requires-clause-own : goal.take_in-requires-clause-own
take_in-requires-clause-own g c κs within =
    let run = setting c.args.host.now.lock.now c.args.host.now.scenario.now (g.D.Door.made c.args.door.now) (g.D.Door.sure c.args.door.now c.args.host.now.port) false in
    let t = c.in_ok-services.ensures in
    served_own g.D.E.End.told g.D.E.End.faults g.D.E.End.calm run c.in_ok-services.services.items c.in-Done.served.items t.count t.services c.in-Done.ensures.kept
    (g.D.Door.made c.accept_all.new.door) t.made

pub take_in-requires-clause-owed : goal.take_in-requires-clause-owed
take_in-requires-clause-owed g c κs within =
    let run = setting c.args.host.now.lock.now c.args.host.now.scenario.now (g.D.Door.made c.args.door.now) (g.D.Door.sure c.args.door.now c.args.host.now.port) false in
    let t = c.in_ok-services.ensures in
    let enough = all_served g.D.E.End.told g.D.E.End.faults g.D.E.End.calm run c.in_ok-services.services.items c.in-Done.served.items t.count t.services c.in-Done.ensures.kept in
    let owed = t.owed in
    omega (arith, enough, owed)

pub returns-clause-hosted : goal.returns-clause-hosted
returns-clause-hosted g c =
    let run = setting c.args.host.now.lock.now c.args.host.now.scenario.now (g.D.Door.made c.args.door.now) (g.D.Door.sure c.args.door.now c.args.host.now.port) false in
    let t = c.in_ok-services.ensures in
    let left = c.take_in.ensures in
    let ys = c.in-Done.served.items in
    let k = c.take_in.new.keeper in
    let joined = subst (λ b. JoinedPasses ys b k) t.keeper left.joined in
    let good : IsGoodRun c.args.host.now.scenario.now = record { good = c.requires.good; opening = c.read_scenario_numbers.ensures.values } in
    hosted g.D.E.End.told g.D.E.End.faults g.D.E.End.calm run c.in_ok-services.services.items ys t.count t.services c.in-Done.ensures.kept k joined good
    c.full_replies_stay.ensures c.legal_relays_name_accepted.ensures (none_lacked ys c.take_in.result left.lacked (search rules))
    (moved (g.D.Door.given c.args.door.now) (g.D.Door.given c.take_in.new.door) (g.C.Crew.ran c.args.crew.now) (g.C.Crew.ran c.run_all.new.self))
    (left.given ∙ ap (λ l. l ++ kept_served g.D.E.End.told g.D.E.End.faults ys) t.given)
    (c.in-Done.ensures.ran ∙ ap (λ n. g.C.Crew.ran c.args.crew.now ++ n ∷ []) c.in_ok-services.services.ok.0)

pub returns-clause-keeper : goal.returns-clause-keeper
returns-clause-keeper g c =
    let run = setting c.args.host.now.lock.now c.args.host.now.scenario.now (g.D.Door.made c.args.door.now) (g.D.Door.sure c.args.door.now c.args.host.now.port) false in
    let t = c.in_ok-services.ensures in
    let ys = c.in-Done.served.items in
    let k = c.take_in.new.keeper in
    let joined = subst (λ b. JoinedPasses ys b k) t.keeper c.take_in.ensures.joined in
    let good : IsGoodRun c.args.host.now.scenario.now = record { good = c.requires.good; opening = c.read_scenario_numbers.ensures.values } in
    subst (λ b. TookAllIn c.args.host.now.scenario.now b k) (sym c.requires.keeper)
    (took_all g.D.E.End.told g.D.E.End.faults g.D.E.End.calm run c.in_ok-services.services.items ys t.count t.services c.in-Done.ensures.kept k joined good)

pub returns-then-take_in-clause-back : goal.returns-then-take_in-clause-back
returns-then-take_in-clause-back g c =
    let run = setting c.args.host.now.lock.now c.args.host.now.scenario.now (g.D.Door.made c.args.door.now) (g.D.Door.sure c.args.door.now c.args.host.now.port) false in
    let t = c.in_ok-services.ensures in
    let left = c.take_in.ensures in
    let ys = c.in-Done.served.items in
    let count = all_served g.D.E.End.told g.D.E.End.faults g.D.E.End.calm run c.in_ok-services.services.items ys t.count t.services c.in-Done.ensures.kept in
    let more = t.owed in
    let less = left.owed in
    used_back _ _ _
    (served_back g.D.E.End.told g.D.E.End.faults (g.D.Door.given c.args.door.now) (g.D.Door.given c.take_in.new.door) (g.D.Door.made c.args.door.now) (g.D.Door.made c.take_in.new.door)
    (g.D.Door.owed c.args.door.now) (g.D.Door.owed c.take_in.new.door) ys
    (left.given ∙ ap (λ l. l ++ kept_served g.D.E.End.told g.D.E.End.faults ys) t.given)
    (served_numbers g.D.E.End.told g.D.E.End.faults g.D.E.End.calm run c.in_ok-services.services.items ys t.count t.services c.in-Done.ensures.kept)
    (left.made ∙ (t.made ∙ ap (λ n. g.D.Door.made c.args.door.now + n) (sym count))) (omega (arith, count, more, less)))
    (c.in-Done.ensures.ran ∙ ap (λ n. g.C.Crew.ran c.args.crew.now ++ n ∷ []) c.in_ok-services.services.ok.0)

pub returns-clause-back : goal.returns-clause-back
returns-clause-back g c =
    let run = setting c.args.host.now.lock.now c.args.host.now.scenario.now (g.D.Door.made c.args.door.now) (g.D.Door.sure c.args.door.now c.args.host.now.port) false in
    let t = c.in_ok-services.ensures in
    let left = c.take_in.ensures in
    let ys = c.in-Done.served.items in
    let count = all_served g.D.E.End.told g.D.E.End.faults g.D.E.End.calm run c.in_ok-services.services.items ys t.count t.services c.in-Done.ensures.kept in
    let more = t.owed in
    let less = left.owed in
    used_back _ _ _
    (served_back g.D.E.End.told g.D.E.End.faults (g.D.Door.given c.args.door.now) (g.D.Door.given c.take_in.new.door) (g.D.Door.made c.args.door.now) (g.D.Door.made c.take_in.new.door)
    (g.D.Door.owed c.args.door.now) (g.D.Door.owed c.take_in.new.door) ys
    (left.given ∙ ap (λ l. l ++ kept_served g.D.E.End.told g.D.E.End.faults ys) t.given)
    (served_numbers g.D.E.End.told g.D.E.End.faults g.D.E.End.calm run c.in_ok-services.services.items ys t.count t.services c.in-Done.ensures.kept)
    (left.made ∙ (t.made ∙ ap (λ n. g.D.Door.made c.args.door.now + n) (sym count))) (omega (arith, count, more, less)))
    (c.in-Done.ensures.ran ∙ ap (λ n. g.C.Crew.ran c.args.crew.now ++ n ∷ []) c.in_ok-services.services.ok.0)

pub returns-clause-ran : goal.returns-clause-ran
returns-clause-ran g c = c.in-Done.ensures.ran ∙ ap (λ n. g.C.Crew.ran c.args.crew.now ++ n ∷ []) (c.in_ok-services.services.ok.0 ∙ c.in_ok-services.ensures.count)

pub returns-then-take_in-clause-ran : goal.returns-then-take_in-clause-ran
returns-then-take_in-clause-ran g c = inr (c.in-Done.ensures.ran ∙ ap (λ n. g.C.Crew.ran c.args.crew.now ++ n ∷ []) (c.in_ok-services.services.ok.0 ∙ c.in_ok-services.ensures.count))

pub give_back_all-requires-clause-own : goal.give_back_all-requires-clause-own
give_back_all-requires-clause-own g c κs within =
    let run = setting c.args.host.now.lock.now c.args.host.now.scenario.now (g.D.Door.made c.args.door.now) (g.D.Door.sure c.args.door.now c.args.host.now.port) false in
    let t = c.in_ok-services.ensures in
    let most = t.made in
    let count = t.count in
    subst (AllByRecursion (IsUnservedOf g.D.E.End.told (g.D.Door.made c.accept_all.new.door))) (sym c.in-Memory.ensures.left)
    (unserved_own g.D.E.End.told g.D.E.End.faults g.D.E.End.calm run c.in_ok-services.services.items t.services (g.D.Door.made c.accept_all.new.door) (omega (arith, most, count)))

pub give_back_all-requires-clause-owed : goal.give_back_all-requires-clause-owed
give_back_all-requires-clause-owed g c κs within =
    let t = c.in_ok-services.ensures in
    let size = ap (λ l. length l) c.in-Memory.ensures.left in
    let count = t.count in
    let owed = t.owed in
    omega (arith, size, count, owed)

pub returns-in-Failed-clause-back : goal.returns-in-Failed-clause-back
returns-in-Failed-clause-back g c =
    let t = c.in_ok-services.ensures in
    record { ends = session_count c.args.host.now.scenario.now; given = t.given; made = t.made; owed = t.owed; ran = c.in-Failed.ensures.ran }

pub returns-in-Memory-clause-back : goal.returns-in-Memory-clause-back
returns-in-Memory-clause-back g c =
    let run = setting c.args.host.now.lock.now c.args.host.now.scenario.now (g.D.Door.made c.args.door.now) (g.D.Door.sure c.args.door.now c.args.host.now.port) false in
    let t = c.in_ok-services.ensures in
    let told = g.D.E.End.told in
    let faults = g.D.E.End.faults in
    let xs = c.in_ok-services.services.items in
    let same = c.in-Memory.ensures.left in
    let back = c.give_back_all.ensures in
    let size = ap (λ l. length l) same in
    let count = t.count in
    let more = t.owed in
    let less = back.owed in
    let made = t.made in
    let kept = back.made in
    unused_back _ _
    (unserved_back told faults (g.D.Door.given c.args.door.now) (g.D.Door.given c.give_back_all.new.door) (g.D.Door.made c.args.door.now) (g.D.Door.made c.give_back_all.new.door)
    (g.D.Door.owed c.args.door.now) (g.D.Door.owed c.give_back_all.new.door) xs
    (back.given ∙ (ap (λ l. l ++ kept_unserved told faults c.in-Memory.services.items) t.given ∙ ap (λ l. g.D.Door.given c.args.door.now ++ kept_unserved told faults l) same))
    (unserved_numbers told faults g.D.E.End.calm run xs t.services) (unserved_unused told faults g.D.E.End.calm run xs t.services)
    (omega (arith, kept, made, count)) (omega (arith, size, count, more, less)))

pub run_all-requires-send-J : goal.run_all-requires-send-J
run_all-requires-send-J g c κs within = let y = c.type_bounds.sync-G in let e = c.type_bounds.send-D-E in search (lock-syncs, pass-sends, sendable, crosses) depth 40 fits 10000

pub run_all-requires-send-J-Out : goal.run_all-requires-send-J-Out
run_all-requires-send-J-Out g c κs within = let e = c.type_bounds.send-D-E in search (pass-sends, sendable, crosses) depth 40 fits 10000
