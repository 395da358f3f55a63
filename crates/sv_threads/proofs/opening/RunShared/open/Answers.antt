-- The tasks are those of all sessions and all clients; where not all were opened, the ends that were are left.
use Rattle.std.proofs.Common.{slice_get, refl, sym, ap, subst, ◌∙◌, ◌++◌, map, arith}
use Rattle.sv_threads.specs.Places.{EachClient}
use Rattle.sv_threads.specs.Given.{setting, IsPartOf, IsPart}
use Rattle.sv_threads.specs.Opening.{server_end, uncut}
use Rattle.sv_threads.specs.Pairs.{pairing}
use Rattle.sv_threads.proofs.Places.{clients_count}
use Rattle.sv_threads.proofs.Opened.{parts_over, unused_held}
use Rattle.sv_threads.proofs.opening.RunShared.open.Goals as goal

pub returns-in-Ok-clause-services : goal.returns-in-Ok-clause-services
returns-in-Ok-clause-services g c =
    let made = c.make_tasks.ensures.services in
    let opened = c.in-Ok.ensures.services in
    λ k x e. opened k x (ap (λ l. slice_get l k) (sym made) ∙ e)

pub returns-in-Ok-clause-parts : goal.returns-in-Ok-clause-parts
returns-in-Ok-clause-parts g c =
    let run = setting c.args.self.now.lock.now c.args.self.now.scenario.now (g.N.Net.made c.args.net.now) (g.N.Net.calm c.args.net.now) (g.W.Teller.telling c.args.self.now.teller.now).watched in
    let parts = c.open_parts-parts.ensures in
    subst (λ xs. EachClient (IsPart g.N.E.End.told g.N.E.End.faults g.N.E.End.calm g.W.Teller.telling run) 0 0 c.args.self.now.scenario.now.clients xs) (sym c.make_tasks.ensures.parts)
    (parts_over g.N.E.End.told g.N.E.End.faults g.N.E.End.calm run g.W.Teller.telling c.open_sessions.new.ends.items c.open_parts-parts.result.items parts.ends c.in-Ok.ensures.clients parts.parts)

pub make_tasks-requires-clause-room : goal.make_tasks-requires-clause-room
make_tasks-requires-clause-room g c =
    let scenario = c.args.self.now.scenario.now in
    let sessions = c.in-Ok.ensures.all in
    let clients =
    clients_count (IsPartOf g.W.Teller.telling scenario.world.shape (g.W.Teller.telling c.args.self.now.teller.now).watched) 0 0 scenario.clients c.open_parts-parts.result.items c.open_parts-parts.ensures.parts in
    let room = c.in_ok-services.ensures.tasks.1 in
    let counted = c.sessions_of.ensures in
    let long = c.len.ensures in
    omega (arith, sessions, clients, room, counted, long)

pub returns-clause-unused : goal.returns-clause-unused
returns-clause-unused g c =
    let run = setting c.args.self.now.lock.now c.args.self.now.scenario.now (g.N.Net.made c.args.net.now) (g.N.Net.calm c.args.net.now) (g.W.Teller.telling c.args.self.now.teller.now).watched in
    let services = c.open_sessions.new.services.items in
    let ends = c.open_sessions.new.ends.items in
    let opened = c.in-Err.ensures in
    unused_held g.N.E.End.told g.N.E.End.faults g.N.E.End.calm run services ends
    (pairing (g.N.Net.settled c.args.net.now) (g.N.Net.unmatched c.args.net.now) (g.N.Net.made c.args.net.now) (g.N.Net.owed c.args.net.now))
    (pairing (g.N.Net.settled c.open_sessions.new.net) (g.N.Net.unmatched c.open_sessions.new.net) (g.N.Net.made c.open_sessions.new.net) (g.N.Net.owed c.open_sessions.new.net))
    c.take_unplayed.new.self.servers.items c.take_unplayed.new.self.clients.items opened.services opened.clients opened.as_many
    (ap (λ v. v.items) c.take_unplayed.ensures.same ∙ (c.take_services.ensures.servers ∙ ap (λ l. l ++ map server_end services) c.requires.empty.0))
    (c.take_unplayed.ensures.clients ∙ ap (λ l. l ++ map uncut ends) (ap (λ v. v.items) c.take_services.ensures.same ∙ c.requires.empty.1))
    refl opened.settled.0 opened.settled.1 opened.pairs.0 opened.pairs.1
