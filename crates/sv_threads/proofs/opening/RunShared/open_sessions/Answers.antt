-- One session more was opened.
use Rattle.std.proofs.Common.{◌≡◌, ◌+◌, length, slice_get, sym, ap, ◌∙◌, arith, rules}
use Rattle.sv_session.specs.Serving.{SessionPass}
use Rattle.sv_link.specs.declared.side.Side.TheVariants.{Server, Client}
use Rattle.sv_threads.specs.Given.{keeper_after, pass_of, setting, IsEndOf, IsService}
use Rattle.law_system.proofs.Places.{each_push}
use Rattle.sv_threads.proofs.Opened.{new_end_as}
use Rattle.sv_threads.proofs.opening.RunShared.open_sessions.Goals as goal

pub loop-preserved : goal.loop-preserved
loop-preserved g c =
    let i = c.loop.invariant in
    let told = g.N.E.End.told in
    let faults = g.N.E.End.faults in
    let calm = g.N.E.End.calm in
    let lock = c.args.self.now.lock.now in
    let scenario = c.args.self.now.scenario.now in
    let pairs = g.N.Net.made c.args.net.now in
    let run = setting lock scenario pairs (g.N.Net.calm c.args.net.now) (g.W.Teller.telling c.args.self.now.teller.now).watched in
    let opened = c.in_ok-service.ensures in
    let made : c.loop.keeper.made ≡ c.loop.counter = ap (λ (k : SessionPass). k.made) i.keeper in
    let service_at = sym i.service_count in
    let end_at = sym i.end_count in
    let low = c.loop-test.true in
    let most = c.sessions_of-end.ensures in
    record {
      keeper = opened.keeper ∙ ap (λ n. keeper_after (n + 1) lock scenario) made;
      service_count = search rules;
      end_count = search rules;
      services = λ k x e.
          each_push (IsService told faults calm run) c.loop.services.items c.in_ok-service.service i.services
          (record {
            lock = opened.service.0;
            pass = opened.service.1 ∙ ap (λ n. pass_of n lock scenario) (made ∙ service_at);
            low = omega (arith, service_at, low, most);
            end =
                new_end_as told faults calm run (g.N.Net.calm c.loop.net) (g.N.Net.calm c.args.net.now) Server (g.N.Net.made c.loop.net) (pairs + length c.loop.services.items) c.in_ok-service.service.end i.calm
                (i.made ∙ ap (λ n. pairs + n) service_at) opened.server;
          })
          k x (sym (ap (λ l. slice_get l k) c.push_reserved.ensures.items) ∙ e);
      ends = λ k x e.
          each_push (IsEndOf told faults calm run Client) c.loop.ends.items c.in_ok-service.end i.ends
          (new_end_as told faults calm run (g.N.Net.calm c.loop.net) (g.N.Net.calm c.args.net.now) Client (g.N.Net.made c.loop.net) (pairs + length c.loop.ends.items) c.in_ok-service.end i.calm
          (i.made ∙ ap (λ n. pairs + n) end_at) opened.client)
          k x (sym (ap (λ l. slice_get l k) c.push_reserved-in-loop.ensures.items) ∙ e);
      made = search rules;
      owed = search rules;
      settled = search rules;
      faults = search rules;
      service_room = search rules;
      end_room = search rules;
      calm = search rules;
    }
