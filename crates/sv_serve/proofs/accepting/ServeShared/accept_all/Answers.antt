-- One session more, and giving all back where there is none.
use Rattle.std.proofs.Common.{rules, ◌≡◌, ◌+◌, ◌++◌, length, slice_get, sym, ap, ◌∙◌, arith, false}
use Rattle.sv_link.specs.declared.side.Side.TheVariants.{Server}
use Rattle.sv_session.specs.Serving.{SessionPass}
use Rattle.sv_threads.specs.Given.{keeper_after, pass_of, setting, IsService}
use Rattle.law_system.proofs.Places.{each_push}
use Rattle.sv_threads.proofs.Opened.{new_end_as}
use Rattle.sv_serve.proofs.Endings.{on_err, none_used}
use Rattle.sv_serve.specs.Giving.{kept_unserved}
use Rattle.sv_serve.proofs.Steps.{unserved_back}
use Rattle.sv_serve.proofs.Hosted.{unserved_own, unserved_numbers, unserved_unused}
use Rattle.sv_serve.proofs.accepting.ServeShared.accept_all.Goals as goal

pub returns-in_err-services-clause-back : goal.returns-in_err-services-clause-back
returns-in_err-services-clause-back g c = on_err c.from_residual.result _ (none_used _)

pub give_back_all-requires-clause-own : goal.give_back_all-requires-clause-own
give_back_all-requires-clause-own g c κs within =
    let i = c.loop.invariant in
    let run = setting c.args.self.now.lock.now c.args.self.now.scenario.now (g.D.Door.made c.args.door.now) (g.D.Door.sure c.args.door.now c.args.self.now.port) false in
    let made = i.made in
    let count = i.count in
    let same = c.in-Err.ensures.none.0 in
    unserved_own g.D.E.End.told g.D.E.End.faults g.D.E.End.calm run c.loop.services.items i.services (g.D.Door.made c.accept_next.new.door) (omega (arith, made, count, same))

pub returns-in-Err-clause-back : goal.returns-in-Err-clause-back
returns-in-Err-clause-back g c =
    let i = c.loop.invariant in
    let run = setting c.args.self.now.lock.now c.args.self.now.scenario.now (g.D.Door.made c.args.door.now) (g.D.Door.sure c.args.door.now c.args.self.now.port) false in
    let told = g.D.E.End.told in
    let faults = g.D.E.End.faults in
    let xs = c.loop.services.items in
    let back = c.give_back_all.ensures in
    let none = c.in-Err.ensures.none in
    let none_made = none.0 in
    let none_owed = none.1 in
    let count = i.count in
    let made = i.made in
    let owed = i.owed in
    let kept = back.made in
    let less = back.owed in
    unserved_back told faults (g.D.Door.given c.args.door.now) (g.D.Door.given c.give_back_all.new.door) (g.D.Door.made c.args.door.now) (g.D.Door.made c.give_back_all.new.door)
    (g.D.Door.owed c.args.door.now) (g.D.Door.owed c.give_back_all.new.door) xs
    (back.given ∙ ap (λ l. l ++ kept_unserved told faults xs) (c.in-Err.ensures.given ∙ i.given)) (unserved_numbers told faults g.D.E.End.calm run xs i.services) (unserved_unused told faults g.D.E.End.calm run xs i.services)
    (omega (arith, kept, none_made, made, count)) (omega (arith, less, none_owed, owed, count))

pub loop-preserved : goal.loop-preserved
loop-preserved g c =
    let i = c.loop.invariant in
    let told = g.D.E.End.told in
    let faults = g.D.E.End.faults in
    let calm = g.D.E.End.calm in
    let lock = c.args.self.now.lock.now in
    let scenario = c.args.self.now.scenario.now in
    let pairs = g.D.Door.made c.args.door.now in
    let run = setting lock scenario pairs (g.D.Door.sure c.args.door.now c.args.self.now.port) false in
    let opened = c.in-Ok.ensures in
    let made : c.loop.keeper.made ≡ c.loop.counter = ap (λ (k : SessionPass). k.made) i.keeper in
    let at = sym i.count in
    let low = c.loop-test.true in
    let most = c.sessions_of-count.ensures in
    let more = opened.more.0 in
    let owes = opened.more.1 in
    let made_so = i.made in
    let owed_so = i.owed in
    record {
      keeper = opened.keeper ∙ ap (λ n. keeper_after (n + 1) lock scenario) made;
      count = search rules;
      room = search rules;
      services = λ k x e.
          each_push (IsService told faults calm run) c.loop.services.items c.in-Ok.service i.services
          (record {
            lock = opened.service.0;
            pass = opened.service.1 ∙ ap (λ n. pass_of n lock scenario) (made ∙ at);
            low = omega (arith, at, low, most);
            end =
                new_end_as told faults calm run (g.D.Door.sure c.loop.door c.args.self.now.port) (g.D.Door.sure c.args.door.now c.args.self.now.port) Server (g.D.Door.made c.loop.door) (pairs + length c.loop.services.items) c.in-Ok.service.end
                (i.sure c.args.self.now.port) (i.made ∙ ap (λ n. pairs + n) at) opened.end;
          })
          k x (sym (ap (λ l. slice_get l k) c.push_reserved.ensures.items) ∙ e);
      made = omega (arith, more, made_so);
      owed = omega (arith, owes, owed_so);
      given = opened.given ∙ i.given;
      faults = opened.cause ∙ i.faults;
      sure = λ p s. opened.stays_sure p (i.sure p s);
    }
