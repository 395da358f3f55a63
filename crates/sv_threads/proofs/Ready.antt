-- What is given to the threads of a run can be done.
use Rattle.std.proofs.Common.{◌≡◌, ℕ, ◌+◌, ◌<◌, false, List, [], ◌∷◌, refl, sym, ap, subst, ◌∙◌, arith}
use Rattle.std.specs.List.{AllByRecursion}
use Rattle.std.proofs.lemmas.List.Elements.{All-from_recursion, All-nil}
use Rattle.sv_world.specs.declared.world.ObjectId.{ObjectId}
use Rattle.sv_threads.specs.Telling.{Telling}
use Rattle.sv_link.specs.Ends.{Told}
use Rattle.sv_link.specs.declared.side.Side.TheVariants.{Client}
use Rattle.sv_journal.specs.declared.entry.Entry.{Entry}
use Rattle.sv_journal.specs.Sessions.{is_end}
use Rattle.sv_lock.specs.Passes.{LockView}
use Rattle.sv_client.specs.Seen.{ClientView, new_client}
use Rattle.sv_client.specs.Taking.{Identity}
use Rattle.sv_scenario.specs.declared.scenario.Plan.{Plan}
use Rattle.sv_scenario.specs.declared.scenario.Step.{Step}
use Rattle.sv_scenario.specs.Limits.{IsGoodScenario}
use Rattle.sv_scenario.specs.Sessions.{cuts_in}
use Rattle.sv_session.specs.Serving.{MayServe}
use Rattle.sv_player.specs.Going.{MayPlay}
use Rattle.sv_player.specs.Sessions.{IsFresh}
use Rattle.law_system.proofs.Limits.{limits_of}
use Rattle.law_system.specs.Places.{EachPlace}
use Rattle.law_system.proofs.Places.{each_all}
use Rattle.sv_threads.specs.declared.tasks.Service.{Service}
use Rattle.sv_threads.specs.declared.tasks.Part.{Part}
use Rattle.sv_threads.specs.declared.tasks.Task.{Task}
use Rattle.sv_threads.specs.declared.tasks.Task.TheVariants as tasks
use Rattle.sv_threads.specs.Places.{EachClient}
use Rattle.sv_threads.specs.Tasks.{services_of, parts_of, MayBeServed, MayTakePart, IsReady}
use Rattle.sv_threads.specs.Given.{Setting, IsEndOf, IsPart, IsService}
use Rattle.sv_threads.proofs.Places.{each_client_all}

module _ {E W : Type 0} (told : E → Told) (telling_of : W → Telling) where
  abbrev IsPartReady : Part E W → Type 0
  IsPartReady x = MayTakePart told (telling_of x.teller.now).shape x.client x.script.now x.first x.ends.items

module _ {E W : Type 0} (told : E → Told) (faults : E → ℕ) (calm : E → Type 0) (telling_of : W → Telling) (run : Setting) (good : IsGoodScenario run.scenario) where
  part_ready : (k s : ℕ) (plan : Plan) (x : Part E W) → IsPart told faults calm telling_of run k s plan x → IsPartReady told telling_of x
  part_ready k s plan x p =
      let who : Identity = record { client = record { 0 = k }; interest = plan.interest; shape = run.scenario.world.shape } in
      let may : MayPlay who plan.steps =
      record {
        identity =
            record {
              client = p.part.number;
              few = p.part.good.few_objects;
              ascending = p.part.good.ascending;
              objects = All-from_recursion (λ (o : ObjectId). o.0 < run.scenario.world.shape.objects) plan.interest p.part.good.known;
            };
        shape = good.world.shape;
        plan = p.part.good;
      } in
      let same : x.client.who ≡ who = ap (λ (c : ClientView). c.who) p.part.client in
      let count = p.part.count in
      let first = p.part.first in
      let last = p.part.last in
      record {
        client_is = subst (λ (c : ClientView). c ≡ new_client c.who.client c.who.shape c.who.interest) (sym p.part.client) refl;
        script_is = subst (λ (w : Identity). MayPlay w x.script.now) (sym same) (subst (λ (steps : List Step). MayPlay who steps) (sym p.part.script) may);
        teller_is = p.part.teller ∙ sym (ap (λ (w : Identity). w.shape) same);
        count = p.part.count ∙ ap (λ (steps : List Step). 1 + cuts_in steps) (sym p.part.script);
        numbers = omega (arith, count, first, last);
        fresh =
            each_all (λ j end. IsEndOf told faults calm run Client (s + j) end) (λ end. IsFresh (told end)) x.ends.items p.ends
            (λ j end new. subst IsFresh (sym new.told_is) (record { open_is = refl; sent = refl; received = refl }));
      }

module _ {E G : Type 0} (told : E → Told) (faults : E → ℕ) (calm : E → Type 0) (run : Setting) (good : IsGoodScenario run.scenario) where
  service_ready : (s : ℕ) (x : Service E G) → IsService told faults calm run s x → MayBeServed told x
  service_ready s x p = (
    subst (λ (l : LockView). MayServe l x.pass) (sym p.lock)
        (subst (MayServe run.lock) (sym p.pass)
        (record { own = refl; session = refl; number = p.low; limits = limits_of run.scenario good; unended = All-nil (λ (e : Entry). is_end e.request ≡ false) })),
    ap (λ (t : Told). t.closed) p.end.told_is,
  )

  pub services_ready : (xs : List (Service E G)) → EachPlace (IsService told faults calm run) xs → AllByRecursion (MayBeServed told) xs
  services_ready xs services = each_all (IsService told faults calm run) (MayBeServed told) xs services service_ready

module _ {E G W : Type 0} (told : E → Told) (faults : E → ℕ) (calm : E → Type 0) (telling_of : W → Telling) (run : Setting) (good : IsGoodScenario run.scenario) where
  all_ready : (ts : List (Task E G W)) → AllByRecursion (MayBeServed told) (services_of ts) → AllByRecursion (IsPartReady told telling_of) (parts_of ts) → AllByRecursion (IsReady told telling_of) ts
  all_ready [] services parts = tt
  all_ready (tasks.Serve x ∷ ts) services parts = (services.0, all_ready ts services.1 parts)
  all_ready (tasks.Play x ∷ ts) services parts = (parts.0, all_ready ts services parts.1)

  pub tasks_ready : (ts : List (Task E G W)) → EachPlace (IsService told faults calm run) (services_of ts) → EachClient (IsPart told faults calm telling_of run) 0 0 run.scenario.clients (parts_of ts) → AllByRecursion (IsReady told telling_of) ts
  tasks_ready ts services parts =
      all_ready ts (services_ready told faults calm run good (services_of ts) services)
      (each_client_all (IsPart told faults calm telling_of run) (IsPartReady told telling_of) 0 0 run.scenario.clients (parts_of ts) parts (part_ready told faults calm telling_of run good))
