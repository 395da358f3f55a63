-- The play of a client over steady ends.
use Rattle.std.proofs.Common.{◌≡◌, ℕ, zero, suc, ◌+◌, ◌<◌, ◌≤◌, List, [], ◌∷◌, ◌++◌, map, length, reverse, slice_get, get_or, Some, refl, sym, ap, subst, ◌∙◌, zero-add, arith}
use Rattle.std.specs.Prelude.{All, Vec}
use Rattle.std.specs.declared.alloc.Global.{Global}
use Rattle.std.specs.List.{AllByRecursion}
use Rattle.std.proofs.lemmas.List.{length-map}
use Rattle.std.proofs.lemmas.List.Elements.{All-from_recursion}
use Rattle.std.proofs.lemmas.Option.{none-some, same_Some, slice_get_within, slice_get-get_or}
use Rattle.sv_world.specs.declared.world.ObjectId.{ObjectId}
use Rattle.sv_world.specs.declared.world.Shape.{Shape}
use Rattle.sv_link.specs.Ends.{Told}
use Rattle.sv_wire.specs.Ranges.{ValueFits}
use Rattle.sv_client.specs.declared.trace.Trace.{Trace}
use Rattle.sv_client.specs.Seen.{ClientView, new_client}
use Rattle.sv_client.specs.Taking.{Identity}
use Rattle.sv_scenario.specs.declared.scenario.Plan.{Plan}
use Rattle.sv_scenario.specs.declared.scenario.Step.{Step}
use Rattle.sv_scenario.specs.declared.scenario.Scenario.{Scenario}
use Rattle.sv_scenario.specs.Limits.{IsGoodPlan, IsGoodScenario}
use Rattle.sv_scenario.specs.Sessions.{sessions_of_plan, sessions_in}
use Rattle.law_asked.specs.Asked.{RepliesAreMessages}
use Rattle.sv_player.specs.Going.{MayPlay}
use Rattle.sv_player.specs.Played.{IsTraceOf, HasFollowed, AreDone, IsCause, IsOpenSession}
use Rattle.sv_player.specs.Stops.{IsBad}
use Rattle.sv_client.specs.Proper.{identity_of}
use Rattle.sv_player.specs.declared.outcome.PlayerCause.{PlayerCause}
use Rattle.sv_player.specs.declared.outcome.PlayerCause.TheVariants as causes
use Rattle.sv_player.specs.declared.outcome.ReplyFault.{ReplyFault}
use Rattle.law_system.specs.Laws.{NeverRefusedInScenarios}
use Rattle.law_system.specs.Places.{EachPlace}
use Rattle.law_system.proofs.Places.{map_at}
use Rattle.sv_door.specs.Doors.{Passage, passage_of}
use Rattle.sv_join.specs.declared.steady.Steady.{Steady}
use Rattle.sv_join.specs.Legal.{IsLegalServer}
use Rattle.sv_join.specs.Joining.{Passed, passed, passages_of, IsPlay, IsNewEnd, IsScenarioClient}
use Rattle.sv_join.proofs.Lawful.{not_refused}
use Rattle.sv_join.proofs.Unwrapping.{inner, steady_told, steady_faults, steady_calm, done_inside, cause_inside, new_inside}

plan_at : (P : Plan → Type 0) (plans : List Plan) (k : ℕ) (plan : Plan) → AllByRecursion P plans → slice_get plans k ≡ Some plan → P plan
plan_at P [] k plan all e = absurd (none-some plan e)
plan_at P (x ∷ plans) zero plan all e = subst P (same_Some x plan e) all.0
plan_at P (x ∷ plans) (suc k) plan all e = plan_at P plans k plan all.1 e

-- the client that its number names
pub client_as : (scenario : Scenario) (k : ℕ) (plan : Plan) (client : ClientView) → IsScenarioClient scenario k client → slice_get scenario.clients k ≡ Some plan → client ≡ new_client (record { 0 = k }) scenario.world.shape plan.interest
client_as scenario k plan client x is =
    x.client_is ∙ ap (λ (p : Plan). new_client (record { 0 = k }) scenario.world.shape p.interest) (same_Some x.plan plan (sym x.plan_is ∙ is))

-- ---- A client of a scenario

pub plan_there : (plans : List Plan) (k : ℕ) (plan : Plan) → k < length plans → plan ≡ get_or plans k plan → slice_get plans k ≡ Some plan
plan_there plans k plan low is = slice_get-get_or plans k plan low ∙ ap (λ (p : Plan). Some p) (sym is)

clients_count : (scenario : Scenario) → IsGoodScenario scenario → (k : ℕ) → k < length scenario.clients → k < 32
clients_count scenario good k low = let few = good.few_clients in omega (arith, few, low)

few_of : (plans : List Plan) (k : ℕ) (plan : Plan) → slice_get plans k ≡ Some plan → sessions_of_plan plan ≤ sessions_in plans
few_of [] k plan e = absurd (none-some plan e)
few_of (x ∷ plans) zero plan e =
    let same = ap sessions_of_plan (same_Some x plan e) in
    omega (arith, same)
few_of (x ∷ plans) (suc k) plan e =
    let rest = few_of plans k plan e in
    omega (arith, rest)

pub few_sessions : (scenario : Scenario) → IsGoodScenario scenario → (k : ℕ) (plan : Plan) → slice_get scenario.clients k ≡ Some plan → sessions_of_plan plan ≤ 64
few_sessions scenario good k plan e =
    let own = few_of scenario.clients k plan e in
    let all = good.sessions in
    omega (arith, own, all)

pub may_play : (scenario : Scenario) → IsGoodScenario scenario → (k : ℕ) (plan : Plan) (client : ClientView) (steps : List Step) → IsScenarioClient scenario k client → slice_get scenario.clients k ≡ Some plan → steps ≡ plan.steps
    → MayPlay client.who steps
may_play scenario good k plan client steps x is same =
    let who : Identity = record { client = record { 0 = k }; interest = plan.interest; shape = scenario.world.shape } in
    let fine = plan_at (IsGoodPlan scenario.world.shape) scenario.clients k plan good.plans is in
    let may : MayPlay who plan.steps =
    record {
      identity =
          record {
            client = clients_count scenario good k (slice_get_within scenario.clients k plan is);
            few = fine.few_objects;
            ascending = fine.ascending;
            objects = All-from_recursion (λ (o : ObjectId). o.0 < scenario.world.shape.objects) plan.interest fine.known;
          };
      shape = good.world.shape;
      plan = fine;
    } in
    let own : client.who ≡ who = ap (λ (c : ClientView). c.who) (client_as scenario k plan client x is) in
    subst (λ (w : Identity). MayPlay w steps) (sym own) (subst (λ (s : List Step). MayPlay who s) (sym same) may)

-- ---- What was played

module _ {E : Type 0} (told : E → Told) (faults : E → ℕ) (calm : E → Type 0) where
  same_passages : (ends : List (Steady E)) → passages_of (λ (s : Steady E). told s.end) (λ (s : Steady E). faults s.end) ends ≡ passages_of told faults (map inner ends)
  same_passages [] = refl
  same_passages (s ∷ ends) = ap (λ (l : List Passage). passage_of (told s.end) (faults s.end) ∷ l) (same_passages ends)

  play_of : (S : Type 0) (scenario : Scenario) (k made : ℕ) (before now : List Passage) (plan : Plan) (trace : Trace) (cause : PlayerCause) (old new : List (Steady E))
      → slice_get scenario.clients k ≡ Some plan → length old ≡ sessions_of_plan plan
      → EachPlace (λ j (s : Steady E). IsNewEnd told faults calm S (made + j) s.end) old
      → AreDone (steady_told told faults calm) (steady_faults told faults calm) (steady_calm told faults calm) trace cause 0 old new
      → now ≡ before ++ passages_of (λ (s : Steady E). told s.end) (λ (s : Steady E). faults s.end) new
      → IsTraceOf (new_client (record { 0 = k }) scenario.world.shape plan.interest) 0 trace
      → HasFollowed scenario.world.shape plan.steps trace cause
      → IsCause (steady_told told faults calm) (steady_faults told faults calm) (steady_calm told faults calm) scenario.world.shape trace 0 old new cause
      → IsPlay told faults calm scenario k (passed made before now) trace cause
  play_of S scenario k made before now plan trace cause old new plan_is count news done given trace_is follows shows =
      record {
        plan = plan;
        plan_is = plan_is;
        ends = map inner old;
        count = length-map old inner ∙ count;
        new = new_inside told faults calm S made old news;
        left = map inner new;
        done = done_inside told faults calm trace cause old new done (λ j s e. (news j s e).is.1);
        given = given ∙ ap (λ (l : List Passage). before ++ l) (same_passages new);
        trace_is = trace_is;
        follows = follows;
        shows = cause_inside told faults calm scenario.world.shape trace cause old new shows;
      }

  pub played : (S : Type 0) (scenario : Scenario) (k made : ℕ) (before now : List Passage) (plan : Plan) (client : ClientView) (steps : List Step) (trace : Trace) (cause : PlayerCause) (old new : List (Steady E))
      → IsScenarioClient scenario k client → slice_get scenario.clients k ≡ Some plan → steps ≡ plan.steps → length old ≡ sessions_of_plan plan
      → EachPlace (λ j (s : Steady E). IsNewEnd told faults calm S (made + j) s.end) old
      → AreDone (steady_told told faults calm) (steady_faults told faults calm) (steady_calm told faults calm) trace cause 0 old new
      → now ≡ before ++ passages_of (λ (s : Steady E). told s.end) (λ (s : Steady E). faults s.end) new
      → IsTraceOf client 0 trace
      → HasFollowed client.who.shape steps trace cause
      → IsCause (steady_told told faults calm) (steady_faults told faults calm) (steady_calm told faults calm) client.who.shape trace 0 old new cause
      → IsPlay told faults calm scenario k (passed made before now) trace cause
  played S scenario k made before now plan client steps trace cause old new x is same count news done given trace_is follows shows =
      let own = client_as scenario k plan client x is in
      let shape = ap (λ (c : ClientView). c.who.shape) own in
      play_of S scenario k made before now plan trace cause old new is count news done given (subst (λ (c : ClientView). IsTraceOf c 0 trace) own trace_is)
      (subst (λ (h : Shape). HasFollowed h plan.steps trace cause) shape (subst (λ (s : List Step). HasFollowed client.who.shape s trace cause) same follows))
      (subst (λ (h : Shape). IsCause (steady_told told faults calm) (steady_faults told faults calm) (steady_calm told faults calm) h trace 0 old new cause) shape shows)

  -- A legal server's reply is never the one that is refused.
  pub never_lawful : NeverRefusedInScenarios → RepliesAreMessages → (scenario : Scenario) → IsGoodScenario scenario → All ValueFits scenario.world.values → (k : ℕ) (door : Passed) (trace : Trace)
      (session : ℕ) (payload : Vec ℕ Global) (fault : ReplyFault) (play : IsPlay told faults calm scenario k door trace (causes.BadReply session payload fault))
      → IsLegalServer scenario trace (passages_of told faults play.left) → ⊥
  never_lawful law messages scenario good opening k door trace session payload fault play server =
      let stuck = play.shows in
      let s = stuck.place in
      let here : IsOpenSession trace s = subst (IsOpenSession trace) (zero-add s) stuck.session in
      let bad = subst (λ n. IsBad (identity_of scenario.world.shape trace) (reverse trace.events) n (told stuck.after) payload.items fault) (zero-add s) stuck.shows.1 in
      let fine = plan_at (IsGoodPlan scenario.world.shape) scenario.clients k play.plan good.plans play.plan_is in
      not_refused law messages scenario good opening trace play.plan.steps fine.few_steps play.trace_is.proper play.trace_is.first_is play.follows.follows (passages_of told faults play.left) server s
      (passage_of (told stuck.after) (faults stuck.after)) (map_at (λ end. passage_of (told end) (faults end)) play.left s stuck.after stuck.is) here bad.rest bad.received payload.items fault bad.bad
