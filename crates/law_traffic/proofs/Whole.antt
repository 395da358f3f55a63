-- The open sessions of a run, and the traffic of all sessions.
use Rattle.std.proofs.Common.{◌≡◌, ℕ, zero, suc, ◌+◌, ◌-◌, Bool, true, List, [], ◌∷◌, length, map, reverse, Some, slice_get, inl, inr, ◌⊎◌, sym, ap, subst, ◌∙◌, arith, refl}
use Rattle.std.specs.List.{AllByRecursion}
use Rattle.std.proofs.lemmas.List.{length-map}
use Rattle.std.proofs.lemmas.Option.{none-some, same_Some}
use Rattle.sv_link.specs.Nets.{counted}
use Rattle.sv_wire.specs.declared.message.Reply.{Reply}
use Rattle.sv_wire.specs.Laws.{IsReply}
use Rattle.sv_journal.specs.declared.entry.Entry.{Entry}
use Rattle.sv_journal.specs.Laws.{FullRepliesStay, LegalRelaysNameAccepted}
use Rattle.sv_client.specs.declared.trace.Trace.{Trace}
use Rattle.sv_client.specs.Traces.{got}
use Rattle.sv_world.specs.declared.world.Shape.{Shape}
use Rattle.sv_client.specs.Proper.{identity_of}
use Rattle.sv_scenario.specs.declared.scenario.Plan.{Plan}
use Rattle.sv_scenario.specs.declared.scenario.Scenario.{Scenario}
use Rattle.sv_scenario.specs.Sessions.{session_count}
use Rattle.law_system.specs.Fits.{is_join_of, has_session}
use Rattle.law_system.specs.Records.{EachTrace, ScriptsAreFollowed}
use Rattle.sv_script.specs.Following.{FollowsToEnd}
use Rattle.sv_script.proofs.Asked.{few-asked}
use Rattle.law_system.proofs.Asked.{any-reverse, current-joined}
use Rattle.law_asked.specs.Asked.{RepliesAreMessages}
use Rattle.law_system.specs.Laws.{NeverRefusedInScenarios}
use Rattle.sv_player.specs.Carried.{BeginsWithReplies}
use Rattle.sv_player.specs.Stops.{IsShut}
use Rattle.sv_player.specs.Played.{replies_of}
use Rattle.law_system.proofs.Limits.{limits_of}
use Rattle.law_system.proofs.Places.{map_at}
use Rattle.law_traffic.specs.Sessions.{Over, transcript, IsSessionDone}
use Rattle.law_traffic.specs.Traffic.{IsTraffic}
use Rattle.law_traffic.specs.Stuck.{IsStopped, IsTakeable}
use Rattle.law_traffic.specs.Runs.{EachSession, IsRun, IsGoodRun, IsOpenIn, TrafficIsRecorded, EndOrAreStopped, UncutSessionsHaveNoFault}
use Rattle.law_traffic.proofs.Bytes.{all, all_are, traffic_of}
use Rattle.law_traffic.proofs.Owners.{in_range}
use Rattle.law_traffic.proofs.Recorded.{fits}
use Rattle.law_traffic.proofs.Sendable.{IsWellDone, well, few_accepted, sendable}
use Rattle.law_traffic.proofs.Stuck.{takeable, none_is_awaited}
use Rattle.law_traffic.proofs.Takeable.{not_bad}

trace_at : (P : Plan → Trace → Type 0) (plans : List Plan) (Ls : List Trace) (i : ℕ) (L : Trace) → EachTrace P plans Ls → slice_get Ls i ≡ Some L → (plan : Plan) × P plan L
trace_at P [] [] i L e m = absurd (none-some L m)
trace_at P [] (M ∷ Ms) i L e m = absurd e
trace_at P (plan ∷ plans) [] i L e m = absurd (none-some L m)
trace_at P (plan ∷ plans) (M ∷ Ms) zero L e m = (plan, subst (P plan) (same_Some M L m) e.0)
trace_at P (plan ∷ plans) (M ∷ Ms) (suc i) L e m = trace_at P plans Ms i L e.1 m

-- by the places of the traces
each_trace : (P Q : Plan → Trace → Type 0) (plans : List Plan) (Ls : List Trace) → EachTrace P plans Ls → ((i : ℕ) (plan : Plan) (L : Trace) → slice_get Ls i ≡ Some L → P plan L → Q plan L) → EachTrace Q plans Ls
each_trace P Q [] [] e f = tt
each_trace P Q [] (M ∷ Ms) e f = absurd e
each_trace P Q (plan ∷ plans) [] e f = absurd e
each_trace P Q (plan ∷ plans) (M ∷ Ms) e f = (f 0 plan M refl e.0, each_trace P Q plans Ms e.1 (λ i. f (suc i)))

module _ (stay : FullRepliesStay) (name : LegalRelaysNameAccepted) (messages : RepliesAreMessages) (scenario : Scenario) (journal : List Entry) (Ls : List Trace) (sessions : List Over)
    (good : IsGoodRun scenario) (run : IsRun scenario journal Ls sessions) where
  abbrev IsWell : Plan → Trace → Type 0
  IsWell plan L = IsWellDone scenario journal sessions plan L

  abbrev all_well : EachTrace (IsWellDone scenario journal sessions) scenario.clients Ls
  all_well = well stay name messages scenario journal Ls sessions good run

  -- ---- Traffic

  traffic_in : (plan : Plan) (L : Trace) → IsWell plan L → EachSession (λ s x. IsTraffic (reverse journal) L s x) (map transcript sessions) plan L
  traffic_in plan L w n low =
      let found = w.done n low in (
        transcript found.0,
        (
          map_at transcript sessions (L.first + n) found.0 found.1.0,
          traffic_of stay name journal L (L.first + n) found.0 found.1.1 (sendable stay name messages scenario journal Ls sessions good run (L.first + n)),
        ),
      )

  traffic_each : (plans : List Plan) (Ms : List Trace) → EachTrace (IsWellDone scenario journal sessions) plans Ms →
      EachTrace (λ plan L. EachSession (λ s x. IsTraffic (reverse journal) L s x) (map transcript sessions) plan L) plans Ms
  traffic_each [] [] e = tt
  traffic_each [] (L ∷ Ms) e = absurd e
  traffic_each (plan ∷ plans) [] e = absurd e
  traffic_each (plan ∷ plans) (L ∷ Ms) e = (traffic_in plan L e.0, traffic_each plans Ms e.1)

  pub traffic_is_recorded : TrafficIsRecorded scenario (reverse journal) Ls (map transcript sessions)
  traffic_is_recorded = record { count = length-map sessions transcript ∙ run.count; each = traffic_each scenario.clients Ls all_well }

  -- ---- Open sessions

  module _ (L : Trace) (s : ℕ) (x : Over) (o : IsOpenIn Ls sessions L s x) where
    mine_well : (plan : Plan) × IsWellDone scenario journal sessions plan L
    mine_well = trace_at (IsWellDone scenario journal sessions) scenario.clients Ls o.place L all_well o.member

    joined : has_session L s ≡ true
    joined = any-reverse (is_join_of s) L.events (current-joined (reverse L.events) s o.session.current)

    pub open_done : IsSessionDone journal L s x
    open_done =
        let w = mine_well.1 in
        let b = in_range scenario.world.shape mine_well.0 L s w.proper w.follows joined in
        let n = s - L.first in
        let found = w.done n (omega (arith, b.0, b.1)) in
        let is : L.first + n ≡ s = omega (arith, b.0) in
        let same : found.0 ≡ x = same_Some found.0 x (sym found.1.0 ∙ (ap (slice_get sessions) is ∙ o.there)) in
        subst (λ (y : Over). IsSessionDone journal L s y) same (subst (λ (m : ℕ). IsSessionDone journal L m found.0) is found.1.1)

    can_be_sent : AllByRecursion IsReply (all stay name journal L s x open_done)
    can_be_sent =
        subst (AllByRecursion IsReply) (all_are stay name journal L s x open_done) (sendable stay name messages scenario journal Ls sessions good run s)

    pub not_shut : (shape : Shape) → IsShut (identity_of shape L) (reverse L.events) s x.client → ⊥
    not_shut shape shut =
        let same = none_is_awaited stay name journal L s x open_done can_be_sent shut.rest shut.received scenario.world.shape mine_well.1.proper o.session.open_is shut.ended shut.none in
        let awaited = shut.awaited in
        omega (arith, same, awaited)

    pub next_taken : NeverRefusedInScenarios → (rest : List ℕ) → BeginsWithReplies x.client.received (replies_of L s) rest → IsTakeable scenario.world.shape L rest
    next_taken law rest begins =
        let limits = limits_of scenario good.good in
        let w = mine_well.1 in
        let few = few-asked (identity_of scenario.world.shape L) L.first mine_well.0.steps (reverse L.events) w.follows.left s w.good.few_steps w.proper.events w.follows.follows in
        takeable stay name journal L s x open_done can_be_sent rest begins scenario.world.shape
        (λ reply there. law scenario.world scenario.bound scenario.reach (session_count scenario) (reverse journal) Ls o.place L s reply limits.objects limits.attrs limits.bound
        (few_accepted stay name messages scenario journal Ls sessions good run) run.legal
        (fits stay name messages scenario journal Ls sessions good run) o.member w.proper o.session.current (omega (arith, few))
        (ap (λ (ws : List Reply). slice_get ws (length (got (reverse L.events) s))) (all_are stay name journal L s x open_done) ∙ there))

  -- ---- The ends of traces

  not_stopped : NeverRefusedInScenarios → (i : ℕ) (L : Trace) → slice_get Ls i ≡ Some L → IsStopped scenario.world.shape L sessions → ⊥
  not_stopped law i L member stop =
      let o : IsOpenIn Ls sessions L stop.session stop.over = record { place = i; member = member; session = stop.open_is; there = stop.there } in
      elim stop.how [
        | inl shut ↦ not_shut L stop.session stop.over o scenario.world.shape shut
        | inr bad ↦
            not_bad scenario.world.shape L bad.bad.rest (next_taken L stop.session stop.over o law bad.bad.rest bad.bad.received) bad.payload bad.fault bad.bad.bad
      ]

  to_the_end : NeverRefusedInScenarios → (i : ℕ) (plan : Plan) (L : Trace) → slice_get Ls i ≡ Some L → FollowsToEnd scenario.world.shape plan.steps L ⊎ IsStopped scenario.world.shape L sessions →
      FollowsToEnd scenario.world.shape plan.steps L
  to_the_end law i plan L member (inl end) = end
  to_the_end law i plan L member (inr stop) = absurd (not_stopped law i L member stop)

  pub scripts_are_followed : NeverRefusedInScenarios → EndOrAreStopped scenario Ls sessions → ScriptsAreFollowed scenario.world.shape scenario.clients Ls
  scripts_are_followed law ends =
      each_trace (λ plan L. FollowsToEnd scenario.world.shape plan.steps L ⊎ IsStopped scenario.world.shape L sessions) (λ plan L. FollowsToEnd scenario.world.shape plan.steps L)
      scenario.clients Ls ends (to_the_end law)

-- No fault counts where no session was cut.
pub no_faults : UncutSessionsHaveNoFault
no_faults L s x settled uncut =
    let none : x.server_faults + x.client_faults ≡ 0 = sym (ap (λ (b : Bool). counted b x.server_faults x.client_faults) uncut) ∙ settled.faultless in
    (omega (arith, none), omega (arith, none))
