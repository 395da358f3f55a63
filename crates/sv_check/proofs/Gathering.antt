-- From whole traces and a whole journal to the record of a run.
use Rattle.std.proofs.Common.{◌≡◌, ℕ, suc, ◌+◌, ◌<◌, ◌≤◌, inl, inr, true, List, [], ◌∷◌, ◌++◌, length, take, get_or, reverse, refl, sym, ap, subst, ◌∙◌, arith}
use Rattle.std.specs.Prelude.{All}
use Rattle.std.specs.List.{list_any, AllByRecursion}
use Rattle.std.proofs.lemmas.Bool.{cases_lt, or_left, or_right}
use Rattle.std.proofs.lemmas.List.{take_more, length-take}
use Rattle.std.proofs.lemmas.List.Elements.{All-nil, All-cons, All-from_recursion, recursion_from_All}
use Rattle.sv_world.specs.declared.world.ClientId.{ClientId}
use Rattle.sv_world.specs.declared.world.Shape.{Shape}
use Rattle.sv_journal.specs.declared.entry.Entry.{Entry}
use Rattle.sv_journal.specs.Sessions.{is_end}
use Rattle.sv_journal.specs.Answer.{Legal}
use Rattle.sv_client.specs.declared.trace.Trace.{Trace}
use Rattle.sv_client.specs.Traces.{joins}
use Rattle.sv_client.specs.Proper.{Proper, identity_of}
use Rattle.sv_scenario.specs.declared.scenario.Plan.{Plan}
use Rattle.sv_scenario.specs.declared.scenario.Scenario.{Scenario}
use Rattle.sv_scenario.specs.declared.scenario.Step.{Step}
use Rattle.sv_scenario.specs.declared.scenario.Step.TheVariants as steps
use Rattle.sv_scenario.specs.Limits.{IsGoodScenario, IsGoodPlan, quits_last}
use Rattle.sv_scenario.specs.Sessions.{cuts_in, sessions_of_plan, sessions_in, session_count}
use Rattle.sv_script.specs.Following.{FollowsToEnd, steps_done, events_of}
use Rattle.sv_script.specs.Laws.{StepsAreDoneInOrder, EndsDoAllSteps}
use Rattle.sv_script.proofs.Places.{finished-first}
use Rattle.law_system.specs.Fits.{is_join_of, has_session, is_owned, FitsOne, AreApart, AreAllApart}
use Rattle.law_system.specs.Records.{AreTracesOf, EachTrace, IsRecordOf, ScriptsAreFollowed, rules_of, ends_in}
use Rattle.law_system.proofs.Asked.{any-reverse, any-turned}
use Rattle.law_system.proofs.Clients.{client-trace}
use Rattle.sv_script.proofs.Begun.{joins-counted, joins-few}
use Rattle.sv_script.proofs.Counts.{one_if}
use Rattle.law_system.proofs.Joined.{low-joined, joined-within}
use Rattle.sv_check.specs.Parts.{IsWholeTrace, AreFirstTraces, IsOf}

-- ---- The sessions of a trace

no_cuts : (ss : List Step) → events_of ss ≡ [] → cuts_in ss ≡ 0
no_cuts [] e = refl
no_cuts (steps.Act action ∷ ss) e = cc
no_cuts (steps.Poll ∷ ss) e = cc
no_cuts (steps.Observe objects ∷ ss) e = cc
no_cuts (steps.Sync ∷ ss) e = omega (arith, no_cuts ss e)
no_cuts (steps.Show objects ∷ ss) e = cc
no_cuts (steps.Cut ∷ ss) e = cc
no_cuts (steps.Quit ∷ ss) e = cc

same_rest : {X : Type 0} (x : X) (xs ys : List X) → x ∷ xs ≡ x ∷ ys → xs ≡ ys
same_rest x xs ys e = cc

same_left : {X : Type 0} (xs ys : List X) → xs ++ ys ≡ xs → ys ≡ []
same_left [] ys e = e
same_left (x ∷ xs) ys e = same_left xs ys (same_rest x (xs ++ ys) xs e)

-- A finished trace joined each session of its plan.
all_joined : StepsAreDoneInOrder → EndsDoAllSteps → (shape : Shape) (plan : Plan) (L : Trace) → Proper shape L → quits_last plan.steps ≡ true → FollowsToEnd shape plan.steps L →
    joins (reverse L.events) ≡ sessions_of_plan plan
all_joined begun whole shape plan L p q f =
    let done = whole shape plan.steps L p q f in
    let follows = f.follows.follows in
    let order = begun (identity_of shape L) plan.steps (reverse L.events) f.follows.left follows in
    let none = no_cuts f.follows.left (same_left (steps_done (reverse L.events)) (events_of f.follows.left) (order ∙ sym done.steps)) in
    let counted = joins-counted (identity_of shape L) plan.steps (reverse L.events) f.follows.left follows in
    let no = ap one_if (finished-first (reverse L.events) f.finished) in
    omega (arith, none, counted, no)

-- The sessions that it has are those from its first one on.
has_within : (shape : Shape) (plan : Plan) (L : Trace) (n : ℕ) → Proper shape L → FollowsToEnd shape plan.steps L → has_session L n ≡ true →
    (L.first ≤ n) × (n < L.first + sessions_of_plan plan)
has_within shape plan L n p f h =
    let b = joined-within (identity_of shape L) L.first (reverse L.events) n p.events (any-turned (is_join_of n) L.events h) in
    let most = joins-few (identity_of shape L) plan.steps (reverse L.events) f.follows.left f.follows.follows in
    (b.0, omega (arith, b.1, most))

has_each : StepsAreDoneInOrder → EndsDoAllSteps → (shape : Shape) (plan : Plan) (L : Trace) (n : ℕ) → Proper shape L → quits_last plan.steps ≡ true → FollowsToEnd shape plan.steps L →
    L.first ≤ n → n < L.first + sessions_of_plan plan → has_session L n ≡ true
has_each begun whole shape plan L n p q f low high =
    let all = all_joined begun whole shape plan L p q f in
    any-reverse (is_join_of n) L.events (low-joined (identity_of shape L) L.first (reverse L.events) n p.events low (omega (arith, high, all)))

-- ---- All traces

each_fits : (shape : Shape) (h : List Entry) (plans : List Plan) (Ls : List Trace) → EachTrace (IsWholeTrace shape h) plans Ls → All (FitsOne shape h) Ls
each_fits shape h [] [] w = All-nil (FitsOne shape h)
each_fits shape h [] (L ∷ Ls) w = absurd w
each_fits shape h (plan ∷ plans) [] w = absurd w
each_fits shape h (plan ∷ plans) (L ∷ Ls) w =
    All-cons (FitsOne shape h) L Ls (record { trace = client-trace shape L w.0.proper; sessions = w.0.fits }) (each_fits shape h plans Ls w.1)

each_proper : (shape : Shape) (h : List Entry) (plans : List Plan) (Ls : List Trace) → EachTrace (IsWholeTrace shape h) plans Ls → All (Proper shape) Ls
each_proper shape h [] [] w = All-nil (Proper shape)
each_proper shape h [] (L ∷ Ls) w = absurd w
each_proper shape h (plan ∷ plans) [] w = absurd w
each_proper shape h (plan ∷ plans) (L ∷ Ls) w = All-cons (Proper shape) L Ls w.0.proper (each_proper shape h plans Ls w.1)

pub followed : (shape : Shape) (h : List Entry) (plans : List Plan) (Ls : List Trace) → EachTrace (IsWholeTrace shape h) plans Ls → ScriptsAreFollowed shape plans Ls
followed shape h [] [] w = tt
followed shape h [] (L ∷ Ls) w = absurd w
followed shape h (plan ∷ plans) [] w = absurd w
followed shape h (plan ∷ plans) (L ∷ Ls) w = (w.0.follows, followed shape h plans Ls w.1)

-- Later traces have later numbers and sessions.
later_apart : (shape : Shape) (h : List Entry) (k s : ℕ) (plans : List Plan) (Ls : List Trace) (plan : Plan) (L : Trace) → AreTracesOf k s plans Ls → EachTrace (IsWholeTrace shape h) plans Ls →
    L.client.0 < k → L.first + sessions_of_plan plan ≤ s → Proper shape L → FollowsToEnd shape plan.steps L → All (AreApart L) Ls
later_apart shape h k s [] [] plan L a w c e p f = All-nil (AreApart L)
later_apart shape h k s [] (M ∷ Ms) plan L a w c e p f = absurd a
later_apart shape h k s (q ∷ qs) [] plan L a w c e p f = absurd a
later_apart shape h k s (q ∷ qs) (M ∷ Ms) plan L a w c e p f =
    All-cons (AreApart L) M Ms
    (record {
      clients = λ same. let number : L.client.0 ≡ k = ap (λ (x : ClientId). x.0) (same ∙ a.0) in absurd (omega (arith, number, c));
      sessions = λ n mine other.
          let here = has_within shape plan L n p f mine in
          let there = has_within shape q M n w.0.proper w.0.follows other in
          absurd (omega (arith, here.1, there.0, a.2, e));
    })
    (later_apart shape h (suc k) (s + sessions_of_plan q) qs Ms plan L a.3 w.1 (omega (arith, c)) (omega (arith, e)) p f)

all_apart : (shape : Shape) (h : List Entry) (k s : ℕ) (plans : List Plan) (Ls : List Trace) → AreTracesOf k s plans Ls → EachTrace (IsWholeTrace shape h) plans Ls → AreAllApart Ls
all_apart shape h k s [] [] a w = tt
all_apart shape h k s [] (L ∷ Ls) a w = absurd a
all_apart shape h k s (plan ∷ plans) [] a w = absurd a
all_apart shape h k s (plan ∷ plans) (L ∷ Ls) a w = (
  later_apart shape h (suc k) (s + sessions_of_plan plan) plans Ls plan L a.3 w.1 (let number : L.client.0 ≡ k = ap (λ (x : ClientId). x.0) a.0 in omega (arith, number))
      (omega (arith, a.2)) w.0.proper w.0.follows,
  all_apart shape h (suc k) (s + sessions_of_plan plan) plans Ls a.3 w.1,
)

-- Each session is one of a trace.
some_has : StepsAreDoneInOrder → EndsDoAllSteps → (shape : Shape) (h : List Entry) (k s : ℕ) (plans : List Plan) (Ls : List Trace) → AreTracesOf k s plans Ls → EachTrace (IsWholeTrace shape h) plans Ls →
    AllByRecursion (IsGoodPlan shape) plans → (n : ℕ) → s ≤ n → n < s + sessions_in plans → list_any (λ (L : Trace). has_session L n) Ls ≡ true
some_has begun whole shape h k s [] [] a w g n low high = absurd (omega (arith, low, high))
some_has begun whole shape h k s [] (L ∷ Ls) a w g n low high = absurd a
some_has begun whole shape h k s (plan ∷ plans) [] a w g n low high = absurd a
some_has begun whole shape h k s (plan ∷ plans) (L ∷ Ls) a w g n low high =
    elim (cases_lt n (s + sessions_of_plan plan)) [
      | inl mine ↦ or_left (has_session L n) (list_any (λ (M : Trace). has_session M n) Ls)
          (has_each begun whole shape plan L n w.0.proper g.0.quit w.0.follows (omega (arith, low, a.2)) (omega (arith, mine, a.2)))
      | inr later ↦ or_right (has_session L n) (list_any (λ (M : Trace). has_session M n) Ls)
          (some_has begun whole shape h (suc k) (s + sessions_of_plan plan) plans Ls a.3 w.1 g.1 n later (omega (arith, high)))
    ]

all_owned : (h : List Entry) (Ls : List Trace) (count : ℕ) → ((n : ℕ) → n < count → list_any (λ (L : Trace). has_session L n) Ls ≡ true) →
    AllByRecursion (λ (e : Entry). e.session < count) h → AllByRecursion (λ (e : Entry). is_owned Ls e ≡ true) h
all_owned [] Ls count f a = tt
all_owned (e ∷ h) Ls count f a = (or_right (is_end e.request) (list_any (λ (L : Trace). has_session L e.session) Ls) (f e.session a.0), all_owned h Ls count f a.1)

pub is_record : StepsAreDoneInOrder → EndsDoAllSteps → (scenario : Scenario) (h : List Entry) (Ls : List Trace) → IsGoodScenario scenario → Legal (rules_of scenario) h →
    All (λ (e : Entry). e.session < session_count scenario) h → ((s : ℕ) → s < session_count scenario → ends_in h s ≡ 1) →
    AreFirstTraces scenario.world.shape h scenario.clients Ls → IsRecordOf scenario h Ls
is_record begun whole scenario h Ls good legal sessions ended t = record {
  legal = legal;
  fits = record {
    each = each_fits scenario.world.shape h scenario.clients Ls t.whole;
    apart = all_apart scenario.world.shape h 0 0 scenario.clients Ls t.clients t.whole;
    owned = All-from_recursion (λ (e : Entry). is_owned Ls e ≡ true) h (all_owned h Ls (session_count scenario)
        (λ n l. some_has begun whole scenario.world.shape h 0 0 scenario.clients Ls t.clients t.whole good.plans n (omega arith) (omega (arith, l)))
        (recursion_from_All (λ (e : Entry). e.session < session_count scenario) h sessions));
  };
  proper = each_proper scenario.world.shape h scenario.clients Ls t.whole;
  sessions = sessions;
  ended = ended;
  clients = t.clients;
}

-- ---- One more trace

pub traces_more : (shape : Shape) (h : List Entry) (k s : ℕ) (plans : List Plan) (Ls : List Trace) (plan : Plan) (L : Trace) → AreTracesOf k s plans Ls → IsOf (k + length plans) (s + sessions_in plans) plan L →
    AreTracesOf k s (plans ++ plan ∷ []) (Ls ++ L ∷ [])
traces_more shape h k s [] [] plan L a o =
    (o.client ∙ ap (λ n. record { 0 = n }) (let plain : k + 0 ≡ k = omega arith in plain), o.interest, o.first_is ∙ (let plain : s + 0 ≡ s = omega arith in plain), tt)
traces_more shape h k s [] (M ∷ Ms) plan L a o = absurd a
traces_more shape h k s (q ∷ qs) [] plan L a o = absurd a
traces_more shape h k s (q ∷ qs) (M ∷ Ms) plan L a o = (
  a.0,
  a.1,
  a.2,
  traces_more shape h (suc k) (s + sessions_of_plan q) qs Ms plan L a.3
      (record {
        client = o.client ∙ ap (λ n. record { 0 = n }) (let plus : k + suc (length qs) ≡ suc k + length qs = omega arith in plus);
        interest = o.interest;
        first_is = o.first_is ∙ (let plus : s + (sessions_of_plan q + sessions_in qs) ≡ s + sessions_of_plan q + sessions_in qs = omega arith in plus);
      }),
)

pub each_more : (P : Plan → Trace → Type 0) (plans : List Plan) (Ls : List Trace) (plan : Plan) (L : Trace) → EachTrace P plans Ls → P plan L → EachTrace P (plans ++ plan ∷ []) (Ls ++ L ∷ [])
each_more P [] [] plan L w p = (p, tt)
each_more P [] (M ∷ Ms) plan L w p = absurd w
each_more P (q ∷ qs) [] plan L w p = absurd w
each_more P (q ∷ qs) (M ∷ Ms) plan L w p = (w.0, each_more P qs Ms plan L w.1 p)

pub first_more : (shape : Shape) (h : List Entry) (plans : List Plan) (Ls : List Trace) (plan : Plan) (L : Trace) → AreFirstTraces shape h plans Ls → IsOf (length plans) (sessions_in plans) plan L →
    IsWholeTrace shape h plan L → AreFirstTraces shape h (plans ++ plan ∷ []) (Ls ++ L ∷ [])
first_more shape h plans Ls plan L a o w = record {
  clients = traces_more shape h 0 0 plans Ls plan L a.clients (record {
    client = o.client ∙ ap (λ n. record { 0 = n }) (let plain : length plans ≡ 0 + length plans = omega arith in plain);
    interest = o.interest;
    first_is = o.first_is ∙ (let plain : sessions_in plans ≡ 0 + sessions_in plans = omega arith in plain);
  });
  whole = each_more (IsWholeTrace shape h) plans Ls plan L a.whole w;
}

-- ---- The first traces, by their number

sessions_append : (ps qs : List Plan) → sessions_in (ps ++ qs) ≡ sessions_in ps + sessions_in qs
sessions_append [] qs = omega arith
sessions_append (p ∷ ps) qs = let more = sessions_append ps qs in omega (arith, more)

front_more : (plans : List Plan) (i : ℕ) (plan : Plan) → i < length plans → plan ≡ get_or plans i plan → take (i + 1) plans ≡ take i plans ++ plan ∷ []
front_more plans i plan l is = take_more plans i plan l ∙ ap (λ (p : Plan). take i plans ++ p ∷ []) (sym is)

pub clients_more : (shape : Shape) (h : List Entry) (plans : List Plan) (i : ℕ) (plan : Plan) (Ls : List Trace) (L : Trace) (number first : ℕ) → i < length plans → plan ≡ get_or plans i plan →
    AreFirstTraces shape h (take i plans) Ls → number ≡ i → first ≡ sessions_in (take i plans) → IsOf number first plan L → IsWholeTrace shape h plan L →
    AreFirstTraces shape h (take (i + 1) plans) (Ls ++ L ∷ [])
clients_more shape h plans i plan Ls L number first l is t n f o w =
    subst (λ (ps : List Plan). AreFirstTraces shape h ps (Ls ++ L ∷ [])) (sym (front_more plans i plan l is))
    (first_more shape h (take i plans) Ls plan L t
    (record { client = o.client ∙ ap (λ m. record { 0 = m }) (n ∙ sym (let long = length-take i plans in let same : length (take i plans) ≡ i = omega (arith, long, l) in same)); interest = o.interest; first_is = o.first_is ∙ f }) w)

pub start_more : (plans : List Plan) (i : ℕ) (plan : Plan) (first : ℕ) → i < length plans → plan ≡ get_or plans i plan → first ≡ sessions_in (take i plans) →
    first + sessions_of_plan plan ≡ sessions_in (take (i + 1) plans)
start_more plans i plan first l is f =
    let more = ap sessions_in (front_more plans i plan l is) in
    let sum = sessions_append (take i plans) (plan ∷ []) in
    omega (arith, more, sum, f)
