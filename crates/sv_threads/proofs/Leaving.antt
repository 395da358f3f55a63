-- What the threads of a run leave, by what they were given.
use Rattle.std.proofs.Common.{◌≡◌, ℕ, zero, suc, ◌+◌, Bool, List, [], ◌∷◌, map, length, reverse, slice_get, Some, refl, sym, ap, subst, ◌∙◌, arith, zero-add, add-zero}
use Rattle.std.specs.List.{AllByRecursion, AllZip, flat_map}
use Rattle.std.proofs.lemmas.List.{length-map}
use Rattle.std.proofs.lemmas.Option.{none-some, same_Some, slice_get_within}
use Rattle.std.proofs.lemmas.Slice.Zip.{AllZip-long}
use Rattle.std.specs.Prelude.{IsSome}
use Rattle.sv_threads.specs.Telling.{Telling}
use Rattle.sv_link.specs.Ends.{Told}
use Rattle.sv_link.specs.declared.side.Side.TheVariants.{Server, Client}
use Rattle.sv_client.specs.declared.trace.Trace.{Trace}
use Rattle.sv_client.specs.Seen.{ClientView}
use Rattle.sv_scenario.specs.declared.scenario.Plan.{Plan}
use Rattle.sv_scenario.specs.declared.scenario.Step.{Step}
use Rattle.sv_scenario.specs.Sessions.{sessions_of_plan, session_count}
use Rattle.sv_session.specs.Serving.{SessionPass, Served, SessionCause}
use Rattle.sv_player.specs.Stops.{is_cut}
use Rattle.sv_player.specs.Played.{IsTraceOf, HasFollowed, AreDone, IsCause, lines_told}
use Rattle.sv_player.specs.declared.outcome.PlayerOut.{PlayerOut}
use Rattle.sv_threads.specs.declared.tasks.Service.{Service}
use Rattle.sv_threads.specs.declared.tasks.Part.{Part}
use Rattle.sv_threads.specs.declared.tasks.Task.{Task}
use Rattle.sv_threads.specs.declared.tasks.Task.TheVariants as tasks
use Rattle.sv_threads.specs.declared.tasks.Serviced.{Serviced}
use Rattle.sv_threads.specs.declared.tasks.TaskOut.{TaskOut}
use Rattle.sv_threads.specs.declared.tasks.TaskOut.TheVariants as outs
use Rattle.sv_threads.specs.declared.gathering.ClientEnd.{ClientEnd}
use Rattle.law_system.specs.Places.{EachPlace}
use Rattle.law_system.proofs.Places.{each_all, at_place, unmap_at}
use Rattle.sv_threads.specs.Places.{EachClient}
use Rattle.sv_threads.specs.Tasks.{services_of, parts_of, serviced_of, played_of, TookPart, WasServed, KeepsTask}
use Rattle.sv_threads.specs.Given.{Setting, IsPart, IsService, pass_of}
use Rattle.sv_threads.specs.RunRemains.{ends_from, ends_of, HasFewSessions, IsOfLock, IsServiced, HasPlayed}
use Rattle.sv_threads.specs.Settling.{ArePair, AreCalm, IsSince}
use Rattle.sv_threads.proofs.Places.{each_zip, each_client_zip, each_client_all, each_client_map, zip_from, flat_length, flat_each}

-- ---- Each kind by itself

module _ {E W : Type 0} (told : E → Told) (faults : E → ℕ) (calm : E → Type 0) (telling_of : W → Telling) where
  abbrev IsTaken : Part E W → PlayerOut E → Type 0
  IsTaken x y = TookPart told faults calm (telling_of x.teller.now).watched x.client x.script.now x.first x.ends.items y

  part_left : (run : Setting) (k s : ℕ) (plan : Plan) (x : Part E W) (y : PlayerOut E) → IsPart told faults calm telling_of run k s plan x → IsTaken x y → HasPlayed told faults calm run k s plan y
  part_left run k s plan x y p w =
      let shape = ap (λ (c : ClientView). c.who.shape) p.part.client in
      record {
        before = x.ends.items;
        count = p.part.count;
        new = p.ends;
        trace = subst (λ (c : ClientView). IsTraceOf c s y.trace) p.part.client (subst (λ n. IsTraceOf x.client n y.trace) p.part.first w.trace);
        follows =
            subst (λ h. HasFollowed h plan.steps y.trace y.cause) shape (subst (λ (steps : List Step). HasFollowed x.client.who.shape steps y.trace y.cause) p.part.script w.follows);
        ends = subst (λ n. AreDone told faults calm y.trace y.cause n x.ends.items y.ends.items) p.part.first w.done;
        last = p.part.last;
        lines = λ some. w.lines some ∙ ap (λ (b : Bool). lines_told b y.trace) p.part.watched_is;
        cause =
            subst (λ h. IsCause told faults calm h y.trace s x.ends.items y.ends.items y.cause) shape
            (subst (λ n. IsCause told faults calm x.client.who.shape y.trace n x.ends.items y.ends.items y.cause) p.part.first w.cause);
      }

module _ {E G : Type 0} (told : E → Told) (faults : E → ℕ) (calm : E → Type 0) where
  service_left : (run : Setting) (s : ℕ) (x : Service E G) (y : Serviced E) → IsService told faults calm run s x → WasServed told faults calm x y → IsServiced told faults calm run s y
  service_left run s x y p w =
      record {
        served =
            subst (λ (t : Told). Served t (pass_of s run.lock run.scenario) y.out (told y.end) y.pass) p.end.told_is
            (subst (λ (b : SessionPass). Served (told x.end) b y.out (told y.end) y.pass) p.pass w.served);
        cause = subst (λ n. SessionCause n (faults y.end) y.out) p.end.faultless w.cause;
        calm_is = λ q. w.calm_is (p.end.calm_is q);
      }

  pub served_left : (run : Setting) (xs : List (Service E G)) (ys : List (Serviced E)) → EachPlace (IsService told faults calm run) xs → AllZip (WasServed told faults calm) xs ys →
      (s : ℕ) (y : Serviced E) → slice_get ys s ≡ Some y → IsServiced told faults calm run s y
  served_left run xs ys given all = each_zip (IsService told faults calm run) (WasServed told faults calm) (IsServiced told faults calm run) xs ys given all (service_left run)

module _ {E G W : Type 0} (told : E → Told) (faults : E → ℕ) (calm : E → Type 0) (telling_of : W → Telling) where
  pub split_served : (ts : List (Task E G W)) (os : List (TaskOut E)) → AllZip (KeepsTask told faults calm telling_of) ts os → AllZip (WasServed told faults calm) (services_of ts) (serviced_of os)
  split_served [] [] all = tt
  split_served [] (o ∷ os) all = absurd all
  split_served (t ∷ ts) [] all = absurd all
  split_served (tasks.Serve x ∷ ts) (outs.Served y ∷ os) all = (all.0, split_served ts os all.1)
  split_served (tasks.Serve x ∷ ts) (outs.Played y ∷ os) all = absurd all.0
  split_served (tasks.Play x ∷ ts) (outs.Served y ∷ os) all = absurd all.0
  split_served (tasks.Play x ∷ ts) (outs.Played y ∷ os) all = split_served ts os all.1

  pub split_played : (ts : List (Task E G W)) (os : List (TaskOut E)) → AllZip (KeepsTask told faults calm telling_of) ts os → AllZip (IsTaken told faults calm telling_of) (parts_of ts) (played_of os)
  split_played [] [] all = tt
  split_played [] (o ∷ os) all = absurd all
  split_played (t ∷ ts) [] all = absurd all
  split_played (tasks.Serve x ∷ ts) (outs.Served y ∷ os) all = split_played ts os all.1
  split_played (tasks.Serve x ∷ ts) (outs.Played y ∷ os) all = absurd all.0
  split_played (tasks.Play x ∷ ts) (outs.Served y ∷ os) all = absurd all.0
  split_played (tasks.Play x ∷ ts) (outs.Played y ∷ os) all = (all.0, split_played ts os all.1)

  pub services_left : (run : Setting) (ts : List (Task E G W)) (os : List (TaskOut E)) → EachPlace (IsService told faults calm run) (services_of ts) → AllZip (KeepsTask told faults calm telling_of) ts os →
      (s : ℕ) (y : Serviced E) → slice_get (serviced_of os) s ≡ Some y → IsServiced told faults calm run s y
  services_left run ts os given all = served_left told faults calm run (services_of ts) (serviced_of os) given (split_served ts os all)

  pub parts_left : (run : Setting) (ts : List (Task E G W)) (os : List (TaskOut E)) → EachClient (IsPart told faults calm telling_of run) 0 0 run.scenario.clients (parts_of ts) → AllZip (KeepsTask told faults calm telling_of) ts os →
      EachClient (HasPlayed told faults calm run) 0 0 run.scenario.clients (played_of os)
  parts_left run ts os given all =
      each_client_zip (IsPart told faults calm telling_of run) (IsTaken told faults calm telling_of) (HasPlayed told faults calm run) 0 0 run.scenario.clients (parts_of ts) (played_of os) given (split_played ts os all)
      (λ k s plan x y. part_left told faults calm telling_of run k s plan x y)

  pub served_count : (ts : List (Task E G W)) (os : List (TaskOut E)) → AllZip (KeepsTask told faults calm telling_of) ts os → length (serviced_of os) ≡ length (services_of ts)
  served_count ts os all = AllZip-long (WasServed told faults calm) (services_of ts) (serviced_of os) (split_served ts os all)

  pub task_count : (ts : List (Task E G W)) → length ts ≡ length (services_of ts) + length (parts_of ts)
  task_count [] = refl
  task_count (tasks.Serve x ∷ ts) = let rest = task_count ts in omega (arith, rest)
  task_count (tasks.Play x ∷ ts) = let rest = task_count ts in omega (arith, rest)

-- ---- The ends

module _ {E : Type 0} where
  pub ends_count : (trace : Trace) (s : ℕ) (es : List E) → length (ends_from trace s es) ≡ length es
  ends_count trace s [] = refl
  ends_count trace s (e ∷ es) = let rest = ends_count trace (suc s) es in omega (arith, rest)

  pub end_at : (trace : Trace) (s : ℕ) (es : List E) (j : ℕ) (b : E) → slice_get es j ≡ Some b →
      slice_get (ends_from trace s es) j ≡ Some (record { end = b; cut = is_cut (reverse trace.events) (s + j) })
  end_at trace s [] j b e = absurd (none-some b e)
  end_at trace s (x ∷ es) zero b e =
      ap (λ (w : E). Some (record { end = w; cut = is_cut (reverse trace.events) s })) (same_Some x b e)
      ∙ ap (λ n. Some (record { end = b; cut = is_cut (reverse trace.events) n })) (sym (add-zero s))
  end_at trace s (x ∷ es) (suc j) b e =
      let onward : suc s + j ≡ s + suc j = omega arith in
      end_at trace (suc s) es j b e ∙ ap (λ n. Some (record { end = b; cut = is_cut (reverse trace.events) n })) onward

  unend_at : (trace : Trace) (s : ℕ) (es : List E) (j : ℕ) (z : ClientEnd E) → slice_get (ends_from trace s es) j ≡ Some z → slice_get es j ≡ Some z.end
  unend_at trace s [] j z e = absurd (none-some z e)
  unend_at trace s (x ∷ es) zero z e = ap (λ (w : ClientEnd E). Some w.end) (same_Some (record { end = x; cut = is_cut (reverse trace.events) s }) z e)
  unend_at trace s (x ∷ es) (suc j) z e = unend_at trace (suc s) es j z e

module _ {E : Type 0} (told : E → Told) (faults : E → ℕ) (calm : E → Type 0) (run : Setting) where
  pub own_count : (k s : ℕ) (plan : Plan) (y : PlayerOut E) → HasPlayed told faults calm run k s plan y → length (ends_of y) ≡ sessions_of_plan plan
  own_count k s plan y h = ends_count y.trace y.trace.first y.ends.items ∙ (h.ends.count ∙ h.count)

  pub few_sessions : (k s : ℕ) (plan : Plan) (y : PlayerOut E) → HasPlayed told faults calm run k s plan y → HasFewSessions y
  few_sessions k s plan y h =
      let first = h.trace.first_is in
      let count = h.ends.count ∙ h.count in
      let last = h.last in
      omega (arith, first, count, last)

  pub all_few : (ps : List (PlayerOut E)) → EachClient (HasPlayed told faults calm run) 0 0 run.scenario.clients ps → AllByRecursion HasFewSessions ps
  all_few ps played = each_client_all (HasPlayed told faults calm run) HasFewSessions 0 0 run.scenario.clients ps played few_sessions

  pub of_lock : (s : ℕ) (y : Serviced E) → IsServiced told faults calm run s y → IsOfLock run.lock y
  of_lock s y h = record { own = h.served.same.lock; session = subst IsSome (sym h.served.same.session) refl }

  pub all_of_lock : (ys : List (Serviced E)) → EachPlace (IsServiced told faults calm run) ys → AllByRecursion (IsOfLock run.lock) ys
  all_of_lock ys served = each_all (IsServiced told faults calm run) (IsOfLock run.lock) ys served of_lock

  -- a client's end of session s
  record IsClientEnd (s : ℕ) (z : ClientEnd E) : Type 0 where
    pub pair : (told z.end).pair ≡ run.pairs + s
    pub side : (told z.end).side ≡ Client
    pub calm_is : run.calm → calm z.end

  client_end : (k s : ℕ) (plan : Plan) (y : PlayerOut E) → HasPlayed told faults calm run k s plan y → (j : ℕ) (z : ClientEnd E) → slice_get (ends_of y) j ≡ Some z → IsClientEnd (s + j) z
  client_end k s plan y h j z e =
      let b = unend_at y.trace y.trace.first y.ends.items j z e in
      let within = slice_get_within y.ends.items j z.end b in
      let count = h.ends.count in
      let a = at_place h.before j (omega (arith, within, count)) in
      let new = h.new j a.0 a.1 in
      let done = h.ends.each j a.0 z.end a.1 b in
      record {
        pair = done.pair ∙ ap (λ (t : Told). t.pair) new.told_is;
        side = done.side ∙ ap (λ (t : Told). t.side) new.told_is;
        calm_is = λ q. h.ends.calm_is j a.0 z.end a.1 b (new.calm_is q);
      }

  client_ends : (ps : List (PlayerOut E)) → EachClient (HasPlayed told faults calm run) 0 0 run.scenario.clients ps → (j : ℕ) (z : ClientEnd E) → slice_get (flat_map ends_of ps) j ≡ Some z → IsClientEnd j z
  client_ends ps played j z e =
      subst (λ n. IsClientEnd n z) (zero-add j)
      (flat_each ends_of IsClientEnd 0 0 run.scenario.clients ps
      (each_client_map (HasPlayed told faults calm run) (λ k s plan y. length (ends_of y) ≡ sessions_of_plan plan) 0 0 run.scenario.clients ps played own_count)
      (each_client_map (HasPlayed told faults calm run) (λ k s plan y. EachPlace (λ j. IsClientEnd (s + j)) (ends_of y)) 0 0 run.scenario.clients ps played client_end) j z e)

  pub ends_are_all : (ps : List (PlayerOut E)) → EachClient (HasPlayed told faults calm run) 0 0 run.scenario.clients ps → length (flat_map ends_of ps) ≡ session_count run.scenario
  ends_are_all ps played =
      flat_length ends_of 0 0 run.scenario.clients ps
      (each_client_map (HasPlayed told faults calm run) (λ k s plan y. length (ends_of y) ≡ sessions_of_plan plan) 0 0 run.scenario.clients ps played own_count)

  server_end : (s : ℕ) (y : Serviced E) → IsServiced told faults calm run s y → ((told y.end).pair ≡ run.pairs + s) × ((told y.end).side ≡ Server)
  server_end s y h = (ap (λ (t : Told). t.pair) h.served.told, ap (λ (t : Told). t.side) h.served.told)

  module _ (ys : List (Serviced E)) (ps : List (PlayerOut E)) (count : length ys ≡ session_count run.scenario)
      (served : EachPlace (IsServiced told faults calm run) ys) (played : EachClient (HasPlayed told faults calm run) 0 0 run.scenario.clients ps) where
    abbrev servers : List E
    servers = map (λ (y : Serviced E). y.end) ys

    abbrev clients : List (ClientEnd E)
    clients = flat_map ends_of ps

    pub as_many : length ys ≡ length clients
    as_many = count ∙ sym (ends_are_all ps played)

    same_count : length servers ≡ length clients
    same_count = length-map ys (λ (y : Serviced E). y.end) ∙ as_many

    -- the two ends of each session are a pair
    pub all_pairs : (made : ℕ) → made ≡ run.pairs + session_count run.scenario → AllZip (ArePair told made) servers clients
    all_pairs made made_is =
        zip_from (ArePair told made) servers clients same_count
        (λ s server z es ez. pair_of s server z (unmap_at (λ (y : Serviced E). y.end) ys s server es) ez)
      where
        pair_of : (s : ℕ) (server : E) (z : ClientEnd E) → ((y : Serviced E) × (slice_get ys s ≡ Some y) × (y.end ≡ server)) → slice_get clients s ≡ Some z → ArePair told made server z
        pair_of s server z y ez =
            let own = server_end s y.0 (served s y.0 y.1) in
            let other = client_ends ps played s z ez in
            let within = slice_get_within ys s y.0 y.1 in
            let mine = own.0 in
            subst (λ e. ArePair told made e z) y.2
            (record { same = own.0 ∙ sym other.pair; made_here = omega (arith, within, count, made_is, mine); server_side = own.1; client_side = other.side })

    -- in a calm net all ends are calm
    pub all_calm : run.calm → AllZip (AreCalm calm) servers clients
    all_calm q =
        zip_from (AreCalm calm) servers clients same_count
        (λ s server z es ez.
        let y = unmap_at (λ (w : Serviced E). w.end) ys s server es in
        (subst calm y.2 ((served s y.0 y.1).calm_is q), (client_ends ps played s z ez).calm_is q))

    -- all pairs were made in this run
    pub all_since : AllZip (IsSince told run.pairs) servers clients
    all_since =
        zip_from (IsSince told run.pairs) servers clients same_count
        (λ s server z es ez.
        let y = unmap_at (λ (w : Serviced E). w.end) ys s server es in
        let own = (server_end s y.0 (served s y.0 y.1)).0 in
        subst (λ e. IsSince told run.pairs e z) y.2 (omega (arith, own)))
