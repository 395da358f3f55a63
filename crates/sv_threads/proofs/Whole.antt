-- A run whose tasks had memory and whose pairs matched, as the laws of threaded play see it.
use Rattle.std.proofs.Common.{◌≡◌, ◌≢◌, ℕ, zero, suc, ◌+◌, ◌<◌, Bool, false, List, [], ◌∷◌, ◌++◌, map, length, reverse, slice_get, Some, inl, inr, ◌⊎◌, refl, sym, ap, subst, ◌∙◌, arith, zero-add}
use Rattle.std.specs.Prelude.{Contains, Option, unwrap_or}
use Rattle.std.specs.List.{AllByRecursion, AllZip, flat_map, range_with_len}
use Rattle.std.proofs.lemmas.List.Elements.{All-from_recursion, recursion_from_All}
use Rattle.std.proofs.lemmas.List.FromFn.{length-range_with_len, get_or-range_with_len}
use Rattle.std.proofs.lemmas.Option.{none-some, same_Some, slice_get_within}
use mathlib.Core.List.{IsPrefix}
use Rattle.sv_link.specs.Ends.{Told}
use Rattle.sv_link.specs.Nets.{Transcript, counted}
use Rattle.sv_journal.specs.declared.entry.Entry.{Entry}
use Rattle.sv_journal.specs.Answer.{Legal}
use Rattle.sv_lock.specs.Histories.{entries_of, AreJust, AreBelow}
use Rattle.sv_lock.specs.Passes.{session_number}
use Rattle.sv_client.specs.declared.trace.Trace.{Trace}
use Rattle.sv_client.specs.Proper.{Proper}
use Rattle.sv_scenario.specs.declared.scenario.Plan.{Plan}
use Rattle.sv_scenario.specs.Sessions.{sessions_of_plan, session_count}
use Rattle.sv_script.specs.Following.{Follows, FollowsToEnd}
use Rattle.sv_session.specs.declared.outcome.SessionOut.{SessionOut}
use Rattle.sv_session.specs.declared.outcome.SessionOut.TheVariants as session_outs
use Rattle.law_system.specs.Records.{rules_of, AreTracesOf, EachTrace}
use Rattle.sv_player.specs.Awaiting.{WaitsWhereNeeded}
use Rattle.sv_player.specs.Stops.{is_cut}
use Rattle.sv_player.specs.Played.{SentAll, IsCause, lines_told}
use Rattle.sv_player.specs.declared.outcome.PlayerOut.{PlayerOut}
use Rattle.sv_player.specs.declared.outcome.PlayerCause.{PlayerCause}
use Rattle.sv_player.specs.declared.outcome.PlayerCause.TheVariants as causes
use Rattle.law_system.proofs.Every.{each-at, each-map}
use Rattle.law_system.specs.Places.{EachPlace}
use Rattle.law_system.proofs.Places.{at_place, map_at}
use Rattle.law_traffic.specs.Sessions.{Over, transcript, IsSessionServed, IsSessionDone}
use Rattle.law_traffic.specs.Stuck.{IsStopped}
use Rattle.law_traffic.specs.Runs.{EachSession, IsRun, EndOrAreStopped}
use Rattle.sv_threads.specs.declared.tasks.Serviced.{Serviced}
use Rattle.sv_threads.specs.declared.gathering.ClientEnd.{ClientEnd}
use Rattle.sv_threads.specs.Places.{EachClient}
use Rattle.sv_threads.specs.Given.{Setting, pass_of}
use Rattle.sv_threads.specs.RunRemains.{own_of, is_memory, is_unplayed, ends_of, over_of, overs_of, transcripts_of, EndsAgree, IsServiced, HasPlayed}
use Rattle.sv_threads.proofs.Places.{zip_at, each_client_map, each_client_both, each_client_with, each_client_all, each_client_trace, flat_place}
use Rattle.sv_threads.proofs.Leaving.{end_at, own_count}

-- ---- Sessions that are over

module _ {E : Type 0} (told : E → Told) (faults : E → ℕ) where
  overs_at : (ys : List (Serviced E)) (zs : List (ClientEnd E)) (k : ℕ) (y : Serviced E) (z : ClientEnd E) → slice_get ys k ≡ Some y → slice_get zs k ≡ Some z →
      slice_get (overs_of told faults ys zs) k ≡ Some (over_of told faults y z)
  overs_at [] zs k y z ey ez = absurd (none-some y ey)
  overs_at (a ∷ ys) [] k y z ey ez = absurd (none-some z ez)
  overs_at (a ∷ ys) (b ∷ zs) zero y z ey ez = ap (λ w. Some (over_of told faults w b)) (same_Some a y ey) ∙ ap (λ w. Some (over_of told faults y w)) (same_Some b z ez)
  overs_at (a ∷ ys) (b ∷ zs) (suc k) y z ey ez = overs_at ys zs k y z ey ez

  overs_count : (ys : List (Serviced E)) (zs : List (ClientEnd E)) → length ys ≡ length zs → length (overs_of told faults ys zs) ≡ length ys
  overs_count [] zs same = refl
  overs_count (y ∷ ys) [] same = absurd (omega (arith, same))
  overs_count (y ∷ ys) (z ∷ zs) same = let rest = overs_count ys zs (omega (arith, same)) in omega (arith, rest)

  pub transcripts_are : (ys : List (Serviced E)) (zs : List (ClientEnd E)) → map transcript (overs_of told faults ys zs) ≡ transcripts_of told faults (map (λ (y : Serviced E). y.end) ys) zs
  transcripts_are [] zs = refl
  transcripts_are (y ∷ ys) [] = refl
  transcripts_are (y ∷ ys) (z ∷ zs) = ap (λ (l : List Transcript). transcript (over_of told faults y z) ∷ l) (transcripts_are ys zs)

-- ---- What the keeper took in

module _ {E : Type 0} where
  pub numbers_are : (s : ℕ) (ys : List (Serviced E)) → EachPlace (λ k y. session_number y.pass ≡ s + k) ys → map (λ (x : ℕ × List Entry). x.0) (map own_of ys) ≡ range_with_len s (length ys)
  numbers_are s [] each = refl
  numbers_are s (y ∷ ys) each =
      ap (λ n. n ∷ map (λ (x : ℕ × List Entry). x.0) (map own_of ys)) (each 0 y refl ∙ omega arith)
      ∙ ap (λ (l : List ℕ). s ∷ l) (numbers_are (s + 1) ys (λ k x e. each (suc k) x e ∙ omega arith))

pub in_range : (m n : ℕ) → n < m → Contains (range_with_len 0 m) n
in_range m n low = (n, subst (λ l. n < l) (sym (length-range_with_len 0 m)) low, get_or-range_with_len 0 m n n low ∙ zero-add n)

not_memory : (out : SessionOut) → is_memory out ≡ false → out ≢ session_outs.Memory
not_memory session_outs.Memory none same = cc
not_memory session_outs.Left none same = cc
not_memory session_outs.Closed none same = cc
not_memory session_outs.Ended none same = cc
not_memory session_outs.Malformed none same = cc
not_memory session_outs.Spent none same = cc
not_memory session_outs.LinkFault none same = cc

module _ {E : Type 0} (told : E → Told) (faults : E → ℕ) (calm : E → Type 0) (run : Setting) where
  pub number_of : (s : ℕ) (y : Serviced E) → IsServiced told faults calm run s y → session_number y.pass ≡ s
  number_of s y h = ap (λ (o : Option ℕ). unwrap_or o 0) h.served.same.session

  -- The journal has, of each session, just its pass's entries.
  just_at : (J : List Entry) (ys : List (Serviced E)) → EachPlace (IsServiced told faults calm run) ys → AreJust (λ (e : Entry). e.session) J (map own_of ys) →
      (s : ℕ) (y : Serviced E) → slice_get ys s ≡ Some y → entries_of (λ (e : Entry). e.session) s J ≡ y.pass.mine
  just_at J ys served just s y e =
      let own = each-at (λ (x : ℕ × List Entry). entries_of (λ (e : Entry). e.session) x.0 J ≡ x.1) (map own_of ys) s (own_of y)
      (recursion_from_All (λ (x : ℕ × List Entry). entries_of (λ (e : Entry). e.session) x.0 J ≡ x.1) (map own_of ys) just) (map_at own_of ys s y e) in
      subst (λ n. entries_of (λ (e : Entry). e.session) n J ≡ y.pass.mine) (number_of s y (served s y e)) own

  -- Where all had memory, each session was served by its loop.
  pub session_served : (J : List Entry) (ys : List (Serviced E)) → EachPlace (IsServiced told faults calm run) ys → AllByRecursion (λ (y : Serviced E). is_memory y.out ≡ false) ys →
      AllByRecursion (λ (y : Serviced E). IsPrefix y.pass.seen J) ys → AreJust (λ (e : Entry). e.session) J (map own_of ys) →
      (s : ℕ) (y : Serviced E) → slice_get ys s ≡ Some y → IsSessionServed J s y.out (told y.end) (faults y.end)
  session_served J ys served with_memory seen just s y e =
      let h = served s y e in
      record {
        pair = run.pairs + s;
        before = pass_of s run.lock run.scenario;
        after = y.pass;
        new = refl;
        number = refl;
        served = h.served;
        cause = h.cause;
        memory = not_memory y.out (each-at (λ (x : Serviced E). is_memory x.out ≡ false) ys s y with_memory e);
        seen = each-at (λ (x : Serviced E). IsPrefix x.pass.seen J) ys s y seen e;
        just = just_at J ys served just s y e;
      }

  -- ---- The run

  module _ (J : List Entry) (ys : List (Serviced E)) (ps : List (PlayerOut E))
      (served : EachPlace (IsServiced told faults calm run) ys) (count : length ys ≡ session_count run.scenario)
      (played : EachClient (HasPlayed told faults calm run) 0 0 run.scenario.clients ps)
      (served_with : AllByRecursion (λ (y : Serviced E). is_memory y.out ≡ false) ys)
      (played_with : AllByRecursion (λ (y : PlayerOut E). is_unplayed y.cause ≡ false) ps)
      (agree : AllZip (EndsAgree told faults) (map (λ (y : Serviced E). y.end) ys) (flat_map ends_of ps))
      (seen : AllByRecursion (λ (y : Serviced E). IsPrefix y.pass.seen J) ys)
      (just : AreJust (λ (e : Entry). e.session) J (map own_of ys))
      (same_count : length ys ≡ length (flat_map ends_of ps)) where
    abbrev ends : List (ClientEnd E)
    ends = flat_map ends_of ps

    abbrev pub overs : List Over
    overs = overs_of told faults ys ends

    abbrev Ls : List Trace
    Ls = map (λ (y : PlayerOut E). y.trace) ps

    -- ---- One client

    abbrev AreThere : ℕ → ℕ → Plan → PlayerOut E → Type 0
    AreThere k s plan y = (j : ℕ) (z : ClientEnd E) → slice_get (ends_of y) j ≡ Some z → slice_get ends (s + j) ≡ Some z

    all_there : EachClient AreThere 0 0 run.scenario.clients ps
    all_there =
        flat_place ends_of ends 0 0 run.scenario.clients ps [] refl refl
        (each_client_map (HasPlayed told faults calm run) (λ k s plan y. length (ends_of y) ≡ sessions_of_plan plan) 0 0 run.scenario.clients ps played (own_count told faults calm run))

    -- A client that played, whose ends stand in their places, and that had memory.
    record HasDone (k s : ℕ) (plan : Plan) (y : PlayerOut E) : Type 0 where
      pub played_is : HasPlayed told faults calm run k s plan y
      pub there : AreThere k s plan y
      pub with_memory : is_unplayed y.cause ≡ false

    all_done : EachClient HasDone 0 0 run.scenario.clients ps
    all_done =
        each_client_with (λ k s plan y. HasPlayed told faults calm run k s plan y × AreThere k s plan y) (λ (y : PlayerOut E). is_unplayed y.cause ≡ false) HasDone 0 0 run.scenario.clients ps
        (each_client_both (HasPlayed told faults calm run) AreThere (λ k s plan y. HasPlayed told faults calm run k s plan y × AreThere k s plan y) 0 0 run.scenario.clients ps played all_there
        (λ k s plan y h t. (h, t)))
        played_with (λ k s plan y both m. record { played_is = both.0; there = both.1; with_memory = m })

    module _ (k s : ℕ) (plan : Plan) (p : PlayerOut E) (h : HasDone k s plan p) where
      -- session s + j: its ends and its loop
      record At (j : ℕ) (b : E) : Type 0 where
        pub before : E
        pub was : slice_get h.played_is.before j ≡ Some before
        pub server : Serviced E
        pub server_at : slice_get ys (s + j) ≡ Some server
        pub cut : Bool
        pub cut_is : cut ≡ is_cut (reverse p.trace.events) (s + j)
        pub client_at : slice_get ends (s + j) ≡ Some (record { end = b; cut = cut })
        pub agrees : EndsAgree told faults server.end (record { end = b; cut = cut })

      at : (j : ℕ) (b : E) → slice_get p.ends.items j ≡ Some b → At j b
      at j b e =
          let within = slice_get_within p.ends.items j b e in
          let count = h.played_is.ends.count in
          let a = at_place h.played_is.before j (omega (arith, within, count)) in
          let cut = is_cut (reverse p.trace.events) (p.trace.first + j) in
          let z : ClientEnd E = record { end = b; cut = cut } in
          let there : slice_get ends (s + j) ≡ Some z = h.there j z (end_at p.trace p.trace.first p.ends.items j b e) in
          let low = slice_get_within ends (s + j) z there in
          let y = at_place ys (s + j) (omega (arith, low, same_count)) in
          record {
            before = a.0;
            was = a.1;
            server = y.0;
            server_at = y.1;
            cut = cut;
            cut_is = ap (λ n. is_cut (reverse p.trace.events) (n + j)) h.played_is.trace.first_is;
            client_at = there;
            agrees = zip_at (EndsAgree told faults) (map (λ (w : Serviced E). w.end) ys) ends (s + j) y.0.end z agree (map_at (λ (w : Serviced E). w.end) ys (s + j) y.0 y.1) there;
          }

      abbrev over_at : (j : ℕ) (b : E) → slice_get p.ends.items j ≡ Some b → (x : Over) × (slice_get overs (s + j) ≡ Some x) × (x.client ≡ told b)
      over_at j b e =
          let t = at j b e in
          let z : ClientEnd E = record { end = b; cut = t.cut } in
          (over_of told faults t.server z, overs_at told faults ys ends (s + j) t.server z t.server_at t.client_at, refl)

      -- no fault is counted at the end of an open session
      quiet : (j : ℕ) (b : E) → slice_get p.ends.items j ≡ Some b → is_cut (reverse p.trace.events) (s + j) ≡ false → faults b ≡ 0
      quiet j b e uncut =
          let t = at j b e in
          let none : faults t.server.end + faults b ≡ 0 = sym (ap (λ c. counted c (faults t.server.end) (faults b)) (t.cut_is ∙ uncut)) ∙ t.agrees.faultless in
          omega (arith, none)

      no_fault : (c : PlayerCause) → IsCause told faults calm run.scenario.world.shape p.trace s h.played_is.before p.ends.items c → c ≢ causes.LinkFault
      no_fault causes.Finished shown same = cc
      no_fault causes.Quit shown same = cc
      no_fault causes.LinkFault shown same =
          let none = quiet shown.place shown.after shown.is shown.session.open_is in
          let rose = shown.rose in
          absurd (omega (arith, none, rose))
      no_fault causes.Closed shown same = cc
      no_fault (causes.BadReply session payload fault) shown same = cc
      no_fault causes.Memory shown same = cc

      has_memory : (c : PlayerCause) → is_unplayed c ≡ false → c ≢ causes.Memory
      has_memory causes.Finished none same = cc
      has_memory causes.Quit none same = cc
      has_memory causes.LinkFault none same = cc
      has_memory causes.Closed none same = cc
      has_memory (causes.BadReply session payload fault) none same = cc
      has_memory causes.Memory none same = cc

      done_at : (j : ℕ) → j < sessions_of_plan plan → (x : Over) × ((slice_get overs (s + j) ≡ Some x) × IsSessionDone J p.trace (s + j) x)
      done_at j low =
          let old = h.played_is.count in
          let new = h.played_is.ends.count in
          let b = at_place p.ends.items j (omega (arith, low, old, new)) in
          let t = at j b.0 b.1 in
          let z : ClientEnd E = record { end = b.0; cut = t.cut } in
          let d = h.played_is.ends.each j t.before b.0 t.was b.1 in
          let whole : SentAll p.cause = record { link = no_fault p.cause h.played_is.cause; memory = has_memory p.cause h.with_memory } in (
            over_of told faults t.server z,
            (
              overs_at told faults ys ends (s + j) t.server z t.server_at t.client_at,
              record {
                served = session_served J ys served served_with seen just (s + j) t.server t.server_at;
                carried = record { sent = d.whole whole; messages = d.messages whole; rest = d.rest; received = d.received };
                settled =
                    record {
                      arrived = t.agrees.arrived;
                      faultless = ap (λ c. counted c (faults t.server.end) (faults b.0)) (sym t.cut_is) ∙ t.agrees.faultless;
                    };
              },
            ),
          )

      client_done : EachSession (IsSessionDone J p.trace) overs plan p.trace
      client_done =
          subst (λ m. (n : ℕ) → n < sessions_of_plan plan → (x : Over) × ((slice_get overs (m + n) ≡ Some x) × IsSessionDone J p.trace (m + n) x)) (sym h.played_is.trace.first_is) done_at

      client_ends : (c : PlayerCause) → p.cause ≡ c → IsCause told faults calm run.scenario.world.shape p.trace s h.played_is.before p.ends.items c →
          FollowsToEnd run.scenario.world.shape plan.steps p.trace ⊎ IsStopped run.scenario.world.shape p.trace overs
      client_ends causes.Finished is shown = inl (h.played_is.follows.finished is)
      client_ends causes.Quit is shown = inl (h.played_is.follows.quit is)
      client_ends causes.LinkFault is shown = absurd (no_fault causes.LinkFault shown refl)
      client_ends causes.Closed is shown =
          let x = over_at shown.place shown.after shown.is in
          inr (record { session = s + shown.place; over = x.0; there = x.1; open_is = shown.session; how = inl shown.shows })
      client_ends (causes.BadReply session payload fault) is shown =
          let x = over_at shown.place shown.after shown.is in
          inr (record { session = s + shown.place; over = x.0; there = x.1; open_is = shown.session; how = inr (record { payload = payload.items; fault = fault; bad = shown.shows.1 }) })
      client_ends causes.Memory is shown = absurd (has_memory p.cause h.with_memory is)

    -- ---- All clients

    traces_are : (k s : ℕ) (plans : List Plan) (qs : List (PlayerOut E)) → EachClient (HasPlayed told faults calm run) k s plans qs → AreTracesOf k s plans (map (λ (y : PlayerOut E). y.trace) qs)
    traces_are k s [] [] all = tt
    traces_are k s [] (q ∷ qs) all = absurd all
    traces_are k s (plan ∷ plans) [] all = absurd all
    traces_are k s (plan ∷ plans) (q ∷ qs) all =
        (all.0.trace.client_is, all.0.trace.interest, all.0.trace.first_is, traces_are (suc k) (s + sessions_of_plan plan) plans qs all.1)

    pub is_run : Legal (rules_of run.scenario) (reverse J) → AreBelow (λ (e : Entry). e.session) (session_count run.scenario) J → IsRun run.scenario J Ls overs
    is_run legal below =
        record {
          legal = legal;
          below = below;
          clients = traces_are 0 0 run.scenario.clients ps played;
          proper =
              All-from_recursion (Proper run.scenario.world.shape) Ls
              (each-map (λ (y : PlayerOut E). y.trace) (Proper run.scenario.world.shape) ps
              (each_client_all (HasPlayed told faults calm run) (λ (y : PlayerOut E). Proper run.scenario.world.shape y.trace) 0 0 run.scenario.clients ps played (λ k s plan y h. h.trace.proper)));
          follows =
              each_client_trace (HasPlayed told faults calm run) (λ plan L. Follows run.scenario.world.shape plan.steps L) (λ (y : PlayerOut E). y.trace) 0 0 run.scenario.clients ps played
              (λ k s plan y h. h.follows.follows);
          count = overs_count told faults ys ends same_count ∙ count;
          done =
              each_client_trace HasDone (λ plan L. EachSession (IsSessionDone J L) overs plan L) (λ (y : PlayerOut E). y.trace) 0 0 run.scenario.clients ps all_done client_done;
        }

    pub all_end : EndOrAreStopped run.scenario Ls overs
    all_end =
        each_client_trace HasDone (λ plan L. FollowsToEnd run.scenario.world.shape plan.steps L ⊎ IsStopped run.scenario.world.shape L overs) (λ (y : PlayerOut E). y.trace) 0 0 run.scenario.clients ps all_done
        (λ k s plan y h. client_ends k s plan y h y.cause refl h.played_is.cause)

    pub all_awaited : EachTrace (λ plan L. WaitsWhereNeeded run.scenario.world.shape plan.steps L) run.scenario.clients Ls
    all_awaited =
        each_client_trace (HasPlayed told faults calm run) (λ plan L. WaitsWhereNeeded run.scenario.world.shape plan.steps L) (λ (y : PlayerOut E). y.trace) 0 0 run.scenario.clients ps played
        (λ k s plan y h. h.follows.awaited)

    lines_of : (qs : List (PlayerOut E)) → AllByRecursion (λ (y : PlayerOut E). y.lines.items ≡ lines_told run.watched y.trace) qs →
        flat_map (λ (y : PlayerOut E). y.lines.items) qs ≡ flat_map (lines_told run.watched) (map (λ (y : PlayerOut E). y.trace) qs)
    lines_of [] all = refl
    lines_of (q ∷ qs) all =
        ap (λ (l : List (List ℕ)). l ++ flat_map (λ (y : PlayerOut E). y.lines.items) qs) all.0 ∙ ap (λ (l : List (List ℕ)). lines_told run.watched q.trace ++ l) (lines_of qs all.1)

    pub lines_are : flat_map (λ (y : PlayerOut E). y.lines.items) ps ≡ flat_map (lines_told run.watched) Ls
    lines_are =
        lines_of ps
        (each_client_all HasDone (λ (y : PlayerOut E). y.lines.items ≡ lines_told run.watched y.trace) 0 0 run.scenario.clients ps all_done
        (λ k s plan y h. h.played_is.lines (has_memory k s plan y h y.cause h.with_memory)))
