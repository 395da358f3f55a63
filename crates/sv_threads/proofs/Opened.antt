-- Opening a run, one thing more at a time.
use Rattle.std.proofs.Common.{◌≡◌, ℕ, suc, ◌+◌, ◌<◌, ◌≤◌, Bool, List, [], ◌∷◌, ◌++◌, map, length, drop, get_or, slice_get, Some, refl, sym, ap, subst, ◌∙◌, add-one, zero-add, arith}
use Rattle.std.specs.List.{flat_map}
use Rattle.std.proofs.lemmas.List.{drop_more, length-map}
use Rattle.sv_world.specs.declared.world.Shape.{Shape}
use Rattle.sv_world.specs.Limits.{most_sessions}
use Rattle.sv_link.specs.Ends.{Told}
use Rattle.sv_link.specs.declared.side.Side.{Side}
use Rattle.sv_link.specs.declared.side.Side.TheVariants.{Server, Client}
use Rattle.sv_threads.specs.Telling.{Telling}
use Rattle.sv_scenario.specs.declared.scenario.Plan.{Plan}
use Rattle.sv_scenario.specs.Sessions.{sessions_of_plan, sessions_in, session_count}
use Rattle.sv_threads.specs.declared.tasks.Service.{Service}
use Rattle.sv_threads.specs.declared.tasks.Part.{Part}
use Rattle.sv_threads.specs.declared.tasks.Task.{Task}
use Rattle.sv_threads.specs.declared.tasks.Task.TheVariants as tasks
use Rattle.sv_threads.specs.declared.gathering.ClientEnd.{ClientEnd}
use Rattle.sv_threads.specs.declared.opening.Entrant.{Entrant}
use Rattle.law_system.specs.Places.{EachPlace}
use Rattle.law_system.proofs.Places.{unmap_at}
use Rattle.sv_threads.specs.Places.{EachClient}
use Rattle.sv_threads.specs.Tasks.{services_of, parts_of}
use Rattle.sv_threads.specs.Given.{Setting, ends_given, IsNewEnd, IsEndOf, IsPartOf, IsPart, IsService}
use Rattle.sv_threads.specs.Opening.{IsEntrant, EachEntrant, HoldsUnused, server_end, uncut}
use Rattle.sv_threads.specs.Pairs.{Pairing}
use Rattle.sv_threads.proofs.Places.{each_client_map, each_client_both, flat_length, flat_place, flat_each}

module _ {E G W : Type 0} where
  pub services_more : (ts : List (Task E G W)) (x : Service E G) → services_of (ts ++ tasks.Serve x ∷ []) ≡ services_of ts ++ x ∷ []
  services_more [] x = refl
  services_more (tasks.Serve y ∷ ts) x = ap (λ (l : List (Service E G)). y ∷ l) (services_more ts x)
  services_more (tasks.Play y ∷ ts) x = services_more ts x

  pub services_same : (ts : List (Task E G W)) (x : Part E W) → services_of (ts ++ tasks.Play x ∷ []) ≡ services_of ts
  services_same [] x = refl
  services_same (tasks.Serve y ∷ ts) x = ap (λ (l : List (Service E G)). y ∷ l) (services_same ts x)
  services_same (tasks.Play y ∷ ts) x = services_same ts x

  pub parts_same : (ts : List (Task E G W)) (x : Service E G) → parts_of (ts ++ tasks.Serve x ∷ []) ≡ parts_of ts
  parts_same [] x = refl
  parts_same (tasks.Serve y ∷ ts) x = parts_same ts x
  parts_same (tasks.Play y ∷ ts) x = ap (λ (l : List (Part E W)). y ∷ l) (parts_same ts x)

  pub parts_more : (ts : List (Task E G W)) (x : Part E W) → parts_of (ts ++ tasks.Play x ∷ []) ≡ parts_of ts ++ x ∷ []
  parts_more [] x = refl
  parts_more (tasks.Serve y ∷ ts) x = parts_more ts x
  parts_more (tasks.Play y ∷ ts) x = ap (λ (l : List (Part E W)). y ∷ l) (parts_more ts x)

-- ---- Clients

pub next_plan : (plans : List Plan) (i : ℕ) (plan : Plan) → i < length plans → plan ≡ get_or plans i plan → drop i plans ≡ plan ∷ drop (i + 1) plans
next_plan plans i plan low is = drop_more plans i plan low ∙ ap (λ (x : Plan). x ∷ drop (i + 1) plans) (sym is)

pub sessions_next : (plans : List Plan) (i : ℕ) (plan : Plan) → i < length plans → plan ≡ get_or plans i plan → sessions_in (drop i plans) ≡ sessions_of_plan plan + sessions_in (drop (i + 1) plans)
sessions_next plans i plan low is = ap sessions_in (next_plan plans i plan low is)

module _ {X : Type 0} (P : ℕ → ℕ → Plan → X → Type 0) where
  pub one_more : (k s i : ℕ) (plans : List Plan) (plan : Plan) (x : X) (more : List X) → i < length plans → plan ≡ get_or plans i plan → P k s plan x →
      EachClient P (k + 1) (s + sessions_of_plan plan) (drop (i + 1) plans) more → EachClient P k s (drop i plans) (x ∷ more)
  one_more k s i plans plan x more low is here rest =
      subst (λ (l : List Plan). EachClient P k s l (x ∷ more)) (sym (next_plan plans i plan low is))
      (here, subst (λ n. EachClient P n (s + sessions_of_plan plan) (drop (i + 1) plans) more) (add-one k) rest)

-- ---- Before any pair is made

module _ {E : Type 0} (shape : Shape) where
  pub entrants_more : (k i : ℕ) (plans : List Plan) (plan : Plan) (x : Entrant E) (more : List (Entrant E)) → i < length plans → plan ≡ get_or plans i plan → IsEntrant shape k plan x →
      EachEntrant shape (k + 1) (drop (i + 1) plans) more → EachEntrant shape k (drop i plans) (x ∷ more)
  entrants_more k i plans plan x more low is here rest =
      subst (λ (l : List Plan). EachEntrant shape k l (x ∷ more)) (sym (next_plan plans i plan low is))
      (here, subst (λ n. EachEntrant shape n (drop (i + 1) plans) more) (add-one k) rest)

  pub entrants_next : (k i : ℕ) (plans : List Plan) (plan : Plan) (x : Entrant E) (xs : List (Entrant E)) → i < length plans → plan ≡ get_or plans i plan → EachEntrant shape k (drop i plans) (x ∷ xs) →
      IsEntrant shape k plan x × EachEntrant shape (k + 1) (drop (i + 1) plans) xs
  entrants_next k i plans plan x xs low is all =
      let both = subst (λ (l : List Plan). EachEntrant shape k l (x ∷ xs)) (next_plan plans i plan low is) all in
      (both.0, subst (λ n. EachEntrant shape n (drop (i + 1) plans) xs) (sym (add-one k)) both.1)

  pub entrants_count : (k : ℕ) (plans : List Plan) (xs : List (Entrant E)) → EachEntrant shape k plans xs → length xs ≡ length plans
  entrants_count k [] [] all = refl
  entrants_count k [] (x ∷ xs) all = absurd all
  entrants_count k (plan ∷ plans) [] all = absurd all
  entrants_count k (plan ∷ plans) (x ∷ xs) all = let rest = entrants_count (suc k) plans xs all.1 in omega (arith, rest)

module _ {E W : Type 0} (telling_of : W → Telling) (shape : Shape) where
  pub part_is : (watched : Bool) (k s : ℕ) (plan : Plan) (entrant : Entrant E) (x : Part E W) (teller : W) → IsEntrant shape k plan entrant → x.client ≡ entrant.client → x.script.now ≡ plan.steps → x.first ≡ s →
      x.teller.now ≡ teller → (telling_of teller).shape ≡ shape → (telling_of teller).watched ≡ watched → length x.ends.items ≡ sessions_of_plan plan → s + sessions_of_plan plan ≤ most_sessions →
      IsPartOf telling_of shape watched k s plan x
  part_is watched k s plan entrant x teller is client script first same fits watches count last =
      record {
        client = client ∙ is.client;
        script = script;
        first = first;
        teller = ap (λ (w : W). (telling_of w).shape) same ∙ fits;
        watched_is = ap (λ (w : W). (telling_of w).watched) same ∙ watches;
        count = count;
        number = is.number;
        good = is.good;
        last = last;
      }

-- ---- Ends that nobody used

module _ {E G : Type 0} (told : E → Told) (faults : E → ℕ) (calm : E → Type 0) (run : Setting) where
  pub unused_held : (services : List (Service E G)) (ends : List E) (old now : Pairing) (servers : List E) (clients : List (ClientEnd E)) → EachPlace (IsService told faults calm run) services →
      EachPlace (IsEndOf told faults calm run Client) ends → length ends ≡ length services → servers ≡ map server_end services → clients ≡ map uncut ends → run.pairs ≡ old.made →
      now.settled ≡ old.settled → now.unmatched ≡ old.unmatched → now.made ≡ old.made + length services → now.owed ≡ old.owed + length services →
      HoldsUnused told faults calm run.calm old now servers clients
  unused_held services ends old now servers clients each_service each_end same at_servers at_clients pairs settled unmatched made owed =
      let long = ap length at_servers ∙ length-map services server_end in
      record {
        as_many = long ∙ (sym same ∙ (sym (length-map ends uncut) ∙ ap length (sym at_clients)));
        at_servers = λ s e at.
            let x = unmap_at server_end services s e (ap (λ (l : List E). slice_get l s) (sym at_servers) ∙ at) in
            subst (IsNewEnd told faults calm run.calm Server (old.made + s)) x.2 (subst (λ n. IsNewEnd told faults calm run.calm Server (n + s) x.0.end) pairs (each_service s x.0 x.1).end);
        at_clients = λ s z at.
            let x = unmap_at uncut ends s z (ap (λ (l : List (ClientEnd E)). slice_get l s) (sym at_clients) ∙ at) in
            subst (λ (w : ClientEnd E). IsNewEnd told faults calm run.calm Client (old.made + s) w.end) x.2 (subst (λ n. IsNewEnd told faults calm run.calm Client (n + s) x.0) pairs (each_end s x.0 x.1));
        settled = settled;
        unmatched = unmatched;
        made = made ∙ ap (λ n. old.made + n) (sym long);
        owed = owed ∙ ap (λ n. old.owed + n) (sym long);
      }

-- each client's ends are those of its sessions
module _ {E : Type 0} (told : E → Told) (faults : E → ℕ) (calm : E → Type 0) (run : Setting) where
  pub new_end_as : (P Q : Type 0) (side : Side) (m n : ℕ) (e : E) → (Q → P) → m ≡ n → IsNewEnd told faults calm P side m e → IsNewEnd told faults calm Q side n e
  new_end_as P Q side m n e f same new =
      subst (λ k. IsNewEnd told faults calm Q side k e) same (record { told_is = new.told_is; faultless = new.faultless; calm_is = λ q. new.calm_is (f q) })

  pub parts_over : {W : Type 0} (telling_of : W → Telling) (ends : List E) (xs : List (Part E W)) → flat_map ends_given xs ≡ ends → EachPlace (IsEndOf told faults calm run Client) ends →
      EachClient (IsPartOf telling_of run.scenario.world.shape run.watched) 0 0 run.scenario.clients xs → EachClient (IsPart told faults calm telling_of run) 0 0 run.scenario.clients xs
  parts_over telling_of ends xs are each parts =
      each_client_both (IsPartOf telling_of run.scenario.world.shape run.watched) (λ k s plan x. (j : ℕ) (e : E) → slice_get (ends_given x) j ≡ Some e → slice_get ends (s + j) ≡ Some e) (IsPart told faults calm telling_of run)
      0 0 run.scenario.clients xs parts
      (flat_place ends_given ends 0 0 run.scenario.clients xs [] refl (sym are)
      (each_client_map (IsPartOf telling_of run.scenario.world.shape run.watched) (λ k s plan x. length (ends_given x) ≡ sessions_of_plan plan) 0 0 run.scenario.clients xs parts (λ k s plan x p. p.count)))
      (λ k s plan x p there. record { part = p; ends = λ j e at. each (s + j) e (there j e at) })

module _ {E G W : Type 0} (told : E → Told) (faults : E → ℕ) (calm : E → Type 0) (telling_of : W → Telling) (run : Setting) (ts : List (Task E G W))
    (parts : EachClient (IsPart told faults calm telling_of run) 0 0 run.scenario.clients (parts_of ts)) where
  own_ends : EachClient (λ k s plan x. length (ends_given x) ≡ sessions_of_plan plan) 0 0 run.scenario.clients (parts_of ts)
  own_ends =
      each_client_map (IsPart told faults calm telling_of run) (λ k s plan x. length (ends_given x) ≡ sessions_of_plan plan) 0 0 run.scenario.clients (parts_of ts) parts
      (λ k s plan x p. p.part.count)

  pub given_count : length (flat_map ends_given (parts_of ts)) ≡ session_count run.scenario
  given_count = flat_length ends_given 0 0 run.scenario.clients (parts_of ts) own_ends

  pub given_each : EachPlace (IsEndOf told faults calm run Client) (flat_map ends_given (parts_of ts))
  given_each = λ j e at.
      subst (λ n. IsEndOf told faults calm run Client n e) (zero-add j)
      (flat_each ends_given (IsEndOf told faults calm run Client) 0 0 run.scenario.clients (parts_of ts) own_ends
      (each_client_map (IsPart told faults calm telling_of run) (λ k s plan x. EachPlace (λ j. IsEndOf told faults calm run Client (s + j)) (ends_given x)) 0 0 run.scenario.clients (parts_of ts) parts
      (λ k s plan x p. p.ends)) j e at)
