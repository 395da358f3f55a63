-- One task's out more.
use Rattle.std.proofs.Common.{◌≡◌, ℕ, false, ◌||◌, List, [], ◌∷◌, ◌++◌, map, refl, sym, ap, subst, ◌∙◌, append_assoc, append-nil, arith}
use Rattle.std.specs.List.{AllByRecursion, flat_map, list_any}
use Rattle.std.proofs.lemmas.List.Folds.{list_any-append}
use Rattle.std.proofs.lemmas.List.{map-append}
use Rattle.std.proofs.lemmas.List.Concat.{flat_map-append}
use Rattle.std.proofs.Math.Bool.{or-false}
use Rattle.std.proofs.lemmas.Bool.{or_parts}
use mathlib.Core.List.{IsPrefix}
use Rattle.sv_journal.specs.declared.entry.Entry.{Entry}
use Rattle.sv_lock.proofs.Histories.{prefix_trans}
use Rattle.sv_client.specs.declared.trace.Trace.{Trace}
use Rattle.sv_session.specs.Serving.{SessionPass}
use Rattle.sv_player.specs.declared.outcome.PlayerOut.{PlayerOut}
use Rattle.law_system.proofs.Every.{each-push}
use Rattle.sv_threads.specs.declared.tasks.Serviced.{Serviced}
use Rattle.sv_threads.specs.declared.tasks.TaskOut.{TaskOut}
use Rattle.sv_threads.specs.declared.tasks.TaskOut.TheVariants as outs
use Rattle.sv_threads.specs.declared.gathering.ClientEnd.{ClientEnd}
use Rattle.sv_threads.specs.declared.gathering.RunRemains.{RunRemains}
use Rattle.sv_threads.specs.Tasks.{serviced_of, played_of}
use Rattle.sv_threads.specs.RunRemains.{own_of, ends_of, is_memory, is_unplayed, is_lacking, Gathered, KeeperKnows, JoinedPasses}

module _ {E : Type 0} where
  served_more : (os : List (TaskOut E)) (y : Serviced E) → serviced_of (os ++ outs.Served y ∷ []) ≡ serviced_of os ++ y ∷ []
  served_more [] y = refl
  served_more (outs.Served x ∷ os) y = ap (λ (l : List (Serviced E)). x ∷ l) (served_more os y)
  served_more (outs.Played x ∷ os) y = served_more os y

  served_same : (os : List (TaskOut E)) (y : PlayerOut E) → serviced_of (os ++ outs.Played y ∷ []) ≡ serviced_of os
  served_same [] y = refl
  served_same (outs.Served x ∷ os) y = ap (λ (l : List (Serviced E)). x ∷ l) (served_same os y)
  served_same (outs.Played x ∷ os) y = served_same os y

  played_same : (os : List (TaskOut E)) (y : Serviced E) → played_of (os ++ outs.Served y ∷ []) ≡ played_of os
  played_same [] y = refl
  played_same (outs.Served x ∷ os) y = played_same os y
  played_same (outs.Played x ∷ os) y = ap (λ (l : List (PlayerOut E)). x ∷ l) (played_same os y)

  played_more : (os : List (TaskOut E)) (y : PlayerOut E) → played_of (os ++ outs.Played y ∷ []) ≡ played_of os ++ y ∷ []
  played_more [] y = refl
  played_more (outs.Served x ∷ os) y = played_more os y
  played_more (outs.Played x ∷ os) y = ap (λ (l : List (PlayerOut E)). x ∷ l) (played_more os y)

  lacking_more : (os : List (TaskOut E)) (o : TaskOut E) (a b : RunRemains E) → a.lacked ≡ list_any is_lacking os → b.lacked ≡ (a.lacked || is_lacking o) → b.lacked ≡ list_any is_lacking (os ++ o ∷ [])
  lacking_more os o a b was now =
      now
      ∙ (ap (λ l. l || is_lacking o) was
      ∙ sym (list_any-append is_lacking os (o ∷ []) ∙ ap (λ l. list_any is_lacking os || l) (or-false (is_lacking o))))

  pub gathered_server : (os : List (TaskOut E)) (y : Serviced E) (a b : RunRemains E) → Gathered os a → b.servers.items ≡ a.servers.items ++ y.end ∷ [] → b.lacked ≡ (a.lacked || is_memory y.out) →
      b.clients.items ≡ a.clients.items → b.traces.items ≡ a.traces.items → b.lines.items ≡ a.lines.items → Gathered (os ++ outs.Served y ∷ []) b
  gathered_server os y a b g servers lacked clients traces lines =
      record {
        servers =
            servers ∙ ap (λ (l : List E). l ++ y.end ∷ []) g.servers
            ∙ sym (map-append (λ (x : Serviced E). x.end) (serviced_of os) (y ∷ [])) ∙ ap (map (λ (x : Serviced E). x.end)) (sym (served_more os y));
        clients = clients ∙ g.clients ∙ ap (flat_map ends_of) (sym (played_same os y));
        traces = traces ∙ g.traces ∙ ap (map (λ (x : PlayerOut E). x.trace)) (sym (played_same os y));
        lines = lines ∙ g.lines ∙ ap (map (λ (x : PlayerOut E). x.lines)) (sym (played_same os y));
        lacked = lacking_more os (outs.Served y) a b g.lacked lacked;
      }

  pub gathered_client : (os : List (TaskOut E)) (y : PlayerOut E) (a b : RunRemains E) → Gathered os a → b.clients.items ≡ a.clients.items ++ ends_of y → b.traces.items ≡ a.traces.items ++ y.trace ∷ [] →
      b.lines.items ≡ a.lines.items ++ y.lines ∷ [] → b.lacked ≡ (a.lacked || is_unplayed y.cause) → b.servers.items ≡ a.servers.items → Gathered (os ++ outs.Played y ∷ []) b
  gathered_client os y a b g clients traces lines lacked servers =
      record {
        servers = servers ∙ g.servers ∙ ap (map (λ (x : Serviced E). x.end)) (sym (served_same os y));
        clients =
            clients ∙ ap (λ (l : List (ClientEnd E)). l ++ ends_of y) g.clients
            ∙ ap (λ (l : List (ClientEnd E)). flat_map ends_of (played_of os) ++ l) (sym (append-nil (ends_of y)))
            ∙ sym (flat_map-append ends_of (played_of os) (y ∷ [])) ∙ ap (flat_map ends_of) (sym (played_more os y));
        traces =
            traces ∙ ap (λ (l : List Trace). l ++ y.trace ∷ []) g.traces
            ∙ sym (map-append (λ (x : PlayerOut E). x.trace) (played_of os) (y ∷ [])) ∙ ap (map (λ (x : PlayerOut E). x.trace)) (sym (played_more os y));
        lines =
            lines ∙ ap (λ l. l ++ y.lines ∷ []) g.lines
            ∙ sym (map-append (λ (x : PlayerOut E). x.lines) (played_of os) (y ∷ [])) ∙ ap (map (λ (x : PlayerOut E). x.lines)) (sym (played_more os y));
        lacked = lacking_more os (outs.Played y) a b g.lacked lacked;
      }

  -- ---- Where none had no memory

  pub none_unserved : (os : List (TaskOut E)) → list_any is_lacking os ≡ false → AllByRecursion (λ (y : Serviced E). is_memory y.out ≡ false) (serviced_of os)
  none_unserved [] none = tt
  none_unserved (outs.Served y ∷ os) none = let both = or_parts (is_memory y.out) (list_any is_lacking os) none in (both.0, none_unserved os both.1)
  none_unserved (outs.Played y ∷ os) none = none_unserved os (or_parts (is_unplayed y.cause) (list_any is_lacking os) none).1

  pub none_unplayed : (os : List (TaskOut E)) → list_any is_lacking os ≡ false → AllByRecursion (λ (y : PlayerOut E). is_unplayed y.cause ≡ false) (played_of os)
  none_unplayed [] none = tt
  none_unplayed (outs.Served y ∷ os) none = none_unplayed os (or_parts (is_memory y.out) (list_any is_lacking os) none).1
  none_unplayed (outs.Played y ∷ os) none = let both = or_parts (is_unplayed y.cause) (list_any is_lacking os) none in (both.0, none_unplayed os both.1)

  -- ---- The keeper

  all_seen : (ys : List (Serviced E)) (old new : List Entry) → IsPrefix old new → AllByRecursion (λ (y : Serviced E). IsPrefix y.pass.seen old) ys → AllByRecursion (λ (y : Serviced E). IsPrefix y.pass.seen new) ys
  all_seen [] old new on all = tt
  all_seen (y ∷ ys) old new on all = (prefix_trans y.pass.seen old new all.0 on, all_seen ys old new on all.1)

  pub joined_none : (k : SessionPass) → JoinedPasses {E = E} [] k k
  joined_none k = record { lock = refl; session = refl; base = refl; made = refl; ended = sym (append-nil k.ended); seen = tt; knows = λ some. absurd (omega (arith, some)) }

  pub joined_more : (ys : List (Serviced E)) (y : Serviced E) (k a b : SessionPass) → JoinedPasses ys k a → b.lock ≡ a.lock → b.session ≡ a.session → b.base ≡ a.base → b.made ≡ a.made →
      b.ended ≡ a.ended ++ own_of y ∷ [] → IsPrefix a.seen b.seen → IsPrefix y.pass.seen b.seen → KeeperKnows b → JoinedPasses (ys ++ y ∷ []) k b
  joined_more ys y k a b j lock session base made ended on own knows =
      record {
        lock = lock ∙ j.lock;
        session = session ∙ j.session;
        base = base ∙ j.base;
        made = made ∙ j.made;
        ended =
            ended ∙ ap (λ (l : List (ℕ × List Entry)). l ++ own_of y ∷ []) j.ended ∙ append_assoc k.ended (map own_of ys) (own_of y ∷ [])
            ∙ ap (λ (l : List (ℕ × List Entry)). k.ended ++ l) (sym (map-append own_of ys (y ∷ [])));
        seen = each-push (λ (x : Serviced E). IsPrefix x.pass.seen b.seen) ys y (all_seen ys a.seen b.seen on j.seen) own;
        knows = λ some. knows;
      }

  pub joined_server : (os : List (TaskOut E)) (y : Serviced E) (k a b : SessionPass) → JoinedPasses (serviced_of os) k a → b.lock ≡ a.lock → b.session ≡ a.session → b.base ≡ a.base → b.made ≡ a.made →
      b.ended ≡ a.ended ++ own_of y ∷ [] → IsPrefix a.seen b.seen → IsPrefix y.pass.seen b.seen → KeeperKnows b → JoinedPasses (serviced_of (os ++ outs.Served y ∷ [])) k b
  joined_server os y k a b j lock session base made ended on own knows =
      subst (λ (ys : List (Serviced E)). JoinedPasses ys k b) (sym (served_more os y)) (joined_more (serviced_of os) y k a b j lock session base made ended on own knows)

  pub joined_client : (os : List (TaskOut E)) (y : PlayerOut E) (k a : SessionPass) → JoinedPasses (serviced_of os) k a → JoinedPasses (serviced_of (os ++ outs.Played y ∷ [])) k a
  joined_client os y k a j = subst (λ (ys : List (Serviced E)). JoinedPasses ys k a) (sym (served_same os y)) j
