-- The replies that a fitting queue gives, against those of the definition.
use Rattle.std.proofs.Common.{◌≡◌, ℕ, suc, ◌<◌, ◌≤◌, true, List, [], ◌∷◌, ◌++◌, map, filter, length, Option, ℤ, slice_index_or, refl, sym, ◌∙◌, ap, arith, length-append}
use Rattle.std.proofs.lemmas.List.{map_push}
use Rattle.sv_world.specs.declared.action.Action.{Action}
use Rattle.sv_world.specs.declared.world.ClientId.{ClientId}
use Rattle.sv_world.specs.declared.world.World.{World}
use Rattle.sv_world.specs.Control.{is_in, below, needed_for, head_for}
use Rattle.sv_world.proofs.Members.{is_in-head, is_in-tail}
use Rattle.sv_queue.specs.Queue.{QueueView, last_position, entry_at, given_objects}
use Rattle.sv_influence.specs.Lacking.{lacking, base_objects}
use Rattle.sv_journal.specs.declared.entry.Entry.{Entry}
use Rattle.sv_journal.specs.declared.entry.Logged.{Logged}
use Rattle.sv_journal.specs.declared.entry.Logged.TheVariants as logged
use Rattle.sv_journal.specs.History.{Authored, authored_at, item_at, accepted, actions_of, result_at, commit_of, committed_of}
use Rattle.sv_journal.specs.Sessions.{sent_to, named_to}
use Rattle.sv_journal.specs.Answer.{Rules, committed_held, relay_of}
use Rattle.sv_core.specs.Fits.{actions_in, values_after, was_given, IsQueueEntry, QueueFits}
use Rattle.sv_core.specs.Relays.{held_in, item_in}
use Rattle.sv_core.proofs.FitPush.{length-actions}
use Rattle.sv_core.proofs.FitRelays.{lacking-is, bases-are, given-are}
use Rattle.sv_core.proofs.HistorySteps.{installed-is}

-- The queue's committed values are those of the history.
pub committed-is : (r : Rules) (h : List Entry) (A : List Authored) (S : ℕ → List ℕ) (N : ℕ → ℕ → List ℕ) (v : QueueView) → v.commit ≡ commit_of h →
    QueueFits r.world (accepted h) (result_at h) S N v → v.committed ≡ committed_of r.world.values h
committed-is r h A S N v at f =
    f.committed ∙ ap (values_after r.world.values (actions_in (accepted h)) (result_at h)) at ∙ sym (installed-is r.world.values h (commit_of h))

-- Objects with their values in a queue whose values are the committed ones.
pub held-is : (r : Rules) (h : List Entry) (v : QueueView) (xs : List ℕ) → v.committed ≡ committed_of r.world.values h → held_in v xs ≡ committed_held r h xs
held-is r h v xs same = ap (λ (values : List (List ℤ)). map (λ x. record { object = record { 0 = x }; value = slice_index_or values x [] }) xs) same

-- The relay of a position of the history's own actions, to the session of a slot.
pub relay-is : (r : Rules) (h : List Entry) (v : QueueView) (S : ℕ → List ℕ) (N : ℕ → ℕ → List ℕ) (slot s seq p : ℕ) →
    S slot ≡ sent_to h s → N slot ≡ named_to h s → slot < 1024 → v.commit ≡ commit_of h → v.commit < p → p ≤ length (accepted h) →
    ((t q : ℕ) → is_in q (S t) ≡ true → q ≤ length (accepted h)) → QueueFits r.world (accepted h) (result_at h) S N v →
    logged.Relay seq v.commit (held_in v (base_objects v slot p)) (lacking v slot p) ≡ relay_of r h (actions_of h) s seq p
relay-is r h v S N slot s seq p sent named small at low high within f =
    ap (λ xs. logged.Relay seq v.commit xs (lacking v slot p)) (held-is r h v (base_objects v slot p) (committed-is r h (accepted h) S N v at f))
    ∙ ap (λ xs. logged.Relay seq v.commit (committed_held r h xs) (lacking v slot p))
    (bases-are r.world (accepted h) (result_at h) S N v f within
    (filter (λ x. was_given (actions_in (accepted h)) (S slot) (N slot x) x v.commit) (below r.world.shape.objects)) slot p small low high
    (given-are r.world (accepted h) (result_at h) S N v f within slot small))
    ∙ ap (logged.Relay seq v.commit (committed_held r h (head_for r.world.shape.objects (actions_of h) v.commit (S slot)
    (filter (λ x. was_given (actions_in (accepted h)) (S slot) (N slot x) x v.commit) (below r.world.shape.objects)) p)))
    (lacking-is r.world (accepted h) (result_at h) S N v f within slot p small low high)
    ∙ ap (λ c. told c (S slot) (N slot)) at
    ∙ ap (λ xs. told (commit_of h) xs (N slot)) sent
    ∙ ap (told (commit_of h) (sent_to h s)) named
  where
    told : ℕ → List ℕ → (ℕ → List ℕ) → Logged
    told c xs ns = logged.Relay seq c (committed_held r h (head_for r.world.shape.objects (actions_of h) c xs
        (filter (λ x. was_given (actions_of h) xs (ns x) x c) (below r.world.shape.objects)) p)) (needed_for (actions_of h) c xs p)

-- The relay of a new action, which the queue w has beside those of the queue v.
pub relay-new : (r : Rules) (h : List Entry) (v w : QueueView) (S : ℕ → List ℕ) (N : ℕ → ℕ → List ℕ) (a : Authored) (slot s seq : ℕ) →
    S slot ≡ sent_to h s → N slot ≡ named_to h s → slot < 1024 → v.commit ≡ commit_of h → w.commit ≡ v.commit →
    w.committed ≡ v.committed → given_objects w slot ≡ given_objects v slot →
    ((t q : ℕ) → is_in q (S t) ≡ true → q ≤ length (accepted h)) → QueueFits r.world (accepted h) (result_at h) S N v →
    QueueFits r.world (accepted h ++ a ∷ []) (result_at h) S N w →
    logged.Relay seq w.commit (held_in w (base_objects w slot (last_position w))) (lacking w slot (last_position w))
    ≡ relay_of r h (actions_of h ++ a.action ∷ []) s seq (suc (length (actions_of h)))
relay-new r h v w S N a slot s seq sent named small at same values gave within f g =
    ap (λ p. logged.Relay seq w.commit (held_in w (base_objects w slot p)) (lacking w slot p)) place
    ∙ ap (λ xs. logged.Relay seq w.commit xs (lacking w slot m)) (held-is r h w (base_objects w slot m) (values ∙ committed-is r h (accepted h) S N v at f))
    ∙ ap (λ xs. logged.Relay seq w.commit (committed_held r h xs) (lacking w slot m))
    (bases-are r.world (accepted h ++ a ∷ []) (result_at h) S N w g later
    (filter (λ x. was_given (actions_in (accepted h)) (S slot) (N slot x) x v.commit) (below r.world.shape.objects)) slot m small low high
    (gave ∙ given-are r.world (accepted h) (result_at h) S N v f within slot small))
    ∙ ap (logged.Relay seq w.commit (committed_held r h (head_for r.world.shape.objects (actions_in (accepted h ++ a ∷ [])) w.commit (S slot)
    (filter (λ x. was_given (actions_in (accepted h)) (S slot) (N slot x) x v.commit) (below r.world.shape.objects)) m)))
    (lacking-is r.world (accepted h ++ a ∷ []) (result_at h) S N w g later slot m small low high)
    ∙ ap (λ c. told c v.commit (actions_in (accepted h ++ a ∷ [])) (S slot) (N slot)) (same ∙ at)
    ∙ ap (λ c. told (commit_of h) c (actions_in (accepted h ++ a ∷ [])) (S slot) (N slot)) at
    ∙ ap (λ xs. told (commit_of h) (commit_of h) (actions_in (accepted h ++ a ∷ [])) xs (N slot)) sent
    ∙ ap (told (commit_of h) (commit_of h) (actions_in (accepted h ++ a ∷ [])) (sent_to h s)) named
    ∙ ap (λ acts. relay_of r h acts s seq m) (map_push (λ (b : Authored). b.action) (accepted h) a)
    ∙ ap (λ n. relay_of r h (actions_of h ++ a.action ∷ []) s seq (suc n)) (sym (length-actions (accepted h)))
  where
    m : ℕ
    m = suc (length (accepted h))

    told : ℕ → ℕ → List Action → List ℕ → (ℕ → List ℕ) → Logged
    told c d acts xs ns = logged.Relay seq c (committed_held r h (head_for r.world.shape.objects acts c xs
        (filter (λ x. was_given (actions_of h) xs (ns x) x d) (below r.world.shape.objects)) m)) (needed_for acts c xs m)

    longer : length (accepted h ++ a ∷ []) ≡ suc (length (accepted h))
    longer = (let l = length-append (accepted h) (a ∷ []) in omega arith)

    place : last_position w ≡ m
    place = g.last ∙ longer

    low : w.commit < m
    low = omega (arith, same, f.last)

    high : m ≤ length (accepted h ++ a ∷ [])
    high = omega (arith, longer)

    later : (t q : ℕ) → is_in q (S t) ≡ true → q ≤ length (accepted h ++ a ∷ [])
    later t q k = omega (arith, within t q k, longer)

-- The items of a relay.
pub items-are : (w : World) (A : List Authored) (R : ℕ → Option (List (List ℤ))) (S : ℕ → List ℕ) (N : ℕ → ℕ → List ℕ) (v : QueueView) (ps : List ℕ) →
    QueueFits w A R S N v → ((p : ℕ) → is_in p ps ≡ true → (v.commit < p) × (p ≤ length A)) → map (item_in v) ps ≡ map (item_at A) ps
items-are w A R S N v [] f within = refl
items-are w A R S N v (p ∷ ps) f within =
    rw (items-are w A R S N v ps f (λ q k. within q (is_in-tail q p ps k))) (ap (λ i. i ∷ map (item_at A) ps) here)
  where
    both : (v.commit < p) × (p ≤ length A)
    both = within p (is_in-head p ps)

    e : IsQueueEntry A R S p (entry_at v p)
    e = f.entries p both.0 both.1

    author : (entry_at v p).author ≡ record { 0 = (authored_at A p).client }
    author = ap (λ (n : ℕ). the_client n) e.author
      where
        the_client : ℕ → ClientId
        the_client n = record { 0 = n }

    here : item_in v p ≡ item_at A p
    here = rw (author, e.seq, e.action) refl
