-- Reported results that may be taken.
use Rattle.std.proofs.Common.{◌≡◌, ℕ, zero, suc, ◌<◌, ◌≤◌, Bool, true, false, ◌&&◌, ◌||◌, not, nat_lt, ◌==◌, List, [], ◌∷◌, map, length, get_or, All, ℤ, refl, sym, ◌∙◌, ap, arith}
use Rattle.std.proofs.lemmas.Bool.{or_parts, ltb-true, ltb-false, lt-ltb, not-false, eqb-true, and_parts}
use Rattle.std.specs.List.{list_any, list_all}
use Rattle.sv_world.specs.declared.action.Action.{Action}
use Rattle.sv_world.specs.Control.{is_in, action_at}
use Rattle.sv_world.specs.Faults.{is_ascending}
use Rattle.sv_world.specs.Sets.{write_set}
use Rattle.sv_wire.specs.declared.message.Done1.{Done1}
use Rattle.sv_journal.specs.declared.entry.Entry.{Entry}
use Rattle.sv_journal.specs.History.{accepted, actions_of, result_at, commit_of}
use Rattle.sv_journal.specs.Sessions.{sent_to}
use Rattle.sv_journal.specs.Answer.{Rules, is_bad_result, is_bad_done}
use Rattle.sv_queue.specs.Queue.{QueueView, last_position, queue_actions, sent_positions}
use Rattle.sv_world.specs.Worlds.{HaveAttrs}
use Rattle.sv_core.specs.Fits.{QueueFits}
use Rattle.sv_core.specs.Relays.{is_bad_report, CanReport}
use Rattle.sv_core.proofs.FitRelays.{action-is, sent-is, queue-action}

any-alike : {X : Type 0} (f g : X → Bool) (xs : List X) → ((x : X) → f x ≡ g x) → list_any f xs ≡ list_any g xs
any-alike f g [] same = refl
any-alike f g (x ∷ xs) same = rw (same x, any-alike f g xs same) refl

-- The same results are bad by the queue as by the history.
pub bad-is : (r : Rules) (h : List Entry) (v : QueueView) (S : ℕ → List ℕ) (N : ℕ → ℕ → List ℕ) (slot s : ℕ) (d : Done1) → S slot ≡ sent_to h s → slot < 1024 → v.commit ≡ commit_of h →
    ((t q : ℕ) → is_in q (S t) ≡ true → q ≤ length (accepted h)) → QueueFits r.world (accepted h) (result_at h) S N v →
    is_bad_report v slot d ≡ is_bad_result r h s d
bad-is r h v S N slot s d sent small at within f =
    ap (λ n. d.pos == 0 || nat_lt n d.pos || later n) f.last
    ∙ go (nat_lt (length (accepted h)) d.pos) refl (nat_lt v.commit d.pos) refl
    ∙ ap (λ c. d.pos == 0 || nat_lt (length (accepted h)) d.pos || (nat_lt c d.pos && (not (is_in d.pos (sent_to h s))
    || not (length d.values == length (write_set (action_at (actions_of h) d.pos))) || not (list_all (λ w. length w == r.world.shape.attrs) d.values)))) at
  where
    later : ℕ → Bool
    later n = nat_lt v.commit d.pos && (not (is_in d.pos (sent_positions v slot))
        || not (length d.values == length (write_set (action_at (queue_actions v) d.pos))) || not (list_all (λ w. length w == v.shape.attrs) d.values))

    go : (b : Bool) → nat_lt (length (accepted h)) d.pos ≡ b → (c : Bool) → nat_lt v.commit d.pos ≡ c →
        (d.pos == 0 || b || (c && (not (is_in d.pos (sent_positions v slot))
        || not (length d.values == length (write_set (action_at (queue_actions v) d.pos))) || not (list_all (λ w. length w == v.shape.attrs) d.values))))
        ≡ (d.pos == 0 || b || (c && (not (is_in d.pos (sent_to h s))
        || not (length d.values == length (write_set (action_at (actions_of h) d.pos))) || not (list_all (λ w. length w == r.world.shape.attrs) d.values))))
    go b q false t = refl
    go true q true t = full (d.pos == 0) _ _
      where
        full : (a x y : Bool) → (a || true || x) ≡ (a || true || y)
        full true x y = refl
        full false x y = refl
    go false q true t = (let low : v.commit < d.pos = ltb-true v.commit d.pos t in
        let high : d.pos ≤ length (accepted h) = ltb-false (length (accepted h)) d.pos q in
        rw (
          sent-is r.world (accepted h) (result_at h) S N v f within slot d.pos small low ∙ ap (is_in d.pos) sent,
          action-is r.world (accepted h) (result_at h) S N v f within d.pos low high,
          f.shape,
        ) refl)

pub bad-done : (r : Rules) (h : List Entry) (v : QueueView) (S : ℕ → List ℕ) (N : ℕ → ℕ → List ℕ) (slot s : ℕ) (ds : List Done1) → S slot ≡ sent_to h s → slot < 1024 → v.commit ≡ commit_of h →
    ((t q : ℕ) → is_in q (S t) ≡ true → q ≤ length (accepted h)) → QueueFits r.world (accepted h) (result_at h) S N v →
    (length ds == 0 || nat_lt 33 (length ds) || not (is_ascending (map (λ (d : Done1). d.pos) ds)) || list_any (is_bad_report v slot) ds) ≡ is_bad_done r h s ds
bad-done r h v S N slot s ds sent small at within f =
    ap (λ b. length ds == 0 || nat_lt 33 (length ds) || not (is_ascending (map (λ (d : Done1). d.pos) ds)) || b)
    (any-alike (is_bad_report v slot) (is_bad_result r h s) ds (λ d. bad-is r h v S N slot s d sent small at within f))

-- A result that is not bad may be kept.
pub can_report : (v : QueueView) (s : ℕ) (d : Done1) → is_bad_report v s d ≡ false → CanReport v d
can_report v s d h = record {
  last = ltb-false (last_position v) d.pos early.1;
  count = λ low. (let m = middle low in eqb-true (length d.values) (length (write_set (action_at (queue_actions v) d.pos))) (not-false _ m.1)
      ∙ ap (λ (a : Action). length (write_set a)) (queue-action v d.pos low));
  attrs = λ low. values d.values (not-false _ (outer low).1);
}
  where
    front : ((d.pos == 0 || nat_lt (last_position v) d.pos) ≡ false) × ((nat_lt v.commit d.pos && (not (is_in d.pos (sent_positions v s))
        || not (length d.values == length (write_set (action_at (queue_actions v) d.pos))) || not (list_all (λ w. length w == v.shape.attrs) d.values))) ≡ false)
    front = or_parts (d.pos == 0 || nat_lt (last_position v) d.pos) (nat_lt v.commit d.pos && (not (is_in d.pos (sent_positions v s))
        || not (length d.values == length (write_set (action_at (queue_actions v) d.pos))) || not (list_all (λ w. length w == v.shape.attrs) d.values))) h

    early : ((d.pos == 0) ≡ false) × (nat_lt (last_position v) d.pos ≡ false)
    early = or_parts (d.pos == 0) (nat_lt (last_position v) d.pos) front.0

    outer : v.commit < d.pos → ((not (is_in d.pos (sent_positions v s)) || not (length d.values == length (write_set (action_at (queue_actions v) d.pos)))) ≡ false)
        × (not (list_all (λ w. length w == v.shape.attrs) d.values) ≡ false)
    outer low = or_parts (not (is_in d.pos (sent_positions v s)) || not (length d.values == length (write_set (action_at (queue_actions v) d.pos))))
        (not (list_all (λ w. length w == v.shape.attrs) d.values)) (sym (ap (λ b. b && (not (is_in d.pos (sent_positions v s))
        || not (length d.values == length (write_set (action_at (queue_actions v) d.pos))) || not (list_all (λ w. length w == v.shape.attrs) d.values))) (lt-ltb v.commit d.pos low)) ∙ front.1)

    middle : v.commit < d.pos → (not (is_in d.pos (sent_positions v s)) ≡ false) × (not (length d.values == length (write_set (action_at (queue_actions v) d.pos))) ≡ false)
    middle low = or_parts (not (is_in d.pos (sent_positions v s))) (not (length d.values == length (write_set (action_at (queue_actions v) d.pos)))) (outer low).0

    values : (ws : List (List ℤ)) → list_all (λ w. length w == v.shape.attrs) ws ≡ true → HaveAttrs v.shape ws
    values [] q i o low = absurd (omega arith)
    values (w ∷ ws) q i o low = (let both = and_parts (length w == v.shape.attrs) (list_all (λ u. length u == v.shape.attrs) ws) q in at i both.0 (values ws both.1) low)
      where
        at : (i : ℕ) → (length w == v.shape.attrs) ≡ true → HaveAttrs v.shape ws → i < length (w ∷ ws) → length (get_or (w ∷ ws) i o) ≡ v.shape.attrs
        at zero a b l = eqb-true (length w) v.shape.attrs a
        at (suc i) a b l = b i o (omega arith)

pub can_report_all : (v : QueueView) (s : ℕ) (ds : List Done1) → list_any (is_bad_report v s) ds ≡ false → All (CanReport v) ds
can_report_all v s [] h = λ i d low. absurd (omega arith)
can_report_all v s (d ∷ ds) h = (let both = or_parts (is_bad_report v s d) (list_any (is_bad_report v s) ds) h in
    all-cons (can_report v s d both.0) (can_report_all v s ds both.1))
  where
    all-cons : CanReport v d → All (CanReport v) ds → All (CanReport v) (d ∷ ds)
    all-cons here rest zero o low = here
    all-cons here rest (suc i) o low = rest i o (omega arith)

-- Of results of which none is bad, each may be kept.
pub can_report_done : (r : Rules) (h : List Entry) (v : QueueView) (S : ℕ → List ℕ) (N : ℕ → ℕ → List ℕ) (slot s : ℕ) (ds : List Done1) → S slot ≡ sent_to h s → slot < 1024 → v.commit ≡ commit_of h →
    ((t q : ℕ) → is_in q (S t) ≡ true → q ≤ length (accepted h)) → QueueFits r.world (accepted h) (result_at h) S N v →
    list_any (is_bad_result r h s) ds ≡ false → All (CanReport v) ds
can_report_done r h v S N slot s ds sent small at within f q =
    can_report_all v slot ds (any-alike (is_bad_report v slot) (is_bad_result r h s) ds (λ d. bad-is r h v S N slot s d sent small at within f) ∙ q)

-- Of a Done that is not bad no result is.
pub no-bad : (r : Rules) (h : List Entry) (s : ℕ) (ds : List Done1) → is_bad_done r h s ds ≡ false → list_any (is_bad_result r h s) ds ≡ false
no-bad r h s ds q =
    (or_parts (length ds == 0 || nat_lt 33 (length ds) || not (is_ascending (map (λ (d : Done1). d.pos) ds))) (list_any (is_bad_result r h s) ds) q).1
