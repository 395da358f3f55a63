-- A client's Done is not bad: it reports, of the items of a relay that it got, well-formed results.
use Rattle.std.proofs.Common.{◌≡◌, ℕ, zero, suc, ◌<◌, ◌≤◌, Bool, true, false, not, ◌&&◌, ◌||◌, ◌==◌, nat_lt, List, [], ◌∷◌, ◌++◌, map, length, ℤ, refl, sym, ap, ◌∙◌, subst, arith, eq-eqb, le-ltb}
use Rattle.std.specs.Prelude.{All, unwrap_or}
use Rattle.std.specs.List.{list_any, list_all, AllByRecursion}
use Rattle.std.proofs.lemmas.Bool.{cond_both, cond-true, or_from, and_right, ne_eqb, not_from_true}
use Rattle.std.proofs.lemmas.List.{length-map}
use Rattle.std.proofs.lemmas.List.Elements.{recursion_from_All, All-from_recursion}
use Rattle.sv_world.specs.Control.{is_in, action_at}
use Rattle.sv_world.specs.Faults.{is_ascending}
use Rattle.sv_world.specs.Sets.{read_set, write_set}
use Rattle.sv_world.specs.declared.action.Action.{Action}
use Rattle.sv_world.specs.declared.world.ObjectId.{ObjectId}
use Rattle.sv_world.proofs.Members.{is_in-head, is_in-tail, is_in-append_left, is_in-append_right}
use Rattle.sv_eval.specs.Serial.{values_at, serial_world}
use Rattle.sv_eval.proofs.Effects.{effect_counted, effect_shaped}
use Rattle.sv_eval.proofs.Serials.{serial_length}
use Rattle.sv_versions.specs.Held.{Held, read_below}
use Rattle.sv_wire.specs.declared.message.Done1.{Done1}
use Rattle.sv_wire.specs.declared.message.Item.{Item}
use Rattle.sv_journal.specs.declared.entry.Entry.{Entry}
use Rattle.sv_journal.specs.History.{Authored, accepted, actions_of, item_at, commit_of}
use Rattle.sv_journal.specs.Sessions.{positions_in, sent_to}
use Rattle.sv_journal.specs.Answer.{Rules, is_bad_result, is_bad_done}
use Rattle.sv_journal.proofs.Stays.{positions-back}
use Rattle.sv_client.specs.Traces.{item_result, item_held, results_of}
use Rattle.sv_client.proofs.Items.{results_count}
use Rattle.law_system.specs.Journals.{serial_result}
use Rattle.law_system.proofs.Tests.{three-false, four-false}
use Rattle.law_system.proofs.Items.{IsPlain, item-action}
use Rattle.law_system.specs.Journals.{IsSerialResult}
use Rattle.law_system.proofs.Histories.{IsEarlier, same, after}

-- What a journal's relay to a session sends it, of which it is a part later on.
sent-one : (d : Entry) (h : List Entry) (s p : ℕ) → is_in p (sent_to h s) ≡ true → is_in p (sent_to (d ∷ h) s) ≡ true
sent-one d h s p m =
    cond_both (d.session == s) (sent_to h s ++ positions_in d.reply) (sent_to h s) (λ (l : List ℕ). is_in p l ≡ true) (λ e. is_in-append_left p (sent_to h s) (positions_in d.reply) m) (λ e. m)

pub sent-stays : (h g : List Entry) → IsEarlier h g → (s p : ℕ) → is_in p (sent_to h s) ≡ true → is_in p (sent_to g s) ≡ true
sent-stays h whole same s p m = m
sent-stays h whole (after {g} d b) s p m = sent-one d g s p (sent-stays h g b s p m)

pub sent-now : (d : Entry) (h : List Entry) (s p : ℕ) → d.session ≡ s → is_in p (positions_in d.reply) ≡ true → is_in p (sent_to (d ∷ h) s) ≡ true
sent-now d h s p e m =
    subst (λ (l : List ℕ). is_in p l ≡ true) (sym (cond-true (d.session == s) (sent_to h s ++ positions_in d.reply) (sent_to h s) (eq-eqb d.session s e)))
    (is_in-append_right p (sent_to h s) (positions_in d.reply) m)

results-places : (held : List Held) (items : List Item) → map (λ (d : Done1). d.pos) (results_of held items) ≡ map (λ (i : Item). i.pos) items
results-places held [] = refl
results-places held (item ∷ items) = ap (λ (l : List ℕ). item.pos ∷ l) (results-places (held ++ item_held held item) items)

all-long : (n : ℕ) (vs : List (List ℤ)) → AllByRecursion (λ (v : List ℤ). length v ≡ n) vs → list_all (λ (v : List ℤ). length v == n) vs ≡ true
all-long n [] h = refl
all-long n (v ∷ vs) h = and_two (length v == n) (list_all (λ (w : List ℤ). length w == n) vs) (eq-eqb (length v) n h.0) (all-long n vs h.1)
  where
    and_two : (a c : Bool) → a ≡ true → c ≡ true → (a && c) ≡ true
    and_two true true e f = refl
    and_two true false e f = f
    and_two false c e f = e

module _ (r : Rules) (H : List Entry) (count : length r.world.values ≡ r.world.shape.objects) (shaped : All (λ (v : List ℤ). length v ≡ r.world.shape.attrs) r.world.values)
    (plain : (k : ℕ) → IsPlain r.world.shape.objects (action_at (actions_of H) k))
    (g : List Entry) (here : (k : ℕ) → k ≤ length (accepted g) → action_at (actions_of H) k ≡ action_at (actions_of g) k) (s : ℕ) where
  abbrev A : List Authored
  A = accepted H

  abbrev acts : List Action
  acts = actions_of H

  reads-below : (k : ℕ) → All (λ x. x < length r.world.values) (read_set (action_at acts k))
  reads-below k = subst (λ (n : ℕ). All (λ x. x < n) (read_set (action_at acts k))) (sym count) (All-from_recursion (λ x. x < r.world.shape.objects) (read_set (action_at acts k)) (plain k).1)

  -- Each list of values in the serial result has a number for each attribute.
  result-shaped : (world-shaped : (p : ℕ) → All (λ (v : List ℤ). length v ≡ r.world.shape.attrs) (serial_world r.world.values acts p)) → (p : ℕ) →
      AllByRecursion (λ (v : List ℤ). length v ≡ r.world.shape.attrs) (serial_result r.world.values acts p)
  result-shaped world-shaped zero = tt
  result-shaped world-shaped (suc n) =
      let a = action_at acts (suc n) in
      let world = serial_world r.world.values acts n in
      recursion_from_All (λ (v : List ℤ). length v ≡ r.world.shape.attrs) (serial_result r.world.values acts (suc n))
      (effect_shaped r.world.shape.attrs a (values_at world (read_set a)) (read-shaped world (world-shaped n) (read_set a)
      (subst (λ (m : ℕ). All (λ x. x < m) (read_set a)) (sym (serial_length r.world.values acts n)) (reads-below (suc n)))))
    where
      read-shaped : (world : List (List ℤ)) → All (λ (v : List ℤ). length v ≡ r.world.shape.attrs) world → (xs : List ℕ) → All (λ x. x < length world) xs → All (λ (v : List ℤ). length v ≡ r.world.shape.attrs) (values_at world xs)
      read-shaped world h xs below k d l = absurd-free world h xs below k d l
        where
          absurd-free : (world : List (List ℤ)) → All (λ (v : List ℤ). length v ≡ r.world.shape.attrs) world → (xs : List ℕ) → All (λ x. x < length world) xs → All (λ (v : List ℤ). length v ≡ r.world.shape.attrs) (values_at world xs)
          absurd-free world h [] below k d l = absurd (omega arith)
          absurd-free world h (x ∷ xs) below zero d l = h x [] (below 0 x (omega arith))
          absurd-free world h (x ∷ xs) below (suc k) d l = absurd-free world h xs (λ j c m. below (suc j) c (omega arith)) k d (omega arith)

  -- A result of an item that was sent is well formed.
  good-result : ((p : ℕ) → All (λ (v : List ℤ). length v ≡ r.world.shape.attrs) (serial_world r.world.values acts p)) → (held : List Held) (k : ℕ) → 0 < k → k ≤ length (accepted g) → is_in k (sent_to g s) ≡ true →
      IsSerialResult r.world.values acts (record { pos = k; values = item_result held (item_at A k) }) →
      is_bad_result r g s (record { pos = k; values = item_result held (item_at A k) }) ≡ false
  good-result world-shaped held k low high sent serial =
      let values = item_result held (item_at A k) in
      let a = action_at (actions_of g) k in
      let action : (item_at A k).action ≡ a = item-action A k ∙ here k high in
      let size : length values ≡ length (write_set a) =
      effect_counted (item_at A k).action (map (λ x. unwrap_or (read_below held x k) []) (read_set (item_at A k).action))
      (length-map (read_set (item_at A k).action) (λ x. unwrap_or (read_below held x k) []) ∙ length-map (item_at A k).action.reads (λ (o : ObjectId). o.0))
      ∙ ap (λ (c : Action). length (write_set c)) action in
      let long : list_all (λ (v : List ℤ). length v == r.world.shape.attrs) values ≡ true =
      all-long r.world.shape.attrs values
      (subst (AllByRecursion (λ (v : List ℤ). length v ≡ r.world.shape.attrs)) (sym (serial low)) (result-shaped world-shaped k)) in
      three-false (k == 0) (nat_lt (length (accepted g)) k)
      (nat_lt (commit_of g) k && (not (is_in k (sent_to g s)) || not (length values == length (write_set a)) || not (list_all (λ (v : List ℤ). length v == r.world.shape.attrs) values)))
      (ne_eqb k 0 (λ z. absurd (omega arith)))
      (le-ltb (length (accepted g)) k high)
      (and_right (nat_lt (commit_of g) k) _
      (three-false (not (is_in k (sent_to g s))) (not (length values == length (write_set a))) (not (list_all (λ (v : List ℤ). length v == r.world.shape.attrs) values))
      (not_from_true _ sent) (not_from_true _ (eq-eqb (length values) (length (write_set a)) size)) (not_from_true _ long)))

  good-results : ((p : ℕ) → All (λ (v : List ℤ). length v ≡ r.world.shape.attrs) (serial_world r.world.values acts p)) → (held : List Held) (ks : List ℕ) →
      ((k : ℕ) → is_in k ks ≡ true → (0 < k) × ((k ≤ length (accepted g)) × (is_in k (sent_to g s) ≡ true))) →
      AllByRecursion (IsSerialResult r.world.values acts) (results_of held (map (item_at A) ks)) → list_any (is_bad_result r g s) (results_of held (map (item_at A) ks)) ≡ false
  good-results world-shaped held [] f h = refl
  good-results world-shaped held (k ∷ ks) f h =
      let p = f k (is_in-head k ks) in
      or_from (is_bad_result r g s (record { pos = k; values = item_result held (item_at A k) })) (list_any (is_bad_result r g s) (results_of (held ++ item_held held (item_at A k)) (map (item_at A) ks)))
      (good-result world-shaped held k p.0 p.1.0 p.1.1 h.0)
      (good-results world-shaped (held ++ item_held held (item_at A k)) ks (λ j m. f j (is_in-tail j k ks m)) h.1)

  -- The results of a relay's items, which were sent and are not empty nor too many, are no bad Done.
  pub good-done : ((p : ℕ) → All (λ (v : List ℤ). length v ≡ r.world.shape.attrs) (serial_world r.world.values acts p)) → (held : List Held) (ks : List ℕ) →
      is_ascending ks ≡ true → (length ks == 0) ≡ false → length ks ≤ 33 →
      ((k : ℕ) → is_in k ks ≡ true → (0 < k) × ((k ≤ length (accepted g)) × (is_in k (sent_to g s) ≡ true))) →
      AllByRecursion (IsSerialResult r.world.values acts) (results_of held (map (item_at A) ks)) → is_bad_done r g s (results_of held (map (item_at A) ks)) ≡ false
  good-done world-shaped held ks asc some few f h =
      let results = results_of held (map (item_at A) ks) in
      let many : length results ≡ length ks = results_count held (map (item_at A) ks) ∙ length-map ks (item_at A) in
      let places : map (λ (d : Done1). d.pos) results ≡ ks = results-places held (map (item_at A) ks) ∙ positions-back A ks in
      four-false (length results == 0) (nat_lt 33 (length results)) (not (is_ascending (map (λ (d : Done1). d.pos) results))) (list_any (is_bad_result r g s) results)
      (ap (λ (n : ℕ). n == 0) many ∙ some)
      (le-ltb 33 (length results) (omega arith))
      (not_from_true _ (ap is_ascending places ∙ asc))
      (good-results world-shaped held ks f h)
