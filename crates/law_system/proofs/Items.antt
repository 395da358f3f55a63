-- The items of a relay, taken one after the other: where each read finds a value of its last writer or a later one, each item is supplied and
-- each result is that of the serial execution.
use Rattle.std.proofs.Common.{◌≡◌, ℕ, zero, suc, ◌<◌, ◌≤◌, Bool, true, ◌&&◌, ◌==◌, ◌⊎◌, inl, inr, List, [], ◌∷◌, ◌++◌, map, length, ℤ, Option, option_map, slice_index_or, nat_lt, nat_le, refl, sym, ap, ap₂, ◌∙◌, subst, arith, eq-eqb}
use Rattle.std.specs.Prelude.{unwrap_or}
use Rattle.std.specs.List.{list_any, AllByRecursion, All}
use Rattle.std.proofs.lemmas.Bool.{and_from, or_left, or_right}
use Rattle.std.proofs.lemmas.List.{length-map}
use Rattle.std.proofs.lemmas.List.Elements.{All-from_recursion}
use Rattle.sv_world.specs.Control.{is_in, action_at, last_writer}
use Rattle.sv_world.specs.Faults.{is_ascending}
use Rattle.sv_world.specs.Sets.{read_set, write_set}
use Rattle.sv_world.specs.declared.action.Action.{Action}
use Rattle.sv_world.specs.declared.world.ObjectId.{ObjectId}
use Rattle.sv_world.proofs.Members.{is_in-head, is_in-tail, is_in-cons_cases}
use Rattle.sv_world.proofs.Ascending.{ascending-tail, ascending-head}
use Rattle.sv_world.proofs.Writers.{last_writer-writes}
use Rattle.sv_eval.specs.Evaluation.{effect_of}
use Rattle.sv_eval.specs.Serial.{values_at, put_all, serial_world}
use Rattle.sv_eval.proofs.Effects.{effect_counted}
use Rattle.sv_eval.proofs.Serials.{serial_length}
use Rattle.sv_versions.specs.Held.{Held, read_below}
use Rattle.sv_wire.specs.declared.message.Item.{Item}
use Rattle.sv_journal.specs.History.{Authored, item_at}
use Rattle.sv_client.specs.Traces.{held_at, item_result, item_held, with_items}
use Rattle.law_system.specs.Serial.{IsSerial, AreSerial, is_covered, IsSupplied, AreSupplied}
use Rattle.law_system.proofs.Tests.{any-left, any-right, at_mask-members, at_mask-ascending}
use Rattle.law_system.proofs.Every.{each-append, each-is_in, each-member}
use Rattle.law_system.proofs.Covers.{is_held, covered-held, covered-found}
use Rattle.law_system.proofs.Serials.{serial-step, serial-since, put-serial}

-- The actions of authored ones.
abbrev pub actions_in : List Authored → List Action
actions_in A = map (λ (a : Authored). a.action) A

pub item-action : (A : List Authored) (k : ℕ) → (item_at A k).action ≡ action_at (actions_in A) k
item-action A zero = refl
item-action [] (suc k) = refl
item-action (a ∷ A) (suc zero) = refl
item-action (a ∷ A) (suc (suc k)) = item-action A (suc k)

-- What the check of an action promises of its reads.
abbrev pub IsPlain : ℕ → Action → Type 0
IsPlain objects a = (is_ascending (read_set a) ≡ true) × AllByRecursion (λ x. x < objects) (read_set a)

-- Each read of each of some positions is covered, or has its last writer among the earlier ones of them.
abbrev pub AreWaiting : List Action → List Held → List ℕ → Type 0
AreWaiting A held ks = (k : ℕ) → is_in k ks ≡ true → (x : ℕ) → is_in x (read_set (action_at A k)) ≡ true →
    (is_covered x (last_writer A x k) k held ≡ true) ⊎ ((is_in (last_writer A x k) ks ≡ true) × ((0 < last_writer A x k) × (last_writer A x k < k)))

held_at-has : (pos : ℕ) (xs : List ℕ) (vs : List (List ℤ)) (x : ℕ) → length vs ≡ length xs → is_in x xs ≡ true → is_held x pos (held_at pos xs vs) ≡ true
held_at-has pos [] vs x e m = cc
held_at-has pos (y ∷ ys) [] x e m = absurd (omega arith)
held_at-has pos (y ∷ ys) (v ∷ vs) x e m =
    elim (is_in-cons_cases x y ys m) [
      | inl s ↦ or_left (y == x && pos == pos) (is_held x pos (held_at pos ys vs)) (and_from (y == x) (pos == pos) (eq-eqb y x (sym s)) (eq-eqb pos pos refl))
      | inr r ↦ or_right (y == x && pos == pos) (is_held x pos (held_at pos ys vs)) (held_at-has pos ys vs x (omega arith) r)
    ]

-- An item's results are held of each object that it writes.
pub item-has : (held : List Held) (item : Item) (x : ℕ) → is_in x (write_set item.action) ≡ true → is_held x item.pos (item_held held item) ≡ true
item-has held item x m =
    held_at-has item.pos (write_set item.action) (item_result held item) x
    (effect_counted item.action (map (λ y. unwrap_or (read_below held y item.pos) []) (read_set item.action))
    (length-map (read_set item.action) (λ y. unwrap_or (read_below held y item.pos) []) ∙ length-map item.action.reads (λ (o : ObjectId). o.0)))
    m

-- Items only add to what is held.
pub items-keep : (p : Held → Bool) (held : List Held) (items : List Item) → list_any p held ≡ true → list_any p (with_items held items) ≡ true
items-keep p held [] h = h
items-keep p held (item ∷ items) h =
    items-keep p (held ++ item_held held item) items (any-left p held (item_held held item) h)

pub items-have : (A : List Authored) (held : List Held) (ks : List ℕ) (k x : ℕ) → is_in k ks ≡ true → is_in x (write_set (action_at (actions_in A) k)) ≡ true →
    is_held x k (with_items held (map (item_at A) ks)) ≡ true
items-have A held [] k x m w = cc
items-have A held (j ∷ js) k x m w =
    let next : List Held = held ++ item_held held (item_at A j) in
    let later = λ (r : is_in k js ≡ true). items-have A next js k x r w in
    elim (is_in-cons_cases k j js m) [
      | inl e ↦ items-keep (λ h. h.object == x && h.pos == k) next (map (item_at A) js)
          (any-right (λ h. h.object == x && h.pos == k) held (item_held held (item_at A j))
          (subst (λ (n : ℕ). is_held x n (item_held held (item_at A j)) ≡ true) (sym e)
          (item-has held (item_at A j) x (subst (λ (a : Action). is_in x (write_set a) ≡ true) (ap (action_at (actions_in A)) e ∙ sym (item-action A j)) w))))
      | inr r ↦ later r
    ]

module _ (objects : ℕ) (opening : List (List ℤ)) (count : length opening ≡ objects) (A : List Authored) (plain : (k : ℕ) → IsPlain objects (action_at (actions_in A) k)) where
  -- A covered read finds the serial value before the position.
  read-serial : (held : List Held) (x n : ℕ) → AreSerial opening (actions_in A) held → is_covered x (last_writer (actions_in A) x (suc n)) (suc n) held ≡ true →
      unwrap_or (read_below held x (suc n)) [] ≡ slice_index_or (serial_world opening (actions_in A) n) x []
  read-serial held x n serial covered =
      let acts = actions_in A in
      let f = covered-found x (suc n) (IsSerial opening acts) (last_writer acts x (suc n)) held serial covered in
      let h = f.0 in
      let low : last_writer acts x (suc n) ≤ h.pos = f.1.1.0 in
      let high : h.pos < suc n = f.1.1.1.1.0 in
      ap (λ (o : Option Held). unwrap_or (option_map (λ (k : Held). k.value) o) []) f.1.0
      ∙ f.1.1.1.1.1
      ∙ ap (λ (y : ℕ). slice_index_or (serial_world opening acts h.pos) y []) f.1.1.1.0
      ∙ sym (serial-since opening acts x n h.pos low (omega arith))

  pub reads-serial : (held : List Held) (n : ℕ) (xs : List ℕ) → AreSerial opening (actions_in A) held →
      AllByRecursion (λ x. is_covered x (last_writer (actions_in A) x (suc n)) (suc n) held ≡ true) xs →
      map (λ x. unwrap_or (read_below held x (suc n)) []) xs ≡ values_at (serial_world opening (actions_in A) n) xs
  reads-serial held n [] serial covered = refl
  reads-serial held n (x ∷ xs) serial covered =
      ap₂ (λ (v : List ℤ) (vs : List (List ℤ)). v ∷ vs) (read-serial held x n serial covered.0) (reads-serial held n xs serial covered.1)

  results-serial : (held : List Held) (k : ℕ) → AreSerial opening (actions_in A) held →
      AllByRecursion (λ x. is_covered x (last_writer (actions_in A) x k) k held ≡ true) (read_set (action_at (actions_in A) k)) →
      AreSerial opening (actions_in A) (held_at k (write_set (action_at (actions_in A) k))
      (effect_of (action_at (actions_in A) k) (map (λ x. unwrap_or (read_below held x k) []) (read_set (action_at (actions_in A) k)))).writes)
  results-serial held zero serial covered = tt
  results-serial held (suc n) serial covered =
      let acts = actions_in A in
      let a = action_at acts (suc n) in
      let world = serial_world opening acts n in
      put-serial opening acts (suc n) world (write_set a)
      (effect_of a (map (λ x. unwrap_or (read_below held x (suc n)) []) (read_set a))).writes
      (serial-step opening acts n ∙ ap (λ (vs : List (List ℤ)). put_all world (write_set a) (effect_of a vs).writes) (sym (reads-serial held n (read_set a) serial covered)))
      (at_mask-ascending a.mask 0 (read_set a) (plain (suc n)).0)
      (each-member (λ (x : ℕ). x < length world) (write_set a)
      (λ x m. subst (λ (l : ℕ). x < l) (sym (serial_length opening acts n ∙ count))
      (each-is_in (λ (y : ℕ). y < objects) (read_set a) (plain (suc n)).1 x (at_mask-members a.mask 0 (read_set a) x m))))

  pub item-serial : (held : List Held) (k : ℕ) → AreSerial opening (actions_in A) held →
      AllByRecursion (λ x. is_covered x (last_writer (actions_in A) x k) k held ≡ true) (read_set (action_at (actions_in A) k)) →
      IsSupplied (actions_in A) held (item_at A k) × AreSerial opening (actions_in A) (item_held held (item_at A k))
  item-serial held k serial covered =
      subst (λ (a : Action). All (λ x. is_covered x (last_writer (actions_in A) x k) k held ≡ true) (read_set a)
      × AreSerial opening (actions_in A) (held_at k (write_set a) (effect_of a (map (λ x. unwrap_or (read_below held x k) []) (read_set a))).writes))
      (sym (item-action A k)) (
        All-from_recursion (λ x. is_covered x (last_writer (actions_in A) x k) k held ≡ true) (read_set (action_at (actions_in A) k)) covered,
        results-serial held k serial covered,
      )

  pub first-covered : (held : List Held) (k : ℕ) (ks : List ℕ) → is_ascending (k ∷ ks) ≡ true → AreWaiting (actions_in A) held (k ∷ ks) →
      (x : ℕ) → is_in x (read_set (action_at (actions_in A) k)) ≡ true → is_covered x (last_writer (actions_in A) x k) k held ≡ true
  first-covered held k ks asc waiting x r =
      elim (waiting k (is_in-head k ks) x r) [
        | inl c ↦ c
        | inr p ↦
            (let below : last_writer (actions_in A) x k < k = p.1.1 in
            elim (is_in-cons_cases (last_writer (actions_in A) x k) k ks p.0) [
              | inl e ↦ absurd (omega arith)
              | inr m ↦ (let above : k < last_writer (actions_in A) x k = ascending-head k ks asc (last_writer (actions_in A) x k) m in absurd (omega arith))
            ])
      ]

  pub rest-waiting : (held : List Held) (k : ℕ) (ks : List ℕ) → is_ascending (k ∷ ks) ≡ true → AreWaiting (actions_in A) held (k ∷ ks) →
      AreWaiting (actions_in A) (held ++ item_held held (item_at A k)) ks
  rest-waiting held k ks asc waiting j m x r =
      let acts = actions_in A in
      let low = last_writer acts x j in
      let more = item_held held (item_at A k) in
      let after : k < j = ascending-head k ks asc j m in
      elim (waiting j (is_in-tail j k ks m) x r) [
        | inl c ↦ inl (any-left (λ h. h.object == x && (nat_le low h.pos && nat_lt h.pos j)) held more c)
        | inr p ↦ elim (is_in-cons_cases low k ks p.0) [
          | inr s ↦ inr (s, p.1)
          | inl e ↦ inl (any-right (λ h. h.object == x && (nat_le low h.pos && nat_lt h.pos j)) held more
              (covered-held x k low j more
              (item-has held (item_at A k) x (subst (λ (a : Action). is_in x (write_set a) ≡ true) (ap (action_at acts) e ∙ sym (item-action A k))
              (last_writer-writes acts x j p.1.0)))
              (omega arith) after))
        ]
      ]

  pub items-supplied : (ks : List ℕ) (held : List Held) → is_ascending ks ≡ true → AreSerial opening (actions_in A) held → AreWaiting (actions_in A) held ks →
      AreSupplied (actions_in A) held (map (item_at A) ks) × AreSerial opening (actions_in A) (with_items held (map (item_at A) ks))
  items-supplied [] held asc serial waiting = (tt, serial)
  items-supplied (k ∷ ks) held asc serial waiting =
      let acts = actions_in A in
      let covered = each-member (λ x. is_covered x (last_writer acts x k) k held ≡ true) (read_set (action_at acts k)) (first-covered held k ks asc waiting) in
      let here = item-serial held k serial covered in
      let more = item_held held (item_at A k) in
      let rest = items-supplied ks (held ++ more) (ascending-tail k ks asc)
      (each-append (IsSerial opening acts) held more serial here.1) (rest-waiting held k ks asc waiting) in
      ((here.0, rest.0), rest.1)
