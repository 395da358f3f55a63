-- What a relay, or what is seen, leaves to its client: each read of its items finds a value that the session knows, that the head names, or that
-- an earlier item gives.
use Rattle.std.proofs.Common.{◌≡◌, ℕ, zero, suc, ◌+◌, ◌<◌, ◌≤◌, true, false, ◌&&◌, ◌==◌, nat_lt, nat_le, ◌⊎◌, inl, inr, List, [], ◌∷◌, ◌++◌, filter, take, length, refl, sym, ap, ◌∙◌, subst, arith, eq-eqb, leb-true, ltb-true}
use Rattle.std.specs.List.{list_any, list_all}
use Rattle.std.proofs.lemmas.Bool.{cases_Bool, cases_lt, or_left, or_right, and_parts, and_from}
use Rattle.std.proofs.lemmas.List.{get_or-take, take-take}
use Rattle.sv_world.specs.Control.{is_in, below, blank, action_at, last_writer, needed_for, head_for, reading, with_reading, up_to, needed_to_see, head_to_see}
use Rattle.sv_world.specs.Faults.{is_ascending, may_be_observed}
use Rattle.sv_world.specs.Sets.{read_set, write_set}
use Rattle.sv_world.specs.declared.action.Action.{Action}
use Rattle.sv_world.proofs.Members.{is_in-cons_cases, is_in-append_right, is_in-filter, is_in-filter_parts, any_parts}
use Rattle.sv_world.proofs.Writers.{last_writer-below, last_writer-writes, last_writer-unwritten, last_writer-earlier}
use Rattle.sv_world.proofs.Needs.{needed-ascending, needed-bounds, needed-agree, needed-closed_writer}
use Rattle.sv_world.proofs.Bases.{head_for-agree, head_for-iff}
use Rattle.sv_world.proofs.Seeing.{see-ascending, see-bounds, see-direct, see-closed, see_head-iff}
use Rattle.sv_versions.specs.Held.{Held}
use Rattle.sv_wire.specs.declared.message.ObjectValue.{ObjectValue}
use Rattle.sv_client.specs.Traces.{head_held}
use Rattle.law_system.specs.Serial.{is_covered}
use Rattle.law_system.specs.Delivery.{Delivery, told_positions, head_objects, told_commits, known_at, known_values, IsRelayed, IsShown}
use Rattle.law_system.proofs.Tests.{any-left, any-right}
use Rattle.law_system.proofs.Every.{each-is_in}
use Rattle.law_system.proofs.Covers.{is_held, covered-held}
use Rattle.law_system.proofs.Items.{IsPlain, AreWaiting}

pub head-has : (commit : ℕ) (head : List ObjectValue) (x : ℕ) → is_in x (head_objects head) ≡ true → is_held x commit (head_held commit head) ≡ true
head-has commit [] x m = cc
head-has commit (v ∷ vs) x m =
    elim (is_in-cons_cases x v.object.0 (head_objects vs) m) [
      | inl e ↦ or_left (v.object.0 == x && commit == commit) (is_held x commit (head_held commit vs)) (and_from (v.object.0 == x) (commit == commit) (eq-eqb v.object.0 x (sym e)) (eq-eqb commit commit refl))
      | inr r ↦ or_right (v.object.0 == x && commit == commit) (is_held x commit (head_held commit vs)) (head-has commit vs x r)
    ]

pub action_at-take : (A : List Action) (n k : ℕ) → k ≤ n → action_at (take n A) k ≡ action_at A k
action_at-take A n zero l = refl
action_at-take A n (suc k) l = get_or-take n A k blank (omega arith)

-- Each value that the session knows is held.
abbrev pub Knows : List Action → List Delivery → ℕ → List Held → Type 0
Knows A ds s held = (x q : ℕ) → is_in q (known_at A ds s x) ≡ true → is_held x q held ≡ true

-- The objects that the session knows the committed values of.
abbrev pub known_to : ℕ → List Action → List Delivery → Delivery → List ℕ
known_to objects A ds d = known_values objects A d.commit ds d.session

-- A read of an object at a position is served by a delivery: its last writer there is among what the session was told, or is told now, where it is
-- above the commit; and else the session knows the object's committed value, or the head names it.
pub record IsBrought (objects : ℕ) (A : List Action) (ds : List Delivery) (d : Delivery) (k x : ℕ) : Type 0 where
  pub later : d.commit < k
  pub closed : d.commit < last_writer A x k → is_in (last_writer A x k) (told_positions ds d.session) ≡ false → is_in (last_writer A x k) d.positions ≡ true
  pub based : last_writer A x k ≤ d.commit → is_in x (known_to objects A ds d) ≡ false → is_in x (head_objects d.head) ≡ true

module _ (objects : ℕ) (A : List Action) (ds : List Delivery) (d : Delivery) where
  told-known : (x j : ℕ) → is_in j (told_positions ds d.session) ≡ true → is_in x (write_set (action_at A j)) ≡ true → is_in j (known_at A ds d.session x) ≡ true
  told-known x j m w =
      let sent = told_positions ds d.session in
      is_in-append_right j (told_commits ds d.session x) (filter (λ p. is_in x (write_set (action_at A p))) sent) (is_in-filter (λ p. is_in x (write_set (action_at A p))) j sent m w)

  -- a read of what was last written above the commit
  above-covered : (held : List Held) (k x : ℕ) → Knows A ds d.session held → IsBrought objects A ds d k x → d.commit < last_writer A x k →
      (is_covered x (last_writer A x k) k held ≡ true) ⊎ ((is_in (last_writer A x k) d.positions ≡ true) × ((0 < last_writer A x k) × (last_writer A x k < k)))
  above-covered held k x known b above =
      let j = last_writer A x k in
      let low : 0 < j = omega arith in
      let high : j < k = last_writer-below A x k low in
      elim (cases_Bool (is_in j (told_positions ds d.session))) [
        | inl y ↦ inl (covered-held x j j k held (known x j (told-known x j y (last_writer-writes A x k low))) (omega arith) high)
        | inr n ↦ inr (b.closed above n, (low, high))
      ]

  -- a read of what was last written at or below the commit
  committed-covered : (held : List Held) (k x : ℕ) → Knows A ds d.session held → IsBrought objects A ds d k x → last_writer A x k ≤ d.commit →
      is_covered x (last_writer A x k) k (held ++ head_held d.commit d.head) ≡ true
  committed-covered held k x known b low =
      let j = last_writer A x k in
      let later : d.commit < k = b.later in
      let p = λ (h : Held). h.object == x && (nat_le j h.pos && nat_lt h.pos k) in
      let heads = head_held d.commit d.head in
      let same : j ≡ last_writer A x (d.commit + 1) = last_writer-earlier A x (d.commit + 1) k (omega arith) (λ i a b. last_writer-unwritten A x k i (omega arith) b) in
      let test = λ (q : ℕ). nat_le (last_writer A x (d.commit + 1)) q && nat_le q d.commit in
      elim (cases_Bool (is_in x (known_to objects A ds d))) [
        | inl y ↦
            (let g = any_parts test (known_at A ds d.session x) (is_in-filter_parts (λ z. list_any (λ q. nat_le (last_writer A z (d.commit + 1)) q && nat_le q d.commit) (known_at A ds d.session z)) x (below objects) y).1 in
            let q = g.0 in
            let c = and_parts (nat_le (last_writer A x (d.commit + 1)) q) (nat_le q d.commit) g.1.1 in
            let from : last_writer A x (d.commit + 1) ≤ q = leb-true (last_writer A x (d.commit + 1)) q c.0 in
            let upto : q ≤ d.commit = leb-true q d.commit c.1 in
            any-left p held heads (covered-held x q j k held (known x q g.1.0) (omega arith) (omega arith)))
        | inr n ↦ any-right p held heads (covered-held x d.commit j k heads (head-has d.commit d.head x (b.based low n)) low later)
      ]

  -- A read that is served finds a value that is held with the head, or that of an earlier item.
  pub brought-covered : (held : List Held) (k x : ℕ) → Knows A ds d.session held → IsBrought objects A ds d k x →
      (is_covered x (last_writer A x k) k (held ++ head_held d.commit d.head) ≡ true) ⊎ ((is_in (last_writer A x k) d.positions ≡ true) × ((0 < last_writer A x k) × (last_writer A x k < k)))
  brought-covered held k x known b =
      elim (cases_lt d.commit (last_writer A x k)) [
        | inl above ↦ elim (above-covered held k x known b above) [
          | inl c ↦ inl (any-left (λ (h : Held). h.object == x && (nat_le (last_writer A x k) h.pos && nat_lt h.pos k)) held (head_held d.commit d.head) c)
          | inr w ↦ inr w
        ]
        | inr low ↦ inl (committed-covered held k x known b low)
      ]

  -- Each read of the items of a delivery is served.
  abbrev pub IsServing : Type 0
  IsServing = (k : ℕ) → is_in k d.positions ≡ true → (x : ℕ) → is_in x (read_set (action_at A k)) ≡ true → IsBrought objects A ds d k x

  pub serving-waiting : (held : List Held) → Knows A ds d.session held → IsServing → AreWaiting A (held ++ head_held d.commit d.head) d.positions
  serving-waiting held known serving k m x reads = brought-covered held k x known (serving k m x reads)

-- ---- Relays

module _ (objects : ℕ) (A : List Action) (plain : (k : ℕ) → IsPlain objects (action_at A k)) (ds : List Delivery) (d : Delivery) (r : IsRelayed objects A ds d) where
  abbrev sent : List ℕ
  sent = told_positions ds d.session

  abbrev given : List ℕ
  given = known_to objects A ds d

  positions-are : d.positions ≡ needed_for A d.commit sent r.target
  positions-are =
      r.positions ∙ needed-agree (take d.count A) A d.commit sent sent r.target r.above (λ k a b. let l : r.target ≤ d.count = r.accepted in action_at-take A d.count k (omega arith)) (λ j a. refl)

  head-is : head_objects d.head ≡ head_for objects A d.commit sent given r.target
  head-is =
      r.head ∙ head_for-agree objects (take d.count A) A d.commit sent sent given r.target r.above (λ k a b. let l : r.target ≤ d.count = r.accepted in action_at-take A d.count k (omega arith)) (λ j a. refl)

  pub relay-ascending : is_ascending d.positions ≡ true
  relay-ascending = subst (λ (ks : List ℕ). is_ascending ks ≡ true) (sym positions-are) (needed-ascending A d.commit sent r.target)

  pub relay-serving : IsServing objects A ds d
  relay-serving k m x reads =
      let needed : is_in k (needed_for A d.commit sent r.target) ≡ true = subst (λ (ks : List ℕ). is_in k ks ≡ true) positions-are m in
      let within : x < objects = each-is_in (λ y. y < objects) (read_set (action_at A k)) (plain k).1 x reads in
      record {
        later = (needed-bounds A d.commit sent r.target r.above k needed).0;
        closed = λ above n. subst (λ (ks : List ℕ). is_in (last_writer A x k) ks ≡ true) (sym positions-are) (needed-closed_writer A d.commit sent r.target k x needed reads above n);
        based = λ low n. subst (λ (xs : List ℕ). is_in x xs ≡ true) (sym head-is)
            ((head_for-iff objects A d.commit sent given r.target x).1 (within, (n, (k, (needed, (reads, low))))));
      }

-- ---- What is seen

all-below : (objects : ℕ) (xs : List ℕ) → list_all (λ x. nat_lt x objects) xs ≡ true → (x : ℕ) → is_in x xs ≡ true → x < objects
all-below objects [] all x m = cc
all-below objects (y ∷ ys) all x m =
    let p = and_parts (nat_lt y objects) (list_all (λ z. nat_lt z objects) ys) all in
    elim (is_in-cons_cases x y ys m) [
      | inl e ↦ subst (λ (z : ℕ). z < objects) (sym e) (ltb-true y objects p.0)
      | inr r ↦ all-below objects ys p.1 x r
    ]

-- Objects that may be observed are of the world.
pub observed-within : (objects : ℕ) (xs : List ℕ) → may_be_observed objects xs ≡ true → (x : ℕ) → is_in x xs ≡ true → x < objects
observed-within objects xs good =
    all-below objects xs (and_parts (nat_lt 0 (length xs) && nat_le (length xs) 16 && is_ascending xs) (list_all (λ x. nat_lt x objects) xs) good).1

module _ (objects : ℕ) (A : List Action) (plain : (k : ℕ) → IsPlain objects (action_at A k)) (ds : List Delivery) (d : Delivery) (count : d.count ≤ length A) (r : IsShown objects A ds d) where
  abbrev all_sent : List ℕ
  all_sent = told_positions ds d.session

  within_all : r.last ≤ length A
  within_all = let l : r.last ≤ d.count = r.accepted in omega arith

  same-reading : with_reading (take d.count A) r.last r.seen ≡ with_reading A r.last r.seen
  same-reading = ap (λ (B : List Action). B ++ reading r.seen ∷ []) (take-take r.last d.count A r.accepted)

  shown-are : d.positions ≡ needed_to_see A d.commit all_sent r.seen r.last
  shown-are = r.positions ∙ ap (λ (B : List Action). up_to r.last (needed_for B d.commit (up_to r.last all_sent) (suc r.last))) same-reading

  shown-head : head_objects d.head ≡ head_to_see objects A d.commit all_sent (known_to objects A ds d) r.seen r.last
  shown-head = r.head ∙ ap (λ (B : List Action). head_for objects B d.commit (up_to r.last all_sent) (known_to objects A ds d) (suc r.last)) same-reading

  pub shown-ascending : is_ascending d.positions ≡ true
  shown-ascending = subst (λ (ks : List ℕ). is_ascending ks ≡ true) (sym shown-are) (see-ascending A d.commit all_sent r.seen r.last)

  -- What reads an object as committed, behind the items or as one of them, has it in the head.
  shown-based : (x : ℕ) → x < objects → is_in x (known_to objects A ds d) ≡ false →
      ((is_in x r.seen ≡ true) × (last_writer A x (suc r.last) ≤ d.commit))
      ⊎ ((k : ℕ) × ((is_in k (needed_to_see A d.commit all_sent r.seen r.last) ≡ true) × ((is_in x (read_set (action_at A k)) ≡ true) × (last_writer A x k ≤ d.commit)))) →
      is_in x (head_objects d.head) ≡ true
  shown-based x small n reads =
      subst (λ (xs : List ℕ). is_in x xs ≡ true) (sym shown-head)
      ((see_head-iff objects A d.commit all_sent (known_to objects A ds d) r.seen r.last x r.low within_all).1 (small, (n, reads)))

  pub shown-serving : IsServing objects A ds d
  shown-serving k m x reads =
      let seen : is_in k (needed_to_see A d.commit all_sent r.seen r.last) ≡ true = subst (λ (ks : List ℕ). is_in k ks ≡ true) shown-are m in
      record {
        later = (see-bounds A d.commit all_sent r.seen r.last k seen).0;
        closed = λ above n. subst (λ (ks : List ℕ). is_in (last_writer A x k) ks ≡ true) (sym shown-are) (see-closed A d.commit all_sent r.seen r.last k x within_all seen reads above n);
        based = λ low n. shown-based x (each-is_in (λ y. y < objects) (read_set (action_at A k)) (plain k).1 x reads) n (inr (k, (seen, (reads, low))));
      }

  -- So is each read of what is seen, just behind the items.
  pub seen-brought : (x : ℕ) → is_in x r.seen ≡ true → IsBrought objects A ds d (suc r.last) x
  seen-brought x m =
      let low : d.commit ≤ r.last = r.low in
      record {
        later = omega arith;
        closed = λ above n. subst (λ (ks : List ℕ). is_in (last_writer A x (suc r.last)) ks ≡ true) (sym shown-are) (see-direct A d.commit all_sent r.seen r.last x within_all m above n);
        based = λ under n. shown-based x (observed-within objects r.seen r.good x m) n (inl (m, under));
      }
