-- Each step keeps the rule, and tells what it is to tell.
use Rattle.std.proofs.Common.{◌≡◌, ◌≢◌, ℕ, ◌+◌, ◌<◌, ◌==◌, cond, true, MatchBool, List, [], ◌∷◌, ◌++◌, map, length, All, Contains, Option, Some, None, set, get_or, sym, refl, ap, ◌∙◌, subst, inl, inr, ⊎_elim, arith, length-set, eq-eqb, ne_eqb}
use mathlib.Core.List.{IsPrefix}
use mathlib.Core.Option.{some, none, some-injective, some-ne-none}
use mathlib.Core.Option as maybe
use lib.ListN.{get_elem?}
use prog.Atomic.{either}
use Rattle.std.proofs.lemmas.List.{set-get_or}
use Rattle.std.proofs.lemmas.List.Elements.{All-nil, All-cons, All-head, All-append, All-push, All-weaker, All-map, All-contains}
use Rattle.atomic_table.specs.Table.{State, Me, Act, keeps, takes, gives, stepped, homes_after, rest, Allows, Splits, Joins, opening, Final, Seen}
use Rattle.atomic_table.proofs.Lists.{set_else, set_again, at_longer, exchanged}
use Rattle.sv_lock.specs.declared.view.SeatView.{SeatView}
use Rattle.sv_lock.specs.declared.view.Stage.TheVariants.{Idle, Holds}
use Rattle.sv_lock.specs.Histories.{entries_of, AreJust, AreBelow}
use Rattle.sv_lock.specs.Holding.{Hand, IsOwn, Knows, IsWithSeat, LockStands, OneHistory, staged, first_keeper, one_more, next_pass, taken_in, spent, Took, tried, renewed, GrowsByStep, MayReturn, returned, learned, ClosesTable}
use Rattle.sv_lock.proofs.Histories.{prefix_self, prefix_none, prefix_trans, other_entry, none_above}
use Rattle.sv_lock.proofs.Seats.{here, snoc, seats_stay, put, put_here, put_else, apart, empty_hand, hand_stays}

-- what is in hand
abbrev pub held_or : {S : Type 0} → S → List (ℕ × S) → S
held_or d [] = d
held_or d (x ∷ xs) = x.1

-- what the two steps that take the object make of the word is not 0
pub exchange_takes : (n : ℕ) → 0 < either (n == 0) 1 n
exchange_takes n = exchanged n 0 1 (λ k. 0 < k) (λ _. omega arith) (λ ne. omega arith)

pub swap_takes : (n : ℕ) → 0 < 2
swap_takes n = omega arith

some_none : (j : ℕ) → Some j ≡ None → ⊥
some_none j e = cc

some_one : (i j : ℕ) → Some i ≡ Some j → i ≡ j
some_one i j e = cc

module _ {S B E : Type 0} (base_of : S → B) (history_of : S → List E) (lawful : B → List E → Type 0) (number_of : E → ℕ) (base : B) where
  abbrev Rule : State S (SeatView B E) → Type 0
  Rule = OneHistory base_of history_of lawful number_of base

  abbrev M : Type 0
  M = Me S (SeatView B E)

  -- a seat that holds nothing may change while the lock stands as it does,
  still : (log : List E) (holder : Option ℕ) (s : State S (SeatView B E)) (id : ℕ) (v w : SeatView B E) → get_elem? s.views id ≡ some v → v.stage ≡ Idle
      → LockStands base_of history_of base log holder s → LockStands base_of history_of base log holder record { words = s.words; homes = s.homes; views = set s.views id w }
  still log None s id v w at idle is = is
  still log (Some j) s id v w at idle is =
      (is.0, is.1, is.2, is.3, is.4, set_else s.views id j w (apart s.views id j v is.4 at is.5 idle is.6) ∙ is.5, is.6)

  -- and a seat may come
  longer : (log : List E) (holder : Option ℕ) (s : State S (SeatView B E)) (w : SeatView B E)
      → LockStands base_of history_of base log holder s → LockStands base_of history_of base log holder record { words = s.words; homes = s.homes; views = s.views ++ w ∷ [] }
  longer log None s w is = is
  longer log (Some j) s w is = (is.0, is.1, is.2, is.3, is.4, at_longer s.views (w ∷ []) j is.4 is.5, is.6)

  -- a seat tries to take the object: the word becomes another than 0
  pub tries : (slots id : ℕ) (f : ℕ → ℕ) (m : M) (x : ℕ × List E) (b : B) → ((n : ℕ) → 0 < f n) → m.0.stage ≡ Idle → m.0.lists ≡ x ∷ [] → m.0.base ≡ Some b
      → Allows Rule slots id m 0 f (tried base_of history_of number_of m)
  tries slots id f m x b more idle owned based s r deep at small = try r.holder refl r.stands
    where
      found : ℕ
      found = get_or s.words 0 0

      k : Knows lawful number_of base r.log r.holder r.keeper r.made r.owner id m.0
      k = r.each_seat id m.0 at

      mine : IsOwn number_of r.log r.made r.owner id x
      mine = All-head (IsOwn number_of r.log r.made r.owner id) x [] (subst (All (IsOwn number_of r.log r.made r.owner id)) owned k.own)

      found_is : (n : ℕ) → s.words ≡ n ∷ [] → found ≡ n
      found_is n is = ap (λ (l : List ℕ). get_or l 0 0) is

      word_now : (n : ℕ) → s.words ≡ n ∷ [] → set s.words 0 (f found) ≡ f found ∷ []
      word_now n is = ap (λ (l : List ℕ). set l 0 (f found)) is

      Told : M → Type 0
      Told m' = tried base_of history_of number_of m found m'

      try : (holder : Option ℕ) → r.holder ≡ holder → LockStands base_of history_of base r.log holder s
          → (w : SeatView B E) × (a : Act S) × Rattle.atomic_table.specs.Table.Valid s.homes m.1 a × Rule (stepped s 0 (f found) id m.1 w a) × Told (w, Rattle.atomic_table.specs.Table.carried_after m.1 a)
      try None no_one free =
          let y : S = free.1 in
          let w : SeatView B E = staged m.0 Holds (history_of y) m.0.lists in
          let m' : M = (w, (0, y) ∷ m.1) in (
            w,
            takes 0 y,
            ap (λ (l : List (maybe.Option S)). get_elem? l 0) free.2,
            record {
              log = r.log;
              holder = Some id;
              keeper = r.keeper;
              made = r.made;
              owner = r.owner;
              start = r.start;
              legal = r.legal;
              below = r.below;
              each_seat = seats_stay (λ j v. Knows lawful number_of base r.log (Some id) r.keeper r.made r.owner j v) s.views id w
                  record {
                    same = k.same;
                    seen = subst (λ (h : List E). IsPrefix h r.log) (sym free.4) (prefix_self r.log);
                    told = k.told;
                    legal = subst (lawful base) (sym free.4) r.legal;
                    hand = (refl, (x.0, mine.1, mine.0), free.4);
                    own = k.own;
                    keeps = k.keeps;
                  }
                  (λ j v other there. let z = r.each_seat j v there in record {
                    same = z.same;
                    seen = z.seen;
                    told = z.told;
                    legal = z.legal;
                    hand = empty_hand r.log r.log r.holder (Some id) r.made r.owner j v.seen v.stage (λ e. some_none j (sym e ∙ no_one)) z.hand;
                    own = z.own;
                    keeps = z.keeps;
                  });
              stands = (f found, more found, word_now 0 free.0, ap (λ (l : List (maybe.Option S)). set l 0 none) free.2, w, here s.views id w m.0 at, refl);
            },
            subst (λ b. MatchBool b (Took base_of history_of number_of m m') (m' ≡ m)) (sym (eq-eqb found 0 (found_is 0 free.0))) record {
              object = y;
              seat = refl;
              base = based ∙ ap Some (k.same b based ∙ sym free.3);
              seen = subst (IsPrefix m.0.seen) (sym free.4) k.seen;
              just = subst (λ (h : List E). AreJust number_of h m.0.lists) (sym free.4) (All-weaker (IsOwn number_of r.log r.made r.owner id) (λ y. entries_of number_of y.0 r.log ≡ y.1) (λ y own. own.2) m.0.lists k.own);
            },
          )
      try (Some j) is taken =
          let ne : found ≢ 0 = (λ e. let same = found_is taken.0 taken.2 in let less = taken.1 in absurd (omega arith)) in (
            m.0,
            keeps,
            tt,
            subst (λ (vs : List (SeatView B E)). Rule record { words = set s.words 0 (f found); homes = s.homes; views = vs }) (sym (set_again s.views id m.0 at)) record {
              log = r.log;
              holder = r.holder;
              keeper = r.keeper;
              made = r.made;
              owner = r.owner;
              start = r.start;
              legal = r.legal;
              below = r.below;
              each_seat = r.each_seat;
              stands = subst (λ h. LockStands base_of history_of base r.log h record { words = set s.words 0 (f found); homes = s.homes; views = s.views }) (sym is)
                  (f found, more found, word_now taken.0 taken.2, taken.3, taken.4, taken.5, taken.6);
            },
            subst (λ b. MatchBool b (Took base_of history_of number_of m m) (m ≡ m)) (sym (ne_eqb found 0 ne)) refl,
          )

  follows_on : (n : ℕ) (seen h : List E) → GrowsByStep number_of n seen h → IsPrefix seen h
  follows_on n seen h (inl e) = subst (IsPrefix seen) (sym e) (prefix_self seen)
  follows_on n seen h (inr e) = (e.0 ∷ [], sym e.1)

  -- what follows is below what the lock has made,
  follows_below : (n made : ℕ) (seen h : List E) → n < made → GrowsByStep number_of n seen h → AreBelow number_of made seen → AreBelow number_of made h
  follows_below n made seen h lt (inl e) below = subst (AreBelow number_of made) (sym e) below
  follows_below n made seen h lt (inr e) below = subst (AreBelow number_of made) (sym e.1)
      (All-push (λ (x : E). number_of x < made) seen e.0 below (let is = e.2 in omega arith))

  -- and another number has the entries that it had
  follows_other : (n k : ℕ) (seen h : List E) → k ≢ n → GrowsByStep number_of n seen h → entries_of number_of k h ≡ entries_of number_of k seen
  follows_other n k seen h other (inl e) = ap (entries_of number_of k) e
  follows_other n k seen h other (inr e) = ap (entries_of number_of k) e.1 ∙ other_entry number_of k seen e.0 (λ q. other (sym q ∙ e.2))

  -- a seat gives the object back
  pub returns : (slots id : ℕ) (m : M) → MayReturn base_of history_of lawful number_of m → Allows Rule slots id m 0 (λ _. 0) (returned history_of number_of m)
  returns slots id m may s r deep at small = (
    w,
    gives,
    tt,
    record {
      log = h;
      holder = None;
      keeper = r.keeper;
      made = r.made;
      owner = r.owner;
      start = r.start;
      legal = legal';
      below = follows_below n r.made r.log h own.1 follows' r.below;
      each_seat = seats_stay (λ j v. Knows lawful number_of base h None r.keeper r.made r.owner j v) s.views id w
          record {
            same = k.same;
            seen = prefix_self h;
            told = prefix_trans m.0.told r.log h k.told goes_on;
            legal = legal';
            hand = tt;
            own = subst (λ (l : List (ℕ × List E)). All (IsOwn number_of h r.made r.owner id) (renewed number_of h l)) (sym may.own)
                (All-cons (IsOwn number_of h r.made r.owner id) (n, entries_of number_of n h) [] (own.0, own.1, refl) (All-nil (IsOwn number_of h r.made r.owner id)));
            keeps = k.keeps;
          }
          (λ j v other there. let z = r.each_seat j v there in record {
            same = z.same;
            seen = prefix_trans v.seen r.log h z.seen goes_on;
            told = prefix_trans v.told r.log h z.told goes_on;
            legal = z.legal;
            hand = empty_hand r.log h r.holder None r.made r.owner j v.seen v.stage (λ e. other (some_one j id (sym e ∙ hand.0))) z.hand;
            own = All-weaker (IsOwn number_of r.log r.made r.owner j) (IsOwn number_of h r.made r.owner j)
                (λ x has. (has.0, has.1, follows_other n x.0 r.log h (λ e. other (sym has.0 ∙ (ap r.owner e ∙ own.0))) follows' ∙ has.2)) v.lists z.own;
            keeps = z.keeps;
          });
      stands = (ap (λ (l : List ℕ). set l 0 0) taken.2, y, homes', is_base, refl);
    },
    λ y' hand'. let q : y ≡ y' = ap (held_or y) (sym may.hand ∙ hand') in
        λ i. (staged m.0 Idle (history_of (q i)) (renewed number_of (history_of (q i)) m.0.lists), ap rest may.hand i),
  )
    where
      y : S
      y = may.object

      n : ℕ
      n = may.number

      h : List E
      h = history_of y

      w : SeatView B E
      w = staged m.0 Idle h (renewed number_of h m.0.lists)

      k : Knows lawful number_of base r.log r.holder r.keeper r.made r.owner id m.0
      k = r.each_seat id m.0 at

      hand : Hand r.log r.holder r.made r.owner id m.0.seen Holds
      hand = subst (Hand r.log r.holder r.made r.owner id m.0.seen) may.holds k.hand

      taken : IsWithSeat id s
      taken = subst (λ o. LockStands base_of history_of base r.log o s) hand.0 r.stands

      follows' : GrowsByStep number_of n r.log h
      follows' = subst (λ (l : List E). GrowsByStep number_of n l h) hand.2 may.follows

      goes_on : IsPrefix r.log h
      goes_on = follows_on n r.log h follows'

      is_base : base_of y ≡ base
      is_base = k.same (base_of y) may.based

      legal' : lawful base h
      legal' = subst (λ (b : B). lawful b h) is_base may.legal

      own : IsOwn number_of r.log r.made r.owner id (n, may.mine)
      own = All-head (IsOwn number_of r.log r.made r.owner id) (n, may.mine) [] (subst (All (IsOwn number_of r.log r.made r.owner id)) may.own k.own)

      homes' : homes_after s.homes m.1 gives ≡ some y ∷ []
      homes' = ap (Rattle.atomic_table.specs.Table.put_back s.homes) may.hand ∙ ap (λ (l : List (maybe.Option S)). set l 0 (some y)) taken.3

  -- the table as it is made
  pub opens : (x : S) → base_of x ≡ base → history_of x ≡ [] → lawful base [] → Rule (opening (0 ∷ []) (x ∷ []) (first_keeper base))
  opens x is_base none_yet legal = record {
    log = [];
    holder = None;
    keeper = 0;
    made = 0;
    owner = λ _. 0;
    start = legal;
    legal = legal;
    below = All-nil (λ (e : E). number_of e < 0);
    each_seat = seats_stay Knew (first_keeper base ∷ []) 0 (first_keeper base)
        record {
          same = λ b e. some_is b base e;
          seen = prefix_self [];
          told = prefix_self [];
          legal = legal;
          hand = tt;
          own = All-nil (IsOwn number_of [] 0 (λ _. 0) 0);
          keeps = λ _. (refl, refl);
        }
        (λ j v other there. absurd (beyond j v other there));
    stands = (refl, x, refl, is_base, none_yet);
  }
    where
      Knew : ℕ → SeatView B E → Type 0
      Knew j v = Knows lawful number_of base [] None 0 0 (λ _. 0) j v

      some_is : (a b : B) → Some b ≡ Some a → a ≡ b
      some_is a b e = cc

      beyond : (j : ℕ) (v : SeatView B E) → j ≢ 0 → get_elem? (first_keeper base ∷ []) j ≡ some v → ⊥
      beyond Rattle.std.proofs.Common.zero v other e = other refl
      beyond (Rattle.std.proofs.Common.suc j) v other e = some-ne-none v (sym e)

  -- the keeper makes one pass more
  pub splits : (id : ℕ) (v : SeatView B E) → v.stage ≡ Idle → v.keeps ≡ true → Splits Rule id v (one_more v) (next_pass v)
  splits id v idle keeping s r at =
      record {
        log = r.log;
        holder = r.holder;
        keeper = r.keeper;
        made = r.made + 1;
        owner = owner';
        start = r.start;
        legal = r.legal;
        below = All-weaker (λ (e : E). number_of e < r.made) (λ (e : E). number_of e < r.made + 1) (λ e lt. omega arith) r.log r.below;
        each_seat = λ j u there. ⊎_elim (seats_stay Knew s.views id (one_more v) keeper' others j u)
            (λ (t : (j ≡ length (set s.views id (one_more v))) × (next_pass v ≡ u)). subst (λ (x : ℕ × SeatView B E). Knew x.0 x.1) (λ i. (sym (t.0 ∙ length-set s.views id (one_more v)) i, t.1 i)) fresh)
            (snoc (set s.views id (one_more v)) (next_pass v) u j there);
        stands = longer r.log r.holder record { words = s.words; homes = s.homes; views = set s.views id (one_more v) } (next_pass v)
            (still r.log r.holder s id v (one_more v) at idle r.stands);
      }
    where
      owner' : ℕ → ℕ
      owner' = put r.owner r.made (length s.views)

      k : Knows lawful number_of base r.log r.holder r.keeper r.made r.owner id v
      k = r.each_seat id v at

      kept : (id ≡ r.keeper) × (v.made ≡ r.made)
      kept = k.keeps keeping

      Knew : ℕ → SeatView B E → Type 0
      Knew j u = Knows lawful number_of base r.log r.holder r.keeper (r.made + 1) owner' j u

      kept_by : (j n : ℕ) → (r.owner n ≡ j) × (n < r.made) → owner' n ≡ j
      kept_by j n has = let lt = has.1 in put_else r.owner r.made (length s.views) n (λ e. omega arith) ∙ has.0

      stays : (j : ℕ) (lists : List (ℕ × List E)) → All (IsOwn number_of r.log r.made r.owner j) lists → All (IsOwn number_of r.log (r.made + 1) owner' j) lists
      stays j lists all = All-weaker (IsOwn number_of r.log r.made r.owner j) (IsOwn number_of r.log (r.made + 1) owner' j)
          (λ x has. (kept_by j x.0 (has.0, has.1), (let lt = has.1 in omega arith), has.2)) lists all

      keeper' : Knew id (one_more v)
      keeper' = record {
        same = k.same;
        seen = k.seen;
        told = k.told;
        legal = k.legal;
        hand = subst (Hand r.log r.holder (r.made + 1) owner' id v.seen) (sym idle) tt;
        own = stays id v.lists k.own;
        keeps = λ _. (kept.0, ap (λ (n : ℕ). n + 1) kept.1);
      }

      others : (j : ℕ) (u : SeatView B E) → j ≢ id → get_elem? s.views j ≡ some u → Knew j u
      others j u other there = let z = r.each_seat j u there in record {
        same = z.same;
        seen = z.seen;
        told = z.told;
        legal = z.legal;
        hand = hand_stays r.log r.holder r.made (r.made + 1) r.owner owner' j u.seen u.stage
            (λ b. (b.0, (let lt = b.1 in omega arith), kept_by j b.0 (b.2, b.1))) z.hand;
        own = stays j u.lists z.own;
        keeps = λ e. absurd (other ((z.keeps e).0 ∙ sym kept.0));
      }

      fresh : Knew (length s.views) (next_pass v)
      fresh = record {
        same = k.same;
        seen = k.seen;
        told = prefix_none r.log;
        legal = k.legal;
        hand = tt;
        own = All-cons (IsOwn number_of r.log (r.made + 1) owner' (length s.views)) (v.made, []) []
            (put_here r.owner r.made (length s.views) v.made kept.1, (let is = kept.1 in omega arith), none_above number_of r.made v.made r.log (let is = kept.1 in omega arith) r.below)
            (All-nil (IsOwn number_of r.log (r.made + 1) owner' (length s.views)));
        keeps = λ e. absurd (cc);
      }

  -- the keeper takes a pass in
  pub joins : (id : ℕ) (v : SeatView B E) (other : ℕ) (w : SeatView B E) → v.stage ≡ Idle → w.stage ≡ Idle → Joins Rule id v other w (taken_in v w) spent
  joins id v other w idle idle' s r at apart_from there =
      record {
        log = r.log;
        holder = r.holder;
        keeper = r.keeper;
        made = r.made;
        owner = owner';
        start = r.start;
        legal = r.legal;
        below = r.below;
        each_seat = seats_stay Knew vs other spent gone (λ j u j_other at'. seats_stay (λ i z. i ≢ other → Knew i z) s.views id (taken_in v w) (λ _. keeper') others j u at' j_other);
        stands = still r.log r.holder record { words = s.words; homes = s.homes; views = vs } other w spent there idle'
            (still r.log r.holder s id v (taken_in v w) at idle r.stands);
      }
    where
      vs : List (SeatView B E)
      vs = set s.views id (taken_in v w)

      owner' : ℕ → ℕ
      owner' n = cond (r.owner n == other) id (r.owner n)

      Knew : ℕ → SeatView B E → Type 0
      Knew j u = Knows lawful number_of base r.log r.holder r.keeper r.made owner' j u

      k : Knows lawful number_of base r.log r.holder r.keeper r.made r.owner id v
      k = r.each_seat id v at

      z : Knows lawful number_of base r.log r.holder r.keeper r.made r.owner other w
      z = r.each_seat other w (sym (set_else s.views id other (taken_in v w) apart_from) ∙ there)

      moved : (n : ℕ) → r.owner n ≡ other → owner' n ≡ id
      moved n e = ap (λ b. cond b id (r.owner n)) (eq-eqb (r.owner n) other e)

      stayed : (j n : ℕ) → j ≢ other → r.owner n ≡ j → owner' n ≡ j
      stayed j n ne e = ap (λ b. cond b id (r.owner n)) (ne_eqb (r.owner n) other (λ q. ne (sym e ∙ q))) ∙ e

      gone : Knew other spent
      gone = record {
        same = λ b e. absurd (cc);
        seen = prefix_none r.log;
        told = prefix_none r.log;
        legal = r.start;
        hand = tt;
        own = All-nil (IsOwn number_of r.log r.made owner' other);
        keeps = λ e. absurd (cc);
      }

      keeper' : Knew id (taken_in v w)
      keeper' = record {
        same = k.same;
        seen = k.seen;
        told = z.seen;
        legal = k.legal;
        hand = subst (Hand r.log r.holder r.made owner' id v.seen) (sym idle) tt;
        own = All-append (IsOwn number_of r.log r.made owner' id) v.lists w.lists
            (All-weaker (IsOwn number_of r.log r.made r.owner id) (IsOwn number_of r.log r.made owner' id) (λ x has. (stayed id x.0 (λ e. apart_from (sym e)) has.0, has.1, has.2)) v.lists k.own)
            (All-weaker (IsOwn number_of r.log r.made r.owner other) (IsOwn number_of r.log r.made owner' id) (λ x has. (moved x.0 has.0, has.1, has.2)) w.lists z.own);
        keeps = k.keeps;
      }

      others : (j : ℕ) (u : SeatView B E) → j ≢ id → get_elem? s.views j ≡ some u → j ≢ other → Knew j u
      others j u _ at' ne = let y = r.each_seat j u at' in record {
        same = y.same;
        seen = y.seen;
        told = y.told;
        legal = y.legal;
        hand = hand_stays r.log r.holder r.made r.made r.owner owner' j u.seen u.stage (λ b. (b.0, b.1, stayed j b.0 ne b.2)) y.hand;
        own = All-weaker (IsOwn number_of r.log r.made r.owner j) (IsOwn number_of r.log r.made owner' j) (λ x has. (stayed j x.0 ne has.0, has.1, has.2)) u.lists y.own;
        keeps = y.keeps;
      }

  -- a seat sees the whole history
  pub learns : (slots id : ℕ) (m : M) → m.0.stage ≡ Idle → Allows Rule slots id m 0 (λ n. n) (learned lawful number_of m)
  learns slots id m idle s r deep at small =
      let w : SeatView B E = staged m.0 Idle r.log m.0.lists in
      let k = r.each_seat id m.0 at in (
        w,
        keeps,
        tt,
        subst (λ (ws : List ℕ). Rule record { words = ws; homes = s.homes; views = set s.views id w }) (sym (set-get_or s.words 0 0)) record {
          log = r.log;
          holder = r.holder;
          keeper = r.keeper;
          made = r.made;
          owner = r.owner;
          start = r.start;
          legal = r.legal;
          below = r.below;
          each_seat = seats_stay (λ j v. Knows lawful number_of base r.log r.holder r.keeper r.made r.owner j v) s.views id w
              record { same = k.same; seen = prefix_self r.log; told = k.told; legal = r.legal; hand = tt; own = k.own; keeps = k.keeps }
              (λ j v other there. r.each_seat j v there);
          stands = still r.log r.holder s id m.0 w at idle r.stands;
        },
        record {
          log = r.log;
          seat = refl;
          seen = k.seen;
          told = k.told;
          just = All-weaker (IsOwn number_of r.log r.made r.owner id) (λ y. entries_of number_of y.0 r.log ≡ y.1) (λ y own. own.2) m.0.lists k.own;
          legal = λ b is. subst (λ (c : B). lawful c r.log) (sym (k.same b is)) r.legal;
          below = λ e. subst (λ (n : ℕ). AreBelow number_of n r.log) (sym (k.keeps e).1) r.below;
        },
      )

  -- all passes are joined, and the object comes out
  pub closes : (id : ℕ) (v : SeatView B E) (b : B) (ws : List ℕ) (xs : List S) (x : S) → v.stage ≡ Idle → v.keeps ≡ true → v.base ≡ Some b
      → ((n : ℕ) → n < v.made → Contains (map (λ (y : ℕ × List E). y.0) v.lists) n)
      → Final (Seen Rule id v) ws xs → get_elem? xs 0 ≡ some x → ClosesTable base_of history_of lawful number_of v x
  closes id v b ws xs x idle keeping based all f at_x = ends f.0 f.1.0 f.1.1 f.4 f.1.0.holder f.1.0.stands
    where
      ends : (s : State S (SeatView B E)) (r : Rule s) → get_elem? s.views id ≡ some v → ((k : ℕ) (y : S) → get_elem? s.homes k ≡ some (some y) → get_elem? xs k ≡ some y)
          → (holder : Option ℕ) → LockStands base_of history_of base r.log holder s → ClosesTable base_of history_of lawful number_of v x
      ends s r at kept None free =
          let k = r.each_seat id v at in
          let same : free.1 ≡ x = some-injective free.1 x (sym (kept 0 free.1 (ap (λ (l : List (maybe.Option S)). get_elem? l 0) free.2)) ∙ at_x) in
          let is_log : r.log ≡ history_of x = sym free.4 ∙ ap history_of same in
          let is_base : base ≡ base_of x = sym free.3 ∙ ap base_of same in record {
            same = based ∙ ap Some (k.same b based ∙ is_base);
            seen = subst (IsPrefix v.seen) is_log k.seen;
            just = subst (λ (h : List E). AreJust number_of h v.lists) is_log
                (All-weaker (IsOwn number_of r.log r.made r.owner id) (λ y. entries_of number_of y.0 r.log ≡ y.1) (λ y own. own.2) v.lists k.own);
            below = subst (λ (q : ℕ × List E). AreBelow number_of q.0 q.1) (λ i. (sym (k.keeps keeping).1 i, is_log i)) r.below;
            legal = subst (λ (q : B × List E). lawful q.0 q.1) (λ i. (is_base i, is_log i)) r.legal;
          }
      ends s r at kept (Some j) taken =
          let k = r.each_seat id v at in
          let holder = r.each_seat j taken.4 taken.5 in
          let hand : Hand r.log r.holder r.made r.owner j taken.4.seen Holds = subst (Hand r.log r.holder r.made r.owner j taken.4.seen) taken.6 holder.hand in
          let busy = hand.1 in
          let owners : All (λ (n : ℕ). r.owner n ≡ id) (map (λ (y : ℕ × List E). y.0) v.lists) =
          All-map (λ (n : ℕ). r.owner n ≡ id) (λ (y : ℕ × List E). y.0) v.lists
          (All-weaker (IsOwn number_of r.log r.made r.owner id) (λ y. r.owner y.0 ≡ id) (λ y own. own.0) v.lists k.own) in
          let other : j ≢ id = apart s.views id j v taken.4 at taken.5 idle taken.6 in
          absurd (other (sym busy.2 ∙ All-contains (λ (n : ℕ). r.owner n ≡ id) (map (λ (y : ℕ × List E). y.0) v.lists) busy.0 owners
          (all busy.0 (let lt = busy.1 in let is = (k.keeps keeping).1 in omega arith))))
