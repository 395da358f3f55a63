-- The connections of a world, as it goes on.
use Rattle.std.proofs.Common.{◌≡◌, ◌≢◌, ◌⊎◌, inl, inr, ℕ, Bool, true, false, not, nat_eq, List, [], ◌∷◌, ◌++◌, Option, Some, None, sym, ap, ◌∙◌, subst}
use Rattle.std.proofs.lemmas.Bool.{and_parts}
use Rattle.sv_journal.specs.declared.entry.Entry.{Entry}
use Rattle.sv_journal.specs.Sessions.{is_ended}
use Rattle.sv_core.specs.Rows.{has_entry}
use Rattle.sv_living.specs.Sessions.{AreInOrder}
use Rattle.sv_living.specs.World.{WorldView}
use Rattle.sv_ports.specs.declared.numbered.NumberedPlace.{NumberedPlace}
use Rattle.sv_ports.specs.Numbered.{item_of, with_item, without}
use Rattle.sv_keys.specs.Keeping.{KeysView}
use Rattle.sv_office.specs.Entering.{AsksIn, CameOfHeld, GoesOn, IsEndOf, IsOf, KeepsOwn, MayEnter}
use Rattle.sv_office.specs.Offices.{IsNotStewards, HasBegun}
use Rattle.sv_office.specs.Telling.{IsServedGuest, IsServedIn, is_gone}
use Rattle.sv_office.specs.declared.guest.Guest.{Guest}
use Rattle.sv_office.specs.declared.guest.Held.{Held}
use Rattle.sv_office.specs.declared.guest.Standing.TheVariants as standing
use Rattle.sv_office.proofs.Served.{served_stays, served_as}
use Rattle.sv_office.proofs.Asking.{apart_stays}
use Rattle.sv_host.specs.Rooms.{AreServed, IsServedOut}
use Rattle.sv_host.proofs.Places.{same_or_not, other_item, own_item, pushed_item, left_item, none_left}

pub one : {A : Type 0} {x y : A} → Some x ≡ Some y → x ≡ y
one e = cc

none_some : {A : Type 0} {x : A} → None ≡ Some x → ⊥
none_some e = cc

pub never : {A B : Type 0} {x : A} → None ≡ Some x → B
never e = absurd (none_some e)

-- All that lie here lie there too.
abbrev pub IsPart : List (NumberedPlace Guest) → List (NumberedPlace Guest) → Type 0
IsPart some all = (n : ℕ) (guest : Guest) → item_of n some ≡ Some guest → item_of n all ≡ Some guest

part_served : {v : WorldView} {steward : Option ℕ} {some all : List (NumberedPlace Guest)} → IsPart some all → AreServed v steward all → AreServed v steward some
part_served within are = record {
  served = λ n guest at. are.served n guest (within n guest at);
  apart = λ n guest at. are.apart n guest (within n guest at);
  distinct = λ n m s a b at to. are.distinct n m s a b (within n a at) (within m b to);
}

pub emptied : (n : ℕ) (ps : List (NumberedPlace Guest)) → IsPart (with_item n None ps) ps
emptied n ps m guest at = go (same_or_not m n)
  where
    none_at : m ≡ n → item_of m (with_item n None ps) ≡ None
    none_at same = subst (λ (k : ℕ). item_of k (with_item n None ps) ≡ None) (sym same) (both (own_item n None ps))
      where
        both : (item_of n (with_item n None ps) ≡ None) ⊎ (item_of n (with_item n None ps) ≡ None) → item_of n (with_item n None ps) ≡ None
        both (inl e) = e
        both (inr e) = e

    go : (m ≡ n) ⊎ (nat_eq m n ≡ false) → item_of m ps ≡ Some guest
    go (inl same) = never (sym (none_at same) ∙ at)
    go (inr differ) = sym (other_item n m None ps differ) ∙ at

pub fewer : (n : ℕ) (ps : List (NumberedPlace Guest)) → IsPart (without n ps) ps
fewer n ps m guest at = go (same_or_not m n)
  where
    go : (m ≡ n) ⊎ (nat_eq m n ≡ false) → item_of m ps ≡ Some guest
    go (inl same) = never (sym (subst (λ (k : ℕ). item_of k (without n ps) ≡ None) (sym same) (none_left n ps)) ∙ at)
    go (inr differ) = sym (left_item n m ps differ) ∙ at

pub without_one : {v : WorldView} {steward : Option ℕ} (n : ℕ) (ps : List (NumberedPlace Guest)) → AreServed v steward ps → AreServed v steward (without n ps)
without_one n ps are = part_served (fewer n ps) are

pub emptied_one : {v : WorldView} {steward : Option ℕ} (n : ℕ) (ps : List (NumberedPlace Guest)) → AreServed v steward ps → AreServed v steward (with_item n None ps)
emptied_one n ps are = part_served (emptied n ps) are

-- One is taken out.
pub taken_out : {v : WorldView} {steward : Option ℕ} (n : ℕ) (ps : List (NumberedPlace Guest)) (guest : Guest) → AreServed v steward ps → item_of n ps ≡ Some guest
    → IsServedOut v steward (with_item n None ps) guest
taken_out n ps guest are at = record {
  others = emptied_one n ps are;
  served = are.served n guest at;
  apart = are.apart n guest at;
  other = λ m s b there is mine. alone m b there (are.distinct m n s b guest (emptied n ps m b there) at is mine);
}
  where
    alone : (m : ℕ) (b : Guest) → item_of m (with_item n None ps) ≡ Some b → m ≡ n → ⊥
    alone m b there same = never (sym (none_at (own_item n None ps)) ∙ subst (λ (k : ℕ). item_of k (with_item n None ps) ≡ Some b) same there)
      where
        none_at : (item_of n (with_item n None ps) ≡ None) ⊎ (item_of n (with_item n None ps) ≡ None) → item_of n (with_item n None ps) ≡ None
        none_at (inl e) = e
        none_at (inr e) = e

-- Where one lies after one was put: it is that one, or lay there before.
pub put_at : (n : ℕ) (guest : Guest) (ps : List (NumberedPlace Guest)) (m : ℕ) (b : Guest) → item_of m (with_item n (Some guest) ps) ≡ Some b
    → ((m ≡ n) × (b ≡ guest)) ⊎ (item_of m ps ≡ Some b)
put_at n guest ps m b at = go (same_or_not m n)
  where
    is : m ≡ n → item_of n (with_item n (Some guest) ps) ≡ Some b
    is same = subst (λ (k : ℕ). item_of k (with_item n (Some guest) ps) ≡ Some b) same at

    own : item_of n (with_item n (Some guest) ps) ≡ Some b → (item_of n (with_item n (Some guest) ps) ≡ Some guest) ⊎ (item_of n (with_item n (Some guest) ps) ≡ None) → b ≡ guest
    own e (inl f) = one (sym e ∙ f)
    own e (inr f) = never (sym f ∙ e)

    go : (m ≡ n) ⊎ (nat_eq m n ≡ false) → ((m ≡ n) × (b ≡ guest)) ⊎ (item_of m ps ≡ Some b)
    go (inl same) = inl (same, own (is same) (own_item n (Some guest) ps))
    go (inr differ) = inr (sym (other_item n m (Some guest) ps differ) ∙ at)

module _ {v : WorldView} {steward : Option ℕ} (n : ℕ) (ps qs : List (NumberedPlace Guest)) (guest : Guest) (out : IsServedOut v steward ps guest)
    (at : (m : ℕ) (b : Guest) → item_of m qs ≡ Some b → ((m ≡ n) × (b ≡ guest)) ⊎ (item_of m ps ≡ Some b)) where
  is_served : (m : ℕ) (b : Guest) → ((m ≡ n) × (b ≡ guest)) ⊎ (item_of m ps ≡ Some b) → IsServedGuest v b
  is_served m b (inl (same, is)) = subst (λ (x : Guest). IsServedGuest v x) (sym is) out.served
  is_served m b (inr there) = out.others.served m b there

  is_apart : (m : ℕ) (b : Guest) → ((m ≡ n) × (b ≡ guest)) ⊎ (item_of m ps ≡ Some b) → IsNotStewards b.session steward
  is_apart m b (inl (same, is)) = subst (λ (x : Guest). IsNotStewards x.session steward) (sym is) out.apart
  is_apart m b (inr there) = out.others.apart m b there

  are_one : (k m s : ℕ) (a b : Guest) → ((k ≡ n) × (a ≡ guest)) ⊎ (item_of k ps ≡ Some a) → ((m ≡ n) × (b ≡ guest)) ⊎ (item_of m ps ≡ Some b)
      → a.session ≡ Some s → b.session ≡ Some s → k ≡ m
  are_one k m s a b (inl x) (inl y) f g = x.0 ∙ sym y.0
  are_one k m s a b (inl x) (inr y) f g = absurd (out.other m s b y g (sym (ap (λ (z : Guest). z.session) x.1) ∙ f))
  are_one k m s a b (inr x) (inl y) f g = absurd (out.other k s a x f (sym (ap (λ (z : Guest). z.session) y.1) ∙ g))
  are_one k m s a b (inr x) (inr y) f g = out.others.distinct k m s a b x y f g

  joined : AreServed v steward qs
  joined = record {
    served = λ m b there. is_served m b (at m b there);
    apart = λ m b there. is_apart m b (at m b there);
    distinct = λ k m s a b x y. are_one k m s a b (at k a x) (at m b y);
  }

-- One that was taken out is put back.
pub put_in : {v : WorldView} {steward : Option ℕ} (n : ℕ) (ps : List (NumberedPlace Guest)) (guest : Guest) → IsServedOut v steward ps guest
    → AreServed v steward (with_item n (Some guest) ps)
put_in n ps guest out = joined n ps (with_item n (Some guest) ps) guest out (put_at n guest ps)

-- A new one has no session, and was told nothing.
pub new_in : {v : WorldView} {steward : Option ℕ} (n : ℕ) (ps : List (NumberedPlace Guest)) (guest : Guest) → AreServed v steward ps → guest.session ≡ None
    → guest.peer.told ≡ [] → AreServed v steward (ps ++ record { number = n; item = Some guest } ∷ [])
new_in {v} {steward} n ps guest are none nothing = joined n ps (ps ++ record { number = n; item = Some guest } ∷ []) guest out at
  where
    out : IsServedOut v steward ps guest
    out = record {
      others = are;
      served = subst (λ (o : Option ℕ). IsServedIn v guest o) (sym none) (inl nothing);
      apart = λ s mine stewards. never (sym none ∙ mine);
      other = λ m s b there is mine. never (sym none ∙ mine);
    }

    at : (m : ℕ) (b : Guest) → item_of m (ps ++ record { number = n; item = Some guest } ∷ []) ≡ Some b → ((m ≡ n) × (b ≡ guest)) ⊎ (item_of m ps ≡ Some b)
    at m b there = go (pushed_item m (record { number = n; item = Some guest }) ps b there)
      where
        go : (item_of m ps ≡ Some b) ⊎ ((m ≡ n) × (Some guest ≡ Some b)) → ((m ≡ n) × (b ≡ guest)) ⊎ (item_of m ps ≡ Some b)
        go (inl before) = inr before
        go (inr (same, is)) = inl (same, sym (one is))

-- Entries of the steward, or of the session in which one asks.
abbrev pub AreOwn : List Entry → Option ℕ → Option ℕ → (Entry → Type 0) → Type 0
AreOwn h steward mine may = (e : Entry) → may e → IsOf steward e ⊎ AsksIn h mine e.session

has_begun : (v : WorldView) (guest : Guest) (s : ℕ) → IsServedGuest v guest → guest.session ≡ Some s → has_entry v.history s ≡ true
has_begun v guest s served is = go (subst (λ (o : Option ℕ). IsServedIn v guest o) is served)
  where
    go : IsServedIn v guest (Some s) → has_entry v.history s ≡ true
    go (lives, told) = (and_parts (has_entry v.history s) (not (is_ended v.history s)) lives).0

clashes : {b : Bool} → b ≡ true → b ≡ false → ⊥
clashes t f = let e : true ≡ false = sym t ∙ f in cc

module _ {may : Entry → Type 0} {v w : WorldView} {steward : Option ℕ} (order : AreInOrder w.history) (on : GoesOn may v w) where
  pub others_stay : (ps : List (NumberedPlace Guest)) (mine : Option ℕ) → AreOwn v.history steward mine may
      → ((n s : ℕ) (b : Guest) → item_of n ps ≡ Some b → b.session ≡ Some s → mine ≡ Some s → ⊥) → AreServed v steward ps → AreServed w steward ps
  others_stay ps mine own other are = record {
    served = λ n guest at. served_stays guest order on (λ e s is m same. differ n guest s at is e (own e m) same) (are.served n guest at);
    apart = are.apart;
    distinct = are.distinct;
  }
    where
      differ : (n : ℕ) (guest : Guest) (s : ℕ) → item_of n ps ≡ Some guest → guest.session ≡ Some s → (e : Entry) → IsOf steward e ⊎ AsksIn v.history mine e.session
          → e.session ≡ s → ⊥
      differ n guest s at is e (inl stewards) same = are.apart n guest at s is (stewards ∙ ap Some same)
      differ n guest s at is e (inr (inl mine_is)) same = other n s guest at is (mine_is ∙ ap Some same)
      differ n guest s at is e (inr (inr fresh)) same =
          clashes (has_begun v guest s (are.served n guest at) is) (sym (ap (has_entry v.history) same) ∙ fresh.1)

  -- One that was taken out had its turn.
  pub out_goes : (ps : List (NumberedPlace Guest)) (guest next : Guest) (stewards : Option ℕ) → HasBegun v steward → AreOwn v.history steward guest.session may
      → KeepsOwn v.history guest.session next.session → stewards ≡ steward → IsServedGuest w next → IsServedOut v steward ps guest → IsServedOut w stewards ps next
  out_goes ps guest next stewards begun own keeps same served out = subst (λ (o : Option ℕ). IsServedOut w o ps next) (sym same) (record {
    others = others_stay ps guest.session own out.other out.others;
    served = served;
    apart = apart_stays v begun out.apart keeps;
    other = λ n s b at is mine. apart n s b at is (keeps s mine);
  })
    where
      apart : (n s : ℕ) (b : Guest) → item_of n ps ≡ Some b → b.session ≡ Some s → AsksIn v.history guest.session s → ⊥
      apart n s b at is (inl mine) = out.other n s b at is mine
      apart n s b at is (inr fresh) = clashes (has_begun v b s (out.others.served n b at) is) fresh.1

  -- The steward reported.
  pub all_stay : (ps : List (NumberedPlace Guest)) (stewards : Option ℕ) → ((e : Entry) → may e → IsOf steward e) → stewards ≡ steward → AreServed v steward ps
      → AreServed w stewards ps
  all_stay ps stewards own same are = subst (λ (o : Option ℕ). AreServed w o ps) (sym same)
      (others_stay ps None (λ e m. inl (own e m)) (λ n s b at is mine. never mine) are)

-- One that was taken out was told nothing more.
pub out_as : {v : WorldView} {steward : Option ℕ} {ps : List (NumberedPlace Guest)} (old new : Guest) → new.session ≡ old.session → new.peer.told ≡ old.peer.told
    → (new.standing ≡ old.standing) ⊎ (new.standing ≡ standing.Gone) → IsServedOut v steward ps old → IsServedOut v steward ps new
out_as {v} {steward} {ps} old new same told stands out = record {
  others = out.others;
  served = served_as v old new same told (here stands) (shut stands) out.served;
  apart = subst (λ (o : Option ℕ). IsNotStewards o steward) (sym same) out.apart;
  other = λ n s b at is mine. out.other n s b at is (sym same ∙ mine);
}
  where
    here : (new.standing ≡ old.standing) ⊎ (new.standing ≡ standing.Gone) → is_gone new.standing ≡ false → is_gone old.standing ≡ false
    here (inl kept) f = ap is_gone (sym kept) ∙ f
    here (inr gone) f = absurd (clashes (ap is_gone gone) f)

    shut : (new.standing ≡ old.standing) ⊎ (new.standing ≡ standing.Gone) → old.standing ≢ standing.Open → new.standing ≢ standing.Open
    shut (inl kept) f e = f (sym kept ∙ e)
    shut (inr gone) f e = clashes (ap is_gone gone) (ap is_gone e)

pub entered_own : (h : List Entry) (steward mine : Option ℕ) (keys : Option KeysView) (key : Option (List ℕ)) → AreOwn h steward mine (MayEnter h steward mine keys key)
entered_own h steward mine keys key e (inl report) = inl report.0
entered_own h steward mine keys key e (inr (own, what)) = inr own

pub held_own : (h : List Entry) (steward mine : Option ℕ) (held : Option Held) → AreOwn h steward mine (CameOfHeld h steward mine held)
held_own h steward mine held e (inl report) = inl report.0
held_own h steward mine held e (inr (own, came)) = inr own

pub end_own : (h : List Entry) (steward mine : Option ℕ) → AreOwn h steward mine (IsEndOf mine)
end_own h steward mine e is = inr (inl is.0)

pub keeps_none : (h : List Entry) (mine after : Option ℕ) → after ≡ None → KeepsOwn h mine after
keeps_none h mine after none s is = never (sym none ∙ is)
