-- What the loop's functions owe, by what their calls tell.
use Rattle.std.proofs.Common.{◌≡◌, ℕ, true, false, List, [], ◌∷◌, ◌++◌, Option, Some, None, sym, subst}
use Rattle.std.specs.Prelude.{Result, Ok, Err, IfSome, IfNone, OnOk, is_err}
use Rattle.sv_living.specs.Sessions.{AreInOrder}
use Rattle.sv_living.specs.World.{WorldView}
use Rattle.sv_ports.specs.declared.numbered.NumberedPlace.{NumberedPlace}
use Rattle.sv_ports.specs.Numbered.{item_of, with_item, without}
use Rattle.sv_keys.specs.Keeping.{KeysView}
use Rattle.sv_office.specs.Entering.{CameOfHeld, GoesOn, IsEndOf, IsReport, KeepsOwn, MayEnter}
use Rattle.sv_office.specs.Offices.{HasBegun}
use Rattle.sv_office.specs.Telling.{IsServedGuest}
use Rattle.sv_office.specs.declared.guest.Guest.{Guest}
use Rattle.sv_host.specs.Rooms.{AreServed, IsServedOut, WasSent}
use Rattle.sv_host.proofs.Guests.{all_stay, emptied_one, end_own, entered_own, held_own, keeps_none, new_in, out_as, out_goes, put_in, taken_out, without_one}

module _ {v : WorldView} {steward : Option ℕ} (n : ℕ) (ps : List (NumberedPlace Guest)) where
  -- One is taken out, where it is there.
  pub took : (o : Option Guest) (qs : List (NumberedPlace Guest)) → o ≡ item_of n ps → qs ≡ with_item n None ps → AreServed v steward ps
      → IfSome o (λ guest. IsServedOut v steward qs guest)
  took None qs is left are = tt
  took (Some guest) qs is left are = subst (λ (xs : List (NumberedPlace Guest)). IsServedOut v steward xs guest) (sym left) (taken_out n ps guest are (sym is))

  pub took_none : (qs : List (NumberedPlace Guest)) → qs ≡ with_item n None ps → AreServed v steward ps → AreServed v steward qs
  took_none qs left are = subst (λ (xs : List (NumberedPlace Guest)). AreServed v steward xs) (sym left) (emptied_one n ps are)

  pub took_or_none : (o : Option Guest) (qs : List (NumberedPlace Guest)) → qs ≡ with_item n None ps → AreServed v steward ps → IfNone o (AreServed v steward qs)
  took_or_none None qs left are = took_none qs left are
  took_or_none (Some guest) qs left are = tt

  -- It is put back.
  pub put_as : (guest : Guest) (qs : List (NumberedPlace Guest)) → qs ≡ with_item n (Some guest) ps → IsServedOut v steward ps guest → AreServed v steward qs
  put_as guest qs is out = subst (λ (xs : List (NumberedPlace Guest)). AreServed v steward xs) (sym is) (put_in n ps guest out)

  -- Its number is gone.
  pub left_as : (guest : Guest) (qs : List (NumberedPlace Guest)) → qs ≡ without n ps → IsServedOut v steward ps guest → AreServed v steward qs
  left_as guest qs is out = subst (λ (xs : List (NumberedPlace Guest)). AreServed v steward xs) (sym is) (without_one n ps out.others)

  -- A new one stands behind.
  pub new_as : {E : Type 0} (guest : Guest) (qs : List (NumberedPlace Guest)) (r : Result Unit E) → is_err r ≡ false
      → OnOk r (qs ≡ ps ++ record { number = n; item = Some guest } ∷ []) → guest.session ≡ None → guest.peer.told ≡ [] → AreServed v steward ps → AreServed v steward qs
  new_as guest qs (Ok u) went is none nothing are = subst (λ (xs : List (NumberedPlace Guest)). AreServed v steward xs) (sym is) (new_in n ps guest are none nothing)
  new_as guest qs (Err e) went is none nothing are = let clash : true ≡ false = went in cc

-- One is sent to, and put back; or there is none.
pub sent_to : (n : ℕ) (ps qs rs : List (NumberedPlace Guest)) (old new : Guest) → Some old ≡ item_of n ps → qs ≡ with_item n None ps → WasSent old new
    → rs ≡ with_item n (Some new) qs → (v : WorldView) (steward : Option ℕ) → AreServed v steward ps → AreServed v steward rs
sent_to n ps qs rs old new is left sent put v steward are =
    put_as n qs new rs put (out_as old new sent.session sent.told sent.standing
    (subst (λ (xs : List (NumberedPlace Guest)). IsServedOut v steward xs old) (sym left) (taken_out n ps old are (sym is))))

pub sent_none : (n : ℕ) (ps qs : List (NumberedPlace Guest)) → qs ≡ with_item n None ps → (v : WorldView) (steward : Option ℕ) → AreServed v steward ps → AreServed v steward qs
sent_none n ps qs left v steward are = took_none n ps qs left are

module _ {v w : WorldView} {steward stewards : Option ℕ} {ps : List (NumberedPlace Guest)} {guest next : Guest} (begun : HasBegun v steward) (order : AreInOrder w.history)
    (same : stewards ≡ steward) (served : IsServedGuest w next) (out : IsServedOut v steward ps guest) where
  -- A connection had its turn.
  pub heard_out : (keys : Option KeysView) (key : Option (List ℕ)) → GoesOn (MayEnter v.history steward guest.session keys key) v w
      → KeepsOwn v.history guest.session next.session → IsServedOut w stewards ps next
  heard_out keys key on keeps =
      out_goes order on ps guest next stewards begun (entered_own v.history steward guest.session keys key) keeps same served out

  -- What was held of it is answered.
  pub released_out : GoesOn (CameOfHeld v.history steward guest.session guest.held) v w → KeepsOwn v.history guest.session next.session → IsServedOut w stewards ps next
  released_out on keeps =
      out_goes order on ps guest next stewards begun (held_own v.history steward guest.session guest.held) keeps same served out

  -- Its session has its End.
  pub ended_out : GoesOn (IsEndOf guest.session) v w → next.session ≡ None → IsServedOut w stewards ps next
  ended_out on none =
      out_goes order on ps guest next stewards begun (end_own v.history steward guest.session)
      (keeps_none v.history guest.session next.session none) same served out

-- The steward reported.
pub reported_all : {v w : WorldView} {steward stewards : Option ℕ} {ps : List (NumberedPlace Guest)} → AreInOrder w.history → GoesOn (IsReport steward) v w → stewards ≡ steward
    → AreServed v steward ps → AreServed w stewards ps
reported_all {stewards = stewards} {ps = ps} order on same are = all_stay order on ps stewards (λ e is. is.0) same are
