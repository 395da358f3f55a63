-- Ends that are entered.
use Rattle.std.proofs.Common.{◌≡◌, ◌≢◌, ◌⊎◌, inl, inr, ℕ, ◌<◌, ◌≤◌, true, false, nat_eq, List, ◌∷◌, ◌++◌, Option, Some, None, refl, sym, ap, ◌∙◌, subst, eq-eqb}
use Rattle.std.proofs.lemmas.Bool.{cases_lt}
use Rattle.std.specs.Option.{ForSome}
use Rattle.std.specs.Prelude.{[]}
use Rattle.sv_world.specs.Control.{below, is_in}
use Rattle.sv_world.proofs.Bases.{is_in-below}
use Rattle.sv_world.proofs.Members.{is_in-filter}
use Rattle.sv_wire.specs.declared.message.Reply.{Reply}
use Rattle.sv_wire.specs.declared.message.Request.TheVariants as requests
use Rattle.sv_journal.specs.declared.entry.Entry.{Entry}
use Rattle.sv_journal.specs.Answer.{Rules}
use Rattle.sv_journal.specs.Living.{Stewardship}
use Rattle.sv_journal.specs.Sessions.{is_end}
use Rattle.sv_journal.specs.Laws.{AreWithinLimits}
use Rattle.sv_living.specs.Sessions.{is_open, next_session, open_sessions, AreInOrder}
use Rattle.sv_living.specs.World.{WorldView}
use Rattle.sv_living.proofs.Turns.{open-parts}
use Rattle.sv_keeper.specs.Opened.{AreEnded}
use Rattle.sv_keeper.specs.Views.{KeeperView}
use Rattle.sv_ports.specs.declared.numbered.NumberedPlace.{NumberedPlace}
use Rattle.sv_office.specs.Entering.{AreAdded, GoesOn, IsEntryOf}
use Rattle.sv_office.specs.Knowing.{IsTrusted, IsUpToDate}
use Rattle.sv_office.specs.Telling.{IsServedIn, WasTold, WereTold}
use Rattle.sv_office.specs.declared.guest.Guest.{Guest}
use Rattle.sv_office.specs.declared.steward.Steward.{Steward}
use Rattle.sv_office.proofs.Adding.{goes_as, goes_nowhere, goes_then}
use Rattle.sv_office.proofs.Orders.{above_next}
use Rattle.sv_office.proofs.Served.{ended_stays}
use Rattle.sv_host.specs.Rooms.{AreServed, AllWereTold, IsAnEnd, WasToldIn}
use Rattle.sv_host.proofs.Places.{same_or_not}

ends : (s : ℕ) (e : Entry) → IsEntryOf s requests.End e → IsAnEnd e
ends s e is = ap is_end is.1

pub no_end : (v : WorldView) → GoesOn IsAnEnd v v
no_end v = goes_nowhere refl

-- A step entered an End, or nothing.
pub end_stepped : {v w x : WorldView} (s : ℕ) → GoesOn IsAnEnd v w → GoesOn (IsEntryOf s requests.End) w x → GoesOn IsAnEnd v x
end_stepped s on next = goes_then on (goes_as (ends s) next)

pub limits_stay : {may : Entry → Type 0} {v w : WorldView} → GoesOn may v w → AreWithinLimits v.rules → AreWithinLimits w.rules
limits_stay on limits = subst AreWithinLimits (sym on.rules) limits

-- Where each session had its End, none is open that was joined as the steward.
pub ended_none : {v w : WorldView} → AreEnded v w → open_sessions w.history ≡ []
ended_none (AreEnded.none none) = none
ended_none (AreEnded.some first rest) = ended_none rest

pub none_open : (h : List Entry) (s : ℕ) → AreInOrder h → open_sessions h ≡ [] → is_open h s ≡ true → ⊥
none_open h s order none lives = let clash : false ≡ true = sym (ap (is_in s) none) ∙ here in cc
  where
    low : (s < next_session h) ⊎ (next_session h ≤ s) → s < next_session h
    low (inl below_it) = below_it
    low (inr high) = let clash : true ≡ false = sym (open-parts h s lives).0 ∙ above_next h order s high in cc

    here : is_in s (open_sessions h) ≡ true
    here = is_in-filter (is_open h) s (below (next_session h)) (is_in-below (next_session h) s (low (cases_lt s (next_session h)))) lives

pub trusted_at_first : {F : Type 0} (keeper : KeeperView F) (steward : Option Steward) → AreInOrder keeper.world.history → open_sessions keeper.world.history ≡ []
    → ((v : WorldView) → ForSome steward (IsUpToDate v)) → IsTrusted keeper steward
trusted_at_first keeper steward order none told = record {
  alone = λ sound s lives joined. absurd (none_open keeper.world.history s order none lives);
  told = told keeper.world;
}

-- ---- What connections were told

-- An End tells its session nothing.
told_ends : {r : Rules} {w : Stewardship} {s : ℕ} {h g : List Entry} {told : List Reply} → AreAdded IsAnEnd h g → WereTold r w s h told → WereTold r w s g told
told_ends AreAdded.none t = t
told_ends {r} {w} {s} {told = told} (AreAdded.one {g = g} {e = e} before m) t = go (same_or_not e.session s) (told_ends before t)
  where
    unlike : nat_eq e.session s ≡ false → e.session ≢ s
    unlike differ same = let clash : true ≡ false = sym (eq-eqb e.session s same) ∙ differ in cc

    go : (e.session ≡ s) ⊎ (nat_eq e.session s ≡ false) → WereTold r w s g told → WereTold r w s (e ∷ g) told
    go (inl same) rest = WereTold.ended same m rest
    go (inr differ) rest = WereTold.other (unlike differ) rest

module _ {v w : WorldView} (on : GoesOn IsAnEnd v w) where
  is_told : (s : ℕ) (guest : Guest) → WasTold v s guest → WasTold w s guest
  is_told s guest t = record {
    rest = t.rest;
    replies = subst (λ (r : Rules). WereTold r w.stewardship s w.history (guest.peer.told ++ t.rest)) (sym on.rules)
        (subst (λ (x : Stewardship). WereTold v.rules x s w.history (guest.peer.told ++ t.rest)) (sym on.stewardship) (told_ends on.added t.replies));
    whole = t.whole;
  }

  was_told : (guest : Guest) (o : Option ℕ) → IsServedIn v guest o → WasToldIn w guest o
  was_told guest (Some s) (lives, t) = is_told s guest t
  was_told guest None (inl nothing) = inl nothing
  was_told guest None (inr (shut, (s, over, t))) = inr (s, ended_stays on.added s over, is_told s guest t)

  pub all_told : {steward : Option ℕ} {guests : List (NumberedPlace Guest)} → AreServed v steward guests → AllWereTold w guests
  all_told are = record { told = λ n guest at. was_told guest guest.session (are.served n guest at) }
