-- What follows a reply.
use Rattle.std.proofs.Common.{◌≡◌, ◌≢◌, inl, inr, ℕ, Bool, true, List, length, Option, Some, refl, subst}
use Rattle.std.specs.Prelude.{Result, Ok, Err, OnOk}
use Rattle.sv_wire.specs.declared.message.Request.{Request}
use Rattle.sv_journal.specs.declared.entry.Entry.{Entry}
use Rattle.sv_living.specs.World.{WorldView, after}
use Rattle.sv_journal.specs.History.{accepted}
use Rattle.sv_office.specs.Entering.{AsksIn, WasReported, IsEnded, WasFollowed, WasAnswered}

module _ {steward : Option ℕ} {authority : Bool} {last : ℕ} {mine now : Option ℕ} {h g : List Entry} where
  -- Without authority, or where nothing was accepted, no report has to stand there.
  pub unreported : (authority ≡ true → length (accepted h) ≢ last → ⊥) → IsEnded mine now h g → WasFollowed steward authority last mine now h g
  unreported never ended = record { middle = h; reported = inl refl; at_once = λ a l. absurd (never a l); ended = ended }

  pub followed_report : {middle : List Entry} → WasReported steward h middle → IsEnded mine now middle g → WasFollowed steward authority last mine now h g
  followed_report {middle} reported ended = record { middle = middle; reported = inr reported; at_once = λ a l. reported; ended = ended }

-- A request that was stepped, and what followed its reply.
pub stepped_once : {steward : Option ℕ} {authority : Bool} {last : ℕ} {mine now own : Option ℕ} (v mid w : WorldView) (s : ℕ) (request : Request) → mid ≡ after v s request
    → last ≡ length (accepted v.history) → mine ≡ Some s → AsksIn v.history own s → WasFollowed steward authority last mine now mid.history w.history
    → WasAnswered steward authority own now v w request
stepped_once {steward} {authority} {last} {mine} {now} v mid w s request world last_is has asks followed = inr (record {
  session = s;
  asks = asks;
  followed =
      subst (λ (n : ℕ). WasFollowed steward authority n (Some s) now (after v s request).history w.history) last_is
      (subst (λ (o : Option ℕ). WasFollowed steward authority last o now (after v s request).history w.history) has
      (subst (λ (x : WorldView). WasFollowed steward authority last mine now x.history w.history) world followed));
})

-- Nothing was entered, and then maybe the End of the session.
pub answered_ended : {A E : Type 0} (r : Result A E) (steward : Option ℕ) (authority : Bool) (mine own now : Option ℕ) (v mid w : WorldView) (request : Request) → own ≡ mine
    → mid ≡ v → OnOk r (IsEnded own now mid.history w.history) → OnOk r (WasAnswered steward authority mine now v w request)
answered_ended (Err e) steward authority mine own now v mid w request same still ended = tt
answered_ended (Ok a) steward authority mine own now v mid w request same still ended =
    inl (subst (λ (x : WorldView). IsEnded mine now x.history w.history) still (subst (λ (o : Option ℕ). IsEnded o now mid.history w.history) same ended))
