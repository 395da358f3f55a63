-- What was written through a door.
use Rattle.std.proofs.Common.{◌≡◌, ℕ, ◌<◌, Bool, true, false, ◌&&◌, not, List, [], Some, refl, sym, ap₂, ◌∙◌, subst, arith}
use Rattle.sv_journal.specs.declared.entry.Entry.{Entry}
use Rattle.sv_journal.specs.Living.{living}
use Rattle.sv_journal.specs.Serving.{LegalFor}
use Rattle.sv_journal.specs.Sessions.{is_ended}
use Rattle.sv_core.specs.Rows.{has_entry}
use Rattle.sv_living.specs.Sessions.{AreInOrder, is_open, open_sessions}
use Rattle.sv_living.specs.World.{WorldView}
use Rattle.sv_living.proofs.Turns.{open-parts}
use Rattle.sv_ports.specs.Traffic.{Traffic, nothing_told}
use Rattle.sv_ports.specs.declared.numbered.NumberedPlace.{NumberedPlace}
use Rattle.sv_office.specs.declared.guest.Guest.{Guest}
use Rattle.sv_keeper.specs.Views.{KeeperView}
use Rattle.sv_office.specs.Entering.{AreAdded}
use Rattle.sv_office.specs.Telling.{IsServedIn}
use Rattle.sv_office.proofs.Adding.{goes_nowhere}
use Rattle.sv_office.proofs.Served.{ended_stays}
use Rattle.sv_host.specs.Inputs.{WasToldToStop}
use Rattle.sv_host.specs.Rooms.{AnyEntry, AreWritten, Continues, HaveBegun, WereWritten}
use Rattle.sv_host.specs.Served.{HostBreaksOff, OnlyWrote}
use Rattle.sv_host.proofs.Ends.{none_open}
use Rattle.sv_host.proofs.Guests.{never}
use Rattle.sv_host.proofs.Written.{were_since}

-- Nobody is there, and nobody was.
pub none_written : (v : WorldView) (told : Traffic) (guests : List (NumberedPlace Guest)) → told ≡ nothing_told → guests ≡ [] → AreWritten v told guests
none_written v told guests nothing none =
    subst (λ (t : Traffic). AreWritten v t guests) (sym nothing) (subst (λ (ps : List (NumberedPlace Guest)). AreWritten v nothing_told ps) (sym none) (record {
      sent = λ n guest at. never at;
      in_step = λ n guest at. never at;
      known = λ n guest at. never at;
      gone = λ n differ low out. absurd (omega (arith, low));
      unused = λ n high. refl;
    }))

-- Nothing was told.
pub nothing_wrote : {may : Entry → Type 0} (v w : WorldView) (before after : Traffic) → after ≡ before → Continues v w → OnlyWrote may before after v w
nothing_wrote {may} v w before after same on fresh = subst (λ (t : Traffic). WereWritten may t v w) (sym (same ∙ fresh)) (record {
  before = w;
  since = on;
  written = record {
    each = λ n low. absurd (omega (arith, low));
    distinct = λ n m s low also has is. absurd (omega (arith, low));
    unused = λ n high. refl;
  };
  goes = goes_nowhere refl;
})

pub between_asked : (before first last after : Traffic) → (before ≡ nothing_told → first ≡ nothing_told) → (first ≡ nothing_told → WasToldToStop last) → after ≡ last
    → before ≡ nothing_told → WasToldToStop after
between_asked before first last after new asked is fresh = subst WasToldToStop (sym is) (asked (new fresh))

-- What was lent came back.
pub told_at : {A : Type 0} {may : Entry → Type 0} {v w : WorldView} (told : A → Traffic) (a b : A) → WereWritten may (told a) v w → b ≡ a → WereWritten may (told b) v w
told_at {A} {may} {v} {w} told a b were same = subst (λ (x : A). WereWritten may (told x) v w) (sym same) were

-- A world went on before.
pub wrote_since : {may : Entry → Type 0} {u v w : WorldView} (before after : Traffic) → Continues u v → OnlyWrote may before after v w → OnlyWrote may before after u w
wrote_since before after on wrote fresh = were_since on (wrote fresh)

-- A door was opened, and closed.
pub between_wrote : {may : Entry → Type 0} {v w : WorldView} (before first last after : Traffic) → (before ≡ nothing_told → first ≡ nothing_told)
    → OnlyWrote may first last v w → after ≡ last → OnlyWrote may before after v w
between_wrote {may} {v} {w} before first last after new wrote is fresh = subst (λ (t : Traffic). WereWritten may t v w) (sym is) (wrote (new fresh))

-- Where no session was open before, those that are had no entry then.
pub begun_since : {may : Entry → Type 0} {told : Traffic} {v w : WorldView} → AreInOrder v.history → open_sessions v.history ≡ [] → (were : WereWritten may told v w) → HaveBegun were
begun_since {told = told} {v = v} order none were n s low has = go (has_entry v.history s) (is_ended v.history s) refl refl
  where
    guest : Guest
    guest = (were.written.each n low).guest

    lives : is_open were.before.history s ≡ true
    lives = (subst (IsServedIn were.before guest) has (were.written.each n low).served).0

    open_by : has_entry v.history s ≡ true → is_ended v.history s ≡ false → is_open v.history s ≡ true
    open_by here over = ap₂ (λ (a b : Bool). a && not b) here over

    go : (b c : Bool) → has_entry v.history s ≡ b → is_ended v.history s ≡ c → has_entry v.history s ≡ false
    go false c here over = here
    go true true here over =
        let clash : true ≡ false = sym (ended_stays were.since.added s over) ∙ (open-parts were.before.history s lives).1 in cc
    go true false here over = absurd (none_open v.history s order none (open_by here over))

-- It was served from this world on, and broke off.
pub broke_of : {F : Type 0} {may_join : Entry → Type 0} (before after : Traffic) (keeper kept : KeeperView F) (last : WorldView) → kept ≡ keeper
    → Continues kept.world last → AreAdded may_join kept.world.history last.history → LegalFor (living last.stewardship) last.rules last.history → AreInOrder last.history
    → OnlyWrote AnyEntry before after kept.world last → AreInOrder keeper.world.history → open_sessions keeper.world.history ≡ []
    → HostBreaksOff may_join before after keeper.world
broke_of {F} {may_join} before after keeper kept last same goes joins legal order wrote first none = record {
  last = last;
  goes = subst (λ (k : KeeperView F). Continues k.world last) same goes;
  joins = subst (λ (k : KeeperView F). AreAdded may_join k.world.history last.history) same joins;
  legal = legal;
  order = order;
  sent = sent;
  begun = λ fresh. begun_since first none (sent fresh);
}
  where
    sent : OnlyWrote AnyEntry before after keeper.world last
    sent = subst (λ (k : KeeperView F). OnlyWrote AnyEntry before after k.world last) same wrote
