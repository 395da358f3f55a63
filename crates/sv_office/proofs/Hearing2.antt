-- The turn of a connection, one call after the other.
use Rattle.std.proofs.Common.{◌≡◌, ◌≢◌, ◌⊎◌, inl, inr, ℕ, Bool, true, false, cond, List, [], ◌∷◌, ◌++◌, Option, None, Some, refl, sym, ap, ◌∙◌, take, subst, append_assoc, append-nil, ne_eqb}
use Rattle.sv_wire.specs.declared.message.Request.{Request}
use Rattle.sv_living.specs.World.{WorldView}
use Rattle.sv_log.specs.declared.folder.Folder.{Ghosts}
use Rattle.sv_ports.specs.Traffic.{Traffic, bytes_of, PortReads}
use Rattle.sv_ports.specs.declared.ports.PortRead.{PortRead}
use Rattle.sv_ports.specs.declared.ports.PortRead.TheVariants as reads
use Rattle.sv_ports.proofs.Bytes.{bytes-more, own_more}
use Rattle.sv_keys.specs.Keeping.{KeysView}
use Rattle.sv_office.specs.Entering.{GoesOn, AsksInOne, IsEndOf, KeepsOwn, CameOfAsking, MayEnter, MayHold}
use Rattle.sv_office.specs.Guests.{HasYetToAsk, IsHeardOf, OnlyHeard, Stays}
use Rattle.sv_office.specs.Offices.{IsNotStewards, session_of}
use Rattle.sv_office.specs.Turns.{AreLent, IsKnown, ShowsFirst, TakesTurn}
use Rattle.sv_office.specs.declared.guest.Guest.{Guest}
use Rattle.sv_office.specs.declared.guest.Held.{Held}
use Rattle.sv_office.specs.declared.guest.Standing.TheVariants as standing
use Rattle.sv_office.specs.declared.office.Office.{Office}
use Rattle.sv_office.specs.declared.outside.Outside.{Outside}
use Rattle.sv_office.proofs.Adding.{goes_as, goes_nowhere}
use Rattle.sv_office.proofs.Asking.{apart_stays, asked_may}
use Rattle.sv_office.proofs.Stepping1.{clash, may_hold_none}
use Rattle.sv_office.proofs.Turning.{keeps_one, may_then, may_then_ended, may_with, one_nowhere, one_then, one_then_ended}

-- Once it has spoken it shows no other key.
pub shows_same : {before now : Option KeysView} {old new : Guest} → now ≡ before → new.key ≡ old.key → new.has_spoken ≡ old.has_spoken → ShowsFirst before now old new
shows_same keys key spoken = record { spoken = λ is. spoken ∙ is; keys = λ is. keys; key = λ is. key; known = inl key }

known_as : (before now : Option KeysView) (key shown : Option (List ℕ)) → now ≡ before → shown ≡ key → IsKnown before key → IsKnown now shown
known_as before now key shown same kept known =
    subst (λ (o : Option KeysView). IsKnown o shown) (sym same) (subst (λ (o : Option (List ℕ)). IsKnown before o) (sym kept) known)

shows_then : {first mid last : Option KeysView} {a b c : Guest} → ShowsFirst first mid a b → ShowsFirst mid last b c → ShowsFirst first last a c
shows_then {first} {mid} {last} {a} {b} {c} before next = record {
  spoken = λ is. next.spoken (before.spoken is);
  keys = λ is. next.keys (before.spoken is) ∙ before.keys is;
  key = λ is. next.key (before.spoken is) ∙ before.key is;
  known = known next.known before.known;
}
  where
    known : (c.key ≡ b.key) ⊎ ((c.has_spoken ≡ true) × IsKnown last c.key) → (b.key ≡ a.key) ⊎ ((b.has_spoken ≡ true) × IsKnown mid b.key)
        → (c.key ≡ a.key) ⊎ ((c.has_spoken ≡ true) × IsKnown last c.key)
    known (inr shown) earlier = inr shown
    known (inl same) (inl also) = inl (same ∙ also)
    known (inl same) (inr (spoke, shown)) = inr (next.spoken spoke, known_as mid last b.key c.key (next.keys spoke) same shown)

-- What it holds it may ask still.
pub holds_still : {before now : Option KeysView} {key shown : Option (List ℕ)} {held left : Option Held} → now ≡ before → shown ≡ key
    → (left ≡ held) ⊎ (left ≡ None) → MayHold before key held → MayHold now shown left
holds_still {before} {now} {key} {shown} {held} {left} keys same (inl kept) may =
    subst (λ (o : Option KeysView). MayHold o shown left) (sym keys)
    (subst (λ (o : Option (List ℕ)). MayHold before o left) (sym same) (subst (λ (o : Option Held). MayHold before key o) (sym kept) may))
holds_still {now = now} {shown = shown} keys same (inr none) may = may_hold_none now shown none

unspoken_before : (a b : Bool) → (a ≡ true → b ≡ true) → b ≡ false → a ≡ false
unspoken_before true b f off = let e : true ≡ false = sym (f refl) ∙ off in cc
unspoken_before false b f off = refl

module _ {F : Type 0} {k : Ghosts F} where
  pub turn_nowhere : (a b : Office F k) (guest next : Guest) → b.keeper.world ≡ a.keeper.world → next.session ≡ guest.session → session_of b.steward ≡ session_of a.steward
      → b.policy ≡ a.policy → b.keys ≡ a.keys → next.key ≡ guest.key → next.has_spoken ≡ guest.has_spoken → (next.held ≡ guest.held) ⊎ (next.held ≡ None)
      → TakesTurn a b guest next
  turn_nowhere a b guest next world session steward policy keys key spoken held = record {
    added = goes_nowhere world;
    unspoken = λ off other shown. goes_nowhere world;
    asked = one_nowhere (ap (λ (x : WorldView). x.history) world) session;
    shown = shows_same keys key spoken;
    held = holds_still keys key held;
    steward = steward;
    policy = policy;
  }

  -- The keys were looked at.
  pub turn_looked : (a b : Office F k) (guest next : Guest) → b.keeper.world ≡ a.keeper.world → next.session ≡ guest.session → session_of b.steward ≡ session_of a.steward
      → b.policy ≡ a.policy → guest.has_spoken ≡ false → (next.key ≡ guest.key) ⊎ ((next.has_spoken ≡ true) × IsKnown b.keys next.key)
      → (MayHold a.keys guest.key guest.held → MayHold b.keys next.key next.held) → TakesTurn a b guest next
  turn_looked a b guest next world session steward policy silent known held = record {
    added = goes_nowhere world;
    unspoken = λ off other shown. goes_nowhere world;
    asked = one_nowhere (ap (λ (x : WorldView). x.history) world) session;
    shown = record { spoken = λ is. absurd (clash is silent); keys = λ is. absurd (clash is silent); key = λ is. absurd (clash is silent); known = known };
    held = held;
    steward = steward;
    policy = policy;
  }

  -- It was asked something.
  pub turn_asked : (a b : Office F k) (guest next : Guest) (request : Request)
      → GoesOn (CameOfAsking a.keeper.world.history (session_of a.steward) a.keys guest request) a.keeper.world b.keeper.world
      → AsksInOne (session_of a.steward) guest.session next.session a.keeper.world.history b.keeper.world.history → session_of b.steward ≡ session_of a.steward
      → b.policy ≡ a.policy → b.keys ≡ a.keys → next.key ≡ guest.key → next.has_spoken ≡ true → MayHold a.keys guest.key next.held → TakesTurn a b guest next
  turn_asked a b guest next request on asked steward policy keys key spoke may = record {
    added = may_with a.keys b.keys guest.key next.key keys key (goes_as (asked_may a.keeper.world.history (session_of a.steward) a.keys guest request) on);
    unspoken = λ off. absurd (clash spoke off);
    asked = asked;
    shown = record { spoken = λ is. spoke; keys = λ is. keys; key = λ is. key; known = inl key };
    held = λ before. subst (λ (o : Option KeysView). MayHold o next.key next.held) (sym keys)
        (subst (λ (o : Option (List ℕ)). MayHold a.keys o next.held) (sym key) may);
    steward = steward;
    policy = policy;
  }

  -- It was answered again, while it was served.
  pub turn_then : (a b c : Office F k) (guest mid next : Guest) → TakesTurn a b guest mid → HasYetToAsk guest mid a.keeper.world b.keeper.world
      → mid.standing ≡ standing.Open → TakesTurn b c mid next → TakesTurn a c guest next
  turn_then a b c guest mid next first idle lives then_this = record {
    added = may_then c.keys next.key keeps none first.steward (as_now mid.has_spoken refl) then_this.added;
    unspoken = λ off keys key. may_then keys key keeps none first.steward (first.unspoken (silent off) keys key) (then_this.unspoken off keys key);
    asked = one_then first.asked (λ gone. ((idle lives gone).0, ap (λ (x : WorldView). x.history) (idle lives gone).1)) first.steward then_this.asked;
    shown = shows_then first.shown then_this.shown;
    held = λ may. then_this.held (first.held may);
    steward = then_this.steward ∙ first.steward;
    policy = then_this.policy ∙ first.policy;
  }
    where
      keeps : KeepsOwn a.keeper.world.history guest.session mid.session
      keeps = keeps_one first.asked

      none : mid.session ≡ None → guest.session ≡ None
      none gone = (idle lives gone).0

      silent : next.has_spoken ≡ false → mid.has_spoken ≡ false
      silent off = unspoken_before mid.has_spoken next.has_spoken then_this.shown.spoken off

      as_now : (spoke : Bool) → mid.has_spoken ≡ spoke
          → GoesOn (MayEnter a.keeper.world.history (session_of a.steward) guest.session c.keys next.key) a.keeper.world b.keeper.world
      as_now true is = may_with b.keys c.keys mid.key next.key (then_this.shown.keys is) (then_this.shown.key is) first.added
      as_now false is = first.unspoken is c.keys next.key

  -- Then the session that it has by then has its End.
  pub turn_then_ended : (a b c : Office F k) (guest mid next : Guest) → TakesTurn a b guest mid → GoesOn (IsEndOf mid.session) b.keeper.world c.keeper.world
      → next.session ≡ None → session_of c.steward ≡ session_of b.steward → c.policy ≡ b.policy → c.keys ≡ b.keys → Stays mid next → TakesTurn a c guest next
  turn_then_ended a b c guest mid next turn on none steward policy keys stays = record {
    added = may_then_ended c.keys next.key keeps (may_with b.keys c.keys mid.key next.key keys stays.key turn.added) on;
    unspoken = λ off other shown. may_then_ended other shown keeps (turn.unspoken (sym stays.spoken ∙ off) other shown) on;
    asked = one_then_ended turn.asked on.added none;
    shown = shows_then turn.shown (shows_same keys stays.key stays.spoken);
    held = λ may. holds_still keys stays.key stays.held (turn.held may);
    steward = steward ∙ turn.steward;
    policy = policy ∙ turn.policy;
  }
    where
      keeps : KeepsOwn a.keeper.world.history guest.session mid.session
      keeps = keeps_one turn.asked

  -- It has the session still that has its End now.
  pub turn_ended_as : (a b : Office F k) (guest mid next : Guest) → IsHeardOf guest mid → GoesOn (IsEndOf mid.session) a.keeper.world b.keeper.world → next.session ≡ None
      → session_of b.steward ≡ session_of a.steward → b.policy ≡ a.policy → b.keys ≡ a.keys → Stays mid next → TakesTurn a b guest next
  turn_ended_as a b guest mid next heard on none steward policy keys stays =
      turn_then_ended a a b guest mid next (turn_nowhere a a guest mid refl heard.session refl refl refl heard.key heard.spoken heard.held) on none steward policy keys stays

  -- More was heard of it, and then it was answered.
  pub turn_heard : (a b : Office F k) (guest mid next : Guest) → IsHeardOf guest mid → mid.standing ≡ standing.Open → TakesTurn a b mid next → TakesTurn a b guest next
  turn_heard a b guest mid next heard lives turn =
      turn_then a a b guest mid next (turn_nowhere a a guest mid refl heard.session refl refl refl heard.key heard.spoken heard.held)
      (λ open_is none. (sym heard.session ∙ none, refl)) lives turn

  -- The steward's session is none of the connection's still.
  pub turn_apart : (a b : Office F k) (guest next : Guest) → TakesTurn a b guest next → IsNotStewards guest.session (session_of a.steward)
      → IsNotStewards next.session (session_of b.steward)
  turn_apart a b guest next turn away s has is = apart_stays a.keeper.world a.sound.begun away (keeps_one turn.asked) s has (sym turn.steward ∙ is)

nothing_more : (number : ℕ) (told : Traffic) → OnlyHeard number told told
nothing_more number told = record { more = []; own = sym (append-nil (bytes_of number told.heard)); others = λ other apart. refl; rest = refl }

pub heard_piece : (number : ℕ) (old new : Traffic) (piece : List ℕ) → new ≡ record old { heard = old.heard ++ (number, piece) ∷ [] } → OnlyHeard number old new
heard_piece number old new piece is = subst (λ (told : Traffic). OnlyHeard number old told) (sym is) (record {
  more = piece;
  own = own_more number old.heard piece;
  others = λ other apart. bytes-more other number old.heard piece
      ∙ ap (λ (b : Bool). cond b (bytes_of other old.heard ++ piece) (bytes_of other old.heard)) (ne_eqb other number apart);
  rest = refl;
})

pub heard_nothing : (number : ℕ) (old new : Traffic) → new ≡ old → OnlyHeard number old new
heard_nothing number old new same = subst (λ (told : Traffic). OnlyHeard number old told) (sym same) (nothing_more number old)

pub reads_heard : (number : ℕ) (old new : Traffic) (into : List ℕ) (answer : PortRead) → PortReads old number into answer new → OnlyHeard number old new
reads_heard number old new into (reads.Got n) is = heard_piece number old new (take n into) is.2
reads_heard number old new into reads.NotYet is = heard_nothing number old new is
reads_heard number old new into reads.Ended is = heard_nothing number old new is
reads_heard number old new into reads.Failed is = heard_nothing number old new is

pub heard_then : (number : ℕ) (old mid new : Traffic) → OnlyHeard number old mid → OnlyHeard number mid new → OnlyHeard number old new
heard_then number old mid new first next = record {
  more = first.more ++ next.more;
  own = next.own ∙ ap (λ (bytes : List ℕ). bytes ++ next.more) first.own ∙ append_assoc (bytes_of number old.heard) first.more next.more;
  others = λ other apart. next.others other apart ∙ first.others other apart;
  rest = next.rest ∙ ap (λ (told : Traffic). record told { heard = new.heard }) first.rest;
}

-- A connection of which more was heard twice.
pub heard_of_then : (a b c : Guest) → IsHeardOf a b → IsHeardOf b c → IsHeardOf a c
heard_of_then a b c first next = record {
  sent = next.sent ∙ first.sent;
  session = next.session ∙ first.session;
  key = next.key ∙ first.key;
  spoken = next.spoken ∙ first.spoken;
  held = held_then next.held first.held;
}
  where
    held_then : (c.held ≡ b.held) ⊎ (c.held ≡ None) → (b.held ≡ a.held) ⊎ (b.held ≡ None) → (c.held ≡ a.held) ⊎ (c.held ≡ None)
    held_then (inl same) (inl kept) = inl (same ∙ kept)
    held_then (inl same) (inr none) = inr (same ∙ none)
    held_then (inr none) before = inr none

pub none_other : {A : Type 0} {o : Option A} {x : A} → o ≡ None → o ≢ Some x
none_other {x = x} none some = let clash : None ≡ Some x = sym none ∙ some in cc

pub lent_then : {P L E : Type 0} (a b c : Outside P L E) → AreLent a b → AreLent b c → AreLent a c
lent_then a b c first next = record { ports = next.ports ∙ first.ports; files = next.files ∙ first.files; err = next.err ∙ first.err }
