-- A connection's turn, one call after the other.
use Rattle.std.proofs.Common.{◌≡◌, ◌⊎◌, inl, inr, ℕ, suc, ◌+◌, ◌≤◌, false, nat_eq, List, [], ◌∷◌, Option, Some, None, refl, sym, ap, ◌∙◌, subst, arith, ne_eqb}
use Rattle.sv_wire.specs.declared.message.Request.{Request}
use Rattle.sv_journal.specs.declared.entry.Entry.{Entry}
use Rattle.sv_core.specs.Rows.{has_entry}
use Rattle.sv_living.specs.World.{WorldView}
use Rattle.sv_keys.specs.Keeping.{KeysView}
use Rattle.sv_office.specs.Entering.{AreAdded, GoesOn, AsksIn, AsksInOne, KeepsOwn, IsEntryOf, IsOf, IsEndOf, IsReport, Follows, MayEnter}
use Rattle.sv_office.proofs.Adding.{added_as, added_then, goes_as, goes_then, asks_before}
use Rattle.sv_office.proofs.Orders.{neither}

one : {s t : ℕ} → Some s ≡ Some t → s ≡ t
one e = cc

never : {A : Type 0} {s : ℕ} → None ≡ Some s → A
never e = cc

-- ---- The session in which one asks

pub asks_one : (h : List Entry) {s t : ℕ} → AsksIn h (Some s) t → s ≡ t
asks_one h (inl is) = one is
asks_one h (inr (none, fresh)) = never (sym none)

-- A number above those of all sessions.
fresh_above : (h : List Entry) → (n : ℕ) × ((s : ℕ) → n ≤ s → has_entry h s ≡ false)
fresh_above [] = (0, λ s le. refl)
fresh_above (e ∷ h) = go (fresh_above h)
  where
    go : (n : ℕ) × ((s : ℕ) → n ≤ s → has_entry h s ≡ false) → (n : ℕ) × ((s : ℕ) → n ≤ s → has_entry (e ∷ h) s ≡ false)
    go (n, none) = (
      n + suc e.session,
      λ s le. neither (nat_eq e.session s) (has_entry h s) (ne_eqb e.session s (λ same. omega (arith, le, same))) (none s (omega (arith, le))),
    )

-- There is always one in which to ask.
pub asks_somewhere : (h : List Entry) (mine : Option ℕ) → (s : ℕ) × AsksIn h mine s
asks_somewhere h (Some s) = (s, inl refl)
asks_somewhere h None = go (fresh_above h)
  where
    go : (n : ℕ) × ((s : ℕ) → n ≤ s → has_entry h s ≡ false) → (s : ℕ) × AsksIn h None s
    go (n, none) = (n, inr (refl, none n (omega arith)))

pub has_or_none : (h : List Entry) {mine : Option ℕ} {s : ℕ} → AsksIn h mine s → (mine ≡ Some s) ⊎ (mine ≡ None)
has_or_none h (inl has) = inl has
has_or_none h (inr (none, fresh)) = inr none

-- ---- All in one session

module _ {steward mine after : Option ℕ} {h : List Entry} where
  -- Nothing was entered.
  pub one_nowhere : {g : List Entry} → g ≡ h → after ≡ mine → AsksInOne steward mine after h g
  one_nowhere {g} same stays = subst (λ (x : List Entry). AsksInOne steward mine after h x) (sym same) (go (asks_somewhere h mine))
    where
      kept : (s : ℕ) → (mine ≡ Some s) ⊎ (mine ≡ None) → (after ≡ Some s) ⊎ (after ≡ None)
      kept s (inl has) = inl (stays ∙ has)
      kept s (inr none) = inr (stays ∙ none)

      go : (s : ℕ) × AsksIn h mine s → AsksInOne steward mine after h h
      go (s, asks) = record { session = s; asks = asks; added = AreAdded.none; kept = kept s (has_or_none h asks) }

  -- The End of its session was.
  pub one_ended : {g : List Entry} → AreAdded (IsEndOf mine) h g → after ≡ None → AsksInOne steward mine after h g
  one_ended {g} on none = go (asks_somewhere h mine)
    where
      in_it : (s : ℕ) → AsksIn h mine s → (e : Entry) → IsEndOf mine e → IsReport steward e ⊎ IsOf (Some s) e
      in_it s (inl has) e is = inr (sym has ∙ is.0)
      in_it s (inr (gone, fresh)) e is = never (sym gone ∙ is.0)

      go : (s : ℕ) × AsksIn h mine s → AsksInOne steward mine after h g
      go (s, asks) = record { session = s; asks = asks; added = added_as (in_it s asks) on; kept = inr none }

  -- A request was entered, and what followed its reply.
  pub one_followed : {m g : List Entry} (s : ℕ) (request : Request) → AsksIn h mine s → AreAdded (IsEntryOf s request) h m → AreAdded (Follows steward (Some s)) m g
      → (after ≡ Some s) ⊎ (after ≡ None) → AsksInOne steward mine after h g
  one_followed s request asks first next kept = record {
    session = s;
    asks = asks;
    added = added_then (added_as of_it first) (added_as follows next);
    kept = kept;
  }
    where
      of_it : (e : Entry) → IsEntryOf s request e → IsReport steward e ⊎ IsOf (Some s) e
      of_it e is = inr (ap (λ (t : ℕ). Some t) (sym is.0))

      follows : (e : Entry) → Follows steward (Some s) e → IsReport steward e ⊎ IsOf (Some s) e
      follows e (inl report) = inl report
      follows e (inr ends) = inr ends.0

  -- A request was entered, or nothing, and then maybe the End of the session that one had.
  pub one_entered : {g : List Entry} (s : ℕ) (request : Request) → AsksIn h mine s → AreAdded (IsEntryOf s request) h g → after ≡ mine → AsksInOne steward mine after h g
  one_entered s request asks on stays = one_followed s request asks on AreAdded.none (kept (has_or_none h asks))
    where
      kept : (mine ≡ Some s) ⊎ (mine ≡ None) → (after ≡ Some s) ⊎ (after ≡ None)
      kept (inl has) = inl (stays ∙ has)
      kept (inr none) = inr (stays ∙ none)

  pub one_entered_ended : {m g : List Entry} {own : Option ℕ} (s : ℕ) (request : Request) → AsksIn h mine s → AreAdded (IsEntryOf s request) h m → own ≡ mine
      → AreAdded (IsEndOf own) m g → after ≡ None → AsksInOne steward mine after h g
  one_entered_ended {own = own} s request asks first same next none = one_followed s request asks first (added_as ends next) (inr none)
    where
      it : AsksIn h mine s → (e : Entry) → mine ≡ Some e.session → Some s ≡ Some e.session
      it (inl has) e is = sym has ∙ is
      it (inr (gone, fresh)) e is = never (sym gone ∙ is)

      ends : (e : Entry) → IsEndOf own e → Follows steward (Some s) e
      ends e is = inr (it asks e (sym same ∙ is.0), is.1)

-- The session that one has afterwards is the one.
pub keeps_one : {steward mine after : Option ℕ} {h g : List Entry} → AsksInOne steward mine after h g → KeepsOwn h mine after
keeps_one {mine = mine} {after = after} {h = h} a s is = go a.kept
  where
    go : (after ≡ Some a.session) ⊎ (after ≡ None) → AsksIn h mine s
    go (inl has) = subst (λ (t : ℕ). AsksIn h mine t) (one (sym has ∙ is)) a.asks
    go (inr none) = never (sym none ∙ is)

-- It asks on. One that has no session by then asked nothing.
pub one_then : {steward stewards mine mid after : Option ℕ} {h g k : List Entry} → AsksInOne steward mine mid h g → (mid ≡ None → (mine ≡ None) × (g ≡ h))
    → stewards ≡ steward → AsksInOne stewards mid after g k → AsksInOne steward mine after h k
one_then {steward} {stewards} {mine} {mid} {after} {h} {g} {k} first idle same next = go first.kept
  where
    as_one : (s : ℕ) → next.session ≡ s → (e : Entry) → IsReport stewards e ⊎ IsOf (Some next.session) e → IsReport steward e ⊎ IsOf (Some s) e
    as_one s is e (inl report) = inl (sym same ∙ report.0, report.1)
    as_one s is e (inr of_it) = inr (ap (λ (t : ℕ). Some t) (sym is) ∙ of_it)

    kept : (s : ℕ) → next.session ≡ s → (after ≡ Some next.session) ⊎ (after ≡ None) → (after ≡ Some s) ⊎ (after ≡ None)
    kept s is (inl has) = inl (has ∙ ap (λ (t : ℕ). Some t) is)
    kept s is (inr none) = inr none

    in_same : mid ≡ Some first.session → next.session ≡ first.session
    in_same has = sym (asks_one g (subst (λ (o : Option ℕ). AsksIn g o next.session) has next.asks))

    go : (mid ≡ Some first.session) ⊎ (mid ≡ None) → AsksInOne steward mine after h k
    go (inl has) = record {
      session = first.session;
      asks = first.asks;
      added = added_then first.added (added_as (as_one first.session (in_same has)) next.added);
      kept = kept first.session (in_same has) next.kept;
    }
    go (inr none) = record {
      session = next.session;
      asks = subst (λ (x : List Entry). AsksIn x mine next.session) (idle none).1
          (subst (λ (o : Option ℕ). AsksIn g o next.session) (none ∙ sym (idle none).0) next.asks);
      added = subst (λ (x : List Entry). AreAdded (λ (e : Entry). IsReport steward e ⊎ IsOf (Some next.session) e) x k) (idle none).1
          (added_as (as_one next.session refl) next.added);
      kept = next.kept;
    }

-- The End of the session that one has by then is entered.
pub one_then_ended : {steward mine mid after : Option ℕ} {h g k : List Entry} → AsksInOne steward mine mid h g → AreAdded (IsEndOf mid) g k → after ≡ None
    → AsksInOne steward mine after h k
one_then_ended {steward} {mine} {mid} {after} {h} {g} {k} first next none = record {
  session = first.session;
  asks = first.asks;
  added = added_then first.added (added_as (in_it first.kept) next);
  kept = inr none;
}
  where
    in_it : (mid ≡ Some first.session) ⊎ (mid ≡ None) → (e : Entry) → IsEndOf mid e → IsReport steward e ⊎ IsOf (Some first.session) e
    in_it (inl has) e is = inr (sym has ∙ is.0)
    in_it (inr gone) e is = never (sym gone ∙ is.0)

-- ---- What may be entered

may_before : {may : Entry → Type 0} {h g : List Entry} {steward stewards mine mid : Option ℕ} (keys : Option KeysView) (key : Option (List ℕ)) → AreAdded may h g
    → KeepsOwn h mine mid → (mid ≡ None → mine ≡ None) → stewards ≡ steward → (e : Entry) → MayEnter g stewards mid keys key e → MayEnter h steward mine keys key e
may_before keys key added keeps none same e (inl report) = inl (sym same ∙ report.0, report.1)
may_before keys key added keeps none same e (inr (asks, may)) = inr (asks_before added keeps none e.session asks, may)

pub may_then : {v w x : WorldView} {steward stewards mine mid : Option ℕ} (keys : Option KeysView) (key : Option (List ℕ)) → KeepsOwn v.history mine mid
    → (mid ≡ None → mine ≡ None) → stewards ≡ steward → GoesOn (MayEnter v.history steward mine keys key) v w → GoesOn (MayEnter w.history stewards mid keys key) w x
    → GoesOn (MayEnter v.history steward mine keys key) v x
may_then keys key keeps none same first next = goes_then first (goes_as (may_before keys key first.added keeps none same) next)

pub may_then_ended : {v w x : WorldView} {steward mine mid : Option ℕ} (keys : Option KeysView) (key : Option (List ℕ)) → KeepsOwn v.history mine mid
    → GoesOn (MayEnter v.history steward mine keys key) v w → GoesOn (IsEndOf mid) w x → GoesOn (MayEnter v.history steward mine keys key) v x
may_then_ended {v} {w} {x} {steward} {mine} keys key keeps first next =
    goes_then first (goes_as (λ e is. inr (keeps e.session is.0, inl is.1)) next)

-- Under the same keys, with the same key.
pub may_with : {v w : WorldView} {steward mine : Option ℕ} (before now : Option KeysView) (key shown : Option (List ℕ)) → now ≡ before → shown ≡ key
    → GoesOn (MayEnter v.history steward mine before key) v w → GoesOn (MayEnter v.history steward mine now shown) v w
may_with {v} {w} {steward} {mine} before now key shown same kept on =
    subst (λ (o : Option KeysView). GoesOn (MayEnter v.history steward mine o shown) v w) (sym same)
    (subst (λ (o : Option (List ℕ)). GoesOn (MayEnter v.history steward mine before o) v w) (sym kept) on)
