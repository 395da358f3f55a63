-- An entry more of the history, and the players that fit it.
use Rattle.std.proofs.Common.{◌≡◌, ℕ, zero, suc, Bool, true, false, ◌==◌, ◌&&◌, not, inl, inr, List, [], ◌∷◌, drop, length, Some, slice_get, refl, sym, ap, subst, ◌∙◌, eqb-true, true≢false}
use Rattle.std.specs.Prelude.{is_some}
use Rattle.std.specs.List.{list_any, AllByRecursion}
use Rattle.std.proofs.lemmas.Bool.{or_cases, or_parts, or_left, or_right, and_parts, not-true, ne_eqb}
use Rattle.sv_wire.specs.declared.message.Request.{Request}
use Rattle.sv_journal.specs.declared.entry.Entry.{Entry}
use Rattle.sv_journal.specs.History.{accepted}
use Rattle.sv_journal.specs.Sessions.{is_end, is_ended}
use Rattle.sv_session.specs.Requests.{stop_of}
use Rattle.sv_client.specs.Traces.{asked, got}
use Rattle.sv_client.proofs.Sessions.{both_empty}
use Rattle.law_system.specs.Fits.{requests_in, replies_in}
use Rattle.law_system.proofs.Fronts.{front-then}
use Rattle.law_schedule.specs.Players.{Player, asked_in_run, has_closed}
use Rattle.law_schedule.specs.Serving.{Server, entry_by, served, is_stopped}
use Rattle.law_schedule.specs.Sound.{has_joined}
use Rattle.law_schedule.specs.Served.{IsHeard, RepliesNameAccepted, KeepsSound}
use Rattle.law_schedule.proofs.SoundTraces.{none-asked}
use Rattle.law_schedule.proofs.SoundReplies.{replies-grow}
use Rattle.law_schedule.proofs.SoundPlayers.{FitsAt, IsFitting}

-- ---- One player

-- The request is the next one that the player asks in the session.
abbrev pub IsNextOf : List Entry → ℕ → Request → Player → Type 0
IsNextOf h s request p = has_joined p s ≡ true → is_end request ≡ false → slice_get (asked p.who.client p.who.interest p.events s) (length (requests_in h s)) ≡ Some request

module _ (server : Server) (keeps : KeepsSound server) (h : List Entry) (named : RepliesNameAccepted h) (s : ℕ) (request : Request) (open-yet : is_ended h s ≡ false) where
  abbrev grown : List Entry
  grown = served server h s request

  heard-now : (p : Player) (n : ℕ) → has_joined p n ≡ true → IsNextOf h s request p → (s == n && not (is_end (server.hears h s request))) ≡ true →
      IsHeard server (entry_by server h s request) h n (asked p.who.client p.who.interest p.events n)
  heard-now p n j next t =
      let parts = and_parts (s == n) (not (is_end (server.hears h s request))) t in
      let same : s ≡ n = eqb-true s n parts.0 in
      let asks : is_end request ≡ false = sym (keeps.ends h s request) ∙ not-true (is_end (server.hears h s request)) parts.1 in
      record {
        request = request;
        next = subst (λ (i : ℕ). slice_get (asked p.who.client p.who.interest p.events i) (length (requests_in h i)) ≡ Some request) same
            (next (subst (λ (i : ℕ). has_joined p i ≡ true) (sym same) j) asks);
        heard = ap (λ (i : ℕ). server.hears h i request) same;
      }

  grown-at : (p : Player) (n : ℕ) → has_joined p n ≡ true → IsNextOf h s request p → FitsAt server h p n → FitsAt server grown p n
  grown-at p n j next f = record {
    got = front-then (got p.events n) (replies_in (accepted h) h n) (replies_in (accepted grown) grown n) f.got (replies-grow (entry_by server h s request) h n named);
    heard = (heard-now p n j next, f.heard);
    ended = (λ same. subst (λ (i : ℕ). is_ended h i ≡ false) same open-yet, f.ended);
  }

  entry-fits : (p : Player) → IsNextOf h s request p → IsFitting server h p → IsFitting server grown p
  entry-fits p next f = record { good = f.good; proper = f.proper; sessions = λ n j. grown-at p n j next (f.sessions n j) }

  pub entries-fit : (ps : List Player) → AllByRecursion (IsNextOf h s request) ps → AllByRecursion (IsFitting server h) ps → AllByRecursion (IsFitting server grown) ps
  entries-fit [] next f = tt
  entries-fit (p ∷ ps) next f = (entry-fits p next.0 f.0, entries-fit ps next.1 f.1)

-- ---- Sessions that no player joined

-- Some player joined the session.
abbrev pub begun_by : List Player → ℕ → Bool
begun_by ps n = list_any (λ (p : Player). has_joined p n) ps

pub none-asked_in : (server : Server) (h : List Entry) (ps : List Player) (n : ℕ) → AllByRecursion (IsFitting server h) ps → begun_by ps n ≡ false → asked_in_run ps n ≡ []
none-asked_in server h [] n f b = refl
none-asked_in server h (p ∷ ps) n f b =
    let parts = or_parts (has_joined p n) (begun_by ps n) b in
    both_empty (asked p.who.client p.who.interest p.events n) (asked_in_run ps n) (none-asked p.who p.first p.events n f.0.proper parts.0) (none-asked_in server h ps n f.1 parts.1)

pub closed-begun : (ps : List Player) (n : ℕ) → list_any (has_closed n) ps ≡ true → begun_by ps n ≡ true
closed-begun [] n c = c
closed-begun (p ∷ ps) n c =
    elim (or_cases (has_closed n p) (list_any (has_closed n) ps) c) [
      | inl one ↦ or_left (has_joined p n) (begun_by ps n) (and_parts (has_joined p n) _ one).0
      | inr more ↦ or_right (has_joined p n) (begun_by ps n) (closed-begun ps n more)
    ]

pub stopped-begun : (ps : List Player) (h : List Entry) (n : ℕ) → AllByRecursion (λ (e : Entry). begun_by ps e.session ≡ true) h → is_stopped h n ≡ true → begun_by ps n ≡ true
stopped-begun ps [] n b c = absurd (true≢false (sym c))
stopped-begun ps (e ∷ h) n b c =
    elim (or_cases ((e.session == n) && is_some (stop_of e.reply)) (is_stopped h n) c) [
      | inl one ↦ subst (λ (i : ℕ). begun_by ps i ≡ true) (eqb-true e.session n (and_parts (e.session == n) (is_some (stop_of e.reply)) one).0) b.0
      | inr more ↦ stopped-begun ps h n b.1 more
    ]

pub unused-unless_begun : (ps : List Player) (h : List Entry) (n : ℕ) → AllByRecursion (λ (e : Entry). begun_by ps e.session ≡ true) h → begun_by ps n ≡ false →
    AllByRecursion (λ (e : Entry). (e.session == n) ≡ false) h
unused-unless_begun ps [] n b c = tt
unused-unless_begun ps (e ∷ h) n b c = (
  ne_eqb e.session n (λ same. true≢false (sym b.0 ∙ ap (begun_by ps) same ∙ c)),
  unused-unless_begun ps h n b.1 c,
)

pub drop-get : {X : Type 0} (xs : List X) (n : ℕ) (y : X) (ys : List X) → drop n xs ≡ y ∷ ys → slice_get xs n ≡ Some y
drop-get [] zero y ys e = cc
drop-get [] (suc n) y ys e = cc
drop-get (x ∷ xs) zero y ys e = (let same : x ≡ y = cc in ap Some same)
drop-get (x ∷ xs) (suc n) y ys e = drop-get xs n y ys e
