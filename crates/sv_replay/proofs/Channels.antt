-- How a session's connection stays in step with the run, where one player moves and where its session answers.
use Rattle.std.proofs.Common.{◌≡◌, ◌⊎◌, inl, inr, ℕ, zero, suc, ◌+◌, ◌-◌, ◌≤◌, Bool, true, false, ◌||◌, ◌==◌, List, [], ◌∷◌, ◌++◌, drop, length, set, slice_get, Some, refl, sym, ap, subst, ◌∙◌, arith, eqb-true, eq-eqb, append-nil}
use Rattle.std.specs.Prelude.{if◌then◌else◌}
use Rattle.std.specs.List.{list_any}
use Rattle.std.proofs.lemmas.Bool.{cases_Bool, cond-false}
use Rattle.std.proofs.lemmas.List.{drop-append-le, drop-drop, length-append, length-drop}
use Rattle.std.proofs.Math.Seq.{drop-append_seam}
use mathlib.Core.Bool.{or-false, or_assoc}
use Rattle.sv_wire.specs.declared.message.Reply.{Reply}
use Rattle.sv_wire.specs.declared.message.Request.{Request}
use Rattle.sv_journal.specs.declared.entry.Entry.{Entry}
use Rattle.sv_journal.specs.History.{accepted}
use Rattle.sv_client.specs.Traces.{got}
use Rattle.law_system.specs.Fits.{requests_in, replies_in}
use Rattle.law_schedule.specs.Players.{Player, asked_in_run, has_closed}
use Rattle.law_schedule.specs.Serving.{Run}
use Rattle.sv_exchange.specs.View.{ExchangeView}
use Rattle.sv_replay.specs.Players.{asked_by_player, got_in_run, Moves, IsChannel}
use Rattle.sv_replay.proofs.Apart.{OthersSilent, all_ask_nothing, all_get_nothing, flat_moved, commutes_with_none, none_commutes, later_of}
use Rattle.sv_replay.proofs.Events.{either_way}

-- ---- Lists

dropped_more : {X : Type 0} (m : ℕ) (xs more cs ds : List X) → m ≤ length xs → cs ≡ drop m xs → ds ≡ cs ++ more → ds ≡ drop m (xs ++ more)
dropped_more m xs more cs ds l e h = h ∙ ap (λ zs. zs ++ more) e ∙ sym (drop-append-le m xs more l)

dropped_less : {X : Type 0} (g : ℕ) (xs taken rest : List X) → taken ++ rest ≡ drop g xs → rest ≡ drop (g + length taken) xs
dropped_less g xs taken rest e =
    sym (drop-append_seam taken rest) ∙ ap (λ zs. drop (length taken) zs) e ∙ drop-drop (length taken) g xs

taken_within : {X : Type 0} (g : ℕ) (xs taken rest : List X) → g ≤ length xs → taken ++ rest ≡ drop g xs → g + length taken ≤ length xs
taken_within g xs taken rest l e =
    let long : length (taken ++ rest) ≡ length xs - g = ap length e ∙ length-drop g xs in
    let parts : length (taken ++ rest) ≡ length taken + length rest = length-append taken rest in
    omega arith

swap : (a b c : Bool) → ((a || b) || c) ≡ ((a || c) || b)
swap true b c = refl
swap false true true = refl
swap false true false = refl
swap false false true = refl
swap false false false = refl

any_moved : (f : Player → Bool) (more : Bool) (k : ℕ) (ps : List Player) (p q : Player) → slice_get ps k ≡ Some p → f q ≡ (f p || more) → list_any f (set ps k q) ≡ (list_any f ps || more)
any_moved f more k [] p q e grown = cc
any_moved f more zero (r ∷ ps) p q e grown =
    let same : p ≡ r = cc in
    ap (λ b. b || list_any f ps) (grown ∙ ap (λ x. f x || more) same) ∙ swap (f r) more (list_any f ps)
any_moved f more (suc k) (r ∷ ps) p q e grown = ap (λ b. f r || b) (any_moved f more k ps p q e grown) ∙ sym (or_assoc (f r) (list_any f ps) more)

-- ---- One player moved

module _ (h : List Entry) (ps : List Player) (k n : ℕ) (p q : Player) (sent : List Request) (taken : List Reply) (closing : Bool) (at : slice_get ps k ≡ Some p)
    (m : Moves n p q sent taken closing) (quiet : OthersSilent n k ps ⊎ ((sent ≡ []) × (taken ≡ []))) where
  abbrev before : Run
  before = record { history = h; players = ps }

  abbrev pub moved : Run
  moved = record { history = h; players = set ps k q }

  -- What the later ones have in a session is nothing where this one has something.
  commutes : {X : Type 0} (more : List X) (later : ℕ → List X) (s : ℕ) → (later n ≡ []) ⊎ (more ≡ []) → (if n == s then more else []) ++ later s ≡ later s ++ (if n == s then more else [])
  commutes more later s (inr none) = none_commutes (if n == s then more else []) (later s) (rw none (either_way (n == s) []))
  commutes more later s (inl silent) = elim (cases_Bool (n == s)) [
    | inr f ↦ none_commutes (if n == s then more else []) (later s) (cond-false (n == s) more [] f)
    | inl y ↦ commutes_with_none (if n == s then more else []) (later s) (subst (λ (i : ℕ). later i ≡ []) (eqb-true n s y) silent)
  ]

  ask_commutes : (s : ℕ) → (if n == s then sent else []) ++ asked_in_run (drop (suc k) ps) s ≡ asked_in_run (drop (suc k) ps) s ++ (if n == s then sent else [])
  ask_commutes s =
      commutes sent (asked_in_run (drop (suc k) ps)) s
      (elim quiet [ inl silent ↦ inl (all_ask_nothing n (drop (suc k) ps) (later_of n k ps silent)) | inr none ↦ inr none.0 ])

  get_commutes : (s : ℕ) → (if n == s then taken else []) ++ got_in_run (drop (suc k) ps) s ≡ got_in_run (drop (suc k) ps) s ++ (if n == s then taken else [])
  get_commutes s =
      commutes taken (got_in_run (drop (suc k) ps)) s
      (elim quiet [ inl silent ↦ inl (all_get_nothing n (drop (suc k) ps) (later_of n k ps silent)) | inr none ↦ inr none.1 ])

  asked_moved : (s : ℕ) → asked_in_run (set ps k q) s ≡ asked_in_run ps s ++ (if n == s then sent else [])
  asked_moved s = flat_moved (λ (r : Player). asked_by_player r s) (if n == s then sent else []) k ps p q at (m.asks s) (ask_commutes s)

  got_moved : (s : ℕ) → got_in_run (set ps k q) s ≡ got_in_run ps s ++ (if n == s then taken else [])
  got_moved s = flat_moved (λ (r : Player). got r.events s) (if n == s then taken else []) k ps p q at (m.gets s) (get_commutes s)

  closed_moved : (s : ℕ) → list_any (has_closed s) (set ps k q) ≡ (list_any (has_closed s) ps || (if n == s then closing else false))
  closed_moved s = any_moved (has_closed s) (if n == s then closing else false) k ps p q at (m.closes s)

  more_none : {X : Type 0} (s : ℕ) (xs more : List X) → (n == s) ≡ false → xs ++ (if n == s then more else []) ≡ xs
  more_none s xs more f = ap (λ ys. xs ++ ys) (cond-false (n == s) more [] f) ∙ append-nil xs

  -- The connections of other sessions stay.
  pub other_stays : (s : ℕ) (c : ExchangeView) → (n == s) ≡ false → IsChannel before s c → IsChannel moved s c
  other_stays s c f is =
      let asks : asked_in_run (set ps k q) s ≡ asked_in_run ps s = asked_moved s ∙ more_none s (asked_in_run ps s) sent f in
      let gets : got_in_run (set ps k q) s ≡ got_in_run ps s = got_moved s ∙ more_none s (got_in_run ps s) taken f in
      let shuts : list_any (has_closed s) (set ps k q) ≡ list_any (has_closed s) ps = closed_moved s ∙ rw f (or-false (list_any (has_closed s) ps)) in
      record {
        asked = subst (λ (rs : List Request). length (requests_in h s) ≤ length rs) (sym asks) is.asked;
        requests = is.requests ∙ ap (λ (rs : List Request). drop (length (requests_in h s)) rs) (sym asks);
        got = subst (λ (rs : List Reply). length rs ≤ length (replies_in (accepted h) h s)) (sym gets) is.got;
        replies = is.replies ∙ ap (λ (rs : List Reply). drop (length rs) (replies_in (accepted h) h s)) (sym gets);
        closed = is.closed ∙ sym shuts;
        stopped = is.stopped;
      }

  -- The connection that the player moved over.
  pub own_moves : (c d : ExchangeView) → IsChannel before n c → d.requests ≡ c.requests ++ sent → c.replies ≡ taken ++ d.replies → d.closed ≡ (c.closed || closing) →
      d.stopped ≡ c.stopped → IsChannel moved n d
  own_moves c d is requests replies closed stopped =
      let here : (n == n) ≡ true = eq-eqb n n refl in
      let asks : asked_in_run (set ps k q) n ≡ asked_in_run ps n ++ sent = asked_moved n ∙ rw here refl in
      let gets : got_in_run (set ps k q) n ≡ got_in_run ps n ++ taken = got_moved n ∙ rw here refl in
      let shuts : list_any (has_closed n) (set ps k q) ≡ (list_any (has_closed n) ps || closing) = closed_moved n ∙ rw here refl in
      let many : length (got_in_run ps n ++ taken) ≡ length (got_in_run ps n) + length taken = length-append (got_in_run ps n) taken in
      let waits : taken ++ d.replies ≡ drop (length (got_in_run ps n)) (replies_in (accepted h) h n) = sym replies ∙ is.replies in
      let within : length (got_in_run ps n) + length taken ≤ length (replies_in (accepted h) h n) = taken_within (length (got_in_run ps n)) (replies_in (accepted h) h n) taken d.replies is.got waits in
      record {
        asked = (let long : length (asked_in_run ps n ++ sent) ≡ length (asked_in_run ps n) + length sent = length-append (asked_in_run ps n) sent in
            subst (λ (rs : List Request). length (requests_in h n) ≤ length rs) (sym asks) (omega (arith, is.asked)));
        requests = dropped_more (length (requests_in h n)) (asked_in_run ps n) sent c.requests d.requests is.asked is.requests requests
            ∙ ap (λ (rs : List Request). drop (length (requests_in h n)) rs) (sym asks);
        got = subst (λ (rs : List Reply). length rs ≤ length (replies_in (accepted h) h n)) (sym gets) (omega arith);
        replies = dropped_less (length (got_in_run ps n)) (replies_in (accepted h) h n) taken d.replies waits
            ∙ ap (λ (i : ℕ). drop i (replies_in (accepted h) h n)) (sym many) ∙ ap (λ (rs : List Reply). drop (length rs) (replies_in (accepted h) h n)) (sym gets);
        closed = closed ∙ ap (λ b. b || closing) is.closed ∙ sym shuts;
        stopped = stopped ∙ is.stopped;
      }
