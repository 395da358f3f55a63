-- What is decided, by the results that count, stands for the reply that the history of all entries gives.
use Rattle.std.proofs.Common.{◌≡◌, ℕ, ◌≤◌, Bool, true, false, ◌&&◌, ◌||◌, not, ◌==◌, nat_le, nat_lt, map, List, [], ◌∷◌, length, Option, Some, None, refl, sym, ap, ◌∙◌, subst, true≢false}
use Rattle.std.specs.Prelude.{if◌then◌else◌}
use Rattle.std.proofs.lemmas.Bool.{cond-true, cond_both, and_parts}
use Rattle.sv_world.specs.declared.action.Action.{Action}
use Rattle.sv_world.specs.declared.check.BadAction.{BadAction}
use Rattle.sv_world.specs.declared.world.ObjectId.{ObjectId}
use Rattle.sv_world.specs.Control.{is_in, chain_length, influence_distance}
use Rattle.sv_world.specs.Faults.{first_fault_of_action, may_be_observed}
use Rattle.sv_world.specs.Rights.{first_forbidden}
use Rattle.sv_world.specs.Sets.{numbers_of}
use Rattle.sv_world.proofs.Members.{is_in-head}
use Rattle.sv_wire.specs.declared.message.Done1.{Done1}
use Rattle.sv_wire.specs.declared.message.Request.{Request}
use Rattle.sv_wire.specs.declared.message.Request.TheVariants as requests
use Rattle.sv_wire.specs.declared.refusal.Refusal.TheVariants as refusals
use Rattle.sv_journal.specs.declared.entry.Entry.{Entry}
use Rattle.sv_journal.specs.declared.entry.Logged.{Logged}
use Rattle.sv_journal.specs.declared.entry.Logged.TheVariants as logged
use Rattle.sv_journal.specs.History.{is_noted, client_of, is_client, new_action, Outcome, Accepted, Dropped, Denied, actions_of, next_seq, commit_of}
use Rattle.sv_journal.specs.Sessions.{is_end, is_over, is_live, asked_in, life_of, kept_outcome}
use Rattle.sv_journal.specs.Answer.{Rules, refused_as, is_above, is_full, is_spent, is_no_next_life, is_bad_done, is_good_interest, reply_to_allowed, reply_by_rights, reply_to_checked, reply_to_submit, reply_to_join, reply_to_client, reply_to_member, reply_to_request, reply_to, reply_to_poll, orphans}
use Rattle.sv_journal.specs.Serving.{plain, is_poll, with_last_rows, with_results, reply_for}
use Rattle.sv_journal.specs.Living.{Stewardship, is_stewards, counts, heeded, unreported, due_to, living}
use Rattle.sv_journal.proofs.Plain.{reply-same}
use Rattle.sv_journal.proofs.Stewards.{living-keeping}
use Rattle.sv_core.specs.declared.decision.Decision.{Decision}
use Rattle.sv_core.specs.declared.decision.Decision.TheVariants as decisions
use Rattle.sv_core.specs.Decisions.{reply_by, results_in, IsOld, DecisionHolds}
use Rattle.sv_living.specs.Deciding.{answers_poll, is_report, first_relay, IsDecided, IsDuePoll}
use Rattle.sv_living.specs.Keeping.{heard}
use Rattle.sv_living.proofs.Heeding.{accepted_heeded, heard_none}

-- ---- Only a Poll is answered Idle

abbrev is_idle : Logged → Bool
is_idle logged.Idle = true
is_idle _ = false

abbrev IsBusy : Logged → Type 0
IsBusy v = is_idle v ≡ false

module _ (r : Rules) (g : List Entry) (s : ℕ) where
  allowed-busy : (seq : ℕ) (a : Action) → IsBusy (reply_to_allowed r g s seq a)
  allowed-busy seq a =
      cond_both (nat_lt r.bound (chain_length (actions_of g) (commit_of g) a) || is_above r.reach (influence_distance (actions_of g) (commit_of g) a)) _ _ IsBusy
      (λ _. refl) (λ _. refl)

  rights-busy : (seq : ℕ) (a : Action) (o : Option ℕ) → IsBusy (reply_by_rights r g s seq a o)
  rights-busy seq a (Some object) = refl
  rights-busy seq a None = allowed-busy seq a

  checked-busy : (k seq : ℕ) (a : Action) (o : Option BadAction) → IsBusy (reply_to_checked r g s k seq a o)
  checked-busy k seq a (Some cause) = refl
  checked-busy k seq a None = cond_both (is_full r g seq) _ _ IsBusy (λ _. refl) (λ _. rights-busy seq a (first_forbidden r.rights k a))

  submit-busy : (k seq : ℕ) (a : Action) (o : Option Outcome) → IsBusy (reply_to_submit r g s k seq a o)
  submit-busy k seq a (Some (Dropped chain far)) = refl
  submit-busy k seq a (Some (Denied object)) = refl
  submit-busy k seq a (Some (Accepted p)) = cond_both (nat_le p (commit_of g)) _ _ IsBusy (λ _. refl) (λ _. refl)
  submit-busy k seq a None = cond_both (seq == next_seq g k) _ _ IsBusy (λ _. checked-busy k seq a (first_fault_of_action r.world.shape a)) (λ _. refl)

  client-busy : (k : ℕ) (q : Request) → is_poll q ≡ false → IsBusy (reply_to_client r g s k q)
  client-busy k (requests.Submit seq a) unasked = submit-busy k seq a (kept_outcome g k seq)
  client-busy k (requests.Done results) unasked = cond_both (is_bad_done r g s results) _ _ IsBusy (λ _. refl) (λ _. refl)
  client-busy k requests.Poll unasked = absurd (true≢false unasked)
  client-busy k (requests.Observe objects wait) unasked = cond_both (may_be_observed r.world.shape.objects (numbers_of objects)) _ _ IsBusy (λ _. refl) (λ _. refl)
  client-busy k (requests.Join client life interest) unasked = refl
  client-busy k requests.Leave unasked = refl
  client-busy k requests.Bad unasked = refl
  client-busy k requests.End unasked = refl

  member-busy : (o : Option ℕ) (q : Request) → is_poll q ≡ false → IsBusy (reply_to_member r g s o q)
  member-busy None q unasked = refl
  member-busy (Some k) q unasked = client-busy k q unasked

  join-busy : (k life : ℕ) (xs : List ℕ) → IsBusy (reply_to_join r g s k life xs)
  join-busy k life xs =
      cond_both (is_live g s) _ _ IsBusy (λ _. refl) (λ _.
      cond_both (nat_le r.clients k) _ _ IsBusy (λ _. refl) (λ _.
      cond_both (is_no_next_life r.leap (life_of g k) life) _ _ IsBusy (λ _. refl) (λ _.
      cond_both (is_good_interest r.world.shape.objects xs) _ _ IsBusy (λ _. refl) (λ _. refl))))

  open-busy : (v : Logged) → IsBusy v → IsBusy (if is_over g s then refused_as refusals.Over 0 else (if is_spent r.requests (asked_in g s) then refused_as refusals.TooManyRequests 0 else v))
  open-busy v busy = cond_both (is_over g s) _ _ IsBusy (λ _. refl) (λ _. cond_both (is_spent r.requests (asked_in g s)) _ _ IsBusy (λ _. refl) (λ _. busy))

  request-busy : (q : Request) → is_poll q ≡ false → IsBusy (reply_to_request r g s q)
  request-busy (requests.Join client life interest) unasked = open-busy _ (join-busy client.0 life (map (λ (o : ObjectId). o.0) interest))
  request-busy (requests.Submit seq a) unasked = open-busy _ (member-busy (client_of g s) (requests.Submit seq a) unasked)
  request-busy (requests.Done results) unasked = open-busy _ (member-busy (client_of g s) (requests.Done results) unasked)
  request-busy requests.Poll unasked = absurd (true≢false unasked)
  request-busy (requests.Observe objects wait) unasked = open-busy _ (member-busy (client_of g s) (requests.Observe objects wait) unasked)
  request-busy requests.Leave unasked = open-busy _ (member-busy (client_of g s) requests.Leave unasked)
  request-busy requests.Bad unasked = open-busy _ refl
  request-busy requests.End unasked = open-busy _ (member-busy (client_of g s) requests.End unasked)

  pub idle-poll : (q : Request) → logged.Idle ≡ reply_to_request r g s q → is_poll q ≡ true
  idle-poll q is = go (is_poll q) refl
    where
      go : (b : Bool) → is_poll q ≡ b → b ≡ true
      go true poll = refl
      go false unasked = absurd (true≢false (ap is_idle is ∙ request-busy q unasked))

poll-is : (q : Request) → is_poll q ≡ true → q ≡ requests.Poll
poll-is requests.Poll is = refl
poll-is (requests.Join client life interest) is = absurd (true≢false (sym is))
poll-is (requests.Submit seq a) is = absurd (true≢false (sym is))
poll-is (requests.Done results) is = absurd (true≢false (sym is))
poll-is (requests.Observe objects wait) is = absurd (true≢false (sym is))
poll-is requests.Leave is = absurd (true≢false (sym is))
poll-is requests.Bad is = absurd (true≢false (sym is))
poll-is requests.End is = absurd (true≢false (sym is))

pub reply-open : (r : Rules) (h : List Entry) (s : ℕ) (q : Request) → is_end q ≡ false → reply_to r h s q ≡ reply_to_request r h s q
reply-open r h s requests.Poll more = refl
reply-open r h s (requests.Join client life interest) more = refl
reply-open r h s (requests.Submit seq a) more = refl
reply-open r h s (requests.Done results) more = refl
reply-open r h s (requests.Observe objects wait) more = refl
reply-open r h s requests.Leave more = refl
reply-open r h s requests.Bad more = refl
reply-open r h s requests.End more = absurd (true≢false more)

old-poll : (h : List Entry) (s : ℕ) → IsOld h s requests.Poll
old-poll h s = record { accepts = none (client_of h s); outcomes = λ k. never (is_client (client_of h s) k) }
  where
    none : (o : Option ℕ) → new_action o (next_seq h) requests.Poll ≡ []
    none (Some k) = refl
    none None = refl

    never : (b : Bool) → (b && false) ≡ false
    never true = refl
    never false = refl

-- ---- The last rows where all counts, and nothing is due to a steward

-- the reply is one to a Poll that is not refused
abbrev is_polled : Request → Logged → Bool
is_polled q logged.Idle = true
is_polled q (logged.Relay seq commit head positions) = is_poll q
is_polled q _ = false

module _ (w : Stewardship) (r : Rules) (h : List Entry) (s : ℕ) (q : Request) where
  due-same : is_stewards w.steward h s ≡ false → reply_to_poll r (heeded w h) s (due_to w h s) ≡ reply_to_poll r (heeded w h) s (orphans (heeded w h))
  due-same apart = ap (λ (b : Bool). reply_to_poll r (heeded w h) s (if b then unreported (heeded w h) s else orphans (heeded w h))) apart

  rows-same : (v : Logged) → (is_noted v ≡ true → counts w h s ≡ true) → (is_polled q v ≡ true → is_stewards w.steward h s ≡ false)
      → with_last_rows (living w) r h s q v ≡ with_last_rows plain r (heeded w h) s q v
  rows-same (logged.Noted commit) counted other =
      ap (λ (b : Bool). logged.Noted (commit_of ((if b then record { session = s; request = q; reply = logged.Noted 0 } else record { session = s; request = with_results (λ d. false) q; reply = logged.Noted 0 }) ∷ heeded w h)))
      (counted refl)
  rows-same (logged.Relay seq commit head positions) counted other = go (is_poll q) other
    where
      go : (b : Bool) → (b ≡ true → is_stewards w.steward h s ≡ false)
          → (if b then reply_to_poll r (heeded w h) s (due_to w h s) else logged.Relay seq commit head positions)
          ≡ (if b then reply_to_poll r (heeded w h) s (orphans (heeded w h)) else logged.Relay seq commit head positions)
      go true other = due-same (other refl)
      go false other = refl
  rows-same logged.Idle counted other = due-same (other refl)
  rows-same (logged.Welcome commit head) counted other = refl
  rows-same (logged.Dropped seq chain far) counted other = refl
  rows-same (logged.Denied seq object) counted other = refl
  rows-same (logged.Seen last commit head positions) counted other = refl
  rows-same (logged.Settled seq pos) counted other = refl
  rows-same (logged.Refused code detail) counted other = refl
  rows-same logged.Bye counted other = refl

  -- As its core decides.
  as-core : (d : Decision) → is_end q ≡ false → reply_by r (heeded w h) s q d ≡ reply_to_request r (heeded w h) s q
      → (is_noted (reply_by r (heeded w h) s q d) ≡ true → counts w h s ≡ true)
      → (is_polled q (reply_by r (heeded w h) s q d) ≡ true → is_stewards w.steward h s ≡ false)
      → reply_by r (heeded w h) s q d ≡ reply_for (living w) r h s q
  as-core d more told counted other =
      let whole : reply_by r (heeded w h) s q d ≡ reply_to r (heeded w h) s q = told ∙ sym (reply-open r (heeded w h) s q more) in
      whole ∙ sym (reply-same r (heeded w h) s q)
      ∙ ap (with_last_rows plain r (heeded w h) s q) (sym whole)
      ∙ sym (rows-same (reply_by r (heeded w h) s q d) counted other)
      ∙ ap (with_last_rows (living w) r h s q) whole

  noted-is : (d : Decision) → DecisionHolds r (heeded w h) s q d → is_noted (reply_by r (heeded w h) s q d) ≡ true → q ≡ requests.Done (results_in q)
  noted-is decisions.Note holds is = holds.0
  noted-is (decisions.Refuse refusal detail) holds is = absurd (true≢false (sym is))
  noted-is (decisions.Welcome client life) holds is = absurd (true≢false (sym is))
  noted-is (decisions.Drop client seq chain far) holds is = absurd (true≢false (sym is))
  noted-is (decisions.Repeat seq chain far) holds is = absurd (true≢false (sym is))
  noted-is (decisions.Deny client seq object) holds is = absurd (true≢false (sym is))
  noted-is (decisions.RepeatDenied seq object) holds is = absurd (true≢false (sym is))
  noted-is (decisions.Settle seq pos) holds is = absurd (true≢false (sym is))
  noted-is (decisions.Relay seq pos) holds is = absurd (true≢false (sym is))
  noted-is (decisions.Accept client seq) holds is = absurd (true≢false (sym is))
  noted-is decisions.See holds is = absurd (true≢false (sym is))
  noted-is decisions.Idle holds is = absurd (true≢false (sym is))
  noted-is decisions.Leave holds is = absurd (true≢false (sym is))

  polled-is : (d : Decision) → DecisionHolds r (heeded w h) s q d → is_polled q (reply_by r (heeded w h) s q d) ≡ true → answers_poll q d ≡ true
  polled-is decisions.Idle holds is = refl
  polled-is (decisions.Relay seq pos) holds is = is
  polled-is (decisions.Accept client seq) holds is = absurd (true≢false (sym is ∙ ap is_poll holds.0.submit))
  polled-is (decisions.Refuse refusal detail) holds is = absurd (true≢false (sym is))
  polled-is (decisions.Welcome client life) holds is = absurd (true≢false (sym is))
  polled-is (decisions.Drop client seq chain far) holds is = absurd (true≢false (sym is))
  polled-is (decisions.Repeat seq chain far) holds is = absurd (true≢false (sym is))
  polled-is (decisions.Deny client seq object) holds is = absurd (true≢false (sym is))
  polled-is (decisions.RepeatDenied seq object) holds is = absurd (true≢false (sym is))
  polled-is (decisions.Settle seq pos) holds is = absurd (true≢false (sym is))
  polled-is decisions.See holds is = absurd (true≢false (sym is))
  polled-is decisions.Note holds is = absurd (true≢false (sym is))
  polled-is decisions.Leave holds is = absurd (true≢false (sym is))

-- ---- As its core decides, where the session's reports count

abbrev is_note : Decision → Bool
is_note decisions.Note = true
is_note _ = false

-- what is heard is the whole request
abbrev AllHeard : Stewardship → List Entry → ℕ → Request → Type 0
AllHeard w h s q = heard w h s q ≡ q

all-heard : (w : Stewardship) (h : List Entry) (s : ℕ) (q : Request) → counts w h s ≡ true → AllHeard w h s q
all-heard w h s q counted = ap (λ (b : Bool). if b then q else with_results (λ d. false) q) counted

module _ (w : Stewardship) (r : Rules) (h : List Entry) (s : ℕ) where
  decided-whole : (q : Request) (d : Decision) → AllHeard w h s q → is_end q ≡ false → reply_by r (heeded w h) s q d ≡ reply_to_request r (heeded w h) s q
      → DecisionHolds r (heeded w h) s q d
      → (is_noted (reply_by r (heeded w h) s q d) ≡ true → counts w h s ≡ true)
      → (answers_poll q d && is_stewards w.steward h s) ≡ false → IsDecided w r h s q d
  decided-whole q d whole more told holds counted other = record {
    reply = ap (λ (x : Request). reply_by r (heeded w h) s x d) whole ∙ as-core w r h s q d more told counted (λ polled. last (polled-is w r h s q d holds polled));
    holds = subst (λ (x : Request). DecisionHolds r (heeded w h) s x d) (sym whole) holds;
  }
    where
      last : answers_poll q d ≡ true → is_stewards w.steward h s ≡ false
      last asked = sym (ap (λ (b : Bool). b && is_stewards w.steward h s) asked) ∙ other

  old-done : IsOld (heeded w h) s (requests.Done [])
  old-done = record { accepts = none (client_of (heeded w h) s); outcomes = λ k. never (is_client (client_of (heeded w h) s) k) }
    where
      none : (o : Option ℕ) → new_action o (next_seq (heeded w h)) (requests.Done []) ≡ []
      none (Some k) = refl
      none None = refl

      never : (b : Bool) → (b && false) ≡ false
      never true = refl
      never false = refl

  -- A report that does not count, and is not noted.
  unnoted : (rs : List Done1) (d : Decision) → DecisionHolds r (heeded w h) s (requests.Done rs) d → (d ≡ decisions.Note → ⊥)
      → (reply_by r (heeded w h) s (requests.Done []) d ≡ reply_by r (heeded w h) s (requests.Done rs) d)
      × (DecisionHolds r (heeded w h) s (requests.Done []) d × (is_noted (reply_by r (heeded w h) s (requests.Done rs) d) ≡ false))
  unnoted rs decisions.Note holds other = absurd (other refl)
  unnoted rs (decisions.Refuse refusal detail) holds other = (refl, (tt, refl))
  unnoted rs (decisions.Welcome client life) holds other =
      (refl, (record { client = holds.client; number = holds.number; above = holds.above; interest = holds.interest }, refl))
  unnoted rs (decisions.Drop client seq chain far) holds other = absurd (true≢false (ap is_report holds.submit))
  unnoted rs (decisions.Deny client seq object) holds other = absurd (true≢false (ap is_report holds.submit))
  unnoted rs (decisions.Accept client seq) holds other = absurd (true≢false (ap is_report holds.0.submit))
  unnoted rs (decisions.Repeat seq chain far) holds other = (refl, (old-done, refl))
  unnoted rs (decisions.RepeatDenied seq object) holds other = (refl, (old-done, refl))
  unnoted rs (decisions.Settle seq pos) holds other = (refl, (tt, refl))
  unnoted rs (decisions.Relay seq pos) holds other = (refl, ((old-done, holds.1), refl))
  unnoted rs decisions.See holds other = (refl, ((old-done, holds.1), refl))
  unnoted rs decisions.Idle holds other = (refl, (tt, refl))
  unnoted rs decisions.Leave holds other = (refl, (tt, refl))

  -- A report that does not count, and is noted: it brings nothing.
  noted-none : (rs : List Done1) → counts w h s ≡ false → reply_by r (heeded w h) s (requests.Done rs) decisions.Note ≡ reply_to_request r (heeded w h) s (requests.Done rs)
      → reply_by r (heeded w h) s (requests.Done []) decisions.Note ≡ reply_for (living w) r h s (requests.Done rs)
  noted-none rs uncounted told =
      ap (λ (x : Request). logged.Noted (commit_of (record { session = s; request = x; reply = logged.Noted 0 } ∷ heeded w h))) (sym none)
      ∙ sym (ap (λ (b : Bool). logged.Noted (commit_of ((if b then record { session = s; request = requests.Done rs; reply = logged.Noted 0 } else record { session = s; request = with_results (λ d. false) (requests.Done rs); reply = logged.Noted 0 }) ∷ heeded w h))) uncounted)
      ∙ ap (with_last_rows (living w) r h s (requests.Done rs)) told
    where
      none : with_results (λ d. false) (requests.Done rs) ≡ requests.Done []
      none = sym (ap (λ (b : Bool). if b then requests.Done rs else with_results (λ d. false) (requests.Done rs)) uncounted) ∙ heard_none w h s rs uncounted

  decided-report : (rs : List Done1) (d : Decision) → counts w h s ≡ false → reply_by r (heeded w h) s (requests.Done rs) d ≡ reply_to_request r (heeded w h) s (requests.Done rs)
      → DecisionHolds r (heeded w h) s (requests.Done rs) d → (answers_poll (requests.Done rs) d && is_stewards w.steward h s) ≡ false → IsDecided w r h s (requests.Done rs) d
  decided-report rs d uncounted told holds other = go d refl
    where
      back : (e : Decision) → reply_by r (heeded w h) s (heard w h s (requests.Done rs)) e ≡ reply_by r (heeded w h) s (requests.Done []) e
      back e = ap (λ (x : Request). reply_by r (heeded w h) s x e) (heard_none w h s rs uncounted)

      last : answers_poll (requests.Done rs) d ≡ true → is_stewards w.steward h s ≡ false
      last asked = sym (ap (λ (b : Bool). b && is_stewards w.steward h s) asked) ∙ other

      rest : (d ≡ decisions.Note → ⊥) → IsDecided w r h s (requests.Done rs) d
      rest unlike =
          let u = unnoted rs d holds unlike in record {
            reply = back d ∙ u.0 ∙ as-core w r h s (requests.Done rs) d refl told (λ n. absurd (true≢false (sym n ∙ u.1.1))) (λ polled. last (polled-is w r h s (requests.Done rs) d holds polled));
            holds = subst (λ (x : Request). DecisionHolds r (heeded w h) s x d) (sym (heard_none w h s rs uncounted)) u.1.0;
          }

      go : (e : Decision) → d ≡ e → IsDecided w r h s (requests.Done rs) d
      go decisions.Note is = subst (IsDecided w r h s (requests.Done rs)) (sym is) (record {
        reply = back decisions.Note ∙ noted-none rs uncounted (sym (ap (reply_by r (heeded w h) s (requests.Done rs)) is) ∙ told);
        holds = subst (λ (x : Request). DecisionHolds r (heeded w h) s x decisions.Note) (sym (heard_none w h s rs uncounted)) (refl, refl);
      })
      go (decisions.Refuse refusal detail) is = rest (λ n. true≢false (sym (ap is_note (sym is ∙ n))))
      go (decisions.Welcome client life) is = rest (λ n. true≢false (sym (ap is_note (sym is ∙ n))))
      go (decisions.Drop client seq chain far) is = rest (λ n. true≢false (sym (ap is_note (sym is ∙ n))))
      go (decisions.Repeat seq chain far) is = rest (λ n. true≢false (sym (ap is_note (sym is ∙ n))))
      go (decisions.Deny client seq object) is = rest (λ n. true≢false (sym (ap is_note (sym is ∙ n))))
      go (decisions.RepeatDenied seq object) is = rest (λ n. true≢false (sym (ap is_note (sym is ∙ n))))
      go (decisions.Settle seq pos) is = rest (λ n. true≢false (sym (ap is_note (sym is ∙ n))))
      go (decisions.Relay seq pos) is = rest (λ n. true≢false (sym (ap is_note (sym is ∙ n))))
      go (decisions.Accept client seq) is = rest (λ n. true≢false (sym (ap is_note (sym is ∙ n))))
      go decisions.See is = rest (λ n. true≢false (sym (ap is_note (sym is ∙ n))))
      go decisions.Idle is = rest (λ n. true≢false (sym (ap is_note (sym is ∙ n))))
      go decisions.Leave is = rest (λ n. true≢false (sym (ap is_note (sym is ∙ n))))

  -- Any decision of the core, but on a steward's Poll.
  pub decided_other : (q : Request) (d : Decision) → is_end q ≡ false → reply_by r (heeded w h) s q d ≡ reply_to_request r (heeded w h) s q
      → DecisionHolds r (heeded w h) s q d → (answers_poll q d && is_stewards w.steward h s) ≡ false → IsDecided w r h s q d
  decided_other q d more told holds other = go (counts w h s) refl
    where
      same : with_results (λ d. false) q ≡ q → AllHeard w h s q
      same is = ap (λ (x : Request). if counts w h s then q else x) is ∙ one (counts w h s)
        where
          one : (b : Bool) → (if b then q else q) ≡ q
          one true = refl
          one false = refl

      plainly : with_results (λ d. false) q ≡ q → is_report q ≡ false → IsDecided w r h s q d
      plainly is undone = decided-whole q d (same is) more told holds (λ n. absurd (true≢false (sym (ap is_report (noted-is w r h s q d holds n)) ∙ undone))) other

      by : (x : Request) → q ≡ x → counts w h s ≡ false → IsDecided w r h s q d
      by (requests.Done rs) is uncounted = subst (λ (x : Request). IsDecided w r h s x d) (sym is)
          (decided-report rs d uncounted (subst (λ (x : Request). reply_by r (heeded w h) s x d ≡ reply_to_request r (heeded w h) s x) is told)
          (subst (λ (x : Request). DecisionHolds r (heeded w h) s x d) is holds) (subst (λ (x : Request). (answers_poll x d && is_stewards w.steward h s) ≡ false) is other))
      by (requests.Join client life interest) is uncounted = plainly (ap (with_results (λ d. false)) is ∙ sym is) (ap is_report is)
      by (requests.Submit seq a) is uncounted = plainly (ap (with_results (λ d. false)) is ∙ sym is) (ap is_report is)
      by requests.Poll is uncounted = plainly (ap (with_results (λ d. false)) is ∙ sym is) (ap is_report is)
      by (requests.Observe objects wait) is uncounted = plainly (ap (with_results (λ d. false)) is ∙ sym is) (ap is_report is)
      by requests.Leave is uncounted = plainly (ap (with_results (λ d. false)) is ∙ sym is) (ap is_report is)
      by requests.Bad is uncounted = plainly (ap (with_results (λ d. false)) is ∙ sym is) (ap is_report is)
      by requests.End is uncounted = plainly (ap (with_results (λ d. false)) is ∙ sym is) (ap is_report is)

      go : (b : Bool) → counts w h s ≡ b → IsDecided w r h s q d
      go true counted = decided-whole q d (all-heard w h s q counted) more told holds (λ _. counted) other
      go false uncounted = by q refl uncounted

  -- ---- What a steward polls

  first-is : (xs : List ℕ) (q : Request) → reply_by r (heeded w h) s q (first_relay xs) ≡ reply_to_poll r (heeded w h) s xs
  first-is [] q = refl
  first-is (p ∷ ps) q = refl

  poll-asked : (q : Request) (d : Decision) → answers_poll q d ≡ true → reply_by r (heeded w h) s q d ≡ reply_to_request r (heeded w h) s q → is_poll q ≡ true
  poll-asked q decisions.Idle is told = idle-poll r (heeded w h) s q told
  poll-asked q (decisions.Relay seq pos) is told = is
  poll-asked q (decisions.Refuse refusal detail) is told = absurd (true≢false (sym is))
  poll-asked q (decisions.Welcome client life) is told = absurd (true≢false (sym is))
  poll-asked q (decisions.Drop client seq chain far) is told = absurd (true≢false (sym is))
  poll-asked q (decisions.Repeat seq chain far) is told = absurd (true≢false (sym is))
  poll-asked q (decisions.Deny client seq object) is told = absurd (true≢false (sym is))
  poll-asked q (decisions.RepeatDenied seq object) is told = absurd (true≢false (sym is))
  poll-asked q (decisions.Settle seq pos) is told = absurd (true≢false (sym is))
  poll-asked q (decisions.Accept client seq) is told = absurd (true≢false (sym is))
  poll-asked q decisions.See is told = absurd (true≢false (sym is))
  poll-asked q decisions.Note is told = absurd (true≢false (sym is))
  poll-asked q decisions.Leave is told = absurd (true≢false (sym is))

  polled-rows : (q : Request) (d : Decision) → answers_poll q d ≡ true
      → with_last_rows (living w) r h s q (reply_by r (heeded w h) s q d) ≡ reply_to_poll r (heeded w h) s (due_to w h s)
  polled-rows q decisions.Idle is = refl
  polled-rows q (decisions.Relay seq pos) is = cond-true (is_poll q) _ _ is
  polled-rows q (decisions.Refuse refusal detail) is = absurd (true≢false (sym is))
  polled-rows q (decisions.Welcome client life) is = absurd (true≢false (sym is))
  polled-rows q (decisions.Drop client seq chain far) is = absurd (true≢false (sym is))
  polled-rows q (decisions.Repeat seq chain far) is = absurd (true≢false (sym is))
  polled-rows q (decisions.Deny client seq object) is = absurd (true≢false (sym is))
  polled-rows q (decisions.RepeatDenied seq object) is = absurd (true≢false (sym is))
  polled-rows q (decisions.Settle seq pos) is = absurd (true≢false (sym is))
  polled-rows q (decisions.Accept client seq) is = absurd (true≢false (sym is))
  polled-rows q decisions.See is = absurd (true≢false (sym is))
  polled-rows q decisions.Note is = absurd (true≢false (sym is))
  polled-rows q decisions.Leave is = absurd (true≢false (sym is))

  steward-counts : is_stewards w.steward h s ≡ true → counts w h s ≡ true
  steward-counts is = ap (λ (b : Bool). not w.authority || b) is ∙ go w.authority
    where
      go : (b : Bool) → (not b || true) ≡ true
      go true = refl
      go false = refl

  holds-first : (q : Request) (xs : List ℕ) → q ≡ requests.Poll → due_to w h s ≡ xs → DecisionHolds r (heeded w h) s q (first_relay xs)
  holds-first q [] poll due = tt
  holds-first q (p ∷ ps) poll due = (
    subst (IsOld (heeded w h) s) (sym poll) (old-poll (heeded w h) s),
    (
      (living-keeping w).above h s p here,
      subst (λ (n : ℕ). p ≤ n) (sym (ap length (accepted_heeded w h))) ((living-keeping w).within h s p here),
    ),
  )
    where
      here : is_in p (due_to w h s) ≡ true
      here = ap (is_in p) due ∙ is_in-head p ps

  -- A steward's Poll that is not refused is sent the lowest position that is unreported.
  pub decided_steward : (q : Request) (d : Decision) → is_end q ≡ false → reply_by r (heeded w h) s q d ≡ reply_to_request r (heeded w h) s q
      → (answers_poll q d && is_stewards w.steward h s) ≡ true → IsDecided w r h s q (first_relay (unreported (heeded w h) s))
  decided_steward q d more told both = record {
    reply =
        ap (λ (x : Request). reply_by r (heeded w h) s x (first_relay (unreported (heeded w h) s))) whole
        ∙ first-is (unreported (heeded w h) s) q
        ∙ sym (ap (reply_to_poll r (heeded w h) s) due)
        ∙ sym (polled-rows q d asked)
        ∙ ap (with_last_rows (living w) r h s q) (told ∙ sym (reply-open r (heeded w h) s q more));
    holds = subst (λ (x : Request). DecisionHolds r (heeded w h) s x (first_relay (unreported (heeded w h) s))) (sym whole)
        (holds-first q (unreported (heeded w h) s) (poll-is q (poll-asked q d asked told)) due);
  }
    where
      asked : answers_poll q d ≡ true
      asked = (and_parts (answers_poll q d) (is_stewards w.steward h s) both).0

      steward : is_stewards w.steward h s ≡ true
      steward = (and_parts (answers_poll q d) (is_stewards w.steward h s) both).1

      whole : heard w h s q ≡ q
      whole = all-heard w h s q (steward-counts steward)

      due : due_to w h s ≡ unreported (heeded w h) s
      due = ap (λ (b : Bool). if b then unreported (heeded w h) s else orphans (heeded w h)) steward

  answers-first : (xs : List ℕ) → answers_poll requests.Poll (first_relay xs) ≡ true
  answers-first [] = refl
  answers-first (p ∷ ps) = refl

  -- The same where it is known without the core's decision that the Poll is not refused.
  pub decided_poll : (q : Request) → IsDuePoll w r h s q → IsDecided w r h s q (first_relay (unreported (heeded w h) s))
  decided_poll q due = subst (λ (x : Request). IsDecided w r h s x (first_relay (unreported (heeded w h) s))) (sym (poll-is q due.poll))
      (decided_steward requests.Poll (first_relay (orphans (heeded w h))) refl (first-is (orphans (heeded w h)) requests.Poll ∙ sym due.told)
      (ap (λ (b : Bool). b && is_stewards w.steward h s) (answers-first (orphans (heeded w h))) ∙ due.steward))
