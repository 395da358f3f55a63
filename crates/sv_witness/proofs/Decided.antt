-- How a witnessing server answers what its core decided: what a decision says of the request, and of the reply that is wanted.
use Rattle.std.proofs.Common.{◌≡◌, ℕ, ◌≤◌, Bool, true, false, ◌&&◌, ◌||◌, ◌==◌, nat_le, nat_lt, map, List, [], ◌∷◌, length, Option, Some, None, refl, sym, ap, ◌∙◌, subst, true≢false}
use Rattle.std.specs.Prelude.{if◌then◌else◌}
use Rattle.std.proofs.lemmas.Bool.{cond-true, cond_both}
use mathlib.Core.Bool.{and-false}
use Rattle.sv_world.specs.declared.action.Action.{Action}
use Rattle.sv_world.specs.declared.check.BadAction.{BadAction}
use Rattle.sv_world.specs.declared.world.ObjectId.{ObjectId}
use Rattle.sv_world.specs.Control.{chain_length, influence_distance}
use Rattle.sv_world.specs.Faults.{first_fault_of_action, may_be_observed}
use Rattle.sv_world.specs.Rights.{first_forbidden}
use Rattle.sv_world.specs.Sets.{numbers_of}
use Rattle.sv_wire.specs.declared.message.Done1.{Done1}
use Rattle.sv_wire.specs.declared.message.Request.{Request}
use Rattle.sv_wire.specs.declared.message.Request.TheVariants as requests
use Rattle.sv_wire.specs.declared.refusal.Refusal.TheVariants as refusals
use Rattle.sv_journal.specs.declared.entry.Entry.{Entry}
use Rattle.sv_journal.specs.declared.entry.Logged.{Logged}
use Rattle.sv_journal.specs.declared.entry.Logged.TheVariants as logged
use Rattle.sv_journal.specs.History.{Authored, is_noted, client_of, is_client, is_submit_of, new_action, Outcome, Accepted, Dropped, Denied, actions_of, next_seq, commit_of}
use Rattle.sv_journal.specs.Sessions.{is_end, is_over, is_live, asked_in, life_of, kept_outcome}
use Rattle.sv_journal.specs.Answer.{Rules, refused_as, is_above, is_full, is_bad_done, is_good_interest, is_no_next_life, is_spent, reply_by_rights, reply_to_checked, reply_to_submit, reply_to_join, reply_to_client, reply_to_member, reply_to_request, reply_to_poll}
use Rattle.sv_journal.specs.Serving.{is_poll, with_last_rows, noted_after, polled_after}
use Rattle.sv_core.specs.declared.decision.Decision.{Decision}
use Rattle.sv_core.specs.declared.decision.Decision.TheVariants as decisions
use Rattle.sv_core.specs.Decisions.{reply_by, results_in, IsOld, DecisionHolds}
use Rattle.sv_core.proofs.Kept.{old-poll}
use Rattle.law_system.proofs.Aligned.{is_submit}
use Rattle.sv_witness.specs.Reports.{agreed_history, due_to}
use Rattle.sv_witness.specs.Standing.{emptied, answers_poll, first_relay}
use Rattle.sv_witness.specs.Witnessed.{agreed, witnessed_reply}
use Rattle.sv_sequencer.proofs.Stepped.{reply-open}
use Rattle.sv_witness.proofs.Routes.{IsPlain, plain-reply, plain-quiet, noted-may, due-uncommitted}
use Rattle.sv_witness.proofs.Same.{accepted-agreed, client-agreed}
use Rattle.sv_witness.proofs.Steps.{poll-none, poll-some}
use Rattle.sv_witness.proofs.Forms.{polled-quiet}

-- ---- Only a Poll is answered Idle

abbrev is_idle : Logged → Bool
is_idle logged.Idle = true
is_idle _ = false

abbrev IsBusy : Logged → Type 0
IsBusy w = is_idle w ≡ false

module _ (r : Rules) (g : List Entry) (s : ℕ) where
  rights-busy : (seq : ℕ) (a : Action) (o : Option ℕ) → IsBusy (reply_by_rights r g s seq a o)
  rights-busy seq a (Some object) = refl
  rights-busy seq a None =
      cond_both (nat_lt r.bound (chain_length (actions_of g) (commit_of g) a) || is_above r.reach (influence_distance (actions_of g) (commit_of g) a)) _ _ IsBusy
      (λ _. refl) (λ _. refl)

  checked-busy : (k seq : ℕ) (a : Action) (o : Option BadAction) → IsBusy (reply_to_checked r g s k seq a o)
  checked-busy k seq a (Some cause) = refl
  checked-busy k seq a None = cond_both (is_full r g seq) _ _ IsBusy (λ _. refl) (λ _. rights-busy seq a (first_forbidden r.rights k a))

  submit-busy : (k seq : ℕ) (a : Action) (o : Option Outcome) → IsBusy (reply_to_submit r g s k seq a o)
  submit-busy k seq a (Some (Dropped chain far)) = refl
  submit-busy k seq a (Some (Denied object)) = refl
  submit-busy k seq a (Some (Accepted p)) = cond_both (nat_le p (commit_of g)) _ _ IsBusy (λ _. refl) (λ _. refl)
  submit-busy k seq a None = cond_both (seq == next_seq g k) _ _ IsBusy (λ _. checked-busy k seq a (first_fault_of_action r.world.shape a)) (λ _. refl)

  client-busy : (k : ℕ) (q : Request) → is_poll q ≡ false → IsBusy (reply_to_client r g s k q)
  client-busy k (requests.Submit seq a) unasked = submit-busy k seq a (kept_outcome g k seq)
  client-busy k (requests.Done results) unasked = cond_both (is_bad_done r g s results) _ _ IsBusy (λ _. refl) (λ _. refl)
  client-busy k requests.Poll unasked = absurd (true≢false unasked)
  client-busy k (requests.Observe objects wait) unasked = cond_both (may_be_observed r.world.shape.objects (numbers_of objects)) _ _ IsBusy (λ _. refl) (λ _. refl)
  client-busy k (requests.Join client life interest) unasked = refl
  client-busy k requests.Leave unasked = refl
  client-busy k requests.Bad unasked = refl
  client-busy k requests.End unasked = refl

  member-busy : (o : Option ℕ) (q : Request) → is_poll q ≡ false → IsBusy (reply_to_member r g s o q)
  member-busy None q unasked = refl
  member-busy (Some k) q unasked = client-busy k q unasked

  join-busy : (k life : ℕ) (xs : List ℕ) → IsBusy (reply_to_join r g s k life xs)
  join-busy k life xs =
      cond_both (is_live g s) _ _ IsBusy (λ _. refl) (λ _.
      cond_both (nat_le r.clients k) _ _ IsBusy (λ _. refl) (λ _.
      cond_both (is_no_next_life r.leap (life_of g k) life) _ _ IsBusy (λ _. refl) (λ _.
      cond_both (is_good_interest r.world.shape.objects xs) _ _ IsBusy (λ _. refl) (λ _. refl))))

  open-busy : (w : Logged) → IsBusy w → IsBusy (if is_over g s then refused_as refusals.Over 0 else (if is_spent r.requests (asked_in g s) then refused_as refusals.TooManyRequests 0 else w))
  open-busy w busy = cond_both (is_over g s) _ _ IsBusy (λ _. refl) (λ _. cond_both (is_spent r.requests (asked_in g s)) _ _ IsBusy (λ _. refl) (λ _. busy))

  request-busy : (q : Request) → is_poll q ≡ false → IsBusy (reply_to_request r g s q)
  request-busy (requests.Join client life interest) unasked = open-busy _ (join-busy client.0 life (map (λ (o : ObjectId). o.0) interest))
  request-busy (requests.Submit seq a) unasked = open-busy _ (member-busy (client_of g s) (requests.Submit seq a) unasked)
  request-busy (requests.Done results) unasked = open-busy _ (member-busy (client_of g s) (requests.Done results) unasked)
  request-busy requests.Poll unasked = absurd (true≢false unasked)
  request-busy (requests.Observe objects wait) unasked = open-busy _ (member-busy (client_of g s) (requests.Observe objects wait) unasked)
  request-busy requests.Leave unasked = open-busy _ (member-busy (client_of g s) requests.Leave unasked)
  request-busy requests.Bad unasked = open-busy _ refl
  request-busy requests.End unasked = open-busy _ (member-busy (client_of g s) requests.End unasked)

  idle-poll : (q : Request) → logged.Idle ≡ reply_to_request r g s q → is_poll q ≡ true
  idle-poll q is = go (is_poll q) refl
    where
      go : (b : Bool) → is_poll q ≡ b → b ≡ true
      go true poll = refl
      go false unasked = absurd (true≢false (ap is_idle is ∙ request-busy q unasked))

poll-is : (q : Request) → is_poll q ≡ true → q ≡ requests.Poll
poll-is requests.Poll is = refl
poll-is (requests.Join client life interest) is = absurd (true≢false (sym is))
poll-is (requests.Submit seq a) is = absurd (true≢false (sym is))
poll-is (requests.Done results) is = absurd (true≢false (sym is))
poll-is (requests.Observe objects wait) is = absurd (true≢false (sym is))
poll-is requests.Leave is = absurd (true≢false (sym is))
poll-is requests.Bad is = absurd (true≢false (sym is))
poll-is requests.End is = absurd (true≢false (sym is))

-- ---- Any decision

module _ (r : Rules) (h : List Entry) (s : ℕ) (q : Request) (d : Decision) (more : is_end q ≡ false)
    (told : reply_by r (agreed_history h) s q d ≡ reply_to_request r (agreed_history h) s q) where
  decided-reply : witnessed_reply r h s q ≡ with_last_rows agreed r h s q (reply_by r (agreed_history h) s q d)
  decided-reply = ap (with_last_rows agreed r h s q) (reply-open r (agreed_history h) s q more ∙ sym told)

  -- ---- A Done is noted

  -- It is a Done, and not bad.
  pub note-done : d ≡ decisions.Note → DecisionHolds r (agreed_history h) s q d → q ≡ requests.Done (results_in q)
  note-done is holds = (subst (DecisionHolds r (agreed_history h) s q) is holds).0

  pub note-good : d ≡ decisions.Note → DecisionHolds r (agreed_history h) s q d → is_bad_done r (agreed_history h) s (results_in q) ≡ false
  note-good is holds =
      (noted-may r (agreed_history h) s (results_in q)
      (ap (λ (x : Request). is_noted (reply_to_request r (agreed_history h) s x)) (sym (note-done is holds))
      ∙ ap is_noted (sym told) ∙ ap (λ (x : Decision). is_noted (reply_by r (agreed_history h) s q x)) is)).good

  pub note-reply : d ≡ decisions.Note → witnessed_reply r h s q ≡ noted_after agreed h s q
  note-reply is = decided-reply ∙ ap (λ (x : Decision). with_last_rows agreed r h s q (reply_by r (agreed_history h) s q x)) is

  -- ---- A Poll that is not refused

  pub poll-asked : answers_poll q d ≡ true → q ≡ requests.Poll
  poll-asked is = poll-is q (go d is told)
    where
      go : (d : Decision) → answers_poll q d ≡ true → reply_by r (agreed_history h) s q d ≡ reply_to_request r (agreed_history h) s q → is_poll q ≡ true
      go decisions.Idle is told = idle-poll r (agreed_history h) s q told
      go (decisions.Relay seq pos) is told = is
      go (decisions.Refuse refusal detail) is told = absurd (true≢false (sym is))
      go (decisions.Welcome client life) is told = absurd (true≢false (sym is))
      go (decisions.Drop client seq chain far) is told = absurd (true≢false (sym is))
      go (decisions.Deny client seq object) is told = absurd (true≢false (sym is))
      go (decisions.Repeat seq chain far) is told = absurd (true≢false (sym is))
      go (decisions.RepeatDenied seq object) is told = absurd (true≢false (sym is))
      go (decisions.Settle seq pos) is told = absurd (true≢false (sym is))
      go (decisions.Accept client seq) is told = absurd (true≢false (sym is))
      go decisions.Note is told = absurd (true≢false (sym is))
      go decisions.Leave is told = absurd (true≢false (sym is))
      go decisions.See is told = absurd (true≢false (sym is))

  pub poll-reply : answers_poll q d ≡ true → witnessed_reply r h s q ≡ polled_after agreed r h s
  poll-reply is = decided-reply ∙ go d is
    where
      go : (d : Decision) → answers_poll q d ≡ true → with_last_rows agreed r h s q (reply_by r (agreed_history h) s q d) ≡ polled_after agreed r h s
      go decisions.Idle is = refl
      go (decisions.Relay seq pos) is = cond-true (is_poll q) _ _ is
      go (decisions.Refuse refusal detail) is = absurd (true≢false (sym is))
      go (decisions.Welcome client life) is = absurd (true≢false (sym is))
      go (decisions.Drop client seq chain far) is = absurd (true≢false (sym is))
      go (decisions.Deny client seq object) is = absurd (true≢false (sym is))
      go (decisions.Repeat seq chain far) is = absurd (true≢false (sym is))
      go (decisions.RepeatDenied seq object) is = absurd (true≢false (sym is))
      go (decisions.Settle seq pos) is = absurd (true≢false (sym is))
      go (decisions.Accept client seq) is = absurd (true≢false (sym is))
      go decisions.Note is = absurd (true≢false (sym is))
      go decisions.Leave is = absurd (true≢false (sym is))
      go decisions.See is = absurd (true≢false (sym is))

-- ---- Other decisions

is-plain : (r : Rules) (g : List Entry) (s : ℕ) (q : Request) (d : Decision) → (d ≡ decisions.Note → ⊥) → answers_poll q d ≡ false → DecisionHolds r g s q d → IsPlain q d
is-plain r g s q decisions.Note other unasked holds = other refl
is-plain r g s q decisions.Idle other unasked holds = true≢false unasked
is-plain r g s q (decisions.Relay seq pos) other unasked holds = unasked
is-plain r g s q (decisions.Accept client seq) other unasked holds = ap is_poll holds.0.submit
is-plain r g s q (decisions.Refuse refusal detail) other unasked holds = tt
is-plain r g s q (decisions.Welcome client life) other unasked holds = tt
is-plain r g s q (decisions.Drop client seq chain far) other unasked holds = tt
is-plain r g s q (decisions.Deny client seq object) other unasked holds = tt
is-plain r g s q (decisions.Repeat seq chain far) other unasked holds = tt
is-plain r g s q (decisions.RepeatDenied seq object) other unasked holds = tt
is-plain r g s q (decisions.Settle seq pos) other unasked holds = tt
is-plain r g s q decisions.Leave other unasked holds = tt
is-plain r g s q decisions.See other unasked holds = tt

-- A Done gives no client a new outcome.
done-old : (g : List Entry) (s : ℕ) (results : List Done1) → IsOld g s (requests.Done results)
done-old g s results = record { accepts = accepts (client_of g s); outcomes = outcomes (client_of g s) }
  where
    accepts : (o : Option ℕ) → new_action o (next_seq g) (requests.Done results) ≡ []
    accepts None = refl
    accepts (Some k) = refl

    outcomes : (o : Option ℕ) (k : ℕ) → (is_client o k && is_submit_of (requests.Done results) (next_seq g k)) ≡ false
    outcomes None k = refl
    outcomes (Some j) k = and-false (j == k)

done-holds : (r : Rules) (g : List Entry) (s : ℕ) (results : List Done1) (d : Decision) → IsPlain (requests.Done results) d → DecisionHolds r g s (requests.Done results) d →
    DecisionHolds r g s (requests.Done []) d
done-holds r g s results decisions.Note plain holds = absurd plain
done-holds r g s results decisions.Idle plain holds = tt
done-holds r g s results (decisions.Relay seq pos) plain holds = (done-old g s [], holds.1)
done-holds r g s results (decisions.Accept client seq) plain holds = absurd (true≢false (sym (ap is_submit holds.0.submit)))
done-holds r g s results (decisions.Refuse refusal detail) plain holds = tt
done-holds r g s results (decisions.Welcome client life) plain holds = record { client = holds.client; number = holds.number; above = holds.above; interest = holds.interest }
done-holds r g s results (decisions.Drop client seq chain far) plain holds = absurd (true≢false (sym (ap is_submit holds.submit)))
done-holds r g s results (decisions.Deny client seq object) plain holds = absurd (true≢false (sym (ap is_submit holds.submit)))
done-holds r g s results (decisions.Repeat seq chain far) plain holds = done-old g s []
done-holds r g s results (decisions.RepeatDenied seq object) plain holds = done-old g s []
done-holds r g s results (decisions.Settle seq pos) plain holds = tt
done-holds r g s results decisions.See plain holds = (done-old g s [], holds.1)
done-holds r g s results decisions.Leave plain holds = tt

-- They hold as well of a Done without its results.
emptied-holds : (r : Rules) (g : List Entry) (s : ℕ) (q : Request) (d : Decision) → IsPlain q d → DecisionHolds r g s q d → DecisionHolds r g s (emptied q) d
emptied-holds r g s (requests.Done results) d plain holds = done-holds r g s results d plain holds
emptied-holds r g s (requests.Join client life interest) d plain holds = holds
emptied-holds r g s (requests.Submit seq a) d plain holds = holds
emptied-holds r g s requests.Poll d plain holds = holds
emptied-holds r g s (requests.Observe objects wait) d plain holds = holds
emptied-holds r g s requests.Leave d plain holds = holds
emptied-holds r g s requests.Bad d plain holds = holds
emptied-holds r g s requests.End d plain holds = holds

done-reply : (r : Rules) (g : List Entry) (s : ℕ) (results : List Done1) (d : Decision) → IsPlain (requests.Done results) d →
    reply_by r g s (requests.Done []) d ≡ reply_by r g s (requests.Done results) d
done-reply r g s results decisions.Note plain = absurd plain
done-reply r g s results decisions.Idle plain = refl
done-reply r g s results (decisions.Relay seq pos) plain = refl
done-reply r g s results (decisions.Accept client seq) plain = refl
done-reply r g s results (decisions.Refuse refusal detail) plain = refl
done-reply r g s results (decisions.Welcome client life) plain = refl
done-reply r g s results (decisions.Drop client seq chain far) plain = refl
done-reply r g s results (decisions.Deny client seq object) plain = refl
done-reply r g s results (decisions.Repeat seq chain far) plain = refl
done-reply r g s results (decisions.RepeatDenied seq object) plain = refl
done-reply r g s results (decisions.Settle seq pos) plain = refl
done-reply r g s results decisions.Leave plain = refl
done-reply r g s results decisions.See plain = refl

emptied-reply : (r : Rules) (g : List Entry) (s : ℕ) (q : Request) (d : Decision) → IsPlain q d → reply_by r g s (emptied q) d ≡ reply_by r g s q d
emptied-reply r g s (requests.Done results) d plain = done-reply r g s results d plain
emptied-reply r g s (requests.Join client life interest) d plain = refl
emptied-reply r g s (requests.Submit seq a) d plain = refl
emptied-reply r g s requests.Poll d plain = refl
emptied-reply r g s (requests.Observe objects wait) d plain = refl
emptied-reply r g s requests.Leave d plain = refl
emptied-reply r g s requests.Bad d plain = refl
emptied-reply r g s requests.End d plain = refl

module _ (r : Rules) (h : List Entry) (s : ℕ) (q : Request) (d : Decision) (more : is_end q ≡ false)
    (told : reply_by r (agreed_history h) s q d ≡ reply_to_request r (agreed_history h) s q) (holds : DecisionHolds r (agreed_history h) s q d)
    (other : d ≡ decisions.Note → ⊥) (no_poll : answers_poll q d ≡ false) where
  plain : IsPlain q d
  plain = is-plain r (agreed_history h) s q d other no_poll holds

  pub keep-holds : DecisionHolds r (agreed_history h) s (emptied q) d
  keep-holds = emptied-holds r (agreed_history h) s q d plain holds

  same-reply : witnessed_reply r h s q ≡ reply_by r (agreed_history h) s q d
  same-reply = decided-reply r h s q d more told ∙ plain-reply r h s q d plain

  pub keep-reply : reply_by r (agreed_history h) s (emptied q) d ≡ witnessed_reply r h s q
  keep-reply = emptied-reply r (agreed_history h) s q d plain ∙ sym same-reply

  pub keep-quiet : is_noted (witnessed_reply r h s q) ≡ false
  keep-quiet = ap is_noted same-reply ∙ plain-quiet r (agreed_history h) s q d plain

-- ---- Polls

-- What is decided on a Poll that is not refused.
module _ (r : Rules) (h : List Entry) (s : ℕ) where
  due-holds : (ps : List ℕ) → due_to h s ≡ ps → DecisionHolds r (agreed_history h) s requests.Poll (first_relay ps)
  due-holds [] is = tt
  due-holds (p ∷ ps) is =
      let open_still = due-uncommitted h s p ps is in
      (old-poll (agreed_history h) s, (open_still.0, subst (λ (A : List Authored). p ≤ length A) (sym (accepted-agreed h)) open_still.1))

  due-reply : (ps : List ℕ) → due_to h s ≡ ps → reply_by r (agreed_history h) s requests.Poll (first_relay ps) ≡ polled_after agreed r h s
  due-reply [] is = sym (poll-none r h s is)
  due-reply (p ∷ ps) is = sym (poll-some r h s p ps is)

  module _ (q : Request) (d : Decision) (poll : q ≡ requests.Poll) (is : d ≡ first_relay (due_to h s)) (reply : witnessed_reply r h s q ≡ polled_after agreed r h s) where
    pub poll-holds : DecisionHolds r (agreed_history h) s (emptied q) d
    poll-holds =
        subst (λ (x : Decision). DecisionHolds r (agreed_history h) s (emptied q) x) (sym is)
        (subst (λ (x : Request). DecisionHolds r (agreed_history h) s (emptied x) (first_relay (due_to h s))) (sym poll) (due-holds (due_to h s) refl))

    pub poll-told : reply_by r (agreed_history h) s (emptied q) d ≡ witnessed_reply r h s q
    poll-told =
        ap (λ (x : Request). reply_by r (agreed_history h) s (emptied x) d) poll
        ∙ ap (reply_by r (agreed_history h) s requests.Poll) is ∙ due-reply (due_to h s) refl ∙ sym reply

    pub poll-quiet : is_noted (witnessed_reply r h s q) ≡ false
    poll-quiet = ap is_noted reply ∙ polled-quiet r (agreed_history h) s (due_to h s)

-- ---- A session without a client is refused

abbrev is_refused : Logged → Bool
is_refused (logged.Refused code detail) = true
is_refused _ = false

pub record HasClient (h : List Entry) (s : ℕ) : Type 0 where
  pub client : ℕ
  pub joined : client_of h s ≡ Some client

module _ (r : Rules) (h : List Entry) (s : ℕ) (q : Request) where
  abbrev member_reply : Bool → Bool → Option ℕ → Logged
  member_reply over spent client =
      with_last_rows agreed r h s q
      (if over then refused_as refusals.Over 0 else if spent then refused_as refusals.TooManyRequests 0 else reply_to_member r (agreed_history h) s client q)

  member-joined : (over spent : Bool) (client : Option ℕ) → client ≡ client_of h s → is_refused (member_reply over spent client) ≡ false → HasClient h s
  member-joined true spent client is served = absurd (true≢false served)
  member-joined false true client is served = absurd (true≢false served)
  member-joined false false None is served = absurd (true≢false served)
  member-joined false false (Some k) is served = record { client = k; joined = sym is }

  served-joined : is_refused (member_reply (is_over (agreed_history h) s) (is_spent r.requests (asked_in (agreed_history h) s)) (client_of (agreed_history h) s)) ≡ false → HasClient h s
  served-joined served =
      member-joined (is_over (agreed_history h) s) (is_spent r.requests (asked_in (agreed_history h) s)) (client_of (agreed_history h) s) (client-agreed h s) served

polled-served : (r : Rules) (h : List Entry) (s : ℕ) (ps : List ℕ) → is_refused (reply_to_poll r h s ps) ≡ false
polled-served r h s [] = refl
polled-served r h s (p ∷ ps) = refl

pub poll-joined : (r : Rules) (h : List Entry) (s : ℕ) (q : Request) → q ≡ requests.Poll → witnessed_reply r h s q ≡ polled_after agreed r h s → HasClient h s
poll-joined r h s q is reply =
    served-joined r h s requests.Poll (ap is_refused (ap (witnessed_reply r h s) (sym is) ∙ reply) ∙ polled-served r (agreed_history h) s (due_to h s))

pub done-joined : (r : Rules) (h : List Entry) (s : ℕ) (q : Request) → q ≡ requests.Done (results_in q) → witnessed_reply r h s q ≡ noted_after agreed h s q → HasClient h s
done-joined r h s q is reply =
    served-joined r h s (requests.Done (results_in q)) (ap is_refused (ap (witnessed_reply r h s) (sym is) ∙ reply))

-- ---- Requests without results

pub emptied-done : (q : Request) (results : List Done1) → q ≡ requests.Done results → emptied q ≡ requests.Done []
emptied-done q results is = ap emptied is

pub emptied-other : (q : Request) → ((results : List Done1) → q ≡ requests.Done results → ⊥) → emptied q ≡ q
emptied-other (requests.Done results) other = absurd (other results refl)
emptied-other (requests.Join client life interest) other = refl
emptied-other (requests.Submit seq a) other = refl
emptied-other requests.Poll other = refl
emptied-other (requests.Observe objects wait) other = refl
emptied-other requests.Leave other = refl
emptied-other requests.Bad other = refl
emptied-other requests.End other = refl
