-- A relay has at most one item more than the bound, and what is seen no more than a report may have results.
use Rattle.std.proofs.Common.{◌≡◌, ℕ, suc, ◌+◌, ◌<◌, ◌≤◌, false, nat_lt, inl, inr, List, [], ◌∷◌, ◌++◌, length, refl, ap, ap₂, ◌∙◌, subst, arith, append-nil, append_assoc}
use Rattle.std.specs.Prelude.{if◌then◌else◌}
use Rattle.std.specs.List.{AllByRecursion}
use Rattle.std.proofs.lemmas.Bool.{cond-false, cases_lt, ltb-false}
use Rattle.std.proofs.lemmas.List.{length-append}
use Rattle.sv_world.specs.declared.action.Action.{Action}
use Rattle.sv_world.specs.Control.{chain_length, needed_for}
use Rattle.sv_world.proofs.Influences.{needed-chain}
use Rattle.sv_wire.specs.declared.message.ObjectValue.{ObjectValue}
use Rattle.sv_journal.specs.declared.entry.Entry.{Entry}
use Rattle.sv_journal.specs.declared.entry.BriefReply.{BriefReply}
use Rattle.sv_journal.specs.declared.entry.BriefReply.TheVariants as brief
use Rattle.sv_journal.specs.History.{Authored, client_of, is_relay, new_action, outcomes_of, accepted, actions_of, commit_of}
use Rattle.sv_journal.specs.Sessions.{positions_in, sent_to}
use Rattle.sv_journal.specs.Answer.{Rules}
use Rattle.sv_journal.specs.Laws.{most_sent}
use Rattle.sv_journal.specs.Serving.{Keeping, LegalFor, IsKeeping}
use Rattle.law_system.proofs.Histories.{IsEarlier, same, after, actions-earlier, actions-count, earlier-rest, earlier-kept, kept-below}
use Rattle.law_system.proofs.Commits.{commit-grows}
use Rattle.law_system.proofs.Replies.{new_of, new-submit, old-submit, new-poll, TellsFor, IsRelayReply, served-tells}
use Rattle.law_system.proofs.Lawful.{relayed-actions, IsLegalRelay, legal-relay, legal-seen}

-- Each position was accepted at an entry, with a chain that is not over the bound.
pub record IsAcceptedAt (K : Keeping) (r : Rules) (g : List Entry) (i : ℕ) : Type 0 where
  pub entry : Entry
  pub before : List Entry
  pub earlier : IsEarlier (entry ∷ before) g
  pub action : Action
  pub place : i ≡ suc (length (actions_of before))
  pub actions : actions_of (entry ∷ before) ≡ actions_of before ++ action ∷ []
  pub chain : nat_lt r.bound (chain_length (actions_of before) (commit_of (K.kept before)) action) ≡ false

accepted-later : (K : Keeping) (keeps : IsKeeping K) (r : Rules) (e : Entry) (g : List Entry) (i : ℕ) → IsAcceptedAt K r g i → IsAcceptedAt K r (e ∷ g) i
accepted-later K keeps r e g i a = record {
  entry = a.entry;
  before = a.before;
  earlier = after e a.earlier;
  action = a.action;
  place = a.place;
  actions = a.actions;
  chain = a.chain;
}

not-relay : (e : Entry) (h : List Entry) (reply : BriefReply) → is_relay reply ≡ false →
    length (accepted h ++ (if is_relay reply then new_action (client_of h e.session) (λ k. suc (length (outcomes_of h k))) e.request else [])) ≡ length (accepted h)
not-relay e h reply f =
    let new = new_action (client_of h e.session) (λ k. suc (length (outcomes_of h k))) e.request in
    ap (λ (l : List Authored). length (accepted h ++ l)) (cond-false (is_relay reply) new [] f) ∙ ap length (append-nil (accepted h))

accepted-here : (K : Keeping) (keeps : IsKeeping K) (r : Rules) (e : Entry) (h : List Entry) (i : ℕ) → LegalFor K r (e ∷ h) → length (accepted h) < i → i ≤ length (accepted (e ∷ h)) → (reply : BriefReply) → e.reply ≡ reply → IsAcceptedAt K r (e ∷ h) i
accepted-here K keeps r e h i l low high (brief.Relay seq commit head positions) is =
    let t : IsRelayReply K r h e.session e.request commit head positions = subst (λ (reply : BriefReply). TellsFor K r h e.session e.request reply) is (served-tells K keeps r e h l) in
    let acts : actions_of (e ∷ h) ≡ actions_of h ++ new_of h e.session e.request = relayed-actions e h seq commit head positions is in
    let before : length (actions_of h) ≡ length (accepted h) = actions-count h in
    let now : length (actions_of (e ∷ h)) ≡ length (accepted (e ∷ h)) = actions-count (e ∷ h) in
    let none : new_of h e.session e.request ≡ [] → ⊥ =
    λ (n : new_of h e.session e.request ≡ []). (let c : length (actions_of (e ∷ h)) ≡ length (actions_of h) = ap length (acts ∙ ap (λ (x : List Action). actions_of h ++ x) n ∙ append-nil (actions_of h)) in absurd (omega arith)) in
    elim t.kind [
      | inr p ↦ absurd (none (ap (new_of h e.session) p.0 ∙ new-poll h e.session t.client t.joined))
      | inl p ↦ elim p.1.1.1 [
        | inl kept ↦ absurd (none (ap (new_of h e.session) p.1.1.0 ∙ old-submit h e.session t.client p.0 p.1.0 t.joined (kept-below h t.client p.0 t.target kept)))
        | inr fresh ↦
            (let one : new_of h e.session e.request ≡ p.1.0 ∷ [] = ap (new_of h e.session) p.1.1.0 ∙ new-submit h e.session t.client p.0 p.1.0 t.joined fresh.0 in
            let more : actions_of (e ∷ h) ≡ actions_of h ++ p.1.0 ∷ [] = acts ∙ ap (λ (x : List Action). actions_of h ++ x) one in
            let size : length (actions_of (e ∷ h)) ≡ length (actions_of h) + 1 = ap length more ∙ length-append (actions_of h) (p.1.0 ∷ []) in
            record {
              entry = e;
              before = h;
              earlier = same;
              action = p.1.0;
              place = omega arith;
              actions = more;
              chain = fresh.1.1;
            })
      ]
    ]
accepted-here K keeps r e h i l low high (brief.Welcome commit head) is = (let n : length (accepted (e ∷ h)) ≡ length (accepted h) = not-relay e h e.reply (ap is_relay is) in absurd (omega arith))
accepted-here K keeps r e h i l low high (brief.Dropped seq chain far) is = (let n : length (accepted (e ∷ h)) ≡ length (accepted h) = not-relay e h e.reply (ap is_relay is) in absurd (omega arith))
accepted-here K keeps r e h i l low high (brief.Denied seq object) is = (let n : length (accepted (e ∷ h)) ≡ length (accepted h) = not-relay e h e.reply (ap is_relay is) in absurd (omega arith))
accepted-here K keeps r e h i l low high (brief.Seen last commit head positions) is = (let n : length (accepted (e ∷ h)) ≡ length (accepted h) = not-relay e h e.reply (ap is_relay is) in absurd (omega arith))
accepted-here K keeps r e h i l low high (brief.Settled seq pos) is = (let n : length (accepted (e ∷ h)) ≡ length (accepted h) = not-relay e h e.reply (ap is_relay is) in absurd (omega arith))
accepted-here K keeps r e h i l low high (brief.Noted commit) is = (let n : length (accepted (e ∷ h)) ≡ length (accepted h) = not-relay e h e.reply (ap is_relay is) in absurd (omega arith))
accepted-here K keeps r e h i l low high brief.Idle is = (let n : length (accepted (e ∷ h)) ≡ length (accepted h) = not-relay e h e.reply (ap is_relay is) in absurd (omega arith))
accepted-here K keeps r e h i l low high (brief.Refused code detail) is = (let n : length (accepted (e ∷ h)) ≡ length (accepted h) = not-relay e h e.reply (ap is_relay is) in absurd (omega arith))
accepted-here K keeps r e h i l low high brief.Bye is = (let n : length (accepted (e ∷ h)) ≡ length (accepted h) = not-relay e h e.reply (ap is_relay is) in absurd (omega arith))

pub accepted-at : (K : Keeping) (keeps : IsKeeping K) (r : Rules) (h : List Entry) → LegalFor K r h → (i : ℕ) → 0 < i → i ≤ length (accepted h) → IsAcceptedAt K r h i
accepted-at K keeps r [] l i low high = absurd (omega arith)
accepted-at K keeps r (e ∷ h) l i low high =
    let before = accepted-at K keeps r h l.1 i low in
    elim (cases_lt (length (accepted h)) i) [
      | inr c ↦ accepted-later K keeps r e h i (before c)
      | inl c ↦ accepted-here K keeps r e h i l c high e.reply refl
    ]

pub earlier-inner : (e d : Entry) (h g : List Entry) → IsEarlier (e ∷ h) (d ∷ g) → IsEarlier h g
earlier-inner e d h g same = same
earlier-inner e d h g (after c b) = earlier-rest h e g b

relay-small : (K : Keeping) (keeps : IsKeeping K) (r : Rules) (e : Entry) (h : List Entry) (commit : ℕ) (head : List ObjectValue) (positions : List ℕ) → LegalFor K r (e ∷ h) → IsLegalRelay K r e h commit head positions → length positions ≤ r.bound + 1
relay-small K keeps r e h commit head positions l t =
    let above : commit_of (K.kept h) < t.target = t.above in
    let a = accepted-at K keeps r (e ∷ h) l t.target (omega arith) t.accepted_to in
    let A = actions_of a.before in
    let place : t.target ≡ suc (length A) = a.place in
    let p = actions-earlier (a.entry ∷ a.before) (e ∷ h) a.earlier in
    let acts : actions_of (e ∷ h) ≡ A ++ a.action ∷ p.0 = p.1 ∙ ap (λ (x : List Action). x ++ p.0) a.actions ∙ append_assoc A (a.action ∷ []) p.0 in
    let same_positions : positions ≡ needed_for (A ++ a.action ∷ p.0) (commit_of (K.kept h)) (sent_to h e.session) (suc (length A)) =
    t.positions_are ∙ ap₂ (λ (x : List Action) (n : ℕ). needed_for x (commit_of (K.kept h)) (sent_to h e.session) n) acts place in
    let small : length (needed_for (A ++ a.action ∷ p.0) (commit_of (K.kept h)) (sent_to h e.session) (suc (length A))) ≤ suc (chain_length A (commit_of (K.kept a.before)) a.action) =
    needed-chain A p.0 (commit_of (K.kept a.before)) (commit_of (K.kept h)) a.action (sent_to h e.session) (commit-grows (K.kept a.before) (K.kept h) (earlier-kept K keeps a.before h (earlier-inner a.entry e a.before h a.earlier))) (omega arith) in
    let chain : chain_length A (commit_of (K.kept a.before)) a.action ≤ r.bound = ltb-false r.bound (chain_length A (commit_of (K.kept a.before)) a.action) a.chain in
    let len : length positions ≡ length (needed_for (A ++ a.action ∷ p.0) (commit_of (K.kept h)) (sent_to h e.session) (suc (length A))) = ap length same_positions in
    omega arith

one-small : (K : Keeping) (keeps : IsKeeping K) (r : Rules) (e : Entry) (h : List Entry) → LegalFor K r (e ∷ h) → (reply : BriefReply) → e.reply ≡ reply → length (positions_in reply) ≤ most_sent r reply
one-small K keeps r e h l (brief.Relay seq commit head positions) is = relay-small K keeps r e h commit head positions l (legal-relay K keeps r e h seq commit head positions l is)
one-small K keeps r e h l (brief.Welcome commit head) is = omega arith
one-small K keeps r e h l (brief.Dropped seq chain far) is = omega arith
one-small K keeps r e h l (brief.Denied seq object) is = omega arith
one-small K keeps r e h l (brief.Seen last commit head positions) is = (legal-seen K keeps r e h last commit head positions l is).few
one-small K keeps r e h l (brief.Settled seq pos) is = omega arith
one-small K keeps r e h l (brief.Noted commit) is = omega arith
one-small K keeps r e h l brief.Idle is = omega arith
one-small K keeps r e h l (brief.Refused code detail) is = omega arith
one-small K keeps r e h l brief.Bye is = omega arith

pub all-small : (K : Keeping) (keeps : IsKeeping K) (r : Rules) (h : List Entry) → LegalFor K r h → AllByRecursion (λ (e : Entry). length (positions_in e.reply) ≤ most_sent r e.reply) h
all-small K keeps r [] l = tt
all-small K keeps r (e ∷ h) l = (one-small K keeps r e h l e.reply refl, all-small K keeps r h l.1)

-- So many are at most those of a report.
pub sent-of : (r : Rules) (reply : BriefReply) → r.bound ≤ 32 → most_sent r reply ≤ 33
sent-of r (brief.Seen last commit head positions) l = omega arith
sent-of r (brief.Relay seq commit head positions) l = omega arith
sent-of r (brief.Welcome commit head) l = omega arith
sent-of r (brief.Dropped seq chain far) l = omega arith
sent-of r (brief.Denied seq object) l = omega arith
sent-of r (brief.Settled seq pos) l = omega arith
sent-of r (brief.Noted commit) l = omega arith
sent-of r brief.Idle l = omega arith
sent-of r (brief.Refused code detail) l = omega arith
sent-of r brief.Bye l = omega arith

-- Where the bound is at most 32, no reply has more items than a report may have results.
pub few-sent : (K : Keeping) (keeps : IsKeeping K) (r : Rules) (e : Entry) (h : List Entry) → LegalFor K r (e ∷ h) → r.bound ≤ 32 → length (positions_in e.reply) ≤ 33
few-sent K keeps r e h l bound =
    let most : length (positions_in e.reply) ≤ most_sent r e.reply = (all-small K keeps r (e ∷ h) l).0 in
    let few = sent-of r e.reply bound in
    omega arith
